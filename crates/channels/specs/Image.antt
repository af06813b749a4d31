-- The channels in the state part (document 02, Req 08): a row of sixteen octets for each field, channel n's at the row's place + n.
use Rattle.std.specs.Prelude.{ℕ, suc, ◌+◌, ◌*◌, List, [], ◌∷◌, get_or, set}
use Rattle.channels.specs.declared.channel.Channel.{Channel}
use Rattle.channels.specs.declared.poll.Poll.{Poll}

-- "Up to 16 channels"
abbrev pub channels : ℕ
channels = 16

-- where the first row begins
abbrev pub channels_at : ℕ
channels_at = 128

-- how many rows there are: the indications' lengths, the responses' lengths, and the counts of both
abbrev pub rows : ℕ
rows = 4

-- how many octets they have together
abbrev pub rows_length : ℕ
rows_length = 64

-- where the last row ends
abbrev pub rows_end : ℕ
rows_end = 192

-- the place of channel n's octet in row r
abbrev pub cell : ℕ → ℕ → ℕ
cell r n = channels_at + channels * r + n

-- the octet there
abbrev pub octet_at : List ℕ → ℕ → ℕ → ℕ
octet_at m r n = get_or m (cell r n) 0

-- one octet for each row
abbrev pub image_of : Channel → List ℕ
image_of c = c.indication_len ∷ c.response_len ∷ c.indication_count ∷ c.response_count ∷ []

-- channel n of a memory
unfoldable pub loaded : List ℕ → ℕ → Channel
loaded m n =
    record {
      indication_len = octet_at m 0 n;
      response_len = octet_at m 1 n;
      indication_count = octet_at m 2 n;
      response_count = octet_at m 3 n;
    }

-- octets written in column n from row r on
abbrev pub wrote : List ℕ → ℕ → ℕ → List ℕ → List ℕ
wrote m n r [] = m
wrote m n r (x ∷ xs) = wrote (set m (cell r n) x) n (suc r) xs

-- a memory with channel n written
unfoldable pub saved : List ℕ → ℕ → Channel → List ℕ
saved m n c = wrote m n 0 (image_of c)

-- where the newest poll that drew a response is to lie, once a station keeps it (no call does yet): its channel, and behind that its SSAP
abbrev pub poll_at : ℕ
poll_at = 192

-- where it ends
abbrev pub poll_end : ℕ
poll_end = 194

-- the poll of a memory
unfoldable pub poll_in : List ℕ → Poll
poll_in m = record { channel = get_or m poll_at 0; ssap = get_or m (suc poll_at) 0 }

-- a memory with the poll written
unfoldable pub poll_saved : List ℕ → Poll → List ℕ
poll_saved m p = set (set m poll_at p.channel) (suc poll_at) p.ssap

-- as Start leaves it
abbrev pub no_poll : Poll
no_poll = record { channel = 0; ssap = 0 }
