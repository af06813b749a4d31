-- What becomes of a channel (document 02, Req 08). A request is open, so that the channel is occupied, exactly if the indication's count is not 0.
use Rattle.std.specs.Prelude.{ℕ, Bool, false, cond, not, ◌&&◌, List, eqb, leb, ltb, length, replicate}
use Rattle.octets.specs.Part.{pasted}
use Rattle.channels.specs.declared.channel.Channel.{Channel}
use Rattle.channels.specs.Image.{channels, loaded, saved}

-- a request is open: the channel is occupied, and can be read
abbrev pub is_open : Channel → Bool
is_open c = not (eqb c.indication_count 0)

-- a response is kept: it was given for the newest request, whether its reply ended since or not
abbrev pub is_given : Channel → Bool
is_given c = not (eqb c.response_count 0)

-- it takes a response of k octets: "one response, a slice of 1 octet up to its buffer", where a request is open and none was given
abbrev pub takes_response : Channel → ℕ → Bool
takes_response c k = is_open c && not (is_given c) && not (eqb k 0) && leb k c.response_len

-- a channel with these counts
abbrev pub counted : Channel → ℕ → ℕ → Channel
counted c indication response =
    record {
      indication_len = c.indication_len;
      response_len = c.response_len;
      indication_count = indication;
      response_count = response;
    }

-- a request of so many octets "fills a free indication buffer"; no response stands
abbrev pub filled : Channel → ℕ → Channel
filled c count = counted c count 0

-- a response of so many octets is given
abbrev pub responded : Channel → ℕ → Channel
responded c count = counted c c.indication_count count

-- the end of the response's reply "frees both buffers"; the response is kept for a repeat of the poll
abbrev pub freed : Channel → Channel
freed c = counted c 0 c.response_count

-- what a channel is whose number is above 15
abbrev pub no_channel : Channel
no_channel = record { indication_len = 0; response_len = 0; indication_count = 0; response_count = 0 }

-- channel n of a memory, where there is one of that number
unfoldable pub channel_in : List ℕ → ℕ → Channel
channel_in m n = cond (ltb n channels) (loaded m n) no_channel

-- there is a channel of that number, and it is set up
unfoldable pub is_set_up : List ℕ → ℕ → Bool
is_set_up m n = cond (ltb n channels) (not (eqb (loaded m n).indication_len 0)) false

-- channel n is filled by a request of so many octets, which stand in its buffer
unfoldable pub filled_in : List ℕ → ℕ → ℕ → List ℕ
filled_in m n count = cond (ltb n channels) (saved m n (filled (loaded m n) count)) m

-- channel n is freed
unfoldable pub freed_in : List ℕ → ℕ → List ℕ
freed_in m n = cond (ltb n channels) (saved m n (freed (loaded m n))) m

-- a response is written to its place and channel n counts it
unfoldable pub responded_in : List ℕ → ℕ → ℕ → List ℕ → List ℕ
responded_in m n at xs = saved (pasted m at xs) n (responded (loaded m n) (length xs))

-- the rows of the counts lie side by side: where they begin
abbrev pub counts_at : ℕ
counts_at = 160

-- how many octets they have together
abbrev pub counts_length : ℕ
counts_length = 32

-- "WAIT_PRM empties all channels": no count is left
unfoldable pub emptied : List ℕ → List ℕ
emptied m = pasted m counts_at (replicate counts_length 0)
