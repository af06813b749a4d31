-- The rules that a channel keeps, as facts and as a test of its octets.
use Rattle.std.specs.Prelude.{ℕ, zero, suc, ◌+◌, ◌≤◌, ◌≡◌, ◌⊎◌, Bool, true, cond, ◌&&◌, List, [], ◌∷◌, leb, eqb}
use Rattle.channels.specs.declared.channel.Channel.{Channel}
use Rattle.channels.specs.Image.{channels, octet_at}

-- "an indication and a response buffer of 4 to 240 octets"
abbrev pub Buffer : ℕ → Type 0
Buffer n = (4 ≤ n) × (n ≤ 240)

-- "both lengths of each, 0 and 0 for one not set up"
abbrev pub LengthsOk : ℕ → ℕ → Type 0
LengthsOk a b = ((a ≡ 0) × (b ≡ 0)) ⊎ (Buffer a × Buffer b)

-- what holds of every channel that is kept
pub record Sound (c : Channel) : Type 0 where
  pub lengths : LengthsOk c.indication_len c.response_len
  -- an indication and a response fit their buffers
  pub indication_fits : c.indication_count ≤ c.indication_len
  pub response_fits : c.response_count ≤ c.response_len

-- a buffer's length in its range
abbrev pub buffer_test : ℕ → Bool
buffer_test n = leb 4 n && leb n 240

-- both lengths of a channel
abbrev pub lengths_test : ℕ → ℕ → Bool
lengths_test a b = cond (eqb a 0) (eqb b 0) (buffer_test a && buffer_test b)

-- the four octets of a channel
unfoldable pub keeps : ℕ → ℕ → ℕ → ℕ → Bool
keeps a b c d = lengths_test a b && (leb c a && leb d b)

-- those of some channels, as long as all lists go
unfoldable pub all_keep : List ℕ → List ℕ → List ℕ → List ℕ → Bool
all_keep [] ws xs ys = true
all_keep (a ∷ vs) [] xs ys = true
all_keep (a ∷ vs) (b ∷ ws) [] ys = true
all_keep (a ∷ vs) (b ∷ ws) (c ∷ xs) [] = true
all_keep (a ∷ vs) (b ∷ ws) (c ∷ xs) (d ∷ ys) = keeps a b c d && all_keep vs ws xs ys

-- channel n keeps the rules
unfoldable pub well_at : List ℕ → ℕ → Bool
well_at m n = keeps (octet_at m 0 n) (octet_at m 1 n) (octet_at m 2 n) (octet_at m 3 n)

-- a test of j numbers from k on
unfoldable pub each_from : (ℕ → Bool) → ℕ → ℕ → Bool
each_from p k zero = true
each_from p k (suc j) = each_from p k j && p (k + j)

-- every channel keeps them
unfoldable pub well_channels : List ℕ → Bool
well_channels m = each_from (well_at m) 0 channels
