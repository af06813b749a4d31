-- Start: the lengths of the sixteen channels, of each the indication's and then the response's, become the channels.
use Rattle.std.specs.Prelude.{ℕ, zero, suc, ◌+◌, ◌*◌, ◌<◌, ◌≡◌, Bool, ◌&&◌, List, eqb, length, get_or}
use Rattle.channels.specs.declared.channel.Channel.{Channel}
use Rattle.channels.specs.Image.{channels, saved}
use Rattle.channels.specs.Rules.{LengthsOk, lengths_test, each_from}
use Rattle.channels.specs.Places.{Lengths, indication, response}

-- how many octets Start takes for them
abbrev pub length_octets : ℕ
length_octets = 32

-- the lengths among the octets that Start is given
abbrev pub lengths_given : List ℕ → Lengths
lengths_given xs n indication = get_or xs (2 * n) 0
lengths_given xs n response = get_or xs (2 * n + 1) 0

-- those of channel n are 0 and 0, or both are 4 to 240
abbrev pub pair_test : List ℕ → ℕ → Bool
pair_test xs n = lengths_test (lengths_given xs n indication) (lengths_given xs n response)

-- there are 32 octets, and every pair is so
unfoldable pub lengths_ok : List ℕ → Bool
lengths_ok xs = eqb (length xs) length_octets && each_from (pair_test xs) 0 channels

-- what that means: two octets for each of sixteen, 0 and 0 or both 4 to 240
pub record ChannelLengths (lengths : List ℕ) : Type 0 where
  pub octets : length lengths ≡ length_octets
  pub pairs : (n : ℕ) → n < channels → LengthsOk (lengths_given lengths n indication) (lengths_given lengths n response)

-- a channel with nothing in it
abbrev pub free : List ℕ → ℕ → Channel
free xs n =
    record {
      indication_len = lengths_given xs n indication;
      response_len = lengths_given xs n response;
      indication_count = 0;
      response_count = 0;
    }

-- the first k channels set up
unfoldable pub set_up : List ℕ → List ℕ → ℕ → List ℕ
set_up m xs zero = m
set_up m xs (suc k) = saved (set_up m xs k) k (free xs k)
