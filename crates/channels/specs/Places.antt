-- The lengths of the channels' buffers, and how much room they take, each rounded up to a multiple of 8.
use Rattle.std.specs.Prelude.{ℕ, zero, suc, ◌+◌, cond, List, Option, Some, None}
use Rattle.octets.specs.Part.{rounded_up}
use Rattle.channels.specs.Image.{channels, octet_at}
use Rattle.channels.specs.Rules.{well_at, each_from}

-- the two buffers of a channel
pub data Side : Type 0 where
  indication : Side
  response : Side

-- the lengths of all buffers
abbrev pub Lengths : Type 0
Lengths = ℕ → Side → ℕ

-- those in a memory stand in its first two rows
abbrev pub lengths_in : List ℕ → Lengths
lengths_in m n indication = octet_at m 0 n
lengths_in m n response = octet_at m 1 n

-- how much room both buffers of channel n take
abbrev pub room_at : Lengths → ℕ → ℕ
room_at z n = rounded_up (z n indication) + rounded_up (z n response)

-- how much those of j channels from channel k on take
unfoldable pub room_from : Lengths → ℕ → ℕ → ℕ
room_from z k zero = 0
room_from z k (suc j) = room_from z k j + room_at z (k + j)

-- how much all of them take
abbrev pub room_of : Lengths → ℕ
room_of z = room_from z 0 channels

-- where a buffer of channel n begins; from: where the first channel's buffers begin
abbrev pub buffer_at : Lengths → ℕ → ℕ → Side → ℕ
buffer_at z from n indication = from + room_from z 0 n
buffer_at z from n response = from + room_from z 0 n + rounded_up (z n indication)

-- what the damage check finds of j channels from channel k on: the room that they take, none where one of them breaks the rules
unfoldable pub surveyed : List ℕ → ℕ → ℕ → Option ℕ
surveyed m k j = cond (each_from (well_at m) k j) (Some (room_from (lengths_in m) k j)) None
