-- The buffers of channels in a memory take little room.
use Prim.Native.Nat.{ℕ, zero, suc, ◌+◌, ◌*◌, ◌≤◌, ◌<◌}
use native.Mathlib.Omega.{arith}
use mathlib.Core.List.{List}
use lib.ListN.{get_or}
use Rattle.octets.specs.Part.{rounded_up}
use Rattle.channels.specs.Image.{cell}
use Rattle.channels.specs.Places.{Side, indication, response, Lengths, lengths_in, room_from}

-- an octet rounded up
pub rounded_small : (n : ℕ) → n < 256 → rounded_up n ≤ 256
unfolding rounded_up
rounded_small n h = omega arith

-- j channels from channel k on
pub room_from_small : (z : Lengths) (k j : ℕ) → ((i : ℕ) → i < j → (s : Side) → z (k + i) s < 256) → room_from z k j ≤ 512 * j
unfolding room_from
room_from_small z k zero h = omega arith
room_from_small z k (suc j) h =
    let u = room_from_small z k j (λ i g s. h i (omega arith) s) in
    let v = rounded_small (z (k + j) indication) (h j (omega arith) indication) in
    let w = rounded_small (z (k + j) response) (h j (omega arith) response) in
    omega arith

-- those in a memory, whose lengths are octets
pub rooms_small : (m : List ℕ) (k j : ℕ) → ((i : ℕ) → get_or m i 0 < 256) → room_from (lengths_in m) k j ≤ 512 * j
rooms_small m k j small = room_from_small (lengths_in m) k j (λ i h. each (k + i))
  where
    each : (n : ℕ) (s : Side) → lengths_in m n s < 256
    each n indication = small (cell 0 n)
    each n response = small (cell 1 n)
