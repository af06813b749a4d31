-- Where the four rows stay as they were, so do the channels and the room that they take.
use Prim.Native.Nat.{ℕ, zero, suc, ◌+◌, ◌*◌, ◌<◌}
use native.Mathlib.Omega.{arith}
use mathlib.Core.Path.{◌≡◌, refl, sym, ap, ◌∙◌}
use mathlib.Core.List.{List}
use lib.ListN.{get_or}
use Rattle.octets.specs.Part.{part, rounded_up}
use Rattle.octets.proofs.Parts.{part_at}
use Rattle.channels.specs.Image.{channels, channels_at, rows, rows_length, cell, octet_at, loaded}
use Rattle.channels.specs.Places.{Side, indication, response, Lengths, lengths_in, room_from, room_of}

-- ---- the octets of the rows

-- an octet of the memory as one of the rows
pub octet_in : (m : List ℕ) (r n : ℕ) → r < rows → n < channels → octet_at m r n ≡ get_or (part m channels_at rows_length) (channels * r + n) 0
octet_in m r n h g =
    let e : cell r n ≡ channels_at + (channels * r + n) = omega arith in
    ap (λ (j : ℕ). get_or m j 0) e ∙ sym (part_at m channels_at rows_length (channels * r + n) (omega arith))

pub octet_same : (m' m : List ℕ) → part m' channels_at rows_length ≡ part m channels_at rows_length
    → (r n : ℕ) → r < rows → n < channels → octet_at m' r n ≡ octet_at m r n
octet_same m' m e r n h g =
    octet_in m' r n h g ∙ ap (λ (l : List ℕ). get_or l (channels * r + n) 0) e ∙ sym (octet_in m r n h g)

-- so a channel is the same
pub loaded_same : (m' m : List ℕ) → part m' channels_at rows_length ≡ part m channels_at rows_length → (n : ℕ) → n < channels → loaded m' n ≡ loaded m n
unfolding loaded
loaded_same m' m e n h =
    λ i. record { indication_len = row 0 (omega arith) i; response_len = row 1 (omega arith) i; indication_count = row 2 (omega arith) i; response_count = row 3 (omega arith) i }
  where
    row : (r : ℕ) → r < rows → octet_at m' r n ≡ octet_at m r n
    row r g = octet_same m' m e r n g h

-- ---- the room that the lengths take

room_from_by : (z y : Lengths) (k : ℕ) → ((n : ℕ) → n < k → (s : Side) → z n s ≡ y n s) → room_from z 0 k ≡ room_from y 0 k
unfolding room_from
room_from_by z y zero h = refl
room_from_by z y (suc k) h =
    λ i. room_from_by z y k (λ n g s. h n (omega arith) s) i + (rounded_up (h (0 + k) (omega arith) indication i) + rounded_up (h (0 + k) (omega arith) response i))

-- equal lengths take the same room
pub room_by : (z y : Lengths) → ((n : ℕ) → n < channels → (s : Side) → z n s ≡ y n s) → room_of z ≡ room_of y
room_by z y h = room_from_by z y channels h

-- and so does what stands in the rows
pub room_same : (m' m : List ℕ) → part m' channels_at rows_length ≡ part m channels_at rows_length → room_of (lengths_in m') ≡ room_of (lengths_in m)
room_same m' m e = room_by (lengths_in m') (lengths_in m) same
  where
    same : (n : ℕ) → n < channels → (s : Side) → lengths_in m' n s ≡ lengths_in m n s
    same n h indication = octet_same m' m e 0 n (omega arith) h
    same n h response = octet_same m' m e 1 n (omega arith) h
