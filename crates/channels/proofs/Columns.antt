-- Loading what was saved; what saving leaves as it was.
use Prim.Native.Nat.{ℕ, zero, suc, ◌+◌, ◌*◌, ◌≤◌, ◌<◌}
use native.Mathlib.Nat.{not-suc-le-zero}
use native.Mathlib.Omega.{arith}
use mathlib.Core.Path.{◌≡◌, refl, ap, ◌∙◌}
use mathlib.Core.Logic.{inr}
use mathlib.Core.List.{List, [], ◌∷◌}
use lib.ListN.{length, get_or, set, drop, length-set}
use lib.Seq.{get_or-set_same, get_or-set_other, drop-set-lt}
use Rattle.octets.specs.Part.{part}
use Rattle.octets.proofs.Parts.{part_set_outside}
use Rattle.channels.specs.declared.channel.Channel.{Channel}
use Rattle.channels.specs.Image.{channels, channels_at, rows, rows_end, cell, octet_at, image_of, loaded, wrote, saved}

-- ---- octets written in column n from row r on

-- the memory keeps its length
wrote_length : (m : List ℕ) (n r : ℕ) (xs : List ℕ) → length (wrote m n r xs) ≡ length m
wrote_length m n r [] = refl
wrote_length m n r (x ∷ xs) = wrote_length (set m (cell r n) x) n (suc r) xs ∙ length-set m (cell r n) x

-- any octet that is none of those cells
wrote_other : (m : List ℕ) (n r : ℕ) (xs : List ℕ) (j : ℕ) → ((s : ℕ) → r ≤ s → s < r + length xs → j ≡ cell s n → ⊥)
    → get_or (wrote m n r xs) j 0 ≡ get_or m j 0
wrote_other m n r [] j h = refl
wrote_other m n r (x ∷ xs) j h =
    wrote_other (set m (cell r n) x) n (suc r) xs j (λ s a b. h s (omega arith) (omega arith))
    ∙ get_or-set_other m (cell r n) j x 0 (h r (omega arith) (omega arith))

-- the cell of row r + i
wrote_row : (m : List ℕ) (n r : ℕ) (xs : List ℕ) (i s : ℕ) → r + i ≡ s → i < length xs → n < channels → channels_at + channels * (r + length xs) ≤ length m
    → get_or (wrote m n r xs) (cell s n) 0 ≡ get_or xs i 0
wrote_row m n r [] i s e h k g = absurd (not-suc-le-zero h)
wrote_row m n r (x ∷ xs) zero s e h k g =
    let f : s ≡ r = omega arith in
    wrote_other (set m (cell r n) x) n (suc r) xs (cell s n) (λ t a b q. omega arith)
    ∙ ap (λ (t : ℕ). get_or (set m (cell r n) x) (cell t n) 0) f
    ∙ get_or-set_same m (cell r n) x 0 (omega arith)
wrote_row m n r (x ∷ xs) (suc i) s e h k g =
    wrote_row (set m (cell r n) x) n (suc r) xs i s (omega arith) (omega arith) k (rw (length-set m (cell r n) x) (omega arith))

-- everything behind the rows
wrote_behind : (m : List ℕ) (n r : ℕ) (xs : List ℕ) (a : ℕ) → n < channels → channels_at + channels * (r + length xs) ≤ a → drop a (wrote m n r xs) ≡ drop a m
wrote_behind m n r [] a k h = refl
wrote_behind m n r (x ∷ xs) a k h =
    wrote_behind (set m (cell r n) x) n (suc r) xs a k (omega arith) ∙ drop-set-lt a m (cell r n) x (omega arith)

-- a part in front of them
wrote_front : (m : List ℕ) (n r : ℕ) (xs : List ℕ) (a j : ℕ) → a + j ≤ channels_at → part (wrote m n r xs) a j ≡ part m a j
wrote_front m n r [] a j h = refl
wrote_front m n r (x ∷ xs) a j h =
    wrote_front (set m (cell r n) x) n (suc r) xs a j h ∙ part_set_outside m a j (cell r n) x (inr (omega arith))

-- ---- save

-- the memory keeps its length
pub saved_length : (m : List ℕ) (n : ℕ) (c : Channel) → length (saved m n c) ≡ length m
unfolding saved
saved_length m n c = wrote_length m n 0 (image_of c)

-- loading what was saved
pub saved_loaded : (m : List ℕ) (n : ℕ) (c : Channel) → n < channels → rows_end ≤ length m → loaded (saved m n c) n ≡ c
unfolding saved loaded
saved_loaded m n c h g =
    λ i. record {
      indication_len = row 0 (omega arith) i;
      response_len = row 1 (omega arith) i;
      indication_count = row 2 (omega arith) i;
      response_count = row 3 (omega arith) i;
    }
  where
    row : (r : ℕ) → r < rows → octet_at (wrote m n 0 (image_of c)) r n ≡ get_or (image_of c) r 0
    row r l = wrote_row m n 0 (image_of c) r r (omega arith) l h (omega arith)

-- any octet but the channel's own
pub saved_octet : (m : List ℕ) (n : ℕ) (c : Channel) (j : ℕ) → ((r : ℕ) → r < rows → j ≡ cell r n → ⊥) → get_or (saved m n c) j 0 ≡ get_or m j 0
unfolding saved
saved_octet m n c j h = wrote_other m n 0 (image_of c) j (λ s a b. h s (omega arith))

-- another channel
pub saved_other : (m : List ℕ) (n k : ℕ) (c : Channel) → n < channels → k < channels → (n ≡ k → ⊥) → loaded (saved m n c) k ≡ loaded m k
unfolding loaded
saved_other m n k c h g d =
    λ i. record { indication_len = row 0 i; response_len = row 1 i; indication_count = row 2 i; response_count = row 3 i }
  where
    row : (r : ℕ) → octet_at (saved m n c) r k ≡ octet_at m r k
    row r = saved_octet m n c (cell r k) (λ s l e. d (omega arith))

-- what lies behind the rows
pub saved_behind : (m : List ℕ) (n : ℕ) (c : Channel) (a : ℕ) → n < channels → rows_end ≤ a → drop a (saved m n c) ≡ drop a m
unfolding saved
saved_behind m n c a h g = wrote_behind m n 0 (image_of c) a h g

-- and every part in front of the rows
pub saved_front : (m : List ℕ) (n : ℕ) (c : Channel) (a k : ℕ) → a + k ≤ channels_at → part (saved m n c) a k ≡ part m a k
unfolding saved
saved_front m n c a k h = wrote_front m n 0 (image_of c) a k h
