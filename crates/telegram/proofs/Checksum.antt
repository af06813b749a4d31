-- The running checksum over u8 is the sum modulo 256 over the list.
use Rattle.std.proofs.Common.{◌≡◌, ℕ, ◌+◌, ◌%◌, List, [], ◌∷◌, ap, ◌∙◌, add-zero, add_assoc, zero-add}
use native.Mathlib.Nat.{mod-add-mod}
use Rattle.telegram.specs.Checksum.{total, checksum, running}

running_on : (t : ℕ) (xs : List ℕ) → running (t % 256) xs ≡ (t + total xs) % 256
running_on t [] = rw (add-zero t)
running_on t (x ∷ xs) = rw (mod-add-mod t 256 x, ← add_assoc t x (total xs)) (running_on (t + x) xs)

pub running_total : (xs : List ℕ) → running 0 xs ≡ checksum xs
running_total xs = running_on 0 xs ∙ ap (λ (n : ℕ). n % 256) (zero-add (total xs))
