-- What holds of each number below k, one by one, holds of every number below k.
use Prim.Native.Nat.{ℕ, zero, suc, ◌<◌}
use native.Mathlib.Nat.{not-suc-le-zero, le_of_suc-le-suc}
use mathlib.Core.Path.{◌≡◌}
use mathlib.Core.Bool.{Bool, true, ◌&&◌}
use Rattle.std.proofs.lemmas.Bool.{and_parts}

-- P holds of 0, of 1, and so on up to k - 1
abbrev pub Each : ℕ → (ℕ → Type 0) → Type 0
Each zero P = Unit {0}
Each (suc k) P = P zero × Each k (λ n. P (suc n))

-- from each one to all
pub below : (k : ℕ) (P : ℕ → Type 0) → Each k P → (n : ℕ) → n < k → P n
below zero P e n h = absurd (not-suc-le-zero h)
below (suc k) P e zero h = e.0
below (suc k) P e (suc n) h = below k (λ m. P (suc m)) e.1 n (le_of_suc-le-suc h)

-- ---- the same where a test tells it

-- the test passes for 0, for 1, and so on up to k - 1
abbrev pub all_below : ℕ → (ℕ → Bool) → Bool
all_below zero p = true
all_below (suc k) p = p zero && all_below k (λ n. p (suc n))

-- from each one to all
pub passes_below : (k : ℕ) (p : ℕ → Bool) → all_below k p ≡ true → (n : ℕ) → n < k → p n ≡ true
passes_below zero p e n h = absurd (not-suc-le-zero h)
passes_below (suc k) p e zero h = (and_parts (p zero) (all_below k (λ n. p (suc n))) e).0
passes_below (suc k) p e (suc n) h = passes_below k (λ m. p (suc m)) (and_parts (p zero) (all_below k (λ n. p (suc n))) e).1 n (le_of_suc-le-suc h)
