-- The entries of any table by their places.
use Prim.Native.Nat.{ℕ, zero, suc, ◌+◌, ◌≤◌, ◌<◌}
use mathlib.Core.Path.{◌≡◌, refl, sym, subst, ◌∙◌}
use mathlib.Core.List.{List, [], ◌∷◌}
use native.Mathlib.Omega.{arith}
use lib.ListN.{length, get_or}
use Rattle.points.specs.declared.Point.{Point}
use Rattle.points.specs.Points.{Kth}

from_zero : (ps : List Point) (blank : Point) (n : ℕ) → n < length ps → Kth ps (suc n) (get_or ps n blank)
from_zero [] blank n h = absurd (omega arith)
from_zero (p ∷ ps) blank zero h = refl
from_zero (p ∷ ps) blank (suc n) h = from_zero ps blank n (omega arith)

-- what the code counts from 0 the document counts from 1
pub standing : (ps : List Point) (blank : Point) (n : ℕ) → n < length ps → Kth ps (n + 1) (get_or ps n blank)
standing ps blank n h =
    let e : suc n ≡ n + 1 = omega arith in
    subst (λ k. Kth ps k (get_or ps n blank)) e (from_zero ps blank n h)

-- a place has one entry
pub place_has_one : (ps : List Point) (k : ℕ) (p q : Point) → Kth ps k p → Kth ps k q → p ≡ q
place_has_one [] k p q a b = absurd a
place_has_one (r ∷ rs) zero p q a b = absurd a
place_has_one (r ∷ rs) (suc zero) p q a b = sym a ∙ b
place_has_one (r ∷ rs) (suc (suc k)) p q a b = place_has_one rs (suc k) p q a b

-- the places are 1 to the length
pub place_within : (ps : List Point) (k : ℕ) (p : Point) → Kth ps k p → k ≤ length ps
place_within [] k p a = absurd a
place_within (r ∷ rs) zero p a = absurd a
place_within (r ∷ rs) (suc zero) p a = omega arith
place_within (r ∷ rs) (suc (suc k)) p a = let h = place_within rs (suc k) p a in omega arith
