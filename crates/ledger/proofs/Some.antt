-- Lists with something in them, or nothing.
use Prim.Native.Nat.{ℕ}
use mathlib.Core.Path.{◌≡◌, refl, sym, ap, ◌∙◌}
use mathlib.Core.Bool.{true, false}
use mathlib.Core.List.{List, [], ◌∷◌}
use Rattle.telegram.proofs.Run.{no_true}
use Rattle.ledger.specs.Lists.{some}

-- a list with nothing in it
pub nothing_in : (xs : List ℕ) → some xs ≡ false → xs ≡ []
nothing_in [] e = refl
nothing_in (x ∷ xs) e = no_true (sym e)

-- one with something in it is not empty
pub something_in : {xs : List ℕ} → some xs ≡ true → xs ≡ [] → ⊥
something_in e f = no_true (sym (ap some f) ∙ e)
