-- The counts of a set of parameters or of configuration keep the rules, whatever an outcome does to the set.
use Prim.Native.Nat.{ℕ, ◌≤◌}
use native.Mathlib.Omega.{arith}
use mathlib.Core.Path.{◌≡◌, refl, sym, ap}
use mathlib.Core.Bool.{not}
use mathlib.Core.Logic.{inl, inr}
use lib.Dec.{eqb}
use borrow.Author.Tests.{ne_eqb, eqb-false, not-true}
use Rattle.state.specs.declared.state.Sets.{Sets}
use Rattle.state.specs.Sound.{Within, SetsCounted}
use Rattle.state.proofs.Choice.{by_test}
use Rattle.rules.specs.declared.outcome.SetDeed.{SetDeed}
use Rattle.rules.specs.declared.outcome.SetDeed.TheVariants as set-deed
use Rattle.rules.proofs.Served.{Receives}
use Rattle.steps.specs.Outcome.{is_open, received_set, on_sets}

-- count octets came, some and not too many, where Given
module _ (lo hi : ℕ) (some : 1 ≤ lo) (Given : Type 0) (count : ℕ) (fits : Given → Within lo count hi) where
  received_counts : (x : Sets) → Given → SetsCounted lo hi x → SetsCounted lo hi (received_set x count)
  received_counts x given h =
      by_test (SetsCounted lo hi) (is_open x) _ _
      (λ e. record {
        shown = h.shown;
        waiting = inr (fits given);
        fresh = sym (ap not (ne_eqb count 0 not_none));
        behind = λ z. absurd (eqb-false x.shown 0 (not-true (eqb x.shown 0) e) z);
      })
      (λ _. record { shown = inr (fits given); waiting = h.waiting; fresh = h.fresh; behind = λ z. absurd (not_none z) })
    where
      not_none : count ≡ 0 → ⊥
      not_none e = let l = (fits given).0 in omega arith

  pub sets_counts : (d : SetDeed) (x : Sets) → Receives Given d → SetsCounted lo hi x → SetsCounted lo hi (on_sets d x count)
  sets_counts set-deed.Keep x given h = h
  sets_counts set-deed.Receive x given h = received_counts x given h
  sets_counts set-deed.Advance x given h = record { shown = h.waiting; waiting = inl refl; fresh = refl; behind = λ _. refl }
  sets_counts set-deed.Drop x given h = record { shown = inl refl; waiting = inl refl; fresh = refl; behind = λ _. refl }
