-- Where no diagnosis is delayed and no clear is noted, settling changes nothing.
use Prim.Native.Nat.{ℕ}
use mathlib.Core.Path.{◌≡◌, sym, ap, ◌∙◌}
use mathlib.Core.Bool.{Bool, false, cond, not, ◌&&◌, ◌||◌}
use mathlib.Core.List.{List}
use Rattle.state.specs.declared.state.Drawn.TheVariants.{Nothing}
use Rattle.state.specs.declared.state.State.{State}
use Rattle.rules.specs.Phases.{drawing}
use Rattle.rules.specs.Diagnosis.{delayed, caught_up}
use Rattle.rules.specs.Line.{clearing, clear_noted}
use Rattle.steps.specs.Stepped.{Stepped, Steps, unchanged}
use Rattle.steps.specs.Line.{busy, diagnosis_leaves}
use Rattle.steps.specs.Outcome.{diagnosis_changed, carried, after_reply, settle}
use Rattle.state.proofs.Choice.{or_left, or_right}

module _ (s : State) (m : List ℕ) where
  prompt : delayed s.control ≡ false → after_reply s ≡ s
  unfolding after_reply
  prompt e = ap (λ (t : Bool). cond (t && not (diagnosis_leaves s)) (diagnosis_changed s (caught_up s.control)) s) e

  kept : s.control.noted ≡ false → carried s m (clear_noted (busy s) s.control) 0 ≡ unchanged s m
  unfolding carried
  kept e = ap (λ (t : Bool). carried s m (cond (t && not (busy s)) (clearing s.control) (drawing s.control Nothing)) 0) e

  pub idle : delayed s.control || s.control.noted ≡ false → settle s m ≡ unchanged s m
  unfolding settle
  idle e =
      ap (λ (x : State). carried x m (clear_noted (busy s) x.control) 0) (prompt (or_left (delayed s.control) s.control.noted e))
      ∙ kept (or_right (delayed s.control) s.control.noted e)

  -- as the code leaves it
  pub unsettled : delayed s.control || s.control.noted ≡ false → Steps (settle s m) s m
  unsettled e = record { states = ap (λ (x : Stepped). x.state) (sym (idle e)); leaves = ap (λ (x : Stepped). x.memory) (sym (idle e)) }
