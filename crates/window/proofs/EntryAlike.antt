-- An entry answers over the memory what it answers on the ledger that the memory's state is about, and both are alike again.
use Prim.Native.Nat.{ℕ}
use mathlib.Core.Path.{◌≡◌, refl, sym, ap, subst, ◌∙◌}
use mathlib.Core.List.{List}
use Rattle.state.specs.declared.control.Control.{Control}
use Rattle.state.specs.Answer.{Called}
use Rattle.state.specs.Unpack.{unpacked}
use Rattle.ledger.specs.Ledger.{Ledger}
use Rattle.agreement.proofs.Agreement.{Ready, Alike, ready_well, ready_control, step_alike}
use Rattle.window.specs.Entries.{Entry}
use Rattle.window.specs.Table.{cut_to, Behind, calls, nothing, no_cell, behind}
use Rattle.window.specs.Calls.{made, entered}
use Rattle.window.specs.Translation.{step_by, step}
use Rattle.window.proofs.Entered.{entered_makes}

module _ (m : List ℕ) (l : Ledger) (r : Ready m l) where
  -- by what is behind it
  pub made_alike : (b : Behind) → Alike (made m b) (step_by l b)
  made_alike (calls c cut) = let h = step_alike m l r c in record { answers = ap (cut_to cut) h.answers; again = h.again }
  made_alike nothing = record { answers = refl; again = r }
  made_alike no_cell = record { answers = refl; again = r }

  -- which is what the ledger says
  pub entered_made : (e : Entry) → entered m e ≡ made m (behind l.control e)
  entered_made e = entered_makes m (behind (unpacked m).control e) (ready_well m l r) ∙ ap (λ (k : Control). made m (behind k e)) (ready_control m l r)

  pub entry_alike : (e : Entry) → Alike (entered m e) (step l e)
  entry_alike e = subst (λ (x : Called). Alike x (step l e)) (sym (entered_made e)) (made_alike (behind l.control e))
