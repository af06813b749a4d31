-- Settling keeps the relation: a delayed diagnosis takes effect on both sides, and so does a noted clear.
use Prim.Native.Nat.{ℕ}
use mathlib.Core.Path.{◌≡◌, refl, sym, ap, ◌∙◌, subst}
use mathlib.Core.Bool.{false, not, ◌&&◌}
use mathlib.Core.List.{List}
use borrow.Author.Tests.{not-true}
use Rattle.telegram.specs.Sending.{left}
use Rattle.telegram.proofs.Run.{no_true}
use Rattle.state.proofs.Choice.{both, by_test, and_right, or_right}
use Rattle.state.specs.declared.state.State.{State}
use Rattle.rules.specs.Diagnosis.{delayed, caught_up}
use Rattle.rules.specs.Line.{clear_noted}
use Rattle.ledger.specs.Ledger as ledger
use Rattle.ledger.specs.Ledger.{Ledger}
use Rattle.ledger.specs.Outcome as ledger-outcome
use Rattle.steps.specs.Line.{begun, busy, diagnosis_leaves}
use Rattle.steps.specs.Outcome.{diagnosis_changed, after_reply, settle}
use Rattle.agreement.proofs.Relation.{Agrees}
use Rattle.agreement.proofs.SameLine.{busy_agrees, leaves_agrees}
use Rattle.rules.proofs.Served.{clear_noted_quiet}
use Rattle.agreement.proofs.OutcomeCarried.{Spared, quiet_agrees}
use Rattle.agreement.proofs.OnePartChanges.{diagnosis_changed_lem}

-- on an idle line no reply leaves
pub idle_spared : (s : State) → busy s ≡ false → Spared s.reply
idle_spared s e w h = no_true (sym (or_right (begun s) (left s.reply.sender) e) ∙ h)

-- a diagnosis that takes effect leaves the reply as it was
pub after_reply_keeps : (s : State) → (after_reply s).reply ≡ s.reply
unfolding after_reply
after_reply_keeps s =
    by_test (λ (x : State). x.reply ≡ s.reply) (delayed s.control && not (diagnosis_leaves s)) (diagnosis_changed s (caught_up s.control)) s
    (λ _. refl) (λ _. refl)

module _ {s : State} {m : List ℕ} {l : Ledger} (a : Agrees s m l) where
  pub after_reply_agrees : Agrees (after_reply s) m (ledger-outcome.after_reply l)
  unfolding after_reply ledger-outcome.after_reply
  after_reply_agrees =
      both (λ x y. Agrees x m y) (delayed s.control && not (diagnosis_leaves s)) (delayed l.control && not (ledger.diagnosis_leaves l))
      (diagnosis_changed s (caught_up s.control)) s (ledger-outcome.diagnosis_changed l (caught_up l.control)) l
      (λ i. delayed (a.control i) && not (leaves_agrees a i))
      (λ e. diagnosis_changed_lem a (caught_up s.control) (caught_up l.control) (ap caught_up a.control)
      (not-true (diagnosis_leaves s) (and_right (delayed s.control) (not (diagnosis_leaves s)) e)))
      (λ _. a)

  pub settle_agrees : Agrees (settle s m).state (settle s m).memory (ledger-outcome.settle l)
  unfolding settle ledger-outcome.settle
  settle_agrees =
      quiet_agrees after_reply_agrees
      (clear_noted_quiet (after_reply s).setup (after_reply s).control (busy s) (λ e. subst Spared (sym (after_reply_keeps s)) (idle_spared s e)))
      (clear_noted (ledger.busy l) (ledger-outcome.after_reply l).control) (λ i. clear_noted (busy_agrees a i) (after_reply_agrees.control i))
