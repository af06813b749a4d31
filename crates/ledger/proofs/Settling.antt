-- What settling leaves as it was, and what it does to the outputs.
use mathlib.Core.Path.{◌≡◌, refl}
use mathlib.Core.Bool.{Bool, true, false, cond, not, ◌&&◌}
use mathlib.Core.List.{[]}
use Rattle.rules.specs.Diagnosis.{delayed, diagnosed, caught_up}
use Rattle.rules.specs.Line.{clear_noted}
use Rattle.ledger.specs.Ledger.{Ledger, busy, diagnosis_leaves}
use Rattle.ledger.specs.Outcome.{on_outputs, carried, diagnosis_changed, after_reply, settle}

-- what a delayed diagnosis leaves as it was, settling does too
module _ {A : Type 0} (F : Ledger → A) where
  reply_keeps : (l : Ledger) → F (diagnosis_changed l (caught_up l.control)) ≡ F l → F (after_reply l) ≡ F l
  unfolding after_reply
  reply_keeps l e = go (delayed l.control && not (diagnosis_leaves l))
    where
      go : (t : Bool) → F (cond t (diagnosis_changed l (caught_up l.control)) l) ≡ F l
      go true = e
      go false = refl

pub settle_setup : (l : Ledger) → (settle l).setup ≡ l.setup
unfolding settle
settle_setup l = reply_keeps (λ m. m.setup) l refl

pub settle_slice : (l : Ledger) → (settle l).slice ≡ l.slice
unfolding settle
settle_slice l = reply_keeps (λ m. m.slice) l refl

pub settle_line : (l : Ledger) → (settle l).line ≡ l.line
unfolding settle
settle_line l = reply_keeps (λ m. m.line) l refl

-- what becomes of the outputs by settling: zeros where a noted clear is carried out
pub settle_outputs : (l : Ledger)
    → (settle l).buffers.outputs ≡ on_outputs (clear_noted (busy l) l.control).outputs l.buffers.outputs l.setup.output_len []
unfolding settle after_reply diagnosed
settle_outputs l = go (delayed l.control && not (diagnosis_leaves l)) (l.control.noted && not (busy l)) refl
  where
    go : (t p : Bool) → l.control.noted && not (busy l) ≡ p
        → (carried (cond t (diagnosis_changed l (caught_up l.control)) l) (clear_noted (busy l) (cond t (diagnosis_changed l (caught_up l.control)) l).control) []).buffers.outputs
        ≡ on_outputs (clear_noted (busy l) l.control).outputs l.buffers.outputs l.setup.output_len []
    go true true e = rw e
    go true false e = rw e
    go false p e = refl
