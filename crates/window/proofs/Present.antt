-- The count and flags of the diagnosis in force.
use Prim.Native.Nat.{ℕ, ◌+◌, ◌*◌, ◌≤◌}
use native.Mathlib.Omega.{arith}
use mathlib.Core.Path.{◌≡◌, refl, ap, subst, ◌∙◌}
use mathlib.Core.Bool.{Bool, true, false, not, ◌&&◌}
use mathlib.Core.List.{List}
use lib.Dec.{leb}
use Rattle.state.specs.declared.control.Control.{Control}
use Rattle.state.specs.declared.control.Flags.{Flags}
use Rattle.state.specs.Answer.{Answer, Meets}
use Rattle.state.specs.Well.{within}
use Rattle.state.proofs.Choice.{either}
use Rattle.rules.specs.Call.{Call, new_diagnosis_call}
use Rattle.rules.specs.Control.{bit}
use Rattle.rules.specs.Diagnosis.{one, present_flags, delayed, delaying, diagnosed}
use Rattle.ledger.specs.Ledger.{Ledger, diagnosis_leaves}
use Rattle.ledger.specs.User.{Told, new_diagnosis}
use Rattle.steps.specs.Step.{step_over}
use Rattle.window.specs.declared.order.Order.{Order}
use Rattle.window.specs.declared.order.Order.TheVariants.{Intel, Motorola}
use Rattle.window.specs.Order.{exchanged}
use Rattle.window.specs.Entries.{window_read}
use Rattle.window.specs.Table.{table, behind}
use Rattle.window.specs.Translation.{step}
use Rattle.window.specs.Demand1.{SamePresent}

-- a flag is at most 1
small : (b : Bool) → one b ≤ 1
small true = omega arith
small false = omega arith

-- so all three are at most 7
pub few_flags : (f : Flags) → present_flags f ≤ 7
few_flags f =
    let a = small f.ext_diag in
    let b = small f.stat_diag in
    let c = small f.overflow in
    omega arith

-- of the three flags of a new diagnosis each has its bit
flags_stay : (a b c : Bool) → (bit (one a + 2 * one b + 4 * one c) 0 ≡ a) × (bit (one a + 2 * one b + 4 * one c) 1 ≡ b) × (bit (one a + 2 * one b + 4 * one c) 2 ≡ c)
flags_stay true true true = (refl, refl, refl)
flags_stay true true false = (refl, refl, refl)
flags_stay true false true = (refl, refl, refl)
flags_stay true false false = (refl, refl, refl)
flags_stay false true true = (refl, refl, refl)
flags_stay false true false = (refl, refl, refl)
flags_stay false false true = (refl, refl, refl)
flags_stay false false false = (refl, refl, refl)

-- so a new diagnosis with the present count and flags leaves them, whatever becomes of it
module _ (l : Ledger) where
  abbrev Same : Told → Type 0
  Same t = SamePresent t.ledger.control l.control

  renewed_same : Same (new_diagnosis l l.control.diagnosis.count (present_flags l.control.flags))
  unfolding new_diagnosis delaying diagnosed
  renewed_same =
      let h = flags_stay l.control.flags.ext_diag l.control.flags.stat_diag l.control.flags.overflow in
      let same : SamePresent l.control l.control = record { count = refl; ext_diag = refl; stat_diag = refl; overflow = refl } in
      either Same (not (within 6 l.control.diagnosis.count l.setup.diagnosis_len && leb (present_flags l.control.flags) 7)) same
      (either Same (delayed l.control) same
      (either Same (diagnosis_leaves l) (record { count = refl; ext_diag = refl; stat_diag = refl; overflow = refl })
      (record { count = refl; ext_diag = h.0; stat_diag = h.1; overflow = h.2 })))

  pub present_stays : (order : Order) → SamePresent (step l (window_read order 0x0D)).ledger.control l.control
  unfolding behind table exchanged
  present_stays Intel = renewed_same
  present_stays Motorola = renewed_same

-- a new diagnosis with the count and flags that the code found
pub renews : (m : List ℕ) {a : Answer} {left : List ℕ} (c k : Control) (flags : ℕ) → c ≡ k → flags ≡ present_flags c.flags
    → Meets (step_over m (new_diagnosis_call c.diagnosis.count flags)) a left
    → Meets (step_over m (new_diagnosis_call k.diagnosis.count (present_flags k.flags))) a left
renews m {a} {left} c k flags e f =
    subst (λ (d : Call). Meets (step_over m d) a left)
    (λ i. new_diagnosis_call (e i).diagnosis.count ((f ∙ ap (λ (x : Control). present_flags x.flags) e) i))
