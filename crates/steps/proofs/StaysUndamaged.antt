-- A memory that is not damaged is never damaged by a call, which leaves everything beside the state's image and the buffers.
use Prim.Native.Nat.{ℕ, ◌-◌}
use native.Mathlib.Omega.{arith}
use mathlib.Core.Path.{◌≡◌, sym, subst, ◌∙◌}
use mathlib.Core.Logic.{inl, inr}
use mathlib.Core.List.{List}
use Rattle.state.specs.Answer.{Called}
use Rattle.state.proofs.Damage.{kept_holds}
use Rattle.state.specs.Layout.{state_length, image_length}
use Rattle.state.proofs.Front.{kept_length, kept_part}
use Rattle.state.proofs.Places.{end_behind}
use Rattle.rules.specs.Call.{Call}
use Rattle.steps.specs.Stepped.{Told}
use Rattle.steps.specs.Step.{step}
use Rattle.steps.specs.Calls.{called}
use Rattle.steps.specs.Demand1.{Undamaged, StaysUndamaged, LeavesRest, RestStays}
use Rattle.steps.proofs.Guarded.{holds_well, called_steps}
use Rattle.steps.proofs.Holding.{holds_safe, whole, step_whole}
use Rattle.steps.proofs.KeepsSetup.{channels_stay, step_keeps}
use Rattle.steps.proofs.KeepsSound.{step_sound}

module _ (m : List ℕ) (c : Call) (u : Undamaged m) where
  t : Told
  t = step u.state m c

  -- the call makes its step and packs what that leaves
  called_whole : called m c ≡ whole t
  unfolding t
  called_whole = called_steps m c (holds_well m u.state u.length_in u.holds) ∙ step_whole m u.state c u.holds

  packed : Undamaged (whole t).memory
  unfolding t
  packed =
      let keeps = step_keeps u.state m (holds_safe m u.state u.holds) c in
      let same = keeps.length_is in
      record {
        length_in = rw (kept_length t.state t.memory (rw same u.holds.long), same) u.length_in;
        state = t.state;
        holds = kept_holds t.state t.memory (step_sound u.state m c u.holds.sound) (channels_stay keeps u.holds.room);
      }

  -- beside the state's image and the buffers nothing changes
  leaves : LeavesRest m u.state (whole t).memory
  unfolding t
  leaves =
      let keeps = step_keeps u.state m (holds_safe m u.state u.holds) c in
      record {
        state_part = kept_part t.state t.memory image_length (state_length - image_length) (omega arith)
            ∙ keeps.beside_is image_length (state_length - image_length) (inl (omega arith));
        behind = λ a k h.
            let far = end_behind u.state.setup in
            kept_part t.state t.memory a k (omega arith) ∙ keeps.beside_is a k (inr h);
      }

-- every call, on every such memory
pub stays_undamaged : StaysUndamaged
stays_undamaged m c u = subst (λ (x : Called). Undamaged x.memory) (sym (called_whole m c u)) (packed m c u)

pub rest_stays : RestStays
rest_stays m c u = subst (λ (x : Called). LeavesRest m u.state x.memory) (sym (called_whole m c u)) (leaves m c u)
