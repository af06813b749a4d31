-- What an access may answer on a memory that holds a state: reading a cell is refused by 6 or 9 alone, and writing to one answers 0.
use Rattle.std.specs.Prelude.{Ok}
use Prim.Native.Nat.{ℕ, ◌≤◌}
use native.Mathlib.Omega.{arith}
use mathlib.Core.Path.{◌≡◌, refl}
use mathlib.Core.Bool.{true, not, ◌&&◌}
use mathlib.Core.Logic.{inl, inr}
use mathlib.Core.List.{List}
use lib.Dec.{leb}
use borrow.Author.Tests.{le-leb}
use Rattle.state.specs.declared.state.State.{State}
use Rattle.state.specs.Memory.{Holds}
use Rattle.state.specs.Unpack.{unpacked}
use Rattle.state.proofs.Choice.{either}
use Rattle.state.proofs.Tests.{within_holds}
use Rattle.rules.specs.Diagnosis.{present_flags, delayed}
use Rattle.rules.specs.Call.{take, new_diagnosis_call, judge_parameters_call, judge_configuration_call}
use Rattle.steps.specs.Line.{diagnosis_leaves}
use Rattle.steps.specs.Outcome.{is_open}
use Rattle.steps.specs.Stepped.{Told}
use Rattle.steps.specs.Step.{packed, step_over}
use Rattle.steps.specs.User.{take_outputs, hand_over, new_diagnosis, judge_parameters, judge_configuration, acknowledge_events}
use Rattle.window.specs.Table.{row_of}
use Rattle.window.specs.Calls.{made}
use Rattle.window.specs.Demand1.{ReadAnswer}
use Rattle.window.proofs.Present.{few_flags}
use Rattle.window.proofs.Rows.{reading_cases_lem, writing_cases}

module _ (m : List ℕ) (h : Holds m (unpacked m)) where
  s : State
  s = unpacked m

  -- what a step answers over the memory
  abbrev Tells : Told → Type 0
  Tells t = ReadAnswer (packed m t).answer

  taken : ReadAnswer (step_over m take).answer
  unfolding s step_over take_outputs
  taken = either Tells (not s.outputs.set.fresh) tt tt

  renewed : ReadAnswer (step_over m (new_diagnosis_call s.control.diagnosis.count (present_flags s.control.flags))).answer
  unfolding s step_over new_diagnosis
  renewed =
      let count = s.control.diagnosis.count in
      let flags = present_flags s.control.flags in
      rw (within_holds 6 count s.setup.diagnosis_len h.sound.diagnosis_counts.count, le-leb flags 7 (few_flags s.control.flags))
      (either Tells (delayed s.control) (inr refl) (either Tells (diagnosis_leaves s) tt tt))

  judged_parameters_lem : (j : ℕ) → leb j 1 ≡ true → ReadAnswer (step_over m (judge_parameters_call j)).answer
  unfolding s step_over judge_parameters
  judged_parameters_lem j e = rw e (either Tells (not (is_open s.parameters)) (inl refl) tt)

  judged_configuration_lem : (j : ℕ) → leb j 1 ≡ true → ReadAnswer (step_over m (judge_configuration_call j)).answer
  unfolding s step_over judge_configuration
  judged_configuration_lem j e = rw e (either Tells (not (is_open s.configuration && s.control.flags.parameters_good)) (inl refl) tt)

  pub read_answers : (cell : ℕ) → cell ≤ 0x15 → ReadAnswer (made m (row_of (unpacked m).control cell).reading).answer
  unfolding s step_over hand_over
  read_answers =
      reading_cases_lem _ _ (λ n b. n ≤ 0x15 → ReadAnswer (made m b).answer) (λ n h. tt) (λ n f h. absurd (omega arith))
      (λ h. tt) (λ h. tt) (λ h. tt) (λ h. tt) (λ h. tt) (λ h. taken) (λ h. renewed)
      (λ h. judged_parameters_lem 1 refl) (λ h. judged_parameters_lem 0 refl) (λ h. judged_configuration_lem 1 refl) (λ h. judged_configuration_lem 0 refl)

  pub write_answers : (x cell : ℕ) → cell ≤ 0x15 → (made m ((row_of (unpacked m).control cell).writing x)).answer ≡ Ok 0
  unfolding s step_over acknowledge_events
  write_answers x =
      writing_cases _ _ (λ n b. n ≤ 0x15 → (made m b).answer ≡ Ok 0) (λ n h. refl) (λ n f h. absurd (omega arith)) x (λ h. refl) (λ h. refl)
