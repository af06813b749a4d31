-- The calls of the vat program over the memory, with the parts of the state as the code read them and wrote them again.
use Rattle.std.specs.Prelude.{Ok}
use Rattle.std.specs.Int.{from_bool}
use Rattle.std.proofs.Common.{◌≡◌, ℕ, ◌+◌, ◌<◌, Bool, true, false, cond, not, ◌&&◌, eqb, leb, List, length, sym, refl, ap, ◌∙◌}
use Rattle.state.specs.declared.control.Control.{Control}
use Rattle.state.specs.declared.setup.Setup.{Setup}
use Rattle.state.specs.declared.state.Sets.{Sets}
use Rattle.state.specs.declared.state.State.{State}
use Rattle.state.specs.Answer.{Meets}
use Rattle.state.specs.Memory.{kept}
use Rattle.state.specs.Well.{within}
use Rattle.state.specs.With.{with_control, with_control_but_chain}
use Rattle.rules.specs.declared.outcome.Outcome.{Outcome}
use Rattle.rules.specs.Control.{with_chain}
use Rattle.rules.specs.Diagnosis.{delayed, diagnosed, delaying}
use Rattle.rules.specs.Kinds.{in_range}
use Rattle.rules.specs.Line.{clear_on}
use Rattle.rules.specs.User.{judged_parameters, judged_configuration}
use Rattle.rules.specs.Retries.{on_chain}
use Rattle.rules.proofs.Served.{Quiet, clear_quiet, parameters_quiet, configuration_quiet, chain_stays}
use Rattle.steps.specs.Safe.{Safe}
use Rattle.steps.specs.Stepped.{packed_after, told, told_of}
use Rattle.steps.specs.Line.{busy, diagnosis_leaves}
use Rattle.steps.specs.Outcome.{is_open, diagnosis_changed, carried}
use Rattle.steps.specs.Step.{packed}
use Rattle.steps.specs.User.{kind_at, new_diagnosis, judge_parameters, judge_configuration, leave_master}
use Rattle.station.proofs.KindsInMemory.{reached}

-- a flag as a number
flag : (b : Bool) → from_bool b ≡ cond b 1 0
flag true = refl
flag false = refl

module _ (s : State) (m : List ℕ) where
  module _ {control : Control} (same : control ≡ s.control) where
    -- ---- new diagnosis

    -- it is in range, and none is delayed
    module _ {setup : Setup} (same-setup : setup ≡ s.setup) {most : ℕ} (same-most : most ≡ setup.diagnosis_len) (count flags : ℕ)
        (ranged : not (within 6 count most && leb flags 7) ≡ false)
        {waits : Bool} (tested : waits ≡ delayed control) (none : waits ≡ false)
        {leaves : Bool} (leaving : leaves ≡ diagnosis_leaves s) where
      -- so it is given
      given : {t : Bool} → leaves ≡ t
          → new_diagnosis s m count flags
          ≡ cond t (told 0 (with_control s (delaying s.control count flags)) m)
          (told 0 (diagnosis_changed s (diagnosed s.control count flags)) m)
      unfolding new_diagnosis
      given e =
          let in_range_lem : not (within 6 count s.setup.diagnosis_len && leb flags 7) ≡ false =
          (λ i. not (within 6 count (sym (same-most ∙ (λ j. (same-setup j).diagnosis_len)) i) && leb flags 7)) ∙ ranged
          in
          rw (in_range_lem, sym (tested ∙ ap delayed same) ∙ none, sym leaving ∙ e)

      -- it waits while a Slave_Diag reply is unfinished
      pub delays_diagnosis : leaves ≡ true → {new : Control} {n : List ℕ} → new ≡ delaying control count flags → n ≡ kept (with_control_but_chain s new) m
          → Meets (packed m (new_diagnosis s m count flags)) (Ok 0) n
      unfolding delaying
      delays_diagnosis e f g =
          rw (given e)
          (record { answers = refl; leaves = g ∙ (λ i. kept (with_control_but_chain s ((f ∙ (λ j. delaying (same j) count flags)) i)) m) })

      -- else it takes effect
      pub changes_diagnosis : leaves ≡ false → {new : Control} {n : List ℕ} → new ≡ diagnosed control count flags → n ≡ kept (diagnosis_changed s (with_chain new s.control.chain)) m
          → Meets (packed m (new_diagnosis s m count flags)) (Ok 0) n
      unfolding diagnosed
      changes_diagnosis e f g =
          rw (given e)
          (record {
            answers = refl;
            leaves = g ∙ (λ i. kept (diagnosis_changed s (with_chain ((f ∙ (λ j. diagnosed (same j) count flags)) i) s.control.chain)) m);
          })

    -- ---- an outcome carried out

    module _ {o : Outcome} {n : List ℕ} (left : n ≡ packed_after (carried s m (on_chain o s.control.chain) 0)) where
      -- the outcome p, which leaves the chain, and j is told
      tells_carried : (j : ℕ) (p : Outcome) {k : ℕ} → k ≡ j → o ≡ p → Quiet s.setup s.control Unit p
          → Meets (packed m (told_of j (carried s m p 0))) (Ok k) n
      tells_carried j p e f q =
          record {
            answers = ap Ok e;
            leaves = left ∙ ap (λ (x : Outcome). packed_after (carried s m x 0)) (ap (λ (x : Outcome). on_chain x s.control.chain) f ∙ chain_stays q);
          }

      -- leave master
      pub leaves_master : {b : Bool} → b ≡ busy s → o ≡ clear_on b control → Meets (packed m (leave_master s m)) (Ok 0) n
      unfolding leave_master
      leaves_master e f =
          tells_carried 0 _ refl (f ∙ (λ i. clear_on (e i) (same i))) (clear_quiet s.setup s.control (busy s) (λ _. tt))

      -- a set that is open is judged
      module _ (j : ℕ) {good : Bool} (known : (leb j 1 ≡ true) × (good ≡ eqb j 1)) {sets : Sets} {b : Bool} (tested : b ≡ is_open sets)
          {k : ℕ} (tells : k ≡ from_bool sets.set.fresh) where
        pub judges_parameters : sets ≡ s.parameters → not b ≡ false → o ≡ judged_parameters control sets.set.fresh good
            → Meets (packed m (judge_parameters s m j)) (Ok k) n
        unfolding judge_parameters
        judges_parameters e f g =
            rw (ap not (sym (tested ∙ ap is_open e)) ∙ f, known.0)
            (tells_carried _ _ (tells ∙ flag sets.set.fresh ∙ (λ i. cond (e i).set.fresh 1 0))
            (g ∙ (λ i. judged_parameters (same i) (e i).set.fresh (known.1 i)))
            (parameters_quiet s.setup s.control s.parameters.set.fresh (eqb j 1) tt))

        -- configuration not before good parameters
        pub judges_configuration : sets ≡ s.configuration → not (b && control.flags.parameters_good) ≡ false
            → o ≡ judged_configuration control sets.set.fresh good → Meets (packed m (judge_configuration s m j)) (Ok k) n
        unfolding judge_configuration
        judges_configuration e f g =
            let open-good : not (is_open s.configuration && s.control.flags.parameters_good) ≡ false =
            (λ i. not (sym (tested ∙ ap is_open e) i && (sym same i).flags.parameters_good)) ∙ f
            in
            rw (open-good, known.0)
            (tells_carried _ _ (tells ∙ flag sets.set.fresh ∙ (λ i. cond (e i).set.fresh 1 0))
            (g ∙ (λ i. judged_configuration (same i) (e i).set.fresh (known.1 i)))
            (configuration_quiet s.setup s.control s.configuration.set.fresh (eqb j 1) tt))

-- ---- read and write an octet

-- one in range lies in the memory, by the setup that the code read and the number of the kind that it found
pub lies : (s : State) (m : List ℕ) (kind index : ℕ) {setup : Setup} → setup ≡ s.setup → {k : ℕ} → (k ≡ kind) × (in_range setup kind index ≡ true)
    → Safe s m → {at : ℕ} → at ≡ kind_at s k → at + index < length m
lies s m kind index same found safe e = rw (e ∙ ap (kind_at s) found.0) (reached s m kind index safe ((λ i. in_range (sym same i) kind index) ∙ found.1)).1
