-- The user calls by cases: refused, or done. What holds of both holds of what is told.
use Prim.Native.Nat.{ℕ}
use mathlib.Core.Path.{◌≡◌, refl}
use mathlib.Core.Bool.{Bool, true, false, cond, not, ◌&&◌}
use mathlib.Core.List.{[]}
use lib.Dec.{eqb, leb}
use lib.ListN.{get_or}
use Rattle.state.specs.declared.answer.Refusal.{Refusal}
use Rattle.state.specs.declared.answer.Refusal.TheVariants.{Judging, Range, Absent, Delayed}
use Rattle.state.specs.Well.{within}
use Rattle.rules.specs.Diagnosis.{delayed, diagnosed, delaying}
use Rattle.rules.specs.User.{judged_parameters, judged_configuration}
use Rattle.ledger.specs.Lists.{some, taken_outputs, with_outputs}
use Rattle.ledger.specs.Ledger.{Ledger, with_control, with_buffers, diagnosis_leaves, parameters_open, configuration_open}
use Rattle.ledger.specs.Outcome.{carried, diagnosis_changed}
use Rattle.ledger.specs.User.{Told, told, refusing, absent, octets_of_kind, written_octet, take_outputs, read_octet, write_octet, new_diagnosis, judge_parameters, judge_configuration}
use Rattle.rules.specs.Kinds.{in_range, writable}

module _ (P : Told → Type 0) where
  -- two tests that refuse
  twice : (l : Ledger) (p q : Bool) (r s : Refusal) (done : Told)
      → (p && q ≡ false → (k : Refusal) → P (refusing k l)) → (p && q ≡ true → P done)
      → P (cond (not p) (refusing r l) (cond (not q) (refusing s l) done))
  twice l true true r s done f g = g refl
  twice l true false r s done f g = f refl s
  twice l false q r s done f g = f refl r

  -- the second test the other way round
  then : (l : Ledger) (p q : Bool) (r s : Refusal) (done : Told)
      → ((k : Refusal) → P (refusing k l)) → (p ≡ true → q ≡ false → P done)
      → P (cond (not p) (refusing r l) (cond q (refusing s l) done))
  then l true true r s done f g = f s
  then l true false r s done f g = g refl refl
  then l false q r s done f g = f r

  module _ (l : Ledger) where
    pub take_cases : (l.buffers.outputs.fresh ≡ false → P (told 0 l))
        → (l.buffers.outputs.fresh ≡ true → P (told (cond l.buffers.outputs.zeros 2 1) (with_buffers l (with_outputs l.buffers (taken_outputs l.buffers.outputs)))))
        → P (take_outputs l)
    unfolding take_outputs
    take_cases f g = go l.buffers.outputs.fresh refl
      where
        go : (t : Bool) → l.buffers.outputs.fresh ≡ t
            → P (cond (not t) (told 0 l) (told (cond l.buffers.outputs.zeros 2 1) (with_buffers l (with_outputs l.buffers (taken_outputs l.buffers.outputs)))))
        go true e = g e
        go false e = f e

    pub read_cases : (kind index : ℕ) → ((r : Refusal) → P (refusing r l)) → P (told (get_or (octets_of_kind l.buffers kind) index 0) l)
        → P (read_octet l kind index)
    unfolding read_octet
    read_cases kind index f g =
        then l (in_range l.setup kind index) (absent l kind index) Range Absent (told (get_or (octets_of_kind l.buffers kind) index 0) l) f (λ _ _. g)

    pub write_cases : (kind index x : ℕ) → ((r : Refusal) → P (refusing r l)) → P (told 0 (with_buffers l (written_octet l.buffers kind index x)))
        → P (write_octet l kind index x)
    unfolding write_octet
    write_cases kind index x f g =
        then l (writable kind && in_range l.setup kind index) (absent l kind index) Range Absent
        (told 0 (with_buffers l (written_octet l.buffers kind index x))) f (λ _ _. g)

    -- delayed, or at once
    pub diagnosis_cases : (count flags : ℕ) → ((r : Refusal) → P (refusing r l))
        → (within 6 count l.setup.diagnosis_len && leb flags 7 ≡ true → P (told 0 (with_control l (delaying l.control count flags))))
        → (within 6 count l.setup.diagnosis_len && leb flags 7 ≡ true → P (told 0 (diagnosis_changed l (diagnosed l.control count flags))))
        → P (new_diagnosis l count flags)
    unfolding new_diagnosis
    diagnosis_cases count flags f g h =
        then l (within 6 count l.setup.diagnosis_len && leb flags 7) (delayed l.control) Range Delayed
        (cond (diagnosis_leaves l) (told 0 (with_control l (delaying l.control count flags))) (told 0 (diagnosis_changed l (diagnosed l.control count flags))))
        f (λ e _. go (diagnosis_leaves l) e)
      where
        go : (t : Bool) → within 6 count l.setup.diagnosis_len && leb flags 7 ≡ true
            → P (cond t (told 0 (with_control l (delaying l.control count flags))) (told 0 (diagnosis_changed l (diagnosed l.control count flags))))
        go true e = g e
        go false e = h e

    pub parameters_cases : (j : ℕ) → (parameters_open l && leb j 1 ≡ false → (r : Refusal) → P (refusing r l))
        → (parameters_open l && leb j 1 ≡ true
        → P (told (cond (some l.buffers.parameters.waiting) 1 0)
        (carried l (judged_parameters l.control (some l.buffers.parameters.waiting) (eqb j 1)) [])))
        → P (judge_parameters l j)
    unfolding judge_parameters
    parameters_cases j f g =
        twice l (parameters_open l) (leb j 1) Judging Range
        (told (cond (some l.buffers.parameters.waiting) 1 0)
        (carried l (judged_parameters l.control (some l.buffers.parameters.waiting) (eqb j 1)) []))
        f g

    pub configuration_cases : (j : ℕ)
        → (configuration_open l && l.control.flags.parameters_good && leb j 1 ≡ false → (r : Refusal) → P (refusing r l))
        → (configuration_open l && l.control.flags.parameters_good && leb j 1 ≡ true
        → P (told (cond (some l.buffers.configuration.waiting) 1 0)
        (carried l (judged_configuration l.control (some l.buffers.configuration.waiting) (eqb j 1)) [])))
        → P (judge_configuration l j)
    unfolding judge_configuration
    configuration_cases j f g =
        twice l (configuration_open l && l.control.flags.parameters_good) (leb j 1) Judging Range
        (told (cond (some l.buffers.configuration.waiting) 1 0)
        (carried l (judged_configuration l.control (some l.buffers.configuration.waiting) (eqb j 1)) []))
        f g
