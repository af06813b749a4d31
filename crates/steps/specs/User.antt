-- The calls of the vat program on the state and the memory.
use Rattle.std.specs.Prelude.{ℕ, ◌+◌, Bool, cond, not, ◌&&◌, ◌||◌, List, eqb, leb, get_or, set}
use Rattle.buffers.specs.Events.{acknowledged, pending_of}
use Rattle.buffers.specs.Roles.{held_of}
use Rattle.buffers.specs.Triple.{handed_over}
use Rattle.buffers.specs.Quad.{taken}
use Rattle.state.specs.declared.answer.Refusal.TheVariants.{Judging, Range, Absent, Delayed}
use Rattle.state.specs.declared.state.State.{State}
use Rattle.state.specs.Layout.{outputs_at, inputs_at, parameters_at, configuration_at, diagnosis_at}
use Rattle.state.specs.Well.{within}
use Rattle.rules.specs.Control.{with_events}
use Rattle.rules.specs.Diagnosis.{delayed, diagnosed, delaying}
use Rattle.rules.specs.Line.{clear_on}
use Rattle.rules.specs.User.{judged_parameters, judged_configuration}
use Rattle.rules.specs.Kinds.{in_range, writable}
use Rattle.state.specs.With.{with_control, with_outputs, with_inputs}
use Rattle.steps.specs.Stepped.{Told, told, refusing, told_of}
use Rattle.steps.specs.Line.{busy, diagnosis_leaves}
use Rattle.steps.specs.Outcome.{is_open, diagnosis_changed, carried}
use Rattle.steps.specs.Replies.{user_place}

-- take outputs: 0 nothing new; 1 new; 2 new, zeros published by the station; the last two change next and held
unfoldable pub take_outputs : State → List ℕ → Told
take_outputs s m =
    cond (not s.outputs.set.fresh) (told 0 s m)
    (told (cond s.outputs.zeros 2 1) (with_outputs s (record { set = taken s.outputs.set; zeros = s.outputs.zeros })) m)

-- kind 2 or 3 with no set shown or at an index not below its count, kind 5 while a new diagnosis is delayed
abbrev pub absent : State → ℕ → ℕ → Bool
absent s kind index =
    (eqb kind 2 && leb s.parameters.shown index)
    || (eqb kind 3 && leb s.configuration.shown index)
    || (eqb kind 5 && delayed s.control)

-- where the octets of a kind begin
abbrev pub kind_at : State → ℕ → ℕ
kind_at s kind =
    cond (eqb kind 1) (outputs_at s.setup (held_of s.outputs.set.place))
    (cond (eqb kind 2) (parameters_at s.setup (held_of s.parameters.set.place))
    (cond (eqb kind 3) (configuration_at s.setup (held_of s.configuration.set.place))
    (cond (eqb kind 4) (inputs_at s.setup (held_of s.inputs.place))
    (diagnosis_at s.setup (user_place s.swapped)))))

-- reading answers the octet
unfoldable pub read_octet : State → List ℕ → ℕ → ℕ → Told
read_octet s m kind index =
    cond (not (in_range s.setup kind index)) (refusing Range s m)
    (cond (absent s kind index) (refusing Absent s m) (told (get_or m (kind_at s kind + index) 0) s m))

-- writing answers 0
unfoldable pub write_octet : State → List ℕ → ℕ → ℕ → ℕ → Told
write_octet s m kind index x =
    cond (not (writable kind && in_range s.setup kind index)) (refusing Range s m)
    (cond (absent s kind index) (refusing Absent s m) (told 0 s (set m (kind_at s kind + index) x)))

-- hand over inputs: held and next change, next is new
unfoldable pub hand_over : State → List ℕ → Told
hand_over s m = told 0 (with_inputs s (handed_over s.inputs)) m

-- new diagnosis: the two buffers change; while a Slave_Diag reply is unfinished, when that ends or is dropped
unfoldable pub new_diagnosis : State → List ℕ → ℕ → ℕ → Told
new_diagnosis s m count flags =
    cond (not (within 6 count s.setup.diagnosis_len && leb flags 7)) (refusing Range s m)
    (cond (delayed s.control) (refusing Delayed s m)
    (cond (diagnosis_leaves s) (told 0 (with_control s (delaying s.control count flags)) m)
    (told 0 (diagnosis_changed s (diagnosed s.control count flags)) m)))

-- judge parameters (1 good, 0 bad): 1 if a newer set waited, else 0
unfoldable pub judge_parameters : State → List ℕ → ℕ → Told
judge_parameters s m judgement =
    cond (not (is_open s.parameters)) (refusing Judging s m)
    (cond (not (leb judgement 1)) (refusing Range s m)
    (told_of (cond s.parameters.set.fresh 1 0)
    (carried s m (judged_parameters s.control s.parameters.set.fresh (eqb judgement 1)) 0)))

-- judge configuration: not before good parameters
unfoldable pub judge_configuration : State → List ℕ → ℕ → Told
judge_configuration s m judgement =
    cond (not (is_open s.configuration && s.control.flags.parameters_good)) (refusing Judging s m)
    (cond (not (leb judgement 1)) (refusing Range s m)
    (told_of (cond s.configuration.set.fresh 1 0)
    (carried s m (judged_configuration s.control s.configuration.set.fresh (eqb judgement 1)) 0)))

-- events: the 16-bit word
abbrev pub event_word : State → List ℕ → Told
event_word s m = told s.control.events.word s m

-- acknowledge clears bits, never 10 or 11
unfoldable pub acknowledge_events : State → List ℕ → ℕ → Told
acknowledge_events s m mask = told 0 (with_control s (with_events s.control (acknowledged s.control.events mask))) m

-- pending: the smallest number of a set event, or 16
abbrev pub pending_event : State → List ℕ → Told
pending_event s m = told (pending_of s.control.events) s m

-- leave master: a clear
unfoldable pub leave_master : State → List ℕ → Told
leave_master s m = told_of 0 (carried s m (clear_on (busy s) s.control) 0)
