-- The calls of the vat program (document 01, User calls, and Numbers by who causes them).
use Rattle.std.specs.Prelude.{ℕ, Bool, cond, not, ◌&&◌, ◌||◌, List, [], eqb, leb, length, get_or, Ok, Err}
use Rattle.buffers.specs.Events.{acknowledged, pending_of}
use Rattle.state.specs.Answer.{Answer}
use Rattle.state.specs.declared.answer.Refusal.{Refusal}
use Rattle.state.specs.declared.answer.Refusal.TheVariants.{Judging, Range, Absent, Delayed}
use Rattle.state.specs.Well.{within}
use Rattle.rules.specs.Control.{with_events}
use Rattle.rules.specs.Diagnosis.{delayed, diagnosed, delaying}
use Rattle.rules.specs.Kinds.{in_range, writable}
use Rattle.rules.specs.Line.{clear_on}
use Rattle.rules.specs.User.{judged_parameters, judged_configuration}
use Rattle.ledger.specs.Lists.{some, taken_outputs, handed_over, written_input, written_diagnosis, Buffers, with_outputs, with_inputs, with_diagnoses}
use Rattle.ledger.specs.Ledger.{Ledger, with_control, with_buffers, busy, diagnosis_leaves, parameters_open, configuration_open}
use Rattle.ledger.specs.Outcome.{carried, diagnosis_changed}

-- what a call answers, and the ledger after it
pub record Told : Type 0 where
  pub answer : Answer
  pub ledger : Ledger

-- a call that answers a value
abbrev pub told : ℕ → Ledger → Told
told n l = record { answer = Ok n; ledger = l }

-- a refused call answers its number and changes nothing
abbrev pub refusing : Refusal → Ledger → Told
refusing r l = record { answer = Err r; ledger = l }

-- take outputs: 0 nothing new; 1 new; 2 new, zeros published by the station
unfoldable pub take_outputs : Ledger → Told
take_outputs l =
    cond (not l.buffers.outputs.fresh) (told 0 l)
    (told (cond l.buffers.outputs.zeros 2 1) (with_buffers l (with_outputs l.buffers (taken_outputs l.buffers.outputs))))

-- kind 2 or 3 with no set shown or at an index not below its count, kind 5 while a new diagnosis is delayed
abbrev pub absent : Ledger → ℕ → ℕ → Bool
absent l kind index =
    (eqb kind 2 && leb (length l.buffers.parameters.shown) index)
    || (eqb kind 3 && leb (length l.buffers.configuration.shown) index)
    || (eqb kind 5 && delayed l.control)

-- kinds 1 outputs, 2 parameters shown, 3 configuration shown, 4 held inputs, 5 the user's diagnosis buffer
abbrev pub octets_of_kind : Buffers → ℕ → List ℕ
octets_of_kind b kind =
    cond (eqb kind 1) b.outputs.held
    (cond (eqb kind 2) b.parameters.shown
    (cond (eqb kind 3) b.configuration.shown
    (cond (eqb kind 4) b.inputs.held
    b.diagnosis.user)))

-- reading answers the octet
unfoldable pub read_octet : Ledger → ℕ → ℕ → Told
read_octet l kind index =
    cond (not (in_range l.setup kind index)) (refusing Range l)
    (cond (absent l kind index) (refusing Absent l) (told (get_or (octets_of_kind l.buffers kind) index 0) l))

-- kinds 4 and 5 are written
abbrev pub written_octet : Buffers → ℕ → ℕ → ℕ → Buffers
written_octet b kind index x =
    cond (eqb kind 4) (with_inputs b (written_input b.inputs index x)) (with_diagnoses b (written_diagnosis b.diagnosis index x))

-- writing answers 0
unfoldable pub write_octet : Ledger → ℕ → ℕ → ℕ → Told
write_octet l kind index x =
    cond (not (writable kind && in_range l.setup kind index)) (refusing Range l)
    (cond (absent l kind index) (refusing Absent l) (told 0 (with_buffers l (written_octet l.buffers kind index x))))

-- hand over inputs
unfoldable pub hand_over : Ledger → Told
hand_over l = told 0 (with_buffers l (with_inputs l.buffers (handed_over l.buffers.inputs)))

-- new diagnosis: the two buffers change; while a Slave_Diag reply is unfinished, when that ends or is dropped
unfoldable pub new_diagnosis : Ledger → ℕ → ℕ → Told
new_diagnosis l count flags =
    cond (not (within 6 count l.setup.diagnosis_len && leb flags 7)) (refusing Range l)
    (cond (delayed l.control) (refusing Delayed l)
    (cond (diagnosis_leaves l) (told 0 (with_control l (delaying l.control count flags)))
    (told 0 (diagnosis_changed l (diagnosed l.control count flags)))))

-- judge parameters (1 good, 0 bad): 1 if a newer set waited, else 0
unfoldable pub judge_parameters : Ledger → ℕ → Told
judge_parameters l judgement =
    cond (not (parameters_open l)) (refusing Judging l)
    (cond (not (leb judgement 1)) (refusing Range l)
    (told (cond (some l.buffers.parameters.waiting) 1 0)
    (carried l (judged_parameters l.control (some l.buffers.parameters.waiting) (eqb judgement 1)) [])))

-- judge configuration: not before good parameters
unfoldable pub judge_configuration : Ledger → ℕ → Told
judge_configuration l judgement =
    cond (not (configuration_open l && l.control.flags.parameters_good)) (refusing Judging l)
    (cond (not (leb judgement 1)) (refusing Range l)
    (told (cond (some l.buffers.configuration.waiting) 1 0)
    (carried l (judged_configuration l.control (some l.buffers.configuration.waiting) (eqb judgement 1)) [])))

-- events: the 16-bit word
abbrev pub event_word : Ledger → Told
event_word l = told l.control.events.word l

-- acknowledge clears bits, never 10 or 11
unfoldable pub acknowledge_events : Ledger → ℕ → Told
acknowledge_events l mask = told 0 (with_control l (with_events l.control (acknowledged l.control.events mask)))

-- pending: the smallest number of a set event, or 16
abbrev pub pending_event : Ledger → Told
pending_event l = told (pending_of l.control.events) l

-- leave master: a clear
unfoldable pub leave_master : Ledger → Told
leave_master l = told 0 (carried l (clear_on (busy l) l.control) [])
