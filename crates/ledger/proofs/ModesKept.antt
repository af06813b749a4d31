-- Sync and freeze over whole lists of calls (specs/ModesKept.antt): what holds of the modes is carried over every call.
use Prim.Native.Nat.{ℕ}
use mathlib.Core.Path.{◌≡◌, refl}
use mathlib.Core.Bool.{not, ◌&&◌}
use mathlib.Core.List.{List, [], ◌∷◌, ◌++◌}
use lib.Dec.{eqb}
use Rattle.telegram.specs.declared.reader.Status.{Status}
use Rattle.telegram.specs.declared.reader.Status.TheVariants.{Fresh, Inside, Complete, Broken}
use Rattle.telegram.specs.Telegram.{Telegram, payload_of}
use Rattle.telegram.specs.Reading.{run, reader_after, status}
use Rattle.telegram.proofs.Run.{no_true}
use Rattle.state.proofs.Choice.{either}
use Rattle.rules.specs.declared.outcome.OutputsDeed.{OutputsDeed}
use Rattle.rules.specs.declared.outcome.OutputsDeed.TheVariants.{Keep, Publish, HoldBack, Release, Zeros}
use Rattle.rules.specs.declared.outcome.Outcome.{Outcome}
use Rattle.rules.specs.Control.{in_exchange}
use Rattle.rules.specs.Diagnosis.{delayed, diagnosed, delaying}
use Rattle.rules.specs.Line.{clear_on, clear_noted, ticked}
use Rattle.rules.specs.User.{judged_parameters, judged_configuration}
use Rattle.rules.specs.Call.{Call, octet, gap, send, tick, take, read, write, hand_over_call, new_diagnosis_call, judge_parameters_call, judge_configuration_call, events, acknowledge, pending, leave}
use Rattle.rules.proofs.ModesKept.{Kept, withheld_by, KeptBy, clear_kept, noted_kept, ticked_kept, parameters_kept, configuration_kept, telegram_kept}
use Rattle.ledger.specs.Lists.{some, Outputs, Buffers}
use Rattle.ledger.specs.Ledger.{Ledger, with_line, with_buffers, begun, busy, diagnosis_leaves, occupied, fresh}
use Rattle.ledger.specs.Outcome.{on_outputs, carried, after_reply, settle}
use Rattle.ledger.specs.Bus.{telegram_on, request_by, data_by, outcome_of, answered, completed, broken_off, beginning, send_left, silenced, heard_as, heard, paused, after_send, elapsed, gapped}
use Rattle.ledger.specs.User.{hand_over, acknowledge_events, leave_master}
use Rattle.ledger.specs.Calls.{step, after}
use Rattle.ledger.specs.ModesKept.{ModesAlways}
use Rattle.ledger.proofs.ByCases.{take_cases, read_cases, write_cases, diagnosis_cases, parameters_cases, configuration_cases}

-- what holds of the modes of a ledger
abbrev Modal : Ledger → Type 0
Modal l = Kept (in_exchange l.control) l.control.modes l.buffers.outputs.withheld

-- ---------------------------------------------------------------------------------------------------
-- The ledger after an outcome, and settled.

-- something is held back after an outcome as the rules see it
withheld_by_lem : (u : OutputsDeed) (o : Outputs) (n : ℕ) (ds : List ℕ) → (on_outputs u o n ds).withheld ≡ withheld_by u o.withheld
withheld_by_lem Keep o n ds = refl
withheld_by_lem Publish o n ds = refl
withheld_by_lem HoldBack o n ds = refl
withheld_by_lem Release o n ds = refl
withheld_by_lem Zeros o n ds = refl

-- an outcome
carried_modal : (l : Ledger) (o : Outcome) (ds : List ℕ) → KeptBy l.buffers.outputs.withheld o → Modal (carried l o ds)
carried_modal l o ds h = rw (withheld_by_lem o.outputs l.buffers.outputs l.setup.output_len ds) h

-- settling
settle_modal : (l : Ledger) → Modal l → Modal (settle l)
unfolding settle after_reply diagnosed
settle_modal l f =
    let m = after_reply l in
    carried_modal m (clear_noted (busy l) m.control) []
    (noted_kept m.control (either Modal (delayed l.control && not (diagnosis_leaves l)) f f) (busy l))

-- ---------------------------------------------------------------------------------------------------
-- Each call.

-- a complete telegram
completed_modal : (l : Ledger) (t : Telegram) → Modal l → Modal (completed l t)
unfolding answered
completed_modal l t f =
    carried_modal l (outcome_of l (request_by t) (payload_of t)) (payload_of t)
    (telegram_kept l.setup l.control (occupied l) (request_by t) (data_by (payload_of t)) f)

-- an octet, by what the octets are with it
heard_modal : (l : Ledger) (b : ℕ) (s : Status) → Modal l → Modal (heard_as s l b)
heard_modal l b Fresh f = f
heard_modal l b Inside f = either Modal (begun l) f (settle_modal (with_line l (beginning b)) f)
heard_modal l b Complete f =
    let t = telegram_on (l.line.telegram ++ b ∷ []) in
    settle_modal (completed l t) (completed_modal l t f)
heard_modal l b Broken f = settle_modal (with_line l (broken_off l.line)) f

-- every call
step_modal : (l : Ledger) (c : Call) → Modal l → Modal (step l c).ledger
unfolding heard paused after_send elapsed hand_over acknowledge_events leave_master delaying diagnosed
step_modal l (octet b bad) f = either Modal l.line.ignored f (heard_modal l b (status (reader_after (run l.line.telegram) b bad)) f)
step_modal l gap f = settle_modal (with_line l (gapped l.line)) f
step_modal l send f = settle_modal (with_line l (send_left l.line l.line.reply)) f
step_modal l tick f =
    either Modal l.control.noted (settle_modal (with_line l (silenced l)) f)
    (carried_modal l (ticked (busy l) l.control) [] (ticked_kept l.control f (busy l)))
step_modal l take f = take_cases (λ t. Modal t.ledger) l (λ _. f) (λ _. f)
step_modal l (read kind index) f = read_cases (λ t. Modal t.ledger) l kind index (λ _. f) f
step_modal l (write kind index x) f =
    write_cases (λ t. Modal t.ledger) l kind index x (λ _. f) (either (λ (b : Buffers). Modal (with_buffers l b)) (eqb kind 4) f f)
step_modal l hand_over_call f = f
step_modal l (new_diagnosis_call count flags) f = diagnosis_cases (λ t. Modal t.ledger) l count flags (λ _. f) (λ _. f) (λ _. f)
step_modal l (judge_parameters_call j) f =
    let waits = some l.buffers.parameters.waiting in
    parameters_cases (λ t. Modal t.ledger) l j (λ _ _. f)
    (λ _. carried_modal l (judged_parameters l.control waits (eqb j 1)) [] (parameters_kept l.control f waits (eqb j 1)))
step_modal l (judge_configuration_call j) f =
    let waits = some l.buffers.configuration.waiting in
    configuration_cases (λ t. Modal t.ledger) l j (λ _ _. f)
    (λ _. carried_modal l (judged_configuration l.control waits (eqb j 1)) [] (configuration_kept l.control f waits (eqb j 1)))
step_modal l events f = f
step_modal l (acknowledge mask) f = f
step_modal l pending f = f
step_modal l leave f = carried_modal l (clear_on (busy l) l.control) [] (clear_kept l.control f (busy l))

-- ---------------------------------------------------------------------------------------------------
-- Every list.

-- a list of calls
after_modal : (l : Ledger) (cs : List Call) → Modal l → Modal (after l cs)
after_modal l [] f = f
after_modal l (c ∷ cs) f = after_modal (step l c).ledger cs (step_modal l c f)

-- from Start on, where both modes are off
pub modes_always : ModesAlways
modes_always s slice cs =
    let f = after_modal (fresh s slice) cs (record {
      sync_ends = λ _. refl;
      freeze_ends = λ _. refl;
      held_back_in_sync = λ e. no_true e;
      sync_allowed = λ e. no_true e;
      freeze_allowed = λ e. no_true e;
    }) in
    record {
      sync_ends = f.sync_ends;
      freeze_ends = f.freeze_ends;
      held_back_in_sync = f.held_back_in_sync;
      sync_allowed = f.sync_allowed;
      freeze_allowed = f.freeze_allowed;
    }
