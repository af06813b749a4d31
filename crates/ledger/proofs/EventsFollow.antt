-- Events and deeds go together (specs/EventsFollow.antt): one walk over the calls for event 13 and for 11 and 10.
use Prim.Native.Nat.{ℕ}
use mathlib.Core.Path.{◌≡◌, refl, sym, ◌∙◌}
use mathlib.Core.Bool.{Bool, true, false, cond, ◌&&◌, or-false}
use mathlib.Core.List.{List, [], ◌∷◌, ◌++◌}
use lib.Dec.{eqb, leb}
use Rattle.buffers.specs.Events.{outputs_event, parameters_event, configuration_event}
use Rattle.buffers.proofs.Word.{none_bit, kept_bit, acknowledged_keeps, acknowledged_clears}
use Rattle.telegram.specs.declared.reader.Status.{Status}
use Rattle.telegram.specs.declared.reader.Status.TheVariants.{Fresh, Inside, Complete, Broken}
use Rattle.telegram.specs.Telegram.{Telegram, payload_of}
use Rattle.telegram.specs.Reading.{run, reader_after, status}
use Rattle.state.specs.declared.state.Drawn.TheVariants.{Nothing}
use Rattle.state.proofs.Choice.{and_left}
use Rattle.rules.specs.declared.outcome.Outcome.{Outcome}
use Rattle.rules.specs.Diagnosis.{delaying}
use Rattle.rules.specs.Phases.{drawing}
use Rattle.rules.specs.Line.{clearing, clear_on, ticked}
use Rattle.rules.specs.User.{judged_parameters, judged_configuration}
use Rattle.rules.proofs.Served.{clear_quiet, ticked_quiet, parameters_quiet, configuration_quiet}
use Rattle.rules.proofs.EventsFollow.{clear_follows, ticked_follows, parameters_follow, configuration_follows, telegram_follows}
use Rattle.ledger.specs.Lists.{some, written_input, written_diagnosis, with_inputs, with_diagnoses}
use Rattle.ledger.specs.Ledger.{Ledger, with_buffers, with_line, begun, busy, parameters_open, configuration_open, occupied, fresh}
use Rattle.ledger.specs.Outcome.{carried, settle}
use Rattle.ledger.specs.Bus.{telegram_on, request_by, data_by, outcome_of, answered, completed, broken_off, lengthened, beginning, send_left, silenced, heard_as, heard, paused, after_send, elapsed, gapped}
use Rattle.ledger.specs.User.{hand_over, acknowledge_events, leave_master}
use Rattle.rules.specs.Call.{Call, octet, gap, send, tick, take, read, write, hand_over_call, new_diagnosis_call, judge_parameters_call, judge_configuration_call, events, acknowledge, pending, leave}
use Rattle.ledger.specs.Calls.{step, after}
use Rattle.ledger.specs.History.{outputs_taken, deeds_by, clears, heard_deeds, deeds_of}
use Rattle.ledger.specs.EventsFollow.{EventsOpen, publishes_in, acknowledges_outputs, PublishingRaises}
use Rattle.ledger.proofs.ByCases.{take_cases, read_cases, write_cases, diagnosis_cases, parameters_cases, configuration_cases}
use Rattle.ledger.proofs.Fit.{outcome_served}
use Rattle.ledger.proofs.EventsCarried.{Open, Goes, waiting_sets, quiet, then, alike, carried_goes, quiet_goes, diagnosed_goes, settle_goes}

-- ---------------------------------------------------------------------------------------------------
-- Each call.

-- a beginning leaves the line busy
begins : (l : Ledger) (b : ℕ) → publishes_in (clears (with_line l (beginning b))) ≡ false
begins l b = go l.control.noted
  where
    go : (t : Bool) → publishes_in (deeds_by (cond (t && false) (clearing l.control) (drawing l.control Nothing)).outputs []) ≡ false
    go true = refl
    go false = refl

-- a complete telegram
completed_goes : (l : Ledger) (t : Telegram) → Goes l false (deeds_by (outcome_of l (request_by t) (payload_of t)).outputs (payload_of t)) (completed l t)
unfolding answered
completed_goes l t =
    carried_goes l (outcome_of l (request_by t) (payload_of t)) (payload_of t) (outcome_served l t).lawful
    (telegram_follows (occupied l) (waiting_sets l) l.setup l.control (request_by t) (data_by (payload_of t)))

-- an octet, by what the octets are with it
heard_goes : (l : Ledger) (b : ℕ) (s : Status) → Goes l false (heard_deeds s l b) (heard_as s l b)
heard_goes l b Fresh = quiet l
heard_goes l b Inside = go (begun l)
  where
    go : (t : Bool) → Goes l false [] (cond t (with_line l (lengthened l.line b)) (settle (with_line l (beginning b))))
    go true = quiet l
    go false =
        let m = with_line l (beginning b) in
        alike l (settle m) (clears m) [] (begins l b) (settle_goes m)
heard_goes l b Complete =
    let t = telegram_on (l.line.telegram ++ b ∷ []) in
    let m = completed l t in
    then l m (settle m) (clears m) (deeds_by (outcome_of l (request_by t) (payload_of t)).outputs (payload_of t)) (completed_goes l t) (settle_goes m)
heard_goes l b Broken = settle_goes (with_line l (broken_off l.line))

-- every call
step_goes : (l : Ledger) (c : Call) → Goes l (acknowledges_outputs c) (deeds_of l c) (step l c).ledger
unfolding heard paused after_send elapsed hand_over acknowledge_events leave_master delaying
step_goes l (octet b bad) = go l.line.ignored
  where
    s : Status
    s = status (reader_after (run l.line.telegram) b bad)

    go : (t : Bool) → Goes l false (cond t [] (heard_deeds s l b)) (cond t l (heard_as s l b))
    go true = quiet l
    go false = heard_goes l b s
step_goes l gap = settle_goes (with_line l (gapped l.line))
step_goes l send = settle_goes (with_line l (send_left l.line l.line.reply))
step_goes l tick = go l.control.noted
  where
    o : Outcome
    o = ticked (busy l) l.control

    go : (t : Bool) → Goes l false (cond t (clears (with_line l (silenced l))) (deeds_by o.outputs [])) (cond t (settle (with_line l (silenced l))) (carried l o []))
    go true = settle_goes (with_line l (silenced l))
    go false = quiet_goes l o (ticked_quiet l.setup l.control (busy l) (λ _. tt)) (ticked_follows (occupied l) (waiting_sets l) l.control (busy l))
step_goes l take = take_cases (λ t. Goes l false (outputs_taken ∷ []) t.ledger) l (λ _. quiet l) (λ _. quiet l)
step_goes l (read kind index) = read_cases (λ t. Goes l false [] t.ledger) l kind index (λ _. quiet l) (quiet l)
step_goes l (write kind index x) = write_cases (λ t. Goes l false [] t.ledger) l kind index x (λ _. quiet l) (wrote (eqb kind 4))
  where
    wrote : (t : Bool) → Goes l false [] (with_buffers l (cond t (with_inputs l.buffers (written_input l.buffers.inputs index x)) (with_diagnoses l.buffers (written_diagnosis l.buffers.diagnosis index x))))
    wrote true = quiet l
    wrote false = quiet l
step_goes l hand_over_call = quiet l
step_goes l (new_diagnosis_call count flags) =
    diagnosis_cases (λ t. Goes l false [] t.ledger) l count flags (λ _. quiet l) (λ _. quiet l) (λ _. diagnosed_goes l count flags)
step_goes l (judge_parameters_call j) =
    let waits = some l.buffers.parameters.waiting in
    parameters_cases (λ t. Goes l false (deeds_of l (judge_parameters_call j)) t.ledger) l j (λ e _. rw e (quiet l))
    (λ e. rw e
    (quiet_goes l (judged_parameters l.control waits (eqb j 1)) (parameters_quiet l.setup l.control waits (eqb j 1) tt)
    (parameters_follow (occupied l) (waiting_sets l) l.control (eqb j 1) (and_left (parameters_open l) (leb j 1) e))))
step_goes l (judge_configuration_call j) =
    let waits = some l.buffers.configuration.waiting in
    let good = l.control.flags.parameters_good in
    configuration_cases (λ t. Goes l false (deeds_of l (judge_configuration_call j)) t.ledger) l j (λ e _. rw e (quiet l))
    (λ e. rw e
    (quiet_goes l (judged_configuration l.control waits (eqb j 1)) (configuration_quiet l.setup l.control waits (eqb j 1) tt)
    (configuration_follows (occupied l) (waiting_sets l) l.control (eqb j 1)
    (and_left (configuration_open l) good (and_left (configuration_open l && good) (leb j 1) e)))))
step_goes l events = quiet l
step_goes l (acknowledge mask) =
    let e = l.control.events in (
      acknowledged_clears e mask outputs_event (kept_bit outputs_event) ∙ sym (or-false _),
      λ o. (acknowledged_keeps e mask parameters_event (kept_bit parameters_event) ∙ o.0, acknowledged_keeps e mask configuration_event (kept_bit configuration_event) ∙ o.1),
    )
step_goes l pending = quiet l
step_goes l leave =
    quiet_goes l (clear_on (busy l) l.control) (clear_quiet l.setup l.control (busy l) (λ _. tt)) (clear_follows (occupied l) (waiting_sets l) l.control (busy l))

-- ---------------------------------------------------------------------------------------------------
-- Every list.

-- a list of calls
after_open : (l : Ledger) (cs : List Call) → Open l → Open (after l cs)
after_open l [] o = o
after_open l (c ∷ cs) o = after_open (step l c).ledger cs ((step_goes l c).1 o)

-- 11 and 10, from Start on
pub events_open : EventsOpen
events_open s slice cs =
    let o = after_open (fresh s slice) cs (none_bit parameters_event, none_bit configuration_event) in
    record { parameters_shown = o.0; configuration_shown = o.1 }

-- 13, for every ledger and call
pub publishing_raises : PublishingRaises
publishing_raises l c = (step_goes l c).0
