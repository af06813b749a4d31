-- Diag_Flag stays set by every call that completes no new request: only the owner's Slave_Diag clears it, and that is a request.
use Prim.Native.Nat.{ℕ}
use mathlib.Core.Path.{◌≡◌, refl, sym, ap, ◌∙◌}
use mathlib.Core.Bool.{Bool, true, false, not, ◌&&◌, and-true}
use mathlib.Core.List.{List, [], ◌∷◌, ◌++◌}
use lib.Dec.{eqb, leb}
use Rattle.buffers.specs.Events.{watchdog_event}
use Rattle.telegram.specs.declared.reader.Status.{Status}
use Rattle.telegram.specs.declared.reader.Status.TheVariants.{Fresh, Inside, Complete, Broken}
use Rattle.telegram.specs.Telegram.{payload_of}
use Rattle.telegram.specs.Reading.{run, reader_after, status}
use Rattle.telegram.proofs.Run.{no_true}
use Rattle.state.specs.declared.setup.Setup.{Setup}
use Rattle.state.specs.declared.control.Flags.{Flags}
use Rattle.state.specs.declared.control.Control.{Control}
use Rattle.state.proofs.Choice.{by_test, either}
use Rattle.rules.specs.declared.request.Request.{Request}
use Rattle.rules.specs.declared.request.Data.{Data}
use Rattle.rules.specs.declared.request.Occupied.{Occupied}
use Rattle.rules.specs.declared.request.Service.{Service}
use Rattle.rules.specs.declared.request.Service.TheVariants.{Nothing, Status as StatusService, Reject, GlobalControl, DataExchange, SetPrm, ChkCfg, SlaveDiag, GetCfg, ReadInputs, ReadOutputs}
use Rattle.rules.specs.declared.outcome.Outcome.{Outcome}
use Rattle.rules.specs.Call.{Call, octet, gap, send, tick, take, read, write, hand_over_call, new_diagnosis_call, judge_parameters_call, judge_configuration_call, events, acknowledge, pending, leave}
use Rattle.rules.specs.Control.{owns, raise}
use Rattle.rules.specs.Diagnosis.{delayed, diagnosed, delaying, caught_up}
use Rattle.rules.specs.Line.{clear_on, clear_noted, counts, with_remaining, ticked}
use Rattle.rules.specs.Phases.{wait_prm, data_exch}
use Rattle.rules.specs.Requests.{master_of, acts, to_station, refilled, service_of}
use Rattle.rules.specs.Retries.{is_request, is_repeat, chained, repeated}
use Rattle.rules.specs.Services.{controls, global_control, serve, served_by, outcome_by}
use Rattle.rules.specs.User.{judged_parameters, judged_configuration}
use Rattle.rules.proofs.Unasked.{Unasked, request_asked}
use Rattle.ledger.specs.Lists.{some}
use Rattle.ledger.specs.Ledger.{Ledger, with_line, begun, busy, diagnosis_leaves, occupied}
use Rattle.ledger.specs.Outcome.{diagnosis_changed, after_reply, settle}
use Rattle.ledger.specs.Bus.{telegram_on, request_by, data_by, answered, completed, broken_off, beginning, send_left, silenced, heard_as, heard, paused, after_send, elapsed, gapped}
use Rattle.ledger.specs.User.{Told, hand_over, acknowledge_events, leave_master}
use Rattle.ledger.specs.Calls.{step, after}
use Rattle.ledger.specs.Repeats.{completes_new_request, NoNewRequest}
use Rattle.ledger.proofs.ByCases.{take_cases, read_cases, write_cases, diagnosis_cases, parameters_cases, configuration_cases}
use Rattle.ledger.proofs.RequestKept.{NoneWith, heard_none}

-- Diag_Flag is set in a control part
abbrev pub FlagIn : Control → Type 0
FlagIn c = c.flags.diag_flag ≡ true

-- so it is after an outcome
abbrev FlagAfter : Outcome → Type 0
FlagAfter o = FlagIn o.control

-- in a ledger
abbrev pub Flagged : Ledger → Type 0
Flagged l = FlagIn l.control

-- and in what a call leaves
abbrev LeavesFlagged : Told → Type 0
LeavesFlagged t = Flagged t.ledger

-- ---------------------------------------------------------------------------------------------------
-- The outcomes without a telegram.

-- a clear, done or noted: WAIT_PRM clears no flag
clear_flag : (busy : Bool) (c : Control) → FlagIn c → FlagAfter (clear_on busy c)
unfolding wait_prm
clear_flag busy c f = either FlagAfter busy f f

-- a noted clear
noted_flag : (busy : Bool) (c : Control) → FlagIn c → FlagAfter (clear_noted busy c)
unfolding wait_prm
noted_flag busy c f = either FlagAfter (c.noted && not busy) f f

-- a Tick
ticked_flag : (busy : Bool) (c : Control) → FlagIn c → FlagAfter (ticked busy c)
unfolding ticked
ticked_flag busy c f =
    either FlagAfter (not (counts c)) f
    (either FlagAfter (leb c.watchdog.remaining 1) (clear_flag busy (raise (with_remaining c 0) watchdog_event) f) f)

-- the judgement of parameters
parameters_flag : (c : Control) (waits good : Bool) → FlagIn c → FlagAfter (judged_parameters c waits good)
unfolding judged_parameters wait_prm
parameters_flag c waits good f = either FlagAfter waits f (either FlagAfter good f f)

-- and of configuration
configuration_flag : (c : Control) (waits good : Bool) → FlagIn c → FlagAfter (judged_configuration c waits good)
unfolding judged_configuration wait_prm data_exch
configuration_flag c waits good f = either FlagAfter waits f (either FlagAfter good f f)

-- ---------------------------------------------------------------------------------------------------
-- A telegram that is no new request.

-- refilling the watchdog leaves the flags
refilled_flags : (g : Setup) (c : Control) (r : Request) → (refilled g c r).flags ≡ c.flags
unfolding refilled
refilled_flags g c r = either (λ (k : Control). k.flags ≡ c.flags) (acts g r && to_station g r && owns c (master_of r)) refl refl

-- so Diag_Flag is set as it was
pub refilled_flag : (g : Setup) (c : Control) (r : Request) {x : Bool} → c.flags.diag_flag ≡ x → (refilled g c r).flags.diag_flag ≡ x
refilled_flag g c r f = ap (λ (x : Flags). x.diag_flag) (refilled_flags g c r) ∙ f

module _ (g : Setup) (c : Control) (b : Occupied) (r : Request) (octets : Data) where
  -- nothing is asked for, or it is a Global_Control
  serve_flag : (v : Service) → ((Unasked v → ⊥) → ⊥) → FlagIn c → FlagAfter (serve v g c b r octets)
  unfolding global_control
  serve_flag Nothing h f = f
  serve_flag StatusService h f = f
  serve_flag Reject h f = f
  serve_flag GlobalControl h f =
      either FlagAfter (controls c r octets.second) (either FlagIn (eqb octets.first c.stored) f f) f
  serve_flag DataExchange h f = absurd (h (λ x. x))
  serve_flag SetPrm h f = absurd (h (λ x. x))
  serve_flag ChkCfg h f = absurd (h (λ x. x))
  serve_flag SlaveDiag h f = absurd (h (λ x. x))
  serve_flag GetCfg h f = f
  serve_flag ReadInputs h f = absurd (h (λ x. x))
  serve_flag ReadOutputs h f = absurd (h (λ x. x))

-- it is a repeat, or no request
old_flag : (g : Setup) (c : Control) (b : Occupied) (r : Request) (octets : Data) → is_request g r && not (is_repeat g c r) ≡ false
    → FlagIn c → FlagAfter (outcome_by g c b r octets)
old_flag g c b r octets n f =
    let k = refilled_flag g c r f in
    by_test FlagAfter (is_repeat g c r) (repeated g c r) (chained g r (served_by g c b r octets)) (λ _. k)
    (λ e. let none : is_request g r ≡ false = sym (and-true (is_request g r)) ∙ (λ i. is_request g r && not (sym e i)) ∙ n in
    serve_flag g (refilled g c r) b r octets (service_of g r) (λ h. no_true (sym none ∙ request_asked g r h)) k)

-- ---------------------------------------------------------------------------------------------------
-- The calls.

-- a delayed diagnosis sets it, and a noted clear leaves it
pub settle_flag : (l : Ledger) → Flagged l → Flagged (settle l)
unfolding settle after_reply diagnosed
settle_flag l f =
    noted_flag (busy l) (after_reply l).control
    (by_test Flagged (delayed l.control && not (diagnosis_leaves l)) (diagnosis_changed l (caught_up l.control)) l (λ _. refl) (λ _. f))

-- an octet, by what the octets are with it
heard_flag : (l : Ledger) (b : ℕ) (s : Status) → NoneWith l b s → Flagged l → Flagged (heard_as s l b)
unfolding answered
heard_flag l b Fresh e f = f
heard_flag l b Inside e f = either Flagged (begun l) f (settle_flag (with_line l (beginning b)) f)
heard_flag l b Complete e f =
    let t = telegram_on (l.line.telegram ++ b ∷ []) in
    settle_flag (completed l t) (old_flag l.setup l.control (occupied l) (request_by t) (data_by (payload_of t)) e f)
heard_flag l b Broken e f = settle_flag (with_line l (broken_off l.line)) f

-- every call; a new diagnosis sets it, at once or later
pub flag_kept : (l : Ledger) (c : Call) → completes_new_request l c ≡ false → Flagged l → Flagged (step l c).ledger
unfolding heard paused after_send elapsed hand_over diagnosed delaying acknowledge_events leave_master
flag_kept l (octet b bad) e f =
    let s = status (reader_after (run l.line.telegram) b bad) in
    by_test Flagged l.line.ignored l (heard_as s l b) (λ _. f) (λ i. heard_flag l b s (heard_none l b bad e i) f)
flag_kept l gap e f = settle_flag (with_line l (gapped l.line)) f
flag_kept l send e f = settle_flag (with_line l (send_left l.line l.line.reply)) f
flag_kept l tick e f = either Flagged l.control.noted (settle_flag (with_line l (silenced l)) f) (ticked_flag (busy l) l.control f)
flag_kept l take e f = take_cases LeavesFlagged l (λ _. f) (λ _. f)
flag_kept l (read kind index) e f = read_cases LeavesFlagged l kind index (λ _. f) f
flag_kept l (write kind index x) e f = write_cases LeavesFlagged l kind index x (λ _. f) f
flag_kept l hand_over_call e f = f
flag_kept l (new_diagnosis_call count flags) e f = diagnosis_cases LeavesFlagged l count flags (λ _. f) (λ _. f) (λ _. refl)
flag_kept l (judge_parameters_call j) e f =
    parameters_cases LeavesFlagged l j (λ _ _. f) (λ _. parameters_flag l.control (some l.buffers.parameters.waiting) (eqb j 1) f)
flag_kept l (judge_configuration_call j) e f =
    configuration_cases LeavesFlagged l j (λ _ _. f) (λ _. configuration_flag l.control (some l.buffers.configuration.waiting) (eqb j 1) f)
flag_kept l events e f = f
flag_kept l (acknowledge mask) e f = f
flag_kept l pending e f = f
flag_kept l leave e f = clear_flag (busy l) l.control f

-- a list of calls
pub after_flag : (l : Ledger) (cs : List Call) → NoNewRequest l cs → Flagged l → Flagged (after l cs)
after_flag l [] n f = f
after_flag l (c ∷ cs) n f = after_flag (step l c).ledger cs n.1 (flag_kept l c n.0 f)
