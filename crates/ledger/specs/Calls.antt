-- The answers to a list of calls.
use Rattle.std.specs.Prelude.{List}
use Rattle.state.specs.Answer.{Answer}
use Rattle.rules.specs.Call.{Call, octet, gap, send, tick, take, read, write, hand_over_call, new_diagnosis_call, judge_parameters_call, judge_configuration_call, events, acknowledge, pending, leave}
use Rattle.rules.specs.Runs.{answers_to, left_by}
use Rattle.ledger.specs.Ledger.{Ledger}
use Rattle.ledger.specs.Bus.{heard, paused, send_told, after_send, elapsed}
use Rattle.ledger.specs.User.{Told, told, take_outputs, read_octet, write_octet, hand_over, new_diagnosis, judge_parameters, judge_configuration, event_word, acknowledge_events, pending_event, leave_master}

-- calls with no answer named answer 0
abbrev pub step : Ledger → Call → Told
step l (octet b bad) = told 0 (heard l b bad)
step l gap = told 0 (paused l)
step l send = told (send_told l.line.reply) (after_send l)
step l tick = told 0 (elapsed l)
step l take = take_outputs l
step l (read kind index) = read_octet l kind index
step l (write kind index x) = write_octet l kind index x
step l hand_over_call = hand_over l
step l (new_diagnosis_call count flags) = new_diagnosis l count flags
step l (judge_parameters_call j) = judge_parameters l j
step l (judge_configuration_call j) = judge_configuration l j
step l events = event_word l
step l (acknowledge mask) = acknowledge_events l mask
step l pending = pending_event l
step l leave = leave_master l

-- the answers to a list of calls
abbrev pub answers : Ledger → List Call → List Answer
answers = answers_to (λ l c. (step l c).answer) (λ l c. (step l c).ledger)

-- and the ledger after them
abbrev pub after : Ledger → List Call → Ledger
after = left_by (λ l c. (step l c).ledger)
