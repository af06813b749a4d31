-- Events and deeds go together: 11 and 10 are set exactly while a set of their kind is open, and 13 is raised by publishing alone
-- (document 01, Services and User calls).
use Rattle.std.specs.Prelude.{ℕ, ◌≡◌, Bool, true, false, not, ◌&&◌, ◌||◌, List, [], ◌∷◌}
use Rattle.buffers.specs.Events.{bit, configuration_event, parameters_event, outputs_event}
use Rattle.state.specs.declared.setup.Setup.{Setup}
use Rattle.rules.specs.Call.{Call, octet, gap, send, tick, take, read, write, hand_over_call, new_diagnosis_call, judge_parameters_call, judge_configuration_call, events, acknowledge, pending, leave}
use Rattle.ledger.specs.Ledger.{Ledger, parameters_open, configuration_open, fresh}
use Rattle.ledger.specs.Calls.{step, after}
use Rattle.ledger.specs.History.{Deed, accepted, withheld, released, emptied, zeroed, outputs_taken, deeds_of}

-- event n is set
abbrev pub event_set : Ledger → ℕ → Bool
event_set l n = bit l.control.events.word n

-- "A set is shown if none is open, event 11 or 10", and "Closing or dropping clears the event": so each is set while a set is open
pub record EventsShow (l : Ledger) : Type 0 where
  pub parameters_shown : event_set l parameters_event ≡ parameters_open l
  pub configuration_shown : event_set l configuration_event ≡ configuration_open l

-- after every list of calls
abbrev pub EventsOpen : Type 0
EventsOpen = (s : Setup) (slice : List ℕ) (cs : List Call) → EventsShow (after (fresh s slice) cs)

-- outputs or zeros were published
abbrev pub publishes_in : List Deed → Bool
publishes_in [] = false
publishes_in (accepted ds ∷ earlier) = true
publishes_in (withheld ds ∷ earlier) = publishes_in earlier
publishes_in (released ∷ earlier) = true
publishes_in (emptied ∷ earlier) = publishes_in earlier
publishes_in (zeroed ∷ earlier) = true
publishes_in (outputs_taken ∷ earlier) = publishes_in earlier

-- a call acknowledges event 13: "Acknowledge (mask) clears bits"
abbrev pub acknowledges_outputs : Call → Bool
acknowledges_outputs (octet b bad) = false
acknowledges_outputs gap = false
acknowledges_outputs send = false
acknowledges_outputs tick = false
acknowledges_outputs take = false
acknowledges_outputs (read kind index) = false
acknowledges_outputs (write kind index x) = false
acknowledges_outputs hand_over_call = false
acknowledges_outputs (new_diagnosis_call count flags) = false
acknowledges_outputs (judge_parameters_call j) = false
acknowledges_outputs (judge_configuration_call j) = false
acknowledges_outputs events = false
acknowledges_outputs (acknowledge mask) = bit mask outputs_event
acknowledges_outputs pending = false
acknowledges_outputs leave = false

-- "Publishing puts outputs in next, event 13": after every call, on every ledger, it is set exactly if it was and
-- is not acknowledged, or if the call published
abbrev pub PublishingRaises : Type 0
PublishingRaises =
    (l : Ledger) (c : Call)
    → event_set (step l c).ledger outputs_event ≡ ((event_set l outputs_event && not (acknowledges_outputs c)) || publishes_in (deeds_of l c))
