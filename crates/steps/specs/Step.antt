-- Each call as a step over the memory that holds a state: the state is unpacked, the step made and the state packed again. Nothing
-- of the memory is checked here.
use Rattle.std.specs.Prelude.{ℕ, List, Ok, Err}
use Rattle.state.specs.declared.state.State.{State}
use Rattle.state.specs.Answer.{Answer, Called, refused}
use Rattle.state.specs.Memory.{kept}
use Rattle.state.specs.Unpack.{unpacked}
use Rattle.rules.specs.Call.{Call, octet, gap, send, tick, take, read, write, hand_over_call, new_diagnosis_call, judge_parameters_call, judge_configuration_call, events, acknowledge, pending, leave}
use Rattle.steps.specs.Reading.{heard}
use Rattle.steps.specs.Bus.{paused, send_told, send_left, elapsed}
use Rattle.steps.specs.Stepped.{Told, told_of}
use Rattle.steps.specs.User.{take_outputs, read_octet, write_octet, hand_over, new_diagnosis, judge_parameters, judge_configuration, event_word, acknowledge_events, pending_event, leave_master}

-- the step that a call makes on the unpacked state
abbrev pub step : State → List ℕ → Call → Told
step s m (octet b bad) = told_of 0 (heard s m b bad)
step s m gap = told_of 0 (paused s m)
step s m send = told_of (send_told s m) (send_left s m)
step s m tick = told_of 0 (elapsed s m)
step s m take = take_outputs s m
step s m (read kind index) = read_octet s m kind index
step s m (write kind index x) = write_octet s m kind index x
step s m hand_over_call = hand_over s m
step s m (new_diagnosis_call count flags) = new_diagnosis s m count flags
step s m (judge_parameters_call j) = judge_parameters s m j
step s m (judge_configuration_call j) = judge_configuration s m j
step s m events = event_word s m
step s m (acknowledge mask) = acknowledge_events s m mask
step s m pending = pending_event s m
step s m leave = leave_master s m

-- a refusal leaves the memory as it was; else the state stands in front again
abbrev pub packed_as : Answer → List ℕ → Told → Called
packed_as (Ok n) m t = record { answer = Ok n; memory = kept t.state t.memory }
packed_as (Err why) m t = refused m why

-- by its own answer
abbrev pub packed : List ℕ → Told → Called
packed m t = packed_as t.answer m t

-- the step over the memory
unfoldable pub step_over : List ℕ → Call → Called
step_over m c = packed m (step (unpacked m) m c)
