-- What the code finds behind an access, as what is behind it in the table.
use Rattle.state.specs.declared.control.Control.{Control}
use Rattle.rules.specs.Call.{take, hand_over_call, new_diagnosis_call, judge_parameters_call, judge_configuration_call, events, acknowledge}
use Rattle.rules.specs.Diagnosis.{present_flags}
use Rattle.window.specs.declared.command.Command.{Command}
use Rattle.window.specs.declared.command.Command.TheVariants.{LowEvents, HighEvents, HandOver, Take, NewDiagnosis, JudgeParameters, JudgeConfiguration, Acknowledge, Nothing, NoCell}
use Rattle.window.specs.Table.{whole, bits, Behind, calls, nothing, no_cell}

-- a new diagnosis has the count and flags that the control part has in force
abbrev pub commanded : Control → Command → Behind
commanded c LowEvents = calls events (bits 0)
commanded c HighEvents = calls events (bits 8)
commanded c HandOver = calls hand_over_call whole
commanded c Take = calls take whole
commanded c NewDiagnosis = calls (new_diagnosis_call c.diagnosis.count (present_flags c.flags)) whole
commanded c (JudgeParameters j) = calls (judge_parameters_call j) whole
commanded c (JudgeConfiguration j) = calls (judge_configuration_call j) whole
commanded c (Acknowledge mask) = calls (acknowledge mask) whole
commanded c Nothing = nothing
commanded c NoCell = no_cell
