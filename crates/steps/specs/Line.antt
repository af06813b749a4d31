-- The line as the state has it.
use Rattle.std.specs.Prelude.{Bool, true, false, ◌&&◌, ◌||◌}
use Rattle.telegram.specs.declared.reader.Status.{Status}
use Rattle.telegram.specs.declared.reader.Status.TheVariants.{Fresh, Inside, Complete, Broken}
use Rattle.telegram.specs.Reading.{status}
use Rattle.telegram.specs.Sending.{left}
use Rattle.state.specs.declared.state.State.{State}
use Rattle.rules.specs.Replies.{diagnoses}

-- the status of a telegram that is begun and unfinished
abbrev pub is_inside : Status → Bool
is_inside Fresh = false
is_inside Inside = true
is_inside Complete = false
is_inside Broken = false

-- a telegram is begun and unfinished
abbrev pub begun : State → Bool
begun s = is_inside (status s.incoming.reader)

-- a busy line: a telegram is begun or a reply is unfinished
abbrev pub busy : State → Bool
busy s = begun s || left s.reply.sender

-- a Slave_Diag reply is unfinished
abbrev pub diagnosis_leaves : State → Bool
diagnosis_leaves s = diagnoses s.reply.drawn && left s.reply.sender
