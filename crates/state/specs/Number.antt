-- The cases of the state's enums as numbers, in their order, and back: the last case answers every number past the others.
use Rattle.std.specs.Prelude.{ℕ, List, [], ◌∷◌, get_or}
use Rattle.telegram.specs.declared.reader.Phase.{Phase as Reading}
use Rattle.telegram.specs.declared.reader.Phase.TheVariants as reading
use Rattle.telegram.specs.declared.Kind.{Kind}
use Rattle.telegram.specs.declared.Kind.TheVariants as kind
use Rattle.telegram.specs.declared.sender.Stage.{Stage}
use Rattle.telegram.specs.declared.sender.Stage.TheVariants as stage
use Rattle.state.specs.declared.control.Phase.{Phase}
use Rattle.state.specs.declared.control.Phase.TheVariants as phase
use Rattle.state.specs.declared.state.Drawn.{Drawn}
use Rattle.state.specs.declared.state.Drawn.TheVariants as drawn

-- the number of a reader's phase
abbrev pub reading_number : Reading → ℕ
reading_number reading.Start = 0
reading_number reading.Le = 1
reading_number reading.LeAgain = 2
reading_number reading.SdAgain = 3
reading_number reading.Da = 4
reading_number reading.Sa = 5
reading_number reading.Fc = 6
reading_number reading.Dsap = 7
reading_number reading.Ssap = 8
reading_number reading.Body = 9
reading_number reading.End = 10
reading_number reading.Done = 11
reading_number reading.Off = 12

-- the cases before the last
abbrev pub reading_cases : List Reading
reading_cases =
    reading.Start
    ∷ reading.Le
    ∷ reading.LeAgain
    ∷ reading.SdAgain
    ∷ reading.Da
    ∷ reading.Sa
    ∷ reading.Fc
    ∷ reading.Dsap
    ∷ reading.Ssap
    ∷ reading.Body
    ∷ reading.End
    ∷ reading.Done
    ∷ []

-- the case of a number
unfoldable pub reading_numbered : ℕ → Reading
reading_numbered n = get_or reading_cases n reading.Off

-- the number of a telegram's kind
abbrev pub kind_number : Kind → ℕ
kind_number kind.Sd1 = 0
kind_number kind.Sd2 = 1
kind_number kind.Sd3 = 2
kind_number kind.Sd4 = 3

-- the cases before the last
abbrev pub kind_cases : List Kind
kind_cases = kind.Sd1 ∷ kind.Sd2 ∷ kind.Sd3 ∷ []

-- the case of a number
unfoldable pub kind_numbered : ℕ → Kind
kind_numbered n = get_or kind_cases n kind.Sd4

-- the number of a sender's stage
abbrev pub stage_number : Stage → ℕ
stage_number stage.Start = 0
stage_number stage.Le = 1
stage_number stage.LeAgain = 2
stage_number stage.SdAgain = 3
stage_number stage.Da = 4
stage_number stage.Sa = 5
stage_number stage.Fc = 6
stage_number stage.Body = 7
stage_number stage.End = 8
stage_number stage.Single = 9
stage_number stage.Empty = 10

-- the cases before the last
abbrev pub stage_cases : List Stage
stage_cases =
    stage.Start
    ∷ stage.Le
    ∷ stage.LeAgain
    ∷ stage.SdAgain
    ∷ stage.Da
    ∷ stage.Sa
    ∷ stage.Fc
    ∷ stage.Body
    ∷ stage.End
    ∷ stage.Single
    ∷ []

-- the case of a number
unfoldable pub stage_numbered : ℕ → Stage
stage_numbered n = get_or stage_cases n stage.Empty

-- the number of the station's phase
abbrev pub phase_number : Phase → ℕ
phase_number phase.WaitPrm = 0
phase_number phase.WaitCfg = 1
phase_number phase.DataExch = 2

-- the cases before the last
abbrev pub phase_cases : List Phase
phase_cases = phase.WaitPrm ∷ phase.WaitCfg ∷ []

-- the case of a number
unfoldable pub phase_numbered : ℕ → Phase
phase_numbered n = get_or phase_cases n phase.DataExch

-- the number of what a telegram draws
abbrev pub drawn_number : Drawn → ℕ
drawn_number drawn.Nothing = 0
drawn_number drawn.Acknowledge = 1
drawn_number drawn.Status = 2
drawn_number drawn.Rejected = 3
drawn_number drawn.Exchange = 4
drawn_number drawn.Inputs = 5
drawn_number drawn.Outputs = 6
drawn_number drawn.Configuration = 7
drawn_number drawn.Diagnosis = 8

-- the cases before the last
abbrev pub drawn_cases : List Drawn
drawn_cases =
    drawn.Nothing
    ∷ drawn.Acknowledge
    ∷ drawn.Status
    ∷ drawn.Rejected
    ∷ drawn.Exchange
    ∷ drawn.Inputs
    ∷ drawn.Outputs
    ∷ drawn.Configuration
    ∷ []

-- the case of a number
unfoldable pub drawn_numbered : ℕ → Drawn
drawn_numbered n = get_or drawn_cases n drawn.Diagnosis
