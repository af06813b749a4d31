-- Every case of the state's enums comes back from its number: the law of each.
use Rattle.std.specs.Prelude.{◌≡◌}
use mathlib.Core.Path.{refl}
use Rattle.telegram.specs.declared.reader.Phase.{Phase as Reading}
use Rattle.telegram.specs.declared.reader.Phase.TheVariants as reading
use Rattle.telegram.specs.declared.Kind.{Kind}
use Rattle.telegram.specs.declared.Kind.TheVariants as kind
use Rattle.telegram.specs.declared.sender.Stage.{Stage}
use Rattle.telegram.specs.declared.sender.Stage.TheVariants as stage
use Rattle.state.specs.declared.control.Phase.{Phase}
use Rattle.state.specs.declared.control.Phase.TheVariants as phase
use Rattle.state.specs.declared.state.Drawn.{Drawn}
use Rattle.state.specs.declared.state.Drawn.TheVariants as drawn
use Rattle.state.specs.Number.{reading_number, reading_numbered, kind_number, kind_numbered, stage_number, stage_numbered, phase_number, phase_numbered, drawn_number, drawn_numbered}

-- a reader's phase comes back from its number
pub reading_back : (a : Reading) → reading_numbered (reading_number a) ≡ a
unfolding reading_numbered
reading_back reading.Start = refl
reading_back reading.Le = refl
reading_back reading.LeAgain = refl
reading_back reading.SdAgain = refl
reading_back reading.Da = refl
reading_back reading.Sa = refl
reading_back reading.Fc = refl
reading_back reading.Dsap = refl
reading_back reading.Ssap = refl
reading_back reading.Body = refl
reading_back reading.End = refl
reading_back reading.Done = refl
reading_back reading.Off = refl

-- a telegram's kind comes back from its number
pub kind_back : (a : Kind) → kind_numbered (kind_number a) ≡ a
unfolding kind_numbered
kind_back kind.Sd1 = refl
kind_back kind.Sd2 = refl
kind_back kind.Sd3 = refl
kind_back kind.Sd4 = refl

-- a sender's stage comes back from its number
pub stage_back : (a : Stage) → stage_numbered (stage_number a) ≡ a
unfolding stage_numbered
stage_back stage.Start = refl
stage_back stage.Le = refl
stage_back stage.LeAgain = refl
stage_back stage.SdAgain = refl
stage_back stage.Da = refl
stage_back stage.Sa = refl
stage_back stage.Fc = refl
stage_back stage.Body = refl
stage_back stage.End = refl
stage_back stage.Single = refl
stage_back stage.Empty = refl

-- the station's phase comes back from its number
pub phase_back : (a : Phase) → phase_numbered (phase_number a) ≡ a
unfolding phase_numbered
phase_back phase.WaitPrm = refl
phase_back phase.WaitCfg = refl
phase_back phase.DataExch = refl

-- what a telegram draws comes back from its number
pub drawn_back : (a : Drawn) → drawn_numbered (drawn_number a) ≡ a
unfolding drawn_numbered
drawn_back drawn.Nothing = refl
drawn_back drawn.Acknowledge = refl
drawn_back drawn.Status = refl
drawn_back drawn.Rejected = refl
drawn_back drawn.Exchange = refl
drawn_back drawn.Inputs = refl
drawn_back drawn.Outputs = refl
drawn_back drawn.Configuration = refl
drawn_back drawn.Diagnosis = refl
