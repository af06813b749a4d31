-- Where the held outputs may be drawn: in DATA_EXCH by Read_Outputs, and wherever a repeat of one draws them again.
use mathlib.Core.Bool.{Bool, true, false, ◌||◌}
use Rattle.state.specs.declared.control.Control.{Control}
use Rattle.state.specs.declared.state.Drawn.{Drawn}
use Rattle.state.specs.declared.state.Drawn.TheVariants.{Nothing, Acknowledge, Status, Rejected, Exchange, Inputs, Outputs, Configuration, Diagnosis}
use Rattle.state.specs.Chain.{drawn_in}
use Rattle.rules.specs.Control.{in_exchange}

-- the held outputs are drawn
abbrev pub is_outputs : Drawn → Bool
is_outputs Nothing = false
is_outputs Acknowledge = false
is_outputs Status = false
is_outputs Rejected = false
is_outputs Exchange = false
is_outputs Inputs = false
is_outputs Outputs = true
is_outputs Configuration = false
is_outputs Diagnosis = false

-- they may be, with this control part
abbrev pub may_draw_outputs : Control → Bool
may_draw_outputs c = in_exchange c || is_outputs (drawn_in c.chain)
