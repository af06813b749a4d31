-- `state::load::double_at` meets its contract.
use mathlib.Core.Path.{◌∙◌}
use Rattle.state.proofs.ByWords.{double_read}
use Rattle.state.proofs.load.double_at.Goals as goal

pub returns : goal.returns
returns c = c.half.ensures ∙ double_read c.args.mem.now c.args.i c.requires
