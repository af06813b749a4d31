-- `state::well::well_codes` meets its contract.
use native.Mathlib.Omega.{arith}
use mathlib.Core.Path.{◌∙◌}
use Rattle.ranges.specs.Octets.{octets, lows}
use Rattle.state.specs.Well.{code_limits}
use Rattle.state.proofs.ByWords.{limits_all}
use Rattle.state.proofs.well.well_codes.Goals as goal

pub returns : goal.returns
unfolding octets lows
returns c = c.two_words_within.ensures ∙ limits_all c.args.image.octets.now 16 code_limits (omega arith)
