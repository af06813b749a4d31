-- `state::well::short_lengths` meets its contract.
use native.Mathlib.Omega.{arith}
use mathlib.Core.Path.{◌∙◌}
use Rattle.ranges.specs.Octets.{octets, lows}
use Rattle.state.proofs.ShortLengths.{short_word}
use Rattle.state.proofs.well.short_lengths.Goals as goal

pub returns : goal.returns
unfolding octets lows
returns c = c.word_between.ensures ∙ short_word c.args.image.octets.now (omega arith)
