-- `ranges::word::eighths` meets its contract.
use Rattle.std.proofs.Common.{◌+◌, ◌/◌, arith}
use lib.Bits.{and_le_r}
use Rattle.ranges.proofs.Limits.{rep}
use Rattle.ranges.proofs.Halves.{most_word, eighths_are}
use Rattle.ranges.proofs.word.eighths.Goals as goal

pub overflow_add-result : goal.overflow_add-result
unfolding rep
overflow_add-result c = omega (arith, most_word 4 248 c.args.x (omega arith) c.requires)

pub returns : goal.returns
unfolding rep
returns c = (eighths_are 4 c.args.x c.requires, and_le_r ((c.args.x + rep 4 7) / 8) (rep 4 31))
