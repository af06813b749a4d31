-- `ranges::word::exceeds` meets its contract.
use Rattle.std.proofs.Common.{arith}
use Rattle.ranges.proofs.Limits.{rep}
use Rattle.ranges.proofs.Halves.{cap, exceeds_is}
use Rattle.ranges.proofs.word.exceeds.Goals as goal

pub returns : goal.returns
unfolding rep cap
returns c = exceeds_is 4 c.args.x c.args.limits _ (omega arith) (omega arith)
