-- `ranges::word::outside` meets its contract.
use Rattle.std.proofs.Common.{arith}
use Rattle.ranges.proofs.Limits.{rep, outside_is}
use Rattle.ranges.proofs.word.outside.Goals as goal

pub returns : goal.returns
unfolding rep
returns c = outside_is c.args.x c.args.most c.args.least _ c.above.result (omega arith) (omega arith) c.above.ensures
