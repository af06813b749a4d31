-- `ranges::word::unpaired` meets its contract.
use Rattle.std.proofs.Common.{arith}
use Rattle.ranges.proofs.Limits.{rep}
use Rattle.ranges.proofs.Halves.{unpaired_is}
use Rattle.ranges.proofs.word.unpaired.Goals as goal

pub returns : goal.returns
unfolding rep
returns c = unpaired_is 4 c.args.x c.args.y (omega arith) (omega arith)
