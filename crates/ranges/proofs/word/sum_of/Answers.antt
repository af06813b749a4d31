-- `ranges::word::sum_of` meets its contract.
use Rattle.std.proofs.Common.{refl}
use Rattle.ranges.proofs.Halves.{sum_is}
use Rattle.ranges.proofs.word.sum_of.Goals as goal

pub returns : goal.returns
returns c = sum_is c.args.x _ refl
