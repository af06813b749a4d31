use Rattle.std.proofs.Common.{arith}
use Rattle.lent.proofs.Partly.{next_tick}
use Rattle.lent.proofs.bench.wait.Goals as goal

pub loop-preserved : goal.loop-preserved
loop-preserved c = next_tick c.args.count _ (omega arith) c.loop.invariant c.tick.ensures
