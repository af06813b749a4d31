use Rattle.std.proofs.Common.{arith}
use Rattle.lent.proofs.Partly.{next_octet}
use Rattle.lent.proofs.bench.listen.Goals as goal

pub loop-value-preserved : goal.loop-value-preserved
loop-value-preserved c = next_octet c.args.octets.now _ (omega arith) c.loop-value.invariant c.octet.ensures
