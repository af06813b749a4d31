-- `station::user::write_octet` meets its contract.
use Rattle.std.proofs.Common.{arith}
use Rattle.steps.proofs.Holding.{holds_safe}
use Rattle.station.proofs.UserOverMemory.{lies}
use Rattle.station.proofs.user.write_octet.Goals as goal

pub overflow_add-mem : goal.overflow_add-mem
overflow_add-mem c =
    let inside = lies _ c.args.mem.now _ _ c.setup.ensures c.in-Some.ensures (holds_safe _ _ c.requires) c.kind_at-from.ensures in
    omega arith

pub bounds-mem-from : goal.bounds-mem-from
bounds-mem-from c = lies _ _ _ _ c.setup.ensures c.in-Some.ensures (holds_safe _ _ c.requires) c.kind_at-from.ensures
