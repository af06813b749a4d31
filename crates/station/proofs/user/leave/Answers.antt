-- `station::user::leave` meets its contract.
use Rattle.station.proofs.UserOverMemory.{leaves_master}
use Rattle.station.proofs.user.leave.Goals as goal

pub returns : goal.returns
returns c = leaves_master _ _ c.control-control.ensures c.carry_over.ensures c.busy_in-busy.ensures c.clear_on.ensures
