-- `station::user::judge_parameters` meets its contract.
use Rattle.std.proofs.Common.{not, ap}
use Rattle.station.proofs.UserOverMemory.{judges_parameters}
use Rattle.station.proofs.user.judge_parameters.Goals as goal

pub returns : goal.returns
returns c = judges_parameters _ _ c.control-control.ensures c.carry_over.ensures _ c.in_ok-good.ensures.known c.is_open.ensures c.from.ensures
    c.parameters-parameters.ensures
    (ap not c.if-not-is_open.false)
    c.judged_parameters.ensures
