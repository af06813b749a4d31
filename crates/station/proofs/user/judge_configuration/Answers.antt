-- `station::user::judge_configuration` meets its contract.
use Rattle.std.proofs.Common.{not, ap}
use Rattle.station.proofs.UserOverMemory.{judges_configuration}
use Rattle.station.proofs.user.judge_configuration.Goals as goal

pub returns : goal.returns
returns c = judges_configuration _ _ c.control-control.ensures c.carry_over.ensures _ c.in_ok-good.ensures.known c.is_open.ensures c.from.ensures
    c.configuration-configuration.ensures
    (ap not c.if-not-is_open-control.false)
    c.judged_configuration.ensures
