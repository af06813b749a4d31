use Rattle.points.proofs.Promises.{none_found}
use Rattle.rules.proofs.Points.{asked_nowhere}
use Rattle.rules.proofs.requests.point_of.Goals as goal

pub returns-in-None : goal.returns-in-None
returns-in-None c = asked_nowhere c.args.r (none_found c.look_up.ensures c.in-None.is)
