-- None of the first i entries has the number.
use Rattle.points.proofs.Looking.{Absent}
use Rattle.points.proofs.look_up.Given as goal

abbrev pub invariant-loop-i : goal.invariant-loop-i
invariant-loop-i l = Absent l.dsap l.i
