-- The Ticks before the counter are over.
use Rattle.std.proofs.Common.{◌-◌}
use Rattle.lent.specs.Run.{run_beats, ticks}
use Rattle.lent.proofs.Partly.{Partly}
use Rattle.lent.proofs.bench.wait.Given as goal

abbrev pub invariant-loop : goal.invariant-loop
invariant-loop l =
    Partly (run_beats l.initial.state l.initial.memory (ticks l.count)) l.state l.memory (ticks (l.count - l.counter))
