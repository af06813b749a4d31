-- The octets before the index are heard.
use Rattle.std.proofs.Common.{drop}
use Rattle.lent.specs.Run.{run_beats, well_received}
use Rattle.lent.proofs.Partly.{Partly}
use Rattle.lent.proofs.bench.listen.Given as goal

abbrev pub invariant-loop-value : goal.invariant-loop-value
invariant-loop-value l =
    Partly (run_beats l.initial.state l.initial.memory (well_received l.octets)) l.state l.memory (well_received (drop l.value-index l.octets))
