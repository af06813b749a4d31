-- The bench list (specs/Bench.antt), by computation.
use mathlib.Core.Path.{refl}
use Rattle.ledger.specs.Bench.{BenchAnswered}
use Rattle.ledger.proofs.Scripts.{written}
use Rattle.ledger.proofs.Computing.{computing}

pub bench_answers : BenchAnswered
unfolding computing
bench_answers = written refl
