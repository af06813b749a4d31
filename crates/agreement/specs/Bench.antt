-- The bench list a to j over the memory.
use Rattle.std.specs.Prelude.{ℕ, ◌≡◌, List, length, replicate, Ok}
use Rattle.ledger.specs.Script.{calls_of, answers_of}
use Rattle.ledger.specs.Bench.{bench_setup, bench_slice, bench}
use Rattle.channels.specs.Setting.{length_octets}
use Rattle.steps.specs.Calls.{started, answers}
use Rattle.steps.specs.Demand1.{LengthIn}
use Rattle.agreement.specs.Agreement.{memory_of}

-- no channel is set up
abbrev pub no_channels : List ℕ
no_channels = replicate length_octets 0

-- Start answers 0 on the memory m, and the list behind it is answered as written down
pub record BenchOverMemory (m : List ℕ) : Type 0 where
  pub starts : (started m bench_setup bench_slice no_channels).answer ≡ Ok 0
  pub answers_are : answers (memory_of m bench_setup bench_slice no_channels) (calls_of bench) ≡ answers_of bench

-- so it is on every memory of a length that Start takes
abbrev pub BenchOnEveryMemory : Type 0
BenchOnEveryMemory = (m : List ℕ) → LengthIn (length m) → BenchOverMemory m
