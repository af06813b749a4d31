-- The bench list over the memory (specs/Bench.antt): what the ledger answers, by demand 3.
use Rattle.std.specs.Prelude.{Ok}
use Prim.Native.Nat.{ℕ, ◌+◌, ◌*◌, ◌<◌}
use native.Mathlib.Omega.{arith}
use mathlib.Core.Path.{◌≡◌, refl, ap, ◌∙◌}
use mathlib.Core.Logic.{inl}
use mathlib.Core.List.{List}
use lib.ListN.{length, get_or-replicate}
use Rattle.state.specs.Answer.{Called}
use Rattle.octets.specs.Part.{rounded_up}
use Rattle.channels.specs.Image.{channels}
use Rattle.channels.specs.Rules.{LengthsOk}
use Rattle.channels.specs.Places.{indication, response, room_from}
use Rattle.channels.specs.Setting.{length_octets, lengths_given}
use Rattle.state.specs.Layout.{row_base, last_end}
use Rattle.ledger.specs.Script.{calls_of}
use Rattle.ledger.specs.Bench.{bench_setup, bench_slice, bench}
use Rattle.ledger.proofs.Bench.{bench_answers}
use Rattle.steps.specs.Calls.{started}
use Rattle.steps.specs.Demand1.{LengthIn, Begins}
use Rattle.steps.proofs.Guarded.{begins_started}
use Rattle.agreement.specs.Bench.{no_channels, BenchOnEveryMemory}
use Rattle.agreement.proofs.Agreement.{demand_3}

-- its buffers end at 640, and no channel has one
bench_end : last_end (lengths_given no_channels) bench_setup ≡ 640
unfolding row_base rounded_up last_end room_from
bench_end = refl

-- none is set up
none : (n : ℕ) → n < channels → LengthsOk (lengths_given no_channels n indication) (lengths_given no_channels n response)
none n h = inl (get_or-replicate length_octets (2 * n) 0 0 (omega arith), get_or-replicate length_octets (2 * n + 1) 0 0 (omega arith))

-- what Start is given for the bench keeps its rules
bench_begins : (m : List ℕ) → LengthIn (length m) → Begins m bench_setup no_channels
bench_begins m n = record {
  length_in = n;
  ranged = omega arith;
  channel_lengths = record { octets = refl; pairs = none };
  room = let e = bench_end in let l = n.within.0 in omega arith;
}

bench_starts : (m : List ℕ) → LengthIn (length m) → (started m bench_setup bench_slice no_channels).answer ≡ Ok 0
bench_starts m n = ap (λ (c : Called). c.answer) (begins_started m bench_setup bench_slice no_channels (bench_begins m n))

pub bench_over_memory : BenchOnEveryMemory
bench_over_memory m n = record {
  starts = bench_starts m n;
  answers_are = (demand_3 m bench_setup bench_slice no_channels refl (bench_starts m n)).agree (calls_of bench) ∙ bench_answers.answers_are;
}
