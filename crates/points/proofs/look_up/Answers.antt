-- None of the first i entries has the number.
use mathlib.Core.Path.{sym, ◌∙◌}
use native.Mathlib.Omega.{arith}
use Rattle.points.proofs.Looking.{next_entry}
use Rattle.points.proofs.Promises.{promised_hit}
use Rattle.points.proofs.look_up.Goals as goal

pub returns-then-number_of-dsap : goal.returns-then-number_of-dsap
returns-then-number_of-dsap c =
    let next = next_entry _ c.entries-entries.ensures _ c.loop-i.i (omega arith) in
    promised_hit _ _ _ (next, sym c.number_of.ensures ∙ c.if-number_of-dsap.true)
