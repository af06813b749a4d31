use Rattle.std.proofs.Common.{◌++◌, arith}
use Rattle.state.specs.Memory.{Holds}
use Rattle.steps.proofs.Guarded.{well_length, well_holds}
use Rattle.steps.proofs.Holding.{holds_safe}
use Rattle.steps.specs.Safe.{Safe}
use Rattle.lent.specs.Run.{turn, calls}
use Rattle.lent.proofs.Turns.{safe_after, in_turn, packed_again, left_damaged}
use Rattle.lent.proofs.bench.exchange.Goals as goal

pub returns-then-not-is_well : goal.returns-then-not-is_well
returns-then-not-is_well c =
    let a = c.args in
    (cc, left_damaged (calls (turn a.first.now a.count ++ turn a.second.now a.count)) _ (cc))

pub take_turn-done-requires : goal.take_turn-done-requires
take_turn-done-requires c =
    let safe : Safe c.unpack-state.result c.args.memory.now = grind (arith, well_holds, holds_safe) in
    safe_after _ _ (turn c.args.first.now c.args.count) _ _ safe c.take_turn-held.ensures

pub returns : goal.returns
returns c =
    let a = c.args in
    let m = a.memory.now in
    let one = turn a.first.now a.count in
    let two = turn a.second.now a.count in
    let holds : Holds m c.unpack-state.result = grind (arith, well_holds) in (
      cc,
      packed_again m _ (one ++ two) _ _ _ (grind (arith, well_length)) holds (in_turn _ _ one two _ _ _ _ c.take_turn-held.ensures c.take_turn-done.ensures)
          c.save.ensures,
    )
