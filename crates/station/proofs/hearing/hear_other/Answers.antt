-- `station::hearing::hear_other` meets its contract.
use mathlib.Core.Path.{◌∙◌}
use Rattle.state.specs.Unpack.{unpacked}
use Rattle.station.proofs.HeardOverMemory.{leaves_ignored, leaves_plain, leaves_turn}
use Rattle.station.proofs.TurnedOverMemory.{inner_plain, turning}
use Rattle.station.proofs.hearing.hear_other.Goals as goal

pub returns-then-is_ignored : goal.returns-then-is_ignored
returns-then-is_ignored c =
    let m = c.args.mem.now in
    leaves_ignored m (unpacked m) c.requires.0 c.args.b c.incoming-old.result c.incoming-old.ensures c.args.bad _ _
    c.status.ensures c.is_ignored.ensures c.if-is_ignored.true

pub returns-then-is_inner : goal.returns-then-is_inner
returns-then-is_inner c =
    let m = c.args.mem.now in
    leaves_plain m (unpacked m) c.requires.0 c.args.b c.incoming-old.result c.incoming-old.ensures c.args.bad _
    c.receive-next.ensures _ _ _
    (c.is_inner.ensures ∙ inner_plain m _ c.args.b c.args.bad _ c.requires.1 c.incoming-old.ensures c.receive-next.ensures)
    c.if-is_inner.true c.read_on.ensures c.save_incoming.ensures

pub turn-requires : goal.turn-requires
turn-requires c = turning _ _ c.args.b c.args.bad _ _ c.requires.0 c.requires.1 c.incoming-old.ensures c.receive-next.ensures _
    (c.is_inner.ensures ∙ inner_plain _ _ c.args.b c.args.bad _ c.requires.1 c.incoming-old.ensures c.receive-next.ensures)
    c.if-is_inner.false c.status-2.ensures

pub returns : goal.returns
returns c =
    let m = c.args.mem.now in
    leaves_turn m (unpacked m) c.requires.0 c.args.b c.incoming-old.result c.incoming-old.ensures c.args.bad _
    c.receive-next.ensures _ _ c.status.ensures c.is_ignored.ensures c.if-is_ignored.false _ c.status-2.ensures _ c.turn.ensures
