-- `station::completing::repeat` meets its contract.
use Rattle.std.proofs.Common.{refl}
use Rattle.state.specs.Unpack.{unpacked}
use Rattle.state.proofs.Damage.{fronted_same}
use Rattle.station.proofs.CompletedOverMemory.{repeated_over}
use Rattle.station.proofs.completing.repeat.Goals as goal

pub returns : goal.returns
returns c =
    let m = c.args.mem.now in
    repeated_over m (unpacked m) c.args.i c.args.r _ _ _ _ _
    c.setup-setup.ensures
    c.outputs-outputs.ensures
    c.held.ensures
    c.master_of.ensures
    (fronted_same m (unpacked m) c.requires.0)
    c.requires.1 _ _ _ _
    c.control.ensures
    c.refilled-control.ensures
    c.drawn.ensures
    refl
    c.draw-reply.ensures
    c.save_incoming.new.mem
    c.save_ticks.new.mem
    c.save_reply.new.mem
    c.save_incoming.ensures
    c.save_ticks.ensures
    c.save_reply.ensures
