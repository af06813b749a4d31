-- `station::completing::exchange` meets its contract.
use Rattle.std.proofs.Common.{refl}
use Rattle.state.specs.Unpack.{unpacked}
use Rattle.state.proofs.Damage.{fronted_same}
use Rattle.station.proofs.CompletedOverMemory.{exchanged_over}
use Rattle.station.proofs.completing.exchange.Goals as goal

pub returns : goal.returns
returns c =
    let m = c.args.mem.now in
    exchanged_over m (unpacked m) c.args.i c.args.r _ _ _ _ _
    c.setup-setup.ensures
    c.outputs.ensures
    c.held-held.ensures
    refl
    (fronted_same m (unpacked m) c.requires.0)
    c.requires.1
    c.requires.2 _ _ _ _ _ _ _ _
    c.control.ensures
    c.refilled-control.ensures
    c.exchange_outputs-deed.ensures
    c.on_outputs-outputs.ensures
    c.exchange_inputs.ensures
    c.inputs.ensures
    c.on_inputs-inputs.ensures
    c.announced.ensures
    c.header_of-header.ensures
    c.save_incoming.new.mem
    c.save_events.new.mem
    c.save_ticks.new.mem
    c.save_outputs.new.mem
    c.save_inputs.new.mem
    c.reply_exchange.new.mem
    c.save_incoming.ensures
    c.save_events.ensures
    c.save_ticks.ensures
    c.save_outputs.ensures
    c.save_inputs.ensures
    c.reply_exchange.ensures
