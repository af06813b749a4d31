-- `station::completing::answer` meets its contract.
use Rattle.state.specs.Unpack.{unpacked}
use Rattle.station.proofs.CompletedOverMemory.{answered_over}
use Rattle.station.proofs.completing.answer.Goals as goal

pub returns : goal.returns
returns c =
    let m = c.args.mem.now in
    answered_over m (unpacked m) c.args.i c.args.r _ _ _ _ _
    c.setup-setup.ensures
    c.outputs.ensures
    c.held.ensures
    c.master_of.ensures
    c.requires.1
    c.args.o _
    c.on_outputs-outputs.ensures
    c.draw-reply.ensures
    c.carry_over.new.mem
    c.save_incoming.new.mem
    c.save_reply.new.mem
    c.keep_request.new.mem
    c.carry_over.ensures
    c.save_incoming.ensures
    c.save_reply.ensures
    c.keep_request.ensures
