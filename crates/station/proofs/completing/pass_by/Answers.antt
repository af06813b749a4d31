-- `station::completing::pass_by` meets its contract.
use Rattle.std.proofs.Common.{ap, ◌∙◌}
use Rattle.buffers.specs.Roles.{held_of}
use Rattle.state.specs.declared.state.Drawn.TheVariants.{Nothing}
use Rattle.state.specs.declared.state.Outputs.{Outputs}
use Rattle.state.specs.Unpack.{unpacked}
use Rattle.rules.specs.Diagnosis.{header_of}
use Rattle.station.proofs.PassedBy.{passed_by}
use Rattle.station.proofs.completing.pass_by.Goals as goal

pub returns : goal.returns
returns c =
    let m = c.args.mem.now in
    let s = unpacked m in
    let outputs = c.outputs-outputs.ensures in
    passed_by s m c.args.r c.requires.1 c.requires.0 _ _ c.save_incoming.new.mem c.save_reply.new.mem
    (λ j.
    record {
      drawn = Nothing;
      sender = c.empty.ensures j;
      place = (c.held.ensures ∙ ap (λ (o : Outputs). held_of o.set.place) outputs) j;
      header = (c.header_of.ensures ∙ ap header_of c.control-control.ensures) j;
    })
    c.save_incoming.ensures
    c.save_reply.ensures
