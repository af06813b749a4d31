-- `outcomes::over::carry_over` meets its contract.
use Rattle.state.specs.Unpack.{unpacked}
use Rattle.outcomes.proofs.CarriedOver.{safe_then, carried_over}
use Rattle.outcomes.proofs.over.carry_over.Goals as goal

pub carry_buffers-requires : goal.carry_buffers-requires
carry_buffers-requires c = safe_then c.args.mem.now (unpacked c.args.mem.now) c.args.o c.args.count c.requires _ c.save_control.ensures

pub returns : goal.returns
returns c =
    let m = c.args.mem.now in
    carried_over m (unpacked m) c.args.o c.args.count c.requires _ c.save_control.ensures
    c.carry_buffers.new.mem
    c.put_outputs.new.mem
    c.put_inputs.new.mem
    c.put_parameters.new.mem
    c.put_configuration.new.mem
    c.carry_buffers.ensures
    c.put_outputs.ensures
    c.put_inputs.ensures
    c.put_parameters.ensures
    c.put_configuration.ensures
