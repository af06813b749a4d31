-- `state::load::Image::control` meets its contract.
use lib.ListN.{get_or}
use Rattle.state.specs.Unpack.{unpacked}
use Rattle.state.proofs.load.Image.control.Goals as goal

pub returns : goal.returns
unfolding unpacked
returns c =
    let m = c.args.self.octets.now in
    λ i.
    record {
      phase = c.numbered.ensures i;
      owner = get_or m 0 0;
      group = get_or m 1 0;
      stored = get_or m 2 0;
      watchdog = record { reload = c.double_at-reload.ensures i; remaining = c.double_at-remaining.ensures i };
      flags = c.flags_in.ensures i;
      events = c.events.ensures i;
      noted = c.noted.ensures i;
      diagnosis = c.diagnosis.ensures i;
      modes = c.modes_in.ensures i;
      chain = c.chain.ensures i;
    }
