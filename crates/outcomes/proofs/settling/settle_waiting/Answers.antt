-- `outcomes::settling::settle_waiting` meets its contract.
use Rattle.state.specs.Unpack.{unpacked}
use Rattle.outcomes.proofs.Settled.{holds_front, caught_fronts, settles}
use Rattle.outcomes.proofs.settling.settle_waiting.Goals as goal

pub clear_noted_in-requires : goal.clear_noted_in-requires
clear_noted_in-requires c =
    let m = c.args.mem.now in
    holds_front (caught_fronts (unpacked m) m c.requires c.catch_up.ensures)

pub returns : goal.returns
returns c =
    let m = c.args.mem.now in
    settles (unpacked m) m c.requires c.catch_up.ensures c.clear_noted_in.ensures
