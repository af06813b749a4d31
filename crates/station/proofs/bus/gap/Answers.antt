-- `station::bus::gap` meets its contract.
use Rattle.outcomes.proofs.Settled.{holds_front, settled_front}
use Rattle.station.proofs.SentOverMemory.{paused_fronts}
use Rattle.steps.specs.Bus.{paused}
use Rattle.station.proofs.bus.gap.Goals as goal

pub settle_over-requires : goal.settle_over-requires
settle_over-requires c = holds_front
    (paused_fronts _ _ c.requires c.incoming-old.ensures c.start.ensures c.read_on.ensures c.save_incoming.ensures)

pub returns : goal.returns
unfolding paused
returns c = settled_front
    (paused_fronts _ _ c.requires c.incoming-old.ensures c.start.ensures c.read_on.ensures c.save_incoming.ensures)
    c.settle_over.ensures
