-- `station::bus::silence_over` meets its contract.
use Rattle.outcomes.proofs.Settled.{holds_front, settled_front}
use Rattle.station.proofs.Ticking.{silenced_fronts}
use Rattle.station.proofs.bus.silence_over.Goals as goal

pub settle_waiting-requires : goal.settle_waiting-requires
settle_waiting-requires c = holds_front
    (silenced_fronts _ _ c.requires c.incoming-old.ensures c.status.ensures c.is_inside-inside.ensures c.silenced_reader.ensures c.read_on.ensures c.drop_reply.ensures)

pub returns : goal.returns
returns c = settled_front
    (silenced_fronts _ _ c.requires c.incoming-old.ensures c.status.ensures c.is_inside-inside.ensures c.silenced_reader.ensures c.read_on.ensures c.drop_reply.ensures)
    c.settle_waiting.ensures
