-- `station::hearing::turn` meets its contract.
use Rattle.outcomes.proofs.Settled.{holds_front, settled_front}
use Rattle.station.proofs.TurnedOverMemory.{leaves_fresh, begun_fronts, leaves_begun, completed_fronts, broken_fronts}
use Rattle.station.proofs.hearing.turn.Goals as goal

pub settle_over-requires : goal.settle_over-requires
settle_over-requires c = holds_front
    (begun_fronts _ _ _ _ c.requires c.read_on.ensures c.drop_reply.ensures)

pub settle_over-requires-in-Complete : goal.settle_over-requires-in-Complete
settle_over-requires-in-Complete c = holds_front
    (completed_fronts _ _ _ _ c.requires c.read_on-in-Complete.ensures c.complete.ensures)

pub settle_over-requires-in-Broken : goal.settle_over-requires-in-Broken
settle_over-requires-in-Broken c = holds_front
    (broken_fronts _ _ _ _ c.requires c.off.ensures c.read_on-in-Broken.ensures c.save_incoming.ensures)

pub returns-in-Fresh : goal.returns-in-Fresh
returns-in-Fresh c = λ b. rw c.in-Fresh.is (leaves_fresh _ _ _ _ c.requires b)

pub returns-in-Inside : goal.returns-in-Inside
returns-in-Inside c =
    let told = c.in-Inside.is in
    λ b. rw told
    (leaves_begun _ _ _ _ c.requires told
    (settled_front
    (begun_fronts _ _ _ _ c.requires c.read_on.ensures c.drop_reply.ensures)
    c.settle_over.ensures) b)

pub returns-in-Complete : goal.returns-in-Complete
returns-in-Complete c = λ b. rw c.in-Complete.is
    (settled_front
    (completed_fronts _ _ _ _ c.requires c.read_on-in-Complete.ensures c.complete.ensures)
    c.settle_over-in-Complete.ensures)

pub returns-in-Broken : goal.returns-in-Broken
returns-in-Broken c = λ b. rw c.in-Broken.is
    (settled_front
    (broken_fronts _ _ _ _ c.requires c.off.ensures c.read_on-in-Broken.ensures c.save_incoming.ensures)
    c.settle_over-in-Broken.ensures)
