-- `station::bus::send` meets its contract.
use Rattle.outcomes.proofs.Settled.{holds_front, settled_front}
use Rattle.station.proofs.SentOverMemory.{nothing_left, sent_fronts, octet_left}
use Rattle.station.proofs.bus.send.Goals as goal

pub returns-then-not-left : goal.returns-then-not-left
returns-then-not-left c = nothing_left _ _ c.requires
    (rw (c.left.ensures, c.reply.ensures)
    at (c.if-not-left.true))

pub settle_over-requires : goal.settle_over-requires
settle_over-requires c = holds_front
    (sent_fronts _ _ c.reply.ensures c.asked_for-datum.ensures c.send-sent.ensures c.requires c.save_sender.ensures)

pub returns : goal.returns
returns c = octet_left _ _ c.reply.ensures c.asked_for-datum.ensures c.send-sent.ensures c.left.ensures (c.if-not-left.false)
    (settled_front
    (sent_fronts _ _ c.reply.ensures c.asked_for-datum.ensures c.send-sent.ensures c.requires c.save_sender.ensures)
    c.settle_over.ensures)
