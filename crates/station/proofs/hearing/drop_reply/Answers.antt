-- `station::hearing::drop_reply` meets its contract.
use Rattle.std.proofs.Common.{◌∙◌}
use Rattle.state.specs.Memory.{kept}
use Rattle.state.specs.With.{with_incoming, with_reply}
use Rattle.state.proofs.Written.{then}
use Rattle.station.proofs.hearing.drop_reply.Goals as goal

pub returns : goal.returns
returns c =
    let start = c.args in
    λ s e.
    then start.mem.now c.save_incoming.new.mem c.save_reply.new.mem _ _
    c.save_incoming.ensures c.save_reply.ensures s e
    ∙ (λ j. kept (with_reply (with_incoming s start.i) (c.no_reply.ensures j)) start.mem.now)
