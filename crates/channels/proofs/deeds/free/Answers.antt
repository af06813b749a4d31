-- `channels::deeds::free` meets its contract.
use borrow.Author.Tests.{le-ltb}
use Rattle.channels.specs.declared.channel.Channel.{Channel}
use Rattle.channels.specs.Deeds.{freed, freed_in}
use Rattle.channels.proofs.Done.{saved_by}
use Rattle.channels.proofs.deeds.free.Goals as goal

pub returns-then-n-lt16 : goal.returns-then-n-lt16
unfolding freed_in
returns-then-n-lt16 c =
    let s = c.args in
    saved_by (λ (x : Channel). freed x) s.mem.now _ s.n _ _ c.if-n-lt16.true c.load-c.ensures c.freed.ensures c.save.ensures

pub returns-else-n-lt16 : goal.returns-else-n-lt16
unfolding freed_in
returns-else-n-lt16 c = simp (le-ltb _ _ c.if-n-lt16.false)
