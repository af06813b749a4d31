-- `channels::deeds::is_set_up` meets its contract.
use borrow.Author.Tests.{lt-ltb, le-ltb}
use Rattle.channels.specs.Deeds.{is_set_up}
use Rattle.channels.proofs.deeds.is_set_up.Goals as goal

pub returns-then-n-lt16 : goal.returns-then-n-lt16
unfolding is_set_up
returns-then-n-lt16 c = simp (lt-ltb _ _ c.if-n-lt16.true, c.load.ensures)

pub returns-else-n-lt16 : goal.returns-else-n-lt16
unfolding is_set_up
returns-else-n-lt16 c = simp (le-ltb c.args.n 16 c.if-n-lt16.false)
