-- `channels::deeds::empty_all` meets its contract.
use Rattle.channels.specs.Deeds.{emptied}
use Rattle.channels.proofs.deeds.empty_all.Goals as goal

pub returns : goal.returns
unfolding emptied
returns c = c.clear_at.ensures
