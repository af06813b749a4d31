-- `channels::poll::save_poll` meets its contract.
use mathlib.Core.Path.{refl}
use Rattle.channels.specs.Image.{poll_saved}
use Rattle.channels.proofs.poll.save_poll.Goals as goal

pub returns : goal.returns
unfolding poll_saved
returns c = refl
