-- `channels::poll::load_poll` meets its contract.
use mathlib.Core.Path.{refl}
use Rattle.channels.specs.Image.{poll_in}
use Rattle.channels.proofs.poll.load_poll.Goals as goal

pub returns : goal.returns
unfolding poll_in
returns c = refl
