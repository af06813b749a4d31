-- `state::start::last_end` meets its contract.
use Prim.Native.Nat.{◌+◌}
use Rattle.state.specs.Layout.{last_end}
use Rattle.state.proofs.start.last_end.Goals as goal

pub returns : goal.returns
unfolding last_end
returns c = λ i. c.end_of.ensures.0 i + c.room_for.ensures.0 i
