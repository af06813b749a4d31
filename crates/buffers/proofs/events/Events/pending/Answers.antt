-- `buffers::events::Events::pending` meets its contract: at most 16 zeros are counted, and as many as the smallest number of a set event.
use native.Mathlib.Omega.{arith}
use Rattle.buffers.proofs.Pending.{pending_counted}
use Rattle.buffers.proofs.events.Events.pending.Goals as goal

pub returns : goal.returns
returns c = omega (arith, pending_counted c.args.self)
