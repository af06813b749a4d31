-- `buffers::events::Events::acknowledge` meets its contract.
use native.Mathlib.Omega.{arith}
use lib.Bits.{and_le_l}
use Rattle.buffers.specs.Events.{kept_events}
use Rattle.buffers.proofs.Bits.{and_complement}
use Rattle.buffers.proofs.events.Events.acknowledge.Goals as goal

pub returns : goal.returns
returns c = grind (arith, and_complement, and_complement c.args.mask kept_events, and_le_l)
