-- `window::calls::event_bits` meets its contract.
use Rattle.rules.specs.Call.{events}
use Rattle.window.specs.Table.{bits}
use Rattle.window.proofs.Entered.{cut_meets}
use Rattle.window.proofs.calls.event_bits.Goals as goal

pub returns : goal.returns
returns c = cut_meets _ events (bits _) c.events.ensures c.eight_bits.ensures
