-- `window::order::Order::cell` meets its contract.
use mathlib.Core.Path.{sym}
use Rattle.window.proofs.Orders.{stays, exchanged_bit}
use Rattle.window.proofs.order.Order.cell.Goals as goal

pub returns-then-address-gt-LAST_EXCHANGED : goal.returns-then-address-gt-LAST_EXCHANGED
returns-then-address-gt-LAST_EXCHANGED c = rw c.in-Motorola.is (sym (stays _ c.if-address-gt-LAST_EXCHANGED.true))

pub returns-else-address-gt-LAST_EXCHANGED : goal.returns-else-address-gt-LAST_EXCHANGED
returns-else-address-gt-LAST_EXCHANGED c = rw c.in-Motorola.is (exchanged_bit _ c.if-address-gt-LAST_EXCHANGED.false)
