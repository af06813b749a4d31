-- What a list of calls is made of from Req 02 on.
use Rattle.std.specs.Prelude.{ℕ}
use Rattle.rules.specs.Call.{Call}
use Rattle.window.specs.declared.order.Order.{Order}

-- a call of the station, or a read or write of a cell; an access is a call of the vat program
pub data Entry : Type 0 where
  call : (c : Call) → Entry
  window_read : (order : Order) (address : ℕ) → Entry
  window_write : (order : Order) (address octet : ℕ) → Entry
