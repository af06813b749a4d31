-- `window::command::Command::writing` meets its contract.
use Prim.Native.Nat.{ℕ, ◌*◌}
use native.Mathlib.Omega.{arith}
use mathlib.Core.Path.{ap}
use Rattle.rules.specs.Call.{acknowledge}
use Rattle.window.specs.Table.{whole, calls, table}
use Rattle.window.proofs.Found.{writes_at, writes_nothing, writes_none}
use Rattle.window.proofs.command.Command.writing.Goals as goal

pub returns-then-address-gt-LAST : goal.returns-then-address-gt-LAST
returns-then-address-gt-LAST c = λ k. writes_none _ _ c.if-address-gt-LAST.true k _

pub returns-in-2 : goal.returns-in-2
unfolding table
returns-in-2 c = writes_at _ _ c.cell.ensures 2 c.in-2.is _ (λ k. ap (λ (mask : ℕ). calls (acknowledge mask) whole) (omega arith))

pub returns-in-3 : goal.returns-in-3
unfolding table
returns-in-3 c = writes_at _ _ c.cell.ensures 3 c.in-3.is _ (λ k. ap (λ (n : ℕ). calls (acknowledge (256 * n)) whole) (omega arith))

pub returns-in_default : goal.returns-in_default
returns-in_default c = writes_nothing _ _ c.cell.ensures c.if-address-gt-LAST.false _ c.in_default.in_default-own.rest
