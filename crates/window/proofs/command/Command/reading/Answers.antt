-- `window::command::Command::reading` meets its contract.
use mathlib.Core.Path.{refl}
use mathlib.Core.Logic.{inl, inr}
use Rattle.window.specs.Table.{table}
use Rattle.window.proofs.Found.{reads_at, reads_nothing, reads_none}
use Rattle.window.proofs.command.Command.reading.Goals as goal

pub returns-then-address-gt-LAST : goal.returns-then-address-gt-LAST
returns-then-address-gt-LAST c = reads_none _ _ c.if-address-gt-LAST.true

pub returns-in-0 : goal.returns-in-0
unfolding table
returns-in-0 c = elim c.in-0.is [
  | inl e ↦ reads_at _ _ c.cell.ensures 0 e (λ k. refl)
  | inr e ↦ reads_at _ _ c.cell.ensures 2 e (λ k. refl)
]

pub returns-in-1 : goal.returns-in-1
unfolding table
returns-in-1 c = elim c.in-1.is [
  | inl e ↦ reads_at _ _ c.cell.ensures 1 e (λ k. refl)
  | inr e ↦ reads_at _ _ c.cell.ensures 3 e (λ k. refl)
]

pub returns-in-9 : goal.returns-in-9
unfolding table
returns-in-9 c = reads_at _ _ c.cell.ensures 9 c.in-9.is (λ k. refl)

pub returns-in-11 : goal.returns-in-11
unfolding table
returns-in-11 c = reads_at _ _ c.cell.ensures 11 c.in-11.is (λ k. refl)

pub returns-in-13 : goal.returns-in-13
unfolding table
returns-in-13 c = reads_at _ _ c.cell.ensures 13 c.in-13.is (λ k. refl)

pub returns-in-14 : goal.returns-in-14
unfolding table
returns-in-14 c = reads_at _ _ c.cell.ensures 14 c.in-14.is (λ k. refl)

pub returns-in-15 : goal.returns-in-15
unfolding table
returns-in-15 c = reads_at _ _ c.cell.ensures 15 c.in-15.is (λ k. refl)

pub returns-in-16 : goal.returns-in-16
unfolding table
returns-in-16 c = reads_at _ _ c.cell.ensures 16 c.in-16.is (λ k. refl)

pub returns-in-17 : goal.returns-in-17
unfolding table
returns-in-17 c = reads_at _ _ c.cell.ensures 17 c.in-17.is (λ k. refl)

pub returns-in_default : goal.returns-in_default
returns-in_default c = reads_nothing _ _ c.cell.ensures c.if-address-gt-LAST.false c.in_default.in_default-own.rest
