-- A call's answer as a number, and what is behind an access by such a call.
use Prim.Native.Nat.{ℕ}
use mathlib.Core.Path.{◌≡◌, sym, ap, subst, ◌∙◌}
use mathlib.Core.List.{List}
use lib.IntN.{ℤ}
use Rattle.state.specs.declared.control.Control.{Control}
use Rattle.state.specs.Answer.{Answer, Called, Meets, answer_number}
use Rattle.state.specs.Unpack.{unpacked}
use Rattle.rules.specs.Call.{Call}
use Rattle.steps.specs.Calls.{called}
use Rattle.window.specs.declared.command.Command.{Command}
use Rattle.window.specs.declared.order.Order.{Order}
use Rattle.window.specs.Entries.{Entry}
use Rattle.window.specs.Table.{whole, Behind, calls, behind}
use Rattle.window.specs.Command.{commanded}
use Rattle.window.specs.Calls.{entered_by, entered}
use Rattle.window.proofs.Entered.{entered_call}
use Rattle.card.specs.Exports.{Returns}

pub exported : {k : Called} {a : Answer} {z : ℤ} {m : List ℕ} → Meets k a m → z ≡ answer_number a → Returns k z m
exported h e = record { numbers = e ∙ ap answer_number h.answers; leaves = h.leaves }

-- the number of an exported call, handed on
pub handed_on : {k : Called} {z n : ℤ} {m : List ℕ} → n ≡ z → Returns k z m → Returns k n m
handed_on e h = record { numbers = e ∙ h.numbers; leaves = h.leaves }

module _ (m : List ℕ) {z : ℤ} {left : List ℕ} where
  -- an exported call is what is behind an access
  pub by_call : (c : Call) → Returns (called m c) z left → Returns (entered_by m (calls c whole)) z left
  by_call c = subst (λ (x : Called). Returns x z left) (sym (entered_call m c whole))

  -- that has this command
  pub by_command : (k : Control) (command found : Command) → command ≡ found → Returns (entered_by m (commanded k found)) z left
      → Returns (entered_by m (commanded k command)) z left
  by_command k command found e = subst (λ (x : Command). Returns (entered_by m (commanded k x)) z left) (sym e)

  -- so is the command that was found behind an access in an order
  pub by_access : (access : Order → Entry) {found given : Order} (command : Command) → ((k : Control) → commanded k command ≡ behind k (access found))
      → found ≡ given → Returns (entered_by m (commanded (unpacked m).control command)) z left → Returns (entered m (access given)) z left
  by_access access command finds e =
      subst (λ (b : Behind). Returns (entered_by m b) z left)
      (finds (unpacked m).control ∙ ap (λ (o : Order). behind (unpacked m).control (access o)) e)
