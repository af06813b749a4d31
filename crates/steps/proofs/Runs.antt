-- A list of calls over a memory in two parts.
use Prim.Native.Nat.{ℕ}
use mathlib.Core.Path.{◌≡◌}
use mathlib.Core.List.{List, ◌++◌}
use Rattle.rules.proofs.Runs.{left_append}
use Rattle.rules.specs.Call.{Call}
use Rattle.steps.specs.Calls.{called, memory_after}

pub memory_append : (m : List ℕ) (xs ys : List Call) → memory_after m (xs ++ ys) ≡ memory_after (memory_after m xs) ys
memory_append = left_append (λ m c. (called m c).memory)
