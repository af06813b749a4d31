-- What the exported bench loop promises: whether the memory was well, and the whole memory after the call.
use Rattle.std.specs.Prelude.{ℕ, ◌≡◌, cond, List, ℤ, pos}
use Rattle.steps.specs.Calls.{well_memory, memory_after}
use Rattle.rules.specs.Call.{Call}

-- 1 for a memory m that is well and 0 for any other; the memory that the exported calls cs leave
pub record Returns (m : List ℕ) (cs : List Call) (number : ℤ) (memory : List ℕ) : Type 0 where
  pub numbers : number ≡ pos (cond (well_memory m) 1 0)
  pub leaves : memory ≡ memory_after m cs
