-- What the exported functions promise: the number of the answer and the whole memory after the call.
use Rattle.std.specs.Prelude.{◌≡◌, List, ℕ, ℤ}
use Rattle.state.specs.Answer.{Called, answer_number}

-- a value as itself, a refusal negated; the memory that the call leaves
pub record Returns (c : Called) (number : ℤ) (memory : List ℕ) : Type 0 where
  pub numbers : number ≡ answer_number c.answer
  pub leaves : memory ≡ c.memory
