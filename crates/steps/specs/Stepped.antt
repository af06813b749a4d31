-- What a step makes of a state and a memory, and what a call tells of it.
use Rattle.std.specs.Prelude.{ℕ, ◌≡◌, List, Ok, Err}
use Rattle.state.specs.Answer.{Answer}
use Rattle.state.specs.declared.answer.Refusal.{Refusal}
use Rattle.state.specs.declared.state.State.{State}
use Rattle.state.specs.Memory.{kept}

-- the state, and the memory, of which only what lies behind the image of the state counts
pub record Stepped : Type 0 where
  pub state : State
  pub memory : List ℕ

-- the state s and the memory m after the step are those
pub record Steps (r : Stepped) (s : State) (m : List ℕ) : Type 0 where
  pub states : s ≡ r.state
  pub leaves : m ≡ r.memory

-- a step that changes nothing
abbrev pub unchanged : State → List ℕ → Stepped
unchanged s m = record { state = s; memory = m }

-- the memory with the state packed in front again
abbrev pub packed_after : Stepped → List ℕ
packed_after r = kept r.state r.memory

-- what a call answers, and what it leaves
pub record Told : Type 0 where
  pub answer : Answer
  pub state : State
  pub memory : List ℕ

-- a call that answers a value
abbrev pub told : ℕ → State → List ℕ → Told
told n s m = record { answer = Ok n; state = s; memory = m }

-- a refused call answers its number and changes nothing
abbrev pub refusing : Refusal → State → List ℕ → Told
refusing why s m = record { answer = Err why; state = s; memory = m }

-- a step that answers a value
abbrev pub told_of : ℕ → Stepped → Told
told_of n r = told n r.state r.memory

-- the answer a, the state x and the memory n after the call are those
pub record Tells (t : Told) (a : Answer) (x : State) (n : List ℕ) : Type 0 where
  pub answers : a ≡ t.answer
  pub states : x ≡ t.state
  pub leaves : n ≡ t.memory
