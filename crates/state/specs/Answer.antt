-- What a call answers and leaves, and the numbers of the answers.
use Rattle.std.specs.Prelude.{ℕ, ◌≡◌, List, ℤ, pos, neg_ℤ, Result, Ok, Err}
use Rattle.state.specs.declared.answer.Refusal.{Refusal}
use Rattle.state.specs.declared.answer.Refusal.TheVariants.{MemoryLength, Address, Length, Room, Damaged, Judging, Range, Absent, Delayed, Cell}

-- "Numbers by who causes them"
abbrev pub refusal_number : Refusal → ℕ
refusal_number MemoryLength = 1
refusal_number Address = 2
refusal_number Length = 3
refusal_number Room = 4
refusal_number Damaged = 5
refusal_number Judging = 6
refusal_number Range = 7
refusal_number Absent = 8
refusal_number Delayed = 9
refusal_number Cell = 10

-- a value, or why the call is refused
abbrev pub Answer : Type 0
Answer = Result ℕ Refusal

-- "a refusal reaches it negated"
abbrev pub answer_number : Answer → ℤ
answer_number (Ok n) = pos n
answer_number (Err why) = neg_ℤ (pos (refusal_number why))

-- what a call answers, and the whole memory after it
pub record Called : Type 0 where
  pub answer : Answer
  pub memory : List ℕ

-- a call that answers a and leaves m does so
pub record Meets (c : Called) (a : Answer) (m : List ℕ) : Type 0 where
  pub answers : a ≡ c.answer
  pub leaves : m ≡ c.memory

-- "each leaves memory unchanged and returns its number alone"
abbrev pub refused : List ℕ → Refusal → Called
refused m why = record { answer = Err why; memory = m }
