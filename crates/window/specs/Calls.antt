-- The entries of a list over the one lent memory: a promise about the answer and the whole memory, refusals too.
use Rattle.std.specs.Prelude.{ℕ, cond, List}
use Rattle.state.specs.declared.answer.Refusal.TheVariants.{Damaged}
use Rattle.state.specs.Answer.{Answer, Called, refused}
use Rattle.state.specs.Unpack.{unpacked}
use Rattle.rules.specs.Runs.{answers_to, left_by}
use Rattle.steps.specs.Step.{step_over}
use Rattle.steps.specs.Calls.{well_memory}
use Rattle.window.specs.Entries.{Entry}
use Rattle.window.specs.Table.{Behind, answer_behind, left_behind, behind}

-- what is behind an entry, made over a memory that holds a state
abbrev pub made : List ℕ → Behind → Called
made m b = record { answer = answer_behind (λ c. (step_over m c).answer) b; memory = left_behind (λ c. (step_over m c).memory) m b }

-- 5 if the memory is damaged, else that
unfoldable pub entered_by : List ℕ → Behind → Called
entered_by m b = cond (well_memory m) (made m b) (refused m Damaged)

-- an entry: what is behind it, with the diagnosis that the memory's state has in force
abbrev pub entered : List ℕ → Entry → Called
entered m e = entered_by m (behind (unpacked m).control e)

-- the answers to a list of entries over a memory
abbrev pub answers : List ℕ → List Entry → List Answer
answers = answers_to (λ m e. (entered m e).answer) (λ m e. (entered m e).memory)

-- and the memory that they leave
abbrev pub memory_after : List ℕ → List Entry → List ℕ
memory_after = left_by (λ m e. (entered m e).memory)
