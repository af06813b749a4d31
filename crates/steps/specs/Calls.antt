-- The calls over the one lent memory: what each checks of the whole memory first, and then its step. A call is a promise about the
-- answer and the whole memory, refusals too.
use Rattle.std.specs.Prelude.{ℕ, ◌%◌, Bool, cond, not, ◌&&◌, List, eqb, ltb, length, Ok, Result, Err}
use Rattle.state.specs.declared.answer.Refusal.{Refusal}
use Rattle.state.specs.declared.answer.Refusal.TheVariants.{MemoryLength, Room, Damaged}
use Rattle.state.specs.declared.setup.Setup.{Setup}
use Rattle.state.specs.Answer.{Answer, Called, refused}
use Rattle.state.specs.Layout.{last_end}
use Rattle.channels.specs.Setting.{lengths_given}
use Rattle.state.specs.Memory.{holds_state}
use Rattle.state.specs.Start.{asked, laid_out}
use Rattle.state.specs.Well.{within}
use Rattle.rules.specs.Call.{Call}
use Rattle.rules.specs.Runs.{answers_to, left_by}
use Rattle.steps.specs.Step.{step_over}

-- "1,536 to 4,096 octets, a multiple of 8", and "The memory may be up to 16,384 octets" (document 02, Req 08)
unfoldable pub length_ok : ℕ → Bool
length_ok n = within 1536 n 16384 && eqb (n % 8) 0

-- "4 buffers end beyond the memory"; else the buffers are wiped, the channels set up and the first state stands in front. lengths: of the
-- channels
unfoldable pub started_in : List ℕ → Setup → List ℕ → List ℕ → Called
started_in m s slice lengths =
    cond (ltb (length m) (last_end (lengths_given lengths) s)) (refused m Room) (record { answer = Ok 0; memory = laid_out m s slice lengths })

-- a setup that is accepted is laid out, and a refusal is the answer
abbrev pub started_as : List ℕ → List ℕ → List ℕ → Result Setup Refusal → Called
started_as m slice lengths (Ok s) = started_in m s slice lengths
started_as m slice lengths (Err why) = refused m why

-- Start; "checks go upward": 1 the memory's length here, 2 and 3 in asked, 4 in started_in
unfoldable pub started : List ℕ → Setup → List ℕ → List ℕ → Called
started m s slice lengths =
    cond (not (length_ok (length m))) (refused m MemoryLength) (started_as m slice lengths (asked s lengths))

-- a memory is damaged where this fails: its length, or the state that it holds
unfoldable pub well_memory : List ℕ → Bool
well_memory m = length_ok (length m) && holds_state m

-- a call: 5 if the memory is damaged, else its step
unfoldable pub called : List ℕ → Call → Called
called m c = cond (well_memory m) (step_over m c) (refused m Damaged)

-- the answers to a list of calls over a memory
abbrev pub answers : List ℕ → List Call → List Answer
answers = answers_to (λ m c. (called m c).answer) (λ m c. (called m c).memory)

-- and the memory that they leave
abbrev pub memory_after : List ℕ → List Call → List ℕ
memory_after = left_by (λ m c. (called m c).memory)
