-- The event word, a bit for each event.
use Rattle.std.specs.Prelude.{ℕ, zero, suc, ◌/◌, ◌%◌, ◌^◌, ◌<◌, ◌≡◌, Bool, true, false, cond, not, ◌&&◌, ◌||◌, ◌↔◌, ◌⊎◌, eqb, ltb}
use Rattle.std.specs.Int.Bits.{bit_and, bit_or, bit_xor}
use Rattle.buffers.specs.declared.events.Events.{Events}

-- the event numbers are those below the width
abbrev pub width : ℕ
width = 16

-- DATA_EXCH entered or left
abbrev pub data_exchange_event : ℕ
data_exchange_event = 1

-- the watchdog ran out
abbrev pub watchdog_event : ℕ
watchdog_event = 3

-- a new Global_Control octet
abbrev pub control_event : ℕ
control_event = 8

-- a configuration set is open
abbrev pub configuration_event : ℕ
configuration_event = 10

-- a parameter set is open
abbrev pub parameters_event : ℕ
parameters_event = 11

-- the diagnosis buffers changed
abbrev pub diagnosis_event : ℕ
diagnosis_event = 12

-- outputs were published
abbrev pub outputs_event : ℕ
outputs_event = 13

-- the events that end with the set that is open, never by being acknowledged
abbrev pub kept_events : ℕ
kept_events = bit_or (2 ^ configuration_event) (2 ^ parameters_event)

-- whether bit n of a word is set
unfoldable pub bit : ℕ → ℕ → Bool
bit w n = eqb (w / 2 ^ n % 2) 1

-- a word without the bits of a mask
abbrev pub without : ℕ → ℕ → ℕ
without w mask = bit_xor w (bit_and w mask)

-- no event
abbrev pub no_events : Events
no_events = record { word = 0 }

-- event n alone; a number that the word has no bit for gives none
abbrev pub only : ℕ → Events
only n = record { word = cond (ltb n width) (2 ^ n) 0 }

-- event n is set beside the others
abbrev pub raised : Events → ℕ → Events
raised e n = record { word = bit_or e.word (only n).word }

-- event n is not set any more
abbrev pub cleared : Events → ℕ → Events
cleared e n = record { word = without e.word (only n).word }

-- the mask's events are not set any more, but for those that are kept
abbrev pub acknowledged : Events → ℕ → Events
acknowledged e mask = record { word = without e.word (without mask kept_events) }

-- the smallest of the k numbers from n on whose bit is set in a word, or n + k if none is
unfoldable pub smallest_from : ℕ → ℕ → ℕ → ℕ
smallest_from w n zero = n
smallest_from w n (suc k) = cond (bit w n) n (smallest_from w (suc n) k)

-- what Pending answers: the smallest number of a set event, or the width for none
abbrev pub pending_of : Events → ℕ
pending_of e = smallest_from e.word 0 width

-- an event that ends with its set: 10 or 11
abbrev pub ends_with_set : ℕ → Bool
ends_with_set n = eqb configuration_event n || eqb parameters_event n

-- "Acknowledge (mask) clears bits, never 10 or 11"
abbrev pub AcknowledgeClears : Type 0
AcknowledgeClears = (e : Events) (mask n : ℕ) → bit (acknowledged e mask).word n ≡ (bit e.word n && not (bit mask n && not (ends_with_set n)))

-- n is the smallest number of a set event of a word: event n is set, and none below it is; the width stands for none
pub record SmallestSet (w n : ℕ) : Type 0 where
  pub set_or_none : ((n < width) × (bit w n ≡ true)) ⊎ (n ≡ width)
  pub none_below : (k : ℕ) → k < n → bit w k ≡ false

-- a function answers n exactly if n is the smallest number of a set event
abbrev pub AnswersSmallest : (Events → ℕ) → Type 0
AnswersSmallest answer = (e : Events) (n : ℕ) → (answer e ≡ n) ↔ SmallestSet e.word n

-- "Pending returns the smallest number of a set event" (document 02, Req 06), and nothing is left to choose: whatever answers so answers the same
pub record PendingExactly : Type 0 where
  pub smallest : AnswersSmallest pending_of
  pub no_choice : (answer : Events → ℕ) → AnswersSmallest answer → (e : Events) → answer e ≡ pending_of e
