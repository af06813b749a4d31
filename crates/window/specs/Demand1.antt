-- Demand 1 with accesses: what is promised of every call and every access on any memory, well or damaged. That each has an
-- answer, and which, and that the exported functions give it with no condition on the caller, are their contracts (card/src/lib.rt), which
-- cite `started`, `called` and `entered`.
use Rattle.std.specs.Prelude.{ℕ, ◌+◌, ◌*◌, ◌^◌, ◌<◌, ◌≡◌, List, ◌↔◌, ◌⊎◌, Ok, Err}
use Rattle.telegram.specs.Telegram.{Octets}
use Rattle.state.specs.Answer.{Answer}
use Rattle.state.specs.declared.answer.Refusal.{Refusal}
use Rattle.state.specs.declared.answer.Refusal.TheVariants.{Damaged, Judging, Delayed, Cell}
use Rattle.state.specs.declared.control.Control.{Control}
use Rattle.buffers.specs.Events.{width}
use Rattle.rules.specs.Call.{Call}
use Rattle.steps.specs.Calls.{called}
use Rattle.steps.specs.Demand1.{Undamaged}
use Rattle.ledger.specs.Ledger.{Ledger}
use Rattle.window.specs.declared.order.Order.{Order}
use Rattle.window.specs.declared.order.Order.TheVariants.{Intel}
use Rattle.window.specs.Order.{cell_at}
use Rattle.window.specs.Entries.{Entry, call, window_read, window_write}
use Rattle.window.specs.Calls.{entered}
use Rattle.window.specs.Translation.{step}

-- an access at an address above 015H
abbrev pub Above : Entry → Type 0
Above (call c) = ⊥
Above (window_read order address) = 0x15 < address
Above (window_write order address x) = 0x15 < address

-- what reading a cell may answer: a value, or refused by 6 or 9
abbrev pub ReadAnswer : Answer → Type 0
ReadAnswer (Ok n) = Unit
ReadAnswer (Err why) = (why ≡ Judging) ⊎ (why ≡ Delayed)

-- what an access to a cell may answer: "every window write answers 0"; of a call of the station nothing is said here
abbrev pub AccessAnswer : Entry → Answer → Type 0
AccessAnswer (call c) a = Unit
AccessAnswer (window_read order address) a = ReadAnswer a
AccessAnswer (window_write order address x) a = a ≡ Ok 0

-- the same access in Intel's order
abbrev pub in_intel : Entry → Entry
in_intel (call c) = call c
in_intel (window_read order address) = window_read Intel (cell_at order address)
in_intel (window_write order address x) = window_write Intel (cell_at order address) x

-- two control parts with the same count and flags of the diagnosis in force
pub record SamePresent (c d : Control) : Type 0 where
  pub count : c.diagnosis.count ≡ d.diagnosis.count
  pub ext_diag : c.flags.ext_diag ≡ d.flags.ext_diag
  pub stat_diag : c.flags.stat_diag ≡ d.flags.stat_diag
  pub overflow : c.flags.overflow ≡ d.flags.overflow

-- the two octets that 02H and 03H read make up the event word
pub record EventsWhole (l : Ledger) (order : Order) : Type 0 where
  pub low : ℕ
  pub high : ℕ
  pub reads_low : (step l (window_read order (cell_at order 0x02))).answer ≡ Ok low
  pub reads_high : (step l (window_read order (cell_at order 0x03))).answer ≡ Ok high
  pub make_up : low + 256 * high ≡ l.control.events.word

-- all of it
pub record Demand1 : Type 0 where
  -- a call of the station is as an entry what it is alone
  pub calls_stay : (m : List ℕ) (c : Call) → entered m (call c) ≡ called m c
  -- an entry on a memory of octets answers 5 exactly if the memory is damaged
  pub damage_check : (m : List ℕ) (e : Entry) → Octets m → ((entered m e).answer ≡ Err Damaged) ↔ ¬ Undamaged m
  -- "each leaves memory unchanged"
  pub refusals_leave : (m : List ℕ) (e : Entry) (why : Refusal) → (entered m e).answer ≡ Err why → (entered m e).memory ≡ m
  -- no entry damages a memory, whatever led to it
  pub stays_undamaged : (m : List ℕ) (e : Entry) → Undamaged m → Undamaged (entered m e).memory
  -- "An address above 015H is refused by 10, checked after 5"; no other entry is
  pub above_refused : (m : List ℕ) (e : Entry) → Undamaged m → ((entered m e).answer ≡ Err Cell) ↔ Above e
  -- up to 015H a read is refused by 6 or 9 alone, and a write answers 0
  pub access_answers : (m : List ℕ) (e : Entry) → Undamaged m → ¬ Above e → AccessAnswer e (entered m e).answer
  -- "What holds for a cell is shown for both orders together": an access in either order is Intel's access to the cell that the order
  -- has there, and each order has every cell at one address
  pub orders_alike : (m : List ℕ) (e : Entry) → entered m e ≡ entered m (in_intel e)
  pub exchanges : (order : Order) (cell : ℕ) → cell_at order (cell_at order cell) ≡ cell
  -- "a new diagnosis with the present count and flags": whatever it answers, reading 0DH leaves both
  pub present_stays : (l : Ledger) (order : Order) → SamePresent (step l (window_read order 0x0D)).ledger.control l.control
  -- "bits 7 to 0 of Events", "bits 15 to 8"
  pub events_whole : (l : Ledger) (order : Order) → l.control.events.word < 2 ^ width → EventsWhole l order
