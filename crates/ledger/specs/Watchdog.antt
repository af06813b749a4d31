-- The watchdog that a Set_Prm switches on (document 02, Req 07), in the octets of the telegram, for every ledger, and what holds of it after every
-- list of calls. What is said of `completed` is so before a clear that was noted is carried out (Bus.antt: heard_as), which the reply puts off.
use Rattle.std.specs.Prelude.{ℕ, ◌+◌, ◌-◌, ◌*◌, ◌≤◌, ◌<◌, ◌≡◌, true, false, ◌&&◌, List, [], ◌∷◌, ◌⊎◌, length, get_or, replicate}
use Rattle.buffers.specs.Events.{watchdog_event}
use Rattle.telegram.specs.Telegram.{Telegram, payload_of, Octets}
use Rattle.state.specs.declared.setup.Setup.{Setup}
use Rattle.state.specs.declared.control.Phase.TheVariants.{WaitPrm, WaitCfg}
use Rattle.state.specs.Sound.{Within}
use Rattle.rules.specs.declared.request.Request.{Request}
use Rattle.rules.specs.declared.request.Service.TheVariants.{SetPrm}
use Rattle.rules.specs.Call.{Call, tick}
use Rattle.rules.specs.Control.{bit, owns}
use Rattle.rules.specs.Diagnosis.{status2}
use Rattle.rules.specs.Line.{with_remaining}
use Rattle.rules.specs.Requests.{master_of, to_station, acts, service_of}
use Rattle.rules.specs.Retries.{is_repeat}
use Rattle.rules.specs.Services.{other_owns}
use Rattle.rules.specs.Watchdog.{TicksWithin}
use Rattle.ledger.specs.Ledger.{Ledger, with_control, busy, fresh}
use Rattle.ledger.specs.Bus.{request_by, outcome_of, completed}
use Rattle.ledger.specs.Calls.{step, after}
use Rattle.ledger.specs.EventsFollow.{event_set}
use Rattle.ledger.specs.Octets.{AllOctets}
use Rattle.ledger.specs.ReadBack.{StartTakes}

-- data octet i of a telegram, DSAP and SSAP left out; 0 where it is not there
abbrev pub datum : Telegram → ℕ → ℕ
datum t i = get_or (payload_of t) i 0

-- a Set_Prm that passes every test but that of the factors: it repeats nothing, no other master owns, it has 7 octets to the set length, bit 6
-- of octet 0 is clear and bit 7 set, and octets 4 and 5 are the ident
pub record Passes (l : Ledger) (t : Telegram) : Type 0 where
  pub service : service_of l.setup (request_by t) ≡ SetPrm
  pub new : is_repeat l.setup l.control (request_by t) ≡ false
  pub free : other_owns l.control (master_of (request_by t)) ≡ false
  pub count : Within 7 (length (payload_of t)) l.setup.parameter_len
  pub no_unlock : bit (datum t 0) 6 ≡ false
  pub locks : bit (datum t 0) 7 ≡ true
  pub ident : 256 * datum t 4 + datum t 5 ≡ l.setup.ident

-- no factor is 0, and not both are 1
pub record GoodFactors (t : Telegram) : Type 0 where
  pub first : datum t 1 ≡ 0 → ⊥
  pub second : datum t 2 ≡ 0 → ⊥
  pub not_both : (datum t 1 ≡ 1) × (datum t 2 ≡ 1) → ⊥

-- "octet 1 or 2 zero or both 1"
abbrev pub BadFactors : Telegram → Type 0
BadFactors t = (datum t 1 ≡ 0) ⊎ ((datum t 2 ≡ 0) ⊎ ((datum t 1 ≡ 1) × (datum t 2 ≡ 1)))

-- the watchdog is refilled to n ticks, and n remain
pub record Counts (l : Ledger) (n : ℕ) : Type 0 where
  pub reload : l.control.watchdog.reload ≡ n
  pub remaining : l.control.watchdog.remaining ≡ n

-- the Set_Prm is taken: WAIT_CFG, its master owns, no Prm_Fault
pub record Taken (l : Ledger) (t : Telegram) : Type 0 where
  pub phase : (completed l t).control.phase ≡ WaitCfg
  pub owner : (completed l t).control.owner ≡ master_of (request_by t)
  pub no_fault : (completed l t).control.flags.prm_fault ≡ false

-- with bit 3 of octet 0: "1 or 10 times their product"
pub record SwitchedOn (l : Ledger) (t : Telegram) : Type 0 where
  pub taken : Taken l t
  -- "octet 7 of Set_Prm, bit 2 set for a 1 ms base"
  pub fast : 8 ≤ length (payload_of t) → bit (datum t 7) 2 ≡ true → Counts (completed l t) (datum t 1 * datum t 2)
  -- with bit 2 clear it is 10 ms, whatever its other bits are,
  pub slow : 8 ≤ length (payload_of t) → bit (datum t 7) 2 ≡ false → Counts (completed l t) (10 * (datum t 1 * datum t 2))
  -- and "without octet 7 the base is 10 ms"
  pub absent : length (payload_of t) < 8 → Counts (completed l t) (10 * (datum t 1 * datum t 2))
  -- diagnosis octet 1, bit 3
  pub shown : bit (status2 (completed l t).control) 3 ≡ true

-- without it the watchdog is off, whatever the factors are
pub record SwitchedOff (l : Ledger) (t : Telegram) : Type 0 where
  pub taken : Taken l t
  pub off : Counts (completed l t) 0
  pub shown : bit (status2 (completed l t).control) 3 ≡ false

-- a fault: E5, Prm_Fault, WAIT_PRM, and no watchdog is on
pub record Faults (l : Ledger) (t : Telegram) : Type 0 where
  pub e5 : (completed l t).line.reply ≡ 0xE5 ∷ []
  pub flagged : (completed l t).control.flags.prm_fault ≡ true
  pub leaves : (completed l t).control.phase ≡ WaitPrm
  pub off : Counts (completed l t) 0
  pub shown : bit (status2 (completed l t).control) 3 ≡ false

-- of octet 7 nothing but bit 2 is looked at, and that only if there are 8 data octets; octet 3 and those behind octet 7 are not looked at: telegrams
-- with one header that agree in octets 0 to 6 but for 3, and in that bit where it is there, have the same outcome. (The data that is shown differs.)
abbrev pub NothingElse : Type 0
NothingElse =
    (l : Ledger) (r : Request) (ds es : List ℕ)
    → ((i : ℕ) → i < 7 → (i ≡ 3 → ⊥) → get_or ds i 0 ≡ get_or es i 0)
    → (8 ≤ r.count → bit (get_or ds 7 0) 2 ≡ bit (get_or es 7 0) 2)
    → outcome_of l r ds ≡ outcome_of l r es

-- n ticks that remain are counted down one by one by Ticks of 1 ms
pub record Expires (l : Ledger) (n : ℕ) : Type 0 where
  -- up to the last one nothing else changes
  pub counts_down : (k : ℕ) → k < n → after l (replicate k tick) ≡ with_control l (with_remaining l.control (n - k))
  -- and that one brings event 3 and a clear, which is noted on a busy line
  pub told : event_set (after l (replicate n tick)) watchdog_event ≡ true
  pub cleared : busy l ≡ false → (after l (replicate n tick)).control.phase ≡ WaitPrm
  pub noted : busy l ≡ true → (after l (replicate n tick)).control.noted ≡ true

-- after a complete telegram the watchdog is refilled to what it was refilled to before, and n ticks remain; or WAIT_PRM has switched it off; or the
-- telegram is a Set_Prm that passes every test but that of the factors
pub record Leaves (l : Ledger) (t : Telegram) (n : ℕ) : Type 0 where
  pub leaves :
      (((completed l t).control.watchdog.reload ≡ l.control.watchdog.reload) × ((completed l t).control.watchdog.remaining ≡ n))
      ⊎ ((((completed l t).control.phase ≡ WaitPrm) × Counts (completed l t) 0) ⊎ Passes l t)

-- "refilled by each acting telegram of the owner to this address", and by no other telegram
pub record Refills (l : Ledger) (t : Telegram) : Type 0 where
  pub owners : acts l.setup (request_by t) && to_station l.setup (request_by t) && owns l.control (master_of (request_by t)) ≡ true
      → Leaves l t l.control.watchdog.reload
  pub others : acts l.setup (request_by t) && to_station l.setup (request_by t) && owns l.control (master_of (request_by t)) ≡ false
      → Leaves l t l.control.watchdog.remaining

-- after every list of calls that brings octets, from a Start with a slice of octets and an ident number of 16 bits: at most 650,250 ticks, and no
-- more remain than it is refilled to
abbrev pub TicksAlways : Type 0
TicksAlways =
    (s : Setup) (slice : List ℕ) (cs : List Call) → StartTakes s slice → Octets slice → s.ident < 65536 → AllOctets cs
    → TicksWithin (after (fresh s slice) cs).control.watchdog

-- all of it
pub record WatchdogBase : Type 0 where
  pub switched_on : (l : Ledger) (t : Telegram) → Passes l t → bit (datum t 0) 3 ≡ true → GoodFactors t → SwitchedOn l t
  pub switched_off : (l : Ledger) (t : Telegram) → Passes l t → bit (datum t 0) 3 ≡ false → SwitchedOff l t
  -- "on either base"
  pub faults : (l : Ledger) (t : Telegram) → Passes l t → bit (datum t 0) 3 ≡ true → BadFactors t → Faults l t
  pub nothing_else : NothingElse
  -- with the watchdog on, "In WAIT_CFG or DATA_EXCH", and no clear noted, whether the line is busy or not
  pub expires : (l : Ledger) (n : ℕ) → (l.control.phase ≡ WaitPrm → ⊥) → (l.control.watchdog.reload ≡ 0 → ⊥) → l.control.noted ≡ false
      → l.control.watchdog.remaining ≡ n → 1 ≤ n → Expires l n
  -- in WAIT_PRM, or with the watchdog off, a Tick does nothing
  pub rests : (l : Ledger) → (l.control.phase ≡ WaitPrm) ⊎ (l.control.watchdog.reload ≡ 0) → l.control.noted ≡ false → (step l tick).ledger ≡ l
  pub refills : (l : Ledger) (t : Telegram) → Refills l t
  pub ticks_always : TicksAlways
