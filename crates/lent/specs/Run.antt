-- Octets, gaps and Ticks: run on the unpacked state, and by the exported calls on the packed memory.
use Rattle.std.specs.Prelude.{ℕ, zero, suc, ◌≡◌, Bool, true, false, List, [], ◌∷◌, ◌++◌, map, length, replicate, Ok}
use Rattle.state.specs.declared.setup.Setup.{Setup}
use Rattle.state.specs.declared.state.State.{State}
use Rattle.state.specs.Memory.{kept, Holds}
use Rattle.state.specs.Unpack.{unpacked}
use Rattle.ledger.specs.Ledger.{fresh}
use Rattle.rules.specs.Call as call
use Rattle.ledger.specs.Calls as ledger
use Rattle.rules.specs.Call.{Call}
use Rattle.ledger.specs.Calls.{after}
use Rattle.steps.specs.Stepped.{Stepped, unchanged}
use Rattle.steps.specs.Reading.{heard}
use Rattle.steps.specs.Bus.{paused, elapsed}
use Rattle.steps.specs.Calls.{well_memory, answers, memory_after}
use Rattle.steps.specs.Demand1.{Undamaged}
use Rattle.agreement.specs.Agreement.{memory_of, FromStart}

-- what the bus does
pub data Beat : Type 0 where
  octet : ℕ → Bool → Beat
  gap : Beat
  tick : Beat

-- on the unpacked state and the memory
abbrev pub beat : State → List ℕ → Beat → Stepped
beat s m (octet b bad) = heard s m b bad
beat s m gap = paused s m
beat s m tick = elapsed s m

-- one after the other, nothing packed in between
abbrev pub run_beats : State → List ℕ → List Beat → Stepped
run_beats s m [] = unchanged s m
run_beats s m (b ∷ bs) = run_beats (beat s m b).state (beat s m b).memory bs

-- octets that were well received
abbrev pub well_received : List ℕ → List Beat
well_received [] = []
well_received (b ∷ bs) = octet b false ∷ well_received bs

-- n Ticks
abbrev pub ticks : ℕ → List Beat
ticks zero = []
ticks (suc n) = tick ∷ ticks n

-- a telegram after a gap, then n Ticks
abbrev pub turn : List ℕ → ℕ → List Beat
turn telegram n = gap ∷ well_received telegram ++ ticks n

-- the exported call for it
abbrev pub call_of : Beat → Call
call_of (octet b bad) = call.octet b bad
call_of gap = call.gap
call_of tick = call.tick

-- and for a list of them
abbrev pub calls : List Beat → List Call
calls = map call_of

-- the unpacked run from the state in the memory m, packed at its end
abbrev pub packed_run : List ℕ → List Beat → List ℕ
packed_run m bs = kept (run_beats (unpacked m) m bs).state (run_beats (unpacked m) m bs).memory

-- it leaves the memory that the exported calls leave, and each of these answers 0
pub record Same (m : List ℕ) (bs : List Beat) : Type 0 where
  pub image_is : packed_run m bs ≡ memory_after m (calls bs)
  pub answers_are : answers m (calls bs) ≡ replicate (length bs) (Ok 0)
  pub well_still : well_memory (packed_run m bs) ≡ true
  pub holds_still : Holds (packed_run m bs) (run_beats (unpacked m) m bs).state

-- so it is on every memory that nobody damaged
abbrev pub LentSame : Type 0
LentSame = (m : List ℕ) → Undamaged m → (bs : List Beat) → Same m bs

-- demand 3 carries over: after Start and any calls the state is unpacked, lent for any octets, gaps and Ticks and packed
-- again, and every call from then on answers as the ledger does
pub record CarriesOver (m : List ℕ) (s : Setup) (slice lengths : List ℕ) : Type 0 where
  pub same : (pre : List Call) (bs : List Beat) → Same (memory_after (memory_of m s slice lengths) pre) bs
  pub agree : (pre : List Call) (bs : List Beat) (cs : List Call)
      → answers (packed_run (memory_after (memory_of m s slice lengths) pre) bs) cs ≡ ledger.answers (after (fresh s slice) (pre ++ calls bs)) cs

-- so it is where demand 3 is claimed
abbrev pub Demand3CarriesOver : Type 0
Demand3CarriesOver = FromStart CarriesOver
