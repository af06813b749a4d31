-- Sync and freeze over whole lists of calls (document 02, Req 01): where the modes can be on, and where something can be held back.
use Rattle.std.specs.Prelude.{◌≡◌, true, false, List, ℕ}
use Rattle.state.specs.declared.setup.Setup.{Setup}
use Rattle.rules.specs.Call.{Call}
use Rattle.rules.specs.Control.{in_exchange}
use Rattle.ledger.specs.Ledger.{Ledger, fresh}
use Rattle.ledger.specs.Calls.{after}

-- what holds of a ledger's modes
pub record ModesKept (l : Ledger) : Type 0 where
  -- "Entering WAIT_PRM or leaving DATA_EXCH ends both modes and empties what is held back": outside DATA_EXCH there is none of it
  pub sync_ends : in_exchange l.control ≡ false → l.control.modes.sync ≡ false
  pub freeze_ends : in_exchange l.control ≡ false → l.control.modes.freeze ≡ false
  -- something is held back in sync alone, so neither outside DATA_EXCH nor after an unsync
  pub held_back_in_sync : l.buffers.outputs.withheld ≡ true → l.control.modes.sync ≡ true
  -- a mode that is on is one that Set_Prm allowed
  pub sync_allowed : l.control.modes.sync ≡ true → l.control.modes.sync_allowed ≡ true
  pub freeze_allowed : l.control.modes.freeze ≡ true → l.control.modes.freeze_allowed ≡ true

-- after every list of calls
abbrev pub ModesAlways : Type 0
ModesAlways = (s : Setup) (slice : List ℕ) (cs : List Call) → ModesKept (after (fresh s slice) cs)
