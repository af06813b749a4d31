-- Sync and freeze (document 02, Req 01): what the modes make of a Data_Exchange, what Global_Control commands, and where they end.
use Rattle.std.specs.Prelude.{ℕ, Bool, true, false, cond, not, ◌&&◌, ◌||◌}
use Rattle.buffers.specs.declared.events.Events.{Events}
use Rattle.buffers.specs.Events.{raised, outputs_event}
use Rattle.state.specs.declared.control.Modes.{Modes}
use Rattle.rules.specs.declared.outcome.OutputsDeed.{OutputsDeed}
use Rattle.rules.specs.declared.outcome.OutputsDeed.TheVariants as outputs-deed
use Rattle.rules.specs.declared.outcome.InputsDeed.{InputsDeed}
use Rattle.rules.specs.declared.outcome.InputsDeed.TheVariants as inputs-deed
use Rattle.rules.specs.Control.{bit}

-- both modes end; what Set_Prm allowed stays until the next good one
abbrev pub ended_modes : Modes → Modes
ended_modes m =
    record { sync = false; freeze = false; sync_allowed = m.sync_allowed; freeze_allowed = m.freeze_allowed }

-- "Set_Prm bits 5 and 4 now allow them", by octet 0 of a good Set_Prm
abbrev pub allowed_modes : Modes → ℕ → Modes
allowed_modes m status =
    record { sync = m.sync; freeze = m.freeze; sync_allowed = bit status 5; freeze_allowed = bit status 4 }

-- a Data_Exchange: in sync its outputs are held back, else published
abbrev pub exchange_outputs : Modes → OutputsDeed
exchange_outputs m = cond m.sync outputs-deed.HoldBack outputs-deed.Publish

-- and new inputs come to the sending buffer, but not while frozen
abbrev pub exchange_inputs : Modes → InputsDeed
exchange_inputs m = cond m.freeze inputs-deed.Keep inputs-deed.Bring

-- a mode by its pair of bits: "The bits of a pair not allowed by Set_Prm are ignored", "Both bits of a pair: the ending one acts", and
-- neither leaves the mode as it is
abbrev pub switched : (allowed on ending beginning : Bool) → Bool
switched allowed on ending beginning = cond (not allowed) on (cond ending false (cond beginning true on))

-- sync is bit 5 and unsync bit 4, freeze bit 3 and unfreeze bit 2
abbrev pub commanded_modes : Modes → ℕ → Modes
commanded_modes m first =
    record {
      sync = switched m.sync_allowed m.sync (bit first 4) (bit first 5);
      freeze = switched m.freeze_allowed m.freeze (bit first 2) (bit first 3);
      sync_allowed = m.sync_allowed;
      freeze_allowed = m.freeze_allowed;
    }

-- sync or unsync, where allowed
abbrev pub commands_sync : Modes → ℕ → Bool
commands_sync m first = m.sync_allowed && (bit first 5 || bit first 4)

-- freeze or unfreeze, where allowed
abbrev pub commands_freeze : Modes → ℕ → Bool
commands_freeze m first = m.freeze_allowed && (bit first 3 || bit first 2)

-- sync and unsync publish "the outputs held back, if any"; clear, bit 1, "comes last", so that its zeros stand in the place of what they
-- would have published (ledger, History.antt: ClearLast)
abbrev pub commanded_outputs : Modes → (withheld : Bool) → ℕ → OutputsDeed
commanded_outputs m withheld first =
    cond (bit first 1) outputs-deed.Zeros (cond (commands_sync m first && withheld) outputs-deed.Release outputs-deed.Keep)

-- freeze and unfreeze bring new inputs to the sending buffer
abbrev pub commanded_inputs : Modes → ℕ → InputsDeed
commanded_inputs m first = cond (commands_freeze m first) inputs-deed.Bring inputs-deed.Keep

-- whatever publishes raises event 13
abbrev pub announced : OutputsDeed → Events → Events
announced outputs-deed.Keep e = e
announced outputs-deed.Publish e = raised e outputs_event
announced outputs-deed.HoldBack e = e
announced outputs-deed.Release e = raised e outputs_event
announced outputs-deed.Zeros e = raised e outputs_event
