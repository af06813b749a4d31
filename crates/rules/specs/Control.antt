-- The control part with one field changed, and the tests that the rules share.
use Rattle.std.specs.Prelude.{ℕ, ◌/◌, ◌%◌, ◌^◌, Bool, true, false, eqb}
use Rattle.buffers.specs.declared.events.Events.{Events}
use Rattle.buffers.specs.Events.{raised, cleared}
use Rattle.state.specs.declared.control.Phase.{Phase}
use Rattle.state.specs.declared.control.Phase.TheVariants.{WaitPrm, WaitCfg, DataExch}
use Rattle.state.specs.declared.control.Watchdog.{Watchdog}
use Rattle.state.specs.declared.control.Flags.{Flags}
use Rattle.state.specs.declared.control.Diagnosis.{Diagnosis}
use Rattle.state.specs.declared.control.Modes.{Modes}
use Rattle.state.specs.declared.chain.Chain.{Chain}
use Rattle.state.specs.declared.control.Control.{Control}
use Rattle.state.specs.With.{control_of}

-- bit n of an octet
abbrev pub bit : ℕ → ℕ → Bool
bit x n = eqb (x / 2 ^ n % 2) 1

-- the phase is DATA_EXCH
abbrev pub exchanging : Phase → Bool
exchanging WaitPrm = false
exchanging WaitCfg = false
exchanging DataExch = true

-- the phase is WAIT_PRM
abbrev pub in_wait_prm : Phase → Bool
in_wait_prm WaitPrm = true
in_wait_prm WaitCfg = false
in_wait_prm DataExch = false

-- in DATA_EXCH
abbrev pub in_exchange : Control → Bool
in_exchange c = exchanging c.phase

-- this master holds the station
abbrev pub owns : Control → ℕ → Bool
owns c master = eqb c.owner master

-- the control part with one part changed
abbrev pub with_phase : Control → Phase → Control
with_phase c x = control_of x c.owner c.group c.stored c.watchdog c.flags c.events c.noted c.diagnosis c.modes c.chain

abbrev pub with_stored : Control → ℕ → Control
with_stored c x = control_of c.phase c.owner c.group x c.watchdog c.flags c.events c.noted c.diagnosis c.modes c.chain

abbrev pub with_watchdog : Control → Watchdog → Control
with_watchdog c x = control_of c.phase c.owner c.group c.stored x c.flags c.events c.noted c.diagnosis c.modes c.chain

abbrev pub with_flags : Control → Flags → Control
with_flags c x = control_of c.phase c.owner c.group c.stored c.watchdog x c.events c.noted c.diagnosis c.modes c.chain

abbrev pub with_events : Control → Events → Control
with_events c x = control_of c.phase c.owner c.group c.stored c.watchdog c.flags x c.noted c.diagnosis c.modes c.chain

abbrev pub with_noted : Control → Bool → Control
with_noted c x = control_of c.phase c.owner c.group c.stored c.watchdog c.flags c.events x c.diagnosis c.modes c.chain

abbrev pub with_diagnosis : Control → Diagnosis → Control
with_diagnosis c x = control_of c.phase c.owner c.group c.stored c.watchdog c.flags c.events c.noted x c.modes c.chain

abbrev pub with_modes : Control → Modes → Control
with_modes c x = control_of c.phase c.owner c.group c.stored c.watchdog c.flags c.events c.noted c.diagnosis x c.chain

abbrev pub with_chain : Control → Chain → Control
with_chain c x = control_of c.phase c.owner c.group c.stored c.watchdog c.flags c.events c.noted c.diagnosis c.modes x

-- event n is set
abbrev pub raise : Control → ℕ → Control
raise c n = with_events c (raised c.events n)

-- event n is not set any more
abbrev pub clear : Control → ℕ → Control
clear c n = with_events c (cleared c.events n)

-- flags of their values, in the order of the struct
abbrev flags_with : Bool → Bool → Bool → Bool → Bool → Bool → Bool → Flags
flags_with prm cfg ext stat overflow diag good =
    record {
      prm_fault = prm;
      cfg_fault = cfg;
      ext_diag = ext;
      stat_diag = stat;
      overflow = overflow;
      diag_flag = diag;
      parameters_good = good;
    }

-- with one of them changed
abbrev pub with_prm_fault : Flags → Flags
with_prm_fault f = flags_with true f.cfg_fault f.ext_diag f.stat_diag f.overflow f.diag_flag f.parameters_good

abbrev pub with_cfg_fault : Flags → Flags
with_cfg_fault f = flags_with f.prm_fault true f.ext_diag f.stat_diag f.overflow f.diag_flag f.parameters_good

abbrev pub with_parameters_good : Flags → Flags
with_parameters_good f = flags_with f.prm_fault f.cfg_fault f.ext_diag f.stat_diag f.overflow f.diag_flag true

abbrev pub without_diag_flag : Flags → Flags
without_diag_flag f = flags_with f.prm_fault f.cfg_fault f.ext_diag f.stat_diag f.overflow false f.parameters_good

-- a good Set_Prm clears the fault bits and parameter OK
abbrev pub without_faults : Flags → Flags
without_faults f = flags_with false false f.ext_diag f.stat_diag f.overflow f.diag_flag false

-- a new diagnosis brings its own three flags and sets Diag_Flag
abbrev pub with_diagnosis_flags : Flags → ℕ → Flags
with_diagnosis_flags f x = flags_with f.prm_fault f.cfg_fault (bit x 0) (bit x 1) (bit x 2) true f.parameters_good
