-- The diagnosis octets that the station makes, and a new diagnosis of the user's (document 01, Services and User calls; document 02, Req 01 and 02).
use Rattle.std.specs.Prelude.{ℕ, ◌+◌, ◌*◌, Bool, true, false, not, eqb}
use Rattle.buffers.specs.Events.{diagnosis_event}
use Rattle.state.specs.declared.control.Diagnosis.{Diagnosis}
use Rattle.state.specs.declared.control.Flags.{Flags}
use Rattle.state.specs.declared.control.Control.{Control}
use Rattle.state.specs.declared.state.Header.{Header}
use Rattle.rules.specs.Control.{in_wait_prm, in_exchange, with_flags, with_diagnosis, with_diagnosis_flags, raise}

-- a flag's value in an octet
abbrev pub one : Bool → ℕ
one true = 1
one false = 0

-- octet 0: bit 1 not DATA_EXCH, 2 Cfg_Fault, 3 Ext_Diag, 6 Prm_Fault; bit 4, Not_Supported, is never set
abbrev pub status1 : Control → ℕ
status1 c =
    2 * one (not (in_exchange c)) + 4 * one c.flags.cfg_fault + 8 * one c.flags.ext_diag + 64 * one c.flags.prm_fault

-- octet 1: bit 0 WAIT_PRM, 1 Stat_Diag, 2 always set, 3 watchdog on, 4 freeze, 5 sync
abbrev pub status2 : Control → ℕ
status2 c =
    one (in_wait_prm c.phase) + 2 * one c.flags.stat_diag + 4 + 8 * one (not (eqb c.watchdog.reload 0))
    + 16 * one c.modes.freeze + 32 * one c.modes.sync

-- octet 2: bit 7 overflow
abbrev pub status3 : Control → ℕ
status3 c = 128 * one c.flags.overflow

-- octets 0 to 3; octet 3 is the owner or FF
unfoldable pub header_of : Control → Header
header_of c = record { status1 = status1 c; status2 = status2 c; status3 = status3 c; master = c.owner }

-- the flags in force, in the bits that a new diagnosis takes them in: 0 Ext_Diag, 1 Stat_Diag, 2 overflow
abbrev pub present_flags : Flags → ℕ
present_flags f = one f.ext_diag + 2 * one f.stat_diag + 4 * one f.overflow

-- a new diagnosis is delayed
abbrev pub is_delayed : Diagnosis → Bool
is_delayed d = not (eqb d.delayed_count 0)

-- by the control part
abbrev pub delayed : Control → Bool
delayed c = is_delayed c.diagnosis

-- a new diagnosis takes effect: its count and flags, Diag_Flag, event 12; nothing is delayed any more
unfoldable pub diagnosed : Control → ℕ → ℕ → Control
diagnosed c count flags =
    raise
    (with_diagnosis (with_flags c (with_diagnosis_flags c.flags flags))
    (record { count = count; delayed_count = 0; delayed_flags = 0 }))
    diagnosis_event

-- or all of it waits
unfoldable pub delaying : Control → ℕ → ℕ → Control
delaying c count flags =
    with_diagnosis c (record { count = c.diagnosis.count; delayed_count = count; delayed_flags = flags })

-- and takes effect later
abbrev pub caught_up : Control → Control
caught_up c = diagnosed c c.diagnosis.delayed_count c.diagnosis.delayed_flags
