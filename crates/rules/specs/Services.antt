-- The services (document 01, Services; document 02, Req 01, 04, 05 and 07): what comes of each, on the control part. opened: a set of that kind is open.
use Rattle.std.specs.Prelude.{ℕ, ◌+◌, ◌*◌, Bool, cond, not, ◌&&◌, ◌||◌, eqb}
use Rattle.std.specs.Int.Bits.{bit_and}
use Rattle.buffers.specs.declared.events.Events.{Events}
use Rattle.buffers.specs.Events.{raised, cleared, control_event, configuration_event, parameters_event}
use Rattle.state.specs.declared.setup.Setup.{Setup}
use Rattle.state.specs.declared.control.Control.{Control}
use Rattle.state.specs.declared.state.Drawn.TheVariants as drawn
use Rattle.state.specs.Start.{no_owner}
use Rattle.state.specs.Well.{within}
use Rattle.rules.specs.declared.request.Request.{Request}
use Rattle.rules.specs.declared.request.Data.{Data}
use Rattle.rules.specs.declared.request.Occupied.{Occupied}
use Rattle.rules.specs.declared.request.Prm.{Prm}
use Rattle.rules.specs.declared.request.Service.{Service}
use Rattle.rules.specs.declared.request.Service.TheVariants.{Nothing, Status, Reject, GlobalControl, DataExchange, SetPrm, ChkCfg, SlaveDiag, GetCfg, ReadInputs, ReadOutputs}
use Rattle.rules.specs.declared.outcome.InputsDeed.TheVariants as inputs-deed
use Rattle.rules.specs.declared.outcome.SetDeed.TheVariants as set-deed
use Rattle.rules.specs.declared.outcome.Outcome.{Outcome}
use Rattle.rules.specs.Control.{bit, in_exchange, owns, with_flags, with_events, with_stored, with_modes, raise, with_prm_fault, with_cfg_fault, without_faults, without_diag_flag}
use Rattle.rules.specs.Modes.{allowed_modes, exchange_outputs, exchange_inputs, commanded_modes, commanded_outputs, commanded_inputs, announced}
use Rattle.rules.specs.Phases.{drawing, entering_wait_prm, wait_cfg, zeros_if_left}
use Rattle.rules.specs.Requests.{master_of, refilled, service_of}
use Rattle.rules.specs.Retries.{is_repeat, chained, repeated}
use Rattle.rules.specs.Watchdog.{wants_watchdog, bad_factors, ticks_of}

-- Set_Prm ---------------------------------------------------------------------------------------

-- another master owns
abbrev pub other_owns : Control → ℕ → Bool
other_owns c master = not (eqb c.owner no_owner) && not (owns c master)

-- octets 4 and 5 are not the ident, high first
abbrev pub other_ident : Setup → Prm → Bool
other_ident s p = not (eqb (256 * p.ident_high + p.ident_low) s.ident)

-- fault: E5, Prm_Fault, WAIT_PRM
abbrev pub prm_fault : Control → Outcome
prm_fault c = entering_wait_prm (with_flags c (with_prm_fault c.flags)) drawn.Acknowledge

-- a set is shown if none is open, with its event
abbrev pub showing : Events → Bool → ℕ → Events
showing e opened event = cond opened e (raised e event)

-- the control part of a good Set_Prm
unfoldable pub parametrized : Control → Bool → Request → Prm → Control
parametrized c opened r p =
    record {
      phase = (wait_cfg c).phase;
      owner = master_of r;
      group = p.group;
      stored = c.stored;
      watchdog = record { reload = ticks_of r.count p; remaining = ticks_of r.count p };
      flags = without_faults c.flags;
      events = showing (cleared (wait_cfg c).events configuration_event) opened parameters_event;
      noted = c.noted;
      diagnosis = c.diagnosis;
      modes = allowed_modes (wait_cfg c).modes p.status;
      chain = c.chain;
    }

-- E5, owner, WAIT_CFG, flags cleared, configuration sets dropped, group, data shown, watchdog, sync and freeze allowed or not
abbrev pub good_prm : Control → Bool → Request → Prm → Outcome
good_prm c opened r p =
    record {
      control = parametrized c opened r p;
      outputs = zeros_if_left c;
      inputs = inputs-deed.Keep;
      parameters = set-deed.Receive;
      configuration = set-deed.Drop;
      drawn = drawn.Acknowledge;
    }

-- in this order
unfoldable pub set_prm : Setup → Control → Bool → Request → Prm → Outcome
set_prm s c opened r p =
    cond (other_owns c (master_of r)) (drawing c drawn.Rejected)
    (cond (not (within 7 r.count s.parameter_len)) (prm_fault c)
    (cond (bit p.status 6) (entering_wait_prm c drawn.Acknowledge)
    (cond (not (bit p.status 7)) (drawing c drawn.Acknowledge)
    (cond (other_ident s p || (wants_watchdog p && bad_factors p)) (prm_fault c)
    (good_prm c opened r p)))))

-- Chk_Cfg ---------------------------------------------------------------------------------------

-- Cfg_Fault
abbrev pub cfg_fault : Control → Control
cfg_fault c = with_flags c (with_cfg_fault c.flags)

-- E5, WAIT_CFG, data shown
abbrev pub good_cfg : Control → Bool → Outcome
good_cfg c opened =
    record {
      control = with_events (wait_cfg c) (showing (wait_cfg c).events opened configuration_event);
      outputs = zeros_if_left c;
      inputs = inputs-deed.Keep;
      parameters = set-deed.Keep;
      configuration = set-deed.Receive;
      drawn = drawn.Acknowledge;
    }

-- in this order
unfoldable pub chk_cfg : Setup → Control → Bool → Request → Outcome
chk_cfg s c opened r =
    cond (not (owns c (master_of r))) (drawing c drawn.Rejected)
    (cond (not (within 1 r.count s.configuration_len)) (entering_wait_prm (cfg_fault c) drawn.Acknowledge)
    (good_cfg c opened))

-- Data_Exchange ---------------------------------------------------------------------------------

-- from the owner in DATA_EXCH
abbrev pub exchanges : Control → Request → Bool
exchanges c r = owns c (master_of r) && in_exchange c

-- the data is published, event 13, or held back in sync; new inputs come unless frozen; the reply to it is drawn
abbrev pub good_exchange : Control → Outcome
good_exchange c =
    record {
      control = with_events c (announced (exchange_outputs c.modes) c.events);
      outputs = exchange_outputs c.modes;
      inputs = exchange_inputs c.modes;
      parameters = set-deed.Keep;
      configuration = set-deed.Keep;
      drawn = drawn.Exchange;
    }

-- in this order; without outputs the right count is none
unfoldable pub data_exchange : Setup → Control → Request → Outcome
data_exchange s c r =
    cond (not (exchanges c r)) (drawing c drawn.Rejected)
    (cond (not (eqb r.count s.output_len)) (entering_wait_prm (cfg_fault c) drawn.Rejected) (good_exchange c))

-- The services without data ---------------------------------------------------------------------

-- the owner's Slave_Diag clears Diag_Flag unless Stat_Diag
unfoldable pub slave_diag : Control → Request → Outcome
slave_diag c r =
    cond (owns c (master_of r) && not c.flags.stat_diag)
    (drawing (with_flags c (without_diag_flag c.flags)) drawn.Diagnosis)
    (drawing c drawn.Diagnosis)

-- Read_Inputs: RS outside DATA_EXCH
abbrev pub read_inputs : Control → Outcome
read_inputs c = cond (in_exchange c) (drawing c drawn.Inputs) (drawing c drawn.Rejected)

-- Read_Outputs: RS outside DATA_EXCH
abbrev pub read_outputs : Control → Outcome
read_outputs c = cond (in_exchange c) (drawing c drawn.Outputs) (drawing c drawn.Rejected)

-- Global_Control --------------------------------------------------------------------------------

-- two octets, from the owner in DATA_EXCH, octet 1 zero or sharing a bit with the group
abbrev pub controls : Control → Request → ℕ → Bool
controls c r second = exchanges c r && eqb r.count 2 && (eqb second 0 || not (eqb (bit_and second c.group) 0))

-- octet 0 is stored if it differs from the last one, event 8
abbrev pub storing : Control → ℕ → Control
storing c first = cond (eqb first c.stored) c (raise (with_stored c first) control_event)

-- octet 0 is carried out each time: sync and unsync, freeze and unfreeze, clear. withheld: something is held back
abbrev pub obeyed : Control → Bool → ℕ → Outcome
obeyed c withheld first =
    record {
      control =
          with_modes (with_events (storing c first) (announced (commanded_outputs c.modes withheld first) (storing c first).events))
          (commanded_modes c.modes first);
      outputs = commanded_outputs c.modes withheld first;
      inputs = commanded_inputs c.modes first;
      parameters = set-deed.Keep;
      configuration = set-deed.Keep;
      drawn = drawn.Nothing;
    }

-- obeyed where it controls, else without effect
unfoldable pub global_control : Control → Bool → Request → ℕ → ℕ → Outcome
global_control c withheld r first second = cond (controls c r second) (obeyed c withheld first) (drawing c drawn.Nothing)

-- All of them -----------------------------------------------------------------------------------

-- what comes of a service; b: what the buffers are occupied by
abbrev pub serve : Service → Setup → Control → Occupied → Request → Data → Outcome
serve Nothing s c b r octets = drawing c drawn.Nothing
serve Status s c b r octets = drawing c drawn.Status
serve Reject s c b r octets = drawing c drawn.Rejected
serve GlobalControl s c b r octets = global_control c b.outputs r octets.first octets.second
serve DataExchange s c b r octets = data_exchange s c r
serve SetPrm s c b r octets = set_prm s c b.parameters r octets.prm
serve ChkCfg s c b r octets = chk_cfg s c b.configuration r
serve SlaveDiag s c b r octets = slave_diag c r
serve GetCfg s c b r octets = drawing c drawn.Configuration
serve ReadInputs s c b r octets = read_inputs c
serve ReadOutputs s c b r octets = read_outputs c

-- what comes of the service that a telegram asks for: it refills the watchdog, and the service is served
abbrev pub served_by : Setup → Control → Occupied → Request → Data → Outcome
served_by s c b r octets = serve (service_of s r) s (refilled s c r) b r octets

-- what comes of a telegram: a repeat draws again what the earlier request drew; of any other the service is served, and a request goes into
-- the chain or ends it
abbrev pub outcome_by : Setup → Control → Occupied → Request → Data → Outcome
outcome_by s c b r octets =
    cond (is_repeat s c r) (repeated s c r) (chained s r (served_by s c b r octets))
