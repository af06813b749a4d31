-- Entering and leaving the phases (document 01, Services, last paragraph; document 02, Req 01).
use Rattle.std.specs.Prelude.{cond}
use Rattle.buffers.specs.declared.events.Events.{Events}
use Rattle.buffers.specs.Events.{raised, cleared, data_exchange_event, configuration_event, parameters_event, outputs_event}
use Rattle.state.specs.declared.control.Phase.TheVariants.{WaitPrm, WaitCfg, DataExch}
use Rattle.state.specs.declared.control.Control.{Control}
use Rattle.state.specs.declared.state.Drawn.{Drawn}
use Rattle.rules.specs.declared.outcome.OutputsDeed.{OutputsDeed}
use Rattle.rules.specs.declared.outcome.OutputsDeed.TheVariants as outputs-deed
use Rattle.rules.specs.declared.outcome.InputsDeed.TheVariants as inputs-deed
use Rattle.rules.specs.declared.outcome.SetDeed.TheVariants as set-deed
use Rattle.rules.specs.declared.outcome.Outcome.{Outcome}
use Rattle.state.specs.Start.{no_owner}
use Rattle.rules.specs.Control.{in_exchange, with_phase, with_events, with_modes, raise}
use Rattle.rules.specs.Modes.{ended_modes}

-- nothing but a reply comes of it
abbrev pub drawing : Control → Drawn → Outcome
drawing c d =
    record {
      control = c;
      outputs = outputs-deed.Keep;
      inputs = inputs-deed.Keep;
      parameters = set-deed.Keep;
      configuration = set-deed.Keep;
      drawn = d;
    }

-- event 1: DATA_EXCH is left
abbrev pub left_exchange : Control → Events
left_exchange c = cond (in_exchange c) (raised c.events data_exchange_event) c.events

-- WAIT_PRM entered, even from itself: no owner, watchdog off, group and stored control 0, no set open, zeros published, both modes ended
unfoldable pub wait_prm : Control → Control
wait_prm c =
    record {
      phase = WaitPrm;
      owner = no_owner;
      group = 0;
      stored = 0;
      watchdog = record { reload = 0; remaining = 0 };
      flags = c.flags;
      events = raised (cleared (cleared (left_exchange c) configuration_event) parameters_event) outputs_event;
      noted = c.noted;
      diagnosis = c.diagnosis;
      modes = ended_modes c.modes;
      chain = c.chain;
    }

-- with what becomes of the buffers: zeros published, which empties what is held back, parameter and configuration sets dropped
abbrev pub entering_wait_prm : Control → Drawn → Outcome
entering_wait_prm c d =
    record {
      control = wait_prm c;
      outputs = outputs-deed.Zeros;
      inputs = inputs-deed.Keep;
      parameters = set-deed.Drop;
      configuration = set-deed.Drop;
      drawn = d;
    }

-- DATA_EXCH left: event 1, zeros published, both modes ended
abbrev pub left : Control → Control
left c = with_modes (with_events c (raised (left_exchange c) outputs_event)) (ended_modes c.modes)

-- WAIT_CFG entered
unfoldable pub wait_cfg : Control → Control
wait_cfg c = with_phase (cond (in_exchange c) (left c) c) WaitCfg

-- what becomes of the outputs then
abbrev pub zeros_if_left : Control → OutputsDeed
zeros_if_left c = cond (in_exchange c) outputs-deed.Zeros outputs-deed.Keep

-- DATA_EXCH entered, event 1
unfoldable pub data_exch : Control → Control
data_exch c = raise (with_phase c DataExch) data_exchange_event
