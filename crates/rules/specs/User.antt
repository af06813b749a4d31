-- Judging (document 01, User calls), on the control part. A new diagnosis is in Diagnosis.antt.
use Rattle.std.specs.Prelude.{Bool, cond}
use Rattle.buffers.specs.Events.{configuration_event, parameters_event}
use Rattle.state.specs.declared.control.Control.{Control}
use Rattle.state.specs.declared.state.Drawn.TheVariants.{Nothing}
use Rattle.rules.specs.declared.outcome.OutputsDeed.TheVariants as outputs-deed
use Rattle.rules.specs.declared.outcome.InputsDeed.TheVariants as inputs-deed
use Rattle.rules.specs.declared.outcome.SetDeed.{SetDeed}
use Rattle.rules.specs.declared.outcome.SetDeed.TheVariants as set-deed
use Rattle.rules.specs.declared.outcome.Outcome.{Outcome}
use Rattle.rules.specs.Control.{with_flags, clear, with_prm_fault, with_cfg_fault, with_parameters_good}
use Rattle.rules.specs.Phases.{entering_wait_prm, data_exch}

-- only these sets change
abbrev pub changing_sets : Control → SetDeed → SetDeed → Outcome
changing_sets c p q =
    record {
      control = c;
      outputs = outputs-deed.Keep;
      inputs = inputs-deed.Keep;
      parameters = p;
      configuration = q;
      drawn = Nothing;
    }

-- judge parameters: a newer set that waits is shown instead, with no other effect; else the set is closed, with its event;
-- then bad: Prm_Fault, WAIT_PRM, and good: parameter OK
unfoldable pub judged_parameters : Control → Bool → Bool → Outcome
judged_parameters c waits good =
    cond waits (changing_sets c set-deed.Advance set-deed.Keep)
    (cond good (changing_sets (with_flags (clear c parameters_event) (with_parameters_good c.flags)) set-deed.Drop set-deed.Keep)
    (entering_wait_prm (with_flags (clear c parameters_event) (with_prm_fault c.flags)) Nothing))

-- judge configuration: likewise; bad: Cfg_Fault, WAIT_PRM, and good: DATA_EXCH
unfoldable pub judged_configuration : Control → Bool → Bool → Outcome
judged_configuration c waits good =
    cond waits (changing_sets c set-deed.Keep set-deed.Advance)
    (cond good (changing_sets (data_exch (clear c configuration_event)) set-deed.Keep set-deed.Drop)
    (entering_wait_prm (with_flags (clear c configuration_event) (with_cfg_fault c.flags)) Nothing))
