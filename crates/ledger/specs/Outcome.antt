-- An outcome of the rules carried out on the lists.
use Rattle.std.specs.Prelude.{ℕ, cond, not, ◌&&◌, List, []}
use Rattle.state.specs.declared.setup.Setup.{Setup}
use Rattle.state.specs.declared.control.Control.{Control}
use Rattle.rules.specs.declared.outcome.OutputsDeed.{OutputsDeed}
use Rattle.rules.specs.declared.outcome.OutputsDeed.TheVariants as outputs-deed
use Rattle.rules.specs.declared.outcome.InputsDeed.{InputsDeed}
use Rattle.rules.specs.declared.outcome.InputsDeed.TheVariants as inputs-deed
use Rattle.rules.specs.declared.outcome.SetDeed.{SetDeed}
use Rattle.rules.specs.declared.outcome.SetDeed.TheVariants as set-deed
use Rattle.rules.specs.declared.outcome.Outcome.{Outcome}
use Rattle.rules.specs.Line.{clear_noted}
use Rattle.rules.specs.Diagnosis.{delayed, caught_up}
use Rattle.ledger.specs.Lists.{Outputs, Inputs, Sets, Buffers, published, held_back, emptied, released, published_zeros, brought, received_set, advanced, no_sets, exchanged_diagnoses, with_diagnoses}
use Rattle.ledger.specs.Ledger.{Ledger, busy, diagnosis_leaves}

-- what becomes of the outputs; ds is the data received
abbrev pub on_outputs : OutputsDeed → Outputs → ℕ → List ℕ → Outputs
on_outputs outputs-deed.Keep o n ds = o
on_outputs outputs-deed.Publish o n ds = published o ds
on_outputs outputs-deed.HoldBack o n ds = held_back o ds
on_outputs outputs-deed.Release o n ds = released o
on_outputs outputs-deed.Zeros o n ds = published_zeros (emptied o) n

-- what becomes of the inputs
abbrev pub on_inputs : InputsDeed → Inputs → Inputs
on_inputs inputs-deed.Keep i = i
on_inputs inputs-deed.Bring i = brought i

-- what becomes of the sets of parameters or of configuration
abbrev pub on_sets : SetDeed → Sets → List ℕ → Sets
on_sets set-deed.Keep s ds = s
on_sets set-deed.Receive s ds = received_set s ds
on_sets set-deed.Advance s ds = advanced s
on_sets set-deed.Drop s ds = no_sets

-- all the lists after an outcome
abbrev pub on_buffers : Outcome → Setup → List ℕ → Buffers → Buffers
on_buffers o s ds b =
    record {
      outputs = on_outputs o.outputs b.outputs s.output_len ds;
      inputs = on_inputs o.inputs b.inputs;
      parameters = on_sets o.parameters b.parameters ds;
      configuration = on_sets o.configuration b.configuration ds;
      diagnosis = b.diagnosis;
    }

-- the control part and the lists after an outcome
abbrev pub carried : Ledger → Outcome → List ℕ → Ledger
carried l o ds =
    record {
      setup = l.setup;
      slice = l.slice;
      control = o.control;
      buffers = on_buffers o l.setup ds l.buffers;
      line = l.line;
    }

-- the two diagnosis buffers change, with that control part
abbrev pub diagnosis_changed : Ledger → Control → Ledger
diagnosis_changed l c =
    record {
      setup = l.setup;
      slice = l.slice;
      control = c;
      buffers = with_diagnoses l.buffers (exchanged_diagnoses l.buffers.diagnosis);
      line = l.line;
    }

-- a delayed diagnosis takes effect when the Slave_Diag reply ended or was dropped
unfoldable pub after_reply : Ledger → Ledger
after_reply l = cond (delayed l.control && not (diagnosis_leaves l)) (diagnosis_changed l (caught_up l.control)) l

-- and then a noted clear where the line is idle
unfoldable pub settle : Ledger → Ledger
settle l = carried (after_reply l) (clear_noted (busy l) (after_reply l).control) []
