-- An outcome of the rules carried out on the state and the buffers, and what waits for the end of the line's business.
use Rattle.std.specs.Prelude.{ℕ, Bool, true, false, cond, not, ◌&&◌, List, eqb, replicate}
use Rattle.buffers.specs.declared.triple.Triple.{Triple}
use Rattle.buffers.specs.Roles.{next_of}
use Rattle.buffers.specs.Triple.{published, taken, brought, shown, dropped}
use Rattle.buffers.specs.Quad as quad
use Rattle.octets.specs.Part.{pasted}
use Rattle.state.specs.declared.control.Control.{Control}
use Rattle.state.specs.declared.state.Outputs.{Outputs}
use Rattle.state.specs.declared.state.Sets.{Sets}
use Rattle.state.specs.declared.state.State.{State}
use Rattle.state.specs.Layout.{outputs_at}
use Rattle.rules.specs.declared.outcome.OutputsDeed.{OutputsDeed}
use Rattle.rules.specs.declared.outcome.OutputsDeed.TheVariants as outputs-deed
use Rattle.rules.specs.declared.outcome.InputsDeed.{InputsDeed}
use Rattle.rules.specs.declared.outcome.InputsDeed.TheVariants as inputs-deed
use Rattle.rules.specs.declared.outcome.SetDeed.{SetDeed}
use Rattle.rules.specs.declared.outcome.SetDeed.TheVariants as set-deed
use Rattle.rules.specs.declared.outcome.Outcome.{Outcome}
use Rattle.rules.specs.declared.request.Occupied.{Occupied}
use Rattle.rules.specs.Line.{clear_noted}
use Rattle.rules.specs.Diagnosis.{delayed, caught_up}
use Rattle.steps.specs.Stepped.{Stepped}
use Rattle.steps.specs.Line.{busy, diagnosis_leaves}

-- a set is open
abbrev pub is_open : Sets → Bool
is_open s = not (eqb s.shown 0)

-- what the rules look at of the buffers
abbrev pub occupied : State → Occupied
occupied s =
    record { parameters = is_open s.parameters; configuration = is_open s.configuration; outputs = s.outputs.set.withheld }

-- the data received is in fill; zeros are written into next
abbrev pub on_outputs : OutputsDeed → Outputs → Outputs
on_outputs outputs-deed.Keep o = o
on_outputs outputs-deed.Publish o = record { set = quad.published o.set; zeros = false }
on_outputs outputs-deed.HoldBack o = record { set = quad.held_back o.set; zeros = o.zeros }
on_outputs outputs-deed.Release o = record { set = quad.released o.set; zeros = false }
on_outputs outputs-deed.Zeros o = record { set = quad.renewed o.set; zeros = true }

-- new inputs come to the buffer that is sent from
abbrev pub on_inputs : InputsDeed → Triple → Triple
on_inputs inputs-deed.Keep t = t
on_inputs inputs-deed.Bring t = cond t.fresh (brought t) t

-- count: of the data received, which is in fill
abbrev pub received_set : Sets → ℕ → Sets
received_set s count =
    cond (is_open s)
    (record { set = published s.set; shown = s.shown; waiting = count })
    (record { set = shown s.set; shown = count; waiting = s.waiting })

-- what becomes of the sets of parameters or of configuration
abbrev pub on_sets : SetDeed → Sets → ℕ → Sets
on_sets set-deed.Keep s count = s
on_sets set-deed.Receive s count = received_set s count
on_sets set-deed.Advance s count = record { set = taken s.set; shown = s.waiting; waiting = 0 }
on_sets set-deed.Drop s count = record { set = dropped s.set; shown = 0; waiting = 0 }

-- the state after an outcome; count: of the data received
abbrev pub on_state : State → Outcome → ℕ → State
on_state s o count =
    record {
      setup = s.setup;
      control = o.control;
      outputs = on_outputs o.outputs s.outputs;
      inputs = on_inputs o.inputs s.inputs;
      parameters = on_sets o.parameters s.parameters count;
      configuration = on_sets o.configuration s.configuration count;
      swapped = s.swapped;
      incoming = s.incoming;
      reply = s.reply;
    }

-- zeros in next, where it lies: a telegram that is coming goes on filling fill. A Read_Outputs reply may leave from that buffer,
-- but none is unfinished when zeros are published (docs/DECISIONS.md, point 16)
abbrev pub on_memory : OutputsDeed → State → List ℕ → List ℕ
on_memory outputs-deed.Keep s m = m
on_memory outputs-deed.Publish s m = m
on_memory outputs-deed.HoldBack s m = m
on_memory outputs-deed.Release s m = m
on_memory outputs-deed.Zeros s m = pasted m (outputs_at s.setup (next_of s.outputs.set.place)) (replicate s.setup.output_len 0)

-- an outcome carried out
unfoldable pub carried : State → List ℕ → Outcome → ℕ → Stepped
carried s m o count = record { state = on_state s o count; memory = on_memory o.outputs s m }

-- the two diagnosis buffers change, with that control part
abbrev pub diagnosis_changed : State → Control → State
diagnosis_changed s c =
    record {
      setup = s.setup;
      control = c;
      outputs = s.outputs;
      inputs = s.inputs;
      parameters = s.parameters;
      configuration = s.configuration;
      swapped = not s.swapped;
      incoming = s.incoming;
      reply = s.reply;
    }

-- a delayed diagnosis takes effect when the Slave_Diag reply ended or was dropped
unfoldable pub after_reply : State → State
after_reply s = cond (delayed s.control && not (diagnosis_leaves s)) (diagnosis_changed s (caught_up s.control)) s

-- and then a noted clear where the line is idle
unfoldable pub settle : State → List ℕ → Stepped
settle s m = carried (after_reply s) m (clear_noted (busy s) (after_reply s).control) 0
