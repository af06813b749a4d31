-- A ledger with octets alone stays so: with another line or other lists, where an outcome is carried out, and where the line settles.
use Prim.Native.Nat.{ℕ, ◌<◌}
use mathlib.Core.Bool.{not, ◌&&◌}
use mathlib.Core.List.{List, []}
use lib.Dec.{eqb}
use Rattle.telegram.specs.Telegram.{Octets}
use Rattle.state.specs.declared.setup.Setup.{Setup}
use Rattle.state.specs.declared.control.Control.{Control}
use Rattle.state.proofs.Choice.{either}
use Rattle.rules.specs.declared.outcome.OutputsDeed.{OutputsDeed}
use Rattle.rules.specs.declared.outcome.OutputsDeed.TheVariants as outputs-deed
use Rattle.rules.specs.declared.outcome.InputsDeed.{InputsDeed}
use Rattle.rules.specs.declared.outcome.InputsDeed.TheVariants as inputs-deed
use Rattle.rules.specs.declared.outcome.SetDeed.{SetDeed}
use Rattle.rules.specs.declared.outcome.SetDeed.TheVariants as set-deed
use Rattle.rules.specs.declared.outcome.Outcome.{Outcome}
use Rattle.rules.specs.Diagnosis.{delayed, diagnosed}
use Rattle.rules.specs.Line.{clear_noted}
use Rattle.rules.proofs.Bounded.{Bounded, BoundedBy, noted_bounded}
use Rattle.ledger.specs.Lists.{some, Outputs, taken_outputs, Inputs, written_input, Sets, Diagnoses, exchanged_diagnoses, written_diagnosis, Buffers, with_outputs, with_inputs, with_diagnoses}
use Rattle.ledger.specs.Ledger.{Line, Ledger, with_line, busy, diagnosis_leaves}
use Rattle.ledger.specs.Outcome.{on_outputs, on_inputs, on_sets, on_buffers, carried, diagnosis_changed, after_reply, settle}
use Rattle.ledger.specs.User.{written_octet}
use Rattle.telegram.proofs.OctetLists.{set_octets, zero_octets}
use Rattle.ledger.proofs.OctetReplies.{OutputOctets, InputOctets, SetOctets, DiagnosisOctets, ListOctets}

-- what a ledger that is fed octets keeps
pub record Octal (l : Ledger) : Type 0 where
  pub ident : l.setup.ident < 65536
  pub slice : Octets l.slice
  pub control : Bounded l.control
  pub lists : ListOctets l.buffers
  pub telegram : Octets l.line.telegram
  pub reply : Octets l.line.reply

-- ---------------------------------------------------------------------------------------------------
-- The lists after an outcome.

-- the outputs
outputs_octal : (d : OutputsDeed) (o : Outputs) (n : ℕ) (ds : List ℕ) → Octets ds → OutputOctets o → OutputOctets (on_outputs d o n ds)
outputs_octal outputs-deed.Keep o n ds q f = f
outputs_octal outputs-deed.Publish o n ds q f = record { held = f.held; next = q; back = f.back }
outputs_octal outputs-deed.HoldBack o n ds q f = record { held = f.held; next = f.next; back = q }
outputs_octal outputs-deed.Release o n ds q f = record { held = f.held; next = f.back; back = tt }
outputs_octal outputs-deed.Zeros o n ds q f = record { held = f.held; next = zero_octets n; back = tt }

-- the inputs
inputs_octal : (d : InputsDeed) (i : Inputs) → InputOctets i → InputOctets (on_inputs d i)
inputs_octal inputs-deed.Keep i f = f
inputs_octal inputs-deed.Bring i f = either InputOctets i.fresh (record { sending = f.next; next = f.sending; held = f.held }) f

-- the sets of a kind
sets_octal : (d : SetDeed) (x : Sets) (ds : List ℕ) → Octets ds → SetOctets x → SetOctets (on_sets d x ds)
sets_octal set-deed.Keep x ds q f = f
sets_octal set-deed.Receive x ds q f =
    either SetOctets (some x.shown) (record { shown = f.shown; waiting = q }) (record { shown = q; waiting = f.waiting })
sets_octal set-deed.Advance x ds q f = record { shown = f.waiting; waiting = tt }
sets_octal set-deed.Drop x ds q f = record { shown = tt; waiting = tt }

-- all of them
lists_octal : (o : Outcome) (s : Setup) (ds : List ℕ) (b : Buffers) → Octets ds → ListOctets b → ListOctets (on_buffers o s ds b)
lists_octal o s ds b q f = record {
  outputs = outputs_octal o.outputs b.outputs s.output_len ds q f.outputs;
  inputs = inputs_octal o.inputs b.inputs f.inputs;
  parameters = sets_octal o.parameters b.parameters ds q f.parameters;
  configuration = sets_octal o.configuration b.configuration ds q f.configuration;
  diagnosis = f.diagnosis;
}

-- ---------------------------------------------------------------------------------------------------
-- The ledger with other lists, with another line, after an outcome, settled.

module _ {l : Ledger} (f : Octal l) where
  -- another line
  pub on_line : (n : Line) → Octets n.telegram → Octets n.reply → Octal (with_line l n)
  on_line n x y = record { ident = f.ident; slice = f.slice; control = f.control; lists = f.lists; telegram = x; reply = y }

  -- other lists and another control part
  pub on_lists : (b : Buffers) (c : Control) → ListOctets b → Bounded c
      → Octal (record { setup = l.setup; slice = l.slice; control = c; buffers = b; line = l.line })
  on_lists b c x h = record { ident = f.ident; slice = f.slice; control = h; lists = x; telegram = f.telegram; reply = f.reply }

  -- other inputs
  pub on_inputs_lem : (i : Inputs) → InputOctets i → ListOctets (with_inputs l.buffers i)
  on_inputs_lem i w = record {
    outputs = f.lists.outputs;
    inputs = w;
    parameters = f.lists.parameters;
    configuration = f.lists.configuration;
    diagnosis = f.lists.diagnosis;
  }

  -- another diagnosis
  on_diagnoses : (d : Diagnoses) → DiagnosisOctets d → ListOctets (with_diagnoses l.buffers d)
  on_diagnoses d w = record {
    outputs = f.lists.outputs;
    inputs = f.lists.inputs;
    parameters = f.lists.parameters;
    configuration = f.lists.configuration;
    diagnosis = w;
  }

  -- outputs taken
  pub taken_octal : ListOctets (with_outputs l.buffers (taken_outputs l.buffers.outputs))
  taken_octal = record {
    outputs = record { held = f.lists.outputs.next; next = f.lists.outputs.held; back = f.lists.outputs.back };
    inputs = f.lists.inputs;
    parameters = f.lists.parameters;
    configuration = f.lists.configuration;
    diagnosis = f.lists.diagnosis;
  }

  -- an octet written
  pub written_octal : (kind index x : ℕ) → x < 256 → ListOctets (written_octet l.buffers kind index x)
  written_octal kind index x h =
      either ListOctets (eqb kind 4)
      (on_inputs_lem (written_input l.buffers.inputs index x)
      (record { sending = f.lists.inputs.sending; next = f.lists.inputs.next; held = set_octets l.buffers.inputs.held index x h f.lists.inputs.held }))
      (on_diagnoses (written_diagnosis l.buffers.diagnosis index x)
      (record { own = f.lists.diagnosis.own; user = set_octets l.buffers.diagnosis.user index x h f.lists.diagnosis.user }))

  -- an outcome
  pub carried_octal : (o : Outcome) (ds : List ℕ) → Octets ds → BoundedBy o → Octal (carried l o ds)
  carried_octal o ds q h = on_lists (on_buffers o l.setup ds l.buffers) o.control (lists_octal o l.setup ds l.buffers q f.lists) h

  -- the two diagnosis lists change
  pub changed_octal : (count flags : ℕ) → Octal (diagnosis_changed l (diagnosed l.control count flags))
  unfolding diagnosed
  changed_octal count flags =
      on_lists (with_diagnoses l.buffers (exchanged_diagnoses l.buffers.diagnosis)) (diagnosed l.control count flags)
      (on_diagnoses (exchanged_diagnoses l.buffers.diagnosis) (record { own = f.lists.diagnosis.user; user = f.lists.diagnosis.own })) f.control

  -- a delayed diagnosis
  reply_octal : Octal (after_reply l)
  unfolding after_reply
  reply_octal =
      either Octal (delayed l.control && not (diagnosis_leaves l)) (changed_octal l.control.diagnosis.delayed_count l.control.diagnosis.delayed_flags) f

-- and then a noted clear
pub settle_octal : {l : Ledger} → Octal l → Octal (settle l)
unfolding settle
settle_octal {l} f =
    let g = reply_octal f in
    carried_octal g (clear_noted (busy l) (after_reply l).control) [] tt (noted_bounded (after_reply l).control g.control (busy l))
