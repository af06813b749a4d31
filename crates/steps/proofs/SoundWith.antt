-- A sound state with a part of it changed, where that part keeps the rules.
use Prim.Native.Nat.{◌≤◌}
use native.Mathlib.Omega.{arith}
use mathlib.Core.Path.{◌≡◌, refl}
use mathlib.Core.Bool.{Bool}
use Rattle.buffers.specs.declared.triple.Triple.{Triple}
use Rattle.buffers.specs.Roles.{Permutation}
use Rattle.telegram.specs.declared.reader.Reader.{Reader}
use Rattle.telegram.specs.Counts.{ReadCounts, SentCounts}
use Rattle.telegram.proofs.Counts.{empty_counts}
use Rattle.state.specs.declared.control.Control.{Control}
use Rattle.state.specs.declared.state.Incoming.{Incoming}
use Rattle.state.specs.declared.state.Outputs.{Outputs}
use Rattle.state.specs.declared.state.Reply.{Reply}
use Rattle.state.specs.declared.state.State.{State}
use Rattle.state.specs.Sound.{DiagnosisCounted, Sound}
use Rattle.state.specs.Start.{no_reply}
use Rattle.state.specs.With.{with_outputs, with_inputs, with_incoming, with_reply}
use Rattle.steps.specs.Reading.{read_on, read_by, beginning}

-- what a reply keeps
pub record ReplySound (r : Reply) : Type 0 where
  pub counts : SentCounts r.sender
  pub place : r.place ≤ 3

module _ (s : State) (h : Sound s) where
  -- all but the setup and the sets of parameters and of configuration
  with_others : (c : Control) (o : Outputs) (t : Triple) (swapped : Bool) (i : Incoming) (r : Reply)
      → DiagnosisCounted s.setup.diagnosis_len c.diagnosis → c.chain ≡ s.control.chain → Permutation 4 o.set.place → Permutation 3 t.place → ReadCounts i.reader → ReplySound r
      → Sound (record { setup = s.setup; control = c; outputs = o; inputs = t; parameters = s.parameters; configuration = s.configuration; swapped = swapped; incoming = i; reply = r })
  with_others c o t swapped i r d e p q a b = record {
    setup = h.setup;
    outputs = p;
    inputs = q;
    parameters = h.parameters;
    configuration = h.configuration;
    parameter_counts = h.parameter_counts;
    configuration_counts = h.configuration_counts;
    diagnosis_counts = d;
    chain_master = rw e h.chain_master;
    chain_code = rw e h.chain_code;
    reading = a;
    sending = b.counts;
    place = b.place;
  }

  reply_same : ReplySound s.reply
  reply_same = record { counts = h.sending; place = h.place }

  -- another control part, and which diagnosis buffer is whose
  pub sound_control : (c : Control) (swapped : Bool) → DiagnosisCounted s.setup.diagnosis_len c.diagnosis → c.chain ≡ s.control.chain
      → Sound (record { setup = s.setup; control = c; outputs = s.outputs; inputs = s.inputs; parameters = s.parameters; configuration = s.configuration; swapped = swapped; incoming = s.incoming; reply = s.reply })
  sound_control c swapped d e = with_others c s.outputs s.inputs swapped s.incoming s.reply d e h.outputs h.inputs h.reading reply_same

  -- other roles of the outputs
  pub sound_outputs : (o : Outputs) → Permutation 4 o.set.place → Sound (with_outputs s o)
  sound_outputs o p = with_others s.control o s.inputs s.swapped s.incoming s.reply h.diagnosis_counts refl p h.inputs h.reading reply_same

  -- and of the inputs
  pub sound_inputs : (t : Triple) → Permutation 3 t.place → Sound (with_inputs s t)
  sound_inputs t p = with_others s.control s.outputs t s.swapped s.incoming s.reply h.diagnosis_counts refl h.outputs p h.reading reply_same

  -- another reading
  pub sound_incoming : (i : Incoming) → ReadCounts i.reader → Sound (with_incoming s i)
  sound_incoming i a = with_others s.control s.outputs s.inputs s.swapped i s.reply h.diagnosis_counts refl h.outputs h.inputs a reply_same

  pub sound_read_by : (r : Reader) → ReadCounts r → Sound (read_by s r)
  sound_read_by r a = sound_incoming (read_on s.incoming r) a

  -- another reply
  pub sound_reply : (r : Reply) → ReplySound r → Sound (with_reply s r)
  sound_reply r b = with_others s.control s.outputs s.inputs s.swapped s.incoming r h.diagnosis_counts refl h.outputs h.inputs h.reading b

  pub sound_no_reply : Sound (with_reply s no_reply)
  sound_no_reply = sound_reply no_reply (record { counts = empty_counts; place = omega arith })

-- another reading and no reply
pub sound_beginning : (s : State) (r : Reader) → Sound s → ReadCounts r → Sound (beginning s r)
sound_beginning s r h a = sound_no_reply (read_by s r) (sound_read_by s h r a)
