-- The state packed in front of the memory again: every buffer is as it was.
use Prim.Native.Nat.{ℕ, ◌≤◌, ◌<◌}
use native.Mathlib.Omega.{arith}
use mathlib.Core.Path.{◌≡◌, refl, ◌∙◌}
use mathlib.Core.List.{List}
use lib.ListN.{length, get_or}
use Rattle.buffers.specs.Roles.{fill_of, next_of, held_of}
use Rattle.buffers.specs.Roles as role
use Rattle.octets.specs.Part.{part}
use Rattle.channels.specs.Image.{channels_at, rows_length}
use Rattle.state.specs.declared.setup.Setup.{Setup}
use Rattle.state.specs.declared.state.State.{State}
use Rattle.state.specs.Layout.{image_length, output_row, input_row, parameter_row, configuration_row, diagnosis_row, row_count, start_of, get_cfg_at}
use Rattle.state.specs.Memory.{kept}
use Rattle.state.proofs.Places.{inside, get_cfg_inside}
use Rattle.state.proofs.Front.{kept_part, kept_length}
use Rattle.ledger.specs.Ledger.{Ledger}
use Rattle.steps.specs.Replies.{own_place, user_place}
use Rattle.agreement.proofs.OtherBuffersStay.{outputs_stay}
use Rattle.agreement.proofs.Relation.{Agrees}
use Rattle.agreement.proofs.LineStays.{SameSource, SameFills, reply_stays, reading_stays}
use Rattle.steps.proofs.KeepsSafe.{own_in, user_in, safe_same}

-- the relation holds of the packed memory
pub kept_agrees : {s : State} {m : List ℕ} {l : Ledger} → image_length ≤ length m → Agrees s m l → Agrees s (kept s m) l
kept_agrees {s} {m} {l} long a = record {
  setup = a.setup;
  control = a.control;
  outputs = outputs_stay (λ j _ h. same output_row (get_or s.outputs.set.place j 0) s.setup.output_len (a.safe.outputs.within j h)) a.outputs;
  inputs = record {
    sending = same input_row (fill_of s.inputs.place) s.setup.input_len (a.safe.inputs.within role.fill (omega arith)) ∙ a.inputs.sending;
    next = same input_row (next_of s.inputs.place) s.setup.input_len (a.safe.inputs.within role.next (omega arith)) ∙ a.inputs.next;
    held = same input_row (held_of s.inputs.place) s.setup.input_len (a.safe.inputs.within role.held (omega arith)) ∙ a.inputs.held;
    fresh = a.inputs.fresh;
  };
  parameters = record {
    shown = same parameter_row (held_of s.parameters.set.place) s.parameters.shown (a.safe.parameters.within role.held (omega arith)) ∙ a.parameters.shown;
    waiting = same parameter_row (next_of s.parameters.set.place) s.parameters.waiting (a.safe.parameters.within role.next (omega arith)) ∙ a.parameters.waiting;
    shown_count = a.parameters.shown_count;
    waiting_count = a.parameters.waiting_count;
    fresh = a.parameters.fresh;
  };
  configuration = record {
    shown = same configuration_row (held_of s.configuration.set.place) s.configuration.shown (a.safe.configuration.within role.held (omega arith)) ∙ a.configuration.shown;
    waiting = same configuration_row (next_of s.configuration.set.place) s.configuration.waiting (a.safe.configuration.within role.next (omega arith)) ∙ a.configuration.waiting;
    shown_count = a.configuration.shown_count;
    waiting_count = a.configuration.waiting_count;
    fresh = a.configuration.fresh;
  };
  diagnosis = record {
    own = same diagnosis_row (own_place s.swapped) s.setup.diagnosis_len (own_in s.swapped) ∙ a.diagnosis.own;
    user = same diagnosis_row (user_place s.swapped) s.setup.diagnosis_len (user_in s.swapped) ∙ a.diagnosis.user;
  };
  slice = in_slice ∙ a.slice;
  reading = reading_stays s s m (kept s m) refl fills l.line a.reading;
  reply = reply_stays s s m (kept s m) refl l.line (λ _. source) a.reply;
  safe = safe_same s m (kept s m) (kept_length s m long) (kept_part s m channels_at rows_length (omega arith)) a.safe;
}
  where
    g : Setup
    g = s.setup

    same : (row i n : ℕ) → i < row_count row → part (kept s m) (start_of g row i) n ≡ part m (start_of g row i) n
    same row i n h = kept_part s m (start_of g row i) n (inside g row i 0 h (omega arith)).0

    in_slice : part (kept s m) (get_cfg_at g) g.get_cfg_len ≡ part m (get_cfg_at g) g.get_cfg_len
    in_slice = kept_part s m (get_cfg_at g) g.get_cfg_len (get_cfg_inside g 0 (omega arith)).0

    fills : SameFills s m s (kept s m)
    fills = record {
      setup = refl;
      outputs = λ k _. same output_row (fill_of s.outputs.set.place) k (a.safe.outputs.within role.fill (omega arith));
      parameters = λ k _. same parameter_row (fill_of s.parameters.set.place) k (a.safe.parameters.within role.fill (omega arith));
      configuration = λ k _. same configuration_row (fill_of s.configuration.set.place) k (a.safe.configuration.within role.fill (omega arith));
    }

    source : SameSource s m s (kept s m)
    source = record {
      ident = refl;
      inputs = same input_row (fill_of s.inputs.place) g.input_len (a.safe.inputs.within role.fill (omega arith));
      outputs = λ _. same output_row s.reply.place g.output_len (let h = a.safe.reply in omega arith);
      slice = in_slice;
      diagnosis = λ _. same diagnosis_row (own_place s.swapped) g.diagnosis_len (own_in s.swapped);
    }
