-- A gap, and a reply that leaves octet by octet: the buffers that it is read from lie in the memory, one part of the state is written, and
-- then the line is settled.
use Rattle.std.proofs.Common.{◌≡◌, ℕ, ◌+◌, ◌≤◌, Bool, true, false, List, length, sym, refl, ◌∙◌, arith}
use Rattle.std.proofs.Math.Logic.{∥∥₁_elim}
use Rattle.std.specs.Coded.{le_prop}
use Rattle.buffers.specs.Roles.{fill_of}
use Rattle.buffers.specs.Roles as role
use Rattle.telegram.specs.declared.reader.Reader.{Reader}
use Rattle.telegram.specs.declared.sender.Sent.{Sent}
use Rattle.telegram.specs.Reading.{start}
use Rattle.telegram.specs.Sending.{left, sent}
use Rattle.telegram.proofs.Counts.{start_counts, sent_counts}
use Rattle.state.specs.declared.state.Incoming.{Incoming}
use Rattle.state.specs.declared.state.Reply.{Reply}
use Rattle.state.specs.declared.state.State.{State}
use Rattle.state.specs.Layout.{output_row, input_row, diagnosis_row, outputs_at, inputs_at, parameters_at, diagnosis_at, get_cfg_at}
use Rattle.state.specs.Memory.{kept, Holds, Changes}
use Rattle.state.specs.With.{with_incoming, with_sender}
use Rattle.steps.specs.Stepped.{packed_after}
use Rattle.steps.specs.Outcome.{settle}
use Rattle.steps.specs.Replies.{own_place, asked_for}
use Rattle.steps.specs.Reading.{read_on, read_by}
use Rattle.steps.specs.Bus.{sent_by, send_told, send_left}
use Rattle.steps.proofs.SoundWith.{sound_read_by, sound_reply}
use Rattle.steps.proofs.KeepsSafe.{own_in, buffer_room, get_cfg_room, prm_room}
use Rattle.steps.proofs.Holding.{holds_safe}
use Rattle.state.proofs.Damage.{fronted_same}
use Rattle.outcomes.proofs.Settled.{Fronts}

-- ---- the buffers that are read

module _ (m : List ℕ) (s : State) (held : ∥ Holds m s ∥₁) where
  -- the inputs that are sent
  pub inputs_room : inputs_at s.setup (fill_of s.inputs.place) + s.setup.input_len ≤ length m
  inputs_room = ∥∥₁_elim held le_prop (λ h. buffer_room s m input_row (fill_of s.inputs.place) (holds_safe m s h) ((holds_safe m s h).inputs.within role.fill (omega arith)))

  -- the outputs that the reply leaves from
  pub outputs_room : outputs_at s.setup s.reply.place + s.setup.output_len ≤ length m
  outputs_room =
      ∥∥₁_elim held le_prop (λ h.
      let g = (holds_safe m s h).reply in
      buffer_room s m output_row s.reply.place (holds_safe m s h) (omega arith))

  -- the controller's diagnosis
  pub diagnosis_room : diagnosis_at s.setup (own_place s.swapped) + s.setup.diagnosis_len ≤ length m
  diagnosis_room = ∥∥₁_elim held le_prop (λ h. buffer_room s m diagnosis_row (own_place s.swapped) (holds_safe m s h) (own_in s.swapped))

  -- and what Get_Cfg sends
  pub get_cfg_in : get_cfg_at s.setup + s.setup.get_cfg_len ≤ length m
  get_cfg_in = ∥∥₁_elim held le_prop (λ h. get_cfg_room s m (holds_safe m s h))

  -- the octets of Set_Prm
  pub prm_in : parameters_at s.setup (fill_of s.parameters.set.place) + 8 ≤ length m
  prm_in = ∥∥₁_elim held le_prop (λ h. prm_room s m (holds_safe m s h))

-- ---- a gap

-- the reader begins anew
pub paused_fronts : (m : List ℕ) (s : State) → Holds m s → {old i : Incoming} {r : Reader} {n : List ℕ} → old ≡ s.incoming → r ≡ start → i ≡ read_on old r
    → Changes m n (λ u. with_incoming u i) → Fronts (read_by s start) m n
paused_fronts m s h same starts read k = record {
  sound = sound_read_by s h.sound start start_counts;
  room = h.room;
  front = k s (fronted_same m s h) ∙ (λ t. kept (with_incoming s ((read ∙ (λ u. read_on (same u) (starts u))) t)) m);
}

-- ---- send

-- no octet is left: the memory stays
pub nothing_left : (m : List ℕ) (s : State) → Holds m s → left s.reply.sender ≡ false
    → (256 ≡ send_told s m) × (m ≡ packed_after (send_left s m))
unfolding send_told send_left
nothing_left m s h e = rw e (refl, fronted_same m s h)

-- an octet leaves
module _ (m : List ℕ) (s : State) {reply : Reply} {x : Sent} {datum : ℕ} (same : reply ≡ s.reply) (asked : datum ≡ asked_for s m)
    (goes : x ≡ sent reply.sender datum) where
  abbrev gone : Sent
  gone = sent s.reply.sender (asked_for s m)

  is_gone : x ≡ gone
  is_gone = goes ∙ (λ i. sent (same i).sender (asked i))

  pub sent_fronts : Holds m s → {n : List ℕ} → Changes m n (λ u. with_sender u x.sender) → Fronts (with_sender s gone.sender) m n
  sent_fronts h k = record {
    sound =
        sound_reply s h.sound (sent_by s.reply gone.sender)
        (record { counts = sent_counts s.reply.sender (asked_for s m) h.sound.sending; place = h.sound.place });
    room = h.room;
    front = k s (fronted_same m s h) ∙ (λ i. kept (with_sender s (is_gone i).sender) m);
  }

  pub octet_left : {t : Bool} → t ≡ left reply.sender → t ≡ true → {out : List ℕ} → out ≡ packed_after (settle (with_sender s gone.sender) m)
      → (x.octet ≡ send_told s m) × (out ≡ packed_after (send_left s m))
  unfolding send_told send_left
  octet_left f e g = rw (sym (f ∙ (λ i. left (same i).sender)) ∙ e) ((λ i. (is_gone i).octet), g)
