-- A part of the state packed alone: the memory then holds the state with that part changed.
use Prim.Native.Nat.{ℕ, zero, suc, ◌+◌, ◌/◌, ◌%◌, ◌≤◌, ◌<◌}
use native.Mathlib.Omega.{arith}
use mathlib.Core.Path.{◌≡◌, sym, ap, ◌∙◌}
use mathlib.Core.Bool.{Bool}
use mathlib.Core.List.{List, [], ◌∷◌}
use lib.ListN.{length, get_or, set}
use borrow.Author.Tests.{ne_eqb}
use Rattle.buffers.specs.declared.events.Events.{Events}
use Rattle.buffers.specs.declared.triple.Triple.{Triple}
use Rattle.buffers.specs.Number.{number_of, number_of4}
use Rattle.telegram.specs.declared.sender.Sender.{Sender}
use Rattle.state.specs.declared.chain.Chain.{Chain}
use Rattle.state.specs.declared.control.Control.{Control}
use Rattle.state.specs.declared.state.Incoming.{Incoming}
use Rattle.state.specs.declared.state.Outputs.{Outputs}
use Rattle.state.specs.declared.state.Reply.{Reply}
use Rattle.state.specs.declared.state.Sets.{Sets}
use Rattle.state.specs.declared.state.State.{State}
use Rattle.state.specs.Image.{bit_of, double_octets, flags_of, modes_of, marks_of, inputs_code, image}
use Rattle.state.specs.Layout.{image_length}
use Rattle.state.specs.Memory.{kept, Changes}
use Rattle.state.specs.Number.{reading_number, kind_number, stage_number, phase_number, drawn_number}
use Rattle.state.proofs.Front.{kept_kept}
use Rattle.state.specs.With.{with_standing, with_event_word, with_ticks, with_chain, with_outputs, with_inputs, with_parameters, with_configuration, with_swapped, with_incoming, with_read, with_kept, with_sender, with_outline}

-- ---- the octets lie in the memory

pub in_front : (m : List ℕ) → image_length ≤ length m → (i : ℕ) → i < image_length → i < length m
in_front m long i lt = omega arith

-- ---- octets written one after the other

abbrev pub wrote : List ℕ → ℕ → List ℕ → List ℕ
wrote m i [] = m
wrote m i (x ∷ xs) = wrote (set m i x) (suc i) xs

-- the octets of an array of two, read one by one
abbrev pub two : List ℕ → List ℕ
two r = get_or r 0 0 ∷ get_or r 1 0 ∷ []

-- the octets of an array of four, read one by one
abbrev pub four : List ℕ → List ℕ
four r = get_or r 0 0 ∷ get_or r 1 0 ∷ get_or r 2 0 ∷ get_or r 3 0 ∷ []

-- ---- one part after another

-- what was packed stands in front
pub again : (m n : List ℕ) (t : State) → n ≡ kept t m → n ≡ kept t n
again m n t e = e ∙ sym (kept_kept t t m) ∙ ap (kept t) (sym e)

-- the last state counts
pub onto : (m n l : List ℕ) (t u : State) → n ≡ kept t m → l ≡ kept u n → l ≡ kept u m
onto m n l t u e f = f ∙ ap (kept u) e ∙ kept_kept u t m

pub then : (m n l : List ℕ) (f g : State → State) → Changes m n f → Changes n l g → Changes m l (λ s. g (f s))
then m n l f g a b = λ s e. onto m n l (f s) (g (f s)) (a s e) (b (f s) (again m n (f s) (a s e)))

-- ---- the octets of a part

-- a word, low octet first
abbrev word_octets : ℕ → List ℕ
word_octets n = n % 256 ∷ n / 256 ∷ []

-- the telegram that is coming
abbrev incoming_octets : Incoming → List ℕ
incoming_octets i =
    kind_number i.reader.kind
    ∷ reading_number i.reader.phase
    ∷ i.reader.count
    ∷ i.reader.at
    ∷ i.reader.da
    ∷ i.reader.sa
    ∷ i.reader.fc
    ∷ i.reader.dsap
    ∷ i.reader.ssap
    ∷ i.reader.sum
    ∷ i.first
    ∷ i.second
    ∷ []

-- the sender but for its kind and stage
abbrev sender_octets : Sender → List ℕ
sender_octets x = x.da ∷ x.sa ∷ x.fc ∷ x.sum ∷ x.count ∷ x.at ∷ []

-- the diagnosis header of a reply
abbrev header_octets : Reply → List ℕ
header_octets r = r.header.status1 ∷ r.header.status2 ∷ r.header.status3 ∷ r.header.master ∷ []

-- ---- the parts

-- a memory with the state s in front
module _ (m : List ℕ) (s : State) (front : m ≡ kept s m) where
  -- octets 30 to 41
  pub incoming_saved : (i : Incoming) → wrote m 30 (incoming_octets i) ≡ kept (with_incoming s i) m
  unfolding image
  incoming_saved i = ap (λ (l : List ℕ). wrote l 30 (incoming_octets i)) front

  -- octets 33 and 39
  pub read_saved : (at sum : ℕ) → wrote (wrote m 33 (at ∷ [])) 39 (sum ∷ []) ≡ kept (with_read s at sum) m
  unfolding image
  read_saved at sum = ap (λ (l : List ℕ). wrote (wrote l 33 (at ∷ [])) 39 (sum ∷ [])) front

  -- octet 40 or 41
  pub octet_kept : (k b : ℕ) → k < 2 → wrote m (40 + k) (b ∷ []) ≡ kept (with_kept s k b) m
  unfolding image
  octet_kept zero b h = ap (λ (l : List ℕ). wrote l 40 (b ∷ [])) front
  octet_kept (suc zero) b h = ap (λ (l : List ℕ). wrote l 41 (b ∷ [])) front
  octet_kept (suc (suc k)) b h = absurd (omega arith)

  -- a later one is not
  pub octet_past : (k b : ℕ) → 2 ≤ k → m ≡ kept (with_kept s k b) m
  octet_past k b h = rw (ne_eqb k 0 (λ e. omega arith), ne_eqb k 1 (λ e. omega arith)) front

  -- octets 10 to 17
  pub sender_saved : (x : Sender) → wrote (wrote m 16 (kind_number x.kind ∷ stage_number x.stage ∷ [])) 10 (sender_octets x) ≡ kept (with_sender s x) m
  unfolding image
  sender_saved x = ap (λ (l : List ℕ). wrote (wrote l 16 (kind_number x.kind ∷ stage_number x.stage ∷ [])) 10 (sender_octets x)) front

  -- octets 6 to 9, 18 and 19
  pub outline_saved : (r : Reply) → wrote (wrote m 18 (drawn_number r.drawn ∷ r.place ∷ [])) 6 (header_octets r) ≡ kept (with_outline s r) m
  unfolding image
  outline_saved r = ap (λ (l : List ℕ). wrote (wrote l 18 (drawn_number r.drawn ∷ r.place ∷ [])) 6 (header_octets r)) front

  -- octets 4 and 5
  pub events_saved : (e : Events) → wrote m 4 (word_octets e.word) ≡ kept (with_event_word s e) m
  unfolding image
  events_saved e = ap (λ (l : List ℕ). wrote l 4 (word_octets e.word)) front

  -- octets 44 to 47
  pub ticks_saved : (n : ℕ) → wrote m 44 (double_octets n) ≡ kept (with_ticks s n) m
  unfolding image
  ticks_saved n = ap (λ (l : List ℕ). wrote l 44 (double_octets n)) front

  -- octets 54 and 55
  pub chain_saved : (h : Chain) → wrote m 54 (h.code ∷ h.master ∷ []) ≡ kept (with_chain s h) m
  unfolding image
  chain_saved h = ap (λ (l : List ℕ). wrote l 54 (h.code ∷ h.master ∷ [])) front

  -- octets 0 to 3, 21, 26, 27, 56, 57 and 64 to 67
  pub standing_saved : (c : Control) → wrote (wrote (wrote (wrote (wrote m 21 (phase_number c.phase ∷ [])) 64 (double_octets c.watchdog.reload)) 0 (c.owner ∷ c.group ∷ c.stored ∷ flags_of c.flags c.noted ∷ [])) 26 (c.diagnosis.delayed_flags ∷ modes_of c.modes ∷ [])) 56 (c.diagnosis.count ∷ c.diagnosis.delayed_count ∷ []) ≡ kept (with_standing s c) m
  unfolding image
  standing_saved c = ap (λ (l : List ℕ). wrote (wrote (wrote (wrote (wrote l 21 (phase_number c.phase ∷ [])) 64 (double_octets c.watchdog.reload)) 0 (c.owner ∷ c.group ∷ c.stored ∷ flags_of c.flags c.noted ∷ [])) 26 (c.diagnosis.delayed_flags ∷ modes_of c.modes ∷ [])) 56 (c.diagnosis.count ∷ c.diagnosis.delayed_count ∷ [])) front

  -- octets 22 and 29
  pub outputs_saved : (o : Outputs) → wrote (wrote m 22 (number_of4 o.set.place ∷ [])) 29 (marks_of o ∷ []) ≡ kept (with_outputs s o) m
  unfolding image
  outputs_saved o = ap (λ (l : List ℕ). wrote (wrote l 22 (number_of4 o.set.place ∷ [])) 29 (marks_of o ∷ [])) front

  -- octet 23
  pub inputs_saved : (t : Triple) → wrote m 23 (inputs_code t ∷ []) ≡ kept (with_inputs s t) m
  unfolding image
  inputs_saved t = ap (λ (l : List ℕ). wrote l 23 (inputs_code t ∷ [])) front

  -- octets 24, 58 and 59
  pub parameters_saved : (x : Sets) → wrote (wrote m 24 (number_of x.set.place ∷ [])) 58 (x.shown ∷ x.waiting ∷ []) ≡ kept (with_parameters s x) m
  unfolding image
  parameters_saved x = ap (λ (l : List ℕ). wrote (wrote l 24 (number_of x.set.place ∷ [])) 58 (x.shown ∷ x.waiting ∷ [])) front

  -- octets 25, 60 and 61
  pub configuration_saved : (x : Sets) → wrote (wrote m 25 (number_of x.set.place ∷ [])) 60 (x.shown ∷ x.waiting ∷ []) ≡ kept (with_configuration s x) m
  unfolding image
  configuration_saved x = ap (λ (l : List ℕ). wrote (wrote l 25 (number_of x.set.place ∷ [])) 60 (x.shown ∷ x.waiting ∷ [])) front

  -- octet 28
  pub swapped_saved : (b : Bool) → wrote m 28 (bit_of b ∷ []) ≡ kept (with_swapped s b) m
  unfolding image
  swapped_saved b = ap (λ (l : List ℕ). wrote l 28 (bit_of b ∷ [])) front
