-- A memory that changed in one buffer alone: every other buffer is as it was, and so is what the relation says of it.
use Prim.Native.Nat.{ℕ, ◌+◌, ◌≤◌, ◌<◌}
use native.Mathlib.Omega.{arith}
use mathlib.Core.Path.{◌≡◌, refl, sym, ap, ◌∙◌}
use mathlib.Core.Bool.{Bool}
use mathlib.Core.Logic.{◌⊎◌, inl, inr}
use mathlib.Core.List.{List}
use lib.ListN.{length, set, length-set, get_or}
use Rattle.buffers.specs.declared.triple.Triple.{Triple}
use Rattle.buffers.specs.Roles.{fill_of, next_of, held_of, Permutation}
use Rattle.buffers.specs.Roles as role
use Rattle.octets.specs.Part.{part, pasted}
use Rattle.octets.proofs.Parts.{pasted_length, pasted_apart, part_set_outside}
use Rattle.state.specs.declared.setup.Setup.{Setup}
use Rattle.state.specs.declared.state.Outputs as station-outputs
use Rattle.state.specs.declared.state.Sets as station-sets
use Rattle.state.specs.Layout.{input_row, diagnosis_row, get_cfg_row, row_count, row_length, start_of, end_of, inputs_at, diagnosis_at, get_cfg_at, outputs_at}
use Rattle.channels.specs.Image.{channels_at, rows_length}
use Rattle.state.proofs.Channelled.{rows_of}
use Rattle.state.proofs.Places.{first_start, in_front, inside, beyond, apart}
use Rattle.ledger.specs.Lists.{Inputs, Sets, Diagnoses, Outputs}
use Rattle.steps.specs.Replies.{own_place, user_place}
use Rattle.steps.proofs.KeepsSafe.{own_in, user_in}
use Rattle.agreement.proofs.Relation.{InputsAgree, SetsAgree, DiagnosesAgree, OutputsAgree}

-- m' is m but for the buffer i of the row a
pub record Elsewhere (g : Setup) (a i : ℕ) (m m' : List ℕ) : Type 0 where
  pub long : length m' ≡ length m
  -- another buffer
  pub other : (b j k : ℕ) → j < row_count b → k ≤ row_length g b → (a ≡ b → i ≡ j → ⊥) → part m' (start_of g b j) k ≡ part m (start_of g b j) k
  -- and all that begins with a later row
  pub later : (b j k : ℕ) → a < b → part m' (start_of g b j) k ≡ part m (start_of g b j) k
  -- and the channels' rows
  pub rows : rows_of m' ≡ rows_of m

-- nothing changed
pub same_elsewhere : {g : Setup} {a i : ℕ} {m : List ℕ} → Elsewhere g a i m m
same_elsewhere = record { long = refl; other = λ b j k _ _ _. refl; later = λ b j k _. refl; rows = refl }

module _ (g : Setup) (m : List ℕ) (a i : ℕ) (room : end_of g ≤ length m) (there : i < row_count a) where
  -- a buffer ends in front of every later row
  front : (b j n : ℕ) → n ≤ row_length g a → a < b → start_of g a i + n ≤ start_of g b j
  unfolding start_of
  front b j n h o = let u = in_front g a b i n o there h in omega arith

  -- a list written into the buffer
  pub pasted_elsewhere : (xs : List ℕ) → length xs ≤ row_length g a → Elsewhere g a i m (pasted m (start_of g a i) xs)
  pasted_elsewhere xs h =
      let u = inside g a i (length xs) there h in
      record {
        long = pasted_length m (start_of g a i) xs (omega arith);
        other = λ b j k hj hk d. pasted_apart m (start_of g a i) xs (start_of g b j) k (omega arith) (apart g a i (length xs) b j k there hj h hk d);
        later = λ b j k o. pasted_apart m (start_of g a i) xs (start_of g b j) k (omega arith) (inr (front b j (length xs) h o));
        rows = pasted_apart m (start_of g a i) xs channels_at rows_length (omega arith) (inl (let v = beyond g a i in omega arith));
      }

  -- an octet written into it
  pub set_elsewhere : (index x : ℕ) → index < row_length g a → Elsewhere g a i m (set m (start_of g a i + index) x)
  set_elsewhere index x h = record {
    long = length-set m (start_of g a i + index) x;
    other = λ b j k hj hk d. part_set_outside m (start_of g b j) k (start_of g a i + index) x (go (start_of g b j) k (apart g a i (row_length g a) b j k there hj (omega arith) hk d));
    later = λ b j k o. part_set_outside m (start_of g b j) k (start_of g a i + index) x (inl (let u = front b j (row_length g a) (omega arith) o in omega arith));
    rows = part_set_outside m channels_at rows_length (start_of g a i + index) x (inr (let v = beyond g a i in omega arith));
  }
    where
      go : (start k : ℕ) → (start + k ≤ start_of g a i) ⊎ (start_of g a i + row_length g a ≤ start)
          → (start_of g a i + index < start) ⊎ (start + k ≤ start_of g a i + index)
      go start k (inl e) = inr (omega arith)
      go start k (inr e) = inl (omega arith)

-- ---- the parts of the relation that lie in other buffers

module _ {g : Setup} {a i : ℕ} {m m' : List ℕ} (e : Elsewhere g a i m m') where
  pub inputs_stay : {t : Triple} {l : Inputs} → Permutation 3 t.place → (a ≡ input_row → ⊥) → InputsAgree g m t l → InputsAgree g m' t l
  inputs_stay {t} p n h =
      let other : (j : ℕ) → j < 3 → part m' (inputs_at g j) g.input_len ≡ part m (inputs_at g j) g.input_len = λ j o. e.other input_row j g.input_len o (omega arith) (λ z _. n z) in
      record {
        sending = other (fill_of t.place) (p.within role.fill (omega arith)) ∙ h.sending;
        next = other (next_of t.place) (p.within role.next (omega arith)) ∙ h.next;
        held = other (held_of t.place) (p.within role.held (omega arith)) ∙ h.held;
        fresh = h.fresh;
      }

  pub diagnoses_stay : {w : Bool} {l : Diagnoses} → (a ≡ diagnosis_row → ⊥) → DiagnosesAgree g m w l → DiagnosesAgree g m' w l
  diagnoses_stay {w} n h =
      let other : (j : ℕ) → j < 2 → part m' (diagnosis_at g j) g.diagnosis_len ≡ part m (diagnosis_at g j) g.diagnosis_len = λ j o. e.other diagnosis_row j g.diagnosis_len o (omega arith) (λ z _. n z) in
      record { own = other (own_place w) (own_in w) ∙ h.own; user = other (user_place w) (user_in w) ∙ h.user }

  pub slice_stays : (a ≡ get_cfg_row → ⊥) → part m' (get_cfg_at g) g.get_cfg_len ≡ part m (get_cfg_at g) g.get_cfg_len
  slice_stays n =
      let at = first_start g get_cfg_row in
      ap (λ (x : ℕ). part m' x g.get_cfg_len) (sym at)
      ∙ e.other get_cfg_row 0 g.get_cfg_len (omega arith) (omega arith) (λ z _. n z)
      ∙ ap (λ (x : ℕ). part m x g.get_cfg_len) at

-- outputs where the octets of next, held and back are as they were
pub outputs_stay : {g : Setup} {m m' : List ℕ} {o : station-outputs.Outputs} {l : Outputs}
    → ((j : ℕ) → role.fill < j → j < 4 → part m' (outputs_at g (get_or o.set.place j 0)) g.output_len ≡ part m (outputs_at g (get_or o.set.place j 0)) g.output_len)
    → OutputsAgree g m o l → OutputsAgree g m' o l
outputs_stay same h = record {
  held = same role.held (omega arith) (omega arith) ∙ h.held;
  next = same role.next (omega arith) (omega arith) ∙ h.next;
  back = λ e. same role.back (omega arith) (omega arith) ∙ h.back e;
  fresh = h.fresh;
  zeros = h.zeros;
  withheld = h.withheld;
}

-- sets whose octets are as they were
pub sets_stay : {base : ℕ → ℕ} {m m' : List ℕ} {x : station-sets.Sets} {l : Sets}
    → part m' (base (held_of x.set.place)) x.shown ≡ part m (base (held_of x.set.place)) x.shown
    → part m' (base (next_of x.set.place)) x.waiting ≡ part m (base (next_of x.set.place)) x.waiting
    → SetsAgree base m x l → SetsAgree base m' x l
sets_stay p q h = record {
  shown = p ∙ h.shown;
  waiting = q ∙ h.waiting;
  shown_count = h.shown_count;
  waiting_count = h.waiting_count;
  fresh = h.fresh;
}
