-- The calls read and write: told alike, and what is left agrees.
use Rattle.std.specs.Prelude.{Ok}
use Prim.Native.Nat.{ℕ, ◌+◌, ◌≤◌, ◌<◌}
use native.Mathlib.Omega.{arith}
use mathlib.Core.Path.{◌≡◌, refl, sym, ap, ◌∙◌, subst}
use mathlib.Core.Bool.{Bool, true, false, cond, not, ◌&&◌, ◌||◌}
use mathlib.Core.List.{List}
use lib.Dec.{eqb, leb, ltb}
use lib.ListN.{get_or, set}
use borrow.Author.Tests.{ltb-true, leb-false, eqb-true, not-false}
use Rattle.buffers.specs.Roles.{fill_of, next_of, held_of}
use Rattle.buffers.specs.Roles as role
use Rattle.octets.specs.Part.{part}
use Rattle.octets.proofs.Parts.{part_at, part_set_inside}
use Rattle.telegram.proofs.Run.{no_true}
use Rattle.state.specs.declared.setup.Setup.{Setup}
use Rattle.state.specs.declared.answer.Refusal.TheVariants.{Range, Absent}
use Rattle.state.specs.declared.state.Sets as station-sets
use Rattle.state.specs.declared.state.State.{State}
use Rattle.state.specs.Layout.{output_row, input_row, parameter_row, configuration_row, diagnosis_row, get_cfg_row, outputs_at, inputs_at, parameters_at, configuration_at, diagnosis_at}
use Rattle.rules.specs.Diagnosis.{delayed}
use Rattle.ledger.specs.Lists as lists
use Rattle.ledger.specs.Ledger.{Ledger, with_buffers}
use Rattle.ledger.specs.User as ledger-user
use Rattle.rules.specs.Kinds.{kind_length, in_range, writable}
use Rattle.ledger.specs.User.{octets_of_kind, written_octet}
use Rattle.ledger.specs.Calls as ledger-calls
use Rattle.rules.specs.Call.{read, write}
use Rattle.steps.specs.Replies.{own_place, user_place}
use Rattle.steps.specs.Stepped.{refusing}
use Rattle.steps.specs.User.{absent, kind_at, read_octet, write_octet}
use Rattle.steps.specs.Step.{step}
use Rattle.agreement.proofs.Relation.{InputsAgree, SetsAgree, DiagnosesAgree, Agrees, Matches}
use Rattle.agreement.proofs.Steady.{SetsFit, Steady, Related}
use Rattle.agreement.proofs.OtherBuffersStay.{Elsewhere, set_elsewhere, inputs_stay, diagnoses_stay, slice_stays, sets_stay, outputs_stay}
use Rattle.agreement.proofs.LineStays.{reading_stays, reply_stays}
use Rattle.steps.proofs.KeepsSafe.{own_in, user_in, safe_same}
use Rattle.state.proofs.Choice.{both, and_left, and_right, or_left}
use Rattle.agreement.proofs.UserCallsAgree.{refuses}

-- ---- reading

module _ {s : State} {m : List ℕ} {l : Ledger} (a : Agrees s m l) where
  -- the octet of a list that is a part of the memory
  octet_at_lem : (base n index : ℕ) (xs : List ℕ) → index < n → part m base n ≡ xs → get_or m (base + index) 0 ≡ get_or xs index 0
  octet_at_lem base n index xs h e = sym (part_at m base n index h) ∙ ap (λ (l : List ℕ). get_or l index 0) e

  kind_octet : (kind index : ℕ) → in_range s.setup kind index ≡ true → absent s kind index ≡ false
      → get_or m (kind_at s kind + index) 0 ≡ get_or (octets_of_kind l.buffers kind) index 0
  kind_octet kind index e f =
      go (eqb kind 1) (eqb kind 2) (eqb kind 3) (eqb kind 4) (eqb kind 5) (and_right (leb (cond (eqb kind 5) 6 0) index) (ltb index (kind_length s.setup kind)) e) f
    where
      go : (p₁ p₂ p₃ p₄ p₅ : Bool)
          → ltb index
          (cond p₁ s.setup.output_len
          (cond p₂ s.setup.parameter_len
          (cond p₃ s.setup.configuration_len (cond p₄ s.setup.input_len (cond p₅ s.setup.diagnosis_len 0)))))
          ≡ true
          → (p₂ && leb s.parameters.shown index) || (p₃ && leb s.configuration.shown index) || (p₅ && delayed s.control) ≡ false
          → get_or m
          (cond p₁ (outputs_at s.setup (held_of s.outputs.set.place))
          (cond p₂ (parameters_at s.setup (held_of s.parameters.set.place))
          (cond p₃ (configuration_at s.setup (held_of s.configuration.set.place))
          (cond p₄ (inputs_at s.setup (held_of s.inputs.place)) (diagnosis_at s.setup (user_place s.swapped)))))
          + index) 0
          ≡ get_or
          (cond p₁ l.buffers.outputs.held
          (cond p₂ l.buffers.parameters.shown
          (cond p₃ l.buffers.configuration.shown (cond p₄ l.buffers.inputs.held l.buffers.diagnosis.user))))
          index 0
      go true p₂ p₃ p₄ p₅ h k = octet_at_lem _ s.setup.output_len index l.buffers.outputs.held (ltb-true _ _ h) a.outputs.held
      go false true p₃ p₄ p₅ h k =
          octet_at_lem _ s.parameters.shown index l.buffers.parameters.shown
          (leb-false _ _ (or_left (leb s.parameters.shown index) (p₃ && leb s.configuration.shown index) (or_left _ (p₅ && delayed s.control) k)))
          a.parameters.shown
      go false false true p₄ p₅ h k =
          octet_at_lem _ s.configuration.shown index l.buffers.configuration.shown
          (leb-false _ _ (or_left (leb s.configuration.shown index) (p₅ && delayed s.control) k))
          a.configuration.shown
      go false false false true p₅ h k = octet_at_lem _ s.setup.input_len index l.buffers.inputs.held (ltb-true _ _ h) a.inputs.held
      go false false false false true h k = octet_at_lem _ s.setup.diagnosis_len index l.buffers.diagnosis.user (ltb-true _ _ h) a.diagnosis.user
      go false false false false false h k = let z = ltb-true index 0 h in absurd (omega arith)

  absent_agrees : (kind index : ℕ) → absent s kind index ≡ ledger-user.absent l kind index
  absent_agrees kind index =
      λ i. (eqb kind 2 && leb (a.parameters.shown_count i) index)
      || (eqb kind 3 && leb (a.configuration.shown_count i) index)
      || (eqb kind 5 && delayed (a.control i))

  pub read_matches : (kind index : ℕ) → Matches (step s m (read kind index)) (ledger-calls.step l (read kind index))
  unfolding read_octet ledger-user.read_octet
  read_matches kind index =
      both Matches (not (in_range s.setup kind index)) (not (in_range l.setup kind index)) (refusing Range s m) _ (ledger-user.refusing Range l) _
      (ap (λ (g : Setup). not (in_range g kind index)) a.setup)
      (λ _. refuses a Range)
      (λ e. both Matches (absent s kind index) (ledger-user.absent l kind index) (refusing Absent s m) _ (ledger-user.refusing Absent l) _
      (absent_agrees kind index)
      (λ _. refuses a Absent)
      (λ f. record { answers = ap Ok (kind_octet kind index (not-false _ e) f); agrees = a }))

-- ---- writing

own_not_user : (w : Bool) → user_place w ≡ own_place w → ⊥
own_not_user true e = omega arith
own_not_user false e = omega arith

-- the memory changed in an input or a diagnosis buffer that nothing leaves from
module _ {s : State} {m m' : List ℕ} {l : Ledger} (r : Agrees s m l) (t : Steady l) (a i : ℕ) (e : Elsewhere s.setup a i m m')
    (not-outputs : a ≡ output_row → ⊥) (not-parameters : a ≡ parameter_row → ⊥) (not-configuration : a ≡ configuration_row → ⊥) (not_slice : a ≡ get_cfg_row → ⊥)
    (not-sending : a ≡ input_row → i ≡ fill_of s.inputs.place → ⊥) (not_own : a ≡ diagnosis_row → i ≡ own_place s.swapped → ⊥) where
  output : (j k : ℕ) → j < 4 → k ≤ s.setup.output_len → part m' (outputs_at s.setup j) k ≡ part m (outputs_at s.setup j) k
  output j k hj hk = e.other output_row j k hj hk (λ z _. not-outputs z)

  parameter : (j k : ℕ) → j < 3 → k ≤ s.setup.parameter_len → part m' (parameters_at s.setup j) k ≡ part m (parameters_at s.setup j) k
  parameter j k hj hk = e.other parameter_row j k hj hk (λ z _. not-parameters z)

  configured : (j k : ℕ) → j < 3 → k ≤ s.setup.configuration_len → part m' (configuration_at s.setup j) k ≡ part m (configuration_at s.setup j) k
  configured j k hj hk = e.other configuration_row j k hj hk (λ z _. not-configuration z)

  -- shown and waiting sets are no longer than their buffers
  within_fit : (x : station-sets.Sets) (y : lists.Sets) (n k : ℕ) (base : ℕ → ℕ) → n ≡ k → SetsFit k y → SetsAgree base m x y → (x.shown ≤ n) × (x.waiting ≤ n)
  within_fit x y n k base z f h =
      let u = h.shown_count in
      let v = h.waiting_count in
      let p = f.shown in
      let q = f.waiting in
      (omega arith, omega arith)

  written : (x : lists.Inputs) (y : lists.Diagnoses) → InputsAgree s.setup m' s.inputs x → DiagnosesAgree s.setup m' s.swapped y
      → Agrees s m'
      (with_buffers l
      (record { outputs = l.buffers.outputs; inputs = x; parameters = l.buffers.parameters; configuration = l.buffers.configuration; diagnosis = y }))
  written x y hx hy =
      let f = r.safe in
      let p = within_fit s.parameters l.buffers.parameters _ _ (parameters_at s.setup) (ap (λ (g : Setup). g.parameter_len) r.setup) t.order.parameters_fit r.parameters in
      let q = within_fit s.configuration l.buffers.configuration _ _ (configuration_at s.setup) (ap (λ (g : Setup). g.configuration_len) r.setup) t.order.configuration_fit r.configuration in
      record {
        setup = r.setup;
        control = r.control;
        outputs = outputs_stay (λ j _ h. output (get_or s.outputs.set.place j 0) s.setup.output_len (f.outputs.within j h) (omega arith)) r.outputs;
        inputs = hx;
        parameters =
            sets_stay (parameter (held_of s.parameters.set.place) s.parameters.shown (f.parameters.within role.held (omega arith)) p.0)
            (parameter (next_of s.parameters.set.place) s.parameters.waiting (f.parameters.within role.next (omega arith)) p.1) r.parameters;
        configuration =
            sets_stay (configured (held_of s.configuration.set.place) s.configuration.shown (f.configuration.within role.held (omega arith)) q.0)
            (configured (next_of s.configuration.set.place) s.configuration.waiting (f.configuration.within role.next (omega arith)) q.1) r.configuration;
        diagnosis = hy;
        slice = slice_stays e not_slice ∙ r.slice;
        reading =
            reading_stays s s m m' refl
            (record {
              setup = refl;
              outputs = λ k h. output (fill_of s.outputs.set.place) k (f.outputs.within role.fill (omega arith)) h;
              parameters = λ k h. parameter (fill_of s.parameters.set.place) k (f.parameters.within role.fill (omega arith)) h;
              configuration = λ k h. configured (fill_of s.configuration.set.place) k (f.configuration.within role.fill (omega arith)) h;
            })
            l.line r.reading;
        reply =
            reply_stays s s m m' refl l.line
            (λ _. record {
              ident = refl;
              inputs = e.other input_row (fill_of s.inputs.place) s.setup.input_len (f.inputs.within role.fill (omega arith)) (omega arith) not-sending;
              outputs = λ _. output s.reply.place s.setup.output_len (let u = f.reply in omega arith) (omega arith);
              slice = slice_stays e not_slice;
              diagnosis = λ _. e.other diagnosis_row (own_place s.swapped) s.setup.diagnosis_len (own_in s.swapped) (omega arith) not_own;
            })
            r.reply;
        safe = safe_same s m m' e.long e.rows f;
      }

module _ {s : State} {m : List ℕ} {l : Ledger} (r : Related s m l) (index x : ℕ) where
  a : Agrees s m l
  a = r.agrees

  -- an octet of the held inputs
  written_input_lem : index < s.setup.input_len
      → Agrees s (set m (inputs_at s.setup (held_of s.inputs.place) + index) x) (with_buffers l (lists.with_inputs l.buffers (lists.written_input l.buffers.inputs index x)))
  written_input_lem h =
      let f = a.safe in
      let held = held_of s.inputs.place in
      let e = set_elsewhere s.setup m input_row held f.room (f.inputs.within role.held (omega arith)) index x h in
      written a r.steady input_row held e (λ z. omega arith) (λ z. omega arith) (λ z. omega arith) (λ z. omega arith)
      (λ _ z. f.inputs.apart role.fill role.held (omega arith) (omega arith) (λ z. omega arith) (sym z)) (λ z _. omega arith)
      (lists.written_input l.buffers.inputs index x) l.buffers.diagnosis
      (record {
        sending = e.other input_row (fill_of s.inputs.place) s.setup.input_len (f.inputs.within role.fill (omega arith)) (omega arith) (λ _ z. f.inputs.apart role.fill role.held (omega arith) (omega arith) (λ z. omega arith) (sym z)) ∙ a.inputs.sending;
        next = e.other input_row (next_of s.inputs.place) s.setup.input_len (f.inputs.within role.next (omega arith)) (omega arith) (λ _ z. f.inputs.apart role.next role.held (omega arith) (omega arith) (λ z. omega arith) (sym z)) ∙ a.inputs.next;
        held = part_set_inside m (inputs_at s.setup held) s.setup.input_len index x h ∙ ap (λ (xs : List ℕ). set xs index x) a.inputs.held;
        fresh = a.inputs.fresh;
      })
      (diagnoses_stay e (λ z. omega arith) a.diagnosis)

  -- an octet of the user's diagnosis buffer
  written_diagnosis_lem : index < s.setup.diagnosis_len
      → Agrees s (set m (diagnosis_at s.setup (user_place s.swapped) + index) x)
      (with_buffers l (lists.with_diagnoses l.buffers (lists.written_diagnosis l.buffers.diagnosis index x)))
  written_diagnosis_lem h =
      let f = a.safe in
      let user = user_place s.swapped in
      let e = set_elsewhere s.setup m diagnosis_row user f.room (user_in s.swapped) index x h in
      written a r.steady diagnosis_row user e (λ z. omega arith) (λ z. omega arith) (λ z. omega arith) (λ z. omega arith)
      (λ z _. omega arith) (λ _ z. own_not_user s.swapped z)
      l.buffers.inputs (lists.written_diagnosis l.buffers.diagnosis index x)
      (inputs_stay e f.inputs (λ z. omega arith) a.inputs)
      (record {
        own = e.other diagnosis_row (own_place s.swapped) s.setup.diagnosis_len (own_in s.swapped) (omega arith) (λ _ z. own_not_user s.swapped z) ∙ a.diagnosis.own;
        user = part_set_inside m (diagnosis_at s.setup user) s.setup.diagnosis_len index x h ∙ ap (λ (xs : List ℕ). set xs index x) a.diagnosis.user;
      })

  abbrev Writes : ℕ → Type 0
  Writes kind = Agrees s (set m (kind_at s kind + index) x) (with_buffers l (written_octet l.buffers kind index x))

  written_kind : (kind : ℕ) → writable kind && in_range s.setup kind index ≡ true → Writes kind
  written_kind kind e = go (eqb kind 4) refl (eqb kind 5) refl
    where
      reach : ltb index (kind_length s.setup kind) ≡ true
      reach = and_right (leb (cond (eqb kind 5) 6 0) index) (ltb index (kind_length s.setup kind)) (and_right (writable kind) (in_range s.setup kind index) e)

      go : (p : Bool) → eqb kind 4 ≡ p → (q : Bool) → eqb kind 5 ≡ q → Writes kind
      go true f q g =
          let z = eqb-true kind 4 f in
          subst Writes (sym z) (written_input_lem (ltb-true _ _ (ap (λ (k : ℕ). ltb index (kind_length s.setup k)) (sym z) ∙ reach)))
      go false f true g =
          let z = eqb-true kind 5 g in
          subst Writes (sym z) (written_diagnosis_lem (ltb-true _ _ (ap (λ (k : ℕ). ltb index (kind_length s.setup k)) (sym z) ∙ reach)))
      go false f false g =
          no_true ((λ i. sym f i || sym g i) ∙ and_left (writable kind) (in_range s.setup kind index) e)

pub write_matches : {s : State} {m : List ℕ} {l : Ledger} → Related s m l → (kind index x : ℕ)
    → Matches (step s m (write kind index x)) (ledger-calls.step l (write kind index x))
unfolding write_octet ledger-user.write_octet
write_matches {s} {m} {l} r kind index x =
    let a = r.agrees in
    both Matches (not (writable kind && in_range s.setup kind index)) (not (writable kind && in_range l.setup kind index))
    (refusing Range s m) _ (ledger-user.refusing Range l) _
    (ap (λ (g : Setup). not (writable kind && in_range g kind index)) a.setup)
    (λ _. refuses a Range)
    (λ e. both Matches (absent s kind index) (ledger-user.absent l kind index) (refusing Absent s m) _ (ledger-user.refusing Absent l) _
    (absent_agrees a kind index)
    (λ _. refuses a Absent)
    (λ f. record { answers = refl; agrees = written_kind r index x kind (not-false _ e) }))
