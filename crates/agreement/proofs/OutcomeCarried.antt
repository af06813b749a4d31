-- An outcome carried out on both sides, with the data ds of a telegram or with none. Where nothing is published or received
-- the reading and the reply stay; where a telegram is complete nothing is read and no reply is left.
use Prim.Native.Nat.{ℕ, ◌≤◌, ◌<◌}
use native.Mathlib.Omega.{arith}
use mathlib.Core.Path.{◌≡◌, refl, sym, ap, ◌∙◌, subst}
use mathlib.Core.Bool.{true, false}
use mathlib.Core.List.{List, [], ◌∷◌}
use lib.ListN.{length, replicate, length-replicate}
use Rattle.buffers.specs.declared.triple.Triple.{Triple}
use Rattle.buffers.specs.Roles.{fill_of, next_of, held_of}
use Rattle.buffers.specs.Roles as role
use Rattle.buffers.specs.Triple.{published, brought, shown}
use Rattle.octets.specs.Part.{part, pasted}
use Rattle.octets.proofs.Parts.{pasted_part}
use Rattle.telegram.specs.Sending.{left}
use Rattle.telegram.proofs.Run.{no_true}
use Rattle.state.specs.declared.setup.Setup.{Setup}
use Rattle.state.specs.declared.state.Drawn.TheVariants as drawn
use Rattle.state.specs.declared.state.Reply.{Reply}
use Rattle.state.specs.declared.state.Sets as station-sets
use Rattle.state.specs.declared.state.State.{State}
use Rattle.state.specs.Layout.{output_row, input_row, parameter_row, configuration_row, diagnosis_row, start_of, outputs_at, inputs_at, parameters_at, configuration_at}
use Rattle.state.specs.Sound.{Within}
use Rattle.state.proofs.Choice.{both}
use Rattle.state.proofs.Places.{inside}
use Rattle.rules.specs.declared.request.Request.{Request}
use Rattle.rules.specs.declared.outcome.OutputsDeed.{OutputsDeed}
use Rattle.rules.specs.declared.outcome.OutputsDeed.TheVariants as outputs-deed
use Rattle.rules.specs.declared.outcome.InputsDeed.{InputsDeed}
use Rattle.rules.specs.declared.outcome.InputsDeed.TheVariants as inputs-deed
use Rattle.rules.specs.declared.outcome.SetDeed.{SetDeed}
use Rattle.rules.specs.declared.outcome.SetDeed.TheVariants as set-deed
use Rattle.rules.specs.declared.outcome.Outcome.{Outcome}
use Rattle.rules.proofs.Headed.{Plain, To}
use Rattle.rules.proofs.Served.{Publishes, Brings, Receives, Lawful, Quiet, Served}
use Rattle.ledger.specs.Lists.{some, Outputs, Inputs, Sets}
use Rattle.ledger.specs.Ledger.{Ledger}
use Rattle.ledger.specs.Outcome as ledger
use Rattle.steps.specs.Safe.{Safe}
use Rattle.steps.specs.Outcome.{is_open, on_outputs, on_inputs, on_sets, on_state, on_memory, carried}
use Rattle.steps.specs.Replies.{own_place}
use Rattle.steps.proofs.KeepsSafe.{safe_carried}
use Rattle.agreement.proofs.Relation.{OutputsAgree, InputsAgree, SetsAgree, BeginsWith, Gathered, ReadingAgrees, ReplyAgrees, Agrees, After}
use Rattle.agreement.proofs.OtherBuffersStay.{Elsewhere, same_elsewhere, pasted_elsewhere, inputs_stay, diagnoses_stay, slice_stays, sets_stay}
use Rattle.agreement.proofs.LineStays.{SameSource, SameFills, begins_stays, begins_whole, reply_stays, reading_stays, ignored_agrees}
use Rattle.agreement.proofs.SameLine.{open_agrees}

-- ---- the outputs and the inputs

-- the next output buffer alone is written
deed_elsewhere : (d : OutputsDeed) (s : State) (m : List ℕ) → Safe s m → Elsewhere s.setup output_row (next_of s.outputs.set.place) m (on_memory d s m)
deed_elsewhere outputs-deed.Keep s m f = same_elsewhere
deed_elsewhere outputs-deed.Publish s m f = same_elsewhere
deed_elsewhere outputs-deed.HoldBack s m f = same_elsewhere
deed_elsewhere outputs-deed.Release s m f = same_elsewhere
deed_elsewhere outputs-deed.Zeros s m f =
    pasted_elsewhere s.setup m output_row (next_of s.outputs.set.place) f.room (f.outputs.within role.next (omega arith)) (replicate s.setup.output_len 0)
    (rw (length-replicate {A = ℕ} s.setup.output_len 0) (omega arith))

-- as many data octets as there are outputs are all of what fill holds
in_fill_lem : (s : State) (m ds : List ℕ) → length ds ≡ s.setup.output_len
    → BeginsWith m (outputs_at s.setup (fill_of s.outputs.set.place)) s.setup.output_len ds
    → part m (outputs_at s.setup (fill_of s.outputs.set.place)) s.setup.output_len ≡ ds
in_fill_lem s m ds k b =
    let at = outputs_at s.setup (fill_of s.outputs.set.place) in
    ap (part m at) (sym k) ∙ begins_whole m at s.setup.output_len ds (omega arith) b

-- what is published or held back stands in fill, and what is released is held back
outputs_carried : (Given Held Clear : Type 0) (d : OutputsDeed) (s : State) (m : List ℕ) (y : Outputs) (n : ℕ) (ds : List ℕ) → Safe s m → s.setup.output_len ≡ n
    → Publishes (Given × (length ds ≡ s.setup.output_len)) Held Clear d
    → (Given → BeginsWith m (outputs_at s.setup (fill_of s.outputs.set.place)) s.setup.output_len ds)
    → (Held → s.outputs.set.withheld ≡ true)
    → OutputsAgree s.setup m s.outputs y → OutputsAgree s.setup (on_memory d s m) (on_outputs d s.outputs) (ledger.on_outputs d y n ds)
outputs_carried Given Held Clear outputs-deed.Keep s m y n ds f e p b c h = h
outputs_carried Given Held Clear outputs-deed.Publish s m y n ds f e p b c h =
    record {
      held = h.held;
      next = in_fill_lem s m ds p.1 (b p.0);
      back = h.back;
      fresh = refl;
      zeros = refl;
      withheld = h.withheld;
    }
outputs_carried Given Held Clear outputs-deed.HoldBack s m y n ds f e p b c h =
    record {
      held = h.held;
      next = h.next;
      back = λ _. in_fill_lem s m ds p.1 (b p.0);
      fresh = h.fresh;
      zeros = h.zeros;
      withheld = refl;
    }
outputs_carried Given Held Clear outputs-deed.Release s m y n ds f e p b c h =
    record {
      held = h.held;
      next = h.back (sym h.withheld ∙ c p);
      back = λ z. no_true z;
      fresh = refl;
      zeros = refl;
      withheld = refl;
    }
outputs_carried Given Held Clear outputs-deed.Zeros s m y n ds f e p b c h =
    let q = f.outputs in
    let k = s.setup.output_len in
    let zs : List ℕ = replicate s.setup.output_len 0 in
    let at = outputs_at s.setup (next_of s.outputs.set.place) in
    let i = inside s.setup output_row (next_of s.outputs.set.place) s.setup.output_len (q.within role.next (omega arith)) (omega arith) in
    let r = f.room in
    record {
      held = (deed_elsewhere outputs-deed.Zeros s m f).other output_row (held_of s.outputs.set.place) k (q.within role.held (omega arith)) (omega arith) (λ _ z. q.apart role.next role.held (omega arith) (omega arith) (λ z. omega arith) z) ∙ h.held;
      next = ap (part (pasted m at zs) at) (sym (length-replicate {A = ℕ} k 0)) ∙ pasted_part m at zs (omega arith) ∙ ap (λ (x : ℕ). replicate x 0) e;
      back = λ z. no_true z;
      fresh = refl;
      zeros = refl;
      withheld = refl;
    }

-- new inputs come to the buffer that is sent from
inputs_carried : (d : InputsDeed) (g : Setup) (m : List ℕ) (t : Triple) (y : Inputs) → InputsAgree g m t y → InputsAgree g m (on_inputs d t) (ledger.on_inputs d y)
inputs_carried inputs-deed.Keep g m t y h = h
inputs_carried inputs-deed.Bring g m t y h =
    both (λ u v. InputsAgree g m u v) t.fresh y.fresh (brought t) t (record { sending = y.next; next = y.sending; held = y.held; fresh = false }) y h.fresh
    (λ _. record { sending = h.next; next = h.sending; held = h.held; fresh = refl })
    (λ _. h)

-- ---- the sets

some_there : (ds : List ℕ) → 1 ≤ length ds → true ≡ some ds
some_there [] h = absurd (omega arith)
some_there (d ∷ ds) h = refl

-- what is received stands in fill
sets_carried : (Given : Type 0) (low n : ℕ) (d : SetDeed) (base : ℕ → ℕ) (m : List ℕ) (x : station-sets.Sets) (y : Sets) (ds : List ℕ) → 1 ≤ low
    → Receives (Given × Within low (length ds) n) d → (Given → BeginsWith m (base (fill_of x.set.place)) n ds)
    → SetsAgree base m x y → SetsAgree base m (on_sets d x (length ds)) (ledger.on_sets d y ds)
sets_carried Given low n set-deed.Keep base m x y ds u p b h = h
sets_carried Given low n set-deed.Receive base m x y ds u p b h =
    both (λ u v. SetsAgree base m u v) (is_open x) (some y.shown)
    (record { set = published x.set; shown = x.shown; waiting = length ds }) (record { set = shown x.set; shown = length ds; waiting = x.waiting })
    (record { shown = y.shown; waiting = ds }) (record { shown = ds; waiting = y.waiting })
    (open_agrees h)
    (λ _. record { shown = h.shown; waiting = came; shown_count = h.shown_count; waiting_count = refl; fresh = some_there ds (omega arith) })
    (λ _. record { shown = came; waiting = h.waiting; shown_count = refl; waiting_count = h.waiting_count; fresh = h.fresh })
  where
    came : part m (base (fill_of x.set.place)) (length ds) ≡ ds
    came = begins_whole m (base (fill_of x.set.place)) n ds p.1.1 (b p.0)
sets_carried Given low n set-deed.Advance base m x y ds u p b h =
    record { shown = h.waiting; waiting = refl; shown_count = h.waiting_count; waiting_count = refl; fresh = refl }
sets_carried Given low n set-deed.Drop base m x y ds u p b h = record { shown = refl; waiting = refl; shown_count = refl; waiting_count = refl; fresh = refl }

-- ---- the whole

-- the data may be published or received where it stands in fill
module _ {s : State} {m : List ℕ} {l : Ledger} {o : Outcome} {Given Held Asked Clear : Type 0} {At : ℕ → Type 0} (ds : List ℕ) (a : Agrees s m l)
    (v : Lawful s.setup s.control (length ds) Given Held Asked Clear At o)
    (outputs-stand : Given → BeginsWith m (outputs_at s.setup (fill_of s.outputs.set.place)) s.setup.output_len ds)
    (withheld : Held → s.outputs.set.withheld ≡ true)
    (parameters-stand : At 61 → BeginsWith m (parameters_at s.setup (fill_of s.parameters.set.place)) s.setup.parameter_len ds)
    (configuration-stand : At 62 → BeginsWith m (configuration_at s.setup (fill_of s.configuration.set.place)) s.setup.configuration_len ds) where
  abbrev memory : List ℕ
  memory = on_memory o.outputs s m

  elsewhere : Elsewhere s.setup output_row (next_of s.outputs.set.place) m memory
  elsewhere = deed_elsewhere o.outputs s m a.safe

  -- the sets lie behind the outputs
  behind : (b low n : ℕ) (Point : Type 0) (x : station-sets.Sets) (y : Sets) (d : SetDeed) → output_row < b → 1 ≤ low → Receives (Point × Within low (length ds) n) d
      → (Point → BeginsWith m (start_of s.setup b (fill_of x.set.place)) n ds)
      → SetsAgree (start_of s.setup b) m x y → SetsAgree (start_of s.setup b) memory (on_sets d x (length ds)) (ledger.on_sets d y ds)
  behind b low n Point x y d h u p stand k =
      sets_carried Point low n d (start_of s.setup b) memory x y ds u p
      (λ z. begins_stays m memory (start_of s.setup b (fill_of x.set.place)) (start_of s.setup b (fill_of x.set.place)) n n ds refl
      (λ i _. elsewhere.later b (fill_of x.set.place) i h) (stand z))
      (sets_stay (elsewhere.later b (held_of x.set.place) x.shown h) (elsewhere.later b (next_of x.set.place) x.waiting h) k)

  -- all but the reading and the reply
  carried_with : ReadingAgrees (on_state s o (length ds)) memory l.line → (xs : List ℕ) × ReplyAgrees (on_state s o (length ds)) memory l.line xs
      → After (carried s m o (length ds)) (ledger.carried l o ds)
  unfolding carried
  carried_with reading reply = record {
    setup = a.setup;
    control = refl;
    outputs = outputs_carried Given Held Clear o.outputs s m l.buffers.outputs l.setup.output_len ds a.safe (ap (λ (g : Setup). g.output_len) a.setup) v.outputs_come outputs-stand withheld a.outputs;
    inputs = inputs_carried o.inputs s.setup memory s.inputs l.buffers.inputs (inputs_stay elsewhere a.safe.inputs (λ z. absurd (omega arith)) a.inputs);
    parameters = behind parameter_row 7 s.setup.parameter_len (At 61) s.parameters l.buffers.parameters o.parameters (omega arith) (omega arith) v.parameters_come parameters-stand a.parameters;
    configuration = behind configuration_row 1 s.setup.configuration_len (At 62) s.configuration l.buffers.configuration o.configuration (omega arith) (omega arith) v.configuration_come configuration-stand a.configuration;
    diagnosis = diagnoses_stay elsewhere (λ z. absurd (omega arith)) a.diagnosis;
    slice = slice_stays elsewhere (λ z. absurd (omega arith)) ∙ a.slice;
    reading = reading;
    reply = reply;
    safe = safe_carried s m o (length ds) a.safe;
  }

-- ---- without data: the reading and the reply stay

-- no unfinished Read_Outputs reply leaves
abbrev pub Spared : Reply → Type 0
Spared r = r.drawn ≡ drawn.Outputs → left r.sender ≡ true → ⊥

-- with nothing brought the buffer that is sent from stays
inputs_place : (d : InputsDeed) (s : State) → Brings ⊥ d → on_inputs d s.inputs ≡ s.inputs
inputs_place inputs-deed.Keep s p = refl
inputs_place inputs-deed.Bring s p = absurd p

-- with nothing published or received fill stays
module _ (Other : Type 0) where
  outputs_fill : (Clear : Type 0) (d : OutputsDeed) (s : State) → Publishes (⊥ × Other) ⊥ Clear d → fill_of (on_outputs d s.outputs).set.place ≡ fill_of s.outputs.set.place
  outputs_fill Clear outputs-deed.Keep s p = refl
  outputs_fill Clear outputs-deed.Publish s p = absurd p.0
  outputs_fill Clear outputs-deed.HoldBack s p = absurd p.0
  outputs_fill Clear outputs-deed.Release s p = absurd p
  outputs_fill Clear outputs-deed.Zeros s p = refl

  sets_fill : (d : SetDeed) (x : station-sets.Sets) (n : ℕ) → Receives (⊥ × Other) d → fill_of (on_sets d x n).set.place ≡ fill_of x.set.place
  sets_fill set-deed.Keep x n p = refl
  sets_fill set-deed.Receive x n p = absurd p.0
  sets_fill set-deed.Advance x n p = refl
  sets_fill set-deed.Drop x n p = refl

  -- and zeros are not written under the reply
  spared : (d : OutputsDeed) (s : State) (m : List ℕ) → Publishes (⊥ × Other) ⊥ (Spared s.reply) d → s.reply.drawn ≡ drawn.Outputs → left s.reply.sender ≡ true
      → part (on_memory d s m) (outputs_at s.setup s.reply.place) s.setup.output_len ≡ part m (outputs_at s.setup s.reply.place) s.setup.output_len
  spared outputs-deed.Keep s m p w h = refl
  spared outputs-deed.Publish s m p w h = absurd p.0
  spared outputs-deed.HoldBack s m p w h = absurd p.0
  spared outputs-deed.Release s m p w h = absurd p
  spared outputs-deed.Zeros s m p w h = absurd (p w h)

module _ {s : State} {m : List ℕ} {l : Ledger} {o : Outcome} (a : Agrees s m l) (q : Quiet s.setup s.control (Spared s.reply) o) where
  abbrev after : List ℕ
  after = on_memory o.outputs s m

  written : Elsewhere s.setup output_row (next_of s.outputs.set.place) m after
  written = deed_elsewhere o.outputs s m a.safe

  fills : SameFills s m (on_state s o 0) after
  fills = record {
    setup = refl;
    outputs =
        λ k h. ap (λ (p : ℕ). part after (outputs_at s.setup p) k) (outputs_fill _ _ o.outputs s q.outputs_come)
        ∙ written.other output_row (fill_of s.outputs.set.place) k (a.safe.outputs.within role.fill (omega arith)) h (λ _ z. a.safe.outputs.apart role.fill role.next (omega arith) (omega arith) (λ z. omega arith) (sym z));
    parameters =
        λ k h. ap (λ (p : ℕ). part after (parameters_at s.setup p) k) (sets_fill _ o.parameters s.parameters 0 q.parameters_come)
        ∙ written.later parameter_row (fill_of s.parameters.set.place) k (omega arith);
    configuration =
        λ k h. ap (λ (p : ℕ). part after (configuration_at s.setup p) k) (sets_fill _ o.configuration s.configuration 0 q.configuration_come)
        ∙ written.later configuration_row (fill_of s.configuration.set.place) k (omega arith);
  }

  source : left s.reply.sender ≡ true → SameSource s m (on_state s o 0) after
  source e = record {
    ident = refl;
    inputs =
        ap (λ (t : Triple). part after (inputs_at s.setup (fill_of t.place)) s.setup.input_len) (inputs_place o.inputs s q.inputs_come)
        ∙ written.later input_row (fill_of s.inputs.place) s.setup.input_len (omega arith);
    outputs = λ w. spared _ o.outputs s m q.outputs_come w e;
    slice = slice_stays written (λ z. absurd (omega arith));
    diagnosis = λ w. written.later diagnosis_row (own_place s.swapped) s.setup.diagnosis_len (omega arith);
  }

  -- the ledger's outcome is the station's
  pub quiet_agrees : (p : Outcome) → o ≡ p → After (carried s m o 0) (ledger.carried l p [])
  quiet_agrees p e =
      subst (λ (x : Outcome). After (carried s m o 0) (ledger.carried l x [])) e
      (carried_with [] a q (λ z. absurd z) (λ z. absurd z) (λ z. absurd z) (λ z. absurd z)
      (reading_stays s (on_state s o 0) m after refl fills l.line a.reading)
      (reply_stays s (on_state s o 0) m after refl l.line source a.reply))

-- ---- with the data of a telegram: nothing is read, and no reply is left

module _ {s : State} {m : List ℕ} {l : Ledger} {o : Outcome} (a : Agrees s m l) (r : Request) (ds : List ℕ)
    (count : r.count ≡ length ds) (da : r.da ≡ s.incoming.reader.da) (dsap : r.dsap ≡ s.incoming.reader.dsap)
    (g : Gathered s m ds) (v : Served s.setup s.control s.outputs.set.withheld r o)
    (ignored : l.line.ignored ≡ true) (still : left s.reply.sender ≡ false) where
  pub received_agrees : After (carried s m o (length ds)) (ledger.carried l o ds)
  received_agrees =
      carried_with ds a (subst (λ (n : ℕ). Lawful s.setup s.control n (Plain r) (s.outputs.set.withheld ≡ true) Unit Unit (To r) o) count v.lawful)
      (λ h. g.outputs (omega arith)) (λ h. h) (λ h. g.parameters (omega arith) (omega arith)) (λ h. g.configuration (omega arith) (omega arith))
      (ignored_agrees (a.reading.ignoring ∙ ignored) ignored (a.reading.empty ignored))
      (reply_stays s (on_state s o (length ds)) m (on_memory o.outputs s m) refl l.line (λ h. no_true (sym still ∙ h)) a.reply)
