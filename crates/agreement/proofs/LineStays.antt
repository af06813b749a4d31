-- Reading and reply agree as before where the state or the memory changed beside what they look at.
use Prim.Native.Nat.{ℕ, zero, suc, ◌-◌, ◌≤◌, ◌<◌}
use native.Mathlib.Omega.{arith}
use mathlib.Core.Path.{◌≡◌, refl, sym, ap, ◌∙◌, subst}
use mathlib.Core.Bool.{Bool, true, false, cond}
use mathlib.Core.List.{List, [], ◌∷◌}
use lib.Dec.{eqb, ltb}
use lib.ListN.{length, get_or, take, length-take}
use lib.Seq.{take_all}
use Rattle.buffers.specs.Roles.{fill_of}
use Rattle.octets.specs.Part.{part}
use Rattle.telegram.specs.Reading.{start, run, gathered, status}
use Rattle.telegram.specs.Sending.{left}
use Rattle.telegram.specs.ToSend.{to_send}
use Rattle.telegram.proofs.Run.{no_true}
use Rattle.telegram.proofs.Sends.{none}
use Rattle.state.specs.declared.setup.Setup.{Setup}
use Rattle.state.specs.declared.state.Drawn.{Drawn}
use Rattle.state.specs.declared.state.Drawn.TheVariants as drawn
use Rattle.state.specs.declared.state.Incoming.{Incoming}
use Rattle.state.specs.declared.state.Reply.{Reply}
use Rattle.state.specs.declared.state.State.{State}
use Rattle.state.specs.Layout.{outputs_at, inputs_at, parameters_at, configuration_at, diagnosis_at, get_cfg_at}
use Rattle.ledger.specs.Ledger.{Line}
use Rattle.rules.specs.Replies.{diagnoses, is_exchange}
use Rattle.steps.specs.Replies.{own_place, header_at, content_at, reply_point, datum_at}
use Rattle.steps.specs.Reading.{is_ignored}
use Rattle.agreement.proofs.Relation.{BeginsWith, Gathered, ReadingAgrees, ReplyAgrees}

-- ---- the reply

-- where the data octets of the reply in progress are read, all is as it was
pub record SameSource (s : State) (m : List ℕ) (s' : State) (m' : List ℕ) : Type 0 where
  pub ident : s'.setup.ident ≡ s.setup.ident
  pub inputs : part m' (inputs_at s'.setup (fill_of s'.inputs.place)) s'.setup.input_len
      ≡ part m (inputs_at s.setup (fill_of s.inputs.place)) s.setup.input_len
  pub outputs : s.reply.drawn ≡ drawn.Outputs
      → part m' (outputs_at s'.setup s'.reply.place) s'.setup.output_len
      ≡ part m (outputs_at s.setup s.reply.place) s.setup.output_len
  pub slice : part m' (get_cfg_at s'.setup) s'.setup.get_cfg_len ≡ part m (get_cfg_at s.setup) s.setup.get_cfg_len
  pub diagnosis : s.reply.drawn ≡ drawn.Diagnosis
      → part m' (diagnosis_at s'.setup (own_place s'.swapped)) s'.setup.diagnosis_len
      ≡ part m (diagnosis_at s.setup (own_place s.swapped)) s.setup.diagnosis_len

-- a list by its octets
listed : (f : ℕ → ℕ) (n : ℕ) → (ds : List ℕ) × (length ds ≡ n) × ((k : ℕ) → k < n → f k ≡ get_or ds k 0)
listed f zero = ([], refl, λ k h. absurd (omega arith))
listed f (suc n) = more (listed (λ k. f (suc k)) n)
  where
    more : (ds : List ℕ) × (length ds ≡ n) × ((k : ℕ) → k < n → f (suc k) ≡ get_or ds k 0)
        → (ds : List ℕ) × (length ds ≡ suc n) × ((k : ℕ) → k < suc n → f k ≡ get_or ds k 0)
    more r = (f 0 ∷ r.0, ap suc r.1, at)
      where
        at : (k : ℕ) → k < suc n → f k ≡ get_or (f 0 ∷ r.0) k 0
        at zero h = refl
        at (suc k) h = r.2 k (omega arith)

module _ (s s' : State) (m m' : List ℕ) (same : s'.reply ≡ s.reply) where
  content_same : (d : Drawn) (i : ℕ) → s.reply.drawn ≡ d → SameSource s m s' m' → content_at d s' m' i ≡ content_at d s m i
  content_same drawn.Nothing i e h = refl
  content_same drawn.Acknowledge i e h = refl
  content_same drawn.Status i e h = refl
  content_same drawn.Rejected i e h = refl
  content_same drawn.Exchange i e h = ap (λ (l : List ℕ). get_or l i 0) h.inputs
  content_same drawn.Inputs i e h = ap (λ (l : List ℕ). get_or l i 0) h.inputs
  content_same drawn.Outputs i e h = ap (λ (l : List ℕ). get_or l i 0) (h.outputs e)
  content_same drawn.Configuration i e h = ap (λ (l : List ℕ). get_or l i 0) h.slice
  content_same drawn.Diagnosis i e h =
      λ j. cond (ltb i 6) (header_at (same j).header (h.ident j) i) (get_or (h.diagnosis e j) i 0)

  -- each data octet is the one that it was
  pub datum_same : (k : ℕ) → SameSource s m s' m' → datum_at s' m' k ≡ datum_at s m k
  unfolding datum_at
  datum_same k h =
      λ j. cond (is_exchange (same j).drawn) (get_or (h.inputs j) k 0)
      (cond (eqb k 0) 0x3E (cond (eqb k 1) (reply_point (same j).drawn) (content j)))
    where
      content : content_at s'.reply.drawn s' m' (k - 2) ≡ content_at s.reply.drawn s m (k - 2)
      content = ap (λ (r : Reply). content_at r.drawn s' m' (k - 2)) same ∙ content_same s.reply.drawn (k - 2) refl h

  -- an unfinished reply goes on from where it leaves; of a finished one nothing is left, whatever the buffers become
  pub reply_stays : (n : Line) → (left s.reply.sender ≡ true → SameSource s m s' m') → (ds : List ℕ) × ReplyAgrees s m n ds
      → (ds : List ℕ) × ReplyAgrees s' m' n ds
  reply_stays n f r = go (left s.reply.sender) refl
    where
      h : ReplyAgrees s m n r.0
      h = r.1

      counts : s'.reply.sender.count ≡ s.reply.sender.count
      counts = ap (λ (x : Reply). x.sender.count) same

      go : (t : Bool) → left s.reply.sender ≡ t → (ds : List ℕ) × ReplyAgrees s' m' n ds
      go true e = (
        r.0,
        record {
          count = h.count ∙ sym counts;
          octets = λ k l. datum_same k (f e) ∙ h.octets k l;
          unsent = ap (λ (x : Reply). to_send x.sender r.0) same ∙ h.unsent;
          diagnosis = ap (λ (x : Reply). diagnoses x.drawn) same ∙ h.diagnosis;
        },
      )
      go false e =
          let xs = listed (datum_at s' m') s.reply.sender.count in (
            xs.0,
            record {
              count = xs.1 ∙ sym counts;
              octets = λ k l. xs.2 k (omega (arith, xs.1));
              unsent =
                  ap (λ (x : Reply). to_send x.sender xs.0) same ∙ none s.reply.sender xs.0 e ∙ sym (none s.reply.sender r.0 e) ∙ h.unsent;
              diagnosis = ap (λ (x : Reply). diagnoses x.drawn) same ∙ h.diagnosis;
            },
          )

-- ---- the reading

-- where the data octets of the telegram are stored, all is as it was
pub record SameFills (s : State) (m : List ℕ) (s' : State) (m' : List ℕ) : Type 0 where
  pub setup : s'.setup ≡ s.setup
  pub outputs : (k : ℕ) → k ≤ s.setup.output_len
      → part m' (outputs_at s'.setup (fill_of s'.outputs.set.place)) k ≡ part m (outputs_at s.setup (fill_of s.outputs.set.place)) k
  pub parameters : (k : ℕ) → k ≤ s.setup.parameter_len
      → part m' (parameters_at s'.setup (fill_of s'.parameters.set.place)) k ≡ part m (parameters_at s.setup (fill_of s.parameters.set.place)) k
  pub configuration : (k : ℕ) → k ≤ s.setup.configuration_len
      → part m' (configuration_at s'.setup (fill_of s'.configuration.set.place)) k
      ≡ part m (configuration_at s.setup (fill_of s.configuration.set.place)) k

-- a buffer begins as before with what was gathered
pub begins_stays : (m m' : List ℕ) (a a' n n' : ℕ) (ds : List ℕ) → n' ≡ n → ((k : ℕ) → k ≤ n → part m' a' k ≡ part m a k)
    → BeginsWith m a n ds → BeginsWith m' a' n' ds
begins_stays m m' a a' n n' ds e f b = rw e (f (length (take n ds)) (rw length-take (omega arith)) ∙ b)

-- a buffer that is long enough begins with all that was gathered
pub begins_whole : (m : List ℕ) (a n : ℕ) (ds : List ℕ) → length ds ≤ n → BeginsWith m a n ds → part m a (length ds) ≡ ds
begins_whole m a n ds h b = rw (take_all n ds h) at b

module _ (s s' : State) (m m' : List ℕ) (same : s'.incoming ≡ s.incoming) (f : SameFills s m s' m') where
  pub gathered_stays : (ds : List ℕ) → Gathered s m ds → Gathered s' m' ds
  gathered_stays ds r =
      let da : s'.incoming.reader.da ≡ s.incoming.reader.da = ap (λ (x : Incoming). x.reader.da) same in
      let dsap : s'.incoming.reader.dsap ≡ s.incoming.reader.dsap = ap (λ (x : Incoming). x.reader.dsap) same in
      let at : (Setup → ℕ → ℕ) → (State → List ℕ) → State → ℕ = λ base place x. base x.setup (fill_of (place x)) in
      record {
        outputs =
            λ h. begins_stays m m' (at outputs_at (λ x. x.outputs.set.place) s) (at outputs_at (λ x. x.outputs.set.place) s') _ _ ds
            (ap (λ (g : Setup). g.output_len) f.setup) f.outputs (r.outputs (omega arith));
        parameters =
            λ h e. begins_stays m m' (at parameters_at (λ x. x.parameters.set.place) s) (at parameters_at (λ x. x.parameters.set.place) s') _ _ ds
            (ap (λ (g : Setup). g.parameter_len) f.setup) f.parameters (r.parameters (omega arith) (omega arith));
        configuration =
            λ h e. begins_stays m m' (at configuration_at (λ x. x.configuration.set.place) s) (at configuration_at (λ x. x.configuration.set.place) s') _ _ ds
            (ap (λ (g : Setup). g.configuration_len) f.setup) f.configuration (r.configuration (omega arith) (omega arith));
        first = λ h. ap (λ (x : Incoming). x.first) same ∙ r.first h;
        second = λ h. ap (λ (x : Incoming). x.second) same ∙ r.second h;
      }

  pub reading_stays : (n : Line) → ReadingAgrees s m n → ReadingAgrees s' m' n
  reading_stays n r = record {
    ignoring = ap (λ (x : Incoming). is_ignored (status x.reader)) same ∙ r.ignoring;
    empty = r.empty;
    reading = λ e. ap (λ (x : Incoming). x.reader) same ∙ r.reading e;
    stored = λ e. gathered_stays (gathered start n.telegram) (r.stored e);
  }

-- ---- another line

-- the reply agrees with a line that has the same reply
pub reply_line_lem : {s : State} {m : List ℕ} {n : Line} → (ds : List ℕ) × ReplyAgrees s m n ds → (k : Line) → k.reply ≡ n.reply → k.diagnosing ≡ n.diagnosing
    → (ds : List ℕ) × ReplyAgrees s m k ds
reply_line_lem r k e d = (r.0, record { count = r.1.count; octets = r.1.octets; unsent = r.1.unsent ∙ sym e; diagnosis = r.1.diagnosis ∙ sym d })

-- the reading with one that has the same octets
pub reading_line : {s : State} {m : List ℕ} {n : Line} → ReadingAgrees s m n → (k : Line) → k.ignored ≡ n.ignored → k.telegram ≡ n.telegram → ReadingAgrees s m k
reading_line {s} {m} {n} r k e t = record {
  ignoring = r.ignoring ∙ sym e;
  empty = λ h. t ∙ r.empty (sym e ∙ h);
  reading = λ h. r.reading (sym e ∙ h) ∙ ap run (sym t);
  stored = λ h. subst (λ (xs : List ℕ). Gathered s m (gathered start xs)) (sym t) (r.stored (sym e ∙ h));
}

-- while octets are ignored nothing is read
pub ignored_agrees : {s : State} {m : List ℕ} {n : Line} → is_ignored (status s.incoming.reader) ≡ true → n.ignored ≡ true → n.telegram ≡ []
    → ReadingAgrees s m n
ignored_agrees h e t = record {
  ignoring = h ∙ sym e;
  empty = λ _. t;
  reading = λ z. no_true (sym z ∙ e);
  stored = λ z. no_true (sym z ∙ e);
}
