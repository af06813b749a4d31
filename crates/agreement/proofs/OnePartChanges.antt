-- The relation where one part of the state and of the ledger changed: the control part, the diagnosis buffers, the roles,
-- the reading, the reply.
use Prim.Native.Nat.{ℕ, ◌≤◌}
use native.Mathlib.Omega.{arith}
use mathlib.Core.Path.{◌≡◌, refl, sym, ap, ◌∙◌}
use mathlib.Core.Bool.{Bool, true, false, not, ◌&&◌}
use mathlib.Core.List.{List, []}
use Rattle.buffers.specs.declared.triple.Triple.{Triple}
use Rattle.buffers.specs.Roles.{fill_of, Permutation}
use Rattle.octets.specs.Part.{part}
use Rattle.telegram.specs.declared.reader.Reader.{Reader}
use Rattle.telegram.specs.Sending.{empty, left}
use Rattle.telegram.proofs.Run.{no_true}
use Rattle.telegram.proofs.Sends.{none}
use Rattle.state.specs.declared.setup.Setup.{Setup}
use Rattle.state.specs.declared.control.Control.{Control}
use Rattle.state.specs.declared.state.Drawn.TheVariants as drawn
use Rattle.state.specs.declared.state.Incoming.{Incoming}
use Rattle.state.specs.declared.state.Outputs.{Outputs}
use Rattle.state.specs.declared.state.Reply.{Reply}
use Rattle.state.specs.declared.state.State.{State}
use Rattle.state.specs.Layout.{outputs_at, inputs_at, diagnosis_at}
use Rattle.ledger.specs.Lists as lists
use Rattle.ledger.specs.Lists.{Diagnoses, exchanged_diagnoses, with_diagnoses}
use Rattle.ledger.specs.Ledger as ledger
use Rattle.ledger.specs.Ledger.{Line, Ledger, with_line}
use Rattle.ledger.specs.Outcome as ledger-outcome
use Rattle.state.specs.With.{with_control, with_outputs, with_inputs, with_incoming, with_reply}
use Rattle.rules.specs.Replies.{diagnoses}
use Rattle.steps.specs.Line.{diagnosis_leaves}
use Rattle.steps.specs.Outcome.{diagnosis_changed}
use Rattle.state.specs.Start.{no_reply}
use Rattle.steps.specs.Replies.{own_place}
use Rattle.steps.specs.Reading.{read_on, read_by}
use Rattle.steps.proofs.KeepsSafe.{safe_control, safe_outputs, safe_inputs, safe_incoming, safe_reply}
use Rattle.agreement.proofs.Relation.{OutputsAgree, InputsAgree, DiagnosesAgree, ReadingAgrees, ReplyAgrees, Agrees}
use Rattle.agreement.proofs.LineStays.{reply_stays, reading_stays, reply_line_lem, reading_line}

-- ---- the diagnosis buffers

-- the state with another control part and another buffer for the controller
abbrev with_diagnosis : State → Control → Bool → State
with_diagnosis s c w =
    record {
      setup = s.setup;
      control = c;
      outputs = s.outputs;
      inputs = s.inputs;
      parameters = s.parameters;
      configuration = s.configuration;
      swapped = w;
      incoming = s.incoming;
      reply = s.reply;
    }

flipped : {g : Setup} {m : List ℕ} {l : Diagnoses} (w : Bool) → DiagnosesAgree g m w l → DiagnosesAgree g m (not w) (exchanged_diagnoses l)
flipped true h = record { own = h.user; user = h.own }
flipped false h = record { own = h.user; user = h.own }

-- an unfinished reply is not a Slave_Diag's
not_diagnosis : (s : State) → diagnosis_leaves s ≡ false → left s.reply.sender ≡ true → s.reply.drawn ≡ drawn.Diagnosis → ⊥
not_diagnosis s e h w = no_true (sym e ∙ (λ i. diagnoses (w i) && h i))

-- the line with another reply
abbrev pub replied : Line → List ℕ → Bool → Line
replied n xs t = record { ignored = n.ignored; telegram = n.telegram; reply = xs; diagnosing = t }

module _ {s : State} {m : List ℕ} {l : Ledger} (a : Agrees s m l) where
  -- the control part, and which diagnosis buffer is whose, unless a Slave_Diag reply leaves
  diagnoses_changed : (c d : Control) → c ≡ d → (w : Bool) (y : Diagnoses) → DiagnosesAgree s.setup m w y
      → (left s.reply.sender ≡ true → s.reply.drawn ≡ drawn.Diagnosis → own_place w ≡ own_place s.swapped)
      → Agrees (with_diagnosis s c w) m (ledger.with_buffers (ledger.with_control l d) (with_diagnoses l.buffers y))
  diagnoses_changed c d e w y h f = record {
    setup = a.setup;
    control = e;
    outputs = a.outputs;
    inputs = a.inputs;
    parameters = a.parameters;
    configuration = a.configuration;
    diagnosis = h;
    slice = a.slice;
    reading =
        reading_stays s (with_diagnosis s c w) m m refl
        (record { setup = refl; outputs = λ _ _. refl; parameters = λ _ _. refl; configuration = λ _ _. refl })
        l.line a.reading;
    reply =
        reply_stays s (with_diagnosis s c w) m m refl l.line
        (λ k. record {
          ident = refl;
          inputs = refl;
          outputs = λ _. refl;
          slice = refl;
          diagnosis = λ x. ap (λ (j : ℕ). part m (diagnosis_at s.setup j) s.setup.diagnosis_len) (f k x);
        })
        a.reply;
    safe = safe_control s m c w a.safe;
  }

  -- the two diagnosis buffers change, with that control part
  pub diagnosis_changed_lem : (c d : Control) → c ≡ d → diagnosis_leaves s ≡ false → Agrees (diagnosis_changed s c) m (ledger-outcome.diagnosis_changed l d)
  diagnosis_changed_lem c d e f =
      diagnoses_changed c d e (not s.swapped) (exchanged_diagnoses l.buffers.diagnosis) (flipped s.swapped a.diagnosis) (λ h w. absurd (not_diagnosis s f h w))

  -- the control part alone
  pub control_changed : (c d : Control) → c ≡ d → Agrees (with_control s c) m (ledger.with_control l d)
  control_changed c d e = diagnoses_changed c d e s.swapped l.buffers.diagnosis a.diagnosis (λ _ _. refl)

  -- the roles of outputs and inputs, where the buffers that are filled and sent from stay
  pub roles_changed : (o : Outputs) (t : Triple) (x : lists.Outputs) (y : lists.Inputs)
      → fill_of o.set.place ≡ fill_of s.outputs.set.place → fill_of t.place ≡ fill_of s.inputs.place
      → Permutation 4 o.set.place → Permutation 3 t.place → OutputsAgree s.setup m o x → InputsAgree s.setup m t y
      → Agrees (with_inputs (with_outputs s o) t) m (ledger.with_buffers l (lists.with_inputs (lists.with_outputs l.buffers x) y))
  roles_changed o t x y e f p q h k =
      let s' : State = with_inputs (with_outputs s o) t in
      record {
        setup = a.setup;
        control = a.control;
        outputs = h;
        inputs = k;
        parameters = a.parameters;
        configuration = a.configuration;
        diagnosis = a.diagnosis;
        slice = a.slice;
        reading =
            reading_stays s s' m m refl
            (record { setup = refl; outputs = λ n _. ap (λ (j : ℕ). part m (outputs_at s.setup j) n) e; parameters = λ _ _. refl; configuration = λ _ _. refl })
            l.line a.reading;
        reply =
            reply_stays s s' m m refl l.line
            (λ _. record { ident = refl; inputs = ap (λ (j : ℕ). part m (inputs_at s.setup j) s.setup.input_len) f; outputs = λ _. refl; slice = refl; diagnosis = λ _. refl })
            a.reply;
        safe = safe_inputs (with_outputs s o) m t q (safe_outputs s m o p a.safe);
      }

  -- the reading and the reply, with the line
  line_changed : (i : Incoming) (x : Reply) (n : Line) → x.place ≤ 3 → ReadingAgrees (with_reply (with_incoming s i) x) m n
      → (ds : List ℕ) × ReplyAgrees (with_reply (with_incoming s i) x) m n ds → Agrees (with_reply (with_incoming s i) x) m (with_line l n)
  line_changed i x n h reading reply = record {
    setup = a.setup;
    control = a.control;
    outputs = a.outputs;
    inputs = a.inputs;
    parameters = a.parameters;
    configuration = a.configuration;
    diagnosis = a.diagnosis;
    slice = a.slice;
    reading = reading;
    reply = reply;
    safe = safe_reply (with_incoming s i) m x h (safe_incoming s m i a.safe);
  }

  -- the reading alone
  pub reading_changed : (r : Reader) (b : Bool) (xs : List ℕ)
      → ReadingAgrees (read_by s r) m (record { ignored = b; telegram = xs; reply = l.line.reply; diagnosing = l.line.diagnosing })
      → Agrees (read_by s r) m (with_line l (record { ignored = b; telegram = xs; reply = l.line.reply; diagnosing = l.line.diagnosing }))
  reading_changed r b xs h =
      line_changed (read_on s.incoming r) s.reply _ a.safe.reply h
      (reply_line_lem
      (reply_stays s (read_by s r) m m refl l.line
      (λ _. record { ident = refl; inputs = refl; outputs = λ _. refl; slice = refl; diagnosis = λ _. refl })
      a.reply) _ refl refl)

  -- the reply alone
  pub reply_changed : (x : Reply) (xs : List ℕ) (t : Bool) → x.place ≤ 3 → (ds : List ℕ) × ReplyAgrees (with_reply s x) m (replied l.line xs t) ds
      → Agrees (with_reply s x) m (with_line l (replied l.line xs t))
  reply_changed x xs t h r =
      line_changed s.incoming x (replied l.line xs t) h
      (reading_line
      (reading_stays s (with_reply s x) m m refl
      (record { setup = refl; outputs = λ _ _. refl; parameters = λ _ _. refl; configuration = λ _ _. refl })
      l.line a.reading) (replied l.line xs t) refl refl)
      r

  -- which is dropped
  pub reply_dropped : Agrees (with_reply s no_reply) m (with_line l (replied l.line [] false))
  reply_dropped =
      reply_changed no_reply [] false (omega arith)
      ([], record { count = refl; octets = λ k h. absurd (omega arith); unsent = none empty [] refl; diagnosis = refl })
