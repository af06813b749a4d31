-- Every ledger that a list of calls leads to keeps the ranges (specs/ReadBack.antt), so that each reply drawn reads back.
use Prim.Native.Nat.{ℕ, ◌≤◌, ◌<◌}
use native.Mathlib.Nat.{mod-lt}
use native.Mathlib.Omega.{arith}
use mathlib.Core.Path.{◌≡◌, refl, ap, ◌∙◌}
use mathlib.Core.Bool.{Bool, true, false, cond, not, ◌&&◌}
use mathlib.Core.List.{List, [], ◌∷◌, ◌++◌, append_assoc}
use mathlib.Core.Logic.{inl, inr}
use lib.Dec.{eqb, leb}
use lib.ListN.{length, length-replicate, length-set}
use borrow.Author.Tests.{leb-true, eqb-false, not-true}
use Rattle.telegram.specs.declared.reader.Status.{Status}
use Rattle.telegram.specs.declared.reader.Status.TheVariants.{Fresh, Inside, Complete, Broken}
use Rattle.telegram.specs.Telegram.{Telegram, kind_of, payload_of}
use Rattle.telegram.specs.Reading.{run, reader_after, status}
use Rattle.telegram.specs.Sending.{start_octet}
use Rattle.telegram.proofs.Run.{no_true}
use Rattle.state.specs.declared.setup.Setup.{Setup}
use Rattle.state.specs.declared.control.Control.{Control}
use Rattle.state.specs.declared.state.Drawn.TheVariants as drawn
use Rattle.rules.specs.declared.request.Request.{Request}
use Rattle.rules.specs.declared.outcome.OutputsDeed.{OutputsDeed}
use Rattle.rules.specs.declared.outcome.OutputsDeed.TheVariants as outputs-deed
use Rattle.rules.specs.declared.outcome.InputsDeed.{InputsDeed}
use Rattle.rules.specs.declared.outcome.InputsDeed.TheVariants as inputs-deed
use Rattle.rules.specs.declared.outcome.SetDeed.{SetDeed}
use Rattle.rules.specs.declared.outcome.SetDeed.TheVariants as set-deed
use Rattle.rules.specs.declared.outcome.Outcome.{Outcome}
use Rattle.state.specs.Sound.{Within, DiagnosisCounted}
use Rattle.state.specs.Well.{within}
use Rattle.rules.specs.Requests.{master_of, acts, service_of}
use Rattle.rules.specs.Diagnosis.{delayed, diagnosed, delaying, caught_up}
use Rattle.rules.specs.Line.{ticked}
use Rattle.ledger.specs.Lists.{some, Outputs, taken_outputs, Inputs, handed_over, written_input, Sets, Diagnoses, exchanged_diagnoses, written_diagnosis, Buffers, with_outputs, with_inputs, with_diagnoses}
use Rattle.ledger.specs.Ledger.{Line, Ledger, with_line, begun, busy, diagnosis_leaves, occupied, fresh}
use Rattle.ledger.specs.Outcome.{on_outputs, on_inputs, on_sets, on_buffers, carried, diagnosis_changed, after_reply, settle}
use Rattle.ledger.specs.Bus.{telegram_on, request_by, data_by, outcome_of, answered, completed, broken_off, lengthened, beginning, send_left, silenced, heard_as, heard, paused, after_send, elapsed, gapped}
use Rattle.ledger.specs.User.{hand_over, acknowledge_events, leave_master, written_octet}
use Rattle.rules.specs.Call.{Call, octet, gap, send, tick, take, read, write, hand_over_call, new_diagnosis_call, judge_parameters_call, judge_configuration_call, events, acknowledge, pending, leave}
use Rattle.ledger.specs.Calls.{step, after}
use Rattle.ledger.specs.ReadBack.{StartTakes, OutputsFit, InputsFit, SetsFit, DiagnosesFit, ListsFit, Left, Fit, drawn_by, Draws, Fixes, ReadingBack}
use Rattle.ledger.proofs.Settling.{settle_line}
use Rattle.ledger.proofs.ByCases.{take_cases, read_cases, write_cases, diagnosis_cases, parameters_cases, configuration_cases}
use Rattle.ledger.proofs.Hearing.{last_heard}
use Rattle.rules.proofs.Headed.{acts_master}
use Rattle.rules.proofs.Served.{Publishes, Receives, Lawful, Quiet, clear_quiet, clear_noted_quiet, ticked_quiet, parameters_quiet, configuration_quiet, Served, served}
use Rattle.state.proofs.Choice.{by_test, and_left, and_right}
use Rattle.state.proofs.Tests.{none_or_some, within_and}
use Rattle.ledger.proofs.ReadBack.{ValidReply, reply_valid, reply_reads, reply_left}

-- ---------------------------------------------------------------------------------------------------
-- The lists after an outcome.

-- something is published of what is held back only where something is
outputs_fit : (Given Held Clear : Type 0) (d : OutputsDeed) (o : Outputs) (n : ℕ) (ds : List ℕ) → (Held → o.withheld ≡ true)
    → Publishes (Given × (length ds ≡ n)) Held Clear d → OutputsFit n o → OutputsFit n (on_outputs d o n ds)
outputs_fit Given Held Clear outputs-deed.Keep o n ds h w f = f
outputs_fit Given Held Clear outputs-deed.Publish o n ds h w f = record { held = f.held; next = w.1; back = f.back }
outputs_fit Given Held Clear outputs-deed.HoldBack o n ds h w f = record { held = f.held; next = f.next; back = λ _. w.1 }
outputs_fit Given Held Clear outputs-deed.Release o n ds h w f = record { held = f.held; next = f.back (h w); back = λ e. no_true e }
outputs_fit Given Held Clear outputs-deed.Zeros o n ds h w f = record { held = f.held; next = length-replicate n 0; back = λ e. no_true e }

inputs_fit : (d : InputsDeed) (i : Inputs) (n : ℕ) → InputsFit n i → InputsFit n (on_inputs d i)
inputs_fit inputs-deed.Keep i n f = f
inputs_fit inputs-deed.Bring i n f = go i.fresh
  where
    go : (t : Bool) → InputsFit n (cond t (record { sending = i.next; next = i.sending; held = i.held; fresh = false }) i)
    go true = record { sending = f.next; next = f.sending; held = f.held }
    go false = f

sets_fit : (Given : Type 0) (d : SetDeed) (x : Sets) (low high : ℕ) (ds : List ℕ) → Receives (Given × Within low (length ds) high) d → SetsFit low high x
    → SetsFit low high (on_sets d x ds)
sets_fit Given set-deed.Keep x low high ds w f = f
sets_fit Given set-deed.Receive x low high ds w f =
    by_test (SetsFit low high) (some x.shown) (record { shown = x.shown; waiting = ds }) (record { shown = ds; waiting = x.waiting })
    (λ _. record { shown = f.shown; waiting = inr w.1 }) (λ _. record { shown = inr w.1; waiting = f.waiting })
sets_fit Given set-deed.Advance x low high ds w f = record { shown = f.waiting; waiting = inl refl }
sets_fit Given set-deed.Drop x low high ds w f = record { shown = inl refl; waiting = inl refl }

lists_fit : {s : Setup} {c : Control} {Given Held Asked Clear : Type 0} {At : ℕ → Type 0} {o : Outcome} (b : Buffers) (ds : List ℕ)
    → (Held → b.outputs.withheld ≡ true) → ListsFit s b → Lawful s c (length ds) Given Held Asked Clear At o → ListsFit s (on_buffers o s ds b)
lists_fit {s} {c} {Given} {Held} {Asked} {Clear} {At} {o} b ds h f w = record {
  outputs = outputs_fit Given Held Clear o.outputs b.outputs s.output_len ds h w.outputs_come f.outputs;
  inputs = inputs_fit o.inputs b.inputs s.input_len f.inputs;
  parameters = sets_fit (At 61) o.parameters b.parameters 7 s.parameter_len ds w.parameters_come f.parameters;
  configuration = sets_fit (At 62) o.configuration b.configuration 1 s.configuration_len ds w.configuration_come f.configuration;
  diagnosis = f.diagnosis;
}

-- ---------------------------------------------------------------------------------------------------
-- The ledger after an outcome, with another line, settled.

module _ {l : Ledger} (f : Fit l) where
  carried_fit : {Given Held Asked Clear : Type 0} {At : ℕ → Type 0} {o : Outcome} (ds : List ℕ) → (Held → l.buffers.outputs.withheld ≡ true)
      → Lawful l.setup l.control (length ds) Given Held Asked Clear At o → Fit (carried l o ds)
  carried_fit ds h w = record {
    start_takes = f.start_takes;
    lists = lists_fit l.buffers ds h f.lists w;
    counts = rw w.counts_stay f.counts;
    reply = f.reply;
  }

  -- one without data
  quiet_fit : {o : Outcome} → Quiet l.setup l.control Unit o → Fit (carried l o [])
  quiet_fit = carried_fit [] (λ z. absurd z)

  on_line : (n : Line) → Left n.reply → Fit (with_line l n)
  on_line n w = record { start_takes = f.start_takes; lists = f.lists; counts = f.counts; reply = w }

  -- other lists and another control part
  on_lists : (b : Buffers) (c : Control) → ListsFit l.setup b → DiagnosisCounted l.setup.diagnosis_len c.diagnosis
      → Fit (record { setup = l.setup; slice = l.slice; control = c; buffers = b; line = l.line })
  on_lists b c x y = record { start_takes = f.start_takes; lists = x; counts = y; reply = f.reply }

  on_outputs_lem : (o : Outputs) → OutputsFit l.setup.output_len o → ListsFit l.setup (with_outputs l.buffers o)
  on_outputs_lem o w = record {
    outputs = w;
    inputs = f.lists.inputs;
    parameters = f.lists.parameters;
    configuration = f.lists.configuration;
    diagnosis = f.lists.diagnosis;
  }

  on_inputs_lem : (i : Inputs) → InputsFit l.setup.input_len i → ListsFit l.setup (with_inputs l.buffers i)
  on_inputs_lem i w = record {
    outputs = f.lists.outputs;
    inputs = w;
    parameters = f.lists.parameters;
    configuration = f.lists.configuration;
    diagnosis = f.lists.diagnosis;
  }

  on_diagnoses : (d : Diagnoses) → DiagnosesFit l.setup.diagnosis_len d → ListsFit l.setup (with_diagnoses l.buffers d)
  on_diagnoses d w = record {
    outputs = f.lists.outputs;
    inputs = f.lists.inputs;
    parameters = f.lists.parameters;
    configuration = f.lists.configuration;
    diagnosis = w;
  }

  -- the two diagnosis lists change
  changed_fit : (c : Control) → DiagnosisCounted l.setup.diagnosis_len c.diagnosis → Fit (diagnosis_changed l c)
  changed_fit c w =
      on_lists (with_diagnoses l.buffers (exchanged_diagnoses l.buffers.diagnosis)) c
      (on_diagnoses (exchanged_diagnoses l.buffers.diagnosis) (record { own = f.lists.diagnosis.user; user = f.lists.diagnosis.own })) w

  reply_fit : Fit (after_reply l)
  unfolding after_reply diagnosed
  reply_fit = go (delayed l.control && not (diagnosis_leaves l)) refl
    where
      go : (t : Bool) → delayed l.control && not (diagnosis_leaves l) ≡ t → Fit (cond t (diagnosis_changed l (caught_up l.control)) l)
      go true e =
          changed_fit (caught_up l.control)
          (record { count = none_or_some f.counts.delayed (eqb-false _ _ (not-true _ (and_left (delayed l.control) _ e))); delayed = inl refl; flags = omega arith })
      go false e = f

settle_fit : {l : Ledger} → Fit l → Fit (settle l)
unfolding settle
settle_fit {l} f = quiet_fit (reply_fit f) (clear_noted_quiet (after_reply l).setup (after_reply l).control (busy l) (λ _. tt))

-- ---------------------------------------------------------------------------------------------------
-- A complete telegram.

pub outcome_served : (l : Ledger) (t : Telegram) → Served l.setup l.control l.buffers.outputs.withheld (request_by t) (outcome_of l (request_by t) (payload_of t))
outcome_served l t = served l.setup l.control (occupied l) (request_by t) (data_by (payload_of t))

pub master_low : (r : Request) → master_of r < 128
master_low r = mod-lt r.sa (omega arith)

module _ {l : Ledger} (f : Fit l) (t : Telegram) where
  outcome_fit : Fit (carried l (outcome_of l (request_by t) (payload_of t)) (payload_of t))
  outcome_fit = carried_fit f (payload_of t) (λ h. h) (outcome_served l t).lawful

  -- what it draws is valid
  pub drawn_valid : ValidReply (drawn_by l t)
  drawn_valid =
      let o = outcome_of l (request_by t) (payload_of t) in
      reply_valid l.setup l.slice o.control (carried l o (payload_of t)).buffers (master_of (request_by t)) f.start_takes outcome_fit.lists outcome_fit.counts (master_low (request_by t)) o.drawn

  completed_fit : Fit (completed l t)
  unfolding answered
  completed_fit =
      on_line outcome_fit (completed l t).line
      (reply_left (drawn_by l t) drawn_valid)

-- a telegram that draws something acts, so its master is at most 126
draws_master : (l : Ledger) (t : Telegram) → ¬ ((outcome_of l (request_by t) (payload_of t)).drawn ≡ drawn.Nothing) → master_of (request_by t) ≤ 126
unfolding service_of
draws_master l t n = go (acts l.setup (request_by t)) refl
  where
    go : (p : Bool) → acts l.setup (request_by t) ≡ p → master_of (request_by t) ≤ 126
    go true e = acts_master l.setup (request_by t) e
    go false e = absurd (n (rw e))

-- ---------------------------------------------------------------------------------------------------
-- Each call.

heard_fit : {l : Ledger} (b : ℕ) (s : Status) → Fit l → Fit (heard_as s l b)
heard_fit b Fresh f = f
heard_fit {l} b Inside f = go (begun l)
  where
    go : (p : Bool) → Fit (cond p (with_line l (lengthened l.line b)) (settle (with_line l (beginning b))))
    go true = on_line f (lengthened l.line b) f.reply
    go false = settle_fit (on_line f (beginning b) (inl refl))
heard_fit {l} b Complete f = settle_fit (completed_fit f (telegram_on (l.line.telegram ++ b ∷ [])))
heard_fit {l} b Broken f = settle_fit (on_line f (broken_off l.line) f.reply)

-- one octet of a reply sent
sent_left : (n : Line) (xs : List ℕ) → n.reply ≡ xs → Left xs → Left (send_left n xs).reply
sent_left n [] e w = rw e w
sent_left n (x ∷ xs) e (inl z) = let k : ◌≡◌ {A = ℕ} 0 1 = cc in absurd (omega arith)
sent_left n (x ∷ xs) e (inr w) = inr (w.0 ++ x ∷ [], rw (append_assoc w.0 (x ∷ []) xs) w.1)

-- an octet written
written_fit : {l : Ledger} (kind index x : ℕ) → Fit l → ListsFit l.setup (written_octet l.buffers kind index x)
written_fit {l} kind index x f = go (eqb kind 4)
  where
    b : Buffers
    b = l.buffers

    go : (p : Bool)
        → ListsFit l.setup (cond p (with_inputs b (written_input b.inputs index x)) (with_diagnoses b (written_diagnosis b.diagnosis index x)))
    go true =
        on_inputs_lem f (written_input b.inputs index x)
        (record { sending = f.lists.inputs.sending; next = f.lists.inputs.next; held = length-set b.inputs.held index x ∙ f.lists.inputs.held })
    go false =
        on_diagnoses f (written_diagnosis b.diagnosis index x)
        (record { own = f.lists.diagnosis.own; user = length-set b.diagnosis.user index x ∙ f.lists.diagnosis.user })

-- the flags that new diagnosis takes
flags_in_lem : (n m flags : ℕ) → within 6 n m && leb flags 7 ≡ true → flags ≤ 7
flags_in_lem n m flags e = leb-true flags 7 (and_right (within 6 n m) (leb flags 7) e)

pub step_fit : (l : Ledger) (c : Call) → Fit l → Fit (step l c).ledger
unfolding heard paused after_send elapsed hand_over acknowledge_events leave_master diagnosed delaying
step_fit l (octet b bad) f = go l.line.ignored
  where
    s : Status
    s = status (reader_after (run l.line.telegram) b bad)

    go : (p : Bool) → Fit (cond p l (heard_as s l b))
    go true = f
    go false = heard_fit b s f
step_fit l gap f =
    settle_fit (on_line f (gapped l.line) f.reply)
step_fit l send f = settle_fit (on_line f (send_left l.line l.line.reply) (sent_left l.line l.line.reply refl f.reply))
step_fit l tick f = go l.control.noted
  where
    go : (p : Bool) → Fit (cond p (settle (with_line l (silenced l))) (carried l (ticked (busy l) l.control) []))
    go true = settle_fit (on_line f (silenced l) (inl refl))
    go false = quiet_fit f (ticked_quiet l.setup l.control (busy l) (λ _. tt))
step_fit l take f =
    take_cases (λ t. Fit t.ledger) l (λ _. f)
    (λ _. on_lists f (with_outputs l.buffers (taken_outputs l.buffers.outputs)) l.control
    (on_outputs_lem f (taken_outputs l.buffers.outputs) (record { held = f.lists.outputs.next; next = f.lists.outputs.held; back = f.lists.outputs.back })) f.counts)
step_fit l (read kind index) f = read_cases (λ t. Fit t.ledger) l kind index (λ _. f) f
step_fit l (write kind index x) f =
    write_cases (λ t. Fit t.ledger) l kind index x (λ _. f)
    (on_lists f (written_octet l.buffers kind index x) l.control (written_fit kind index x f) f.counts)
step_fit l hand_over_call f =
    on_lists f (with_inputs l.buffers (handed_over l.buffers.inputs)) l.control
    (on_inputs_lem f (handed_over l.buffers.inputs)
    (record { sending = f.lists.inputs.sending; next = f.lists.inputs.held; held = f.lists.inputs.next })) f.counts
step_fit l (new_diagnosis_call count flags) f =
    diagnosis_cases (λ t. Fit t.ledger) l count flags (λ _. f)
    (λ e. on_lists f l.buffers (delaying l.control count flags) f.lists (record { count = f.counts.count; delayed = inr (within_and 6 count _ _ e); flags = flags_in_lem count _ flags e }))
    (λ e. changed_fit f _ (record { count = within_and 6 count _ _ e; delayed = inl refl; flags = omega arith }))
step_fit l (judge_parameters_call j) f =
    parameters_cases (λ t. Fit t.ledger) l j (λ _ _. f)
    (λ _. quiet_fit f (parameters_quiet l.setup l.control (some l.buffers.parameters.waiting) (eqb j 1) tt))
step_fit l (judge_configuration_call j) f =
    configuration_cases (λ t. Fit t.ledger) l j (λ _ _. f)
    (λ _. quiet_fit f (configuration_quiet l.setup l.control (some l.buffers.configuration.waiting) (eqb j 1) tt))
step_fit l events f = f
step_fit l (acknowledge mask) f = on_lists f l.buffers (step l (acknowledge mask)).ledger.control f.lists f.counts
step_fit l pending f = f
step_fit l leave f = quiet_fit f (clear_quiet l.setup l.control (busy l) (λ _. tt))

-- ---------------------------------------------------------------------------------------------------
-- Every list.

fresh_fit : (s : Setup) (slice : List ℕ) → StartTakes s slice → Fit (fresh s slice)
fresh_fit s slice a = record {
  start_takes = a;
  lists = record {
    outputs = record { held = length-replicate s.output_len 0; next = length-replicate s.output_len 0; back = λ e. no_true e };
    inputs = record { sending = length-replicate s.input_len 0; next = length-replicate s.input_len 0; held = length-replicate s.input_len 0 };
    parameters = record { shown = inl refl; waiting = inl refl };
    configuration = record { shown = inl refl; waiting = inl refl };
    diagnosis = record { own = length-replicate s.diagnosis_len 0; user = length-replicate s.diagnosis_len 0 };
  };
  counts = record { count = (omega arith, a.ranged.diagnosis_len.0); delayed = inl refl; flags = omega arith };
  reply = inl refl;
}

after_fit : (l : Ledger) (cs : List Call) → Fit l → Fit (after l cs)
after_fit l [] f = f
after_fit l (c ∷ cs) f = after_fit (step l c).ledger cs (step_fit l c f)

draws : {l : Ledger} → Fit l → (t : Telegram) → Draws l t
unfolding answered
draws {l} f t = record {
  octets_are = refl;
  reads_back = reply_reads (drawn_by l t) (drawn_valid f t);
  master = draws_master l t;
}

fixes : (l : Ledger) (b : ℕ) (bad : Bool) → Fixes l b bad
fixes l b bad i e =
    ap (λ (m : Ledger). m.line.reply) (last_heard l b bad i e)
    ∙ ap (λ (n : Line). n.reply) (settle_line (completed l (telegram_on (l.line.telegram ++ b ∷ []))))

pub replies_read : ReadingBack
replies_read s slice cs a =
    let f = after_fit (fresh s slice) cs (fresh_fit s slice a) in
    record {
      fit = f;
      fixes = fixes (after (fresh s slice) cs);
      completes = draws f;
      heard_whole = λ t. draws (settle_fit (on_line f (beginning (start_octet (kind_of t))) (inl refl))) t;
    }
