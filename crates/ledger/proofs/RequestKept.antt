-- What becomes of the chain by every call (specs/Repeats.antt), and that behind a request that drew no Slave_Diag's reply no diagnosis is or can be
-- delayed by calls that complete no new request.
use Prim.Native.Nat.{ℕ}
use mathlib.Core.Path.{◌≡◌, refl, sym, ap, ◌∙◌}
use mathlib.Core.Bool.{Bool, false, not, ◌&&◌, and-true}
use mathlib.Core.List.{List, [], ◌∷◌, ◌++◌}
use mathlib.Core.Logic.{⊎_elim}
use lib.Dec.{eqb, leb}
use Rattle.telegram.specs.declared.reader.Status.{Status}
use Rattle.telegram.specs.declared.reader.Status.TheVariants.{Fresh, Inside, Complete, Broken}
use Rattle.telegram.specs.Telegram.{Telegram, payload_of}
use Rattle.telegram.specs.Reading.{run, reader_after, status}
use Rattle.telegram.proofs.Run.{no_true}
use Rattle.state.specs.declared.setup.Setup.{Setup}
use Rattle.state.specs.declared.chain.Chain.{Chain}
use Rattle.state.specs.declared.control.Control.{Control}
use Rattle.state.specs.Chain.{drawn_in}
use Rattle.state.specs.Well.{within}
use Rattle.state.proofs.Choice.{by_test, either, and_left}
use Rattle.rules.specs.declared.outcome.Outcome.{Outcome}
use Rattle.rules.specs.Diagnosis.{is_delayed, delayed, diagnosed, delaying, caught_up}
use Rattle.rules.specs.Replies.{diagnoses}
use Rattle.rules.specs.Call.{Call, octet, gap, send, tick, take, read, write, hand_over_call, new_diagnosis_call, judge_parameters_call, judge_configuration_call, events, acknowledge, pending, leave}
use Rattle.rules.proofs.Served.{Quiet, clear_quiet, clear_noted_quiet, ticked_quiet, parameters_quiet, configuration_quiet}
use Rattle.rules.proofs.Repeats.{request_chain, repeat_chain, old_leaves}
use Rattle.ledger.specs.Lists.{some}
use Rattle.ledger.specs.Ledger.{Line, Ledger, with_line, begun, busy, diagnosis_leaves, occupied}
use Rattle.ledger.specs.Outcome.{carried, diagnosis_changed, after_reply, settle}
use Rattle.ledger.specs.Bus.{telegram_on, request_by, data_by, answered, completed, broken_off, beginning, send_left, silenced, heard_as, heard, paused, after_send, elapsed, gapped}
use Rattle.ledger.specs.User.{Told, hand_over, new_diagnosis, acknowledge_events, leave_master}
use Rattle.ledger.specs.Calls.{step, after}
use Rattle.ledger.specs.Repeats.{is_whole, is_new, completes_new_request, NoNewRequest, StartHasNone, ChainKept, ChainGoesOn}
use Rattle.ledger.proofs.ByCases.{take_cases, read_cases, write_cases, diagnosis_cases, parameters_cases, configuration_cases}

-- the octets since the gap are no new request with b
abbrev pub NoneWith : Ledger → ℕ → Status → Type 0
NoneWith l b s = is_whole s && is_new l (telegram_on (l.line.telegram ++ b ∷ [])) ≡ false

-- so it is of an octet that is heard and completes none
pub heard_none : (l : Ledger) (b : ℕ) (bad : Bool) → completes_new_request l (octet b bad) ≡ false → l.line.ignored ≡ false
    → NoneWith l b (status (reader_after (run l.line.telegram) b bad))
heard_none l b bad e i =
    (λ k. not (sym i k) && is_whole (status (reader_after (run l.line.telegram) b bad)) && is_new l (telegram_on (l.line.telegram ++ b ∷ []))) ∙ e

-- ---------------------------------------------------------------------------------------------------
-- The chain.

-- m has the chain of l
abbrev SameChain : Ledger → Ledger → Type 0
SameChain l m = m.control.chain ≡ l.control.chain

-- so does what a call leaves
abbrev LeavesChain : Ledger → Told → Type 0
LeavesChain l t = SameChain l t.ledger

-- an outcome without a telegram
quiet_chain : {g : Setup} {c : Control} {o : Outcome} → Quiet g c Unit o → o.control.chain ≡ c.chain
quiet_chain q = ⊎_elim (λ e. e) (λ x. absurd x.0) q.chain_comes

-- a delayed diagnosis and a noted clear
settle_chain : (l : Ledger) → SameChain l (settle l)
unfolding settle after_reply diagnosed
settle_chain l =
    quiet_chain (clear_noted_quiet (after_reply l).setup (after_reply l).control (busy l) (λ _. tt))
    ∙ by_test (SameChain l) (delayed l.control && not (diagnosis_leaves l)) (diagnosis_changed l (caught_up l.control)) l (λ _. refl) (λ _. refl)

-- an octet, by what the octets are with it
heard_chain : (l : Ledger) (b : ℕ) (s : Status) → NoneWith l b s → SameChain l (heard_as s l b)
unfolding answered
heard_chain l b Fresh e = refl
heard_chain l b Inside e = either (SameChain l) (begun l) refl (settle_chain (with_line l (beginning b)))
heard_chain l b Complete e =
    let t = telegram_on (l.line.telegram ++ b ∷ []) in
    settle_chain (completed l t) ∙ (old_leaves l.setup l.control (occupied l) (request_by t) (data_by (payload_of t)) e).0
heard_chain l b Broken e = settle_chain (with_line l (broken_off l.line))

-- every call
pub chain_kept : ChainKept
unfolding heard paused after_send elapsed hand_over diagnosed delaying acknowledge_events leave_master
chain_kept l (octet b bad) e =
    let s = status (reader_after (run l.line.telegram) b bad) in
    by_test (SameChain l) l.line.ignored l (heard_as s l b) (λ _. refl) (λ i. heard_chain l b s (heard_none l b bad e i))
chain_kept l gap e = settle_chain (with_line l (gapped l.line))
chain_kept l send e = settle_chain (with_line l (send_left l.line l.line.reply))
chain_kept l tick e =
    either (SameChain l) l.control.noted (settle_chain (with_line l (silenced l)))
    (quiet_chain (ticked_quiet l.setup l.control (busy l) (λ _. tt)))
chain_kept l take e = take_cases (LeavesChain l) l (λ _. refl) (λ _. refl)
chain_kept l (read kind index) e = read_cases (LeavesChain l) l kind index (λ _. refl) refl
chain_kept l (write kind index x) e = write_cases (LeavesChain l) l kind index x (λ _. refl) refl
chain_kept l hand_over_call e = refl
chain_kept l (new_diagnosis_call count flags) e = diagnosis_cases (LeavesChain l) l count flags (λ _. refl) (λ _. refl) (λ _. refl)
chain_kept l (judge_parameters_call j) e =
    parameters_cases (LeavesChain l) l j (λ _ _. refl)
    (λ _. quiet_chain (parameters_quiet l.setup l.control (some l.buffers.parameters.waiting) (eqb j 1) tt))
chain_kept l (judge_configuration_call j) e =
    configuration_cases (LeavesChain l) l j (λ _ _. refl)
    (λ _. quiet_chain (configuration_quiet l.setup l.control (some l.buffers.configuration.waiting) (eqb j 1) tt))
chain_kept l events e = refl
chain_kept l (acknowledge mask) e = refl
chain_kept l pending e = refl
chain_kept l leave e = quiet_chain (clear_quiet l.setup l.control (busy l) (λ _. tt))

-- a list of calls
pub after_chain : (l : Ledger) (cs : List Call) → NoNewRequest l cs → SameChain l (after l cs)
after_chain l [] n = refl
after_chain l (c ∷ cs) n = after_chain (step l c).ledger cs n.1 ∙ chain_kept l c n.0

-- a request
pub chain_goes_on : (l : Ledger) (t : Telegram) → ChainGoesOn l t
unfolding answered
chain_goes_on l t =
    let stays = settle_chain (completed l t) in
    let g = l.setup in
    let c = l.control in
    let r = request_by t in
    let octets = data_by (payload_of t) in
    record {
      new_goes_in = λ a n. stays ∙ request_chain g c (occupied l) r octets a n;
      repeat_leaves = λ e. stays ∙ repeat_chain g c (occupied l) r octets e;
    }

-- Start
pub start_has_none : StartHasNone
start_has_none s slice = refl

-- ---------------------------------------------------------------------------------------------------
-- No diagnosis.

-- the reply is no Slave_Diag's, and no diagnosis is delayed
pub record UndelayedBy (diagnosing late : Bool) : Type 0 where
  pub no_diagnosis : diagnosing ≡ false
  pub none_delayed : late ≡ false

-- so it is of a ledger
abbrev pub Undelayed : Ledger → Type 0
Undelayed l = UndelayedBy l.line.diagnosing (delayed l.control)

-- and of what a call leaves
abbrev LeavesUndelayed : Told → Type 0
LeavesUndelayed t = Undelayed t.ledger

-- a repeat would draw no Slave_Diag's reply
abbrev NoDiagnosisAgain : Ledger → Type 0
NoDiagnosisAgain l = diagnoses (drawn_in l.control.chain) ≡ false

-- a send leaves whose reply it is
sent_diagnosing : (n : Line) (xs : List ℕ) → (send_left n xs).diagnosing ≡ n.diagnosing
sent_diagnosing n [] = refl
sent_diagnosing n (x ∷ xs) = refl

-- an outcome without a telegram
quiet_undelayed : (l : Ledger) {o : Outcome} → Undelayed l → Quiet l.setup l.control Unit o → Undelayed (carried l o [])
quiet_undelayed l w q = record { no_diagnosis = w.no_diagnosis; none_delayed = ap is_delayed q.counts_stay ∙ w.none_delayed }

-- a delayed diagnosis takes effect where the reply is no Slave_Diag's
catches_up : (l : Ledger) → l.line.diagnosing ≡ false → Undelayed (after_reply l)
unfolding after_reply diagnosed
catches_up l f =
    by_test Undelayed (delayed l.control && not (diagnosis_leaves l)) (diagnosis_changed l (caught_up l.control)) l
    (λ _. record { no_diagnosis = f; none_delayed = refl })
    (λ d. record { no_diagnosis = f; none_delayed = sym (and-true (delayed l.control)) ∙ (λ i. delayed l.control && not (sym f i && some l.line.reply)) ∙ d })

-- so nothing is delayed behind settling
settle_undelayed : (l : Ledger) → l.line.diagnosing ≡ false → Undelayed (settle l)
unfolding settle
settle_undelayed l f =
    quiet_undelayed (after_reply l) (catches_up l f) (clear_noted_quiet (after_reply l).setup (after_reply l).control (busy l) (λ _. tt))

-- an octet, by what the octets are with it
heard_undelayed : (l : Ledger) (b : ℕ) (s : Status) → NoneWith l b s → NoDiagnosisAgain l → Undelayed l → Undelayed (heard_as s l b)
unfolding answered
heard_undelayed l b Fresh e h w = w
heard_undelayed l b Inside e h w = either Undelayed (begun l) w (settle_undelayed (with_line l (beginning b)) refl)
heard_undelayed l b Complete e h w =
    let t = telegram_on (l.line.telegram ++ b ∷ []) in
    settle_undelayed (completed l t)
    (⊎_elim (λ d. ap diagnoses d ∙ h) (λ d. ap diagnoses d) (old_leaves l.setup l.control (occupied l) (request_by t) (data_by (payload_of t)) e).1)
heard_undelayed l b Broken e h w = settle_undelayed (with_line l (broken_off l.line)) w.no_diagnosis

-- a new diagnosis takes effect at once
diagnosed_undelayed : (l : Ledger) (count flags : ℕ) → Undelayed l → Undelayed (new_diagnosis l count flags).ledger
unfolding new_diagnosis diagnosed
diagnosed_undelayed l count flags w =
    either LeavesUndelayed (not (within 6 count l.setup.diagnosis_len && leb flags 7)) w
    (either LeavesUndelayed (delayed l.control) w
    (by_test LeavesUndelayed (diagnosis_leaves l) _ _ (λ d. no_true (sym w.no_diagnosis ∙ and_left l.line.diagnosing _ d))
    (λ _. record { no_diagnosis = w.no_diagnosis; none_delayed = refl })))

-- every call
step_undelayed : (l : Ledger) (c : Call) → completes_new_request l c ≡ false → NoDiagnosisAgain l → Undelayed l → Undelayed (step l c).ledger
unfolding heard paused after_send elapsed hand_over acknowledge_events leave_master
step_undelayed l (octet b bad) e h w =
    let s = status (reader_after (run l.line.telegram) b bad) in
    by_test Undelayed l.line.ignored l (heard_as s l b) (λ _. w) (λ i. heard_undelayed l b s (heard_none l b bad e i) h w)
step_undelayed l gap e h w = settle_undelayed (with_line l (gapped l.line)) w.no_diagnosis
step_undelayed l send e h w =
    settle_undelayed (with_line l (send_left l.line l.line.reply)) (sent_diagnosing l.line l.line.reply ∙ w.no_diagnosis)
step_undelayed l tick e h w =
    either Undelayed l.control.noted (settle_undelayed (with_line l (silenced l)) refl)
    (quiet_undelayed l w (ticked_quiet l.setup l.control (busy l) (λ _. tt)))
step_undelayed l take e h w = take_cases LeavesUndelayed l (λ _. w) (λ _. w)
step_undelayed l (read kind index) e h w = read_cases LeavesUndelayed l kind index (λ _. w) w
step_undelayed l (write kind index x) e h w = write_cases LeavesUndelayed l kind index x (λ _. w) w
step_undelayed l hand_over_call e h w = w
step_undelayed l (new_diagnosis_call count flags) e h w = diagnosed_undelayed l count flags w
step_undelayed l (judge_parameters_call j) e h w =
    parameters_cases LeavesUndelayed l j (λ _ _. w)
    (λ _. quiet_undelayed l w (parameters_quiet l.setup l.control (some l.buffers.parameters.waiting) (eqb j 1) tt))
step_undelayed l (judge_configuration_call j) e h w =
    configuration_cases LeavesUndelayed l j (λ _ _. w)
    (λ _. quiet_undelayed l w (configuration_quiet l.setup l.control (some l.buffers.configuration.waiting) (eqb j 1) tt))
step_undelayed l events e h w = w
step_undelayed l (acknowledge mask) e h w = w
step_undelayed l pending e h w = w
step_undelayed l leave e h w = quiet_undelayed l w (clear_quiet l.setup l.control (busy l) (λ _. tt))

-- ---------------------------------------------------------------------------------------------------
-- Both.

-- the chain is h, the reply is no Slave_Diag's, and no diagnosis is delayed
abbrev pub Waits : Chain → Ledger → Type 0
Waits h l = (l.control.chain ≡ h) × Undelayed l

-- settling
pub settle_waits : {h : Chain} (l : Ledger) → (settle l).control.chain ≡ h → l.line.diagnosing ≡ false → Waits h (settle l)
settle_waits l e f = (e, settle_undelayed l f)

module _ {h : Chain} (d : diagnoses (drawn_in h) ≡ false) where
  -- every call
  pub step_waits : (l : Ledger) (c : Call) → completes_new_request l c ≡ false → Waits h l → Waits h (step l c).ledger
  step_waits l c e w = (chain_kept l c e ∙ w.0, step_undelayed l c e (ap (λ (k : Chain). diagnoses (drawn_in k)) w.0 ∙ d) w.1)

  -- a list of calls
  pub after_waits : (l : Ledger) (cs : List Call) → NoNewRequest l cs → Waits h l → Waits h (after l cs)
  after_waits l [] n w = w
  after_waits l (c ∷ cs) n w = after_waits (step l c).ledger cs n.1 (step_waits l c n.0 w)
