-- Every call keeps the ledger steady, so that every ledger that a list of calls leads to is steady.
use Prim.Native.Nat.{ℕ, ◌≤◌}
use native.Mathlib.Omega.{arith}
use mathlib.Core.Path.{◌≡◌, refl, sym, ap, ◌∙◌}
use mathlib.Core.Bool.{Bool, true, false, not, ◌&&◌, ◌||◌}
use mathlib.Core.List.{List, [], ◌∷◌, ◌++◌}
use mathlib.Core.Logic.{inl, inr}
use lib.Dec.{eqb, leb}
use borrow.Author.Tests.{eqb-false, not-true, not-false}
use Rattle.buffers.specs.Events.{watchdog_event}
use Rattle.telegram.specs.declared.reader.Status.{Status}
use Rattle.telegram.specs.declared.reader.Status.TheVariants.{Fresh, Inside, Complete, Broken}
use Rattle.telegram.specs.Telegram.{Telegram, payload_of}
use Rattle.telegram.specs.Reading.{run, reader_after, status}
use Rattle.telegram.proofs.Run.{no_true}
use Rattle.state.specs.declared.setup.Setup.{Setup}
use Rattle.state.specs.declared.control.Control.{Control}
use Rattle.state.specs.declared.state.Drawn.TheVariants.{Nothing}
use Rattle.state.specs.declared.answer.Refusal.TheVariants.{Range, Delayed}
use Rattle.rules.specs.declared.outcome.Outcome.{Outcome}
use Rattle.state.specs.Well.{within}
use Rattle.rules.specs.Control.{with_noted, raise}
use Rattle.rules.specs.Phases.{drawing, wait_prm, entering_wait_prm, data_exch}
use Rattle.rules.specs.Diagnosis.{delayed, diagnosed, delaying, caught_up}
use Rattle.rules.specs.Line.{clearing, clear_on, clear_noted, counts, with_remaining, ticked}
use Rattle.rules.specs.User.{judged_parameters, judged_configuration}
use Rattle.ledger.proofs.Some.{nothing_in, something_in}
use Rattle.ledger.specs.Lists.{some, Buffers, taken_outputs, handed_over, with_outputs, with_inputs}
use Rattle.ledger.specs.Ledger.{Line, Ledger, with_control, with_buffers, with_line, begun, busy, diagnosis_leaves, parameters_open, configuration_open, fresh}
use Rattle.ledger.specs.Outcome.{carried, diagnosis_changed, after_reply, settle}
use Rattle.ledger.specs.Bus.{telegram_on, answered, completed, broken_off, lengthened, beginning, send_left, silenced, heard_as, heard, paused, after_send, elapsed}
use Rattle.ledger.specs.User.{Told, told, refusing, written_octet, hand_over, new_diagnosis, acknowledge_events, leave_master}
use Rattle.rules.specs.Call.{Call, octet, gap, send, tick, take, read, write, hand_over_call, new_diagnosis_call, judge_parameters_call, judge_configuration_call, events, acknowledge, pending, leave}
use Rattle.state.proofs.Tests.{none_or_some, within_and}
use Rattle.ledger.specs.Calls.{step, after}
use Rattle.agreement.proofs.Steady.{CountIn, InOrder, Steady}
use Rattle.state.proofs.Choice.{by_test, and_left, and_right}
use Rattle.rules.proofs.Alike.{Alike, alike}
use Rattle.ledger.proofs.ByCases.{take_cases, read_cases, write_cases, parameters_cases, configuration_cases}
use Rattle.ledger.proofs.Fit.{outcome_served}
use Rattle.agreement.proofs.OutcomesKeepOrder.{Orders, none_fit, kept, entered, served_order}

-- the part of it that has nothing to do with the line
abbrev Order : Ledger → Type 0
Order l = InOrder l.setup l.control l.buffers.parameters l.buffers.configuration

-- ---- an outcome on a line that stays

pub record OutcomeKeeps (l : Ledger) (o : Outcome) : Type 0 where
  pub order : Orders l.setup l.buffers.parameters l.buffers.configuration [] o
  pub noted : o.control.noted ≡ true → busy l ≡ true
  pub diagnosis : o.control.diagnosis ≡ l.control.diagnosis

carried_steady : {l : Ledger} → Steady l → (o : Outcome) → OutcomeKeeps l o → Steady (carried l o [])
carried_steady {l} s o h =
    record {
      order = h.order;
      quiet = s.quiet;
      noted = h.noted;
      delaying = λ e. s.delaying (sym (ap (λ d. not (eqb d.delayed_count 0)) h.diagnosis) ∙ e);
    }

module _ {l : Ledger} (s : Steady l) where
  -- nothing that counts here changed but what is said
  same : {c : Control} → Alike l.control c → InOrder l.setup c l.buffers.parameters l.buffers.configuration
  same e = kept e s.order

  -- WAIT_PRM entered
  enters_keeps : (d : Control) → d.diagnosis ≡ l.control.diagnosis → (d.noted ≡ true → busy l ≡ true) → OutcomeKeeps l (entering_wait_prm d Nothing)
  unfolding wait_prm
  enters_keeps d e f = record { order = entered d e s.order; noted = f; diagnosis = e }

  clear_keeps : (c : Control) → Alike l.control c → OutcomeKeeps l (clear_on (busy l) c)
  clear_keeps c e =
      by_test (OutcomeKeeps l) (busy l) _ (clearing c)
      (λ f. record { order = same (alike e.phase_same e.good_same e.diagnosis_same e.chain_same); noted = λ _. f; diagnosis = e.diagnosis_same })
      (λ _. enters_keeps _ e.diagnosis_same (λ f. no_true f))

  ticked_keeps : OutcomeKeeps l (ticked (busy l) l.control)
  unfolding ticked
  ticked_keeps =
      by_test (OutcomeKeeps l) (not (counts l.control)) _ _
      (λ _. record { order = s.order; noted = s.noted; diagnosis = refl })
      (λ _. by_test (OutcomeKeeps l) (leb l.control.watchdog.remaining 1) _ _
      (λ _. clear_keeps (raise (with_remaining l.control 0) watchdog_event) (alike refl refl refl refl))
      (λ _. record { order = same (alike refl refl refl refl); noted = s.noted; diagnosis = refl }))

  parameters_keeps : (waits good : Bool) → parameters_open l ≡ true → OutcomeKeeps l (judged_parameters l.control waits good)
  unfolding judged_parameters
  parameters_keeps waits good e =
      by_test (OutcomeKeeps l) waits _ _
      (λ _. record {
        order = record {
          parameters_closed = λ f. absurd (something_in e (s.order.parameters_closed f));
          configuration_closed = s.order.configuration_closed;
          unjudged = λ _. s.order.unjudged e;
          parameters_fit = record { shown = s.order.parameters_fit.waiting; waiting = omega arith };
          configuration_fit = s.order.configuration_fit;
          count = s.order.count;
          delayed_count = s.order.delayed_count;
        };
        noted = s.noted;
        diagnosis = refl;
      })
      (λ _. by_test (OutcomeKeeps l) good _ _
      (λ _. record {
        order = record {
          parameters_closed = λ _. refl;
          configuration_closed = s.order.configuration_closed;
          unjudged = λ f. no_true f;
          parameters_fit = none_fit l.setup.parameter_len;
          configuration_fit = s.order.configuration_fit;
          count = s.order.count;
          delayed_count = s.order.delayed_count;
        };
        noted = s.noted;
        diagnosis = refl;
      })
      (λ _. enters_keeps _ refl s.noted))

  configuration_keeps : (waits good : Bool) → configuration_open l && l.control.flags.parameters_good ≡ true
      → OutcomeKeeps l (judged_configuration l.control waits good)
  unfolding judged_configuration data_exch
  configuration_keeps waits good e =
      let opened = and_left (configuration_open l) l.control.flags.parameters_good e in
      by_test (OutcomeKeeps l) waits _ _
      (λ _. record {
        order = record {
          parameters_closed = s.order.parameters_closed;
          configuration_closed = λ f. absurd (something_in opened (s.order.configuration_closed f));
          unjudged = s.order.unjudged;
          parameters_fit = s.order.parameters_fit;
          configuration_fit = record { shown = s.order.configuration_fit.waiting; waiting = omega arith };
          count = s.order.count;
          delayed_count = s.order.delayed_count;
        };
        noted = s.noted;
        diagnosis = refl;
      })
      (λ _. by_test (OutcomeKeeps l) good _ _
      (λ _. record {
        order = record {
          parameters_closed = λ _. closed (parameters_open l) refl;
          configuration_closed = λ _. refl;
          unjudged = s.order.unjudged;
          parameters_fit = s.order.parameters_fit;
          configuration_fit = none_fit l.setup.configuration_len;
          count = s.order.count;
          delayed_count = s.order.delayed_count;
        };
        noted = s.noted;
        diagnosis = refl;
      })
      (λ _. enters_keeps _ refl s.noted))
    where
      -- good parameters are judged, so that none is open
      closed : (t : Bool) → parameters_open l ≡ t → l.buffers.parameters.shown ≡ []
      closed true f = no_true (sym (s.order.unjudged f) ∙ and_right (configuration_open l) l.control.flags.parameters_good e)
      closed false f = nothing_in l.buffers.parameters.shown f

-- ---- settling

-- a diagnosis that takes effect
diagnosed_order : (l : Ledger) (count flags : ℕ) → CountIn l.setup count → Order l
    → InOrder l.setup (diagnosed l.control count flags) l.buffers.parameters l.buffers.configuration
unfolding diagnosed
diagnosed_order l count flags w h = record {
  parameters_closed = h.parameters_closed;
  configuration_closed = h.configuration_closed;
  unjudged = h.unjudged;
  parameters_fit = h.parameters_fit;
  configuration_fit = h.configuration_fit;
  count = w;
  delayed_count = inl refl;
}

-- where not both, and the one, then the other
remains : (p q : Bool) → p ≡ true → p && not q ≡ false → q ≡ true
remains true q e f = not-false q f
remains false q e f = no_true e

-- all but the noted clear
record Half (l m : Ledger) : Type 0 where
  order : Order m
  line : m.line ≡ l.line
  delaying : delayed m.control ≡ true → diagnosis_leaves m ≡ true

after_half : (l : Ledger) → Order l → Half l (after_reply l)
unfolding after_reply diagnosed
after_half l h =
    by_test (Half l) (delayed l.control && not (diagnosis_leaves l)) (diagnosis_changed l (caught_up l.control)) l
    (λ e. record {
      order =
          diagnosed_order l l.control.diagnosis.delayed_count l.control.diagnosis.delayed_flags
          (none_or_some h.delayed_count (eqb-false _ _ (not-true _ (and_left (delayed l.control) (not (diagnosis_leaves l)) e)))) h;
      line = refl;
      delaying = λ f. no_true f;
    })
    (λ e. record { order = h; line = refl; delaying = λ f. remains (delayed l.control) (diagnosis_leaves l) f e })

pub settle_steady : (l : Ledger) → Order l → (begun l ≡ true → l.line.reply ≡ []) → Steady (settle l)
unfolding settle wait_prm
settle_steady l h quiet = go (after_reply l) (after_half l h)
  where
    go : (m : Ledger) → Half l m → Steady (carried m (clear_noted (busy l) m.control) [])
    go m w =
        by_test (λ (o : Outcome). Steady (carried m o [])) (m.control.noted && not (busy l)) (clearing m.control) (drawing m.control Nothing)
        (λ _. record { order = entered (with_noted m.control false) refl w.order; quiet = still; noted = λ e. no_true e; delaying = w.delaying })
        (λ e. record {
          order = w.order;
          quiet = still;
          noted = λ f. ap (λ (n : Line). some n.telegram || some n.reply) w.line ∙ remains m.control.noted (busy l) f e;
          delaying = w.delaying;
        })
      where
        still : begun m ≡ true → m.line.reply ≡ []
        still e = ap (λ (n : Line). n.reply) w.line ∙ quiet (sym (ap (λ (n : Line). some n.telegram) w.line) ∙ e)

-- ---- the bus

module _ {l : Ledger} (s : Steady l) where
  -- on a line where no telegram is begun
  idle_settles : (n : Line) → n.telegram ≡ [] → Steady (settle (with_line l n))
  idle_settles n e = settle_steady (with_line l n) s.order (λ f. no_true (sym (ap some e) ∙ f))

  completed_order : (t : Telegram) → Order (completed l t)
  unfolding answered
  completed_order t = served_order (payload_of t) refl s.order (outcome_served l t)

  completed_steady : (t : Telegram) → Steady (settle (completed l t))
  unfolding answered
  completed_steady t = settle_steady (completed l t) (completed_order t) (λ e. no_true e)

  -- an inner octet
  lengthened_steady : (b : ℕ) → begun l ≡ true → Steady (with_line l (lengthened l.line b))
  lengthened_steady b e =
      record {
        order = s.order;
        quiet = λ _. s.quiet e;
        noted = λ _. ap (λ (t : Bool). t || some l.line.reply) (longer l.line.telegram);
        delaying = s.delaying;
      }
    where
      longer : (xs : List ℕ) → some (xs ++ b ∷ []) ≡ true
      longer [] = refl
      longer (x ∷ xs) = refl

  heard_steady : (b : ℕ) (t : Status) → Steady (heard_as t l b)
  heard_steady b Fresh = s
  heard_steady b Inside =
      by_test Steady (begun l) (with_line l (lengthened l.line b)) (settle (with_line l (beginning b))) (lengthened_steady b)
      (λ _. settle_steady (with_line l (beginning b)) s.order (λ _. refl))
  heard_steady b Complete = completed_steady (telegram_on (l.line.telegram ++ b ∷ []))
  heard_steady b Broken = idle_settles (broken_off l.line) refl

  -- one octet of the reply is sent, which is not while a telegram is coming
  sent_quiet : (xs : List ℕ) → l.line.reply ≡ xs → begun (with_line l (send_left l.line xs)) ≡ true → (send_left l.line xs).reply ≡ []
  sent_quiet [] e f = e
  sent_quiet (x ∷ xs) e f = absurd (something_in (ap some e) (s.quiet f))

  pub sent_steady : Steady (after_send l)
  unfolding after_send
  sent_steady = settle_steady (with_line l (send_left l.line l.line.reply)) (sent_order l.line.reply) (sent_quiet l.line.reply refl)
    where
      sent_order : (xs : List ℕ) → Order (with_line l (send_left l.line xs))
      sent_order xs = s.order

  pub octet_steady : (b : ℕ) (bad : Bool) → Steady (heard l b bad)
  unfolding heard
  octet_steady b bad =
      let t = status (reader_after (run l.line.telegram) b bad) in
      by_test Steady l.line.ignored l (heard_as t l b) (λ _. s) (λ _. heard_steady b t)

  pub gap_steady : Steady (paused l)
  unfolding paused
  gap_steady = idle_settles (record { ignored = false; telegram = []; reply = l.line.reply; diagnosing = l.line.diagnosing }) refl

  pub tick_steady : Steady (elapsed l)
  unfolding elapsed
  tick_steady =
      by_test Steady l.control.noted (settle (with_line l (silenced l))) (carried l (ticked (busy l) l.control) [])
      (λ _. idle_settles (silenced l) refl) (λ _. carried_steady s (ticked (busy l) l.control) (ticked_keeps s))

  -- ---- the vat program

  -- nothing changes but buffers that are not looked at here
  lists_steady : (x : Buffers) → x.parameters ≡ l.buffers.parameters → x.configuration ≡ l.buffers.configuration → Steady (with_buffers l x)
  lists_steady x e f =
      record { order = rw (e, f) s.order; quiet = s.quiet; noted = s.noted; delaying = s.delaying }

  written_sets : (kind index v : ℕ)
      → ((written_octet l.buffers kind index v).parameters ≡ l.buffers.parameters) × ((written_octet l.buffers kind index v).configuration ≡ l.buffers.configuration)
  written_sets kind index v =
      by_test (λ (x : Buffers). (x.parameters ≡ l.buffers.parameters) × (x.configuration ≡ l.buffers.configuration)) (eqb kind 4) _ _ (λ _. (refl, refl)) (λ _. (refl, refl))

  -- a diagnosis is delayed, or takes effect
  delaying_steady : (count flags : ℕ) → CountIn l.setup count → diagnosis_leaves l ≡ true → Steady (with_control l (delaying l.control count flags))
  unfolding delaying
  delaying_steady count flags w e = record {
    order = record {
      parameters_closed = s.order.parameters_closed;
      configuration_closed = s.order.configuration_closed;
      unjudged = s.order.unjudged;
      parameters_fit = s.order.parameters_fit;
      configuration_fit = s.order.configuration_fit;
      count = s.order.count;
      delayed_count = inr w;
    };
    quiet = s.quiet;
    noted = s.noted;
    delaying = λ _. e;
  }

  diagnosed_steady : (count flags : ℕ) → CountIn l.setup count → Steady (diagnosis_changed l (diagnosed l.control count flags))
  unfolding diagnosed
  diagnosed_steady count flags w =
      record { order = diagnosed_order l count flags w s.order; quiet = s.quiet; noted = s.noted; delaying = λ e. no_true e }

Keeps : Told → Type 0
Keeps t = Steady t.ledger

pub step_steady : (l : Ledger) (c : Call) → Steady l → Steady (step l c).ledger
unfolding hand_over new_diagnosis acknowledge_events leave_master Keeps
step_steady l (octet b bad) s = octet_steady s b bad
step_steady l gap s = gap_steady s
step_steady l send s = sent_steady s
step_steady l tick s = tick_steady s
step_steady l take s =
    take_cases Keeps l (λ _. s) (λ _. lists_steady s (with_outputs l.buffers (taken_outputs l.buffers.outputs)) refl refl)
step_steady l (read kind index) s = read_cases Keeps l kind index (λ _. s) s
step_steady l (write kind index x) s =
    write_cases Keeps l kind index x (λ _. s)
    (lists_steady s (written_octet l.buffers kind index x) (written_sets s kind index x).0 (written_sets s kind index x).1)
step_steady l hand_over_call s = lists_steady s (with_inputs l.buffers (handed_over l.buffers.inputs)) refl refl
step_steady l (new_diagnosis_call count flags) s =
    by_test Keeps (not (within 6 count l.setup.diagnosis_len && leb flags 7)) (refusing Range l) _ (λ _. s)
    (λ e. by_test Keeps (delayed l.control) (refusing Delayed l) _ (λ _. s)
    (λ _. by_test Keeps (diagnosis_leaves l) (told 0 (with_control l (delaying l.control count flags))) (told 0 (diagnosis_changed l (diagnosed l.control count flags)))
    (λ f. delaying_steady s count flags (within_and 6 count _ _ (not-false _ e)) f)
    (λ _. diagnosed_steady s count flags (within_and 6 count _ _ (not-false _ e)))))
step_steady l (judge_parameters_call j) s =
    parameters_cases Keeps l j (λ _ _. s)
    (λ e. carried_steady s _ (parameters_keeps s (some l.buffers.parameters.waiting) (eqb j 1) (and_left (parameters_open l) (leb j 1) e)))
step_steady l (judge_configuration_call j) s =
    configuration_cases Keeps l j (λ _ _. s)
    (λ e. carried_steady s _
    (configuration_keeps s (some l.buffers.configuration.waiting) (eqb j 1)
    (and_left (configuration_open l && l.control.flags.parameters_good) (leb j 1) e)))
step_steady l events s = s
step_steady l (acknowledge mask) s =
    record { order = kept {c = l.control} (alike refl refl refl refl) s.order; quiet = s.quiet; noted = s.noted; delaying = s.delaying }
step_steady l pending s = s
step_steady l leave s = carried_steady s (clear_on (busy l) l.control) (clear_keeps s l.control (alike refl refl refl refl))

-- ---- every list

pub fresh_steady : (g : Setup) (slice : List ℕ) → 6 ≤ g.diagnosis_len → Steady (fresh g slice)
fresh_steady g slice h = record {
  order = record {
    parameters_closed = λ _. refl;
    configuration_closed = λ _. refl;
    unjudged = λ e. no_true e;
    parameters_fit = none_fit g.parameter_len;
    configuration_fit = none_fit g.configuration_len;
    count = (omega arith, h);
    delayed_count = inl refl;
  };
  quiet = λ e. no_true e;
  noted = λ e. no_true e;
  delaying = λ e. no_true e;
}

pub after_steady : (l : Ledger) (cs : List Call) → Steady l → Steady (after l cs)
after_steady l [] s = s
after_steady l (c ∷ cs) s = after_steady (step l c).ledger cs (step_steady l c s)
