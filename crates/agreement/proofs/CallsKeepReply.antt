-- A reply of the held outputs is unfinished only where they may be drawn, in DATA_EXCH or by a repeat: every call keeps that. DATA_EXCH is
-- left only where no such reply is left: on an idle line, or by a bad judgement, which needs an open set. The chain changes only with a
-- telegram, whose beginning drops the reply.
use Rattle.std.proofs.Common.{Option, Some, None}
use Prim.Native.Nat.{ℕ, ◌+◌}
use mathlib.Core.Path.{◌≡◌, refl, sym, subst, ap, ◌∙◌}
use mathlib.Core.Bool.{Bool, true, false, cond, not, ◌&&◌, ◌||◌}
use mathlib.Core.Logic.{⊎_elim}
use mathlib.Core.List.{List}
use lib.Dec.{eqb, leb}
use lib.ListN.{get_or, set}
use borrow.Author.Tests.{not-false}
use Rattle.buffers.specs.Quad.{taken}
use Rattle.telegram.specs.Reading.{start, off, reader_after, status, datum_of}
use Rattle.telegram.specs.Sending.{left, sent}
use Rattle.telegram.proofs.Run.{no_true}
use Rattle.state.specs.declared.answer.Refusal.TheVariants.{Judging, Range, Absent, Delayed}
use Rattle.state.specs.declared.chain.Chain.{Chain}
use Rattle.state.specs.declared.control.Control.{Control}
use Rattle.state.specs.declared.setup.Setup.{Setup}
use Rattle.state.specs.declared.state.Reply.{Reply}
use Rattle.state.specs.declared.state.State.{State}
use Rattle.rules.specs.declared.outcome.Outcome.{Outcome}
use Rattle.state.specs.Chain.{drawn_in}
use Rattle.state.specs.Well.{within}
use Rattle.rules.specs.Control.{in_exchange}
use Rattle.rules.specs.Diagnosis.{delayed, diagnosed, delaying, caught_up}
use Rattle.rules.specs.Line.{clear_noted, ticked}
use Rattle.ledger.specs.Ledger.{Ledger}
use Rattle.rules.specs.Kinds.{in_range, writable}
use Rattle.rules.specs.Call.{Call, gap, tick, take, read, write, hand_over_call, new_diagnosis_call, judge_parameters_call, judge_configuration_call, events, acknowledge, pending, leave, octet, send}
use Rattle.state.specs.With.{with_control, with_outputs, with_reply}
use Rattle.steps.specs.Stepped.{Stepped, unchanged, Told, told, refusing}
use Rattle.steps.specs.Line.{begun, busy, diagnosis_leaves}
use Rattle.steps.specs.Outcome.{is_open, diagnosis_changed, carried, after_reply, settle}
use Rattle.state.specs.Start.{no_reply}
use Rattle.steps.specs.Replies.{reply_for, asked_for}
use Rattle.steps.specs.Reading.{read_by, is_ignored, stored_as, request_by, answered, completed, beginning, heard_as, heard}
use Rattle.steps.specs.Bus.{paused, silenced_reader, elapsed, sent_by, send_left}
use Rattle.steps.specs.User.{absent, kind_at, take_outputs, read_octet, write_octet, hand_over, new_diagnosis, judge_parameters, judge_configuration, acknowledge_events, leave_master}
use Rattle.steps.specs.Step.{step}
use Rattle.agreement.proofs.Steady.{Allows, ReplySteady, Related}
use Rattle.state.proofs.Choice.{by_test, or_second, or_either}
use Rattle.rules.proofs.Served.{Publishes, Quiet, clear_quiet, clear_noted_quiet, ticked_quiet, parameters_quiet, configuration_quiet, is_outputs, may_draw_outputs}
use Rattle.agreement.proofs.OutcomeCarried.{Spared}
use Rattle.agreement.proofs.SettleAgrees.{idle_spared, after_reply_keeps}
use Rattle.agreement.proofs.UserCallsAgree.{parameters_spared, configuration_spared}
use Rattle.telegram.specs.declared.reader.Reader.{Reader}
use Rattle.telegram.specs.declared.reader.Status.{Status}
use Rattle.telegram.specs.declared.reader.Status.TheVariants as reader-status
use Rattle.steps.proofs.OutcomeServed.{outcome_served}

-- an outcome without data that spares the reply leaves no DATA_EXCH under it, and no chain
quiet_allows : {g : Setup} {c : Control} {o : Outcome} (r : Reply) → Quiet g c (Spared r) o → Allows c r → Allows o.control r
quiet_allows {g} {c} {o} r q f w h = ⊎_elim inside linked (or_either (in_exchange c) (is_outputs (drawn_in c.chain)) (f w h))
  where
    after : Bool
    after = is_outputs (drawn_in o.control.chain)

    -- DATA_EXCH stays
    inside : in_exchange c ≡ true → may_draw_outputs o.control ≡ true
    inside e = go (in_exchange o.control) refl
      where
        go : (t : Bool) → in_exchange o.control ≡ t → t || after ≡ true
        go true _ = refl
        go false l = absurd (subst (Publishes (⊥ × (0 ≡ g.output_len)) ⊥ (Spared r)) (q.leaves e l) q.outputs_come w h)

    -- and so does the chain
    linked : is_outputs (drawn_in c.chain) ≡ true → may_draw_outputs o.control ≡ true
    linked e =
        or_second (in_exchange o.control) after
        (⊎_elim (λ s. ap (λ (x : Chain). is_outputs (drawn_in x)) s ∙ e) (λ x. absurd x.0) q.chain_comes)

-- no reply is allowed everywhere
none_allowed : (c : Control) → Allows c no_reply
none_allowed c w h = no_true h

-- ---- settling

module _ (s : State) (g : ReplySteady s) where
  after_reply_steady : Allows (after_reply s).control s.reply
  unfolding after_reply diagnosed
  after_reply_steady =
      by_test (λ (x : State). Allows x.control s.reply) (delayed s.control && not (diagnosis_leaves s)) (diagnosis_changed s (caught_up s.control)) s
      (λ _. g) (λ _. g)

  settle_keeps : (m : List ℕ) → ReplySteady (settle s m).state
  unfolding settle carried
  settle_keeps m =
      subst (Allows (clear_noted (busy s) (after_reply s).control).control) (sym (after_reply_keeps s))
      (quiet_allows s.reply (clear_noted_quiet s.setup (after_reply s).control (busy s) (idle_spared s)) after_reply_steady)

-- ---- the bus

module _ (s : State) (m : List ℕ) (g : ReplySteady s) where
  completed_keeps : (r : Reader) → ReplySteady (completed s m r).state
  unfolding answered carried reply_for
  completed_keeps r w h = (outcome_served (read_by s r) m (request_by r)).draws_within (ap is_outputs w)

  stored_keeps : (d : Option ℕ) (r : Reader) (b : ℕ) → ReplySteady (stored_as d s m r b).state
  stored_keeps None r b = g
  stored_keeps (Some k) r b = g

  heard_keeps : (t : Status) (r : Reader) (b : ℕ) → ReplySteady (heard_as t s m r b).state
  heard_keeps reader-status.Fresh r b = g
  heard_keeps reader-status.Inside r b =
      by_test (λ (x : Stepped). ReplySteady x.state) (begun s) (stored_as (datum_of s.incoming.reader) s m r b) (settle (beginning s r) m)
      (λ _. stored_keeps (datum_of s.incoming.reader) r b) (λ _. settle_keeps (beginning s r) (none_allowed s.control) m)
  heard_keeps reader-status.Complete r b = settle_keeps (completed s m r).state (completed_keeps r) (completed s m r).memory
  heard_keeps reader-status.Broken r b = settle_keeps (read_by s off) g m

  octet_keeps : (b : ℕ) (bad : Bool) → ReplySteady (heard s m b bad).state
  unfolding heard
  octet_keeps b bad =
      let r = reader_after s.incoming.reader b bad in
      by_test (λ (x : Stepped). ReplySteady x.state) (is_ignored (status s.incoming.reader)) (unchanged s m) (heard_as (status r) s m r b)
      (λ _. g) (λ _. heard_keeps (status r) r b)

  send_keeps : ReplySteady (send_left s m).state
  unfolding send_left
  send_keeps =
      let x = sent_by s.reply (sent s.reply.sender (asked_for s m)).sender in
      by_test (λ (y : Stepped). ReplySteady y.state) (left s.reply.sender) (settle (with_reply s x) m) (unchanged s m)
      (λ e. settle_keeps (with_reply s x) (λ w _. g w e) m) (λ _. g)

  tick_keeps : ReplySteady (elapsed s m).state
  unfolding elapsed carried
  tick_keeps =
      by_test (λ (x : Stepped). ReplySteady x.state) s.control.noted
      (settle (beginning s (silenced_reader (begun s) s.incoming.reader)) m) (carried s m (ticked (busy s) s.control) 0)
      (λ _. settle_keeps (beginning s (silenced_reader (begun s) s.incoming.reader)) (none_allowed s.control) m)
      (λ _. quiet_allows s.reply (ticked_quiet s.setup s.control (busy s) (idle_spared s)) g)

-- ---- every call

abbrev Keeps : Told → Type 0
Keeps t = ReplySteady t.state

pub step_keeps : {s : State} {m : List ℕ} {l : Ledger} → Related s m l → (c : Call) → ReplySteady (step s m c).state
unfolding paused take_outputs read_octet write_octet hand_over new_diagnosis diagnosed delaying judge_parameters judge_configuration acknowledge_events leave_master carried
step_keeps {s} {m} r (octet b bad) = octet_keeps s m r.reply_steady b bad
step_keeps {s} {m} r gap = settle_keeps (read_by s start) r.reply_steady m
step_keeps {s} {m} r send = send_keeps s m r.reply_steady
step_keeps {s} {m} r tick = tick_keeps s m r.reply_steady
step_keeps {s} {m} r take =
    by_test Keeps (not s.outputs.set.fresh) (told 0 s m)
    (told (cond s.outputs.zeros 2 1) (with_outputs s (record { set = taken s.outputs.set; zeros = s.outputs.zeros })) m)
    (λ _. r.reply_steady) (λ _. r.reply_steady)
step_keeps {s} {m} r (read kind index) =
    by_test Keeps (not (in_range s.setup kind index)) (refusing Range s m) _ (λ _. r.reply_steady)
    (λ _. by_test Keeps (absent s kind index) (refusing Absent s m) (told (get_or m (kind_at s kind + index) 0) s m) (λ _. r.reply_steady) (λ _. r.reply_steady))
step_keeps {s} {m} r (write kind index x) =
    by_test Keeps (not (writable kind && in_range s.setup kind index)) (refusing Range s m) _ (λ _. r.reply_steady)
    (λ _. by_test Keeps (absent s kind index) (refusing Absent s m) (told 0 s (set m (kind_at s kind + index) x)) (λ _. r.reply_steady) (λ _. r.reply_steady))
step_keeps r hand_over_call = r.reply_steady
step_keeps {s} {m} r (new_diagnosis_call count flags) =
    by_test Keeps (not (within 6 count s.setup.diagnosis_len && leb flags 7)) (refusing Range s m) _ (λ _. r.reply_steady)
    (λ _. by_test Keeps (delayed s.control) (refusing Delayed s m) _ (λ _. r.reply_steady)
    (λ _. by_test Keeps (diagnosis_leaves s) (told 0 (with_control s (delaying s.control count flags)) m) (told 0 (diagnosis_changed s (diagnosed s.control count flags)) m)
    (λ _. r.reply_steady) (λ _. r.reply_steady)))
step_keeps {s} {m} r (judge_parameters_call j) =
    by_test Keeps (not (is_open s.parameters)) (refusing Judging s m) _ (λ _. r.reply_steady)
    (λ e. by_test Keeps (not (leb j 1)) (refusing Range s m) _ (λ _. r.reply_steady)
    (λ _. quiet_allows s.reply (parameters_quiet s.setup s.control s.parameters.set.fresh (eqb j 1) (parameters_spared r (not-false _ e)))
    r.reply_steady))
step_keeps {s} {m} r (judge_configuration_call j) =
    by_test Keeps (not (is_open s.configuration && s.control.flags.parameters_good)) (refusing Judging s m) _ (λ _. r.reply_steady)
    (λ e. by_test Keeps (not (leb j 1)) (refusing Range s m) _ (λ _. r.reply_steady)
    (λ _. quiet_allows s.reply (configuration_quiet s.setup s.control s.configuration.set.fresh (eqb j 1) (configuration_spared r (not-false _ e)))
    r.reply_steady))
step_keeps r events = r.reply_steady
step_keeps r (acknowledge mask) = r.reply_steady
step_keeps r pending = r.reply_steady
step_keeps {s} r leave = quiet_allows s.reply (clear_quiet s.setup s.control (busy s) (idle_spared s)) r.reply_steady
