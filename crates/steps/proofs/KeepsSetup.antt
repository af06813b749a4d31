-- No call changes the memory's length, the setup that Start gave, or what lies beside the buffers; so the channels stay as they are.
use Rattle.std.proofs.Common.{Option, Some, None}
use Prim.Native.Nat.{ℕ, ◌+◌, ◌≤◌, ◌<◌}
use native.Mathlib.Omega.{arith}
use mathlib.Core.Path.{◌≡◌, refl, sym, subst, ◌∙◌}
use mathlib.Core.Logic.{◌⊎◌, inl, inr}
use mathlib.Core.Bool.{Bool, true, not, ◌&&◌}
use mathlib.Core.List.{List}
use lib.Dec.{leb}
use lib.ListN.{length, set, length-set}
use Rattle.octets.proofs.Parts.{part_set_outside}
use borrow.Author.Tests.{not-false}
use Rattle.state.proofs.Choice.{by_test, either, and_right}
use Rattle.telegram.specs.declared.reader.Reader.{Reader}
use Rattle.telegram.specs.declared.reader.Status.{Status}
use Rattle.telegram.specs.declared.reader.Status.TheVariants.{Fresh, Inside, Complete, Broken}
use Rattle.telegram.specs.Reading.{start, off, reader_after, status, datum_of}
use Rattle.telegram.specs.Sending.{left, sent}
use Rattle.state.specs.declared.setup.Setup.{Setup}
use Rattle.state.specs.declared.state.State.{State}
use Rattle.state.specs.Memory.{Channelled}
use Rattle.state.specs.Well.{within}
use Rattle.state.proofs.Channelled.{channelled_same}
use Rattle.rules.specs.declared.outcome.Outcome.{Outcome}
use Rattle.rules.specs.Diagnosis.{delayed}
use Rattle.rules.specs.Line.{clear_noted, ticked}
use Rattle.rules.specs.Kinds.{in_range, writable}
use Rattle.rules.specs.Call.{Call, octet, gap, send, tick, take, read, write, hand_over_call, new_diagnosis_call, judge_parameters_call, judge_configuration_call, events, acknowledge, pending, leave}
use Rattle.state.specs.With.{with_reply}
use Rattle.steps.specs.Safe.{Safe}
use Rattle.steps.specs.Stepped.{Stepped, Told}
use Rattle.steps.specs.Line.{begun, busy, diagnosis_leaves}
use Rattle.steps.specs.Outcome.{is_open, carried, after_reply, settle}
use Rattle.state.specs.Start.{no_reply}
use Rattle.steps.specs.Replies.{asked_for}
use Rattle.steps.specs.Reading.{stored_as, read_by, request_by, outcome_of, answered, completed, beginning, is_ignored, heard_as, heard}
use Rattle.steps.specs.Bus.{paused, sent_by, send_left, silenced_reader, elapsed}
use Rattle.steps.specs.User.{absent, kind_at, take_outputs, read_octet, write_octet, hand_over, new_diagnosis, judge_parameters, judge_configuration, acknowledge_events, leave_master}
use Rattle.steps.specs.Step.{step}
use Rattle.steps.proofs.KindsInside.{kind_inside}
use Rattle.steps.proofs.KeepsSafe.{Beside, BesideStays, beside_rows, on_memory_length, on_memory_beside, stored_data_length, stored_data_beside, safe_after_reply, safe_read_by, safe_reply, safe_no_reply, safe_completed, safe_beginning}

-- from s and m to t and n
pub record Keeps (s : State) (m : List ℕ) (t : State) (n : List ℕ) : Type 0 where
  pub length_is : length n ≡ length m
  pub setup_is : t.setup ≡ s.setup
  pub beside_is : BesideStays s m n

abbrev KeepsStep : State → List ℕ → Stepped → Type 0
KeepsStep s m r = Keeps s m r.state r.memory

abbrev KeepsTold : State → List ℕ → Told → Type 0
KeepsTold s m t = Keeps s m t.state t.memory

same : {s t : State} {m : List ℕ} → t.setup ≡ s.setup → Keeps s m t m
same e = record { length_is = refl; setup_is = e; beside_is = λ a k b. refl }

-- so the channels keep their rules
pub channels_stay : {s t : State} {m n : List ℕ} → Keeps s m t n → Channelled m s.setup → Channelled n t.setup
channels_stay {s} {t} {m} {n} k c =
    subst (Channelled n) (sym k.setup_is) (channelled_same m n k.length_is (beside_rows s m n k.beside_is) c)

-- one after the other
on : {s t u : State} {m n o : List ℕ} → Keeps s m t n → Keeps t n u o → Keeps s m u o
on h g = record {
  length_is = g.length_is ∙ h.length_is;
  setup_is = g.setup_is ∙ h.setup_is;
  beside_is = λ a k b. g.beside_is a k (subst (λ (z : Setup). Beside z a k) (sym h.setup_is) b) ∙ h.beside_is a k b;
}

-- a write of any kind goes into a buffer
kind_beside : (s : State) (m : List ℕ) → Safe s m → (kind index x : ℕ) → in_range s.setup kind index ≡ true
    → BesideStays s m (set m (kind_at s kind + index) x)
kind_beside s m h kind index x e a k b = part_set_outside m a k (kind_at s kind + index) x (go b)
  where
    go : Beside s.setup a k → (kind_at s kind + index < a) ⊎ (a + k ≤ kind_at s kind + index)
    go (inl f) = let u = kind_inside s m kind index h e in inr (omega arith)
    go (inr f) = let u = kind_inside s m kind index h e in inl (omega arith)

carried_keeps : (s : State) (m : List ℕ) → Safe s m → (o : Outcome) (count : ℕ) → KeepsStep s m (carried s m o count)
unfolding carried
carried_keeps s m h o count = record { length_is = on_memory_length o.outputs s m h; setup_is = refl; beside_is = on_memory_beside o.outputs s m h }

after_reply_setup : (s : State) → (after_reply s).setup ≡ s.setup
unfolding after_reply
after_reply_setup s = either (λ (x : State). x.setup ≡ s.setup) (delayed s.control && not (diagnosis_leaves s)) refl refl

settle_keeps : (s : State) (m : List ℕ) → Safe s m → KeepsStep s m (settle s m)
unfolding settle
settle_keeps s m h =
    on (same (after_reply_setup s)) (carried_keeps (after_reply s) m (safe_after_reply s m h) (clear_noted (busy s) (after_reply s).control) 0)

module _ (s : State) (m : List ℕ) (h : Safe s m) where
  stored_keeps : (d : Option ℕ) (r : Reader) (b : ℕ) → KeepsStep s m (stored_as d s m r b)
  stored_keeps None r b = same refl
  stored_keeps (Some k) r b = record { length_is = stored_data_length s m k b; setup_is = refl; beside_is = stored_data_beside s m k b h }

  completed_keeps : (r : Reader) → KeepsStep s m (completed s m r)
  unfolding answered
  completed_keeps r =
      on (same refl) (on (carried_keeps (read_by s r) m (safe_read_by s m r h) (outcome_of (read_by s r) m (request_by r)) r.count) (same refl))

  heard_as_keeps : (x : Status) (r : Reader) (b : ℕ) → KeepsStep s m (heard_as x s m r b)
  heard_as_keeps Fresh r b = same refl
  heard_as_keeps Inside r b =
      either (KeepsStep s m) (begun s) (stored_keeps (datum_of s.incoming.reader) r b)
      (on (same refl) (settle_keeps (beginning s r) m (safe_beginning s m r h)))
  heard_as_keeps Complete r b =
      on (completed_keeps r) (settle_keeps (completed s m r).state (completed s m r).memory (safe_completed s m r h))
  heard_as_keeps Broken r b = on (same refl) (settle_keeps (read_by s off) m (safe_read_by s m off h))

  heard_keeps : (b : ℕ) (bad : Bool) → KeepsStep s m (heard s m b bad)
  unfolding heard
  heard_keeps b bad =
      either (KeepsStep s m) (is_ignored (status s.incoming.reader)) (same refl)
      (heard_as_keeps (status (reader_after s.incoming.reader b bad)) (reader_after s.incoming.reader b bad) b)

  send_keeps : KeepsStep s m (send_left s m)
  unfolding send_left
  send_keeps =
      let r = sent_by s.reply (sent s.reply.sender (asked_for s m)).sender in
      either (KeepsStep s m) (left s.reply.sender) (on (same refl) (settle_keeps (with_reply s r) m (safe_reply s m r h.reply h))) (same refl)

  tick_keeps : KeepsStep s m (elapsed s m)
  unfolding elapsed
  tick_keeps =
      let r = silenced_reader (begun s) s.incoming.reader in
      either (KeepsStep s m) s.control.noted
      (on (same refl) (settle_keeps (with_reply (read_by s r) no_reply) m (safe_no_reply (read_by s r) m (safe_read_by s m r h))))
      (carried_keeps s m h (ticked (busy s) s.control) 0)

  pub step_keeps : (c : Call) → KeepsTold s m (step s m c)
  unfolding paused take_outputs read_octet write_octet hand_over new_diagnosis judge_parameters judge_configuration acknowledge_events leave_master
  step_keeps (octet b bad) = heard_keeps b bad
  step_keeps gap = on (same refl) (settle_keeps (read_by s start) m (safe_read_by s m start h))
  step_keeps send = send_keeps
  step_keeps tick = tick_keeps
  step_keeps take = either (KeepsTold s m) (not s.outputs.set.fresh) (same refl) (same refl)
  step_keeps (read kind index) =
      either (KeepsTold s m) (not (in_range s.setup kind index)) (same refl)
      (either (KeepsTold s m) (absent s kind index) (same refl) (same refl))
  step_keeps (write kind index x) =
      by_test (KeepsTold s m) (not (writable kind && in_range s.setup kind index)) _ _ (λ _. same refl)
      (λ e. either (KeepsTold s m) (absent s kind index) (same refl)
      (record {
        length_is = length-set m _ x;
        setup_is = refl;
        beside_is = kind_beside s m h kind index x (and_right (writable kind) (in_range s.setup kind index) (not-false _ e));
      }))
  step_keeps hand_over_call = same refl
  step_keeps (new_diagnosis_call count flags) =
      either (KeepsTold s m) (not (within 6 count s.setup.diagnosis_len && leb flags 7)) (same refl)
      (either (KeepsTold s m) (delayed s.control) (same refl) (either (KeepsTold s m) (diagnosis_leaves s) (same refl) (same refl)))
  step_keeps (judge_parameters_call j) =
      either (KeepsTold s m) (not (is_open s.parameters)) (same refl)
      (either (KeepsTold s m) (not (leb j 1)) (same refl) (carried_keeps s m h _ 0))
  step_keeps (judge_configuration_call j) =
      either (KeepsTold s m) (not (is_open s.configuration && s.control.flags.parameters_good)) (same refl)
      (either (KeepsTold s m) (not (leb j 1)) (same refl) (carried_keeps s m h _ 0))
  step_keeps events = same refl
  step_keeps (acknowledge mask) = same refl
  step_keeps pending = same refl
  step_keeps leave = carried_keeps s m h _ 0
