-- Every call keeps a state sound: from every state whose roles, lengths and counts keep the rules, reached or not.
use Rattle.std.proofs.Common.{Option, Some, None}
use Prim.Native.Nat.{ℕ, ◌+◌, ◌%◌, ◌≤◌}
use native.Mathlib.Omega.{arith}
use mathlib.Core.Path.{◌≡◌, refl}
use mathlib.Core.Bool.{Bool, true, false, not, ◌&&◌}
use mathlib.Core.List.{List}
use mathlib.Core.Logic.{inl, inr, ⊎_elim}
use lib.Dec.{leb}
use borrow.Author.Tests.{leb-true, eqb-false, not-true, not-false}
use Rattle.buffers.specs.Roles as role
use Rattle.buffers.proofs.Triples.{handed_over_permutes}
use Rattle.buffers.proofs.Quads.{taken_permutes}
use Rattle.telegram.specs.declared.reader.Reader.{Reader}
use Rattle.telegram.specs.declared.reader.Status.{Status}
use Rattle.telegram.specs.declared.reader.Status.TheVariants.{Fresh, Inside, Complete, Broken}
use Rattle.telegram.specs.Reading.{start, off, reader_after, status, datum_of}
use Rattle.telegram.specs.Sending.{left, sent}
use Rattle.telegram.specs.Counts.{ReadCounts, SentCounts}
use Rattle.telegram.proofs.Counts.{start_counts, off_counts, after_counts, empty_counts, single_counts, sending_counts, sent_counts}
use Rattle.state.specs.declared.state.Drawn.{Drawn}
use Rattle.state.specs.declared.state.Drawn.TheVariants as drawn
use Rattle.state.specs.declared.state.Reply.{Reply}
use Rattle.state.specs.declared.state.State.{State}
use Rattle.state.specs.Sound.{Within, Sound}
use Rattle.state.specs.Well.{within}
use Rattle.state.specs.With.{with_reply}
use Rattle.state.proofs.Choice.{by_test, either, and_left, and_right}
use Rattle.rules.specs.Replies.{without_inputs, replies_e5}
use Rattle.state.proofs.Tests.{none_or_some, within_and}
use Rattle.rules.specs.declared.outcome.Outcome.{Outcome}
use Rattle.rules.specs.Requests.{master_of}
use Rattle.rules.specs.Diagnosis.{delayed, diagnosed, delaying, caught_up}
use Rattle.rules.specs.Kinds.{in_range, writable}
use Rattle.rules.specs.Call.{Call, octet, gap, send, tick, take, read, write, hand_over_call, new_diagnosis_call, judge_parameters_call, judge_configuration_call, events, acknowledge, pending, leave}
use Rattle.rules.proofs.Served.{Lawful, Quiet, clear_quiet, clear_noted_quiet, ticked_quiet, parameters_quiet, configuration_quiet}
use Rattle.steps.specs.Stepped.{Stepped, Told}
use Rattle.steps.specs.Line.{begun, busy, diagnosis_leaves}
use Rattle.steps.specs.Outcome.{is_open, carried, diagnosis_changed, after_reply, settle}
use Rattle.steps.specs.Replies.{sender_for, reply_for, asked_for}
use Rattle.steps.specs.Reading.{kept_octets, read_by, stored_as, request_by, outcome_of, answered, completed, beginning, is_ignored, heard_as, heard}
use Rattle.steps.specs.Bus.{paused, sent_by, send_left, silenced_reader, elapsed}
use Rattle.steps.specs.User.{absent, take_outputs, read_octet, write_octet, hand_over, new_diagnosis, judge_parameters, judge_configuration, acknowledge_events, leave_master}
use Rattle.steps.specs.Step.{step}
use Rattle.steps.specs.Demand1.{SoundKept}
use Rattle.steps.proofs.KeepsSafe.{outputs_permute, inputs_permute, sets_permute}
use Rattle.steps.proofs.OutcomeServed.{outcome_served}
use Rattle.steps.proofs.SetsCounted.{sets_counts}
use Rattle.steps.proofs.SoundWith.{sound_control, sound_outputs, sound_inputs, sound_incoming, sound_read_by, sound_reply, sound_beginning}

-- what a step or a call leaves is sound
abbrev SoundStep : Stepped → Type 0
SoundStep r = Sound r.state

abbrev SoundTold : Told → Type 0
SoundTold t = Sound t.state

-- ---- an outcome carried out

sound_carried : {Given Held Asked Clear : Type 0} {At : ℕ → Type 0} {o : Outcome} (s : State) (m : List ℕ) (count : ℕ) → Sound s
    → Lawful s.setup s.control count Given Held Asked Clear At o → SoundStep (carried s m o count)
unfolding carried
sound_carried {Given} {Held} {Asked} {Clear} {At} {o} s m count h w =
    record {
      setup = h.setup;
      outputs = outputs_permute o.outputs s.outputs h.outputs;
      inputs = inputs_permute o.inputs s.inputs h.inputs;
      parameters = sets_permute o.parameters s.parameters count h.parameters;
      configuration = sets_permute o.configuration s.configuration count h.configuration;
      parameter_counts = sets_counts 7 s.setup.parameter_len (omega arith) _ count (λ v. v.1) o.parameters s.parameters w.parameters_come h.parameter_counts;
      configuration_counts = sets_counts 1 s.setup.configuration_len (omega arith) _ count (λ v. v.1) o.configuration s.configuration w.configuration_come h.configuration_counts;
      diagnosis_counts = rw w.counts_stay h.diagnosis_counts;
      chain_master = ⊎_elim (λ e. rw e h.chain_master) (λ x. x.1.0) w.chain_comes;
      chain_code = ⊎_elim (λ e. rw e h.chain_code) (λ x. x.1.1) w.chain_comes;
      reading = h.reading;
      sending = h.sending;
      place = h.place;
    }

-- one without data
sound_quiet : {o : Outcome} (s : State) (m : List ℕ) → Sound s → Quiet s.setup s.control Unit o → SoundStep (carried s m o 0)
sound_quiet s m = sound_carried s m 0

-- ---- the line settled

pub sound_after_reply : (s : State) → Sound s → Sound (after_reply s)
unfolding after_reply diagnosed
sound_after_reply s h = by_test Sound (delayed s.control && not (diagnosis_leaves s)) (diagnosis_changed s (caught_up s.control)) s changed (λ _. h)
  where
    changed : delayed s.control && not (diagnosis_leaves s) ≡ true → Sound (diagnosis_changed s (caught_up s.control))
    changed e =
        sound_control s h (caught_up s.control) (not s.swapped)
        (record {
          count = none_or_some h.diagnosis_counts.delayed (eqb-false _ _ (not-true _ (and_left (delayed s.control) _ e)));
          delayed = inl refl;
          flags = omega arith;
        })
        refl

sound_settle : (s : State) (m : List ℕ) → Sound s → SoundStep (settle s m)
unfolding settle
sound_settle s m h =
    sound_quiet (after_reply s) m (sound_after_reply s h) (clear_noted_quiet (after_reply s).setup (after_reply s).control (busy s) (λ _. tt))

-- ---- a reply drawn

-- DSAP and SSAP beside n data octets
service_most : (n : ℕ) → n ≤ 244 → (n + 2) % 256 ≤ 246
service_most n h = omega arith

sender_counts : (d : Drawn) (s : State) (master : ℕ) → Sound s → SentCounts (sender_for d s master)
sender_counts drawn.Nothing s master h = empty_counts
sender_counts drawn.Acknowledge s master h = single_counts
sender_counts drawn.Status s master h = sending_counts _ _ _ _ _ (omega arith)
sender_counts drawn.Rejected s master h = sending_counts _ _ _ _ _ (omega arith)
sender_counts drawn.Exchange s master h =
    let l = h.setup.input_len in
    either SentCounts (replies_e5 s.setup s.control) single_counts
    (sending_counts _ _ _ _ _ (either (λ (n : ℕ). n ≤ 246) (without_inputs s.setup) (omega arith) (omega arith)))
sender_counts drawn.Inputs s master h = sending_counts _ _ _ _ _ (service_most _ h.setup.input_len)
sender_counts drawn.Outputs s master h = sending_counts _ _ _ _ _ (service_most _ h.setup.output_len)
sender_counts drawn.Configuration s master h = sending_counts _ _ _ _ _ (service_most _ h.setup.get_cfg_len.1)
sender_counts drawn.Diagnosis s master h =
    let l = h.diagnosis_counts.count.1 in
    let u = h.setup.diagnosis_len.1 in
    sending_counts _ _ _ _ _ (service_most _ (omega arith))

sound_reply_for : (s : State) (d : Drawn) (master : ℕ) → Sound s → Sound (with_reply s (reply_for d s master))
unfolding reply_for
sound_reply_for s d master h =
    let u = h.outputs.within role.held (omega arith) in
    sound_reply s h (reply_for d s master) (record { counts = sender_counts d s master h; place = omega arith })

-- ---- an octet heard

sound_stored : (d : Option ℕ) (s : State) (m : List ℕ) (r : Reader) (b : ℕ) → Sound s → ReadCounts r → SoundStep (stored_as d s m r b)
sound_stored None s m r b h a = sound_read_by s h r a
sound_stored (Some k) s m r b h a = sound_incoming s h (kept_octets s.incoming r k b) a

pub sound_completed : (s : State) (m : List ℕ) (r : Reader) → Sound s → ReadCounts r → SoundStep (completed s m r)
unfolding answered
sound_completed s m r h a =
    let x = read_by s r in
    let o = outcome_of x m (request_by r) in
    sound_reply_for (carried x m o r.count).state o.drawn (master_of (request_by r))
    (sound_carried x m r.count (sound_read_by s h r a) (outcome_served x m (request_by r)).lawful)

module _ (s : State) (m : List ℕ) (h : Sound s) where
  sound_heard_as : (x : Status) (r : Reader) (b : ℕ) → ReadCounts r → SoundStep (heard_as x s m r b)
  sound_heard_as Fresh r b a = h
  sound_heard_as Inside r b a =
      either SoundStep (begun s) (sound_stored (datum_of s.incoming.reader) s m r b h a)
      (sound_settle (beginning s r) m (sound_beginning s r h a))
  sound_heard_as Complete r b a = sound_settle (completed s m r).state (completed s m r).memory (sound_completed s m r h a)
  sound_heard_as Broken r b a = sound_settle (read_by s off) m (sound_read_by s h off off_counts)

  sound_heard : (b : ℕ) (bad : Bool) → SoundStep (heard s m b bad)
  unfolding heard
  sound_heard b bad =
      let r : Reader = reader_after s.incoming.reader b bad in
      either SoundStep (is_ignored (status s.incoming.reader)) h (sound_heard_as (status r) r b (after_counts s.incoming.reader b bad h.reading))

  -- ---- a gap, an octet sent and a Tick

  sound_paused : SoundStep (paused s m)
  unfolding paused
  sound_paused = sound_settle (read_by s start) m (sound_read_by s h start start_counts)

  sound_send_left : SoundStep (send_left s m)
  unfolding send_left
  sound_send_left =
      let r : Reply = sent_by s.reply (sent s.reply.sender (asked_for s m)).sender in
      either SoundStep (left s.reply.sender)
      (sound_settle (with_reply s r) m (sound_reply s h r (record { counts = sent_counts s.reply.sender (asked_for s m) h.sending; place = h.place })))
      h

  sound_elapsed : SoundStep (elapsed s m)
  unfolding elapsed
  sound_elapsed =
      let r : Reader = silenced_reader (begun s) s.incoming.reader in
      either SoundStep s.control.noted
      (sound_settle (beginning s r) m (sound_beginning s r h (either ReadCounts (begun s) off_counts h.reading)))
      (sound_quiet s m h (ticked_quiet s.setup s.control (busy s) (λ _. tt)))

  -- ---- the vat program's calls

  -- a new diagnosis, at once or delayed
  sound_new_diagnosis : (count flags : ℕ) → SoundTold (new_diagnosis s m count flags)
  unfolding new_diagnosis delaying diagnosed
  sound_new_diagnosis count flags =
      by_test SoundTold (not (within 6 count len && leb flags 7)) _ _ (λ _. h)
      (λ e. either SoundTold (delayed s.control) h
      (either SoundTold (diagnosis_leaves s)
      (sound_control s h (delaying s.control count flags) s.swapped (record { count = h.diagnosis_counts.count; delayed = inr (fits e); flags = bits e }) refl)
      (sound_control s h (diagnosed s.control count flags) (not s.swapped) (record { count = fits e; delayed = inl refl; flags = omega arith }) refl)))
    where
      len : ℕ
      len = s.setup.diagnosis_len

      fits : not (within 6 count len && leb flags 7) ≡ false → Within 6 count len
      fits e = within_and 6 count len (leb flags 7) (not-false _ e)

      bits : not (within 6 count len && leb flags 7) ≡ false → flags ≤ 7
      bits e = leb-true flags 7 (and_right (within 6 count len) (leb flags 7) (not-false _ e))

  sound_after : (c : Call) → SoundTold (step s m c)
  unfolding take_outputs read_octet write_octet hand_over judge_parameters judge_configuration acknowledge_events leave_master
  sound_after (octet b bad) = sound_heard b bad
  sound_after gap = sound_paused
  sound_after send = sound_send_left
  sound_after tick = sound_elapsed
  sound_after take = either SoundTold (not s.outputs.set.fresh) h (sound_outputs s h _ (taken_permutes s.outputs.set h.outputs))
  sound_after (read kind index) = either SoundTold (not (in_range s.setup kind index)) h (either SoundTold (absent s kind index) h h)
  sound_after (write kind index x) =
      either SoundTold (not (writable kind && in_range s.setup kind index)) h (either SoundTold (absent s kind index) h h)
  sound_after hand_over_call = sound_inputs s h _ (handed_over_permutes s.inputs h.inputs)
  sound_after (new_diagnosis_call count flags) = sound_new_diagnosis count flags
  sound_after (judge_parameters_call j) =
      either SoundTold (not (is_open s.parameters)) h
      (either SoundTold (not (leb j 1)) h (sound_quiet s m h (parameters_quiet s.setup s.control _ _ tt)))
  sound_after (judge_configuration_call j) =
      either SoundTold (not (is_open s.configuration && s.control.flags.parameters_good)) h
      (either SoundTold (not (leb j 1)) h (sound_quiet s m h (configuration_quiet s.setup s.control _ _ tt)))
  sound_after events = h
  sound_after (acknowledge mask) = sound_control s h _ s.swapped h.diagnosis_counts refl
  sound_after pending = h
  sound_after leave = sound_quiet s m h (clear_quiet s.setup s.control (busy s) (λ _. tt))

-- every call, from every sound state
pub step_sound : SoundKept
step_sound s m c h = sound_after s m h c
