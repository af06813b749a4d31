-- The calls of the vat program but read and write: told alike, and what is left agrees.
use Rattle.std.specs.Prelude.{Ok}
use Prim.Native.Nat.{ℕ}
use mathlib.Core.Path.{◌≡◌, refl, sym, ap, ◌∙◌}
use mathlib.Core.Bool.{Bool, true, cond, not, ◌&&◌}
use mathlib.Core.List.{List, []}
use lib.Dec.{eqb, leb}
use borrow.Author.Tests.{not-false}
use Rattle.buffers.specs.Events.{acknowledged, pending_of}
use Rattle.buffers.specs.Triple as triple
use Rattle.buffers.specs.Quad as quad
use Rattle.buffers.proofs.Triples.{handed_over_permutes}
use Rattle.buffers.proofs.Quads.{taken_permutes}
use Rattle.telegram.proofs.Run.{no_true}
use Rattle.state.specs.declared.answer.Refusal.{Refusal}
use Rattle.state.specs.declared.answer.Refusal.TheVariants.{Judging, Range, Delayed}
use Rattle.state.specs.declared.control.Control.{Control}
use Rattle.state.specs.declared.state.Sets as station-sets
use Rattle.state.specs.declared.state.State.{State}
use Rattle.state.specs.Layout.{parameters_at, configuration_at}
use Rattle.state.specs.Well.{within}
use Rattle.rules.specs.Control.{with_events}
use Rattle.rules.specs.Diagnosis.{delayed, diagnosed, delaying}
use Rattle.rules.specs.Line.{clear_on}
use Rattle.rules.specs.User.{judged_parameters, judged_configuration}
use Rattle.ledger.specs.Lists as lists
use Rattle.ledger.specs.Lists.{some}
use Rattle.ledger.specs.Ledger as ledger
use Rattle.ledger.specs.Ledger.{Ledger, with_buffers}
use Rattle.ledger.specs.Outcome as ledger-outcome
use Rattle.ledger.specs.User as ledger-user
use Rattle.ledger.specs.Calls as ledger-calls
use Rattle.rules.specs.Call.{take, hand_over_call, new_diagnosis_call, judge_parameters_call, judge_configuration_call, events, acknowledge, pending, leave}
use Rattle.state.specs.With.{with_control, with_outputs}
use Rattle.steps.specs.Line.{busy, diagnosis_leaves}
use Rattle.steps.specs.Outcome.{is_open, diagnosis_changed}
use Rattle.steps.specs.Stepped.{told, refusing}
use Rattle.steps.specs.User.{take_outputs, hand_over, new_diagnosis, judge_parameters, judge_configuration, acknowledge_events, leave_master}
use Rattle.steps.specs.Step.{step}
use Rattle.agreement.proofs.Relation.{SetsAgree, Agrees, Matches}
use Rattle.agreement.proofs.Steady.{Related}
use Rattle.agreement.proofs.SameLine.{busy_agrees, leaves_agrees, open_agrees}
use Rattle.rules.proofs.MayDrawOutputs.{may_draw_outputs}
use Rattle.rules.proofs.Served.{clear_quiet, parameters_quiet, configuration_quiet}
use Rattle.agreement.proofs.OutcomeCarried.{Spared, quiet_agrees}
use Rattle.agreement.proofs.OnePartChanges.{roles_changed, control_changed, diagnosis_changed_lem}
use Rattle.state.proofs.Choice.{both, and_left}
use Rattle.agreement.proofs.SettleAgrees.{idle_spared}

-- a refused call changes nothing
pub refuses : {s : State} {m : List ℕ} {l : Ledger} → Agrees s m l → (why : Refusal) → Matches (refusing why s m) (ledger-user.refusing why l)
refuses a why = record { answers = refl; agrees = a }

module _ {s : State} {m : List ℕ} {l : Ledger} (a : Agrees s m l) where
  pub leave_matches : Matches (step s m leave) (ledger-calls.step l leave)
  unfolding leave_master ledger-user.leave_master
  leave_matches = record {
    answers = refl;
    agrees =
        quiet_agrees a (clear_quiet s.setup s.control (busy s) (idle_spared s)) (clear_on (ledger.busy l) l.control)
        (λ i. clear_on (busy_agrees a i) (a.control i));
  }

  pub events_matches : Matches (step s m events) (ledger-calls.step l events)
  events_matches = record { answers = ap (λ (c : Control). Ok c.events.word) a.control; agrees = a }

  pub pending_matches : Matches (step s m pending) (ledger-calls.step l pending)
  pending_matches = record { answers = ap (λ (c : Control). Ok (pending_of c.events)) a.control; agrees = a }

  pub acknowledge_matches : (mask : ℕ) → Matches (step s m (acknowledge mask)) (ledger-calls.step l (acknowledge mask))
  unfolding acknowledge_events ledger-user.acknowledge_events
  acknowledge_matches mask = record {
    answers = refl;
    agrees =
        control_changed a (with_events s.control (acknowledged s.control.events mask)) (with_events l.control (acknowledged l.control.events mask))
        (ap (λ (c : Control). with_events c (acknowledged c.events mask)) a.control);
  }

  -- ---- take and hand over: roles change, and no octet

  pub take_matches : Matches (step s m take) (ledger-calls.step l take)
  unfolding take_outputs ledger-user.take_outputs
  take_matches =
      both Matches (not s.outputs.set.fresh) (not l.buffers.outputs.fresh)
      (told 0 s m)
      (told (cond s.outputs.zeros 2 1) (with_outputs s (record { set = quad.taken s.outputs.set; zeros = s.outputs.zeros })) m)
      (ledger-user.told 0 l)
      (ledger-user.told (cond l.buffers.outputs.zeros 2 1) (with_buffers l (lists.with_outputs l.buffers (lists.taken_outputs l.buffers.outputs))))
      (ap not a.outputs.fresh)
      (λ _. record { answers = refl; agrees = a })
      (λ _. record {
        answers = ap (λ (z : Bool). Ok (cond z 2 1)) a.outputs.zeros;
        agrees =
            roles_changed a (record { set = quad.taken s.outputs.set; zeros = s.outputs.zeros }) s.inputs (lists.taken_outputs l.buffers.outputs) l.buffers.inputs refl refl
            (taken_permutes s.outputs.set a.safe.outputs) a.safe.inputs
            (record {
              held = a.outputs.next;
              next = a.outputs.held;
              back = a.outputs.back;
              fresh = refl;
              zeros = a.outputs.zeros;
              withheld = a.outputs.withheld;
            }) a.inputs;
      })

  pub hand_over_matches : Matches (step s m hand_over_call) (ledger-calls.step l hand_over_call)
  unfolding hand_over ledger-user.hand_over
  hand_over_matches = record {
    answers = refl;
    agrees =
        roles_changed a s.outputs (triple.handed_over s.inputs) l.buffers.outputs (lists.handed_over l.buffers.inputs) refl refl
        a.safe.outputs (handed_over_permutes s.inputs a.safe.inputs) a.outputs
        (record { sending = a.inputs.sending; next = a.inputs.held; held = a.inputs.next; fresh = refl });
  }

  -- ---- new diagnosis

  pub new_diagnosis_matches : (count flags : ℕ) → Matches (step s m (new_diagnosis_call count flags)) (ledger-calls.step l (new_diagnosis_call count flags))
  unfolding new_diagnosis ledger-user.new_diagnosis
  new_diagnosis_matches count flags =
      both Matches (not (within 6 count s.setup.diagnosis_len && leb flags 7)) (not (within 6 count l.setup.diagnosis_len && leb flags 7))
      (refusing Range s m) _ (ledger-user.refusing Range l) _
      (λ i. not (within 6 count (a.setup i).diagnosis_len && leb flags 7))
      (λ _. refuses a Range)
      (λ _. both Matches (delayed s.control) (delayed l.control) (refusing Delayed s m) _ (ledger-user.refusing Delayed l) _
      (ap delayed a.control)
      (λ _. refuses a Delayed)
      (λ _. both Matches (diagnosis_leaves s) (ledger.diagnosis_leaves l)
      (told 0 (with_control s (delaying s.control count flags)) m) (told 0 (diagnosis_changed s (diagnosed s.control count flags)) m)
      (ledger-user.told 0 (ledger.with_control l (delaying l.control count flags))) (ledger-user.told 0 (ledger-outcome.diagnosis_changed l (diagnosed l.control count flags)))
      (leaves_agrees a)
      (λ _. record {
        answers = refl;
        agrees = control_changed a (delaying s.control count flags) (delaying l.control count flags) (ap (λ (c : Control). delaying c count flags) a.control);
      })
      (λ e. record {
        answers = refl;
        agrees = diagnosis_changed_lem a (diagnosed s.control count flags) (diagnosed l.control count flags) (ap (λ (c : Control). diagnosed c count flags) a.control) e;
      })))

-- ---- judging

module _ {s : State} {m : List ℕ} {l : Ledger} (r : Related s m l) where
  -- a set is open only where the held outputs may not be drawn, so that no reply of them is unfinished
  open_spared : (x : station-sets.Sets) (y : lists.Sets) (base : ℕ → ℕ) → SetsAgree base m x y → (may_draw_outputs l.control ≡ true → y.shown ≡ [])
      → is_open x ≡ true → Spared s.reply
  open_spared x y base h closed e w k =
      no_true (sym (ap some (closed (sym (ap may_draw_outputs r.agrees.control) ∙ r.reply_steady w k))) ∙ sym (open_agrees h) ∙ e)

  pub parameters_spared : is_open s.parameters ≡ true → Spared s.reply
  parameters_spared =
      open_spared s.parameters l.buffers.parameters (parameters_at s.setup) r.agrees.parameters r.steady.order.parameters_closed

  pub configuration_spared : is_open s.configuration && s.control.flags.parameters_good ≡ true → Spared s.reply
  configuration_spared e =
      open_spared s.configuration l.buffers.configuration (configuration_at s.setup) r.agrees.configuration r.steady.order.configuration_closed
      (and_left (is_open s.configuration) s.control.flags.parameters_good e)

  pub judge_parameters_matches : (j : ℕ) → Matches (step s m (judge_parameters_call j)) (ledger-calls.step l (judge_parameters_call j))
  unfolding judge_parameters ledger-user.judge_parameters
  judge_parameters_matches j =
      let a = r.agrees in
      let fresh = a.parameters.fresh in
      both Matches (not (is_open s.parameters)) (not (ledger.parameters_open l)) (refusing Judging s m) _ (ledger-user.refusing Judging l) _
      (ap not (open_agrees a.parameters))
      (λ _. refuses a Judging)
      (λ e. both Matches (not (leb j 1)) (not (leb j 1)) (refusing Range s m) _ (ledger-user.refusing Range l) _ refl
      (λ _. refuses a Range)
      (λ _. record {
        answers = ap (λ (t : Bool). Ok (cond t 1 0)) fresh;
        agrees =
            quiet_agrees a
            (parameters_quiet s.setup s.control s.parameters.set.fresh (eqb j 1) (parameters_spared (not-false _ e)))
            (judged_parameters l.control (some l.buffers.parameters.waiting) (eqb j 1)) (λ i. judged_parameters (a.control i) (fresh i) (eqb j 1));
      }))

  pub judge_configuration_matches : (j : ℕ) → Matches (step s m (judge_configuration_call j)) (ledger-calls.step l (judge_configuration_call j))
  unfolding judge_configuration ledger-user.judge_configuration
  judge_configuration_matches j =
      let a = r.agrees in
      let fresh = a.configuration.fresh in
      both Matches (not (is_open s.configuration && s.control.flags.parameters_good)) (not (ledger.configuration_open l && l.control.flags.parameters_good))
      (refusing Judging s m) _ (ledger-user.refusing Judging l) _
      (λ i. not (open_agrees a.configuration i && (a.control i).flags.parameters_good))
      (λ _. refuses a Judging)
      (λ e. both Matches (not (leb j 1)) (not (leb j 1)) (refusing Range s m) _ (ledger-user.refusing Range l) _ refl
      (λ _. refuses a Range)
      (λ _. record {
        answers = ap (λ (t : Bool). Ok (cond t 1 0)) fresh;
        agrees =
            quiet_agrees a
            (configuration_quiet s.setup s.control s.configuration.set.fresh (eqb j 1) (configuration_spared (not-false _ e)))
            (judged_configuration l.control (some l.buffers.configuration.waiting) (eqb j 1)) (λ i. judged_configuration (a.control i) (fresh i) (eqb j 1));
      }))
