-- Every call: station and ledger tell alike and stay related.
use Rattle.std.specs.Prelude.{Ok}
use Prim.Native.Nat.{ℕ}
use mathlib.Core.Path.{refl, ap}
use mathlib.Core.List.{List}
use Rattle.state.specs.declared.state.State.{State}
use Rattle.rules.specs.Call.{Call, octet, gap, send, tick, take, read, write, hand_over_call, new_diagnosis_call, judge_parameters_call, judge_configuration_call, events, acknowledge, pending, leave}
use Rattle.ledger.specs.Ledger.{Ledger}
use Rattle.ledger.specs.Calls as ledger
use Rattle.steps.specs.Step.{step}
use Rattle.agreement.proofs.Relation.{Matches}
use Rattle.agreement.proofs.Steady.{Related}
use Rattle.state.specs.Sound.{Ranged}
use Rattle.agreement.proofs.CallsKeepSteady.{step_steady}
use Rattle.agreement.proofs.CallsKeepReply.{step_keeps}
use Rattle.agreement.proofs.GapAndTickAgree.{gap_matches, tick_matches}
use Rattle.agreement.proofs.UserCallsAgree.{take_matches, hand_over_matches, new_diagnosis_matches, judge_parameters_matches, judge_configuration_matches, events_matches, acknowledge_matches, pending_matches, leave_matches}
use Rattle.agreement.proofs.ReadWriteAgrees.{read_matches, write_matches}
use Rattle.agreement.proofs.OctetAgrees.{heard_agrees}
use Rattle.agreement.proofs.SendAgrees.{send_told_lem, send_agrees}

pub record Follows (s : State) (m : List ℕ) (l : Ledger) (c : Call) : Type 0 where
  pub matches : Matches (step s m c) (ledger.step l c)
  pub again : Related (step s m c).state (step s m c).memory (ledger.step l c).ledger

module _ {s : State} {m : List ℕ} {l : Ledger} (r : Related s m l) (w : Ranged l.setup) where
  -- told alike
  step_matches : (c : Call) → Matches (step s m c) (ledger.step l c)
  step_matches (octet b bad) = record { answers = refl; agrees = heard_agrees s m l b r.steady w r.agrees bad }
  step_matches gap = gap_matches r.agrees
  step_matches send = record { answers = ap Ok (send_told_lem s m l r.steady r.agrees); agrees = send_agrees s m l r.steady r.agrees }
  step_matches tick = tick_matches r.agrees
  step_matches take = take_matches r.agrees
  step_matches (read kind index) = read_matches r.agrees kind index
  step_matches (write kind index x) = write_matches r kind index x
  step_matches hand_over_call = hand_over_matches r.agrees
  step_matches (new_diagnosis_call count flags) = new_diagnosis_matches r.agrees count flags
  step_matches (judge_parameters_call j) = judge_parameters_matches r j
  step_matches (judge_configuration_call j) = judge_configuration_matches r j
  step_matches events = events_matches r.agrees
  step_matches (acknowledge mask) = acknowledge_matches r.agrees mask
  step_matches pending = pending_matches r.agrees
  step_matches leave = leave_matches r.agrees

  -- and related again
  pub all_follow : (c : Call) → Follows s m l c
  all_follow c =
      let h = step_matches c in
      record { matches = h; again = record { agrees = h.agrees; steady = step_steady l c r.steady; reply_steady = step_keeps r c } }
