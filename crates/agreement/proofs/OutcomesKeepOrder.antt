-- What the control part and the sets keep by every outcome of the rules: where the held outputs may be drawn no set is open, an open parameter
-- set is not judged good, no set is longer than its buffers, and the diagnosis counts are in range.
use Prim.Native.Nat.{ℕ}
use native.Mathlib.Omega.{arith}
use mathlib.Core.Path.{◌≡◌, refl, sym, ap, ◌∙◌}
use mathlib.Core.Bool.{Bool, true, false}
use mathlib.Core.List.{List}
use lib.ListN.{length}
use Rattle.telegram.proofs.Run.{no_true}
use Rattle.state.specs.declared.setup.Setup.{Setup}
use Rattle.state.specs.declared.control.Control.{Control}
use Rattle.state.specs.Sound.{Within}
use Rattle.state.proofs.Choice.{by_test}
use Rattle.rules.specs.declared.request.Request.{Request}
use Rattle.rules.specs.declared.outcome.SetDeed.{SetDeed}
use Rattle.rules.specs.declared.outcome.SetDeed.TheVariants as set-deed
use Rattle.rules.specs.declared.outcome.Outcome.{Outcome}
use Rattle.rules.specs.Phases.{wait_prm}
use Rattle.rules.proofs.Alike.{Alike, may_draw_same}
use Rattle.rules.proofs.Headed.{To}
use Rattle.rules.proofs.Served.{Receives, Judges, Served}
use Rattle.ledger.specs.Lists.{some, Sets, no_sets}
use Rattle.ledger.specs.Outcome.{on_sets}
use Rattle.agreement.proofs.Steady.{SetsFit, InOrder}

-- what an outcome makes of the control part and the sets; ds is the data received
abbrev pub Orders : Setup → Sets → Sets → List ℕ → Outcome → Type 0
Orders g p q ds o = InOrder g o.control (on_sets o.parameters p ds) (on_sets o.configuration q ds)

pub none_fit : (n : ℕ) → SetsFit n no_sets
none_fit n = record { shown = omega arith; waiting = omega arith }

module _ {g : Setup} {p q : Sets} where
  -- another control part
  pub kept : {c d : Control} → Alike c d → InOrder g c p q → InOrder g d p q
  kept s h = record {
    parameters_closed = λ e. h.parameters_closed (sym (may_draw_same s) ∙ e);
    configuration_closed = λ e. h.configuration_closed (sym (may_draw_same s) ∙ e);
    unjudged = λ e. s.good_same ∙ h.unjudged e;
    parameters_fit = h.parameters_fit;
    configuration_fit = h.configuration_fit;
    count = rw s.diagnosis_same h.count;
    delayed_count = rw s.diagnosis_same h.delayed_count;
  }

  -- WAIT_PRM entered, all sets dropped
  pub entered : {c : Control} (d : Control) → d.diagnosis ≡ c.diagnosis → InOrder g c p q → InOrder g (wait_prm d) no_sets no_sets
  unfolding wait_prm
  entered d e h = record {
    parameters_closed = λ _. refl;
    configuration_closed = λ _. refl;
    unjudged = λ f. no_true f;
    parameters_fit = none_fit g.parameter_len;
    configuration_fit = none_fit g.configuration_len;
    count = rw e h.count;
    delayed_count = rw e h.delayed_count;
  }

-- ---- the services

-- a set that is received fits
sets_fit : (Given : Type 0) (low n : ℕ) (d : SetDeed) (x : Sets) (ds : List ℕ) → Receives (Given × Within low (length ds) n) d → SetsFit n x → SetsFit n (on_sets d x ds)
sets_fit Given low n set-deed.Keep x ds w f = f
sets_fit Given low n set-deed.Receive x ds w f =
    by_test (SetsFit n) (some x.shown) (record { shown = x.shown; waiting = ds }) (record { shown = ds; waiting = x.waiting })
    (λ _. record { shown = f.shown; waiting = w.1.1 }) (λ _. record { shown = w.1.1; waiting = f.waiting })
sets_fit Given low n set-deed.Advance x ds w f = record { shown = f.waiting; waiting = omega arith }
sets_fit Given low n set-deed.Drop x ds w f = none_fit n

-- and is not judged
stays_unjudged : (d : SetDeed) (x : Sets) (ds : List ℕ) {before after : Bool} → Judges d before after → (some x.shown ≡ true → before ≡ false)
    → some (on_sets d x ds).shown ≡ true → after ≡ false
stays_unjudged set-deed.Keep x ds w f e = w ∙ f e
stays_unjudged set-deed.Receive x ds w f e = w
stays_unjudged set-deed.Advance x ds w f e = absurd w
stays_unjudged set-deed.Drop x ds w f e = no_true e

-- what comes of a telegram
pub served_order : {g : Setup} {c : Control} {withheld : Bool} {p q : Sets} {r : Request} {o : Outcome} (ds : List ℕ) → r.count ≡ length ds → InOrder g c p q → Served g c withheld r o → Orders g p q ds o
served_order {g} {c} {withheld} {p} {q} {r} {o} ds counted h v = record {
  parameters_closed = λ e. let w = v.reads_before e in ap (λ (d : SetDeed). (on_sets d p ds).shown) w.1 ∙ h.parameters_closed w.0;
  configuration_closed = λ e. let w = v.reads_before e in ap (λ (d : SetDeed). (on_sets d q ds).shown) w.2 ∙ h.configuration_closed w.0;
  unjudged = stays_unjudged o.parameters p ds v.judges h.unjudged;
  parameters_fit = sets_fit (To r 61) 7 g.parameter_len o.parameters p ds (rw (sym counted) v.lawful.parameters_come) h.parameters_fit;
  configuration_fit = sets_fit (To r 62) 1 g.configuration_len o.configuration q ds (rw (sym counted) v.lawful.configuration_come) h.configuration_fit;
  count = rw v.lawful.counts_stay h.count;
  delayed_count = rw v.lawful.counts_stay h.delayed_count;
}
