-- What every outcome keeps of sync and freeze: a mode is on in DATA_EXCH alone and where Set_Prm allowed it, and something is held back in
-- sync alone.
use mathlib.Core.Path.{◌≡◌, refl, sym, ◌∙◌}
use mathlib.Core.Bool.{Bool, true, false, ◌&&◌, ◌||◌}
use Rattle.telegram.proofs.Run.{no_true}
use Rattle.state.specs.declared.setup.Setup.{Setup}
use Rattle.state.specs.declared.control.Modes.{Modes}
use Rattle.state.specs.declared.control.Control.{Control}
use Rattle.state.specs.declared.state.Drawn.{Drawn}
use Rattle.state.specs.declared.state.Drawn.TheVariants.{Nothing}
use Rattle.state.proofs.Choice.{both, by_test, either}
use Rattle.rules.specs.declared.request.Request.{Request}
use Rattle.rules.specs.declared.request.Data.{Data}
use Rattle.rules.specs.declared.request.Occupied.{Occupied}
use Rattle.rules.specs.declared.outcome.OutputsDeed.{OutputsDeed}
use Rattle.rules.specs.declared.outcome.OutputsDeed.TheVariants.{Keep, Publish, HoldBack, Release, Zeros}
use Rattle.rules.specs.declared.outcome.Outcome.{Outcome}
use Rattle.rules.specs.Control.{bit, in_exchange}
use Rattle.rules.specs.Modes.{switched, commands_sync}
use Rattle.rules.specs.Phases.{left, wait_prm, entering_wait_prm, wait_cfg, data_exch, zeros_if_left}
use Rattle.rules.specs.Requests.{refilled, service_of}
use Rattle.rules.specs.Services.{parametrized, serve, outcome_by}
use Rattle.rules.specs.Line.{clear_on, clear_noted, ticked}
use Rattle.rules.specs.User.{judged_parameters, judged_configuration}
use Rattle.rules.proofs.Headed.{headed}
use Rattle.rules.proofs.Alike.{Alike, exchange_same}
use Rattle.rules.proofs.ByCases.{Akin, Moved, exchanged, commanded, clear_cases, noted_cases, ticked_cases, parameters_cases, configuration_cases, serve_cases, refilled_akin, telegram_cases}

-- what holds of the modes. inside: in DATA_EXCH, withheld: something is held back
pub record Kept (inside : Bool) (m : Modes) (withheld : Bool) : Type 0 where
  pub sync_ends : inside ≡ false → m.sync ≡ false
  pub freeze_ends : inside ≡ false → m.freeze ≡ false
  pub held_back_in_sync : withheld ≡ true → m.sync ≡ true
  pub sync_allowed : m.sync ≡ true → m.sync_allowed ≡ true
  pub freeze_allowed : m.freeze ≡ true → m.freeze_allowed ≡ true

-- something is held back afterwards
abbrev pub withheld_by : OutputsDeed → Bool → Bool
withheld_by Keep withheld = withheld
withheld_by Publish withheld = withheld
withheld_by HoldBack withheld = true
withheld_by Release withheld = false
withheld_by Zeros withheld = false

-- it holds after an outcome
abbrev pub KeptBy : Bool → Outcome → Type 0
KeptBy withheld o = Kept (in_exchange o.control) o.control.modes (withheld_by o.outputs withheld)

-- with both modes off
off : {inside withheld : Bool} {m : Modes} → m.sync ≡ false → m.freeze ≡ false → (withheld ≡ true → m.sync ≡ true) → Kept inside m withheld
off e f g = record {
  sync_ends = λ _. e;
  freeze_ends = λ _. f;
  held_back_in_sync = g;
  sync_allowed = λ x. no_true (sym e ∙ x);
  freeze_allowed = λ x. no_true (sym f ∙ x);
}

-- ---- a Data_Exchange and a Global_Control

-- a mode comes on only where it is allowed
switched_allowed : (allowed on ending beginning : Bool) → (on ≡ true → allowed ≡ true) → switched allowed on ending beginning ≡ true → allowed ≡ true
switched_allowed true on ending beginning f e = refl
switched_allowed false on ending beginning f e = f e

-- one that is on stays unless it is commanded
switched_stays : (allowed on ending beginning withheld : Bool) → allowed && (beginning || ending) && withheld ≡ false → withheld ≡ true → on ≡ true
    → switched allowed on ending beginning ≡ true
switched_stays false on ending beginning withheld e f g = g
switched_stays true on false false withheld e f g = g
switched_stays true on false true withheld e f g = refl
switched_stays true on true false withheld e f g = no_true (sym e ∙ f)
switched_stays true on true true withheld e f g = no_true (sym e ∙ f)

-- what they do to the modes and the outputs in DATA_EXCH
moved_kept : {b m : Modes} {withheld : Bool} {u : OutputsDeed} → Moved b withheld m u → Kept true b withheld → Kept true m (withheld_by u withheld)
moved_kept {b} {m} {withheld} exchanged h = record {
  sync_ends = λ e. no_true (sym e);
  freeze_ends = λ e. no_true (sym e);
  held_back_in_sync =
      by_test (λ (u : OutputsDeed). withheld_by u withheld ≡ true → b.sync ≡ true) b.sync HoldBack Publish (λ e _. e) (λ _. h.held_back_in_sync);
  sync_allowed = h.sync_allowed;
  freeze_allowed = h.freeze_allowed;
}
moved_kept {b} {m} {withheld} (commanded first) h = record {
  sync_ends = λ e. no_true (sym e);
  freeze_ends = λ e. no_true (sym e);
  held_back_in_sync =
      either Here (bit first 1) (λ e. no_true e)
      (by_test Here (commands_sync b first && withheld) Release Keep (λ _ e. no_true e)
      (λ e f. switched_stays b.sync_allowed b.sync (bit first 4) (bit first 5) withheld e f (h.held_back_in_sync f)));
  sync_allowed = switched_allowed b.sync_allowed b.sync (bit first 4) (bit first 5) h.sync_allowed;
  freeze_allowed = switched_allowed b.freeze_allowed b.freeze (bit first 2) (bit first 3) h.freeze_allowed;
}
  where
    Here : OutputsDeed → Type 0
    Here u = withheld_by u withheld ≡ true → switched b.sync_allowed b.sync (bit first 4) (bit first 5) ≡ true

-- ---- every outcome

-- WAIT_PRM
resets : (withheld : Bool) (k : Control) (d : Drawn) → KeptBy withheld (entering_wait_prm k d)
unfolding wait_prm
resets withheld k d = off refl refl (λ e. no_true e)

-- in the same phase with the same modes
like : {c k : Control} {withheld : Bool} → Alike c k → k.modes ≡ c.modes → Kept (in_exchange c) c.modes withheld → Kept (in_exchange k) k.modes withheld
like s e h = rw (exchange_same s) (rw e h)

module _ (c : Control) {withheld : Bool} (h : Kept (in_exchange c) c.modes withheld) where
  -- nothing but a reply
  stays : (k : Control) → Akin c k → Kept (in_exchange k) k.modes withheld
  stays k s = like s.alike_is s.modes_same h

  -- leave master
  pub clear_kept : (busy : Bool) → KeptBy withheld (clear_on busy c)
  clear_kept busy = clear_cases (KeptBy withheld) c (λ k d s _. stays k s) busy (λ _ k _ _. resets withheld k Nothing)

  -- a noted clear
  pub noted_kept : (busy : Bool) → KeptBy withheld (clear_noted busy c)
  noted_kept busy = noted_cases (KeptBy withheld) c (λ k d s _. stays k s) busy (λ _ k _ _. resets withheld k Nothing)

  -- a Tick
  pub ticked_kept : (busy : Bool) → KeptBy withheld (ticked busy c)
  ticked_kept busy = ticked_cases (KeptBy withheld) c (λ k d s _. stays k s) busy (λ _ k _ _. resets withheld k Nothing)

  -- the judgement of parameters
  pub parameters_kept : (waits good : Bool) → KeptBy withheld (judged_parameters c waits good)
  parameters_kept waits good =
      parameters_cases (KeptBy withheld) c (λ k d s _. stays k s) (λ k d _ _ _. resets withheld k d) waits good (λ _. h) (λ _. h)

  -- and of configuration: DATA_EXCH entered
  pub configuration_kept : (waits good : Bool) → KeptBy withheld (judged_configuration c waits good)
  unfolding data_exch
  configuration_kept waits good =
      configuration_cases (KeptBy withheld) c (λ k d s _. stays k s) (λ k d _ _ _. resets withheld k d) waits good (λ _. h)
      (record {
        sync_ends = λ e. no_true (sym e);
        freeze_ends = λ e. no_true (sym e);
        held_back_in_sync = h.held_back_in_sync;
        sync_allowed = h.sync_allowed;
        freeze_allowed = h.freeze_allowed;
      })

  -- WAIT_CFG entered: both modes are off, ended now or before
  wait_cfg_off : ((wait_cfg c).modes.sync ≡ false) × ((wait_cfg c).modes.freeze ≡ false)
      × (withheld_by (zeros_if_left c) withheld ≡ true → (wait_cfg c).modes.sync ≡ true)
  unfolding wait_cfg
  wait_cfg_off =
      both (λ (k : Control) (u : OutputsDeed). (k.modes.sync ≡ false) × (k.modes.freeze ≡ false) × (withheld_by u withheld ≡ true → k.modes.sync ≡ true))
      (in_exchange c) (in_exchange c) (left c) c Zeros Keep refl (λ _. (refl, refl, λ e. no_true e))
      (λ e. (h.sync_ends e, h.freeze_ends e, h.held_back_in_sync))

-- each service
serve_kept : (g : Setup) (c : Control) (b : Occupied) (r : Request) (octets : Data) → Kept (in_exchange c) c.modes b.outputs
    → KeptBy b.outputs (serve (service_of g r) g c b r octets)
unfolding parametrized
serve_kept g c b r octets h =
    let w = b.outputs in
    let x = wait_cfg_off c h in
    serve_cases (KeptBy w) c (λ k d s _. stays c h k s) (λ k d _ _ _. resets w k d) g r b octets (λ _ _. off x.0 x.1 x.2) (λ _ _. off x.0 x.1 x.2)
    (λ k m u v d s _ _ e y. rw (exchange_same s.alike_is ∙ e) (moved_kept y (rw (sym e) h))) (service_of g r) (headed r g)

-- a telegram
pub telegram_kept : (g : Setup) (c : Control) (b : Occupied) (r : Request) (octets : Data) → Kept (in_exchange c) c.modes b.outputs
    → KeptBy b.outputs (outcome_by g c b r octets)
telegram_kept g c b r octets h =
    let k = stays c h (refilled g c r) (refilled_akin g c r) in
    telegram_cases (KeptBy b.outputs) (λ _ _ p. p) g c b r octets k (serve_kept g (refilled g c r) b r octets k)
