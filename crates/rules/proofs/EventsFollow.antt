-- The events follow what an outcome does: 13 is raised where something is published, 11 and 10 go with the sets of their kind.
use Prim.Native.Nat.{ℕ, ◌<◌}
use native.Mathlib.Omega.{arith}
use mathlib.Core.Path.{◌≡◌, refl, sym, ap, subst, ◌∙◌}
use mathlib.Core.Bool.{Bool, true, false, cond, ◌||◌, or-true, or-false}
use Rattle.buffers.specs.declared.events.Events.{Events}
use Rattle.buffers.specs.Events.{width, bit, raised, cleared, data_exchange_event, configuration_event, parameters_event, outputs_event}
use Rattle.buffers.proofs.Word.{raised_same, raised_other, cleared_same, cleared_other}
use Rattle.state.specs.declared.setup.Setup.{Setup}
use Rattle.state.specs.declared.control.Flags.{Flags}
use Rattle.state.specs.declared.control.Modes.{Modes}
use Rattle.state.specs.declared.chain.Chain.{Chain}
use Rattle.state.specs.declared.control.Control.{Control}
use Rattle.state.specs.declared.state.Drawn.{Drawn}
use Rattle.state.specs.declared.state.Drawn.TheVariants.{Nothing}
use Rattle.rules.specs.declared.request.Request.{Request}
use Rattle.rules.specs.declared.request.Data.{Data}
use Rattle.rules.specs.declared.request.Occupied.{Occupied}
use Rattle.rules.specs.declared.request.Prm.{Prm}
use Rattle.rules.specs.declared.outcome.OutputsDeed.{OutputsDeed}
use Rattle.rules.specs.declared.outcome.OutputsDeed.TheVariants as outputs-deed
use Rattle.rules.specs.declared.outcome.InputsDeed.{InputsDeed}
use Rattle.rules.specs.declared.outcome.SetDeed.{SetDeed}
use Rattle.rules.specs.declared.outcome.SetDeed.TheVariants as set-deed
use Rattle.rules.specs.declared.outcome.Outcome.{Outcome}
use Rattle.rules.specs.Control.{in_exchange, with_flags, clear}
use Rattle.rules.specs.Modes.{announced}
use Rattle.rules.specs.Phases.{drawing, left_exchange, left, wait_prm, entering_wait_prm, wait_cfg, data_exch, zeros_if_left}
use Rattle.rules.specs.Requests.{refilled, service_of}
use Rattle.state.specs.Chain.{drawn_in}
use Rattle.rules.specs.Retries.{on_chain}
use Rattle.rules.specs.Services.{showing, parametrized, good_prm, good_cfg, serve, outcome_by}
use Rattle.rules.specs.Line.{clear_on, clear_noted, ticked}
use Rattle.rules.specs.User.{changing_sets, judged_parameters, judged_configuration}
use Rattle.rules.proofs.Headed.{headed}
use Rattle.rules.proofs.ByCases.{Akin, moving, clear_cases, noted_cases, ticked_cases, parameters_cases, configuration_cases, serve_cases, refilled_same, refilled_akin, telegram_cases}

-- event n is set
abbrev on : Events → ℕ → Bool
on e n = bit e.word n

-- something is published
abbrev pub publishing : OutputsDeed → Bool
publishing outputs-deed.Keep = false
publishing outputs-deed.Publish = true
publishing outputs-deed.HoldBack = false
publishing outputs-deed.Release = true
publishing outputs-deed.Zeros = true

-- what becomes of the event of a kind of sets. opened: a set of that kind is open, waits: a newer one waits
abbrev pub EventShows : SetDeed → Bool → Bool → Bool → Bool → Type 0
EventShows set-deed.Keep opened waits before after = after ≡ before
EventShows set-deed.Receive opened waits before after = after ≡ cond opened before true
EventShows set-deed.Advance opened waits before after = (opened ≡ true) × (waits ≡ true) × (after ≡ before)
EventShows set-deed.Drop opened waits before after = after ≡ false

-- which sets wait
pub record Waiting : Type 0 where
  pub parameters : Bool
  pub configuration : Bool

-- the events after an outcome, by those before and the sets that are open and that wait
pub record EventsAfter (e : Events) (opened : Occupied) (waiting : Waiting) (o : Outcome) : Type 0 where
  pub outputs_raise : on o.control.events outputs_event ≡ (on e outputs_event || publishing o.outputs)
  pub parameters_show : EventShows o.parameters opened.parameters waiting.parameters (on e parameters_event) (on o.control.events parameters_event)
  pub configuration_show : EventShows o.configuration opened.configuration waiting.configuration (on e configuration_event) (on o.control.events configuration_event)

-- ---- something published

-- it raises event 13
announced_raises : (u : OutputsDeed) (e : Events) → on (announced u e) outputs_event ≡ (on e outputs_event || publishing u)
announced_raises outputs-deed.Keep e = sym (or-false (on e outputs_event))
announced_raises outputs-deed.Publish e = raised_same e outputs_event (omega arith) ∙ sym (or-true (on e outputs_event))
announced_raises outputs-deed.HoldBack e = sym (or-false (on e outputs_event))
announced_raises outputs-deed.Release e = raised_same e outputs_event (omega arith) ∙ sym (or-true (on e outputs_event))
announced_raises outputs-deed.Zeros e = raised_same e outputs_event (omega arith) ∙ sym (or-true (on e outputs_event))

-- and no other
announced_other : (u : OutputsDeed) (e : Events) (n : ℕ) → (outputs_event ≡ n → ⊥) → on (announced u e) n ≡ on e n
announced_other outputs-deed.Keep e n d = refl
announced_other outputs-deed.Publish e n d = raised_other e outputs_event n d
announced_other outputs-deed.HoldBack e n d = refl
announced_other outputs-deed.Release e n d = raised_other e outputs_event n d
announced_other outputs-deed.Zeros e n d = raised_other e outputs_event n d

-- ---- a set shown, and DATA_EXCH left

-- a set that is shown has its event
showing_same : (e : Events) (opened : Bool) (n : ℕ) → n < width → on (showing e opened n) n ≡ cond opened (on e n) true
showing_same e true n h = refl
showing_same e false n h = raised_same e n h

-- every other is as it was
showing_other : (e : Events) (opened : Bool) (k n : ℕ) → (k ≡ n → ⊥) → on (showing e opened k) n ≡ on e n
showing_other e true k n d = refl
showing_other e false k n d = raised_other e k n d

module _ (c : Control) where
  -- leaving raises event 1 alone
  left_other : (n : ℕ) → (data_exchange_event ≡ n → ⊥) → on (left_exchange c) n ≡ on c.events n
  left_other n d = go (in_exchange c)
    where
      go : (t : Bool) → on (cond t (raised c.events data_exchange_event) c.events) n ≡ on c.events n
      go true = raised_other c.events data_exchange_event n d
      go false = refl

  -- WAIT_CFG entered raises 13 with the zeros that it publishes
  wait_cfg_raises : on (wait_cfg c).events outputs_event ≡ (on c.events outputs_event || publishing (zeros_if_left c))
  unfolding wait_cfg
  wait_cfg_raises = go (in_exchange c)
    where
      go : (t : Bool) → on (cond t (left c) c).events outputs_event
          ≡ (on c.events outputs_event || publishing (cond t outputs-deed.Zeros outputs-deed.Keep))
      go true = raised_same (left_exchange c) outputs_event (omega arith) ∙ sym (or-true (on c.events outputs_event))
      go false = sym (or-false (on c.events outputs_event))

  -- and beside event 1 no other
  wait_cfg_other : (n : ℕ) → (data_exchange_event ≡ n → ⊥) → (outputs_event ≡ n → ⊥) → on (wait_cfg c).events n ≡ on c.events n
  unfolding wait_cfg
  wait_cfg_other n d h = go (in_exchange c)
    where
      go : (t : Bool) → on (cond t (left c) c).events n ≡ on c.events n
      go true = raised_other (left_exchange c) outputs_event n h ∙ left_other n d
      go false = refl

-- ---- each kind of outcome

module _ (opened : Occupied) (waiting : Waiting) where
  -- nothing but a reply
  replies_follow : (c k : Control) (d : Drawn) → Akin c k → EventsAfter c.events opened waiting (drawing k d)
  replies_follow c k d s = record {
    outputs_raise = s.untouched.outputs_same ∙ sym (or-false (on c.events outputs_event));
    parameters_show = s.untouched.parameters_same;
    configuration_show = s.untouched.configuration_same;
  }

  -- WAIT_PRM clears 11 and 10 and raises 13, whatever was set
  resets_follow : (e : Events) (k : Control) (d : Drawn) → EventsAfter e opened waiting (entering_wait_prm k d)
  unfolding wait_prm
  resets_follow e k d =
      let x = left_exchange k in
      let y = cleared x configuration_event in
      record {
        outputs_raise = raised_same (cleared y parameters_event) outputs_event (omega arith) ∙ sym (or-true (on e outputs_event));
        parameters_show =
            raised_other (cleared y parameters_event) outputs_event parameters_event (λ q. omega arith) ∙ cleared_same y parameters_event (omega arith);
        configuration_show =
            raised_other (cleared y parameters_event) outputs_event configuration_event (λ q. omega arith)
            ∙ cleared_other y parameters_event configuration_event (λ q. omega arith)
            ∙ cleared_same x configuration_event (omega arith);
      }

  module _ (c : Control) where
    -- a good Set_Prm
    prm_follows : (r : Request) (p : Prm) → EventsAfter c.events opened waiting (good_prm c opened.parameters r p)
    unfolding parametrized
    prm_follows r p =
        let x = (wait_cfg c).events in
        let y = cleared x configuration_event in
        record {
          outputs_raise =
              showing_other y opened.parameters parameters_event outputs_event (λ q. omega arith)
              ∙ cleared_other x configuration_event outputs_event (λ q. omega arith)
              ∙ wait_cfg_raises c;
          parameters_show =
              showing_same y opened.parameters parameters_event (omega arith)
              ∙ ap (λ (t : Bool). cond opened.parameters t true)
              (cleared_other x configuration_event parameters_event (λ q. omega arith) ∙ wait_cfg_other c parameters_event (λ q. omega arith) (λ q. omega arith));
          configuration_show =
              showing_other y opened.parameters parameters_event configuration_event (λ q. omega arith)
              ∙ cleared_same x configuration_event (omega arith);
        }

    -- a good Chk_Cfg
    cfg_follows : EventsAfter c.events opened waiting (good_cfg c opened.configuration)
    cfg_follows =
        let x = (wait_cfg c).events in
        record {
          outputs_raise = showing_other x opened.configuration configuration_event outputs_event (λ q. omega arith) ∙ wait_cfg_raises c;
          parameters_show =
              showing_other x opened.configuration configuration_event parameters_event (λ q. omega arith)
              ∙ wait_cfg_other c parameters_event (λ q. omega arith) (λ q. omega arith);
          configuration_show =
              showing_same x opened.configuration configuration_event (omega arith)
              ∙ ap (λ (t : Bool). cond opened.configuration t true) (wait_cfg_other c configuration_event (λ q. omega arith) (λ q. omega arith));
        }

    -- something done to the outputs
    moving_follows : (k : Control) (m : Modes) (u : OutputsDeed) (v : InputsDeed) (d : Drawn) → Akin c k → EventsAfter c.events opened waiting (moving k m u v d)
    moving_follows k m u v d s = record {
      outputs_raise = announced_raises u k.events ∙ ap (λ (t : Bool). t || publishing u) s.untouched.outputs_same;
      parameters_show = announced_other u k.events parameters_event (λ q. omega arith) ∙ s.untouched.parameters_same;
      configuration_show = announced_other u k.events configuration_event (λ q. omega arith) ∙ s.untouched.configuration_same;
    }

    -- a newer set shown instead
    moves_follow : (p q : SetDeed)
        → EventShows p opened.parameters waiting.parameters (on c.events parameters_event) (on c.events parameters_event)
        → EventShows q opened.configuration waiting.configuration (on c.events configuration_event) (on c.events configuration_event)
        → EventsAfter c.events opened waiting (changing_sets c p q)
    moves_follow p q x y = record { outputs_raise = sym (or-false (on c.events outputs_event)); parameters_show = x; configuration_show = y }

    -- parameters judged good: the set is closed
    prm_closed : (f : Flags) → EventsAfter c.events opened waiting (changing_sets (with_flags (clear c parameters_event) f) set-deed.Drop set-deed.Keep)
    prm_closed f = record {
      outputs_raise = cleared_other c.events parameters_event outputs_event (λ q. omega arith) ∙ sym (or-false (on c.events outputs_event));
      parameters_show = cleared_same c.events parameters_event (omega arith);
      configuration_show = cleared_other c.events parameters_event configuration_event (λ q. omega arith);
    }

    -- configuration judged good: DATA_EXCH
    cfg_closed : EventsAfter c.events opened waiting (changing_sets (data_exch (clear c configuration_event)) set-deed.Keep set-deed.Drop)
    unfolding data_exch
    cfg_closed =
        let x = cleared c.events configuration_event in
        record {
          outputs_raise =
              raised_other x data_exchange_event outputs_event (λ q. omega arith)
              ∙ cleared_other c.events configuration_event outputs_event (λ q. omega arith)
              ∙ sym (or-false (on c.events outputs_event));
          parameters_show =
              raised_other x data_exchange_event parameters_event (λ q. omega arith)
              ∙ cleared_other c.events configuration_event parameters_event (λ q. omega arith);
          configuration_show =
              raised_other x data_exchange_event configuration_event (λ q. omega arith) ∙ cleared_same c.events configuration_event (omega arith);
        }

    -- ---- every outcome

    -- what holds of each
    Here : Outcome → Type 0
    Here o = EventsAfter c.events opened waiting o

    -- leave master
    pub clear_follows : (busy : Bool) → EventsAfter c.events opened waiting (clear_on busy c)
    unfolding Here
    clear_follows busy = clear_cases Here c (λ k d s _. replies_follow c k d s) busy (λ _ k _ _. resets_follow c.events k Nothing)

    -- a noted clear
    pub noted_follows : (busy : Bool) → EventsAfter c.events opened waiting (clear_noted busy c)
    unfolding Here
    noted_follows busy = noted_cases Here c (λ k d s _. replies_follow c k d s) busy (λ _ k _ _. resets_follow c.events k Nothing)

    -- a Tick
    pub ticked_follows : (busy : Bool) → EventsAfter c.events opened waiting (ticked busy c)
    unfolding Here
    ticked_follows busy = ticked_cases Here c (λ k d s _. replies_follow c k d s) busy (λ _ k _ _. resets_follow c.events k Nothing)

    -- the judgement of parameters, where a set is open
    pub parameters_follow : (good : Bool) → opened.parameters ≡ true → EventsAfter c.events opened waiting (judged_parameters c waiting.parameters good)
    unfolding Here
    parameters_follow good h =
        parameters_cases Here c (λ k d s _. replies_follow c k d s) (λ k d _ _ _. resets_follow c.events k d) waiting.parameters good
        (λ w. moves_follow set-deed.Advance set-deed.Keep (h, w, refl) refl) prm_closed

    -- and of configuration
    pub configuration_follows : (good : Bool) → opened.configuration ≡ true → EventsAfter c.events opened waiting (judged_configuration c waiting.configuration good)
    unfolding Here
    configuration_follows good h =
        configuration_cases Here c (λ k d s _. replies_follow c k d s) (λ k d _ _ _. resets_follow c.events k d) waiting.configuration good
        (λ w. moves_follow set-deed.Keep set-deed.Advance refl (h, w, refl)) cfg_closed

  -- each service
  serve_follows : (g : Setup) (c : Control) (r : Request) (octets : Data) → EventsAfter c.events opened waiting (serve (service_of g r) g c opened r octets)
  serve_follows g c r octets =
      serve_cases (λ o. EventsAfter c.events opened waiting o) c (λ k d s _. replies_follow c k d s) (λ n d _ _ _. resets_follow c.events n d) g r opened octets
      (λ _ _. prm_follows c r octets.prm) (λ _ _. cfg_follows c) (λ n m u v d s _ _ _ _. moving_follows c n m u v d s) (service_of g r) (headed r g)

  -- the chain does not matter
  relinks_follow : (e : Events) (o : Outcome) (h : Chain) → EventsAfter e opened waiting o → EventsAfter e opened waiting (on_chain o h)
  relinks_follow e o h w =
      record { outputs_raise = w.outputs_raise; parameters_show = w.parameters_show; configuration_show = w.configuration_show }

  -- a telegram
  pub telegram_follows : (g : Setup) (c : Control) (r : Request) (octets : Data) → EventsAfter c.events opened waiting (outcome_by g c opened r octets)
  telegram_follows g c r octets =
      let k = refilled g c r in
      telegram_cases (λ o. EventsAfter c.events opened waiting o) (relinks_follow c.events) g c opened r octets
      (replies_follow c k (drawn_in c.chain) (refilled_akin g c r))
      (subst (λ (e : Events). EventsAfter e opened waiting (serve (service_of g r) g k opened r octets)) (refilled_same g c r).1 (serve_follows g k r octets))
