-- The numbers of the control part after an outcome stay in their ranges. The owner is an octet: the one before, FF for none, or the master that
-- sent the telegram. The watchdog has as many ticks as before, none, or those of a Set_Prm, and no more remain.
use Prim.Native.Nat.{ℕ, ◌≤◌, ◌<◌}
use native.Mathlib.Nat.{mod-lt, mul-le-mul}
use native.Mathlib.Omega.{arith}
use mathlib.Core.Bool.{Bool, true, false}
use Rattle.state.specs.declared.setup.Setup.{Setup}
use Rattle.state.specs.declared.control.Control.{Control}
use Rattle.state.specs.declared.state.Drawn.{Drawn}
use Rattle.state.specs.declared.state.Drawn.TheVariants.{Nothing}
use Rattle.state.proofs.Choice.{either}
use Rattle.rules.specs.declared.request.Request.{Request}
use Rattle.rules.specs.declared.request.Data.{Data}
use Rattle.rules.specs.declared.request.Prm.{Prm}
use Rattle.rules.specs.declared.request.Occupied.{Occupied}
use Rattle.rules.specs.declared.outcome.Outcome.{Outcome}
use Rattle.rules.specs.Control.{in_exchange}
use Rattle.rules.specs.Phases.{wait_prm, entering_wait_prm, wait_cfg, data_exch}
use Rattle.rules.specs.Requests.{master_of, refilled, service_of}
use Rattle.rules.specs.Services.{parametrized, serve, outcome_by}
use Rattle.rules.specs.Watchdog.{wants_watchdog, fast_base, ticks_by, ticks_of, most_ticks, TicksWithin}
use Rattle.rules.specs.Line.{clear_on, clear_noted, ticked}
use Rattle.rules.specs.User.{judged_parameters, judged_configuration}
use Rattle.rules.proofs.Headed.{headed}
use Rattle.rules.proofs.ByCases.{Akin, clear_cases, noted_cases, ticked_cases, parameters_cases, configuration_cases, serve_cases, refilled_akin, telegram_cases}

-- the numbers of a control part
abbrev pub Bounded : Control → Type 0
Bounded c = (c.owner < 256) × TicksWithin c.watchdog

-- after an outcome
abbrev pub BoundedBy : Outcome → Type 0
BoundedBy o = Bounded o.control

-- ---- the ticks of a Set_Prm

-- factors that are octets
pub record Factors (p : Prm) : Type 0 where
  pub first : p.factor1 < 256
  pub second : p.factor2 < 256

-- on either base
by_base : (fast : Bool) (a b : ℕ) → a ≤ 255 → b ≤ 255 → ticks_by fast a b ≤ most_ticks
by_base true a b h k = omega (arith, mul-le-mul h k)
by_base false a b h k = omega (arith, mul-le-mul h k)

-- are at most these
pub ticks_most : (count : ℕ) (p : Prm) → Factors p → ticks_of count p ≤ most_ticks
ticks_most count p f =
    let h = f.first in
    let k = f.second in
    either (λ (n : ℕ). n ≤ most_ticks) (wants_watchdog p) (by_base (fast_base count p) p.factor1 p.factor2 (omega arith) (omega arith)) (omega arith)

-- ---- the outcomes

-- so many ticks, and all of them remain
all_left : (n : ℕ) → n ≤ most_ticks → TicksWithin (record { reload = n; remaining = n })
all_left n h = record { left = omega arith; most = h }

-- WAIT_PRM has no owner and no watchdog
resets : (k : Control) (d : Drawn) → BoundedBy (entering_wait_prm k d)
unfolding wait_prm
resets k d = (omega arith, all_left 0 (omega arith))

module _ (c : Control) (h : Bounded c) where
  -- as it was, counted down or refilled
  stays : (k : Control) → Akin c k → Bounded k
  stays k s =
      let w = s.watchdog_counts in (
        rw s.owner_same h.0,
        record { left = rw w.reload_same (w.left_within h.1.left); most = rw w.reload_same h.1.most },
      )

  -- leave master
  pub clear_bounded : (busy : Bool) → BoundedBy (clear_on busy c)
  clear_bounded busy = clear_cases BoundedBy c (λ k d s _. stays k s) busy (λ _ k _ _. resets k Nothing)

  -- a noted clear
  pub noted_bounded : (busy : Bool) → BoundedBy (clear_noted busy c)
  noted_bounded busy = noted_cases BoundedBy c (λ k d s _. stays k s) busy (λ _ k _ _. resets k Nothing)

  -- a Tick
  pub ticked_bounded : (busy : Bool) → BoundedBy (ticked busy c)
  ticked_bounded busy = ticked_cases BoundedBy c (λ k d s _. stays k s) busy (λ _ k _ _. resets k Nothing)

  -- the judgement of parameters
  pub parameters_bounded : (waits good : Bool) → BoundedBy (judged_parameters c waits good)
  parameters_bounded waits good = parameters_cases BoundedBy c (λ k d s _. stays k s) (λ k d _ _ _. resets k d) waits good (λ _. h) (λ _. h)

  -- and of configuration
  pub configuration_bounded : (waits good : Bool) → BoundedBy (judged_configuration c waits good)
  unfolding data_exch
  configuration_bounded waits good = configuration_cases BoundedBy c (λ k d s _. stays k s) (λ k d _ _ _. resets k d) waits good (λ _. h) h

  -- WAIT_CFG entered
  wait_cfg_bounded : Bounded (wait_cfg c)
  unfolding wait_cfg
  wait_cfg_bounded = either (λ (k : Control). Bounded k) (in_exchange c) h h

  -- each service
  serve_bounded : (g : Setup) (opened : Occupied) (r : Request) (octets : Data) → Factors octets.prm → BoundedBy (serve (service_of g r) g c opened r octets)
  unfolding parametrized
  serve_bounded g opened r octets f =
      let m : master_of r < 128 = mod-lt r.sa (omega arith) in
      let n = ticks_of r.count octets.prm in
      serve_cases BoundedBy c (λ k d s _. stays k s) (λ k d _ _ _. resets k d) g r opened octets
      (λ _ _. (omega arith, all_left n (ticks_most r.count octets.prm f))) (λ _ _. wait_cfg_bounded)
      (λ k m u v d s _ _ _ _. stays k s) (service_of g r) (headed r g)

-- a telegram
pub telegram_bounded : (g : Setup) (c : Control) (opened : Occupied) (r : Request) (octets : Data) → Factors octets.prm → Bounded c → BoundedBy (outcome_by g c opened r octets)
telegram_bounded g c opened r octets f h =
    let k = stays c h (refilled g c r) (refilled_akin g c r) in
    telegram_cases BoundedBy (λ _ _ p. p) g c opened r octets k (serve_bounded (refilled g c r) k g opened r octets f)
