-- What a telegram leaves of the watchdog: it stays as it is once it is refilled, or WAIT_PRM switches it off, or a good Set_Prm sets it anew.
use mathlib.Core.Path.{◌≡◌, refl}
use mathlib.Core.Bool.{Bool, true, false, not, ◌&&◌, ◌||◌}
use mathlib.Core.Logic.{◌⊎◌, inl, inr}
use Prim.Native.Nat.{ℕ}
use lib.Dec.{eqb}
use borrow.Author.Tests.{not-false}
use Rattle.state.specs.declared.setup.Setup.{Setup}
use Rattle.state.specs.declared.control.Phase.TheVariants.{WaitPrm}
use Rattle.state.specs.declared.control.Watchdog.{Watchdog}
use Rattle.state.specs.declared.control.Control.{Control}
use Rattle.state.specs.declared.state.Drawn.{Drawn}
use Rattle.state.specs.declared.state.Drawn.TheVariants.{Acknowledge, Rejected}
use Rattle.state.specs.Well.{within}
use Rattle.state.proofs.Choice.{by_test, either, or_left}
use Rattle.rules.specs.declared.request.Request.{Request}
use Rattle.rules.specs.declared.request.Data.{Data}
use Rattle.rules.specs.declared.request.Occupied.{Occupied}
use Rattle.rules.specs.declared.request.Prm.{Prm}
use Rattle.rules.specs.declared.request.Service.{Service}
use Rattle.rules.specs.declared.request.Service.TheVariants.{Nothing, Status, Reject, GlobalControl, DataExchange, SetPrm, ChkCfg, SlaveDiag, GetCfg, ReadInputs, ReadOutputs}
use Rattle.rules.specs.declared.outcome.Outcome.{Outcome}
use Rattle.rules.specs.Control.{bit, in_exchange, owns, with_flags, with_prm_fault}
use Rattle.rules.specs.Phases.{wait_prm, entering_wait_prm, wait_cfg}
use Rattle.rules.specs.Requests.{master_of}
use Rattle.rules.specs.Services.{other_owns, other_ident, prm_fault, set_prm, cfg_fault, chk_cfg, exchanges, data_exchange, slave_diag, controls, global_control, serve}
use Rattle.rules.specs.Watchdog.{wants_watchdog, bad_factors}

-- WAIT_PRM was entered, which switches the watchdog off
abbrev pub Off : Outcome → Type 0
Off o = (o.control.phase ≡ WaitPrm) × (o.control.watchdog ≡ record { reload = 0; remaining = 0 })

off : (k : Control) (d : Drawn) → Off (entering_wait_prm k d)
unfolding wait_prm
off k d = (refl, refl)

-- the watchdog is this one, or off
abbrev pub Stays : Watchdog → Outcome → Type 0
Stays w o = (o.control.watchdog ≡ w) ⊎ Off o

module _ (c : Control) (g : Setup) (r : Request) where
  abbrev P : Outcome → Type 0
  P = Stays c.watchdog

  -- Set_Prm: unless every test but that of the factors passes
  pub set_prm_stays : {A : Type 0} (opened : Bool) (p : Prm)
      → (other_owns c (master_of r) ≡ false → within 7 r.count g.parameter_len ≡ true → bit p.status 6 ≡ false → bit p.status 7 ≡ true
      → other_ident g p ≡ false → A)
      → P (set_prm g c opened r p) ⊎ A
  unfolding set_prm
  set_prm_stays {A} opened p f =
      by_test Q (other_owns c (master_of r)) _ _ (λ _. inl (inl refl))
      (λ free. by_test Q (not (within 7 r.count g.parameter_len)) _ _ (λ _. inl (inr faulty))
      (λ fits. by_test Q (bit p.status 6) _ _ (λ _. inl (inr (off c Acknowledge)))
      (λ unlock. by_test Q (not (bit p.status 7)) _ _ (λ _. inl (inl refl))
      (λ locks. by_test Q (other_ident g p || (wants_watchdog p && bad_factors p)) _ _ (λ _. inl (inr faulty))
      (λ good. inr (f free (not-false _ fits) unlock (not-false _ locks) (or_left (other_ident g p) _ good)))))))
    where
      Q : Outcome → Type 0
      Q o = P o ⊎ A

      faulty : Off (prm_fault c)
      faulty = off (with_flags c (with_prm_fault c.flags)) Acknowledge

  chk_cfg_stays : (opened : Bool) → P (chk_cfg g c opened r)
  unfolding chk_cfg wait_cfg
  chk_cfg_stays opened =
      either P (not (owns c (master_of r))) (inl refl)
      (either P (not (within 1 r.count g.configuration_len)) (inr (off (cfg_fault c) Acknowledge)) (inl (either (λ (k : Control). k.watchdog ≡ c.watchdog) (in_exchange c) refl refl)))

  exchange_stays : P (data_exchange g c r)
  unfolding data_exchange
  exchange_stays = either P (not (exchanges c r)) (inl refl) (either P (not (eqb r.count g.output_len)) (inr (off (cfg_fault c) Rejected)) (inl refl))

  diag_stays : P (slave_diag c r)
  unfolding slave_diag
  diag_stays = either P (owns c (master_of r) && not c.flags.stat_diag) (inl refl) (inl refl)

  control_stays : (withheld : Bool) (first second : ℕ) → P (global_control c withheld r first second)
  unfolding global_control
  control_stays withheld first second =
      either P (controls c r second) (inl (either (λ (k : Control). k.watchdog ≡ c.watchdog) (eqb first c.stored) refl refl)) (inl refl)

  -- every service
  pub serve_stays : {A : Type 0} (b : Occupied) (octets : Data)
      → (other_owns c (master_of r) ≡ false → within 7 r.count g.parameter_len ≡ true → bit octets.prm.status 6 ≡ false → bit octets.prm.status 7 ≡ true
      → other_ident g octets.prm ≡ false → A)
      → (v : Service) → P (serve v g c b r octets) ⊎ ((v ≡ SetPrm) × A)
  serve_stays b octets f Nothing = inl (inl refl)
  serve_stays b octets f Status = inl (inl refl)
  serve_stays b octets f Reject = inl (inl refl)
  serve_stays b octets f GlobalControl = inl (control_stays b.outputs octets.first octets.second)
  serve_stays b octets f DataExchange = inl exchange_stays
  serve_stays {A} b octets f SetPrm = go (set_prm_stays b.parameters octets.prm f)
    where
      go : P (set_prm g c b.parameters r octets.prm) ⊎ A → P (set_prm g c b.parameters r octets.prm) ⊎ ((SetPrm ≡ SetPrm) × A)
      go (inl h) = inl h
      go (inr a) = inr (refl, a)
  serve_stays b octets f ChkCfg = inl (chk_cfg_stays b.configuration)
  serve_stays b octets f SlaveDiag = inl diag_stays
  serve_stays b octets f GetCfg = inl (inl refl)
  serve_stays b octets f ReadInputs = inl (either P (in_exchange c) (inl refl) (inl refl))
  serve_stays b octets f ReadOutputs = inl (either P (in_exchange c) (inl refl) (inl refl))
