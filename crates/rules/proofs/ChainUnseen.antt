-- The services do not look at the chain: whatever it is, the same comes of them, but for the chain itself.
use Prim.Native.Nat.{ℕ}
use mathlib.Core.Path.{◌≡◌, refl, sym, ap, ◌∙◌}
use mathlib.Core.Bool.{Bool, true, false, cond, not, ◌&&◌, ◌||◌}
use lib.Dec.{eqb}
use Rattle.state.specs.declared.setup.Setup.{Setup}
use Rattle.state.specs.declared.chain.Chain.{Chain}
use Rattle.state.specs.declared.control.Control.{Control}
use Rattle.state.specs.declared.state.Drawn.{Drawn}
use Rattle.state.specs.declared.state.Drawn.TheVariants as drawn
use Rattle.state.specs.Well.{within}
use Rattle.rules.specs.declared.request.Request.{Request}
use Rattle.rules.specs.declared.request.Data.{Data}
use Rattle.rules.specs.declared.request.Occupied.{Occupied}
use Rattle.rules.specs.declared.request.Prm.{Prm}
use Rattle.rules.specs.declared.request.Service.{Service}
use Rattle.rules.specs.declared.request.Service.TheVariants.{Nothing, Status, Reject, GlobalControl, DataExchange, SetPrm, ChkCfg, SlaveDiag, GetCfg, ReadInputs, ReadOutputs}
use Rattle.rules.specs.declared.outcome.Outcome.{Outcome}
use Rattle.rules.specs.Control.{bit, in_exchange, owns, with_watchdog, with_flags, with_chain, without_diag_flag}
use Rattle.rules.specs.Phases.{drawing, wait_prm, entering_wait_prm, wait_cfg}
use Rattle.rules.specs.Requests.{master_of, acts, to_station, refilled, service_of}
use Rattle.rules.specs.Retries.{is_repeat, on_chain}
use Rattle.rules.specs.Services.{other_owns, other_ident, prm_fault, parametrized, good_prm, set_prm, cfg_fault, good_cfg, chk_cfg, exchanges, good_exchange, data_exchange, slave_diag, controls, obeyed, global_control, serve, outcome_by}
use Rattle.rules.specs.Watchdog.{wants_watchdog, bad_factors}
use Rattle.rules.proofs.Repeats.{by_repeat}

module _ (g : Setup) (c : Control) (h k : Chain) (r : Request) where
  -- the control part with another chain
  abbrev other : Control
  other = with_chain c h

  -- what is made of the control part is the same with that chain, but for the chain
  abbrev Blind : (Control → Outcome) → Type 0
  Blind f = on_chain (f other) k ≡ on_chain (f c) k

  -- Set_Prm
  good_prm_lem : (opened : Bool) (p : Prm) → Blind (λ x. good_prm x opened r p)
  unfolding parametrized wait_cfg
  good_prm_lem opened p = go (in_exchange c) refl
    where
      go : (t : Bool) → in_exchange c ≡ t → Blind (λ x. good_prm x opened r p)
      go true e = rw e refl
      go false e = rw e refl

  set_prm_lem : (opened : Bool) (p : Prm) → Blind (λ x. set_prm g x opened r p)
  unfolding set_prm wait_prm
  set_prm_lem opened p =
      go (other_owns c (master_of r)) (not (within 7 r.count g.parameter_len)) (bit p.status 6) (not (bit p.status 7))
      (other_ident g p || (wants_watchdog p && bad_factors p))
    where
      go : (owned short unlocks unlocked faulty : Bool)
          → Blind (λ x.
          cond owned (drawing x drawn.Rejected)
          (cond short (prm_fault x)
          (cond unlocks (entering_wait_prm x drawn.Acknowledge)
          (cond unlocked (drawing x drawn.Acknowledge)
          (cond faulty (prm_fault x) (good_prm x opened r p))))))
      go true short unlocks unlocked faulty = refl
      go false true unlocks unlocked faulty = refl
      go false false true unlocked faulty = refl
      go false false false true faulty = refl
      go false false false false true = refl
      go false false false false false = good_prm_lem opened p

  -- Chk_Cfg
  good_cfg_lem : (opened : Bool) → Blind (λ x. good_cfg x opened)
  unfolding wait_cfg
  good_cfg_lem opened = go (in_exchange c) refl
    where
      go : (t : Bool) → in_exchange c ≡ t → Blind (λ x. good_cfg x opened)
      go true e = rw e refl
      go false e = rw e refl

  chk_cfg_lem : (opened : Bool) → Blind (λ x. chk_cfg g x opened r)
  unfolding chk_cfg wait_prm
  chk_cfg_lem opened = go (not (owns c (master_of r))) (not (within 1 r.count g.configuration_len))
    where
      go : (others short : Bool)
          → Blind (λ x. cond others (drawing x drawn.Rejected) (cond short (entering_wait_prm (cfg_fault x) drawn.Acknowledge) (good_cfg x opened)))
      go true short = refl
      go false true = refl
      go false false = good_cfg_lem opened

  -- Data_Exchange
  data_exchange_lem : Blind (λ x. data_exchange g x r)
  unfolding data_exchange wait_prm
  data_exchange_lem = go (not (exchanges c r)) (not (eqb r.count g.output_len))
    where
      go : (refused wrong : Bool)
          → Blind (λ x. cond refused (drawing x drawn.Rejected) (cond wrong (entering_wait_prm (cfg_fault x) drawn.Rejected) (good_exchange x)))
      go true wrong = refl
      go false true = refl
      go false false = refl

  -- Global_Control
  obeying : (withheld : Bool) (first : ℕ) → Blind (λ x. obeyed x withheld first)
  obeying withheld first = go (eqb first c.stored) refl
    where
      go : (t : Bool) → eqb first c.stored ≡ t → Blind (λ x. obeyed x withheld first)
      go true e = rw e refl
      go false e = rw e refl

  global_control_lem : (withheld : Bool) (first second : ℕ) → Blind (λ x. global_control x withheld r first second)
  unfolding global_control
  global_control_lem withheld first second = go (controls c r second)
    where
      go : (t : Bool) → Blind (λ x. cond t (obeyed x withheld first) (drawing x drawn.Nothing))
      go true = obeying withheld first
      go false = refl

  -- a reply of one kind or another
  replied : (t : Bool) (f : Control → Control) (d e : Drawn) → with_chain (f other) k ≡ with_chain (f c) k
      → Blind (λ x. cond t (drawing (f x) d) (drawing x e))
  replied true f d e p = ap (λ (x : Control). drawing x d) p
  replied false f d e p = refl

  -- every service
  served : (b : Occupied) (octets : Data) (v : Service) → Blind (λ x. serve v g x b r octets)
  unfolding slave_diag
  served b octets Nothing = refl
  served b octets Status = refl
  served b octets Reject = refl
  served b octets GlobalControl = global_control_lem b.outputs octets.first octets.second
  served b octets DataExchange = data_exchange_lem
  served b octets SetPrm = set_prm_lem b.parameters octets.prm
  served b octets ChkCfg = chk_cfg_lem b.configuration
  served b octets SlaveDiag =
      replied (owns c (master_of r) && not c.flags.stat_diag) (λ x. with_flags x (without_diag_flag x.flags)) drawn.Diagnosis drawn.Diagnosis refl
  served b octets GetCfg = refl
  served b octets ReadInputs = replied (in_exchange c) (λ x. x) drawn.Inputs drawn.Rejected refl
  served b octets ReadOutputs = replied (in_exchange c) (λ x. x) drawn.Outputs drawn.Rejected refl

-- the watchdog full
abbrev full : Control → Control
full c = with_watchdog c (record { reload = c.watchdog.reload; remaining = c.watchdog.reload })

-- it is refilled whatever the chain
refilled_other : (g : Setup) (c : Control) (h : Chain) (r : Request) → refilled g (with_chain c h) r ≡ with_chain (refilled g c r) h
unfolding refilled
refilled_other g c h r = go (acts g r && to_station g r && owns c (master_of r))
  where
    go : (t : Bool) → cond t (full (with_chain c h)) (with_chain c h) ≡ with_chain (cond t (full c) c) h
    go true = refl
    go false = refl

-- so of a telegram that is no repeat by either chain the same comes, but for the chain
pub unseen : (g : Setup) (c : Control) (h : Chain) (b : Occupied) (r : Request) (octets : Data) → is_repeat g c r ≡ false → is_repeat g (with_chain c h) r ≡ false
    → (k : Chain) → on_chain (outcome_by g (with_chain c h) b r octets) k ≡ on_chain (outcome_by g c b r octets) k
unseen g c h b r octets m n k =
    let v = service_of g r in
    ap (λ (o : Outcome). on_chain o k) (by_repeat g (with_chain c h) b r octets n)
    ∙ ap (λ (x : Control). on_chain (serve v g x b r octets) k) (refilled_other g c h r)
    ∙ served g (refilled g c r) h k r b octets v
    ∙ ap (λ (o : Outcome). on_chain o k) (sym (by_repeat g c b r octets m))
