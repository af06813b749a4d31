-- Which data octets the rules look at: Set_Prm's only where their count is right, and of octet 7, if there are eight, bit 2 alone; Global_Control's
-- only if there are two.
use Prim.Native.Nat.{ℕ, ◌≤◌}
use mathlib.Core.Path.{◌≡◌, refl, sym, ap, ◌∙◌}
use mathlib.Core.Bool.{Bool, true, false, cond, not, ◌&&◌, ◌||◌}
use lib.Bits.{bit_and}
use lib.Dec.{leb, eqb}
use borrow.Author.Tests.{leb-true, eqb-true}
use Rattle.state.specs.declared.setup.Setup.{Setup}
use Rattle.state.specs.declared.control.Control.{Control}
use Rattle.state.specs.declared.state.Drawn.TheVariants as drawn
use Rattle.state.specs.Sound.{Within}
use Rattle.state.specs.Well.{within}
use Rattle.state.proofs.Tests.{within_true}
use Rattle.rules.specs.declared.request.Request.{Request}
use Rattle.rules.specs.declared.request.Data.{Data}
use Rattle.rules.specs.declared.request.Occupied.{Occupied}
use Rattle.rules.specs.declared.request.Prm.{Prm}
use Rattle.rules.specs.declared.request.Service.{Service}
use Rattle.rules.specs.declared.request.Service.TheVariants.{Nothing, Status, Reject, GlobalControl, DataExchange, SetPrm, ChkCfg, SlaveDiag, GetCfg, ReadInputs, ReadOutputs}
use Rattle.rules.specs.Control.{bit}
use Rattle.rules.specs.Phases.{drawing}
use Rattle.rules.specs.Requests.{refilled, service_of}
use Rattle.rules.specs.Retries.{is_repeat, chained, repeated}
use Rattle.rules.specs.Services.{parametrized, set_prm, exchanges, controls, obeyed, global_control, serve, outcome_by}
use Rattle.rules.specs.Watchdog.{fast_base}
use Rattle.rules.proofs.Headed.{To, Headed, headed}

-- with another octet 7
abbrev with_base : Prm → ℕ → Prm
with_base p x =
    record {
      status = p.status;
      factor1 = p.factor1;
      factor2 = p.factor2;
      ident_high = p.ident_high;
      ident_low = p.ident_low;
      group = p.group;
      base = x;
    }

-- Set_Prm's octets are the same, but that octet 7 need only mean the same base
pub record SamePrm (count : ℕ) (p q : Prm) : Type 0 where
  pub others : p ≡ with_base q p.base
  pub base : fast_base count p ≡ fast_base count q

-- as it does if its bit 2 is the same where it is there
pub same_base : (count : ℕ) (p q : Prm) → (8 ≤ count → bit p.base 2 ≡ bit q.base 2) → fast_base count p ≡ fast_base count q
same_base count p q f = go (leb 8 count) refl
  where
    go : (t : Bool) → leb 8 count ≡ t → t && bit p.base 2 ≡ t && bit q.base 2
    go true e = f (leb-true 8 count e)
    go false e = refl

module _ (g : Setup) (c : Control) (r : Request) where
  -- nothing but the base is looked at of octet 7
  base_seen : (opened : Bool) (p : Prm) (x : ℕ) → fast_base r.count (with_base p x) ≡ fast_base r.count p → set_prm g c opened r (with_base p x) ≡ set_prm g c opened r p
  unfolding set_prm parametrized
  base_seen opened p x e = rw e

  right_count : (opened : Bool) (p q : Prm) → SamePrm r.count p q → set_prm g c opened r p ≡ set_prm g c opened r q
  right_count opened p q h = ap (set_prm g c opened r) h.others ∙ base_seen opened q p.base h.base

  set_prm_same : (opened : Bool) (p q : Prm) → (Within 7 r.count g.parameter_len → SamePrm r.count p q) → set_prm g c opened r p ≡ set_prm g c opened r q
  unfolding set_prm
  set_prm_same opened p q f = go (within 7 r.count g.parameter_len) refl
    where
      go : (t : Bool) → within 7 r.count g.parameter_len ≡ t → set_prm g c opened r p ≡ set_prm g c opened r q
      go true e = right_count opened p q (f (within_true 7 r.count g.parameter_len e))
      go false e = rw e

  global_control_same : (withheld : Bool) (first second first' second' : ℕ) → (r.count ≡ 2 → (first ≡ first') × (second ≡ second'))
      → global_control c withheld r first second ≡ global_control c withheld r first' second'
  unfolding global_control
  global_control_same withheld first second first' second' f = go (eqb r.count 2) refl
    where
      neither : (a y : Bool) → a && false && y ≡ false
      neither true y = refl
      neither false y = refl

      off : (x : ℕ) → eqb r.count 2 ≡ false → controls c r x ≡ false
      off x e = rw e (neither (exchanges c r) (eqb x 0 || not (eqb (bit_and x c.group) 0)))

      go : (t : Bool) → eqb r.count 2 ≡ t → global_control c withheld r first second ≡ global_control c withheld r first' second'
      go true e = let w = f (eqb-true _ _ e) in λ i. global_control c withheld r (w.0 i) (w.1 i)
      go false e =
          ap (λ (t : Bool). cond t (obeyed c withheld first) (drawing c drawn.Nothing)) (off second e)
          ∙ sym (ap (λ (t : Bool). cond t (obeyed c withheld first') (drawing c drawn.Nothing)) (off second' e))

  module _ (b : Occupied) (x y : Data) (e : To r 61 → Within 7 r.count g.parameter_len → SamePrm r.count x.prm y.prm)
      (f : r.count ≡ 2 → (x.first ≡ y.first) × (x.second ≡ y.second)) where
    by_service : (v : Service) → Headed v r → serve v g c b r x ≡ serve v g c b r y
    by_service Nothing h = refl
    by_service Status h = refl
    by_service Reject h = refl
    by_service GlobalControl h = global_control_same b.outputs x.first x.second y.first y.second f
    by_service DataExchange h = refl
    by_service SetPrm h = set_prm_same b.parameters x.prm y.prm (e h)
    by_service ChkCfg h = refl
    by_service SlaveDiag h = refl
    by_service GetCfg h = refl
    by_service ReadInputs h = refl
    by_service ReadOutputs h = refl

-- data that is the same there has the same outcome
pub same_outcome : (g : Setup) (c : Control) (b : Occupied) (r : Request) (x y : Data)
    → (To r 61 → Within 7 r.count g.parameter_len → SamePrm r.count x.prm y.prm)
    → (r.count ≡ 2 → (x.first ≡ y.first) × (x.second ≡ y.second))
    → outcome_by g c b r x ≡ outcome_by g c b r y
same_outcome g c b r x y e f =
    let served = by_service g (refilled g c r) r b x y e f (service_of g r) (headed r g) in
    λ i. cond (is_repeat g c r) (repeated g c r) (chained g r (served i))
