-- The chain after a telegram, and which telegram is a repeat by it.
use Prim.Native.Nat.{◌≤◌}
use native.Mathlib.Omega.{arith}
use mathlib.Core.Path.{◌≡◌, refl, sym, ap, ◌∙◌}
use mathlib.Core.Bool.{Bool, true, false, cond, not, ◌&&◌, ◌||◌, and-true}
use mathlib.Core.Logic.{◌↔◌, ◌⊎◌, inl, inr}
use lib.Dec.{eqb}
use borrow.Author.Tests.{eq-eqb, eqb-true}
use Rattle.telegram.proofs.Run.{no_true}
use Rattle.state.specs.declared.setup.Setup.{Setup}
use Rattle.state.specs.declared.control.Control.{Control}
use Rattle.state.specs.declared.chain.Chain.{Chain}
use Rattle.state.specs.declared.state.Drawn.{Drawn}
use Rattle.state.specs.declared.state.Drawn.TheVariants.{Nothing, Acknowledge}
use Rattle.state.specs.Chain.{chain_of, no_chain, fcb_in, drawn_in}
use Rattle.state.specs.Well.{within}
use Rattle.state.proofs.SetCodes.{fcb_in_lem}
use Rattle.state.proofs.Choice.{by_test, either, and_left, and_right}
use Rattle.rules.specs.declared.request.Request.{Request}
use Rattle.rules.specs.declared.request.Data.{Data}
use Rattle.rules.specs.declared.request.Occupied.{Occupied}
use Rattle.rules.specs.declared.request.Prm.{Prm}
use Rattle.rules.specs.declared.request.Service.{Service}
use Rattle.rules.specs.declared.request.Service.TheVariants.{SetPrm}
use Rattle.rules.specs.declared.outcome.Outcome.{Outcome}
use Rattle.rules.specs.Control.{bit}
use Rattle.rules.specs.Requests.{master_of, wants_none, acts, refilled, service_of}
use Rattle.rules.specs.Retries.{asks, is_request, fcv_of, fcb_of, same, is_repeat, chain_by, drew, chained, repeated}
use Rattle.rules.specs.Services.{other_owns, other_ident, set_prm, serve, outcome_by}
use Rattle.rules.specs.Watchdog.{wants_watchdog, bad_factors}
use Rattle.rules.proofs.Headed.{acts_master}
use Rattle.rules.proofs.Alike.{refilled_alike}
use Rattle.rules.proofs.ByCases.{refilled_same}
use Rattle.rules.proofs.Unasked.{unasked_silent}
use Rattle.rules.proofs.Served.{serve_chain}

-- ---- which telegram is a repeat

-- marks are the same exactly if they are equal
same_exactly : (t u : Bool) → (same t u ≡ true) ↔ (t ≡ u)
same_exactly true true = (λ _. refl, λ _. refl)
same_exactly true false = (λ e. no_true e, λ e. sym e)
same_exactly false true = (λ e. no_true e, λ e. no_true e)
same_exactly false false = (λ _. refl, λ _. refl)

-- a repeat is a request with bit 4 set, the last one's master and its bit 5
pub repeat_exactly : (g : Setup) (c : Control) (r : Request)
    → (is_repeat g c r ≡ true)
    ↔ ((is_request g r ≡ true) × (fcv_of r ≡ true) × (master_of r ≡ c.chain.master) × (fcb_of r ≡ fcb_in c.chain))
repeat_exactly g c r =
    let x = not (wants_none r) in
    let v = fcv_of r in
    let m = eqb (master_of r) c.chain.master in
    let b = same_exactly (fcb_of r) (fcb_in c.chain) in (
      λ e.
          let all = and_right (acts g r) _ e in
          let three = and_left (x && v && m) _ all in
          let two = and_left (x && v) m three in (
            (λ i. and_left (acts g r) _ e i && and_left x v two i),
            and_right x v two,
            eqb-true (master_of r) c.chain.master (and_right (x && v) m three),
            b.0 (and_right (x && v && m) _ all),
          ),
      λ f. λ i. and_left (acts g r) x f.0 i && (and_right (acts g r) x f.0 i && f.1 i && eq-eqb (master_of r) c.chain.master f.2 i && b.1 f.3 i),
    )

-- so it is after one of that master with that bit 5
pub is_repeat_lem : (g : Setup) (c : Control) (r : Request) (d : Drawn) → is_request g r ≡ true → fcv_of r ≡ true
    → c.chain ≡ chain_of (master_of r) (fcb_of r) d → is_repeat g c r ≡ true
is_repeat_lem g c r d a v h =
    (repeat_exactly g c r).1 (a, v, ap (λ (k : Chain). k.master) (sym h), sym (ap fcb_in h ∙ fcb_in_lem (master_of r) (fcb_of r) d))

-- where there is no chain nothing is one: what acts comes from a master's address
pub none_repeated : (g : Setup) (c : Control) (r : Request) → c.chain ≡ no_chain → is_repeat g c r ≡ false
none_repeated g c r e = go (is_repeat g c r) refl
  where
    go : (t : Bool) → is_repeat g c r ≡ t → t ≡ false
    go false _ = refl
    go true f =
        let x = (repeat_exactly g c r).0 f in
        let m : master_of r ≤ 126 = acts_master g r (and_left (acts g r) (asks r) x.0) in
        let n : master_of r ≡ 127 = x.2 ∙ ap (λ (h : Chain). h.master) e in
        let no : ⊥ = omega arith in
        absurd no

-- ---- the chain

module _ (g : Setup) (c : Control) (b : Occupied) (r : Request) (octets : Data) where
  -- what is served if it is no repeat
  abbrev first : Outcome
  first = serve (service_of g r) g (refilled g c r) b r octets

  -- what comes of a telegram, by whether it is one
  pub by_repeat : {t : Bool} → is_repeat g c r ≡ t → outcome_by g c b r octets ≡ cond t (repeated g c r) (chained g r first)
  by_repeat e = ap (λ (t : Bool). cond t (repeated g c r) (chained g r first)) e

  -- a new request with bit 4 set is what a later one is compared with, and one with bit 4 clear ends the chain
  pub request_chain : is_request g r ≡ true → is_repeat g c r ≡ false → (outcome_by g c b r octets).control.chain ≡ chain_by r (drew g (outcome_by g c b r octets))
  request_chain a n =
      let s = by_repeat n in
      ap (λ (o : Outcome). o.control.chain) s
      ∙ (λ i. cond (a i) (chain_by r (drew g first)) first.control.chain)
      ∙ ap (λ (o : Outcome). chain_by r (drew g o)) (sym s)

  -- a repeat leaves it
  pub repeat_chain : is_repeat g c r ≡ true → (outcome_by g c b r octets).control.chain ≡ c.chain
  repeat_chain e = ap (λ (o : Outcome). o.control.chain) (by_repeat e) ∙ (refilled_alike g c r).chain_same

  -- what is no new request leaves it, and draws what the chain holds or nothing
  pub old_leaves : is_request g r && not (is_repeat g c r) ≡ false
      → ((outcome_by g c b r octets).control.chain ≡ c.chain)
      × (((outcome_by g c b r octets).drawn ≡ drawn_in c.chain) ⊎ ((outcome_by g c b r octets).drawn ≡ Nothing))
  old_leaves n =
      by_test (λ (o : Outcome). (o.control.chain ≡ c.chain) × ((o.drawn ≡ drawn_in c.chain) ⊎ (o.drawn ≡ Nothing))) (is_repeat g c r)
      (repeated g c r) (chained g r first)
      (λ _. ((refilled_alike g c r).chain_same, inl refl))
      (λ f. let e : is_request g r ≡ false = sym (and-true (is_request g r)) ∙ (λ i. is_request g r && not (sym f i)) ∙ n in
      rw e (serve_chain g (refilled g c r) b r octets ∙ (refilled_alike g c r).chain_same, inr (unasked_silent g (refilled g c r) b r octets e).2))

-- ---- Set_Prm

-- E5 is drawn
abbrev Acknowledges : Outcome → Type 0
Acknowledges o = o.drawn ≡ Acknowledge

-- one that no other master's ownership refuses draws it
acknowledged : (g : Setup) (c : Control) (opened : Bool) (r : Request) (p : Prm) → other_owns c (master_of r) ≡ false → Acknowledges (set_prm g c opened r p)
unfolding set_prm
acknowledged g c opened r p e =
    by_test Acknowledges (other_owns c (master_of r)) _ _ (λ h. no_true (sym e ∙ h))
    (λ _. either Acknowledges (not (within 7 r.count g.parameter_len)) refl
    (either Acknowledges (bit p.status 6) refl
    (either Acknowledges (not (bit p.status 7)) refl
    (either Acknowledges (other_ident g p || (wants_watchdog p && bad_factors p)) refl refl))))

-- so it does if it repeats none
pub set_prm_draws : (g : Setup) (c : Control) (b : Occupied) (r : Request) (octets : Data) → is_repeat g c r ≡ false → service_of g r ≡ SetPrm
    → other_owns c (master_of r) ≡ false → Acknowledges (outcome_by g c b r octets)
set_prm_draws g c b r octets n s e =
    let k = refilled g c r in
    ap (λ (o : Outcome). o.drawn) (by_repeat g c b r octets n)
    ∙ ap (λ (v : Service). (serve v g k b r octets).drawn) s
    ∙ acknowledged g k b.parameters r octets.prm (rw (refilled_same g c r).0 e)
