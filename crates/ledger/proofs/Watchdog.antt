-- The watchdog that a Set_Prm switches on (specs/Watchdog.antt).
use Prim.Native.Nat.{ℕ, ◌+◌, ◌*◌, ◌/◌, ◌%◌, ◌≤◌}
use native.Mathlib.Nat.{mul-le-mul}
use native.Mathlib.Omega.{arith}
use mathlib.Core.Path.{◌≡◌, refl, ap, ◌∙◌}
use mathlib.Core.Bool.{Bool, true, false, cond, not, ◌&&◌, ◌||◌}
use mathlib.Core.Logic.{◌⊎◌, inl, inr}
use lib.Dec.{eqb}
use lib.ListN.{length, get_or}
use borrow.Author.Tests.{le-leb, lt-leb, eq-eqb, ne_eqb, eqb-true}
use Rattle.telegram.specs.Telegram.{Telegram, payload_of}
use Rattle.telegram.proofs.Run.{no_true}
use Rattle.state.specs.declared.setup.Setup.{Setup}
use Rattle.state.specs.declared.control.Control.{Control}
use Rattle.state.specs.Start.{no_owner}
use Rattle.state.specs.Well.{within}
use Rattle.state.proofs.Tests.{within_holds}
use Rattle.rules.specs.declared.request.Request.{Request}
use Rattle.rules.specs.declared.request.Prm.{Prm}
use Rattle.rules.specs.Control.{bit, in_wait_prm}
use Rattle.rules.specs.Diagnosis.{one, status2}
use Rattle.rules.specs.Phases.{wait_prm, wait_cfg}
use Rattle.rules.specs.Requests.{master_of, refilled}
use Rattle.rules.specs.Retries.{chained}
use Rattle.rules.specs.Services.{other_owns, other_ident, prm_fault, parametrized, good_prm, set_prm}
use Rattle.rules.specs.Watchdog.{wants_watchdog, bad_factors, fast_base, ticks_by, ticks_of}
use Rattle.rules.proofs.ByCases.{refilled_same}
use Rattle.rules.proofs.LookedAt.{same_base, same_outcome}
use Rattle.ledger.specs.Ledger.{Ledger, occupied}
use Rattle.ledger.specs.Bus.{request_by, prm_by, data_by, answered, completed}
use Rattle.ledger.specs.Watchdog.{datum, Passes, GoodFactors, BadFactors, Counts, Taken, SwitchedOn, SwitchedOff, Faults, NothingElse, TicksAlways, WatchdogBase}
use Rattle.ledger.proofs.OctetReplies.{one_low}
use Rattle.ledger.proofs.Octets.{always_octal}
use Rattle.ledger.proofs.OneWay.{served, left_by}
use Rattle.ledger.proofs.Expiry.{expires, rests}
use Rattle.ledger.proofs.Refills.{refills}

-- ---------------------------------------------------------------------------------------------------
-- The factors.

-- one of three tests passes
any_of : (x y z : Bool) → (x ≡ true) ⊎ ((y ≡ true) ⊎ (z ≡ true)) → x || y || z ≡ true
any_of true y z h = refl
any_of false true z h = refl
any_of false false z (inl e) = no_true e
any_of false false z (inr (inl e)) = no_true e
any_of false false z (inr (inr e)) = e

bad_told : (t : Telegram) → BadFactors t → bad_factors (prm_by (payload_of t)) ≡ true
bad_told t h = any_of (eqb a 0) (eqb b 0) (eqb a 1 && eqb b 1) (tests h)
  where
    a : ℕ
    a = datum t 1

    b : ℕ
    b = datum t 2

    tests : BadFactors t → (eqb a 0 ≡ true) ⊎ ((eqb b 0 ≡ true) ⊎ (eqb a 1 && eqb b 1 ≡ true))
    tests (inl e) = inl (eq-eqb a 0 e)
    tests (inr (inl e)) = inr (inl (eq-eqb b 0 e))
    tests (inr (inr e)) = inr (inr (λ i. eq-eqb a 1 e.0 i && eq-eqb b 1 e.1 i))

-- not both
neither : (x y : Bool) → (x ≡ true → y ≡ true → ⊥) → x && y ≡ false
neither true true f = absurd (f refl refl)
neither true false f = refl
neither false y f = refl

good_told : (t : Telegram) → GoodFactors t → bad_factors (prm_by (payload_of t)) ≡ false
good_told t h =
    let both = neither (eqb (datum t 1) 1) (eqb (datum t 2) 1) (λ e f. h.not_both (eqb-true _ _ e, eqb-true _ _ f)) in
    λ i. ne_eqb (datum t 1) 0 h.first i || ne_eqb (datum t 2) 0 h.second i || both i

-- ---------------------------------------------------------------------------------------------------
-- What diagnosis shows.

-- bit 3 of octet 1 alone depends on the watchdog
shown_is : (c : Control) (on : Bool) → not (eqb c.watchdog.reload 0) ≡ on → bit (status2 c) 3 ≡ on
shown_is c on e = ap (λ (w : Bool). bit (marks w) 3) e ∙ go on
  where
    a : ℕ
    a = one (in_wait_prm c.phase)

    b : ℕ
    b = one c.flags.stat_diag

    marks : Bool → ℕ
    marks w = a + 2 * b + 4 + 8 * one w + 16 * one c.modes.freeze + 32 * one c.modes.sync

    go : (w : Bool) → bit (marks w) 3 ≡ w
    go true = let x = one_low (in_wait_prm c.phase) in let y = one_low c.flags.stat_diag in eq-eqb (marks true / 8 % 2) 1 (omega arith)
    go false = let x = one_low (in_wait_prm c.phase) in let y = one_low c.flags.stat_diag in ne_eqb (marks false / 8 % 2) 1 (λ z. omega arith)

-- some ticks are not none
positive : (n : ℕ) → 1 ≤ n → not (eqb n 0) ≡ true
positive n h = ap not (ne_eqb n 0 (λ z. omega arith))

-- ---------------------------------------------------------------------------------------------------
-- What comes of such a Set_Prm.

-- it passes every test but that of the factors
passes : (g : Setup) (c : Control) (opened : Bool) (r : Request) (p : Prm) → other_owns c (master_of r) ≡ false → within 7 r.count g.parameter_len ≡ true
    → bit p.status 6 ≡ false → bit p.status 7 ≡ true → other_ident g p ≡ false
    → set_prm g c opened r p ≡ cond (wants_watchdog p && bad_factors p) (prm_fault c) (good_prm c opened r p)
unfolding set_prm
passes g c opened r p free count unlock lock ident = rw (free, count, unlock, lock, ident)

module _ (l : Ledger) (t : Telegram) (h : Passes l t) where
  abbrev g : Setup
  g = l.setup

  abbrev r : Request
  r = request_by t

  abbrev k : Control
  k = refilled g l.control r

  abbrev p : Prm
  p = prm_by (payload_of t)

  -- the watchdog refilled, the same master owns
  free : other_owns k (master_of r) ≡ false
  free =
      let owner = (refilled_same g l.control r).0 in
      (λ i. not (eqb (owner i) no_owner) && not (eqb (owner i) (master_of r))) ∙ h.free

  -- by the test of the factors
  comes : {faulty : Bool} → wants_watchdog p && bad_factors p ≡ faulty
      → completed l t ≡ answered l (chained g r (cond faulty (prm_fault k) (good_prm k (occupied l).parameters r p))) (master_of r) (payload_of t)
  comes e =
      left_by l t
      (served l t h.new h.service
      ∙ ap (chained g r)
      (passes g k (occupied l).parameters r p free (within_holds 7 (length (payload_of t)) g.parameter_len h.count) h.no_unlock h.locks
      (ap not (eq-eqb _ _ h.ident))
      ∙ ap (λ (f : Bool). cond f (prm_fault k) (good_prm k (occupied l).parameters r p)) e))

  faults : bit (datum t 0) 3 ≡ true → BadFactors t → Faults l t
  unfolding answered wait_prm
  faults on bad =
      let w = comes (λ i. on i && bad_told t bad i) in
      let none = ap (λ (x : Ledger). x.control.watchdog.reload) w in
      record {
        e5 = ap (λ (x : Ledger). x.line.reply) w;
        flagged = ap (λ (x : Ledger). x.control.flags.prm_fault) w;
        leaves = ap (λ (x : Ledger). x.control.phase) w;
        off = record { reload = none; remaining = ap (λ (x : Ledger). x.control.watchdog.remaining) w };
        shown = shown_is (completed l t).control false (ap (λ (n : ℕ). not (eqb n 0)) none);
      }

  -- a good one is taken
  takes : wants_watchdog p && bad_factors p ≡ false → Taken l t
  unfolding answered parametrized wait_cfg
  takes e =
      let w = comes e in
      record {
        phase = ap (λ (x : Ledger). x.control.phase) w;
        owner = ap (λ (x : Ledger). x.control.owner) w;
        no_fault = ap (λ (x : Ledger). x.control.flags.prm_fault) w;
      }

  -- a good one has the ticks of its octets
  watches : wants_watchdog p && bad_factors p ≡ false → {n : ℕ} → ticks_of r.count p ≡ n → Counts (completed l t) n
  unfolding answered parametrized
  watches e q =
      let w = comes e in
      record {
        reload = ap (λ (x : Ledger). x.control.watchdog.reload) w ∙ q;
        remaining = ap (λ (x : Ledger). x.control.watchdog.remaining) w ∙ q;
      }

  -- switched off
  switched_off : bit (datum t 0) 3 ≡ false → SwitchedOff l t
  switched_off off =
      let none = ap (λ (w : Bool). w && bad_factors p) off in
      let counts = watches none (ap (λ (w : Bool). cond w (ticks_by (fast_base r.count p) p.factor1 p.factor2) 0) off) in
      record { taken = takes none; off = counts; shown = shown_is (completed l t).control false (ap (λ (n : ℕ). not (eqb n 0)) counts.reload) }

  module _ (on : bit (datum t 0) 3 ≡ true) (good : GoodFactors t) where
    abbrev product : ℕ
    product = datum t 1 * datum t 2

    -- switched on, by the base
    counts_by : {fast : Bool} → fast_base r.count p ≡ fast → Counts (completed l t) (cond fast 1 10 * product)
    counts_by e = watches (λ i. on i && good_told t good i) (λ i. cond (on i) (ticks_by (e i) p.factor1 p.factor2) 0)

    -- with so many ticks
    so_many : {n m : ℕ} → n ≡ m → Counts (completed l t) n → Counts (completed l t) m
    so_many e c = record { reload = c.reload ∙ e; remaining = c.remaining ∙ e }

    -- of which there is one at least
    some : (fast : Bool) → 1 ≤ cond fast 1 10 * product
    some fast =
        let a : 1 ≤ datum t 1 = (let z = h_first in omega arith) in
        let b : 1 ≤ datum t 2 = (let z = h_second in omega arith) in
        go fast (mul-le-mul a b)
      where
        h_first : datum t 1 ≡ 0 → ⊥
        h_first = good.first

        h_second : datum t 2 ≡ 0 → ⊥
        h_second = good.second

        go : (f : Bool) → 1 * 1 ≤ product → 1 ≤ cond f 1 10 * product
        go true z = omega arith
        go false z = omega arith

    switched_on : SwitchedOn l t
    switched_on =
        let count = length (payload_of t) in
        let all = counts_by refl in
        record {
          taken = takes (λ i. on i && good_told t good i);
          fast = λ there e. so_many (omega arith) (counts_by (λ i. le-leb 8 count there i && e i));
          slow = λ there e. counts_by (λ i. le-leb 8 count there i && e i);
          absent = λ few. counts_by (λ i. lt-leb 8 count few i && bit (datum t 7) 2);
          shown = shown_is (completed l t).control true
              (ap (λ (n : ℕ). not (eqb n 0)) all.reload ∙ positive _ (some (fast_base r.count p)));
        }

-- ---------------------------------------------------------------------------------------------------
-- What is looked at, and every list.

nothing_else : NothingElse
nothing_else l r ds es octet seven =
    same_outcome l.setup l.control (occupied l) r (data_by ds) (data_by es)
    (λ _ _. record {
      others = λ j. record {
        status = octet 0 (omega arith) (λ z. omega arith) j;
        factor1 = octet 1 (omega arith) (λ z. omega arith) j;
        factor2 = octet 2 (omega arith) (λ z. omega arith) j;
        ident_high = octet 4 (omega arith) (λ z. omega arith) j;
        ident_low = octet 5 (omega arith) (λ z. omega arith) j;
        group = octet 6 (omega arith) (λ z. omega arith) j;
        base = get_or ds 7 0;
      };
      base = same_base r.count (prm_by ds) (prm_by es) seven;
    })
    (λ _. (octet 0 (omega arith) (λ z. omega arith), octet 1 (omega arith) (λ z. omega arith)))

ticks_always : TicksAlways
ticks_always s slice cs a x i h = (always_octal s slice cs a x i h).control.1

pub watchdog_base : WatchdogBase
watchdog_base = record {
  switched_on = switched_on;
  switched_off = switched_off;
  faults = faults;
  nothing_else = nothing_else;
  expires = expires;
  rests = rests;
  refills = refills;
  ticks_always = ticks_always;
}
