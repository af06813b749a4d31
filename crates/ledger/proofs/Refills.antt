-- Which telegrams refill the watchdog, and what else can become of it at a last octet (specs/Watchdog.antt: Refills).
use mathlib.Core.Path.{◌≡◌, refl, sym, ap, ◌∙◌}
use mathlib.Core.Bool.{Bool, true, false, cond, not, ◌&&◌}
use mathlib.Core.Logic.{◌⊎◌, inl, inr}
use lib.Dec.{eqb}
use lib.ListN.{length}
use borrow.Author.Tests.{eqb-true}
use Rattle.telegram.specs.Telegram.{Telegram, payload_of}
use Rattle.state.specs.declared.setup.Setup.{Setup}
use Rattle.state.specs.declared.control.Watchdog.{Watchdog}
use Rattle.state.specs.declared.control.Control.{Control}
use Rattle.state.specs.Start.{no_owner}
use Rattle.state.specs.Well.{within}
use Rattle.state.proofs.Tests.{within_true}
use Rattle.rules.specs.declared.request.Request.{Request}
use Rattle.rules.specs.declared.request.Service.TheVariants.{SetPrm}
use Rattle.rules.specs.declared.outcome.Outcome.{Outcome}
use Rattle.rules.specs.Control.{bit, owns}
use Rattle.rules.specs.Requests.{master_of, to_station, acts, refilled, service_of}
use Rattle.rules.specs.Retries.{is_repeat, chained, repeated}
use Rattle.rules.specs.Services.{other_owns, other_ident, serve}
use Rattle.rules.proofs.ByCases.{refilled_same}
use Rattle.rules.proofs.WatchdogMoves.{Stays, serve_stays}
use Rattle.ledger.specs.Ledger.{Ledger, occupied}
use Rattle.ledger.specs.Bus.{request_by, prm_by, data_by, outcome_of, answered}
use Rattle.ledger.specs.Watchdog.{Passes, Leaves, Refills}

module _ (l : Ledger) (t : Telegram) where
  abbrev g : Setup
  g = l.setup

  abbrev r : Request
  r = request_by t

  abbrev k : Control
  k = refilled g l.control r

  -- the tests of a Set_Prm that passed, with the watchdog refilled
  passed : is_repeat g l.control r ≡ false → service_of g r ≡ SetPrm → other_owns k (master_of r) ≡ false
      → within 7 r.count g.parameter_len ≡ true → bit (prm_by (payload_of t)).status 6 ≡ false → bit (prm_by (payload_of t)).status 7 ≡ true
      → other_ident g (prm_by (payload_of t)) ≡ false → Passes l t
  passed new service free fits unlock locks ident =
      let owner = (refilled_same g l.control r).0 in
      record {
        service = service;
        new = new;
        free = sym (λ i. not (eqb (owner i) no_owner) && not (eqb (owner i) (master_of r))) ∙ free;
        count = within_true 7 (length (payload_of t)) g.parameter_len fits;
        no_unlock = unlock;
        locks = locks;
        ident = eqb-true _ _ (not_off _ ident);
      }
    where
      not_off : (b : Bool) → not b ≡ false → b ≡ true
      not_off true e = refl
      not_off false e = sym e

  -- what comes of the telegram leaves the watchdog as it is once it is refilled, or switches it off, or the telegram is such a Set_Prm
  comes : Stays k.watchdog (outcome_of l r (payload_of t)) ⊎ Passes l t
  comes = go (is_repeat g l.control r) refl
    where
      made : Bool → Outcome
      made again = cond again (repeated g l.control r) (chained g r (serve (service_of g r) g k (occupied l) r (data_by (payload_of t))))

      served : (new : is_repeat g l.control r ≡ false) → Stays k.watchdog (serve (service_of g r) g k (occupied l) r (data_by (payload_of t))) ⊎ Passes l t
      served new = pick (serve_stays k g r {A = service_of g r ≡ SetPrm → Passes l t} (occupied l) (data_by (payload_of t)) (λ a b c d e s. passed new s a b c d e) (service_of g r))
        where
          pick : Stays k.watchdog (serve (service_of g r) g k (occupied l) r (data_by (payload_of t))) ⊎ ((service_of g r ≡ SetPrm) × (service_of g r ≡ SetPrm → Passes l t))
              → Stays k.watchdog (serve (service_of g r) g k (occupied l) r (data_by (payload_of t))) ⊎ Passes l t
          pick (inl h) = inl h
          pick (inr h) = inr (h.1 h.0)

      go : (again : Bool) → is_repeat g l.control r ≡ again → Stays k.watchdog (made again) ⊎ Passes l t
      go true e = inl (inl refl)
      go false e = served e

  -- in a ledger
  leaves : {w : Watchdog} → k.watchdog ≡ w → w.reload ≡ l.control.watchdog.reload → Leaves l t w.remaining
  unfolding answered
  leaves {w} e same = go comes
    where
      go : Stays k.watchdog (outcome_of l r (payload_of t)) ⊎ Passes l t → Leaves l t w.remaining
      go (inl (inl h)) = record { leaves = inl (ap (λ (x : Watchdog). x.reload) (h ∙ e) ∙ same, ap (λ (x : Watchdog). x.remaining) (h ∙ e)) }
      go (inl (inr h)) =
          record {
            leaves = inr (inl (h.0, record { reload = ap (λ (x : Watchdog). x.reload) h.1; remaining = ap (λ (x : Watchdog). x.remaining) h.1 }));
          }
      go (inr h) = record { leaves = inr (inr h) }

  -- the watchdog refilled or not
  refilled_by : {b : Bool} → acts g r && to_station g r && owns l.control (master_of r) ≡ b
      → k.watchdog ≡ cond b (record { reload = l.control.watchdog.reload; remaining = l.control.watchdog.reload }) l.control.watchdog
  unfolding refilled
  refilled_by {b} e = go b e
    where
      go : (b : Bool) → acts g r && to_station g r && owns l.control (master_of r) ≡ b
          → (refilled g l.control r).watchdog ≡ cond b (record { reload = l.control.watchdog.reload; remaining = l.control.watchdog.reload }) l.control.watchdog
      go true f = rw f
      go false f = rw f

pub refills : (l : Ledger) (t : Telegram) → Refills l t
refills l t = record { owners = λ e. leaves l t (refilled_by l t e) refl; others = λ e. leaves l t (refilled_by l t e) refl }
