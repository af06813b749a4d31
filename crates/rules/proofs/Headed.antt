-- What the header of a telegram is, by the service that it asks for.
use Prim.Native.Nat.{ℕ, ◌≤◌, ◌<◌}
use mathlib.Core.Path.{◌≡◌}
use mathlib.Core.Bool.{Bool, true, not, ◌&&◌, ◌||◌}
use lib.Dec.{eqb, leb}
use borrow.Author.Tests.{leb-true, leb-false, eqb-true, not-true, not-false}
use Rattle.telegram.specs.declared.Kind.{Kind}
use Rattle.telegram.specs.declared.Kind.TheVariants.{Sd1, Sd2, Sd3, Sd4}
use Rattle.state.specs.declared.setup.Setup.{Setup}
use Rattle.state.proofs.Choice.{by_test, and_left, and_right}
use Rattle.rules.specs.declared.request.Request.{Request}
use Rattle.rules.specs.declared.request.Service.{Service}
use Rattle.rules.specs.declared.request.Service.TheVariants.{Nothing, Status, Reject, GlobalControl, DataExchange, SetPrm, ChkCfg, SlaveDiag, GetCfg, ReadInputs, ReadOutputs}
use Rattle.rules.specs.Control.{bit}
use Rattle.rules.specs.Requests.{master_of, to_station, to_all, acts, extended, function_of, sends_and_requests, wants_acknowledgement, wants_none, global_form, status_by, point_of, request_of, function_service, service_of}

-- it came without extension
abbrev pub Plain : Request → Type 0
Plain r = r.da < 128

-- it came to this service point
abbrev pub To : Request → ℕ → Type 0
To r point = (128 ≤ r.da) × (r.dsap ≡ point)

-- each service whose data is stored has its own form
abbrev pub Headed : Service → Request → Type 0
Headed Nothing r = Unit
Headed Status r = Unit
Headed Reject r = Unit
Headed GlobalControl r = Unit
Headed DataExchange r = Plain r
Headed SetPrm r = To r 61
Headed ChkCfg r = To r 62
Headed SlaveDiag r = Unit
Headed GetCfg r = Unit
Headed ReadInputs r = Unit
Headed ReadOutputs r = Unit

module _ (r : Request) where
  -- what the service asked for says of the header
  Says : Service → Type 0
  Says v = Headed v r

  status_headed : (k : Kind) → Headed (status_by k) r
  status_headed Sd1 = tt
  status_headed Sd2 = tt
  status_headed Sd3 = tt
  status_headed Sd4 = tt

  point_headed : 128 ≤ r.da → Headed (point_of r) r
  unfolding Says
  point_headed h =
      by_test Says (eqb r.dsap 61) _ _ (λ e. (h, eqb-true r.dsap 61 e))
      (λ _. by_test Says (eqb r.dsap 62) _ _ (λ e. (h, eqb-true r.dsap 62 e))
      (λ _. by_test Says (not (eqb r.count 0)) _ _ (λ _. tt)
      (λ _. by_test Says (eqb r.dsap 60) _ _ (λ _. tt)
      (λ _. by_test Says (eqb r.dsap 59) _ _ (λ _. tt)
      (λ _. by_test Says (eqb r.dsap 56) _ _ (λ _. tt)
      (λ _. by_test Says (eqb r.dsap 57) _ _ (λ _. tt) (λ _. tt)))))))

  request_headed : Headed (request_of r) r
  unfolding Says
  request_headed =
      by_test Says (not (extended r)) _ _ (λ e. leb-false 128 r.da (not-true (extended r) e))
      (λ e. by_test Says (not (eqb r.ssap 62)) _ _ (λ _. tt) (λ _. point_headed (leb-true 128 r.da (not-false (extended r) e))))

  function_headed : Headed (function_service r) r
  unfolding Says
  function_headed =
      by_test Says (eqb (function_of r) 9) _ _ (λ _. status_headed r.kind)
      (λ _. by_test Says (wants_acknowledgement r) _ _ (λ _. tt)
      (λ _. by_test Says (wants_none r) _ _ (λ _. by_test Says (global_form r) _ _ (λ _. tt) (λ _. tt))
      (λ _. by_test Says (sends_and_requests r) _ _ (λ _. request_headed) (λ _. tt))))

  -- every telegram has the form of the service that it asks for
  pub headed : (g : Setup) → Headed (service_of g r) r
  unfolding Says service_of
  headed g = by_test Says (acts g r) _ _ (λ _. function_headed) (λ _. tt)

-- the master of a telegram that acts is at most 126
pub acts_master : (s : Setup) (r : Request) → acts s r ≡ true → master_of r ≤ 126
acts_master s r e =
    let x : Bool = to_station s r || to_all r in
    let y : Bool = leb (master_of r) 126 in
    let z : Bool = not (bit r.fc 7) in
    leb-true (master_of r) 126 (and_right x y (and_left (x && y) z (and_left (x && y && z) (bit r.fc 6) e)))
