-- What is no request: a telegram with function 4 or 6, or one that does not act. It asks for nothing or is a Global_Control, changes no set and draws
-- nothing.
use Prim.Native.Nat.{ℕ}
use native.Mathlib.Omega.{arith}
use mathlib.Core.Path.{◌≡◌, refl, sym, ◌∙◌}
use mathlib.Core.Bool.{Bool, true, false, ◌||◌}
use mathlib.Core.Logic.{◌⊎◌, inl, inr}
use lib.Dec.{eqb}
use borrow.Author.Tests.{eqb-true, ne_eqb, not-false}
use Rattle.telegram.proofs.Run.{no_true}
use Rattle.state.specs.declared.setup.Setup.{Setup}
use Rattle.state.specs.declared.control.Control.{Control}
use Rattle.state.specs.declared.state.Drawn.TheVariants as drawn
use Rattle.state.proofs.Choice.{by_test, either, or_either, and_second}
use Rattle.rules.specs.declared.request.Request.{Request}
use Rattle.rules.specs.declared.request.Data.{Data}
use Rattle.rules.specs.declared.request.Occupied.{Occupied}
use Rattle.rules.specs.declared.request.Service.{Service}
use Rattle.rules.specs.declared.request.Service.TheVariants.{Nothing, Status, Reject, GlobalControl, DataExchange, SetPrm, ChkCfg, SlaveDiag, GetCfg, ReadInputs, ReadOutputs}
use Rattle.rules.specs.declared.outcome.SetDeed.TheVariants as set-deed
use Rattle.rules.specs.declared.outcome.Outcome.{Outcome}
use Rattle.rules.specs.Requests.{function_of, wants_acknowledgement, wants_none, global_form, acts, function_service, service_of}
use Rattle.rules.specs.Retries.{asks, is_request}
use Rattle.rules.specs.Services.{controls, global_control, serve}

-- nothing, or Global_Control
abbrev pub Unasked : Service → Type 0
Unasked Nothing = Unit
Unasked Status = ⊥
Unasked Reject = ⊥
Unasked GlobalControl = Unit
Unasked DataExchange = ⊥
Unasked SetPrm = ⊥
Unasked ChkCfg = ⊥
Unasked SlaveDiag = ⊥
Unasked GetCfg = ⊥
Unasked ReadInputs = ⊥
Unasked ReadOutputs = ⊥

-- no set changes, and nothing is drawn
abbrev pub Silent : Outcome → Type 0
Silent o = (o.parameters ≡ set-deed.Keep) × (o.configuration ≡ set-deed.Keep) × (o.drawn ≡ drawn.Nothing)

-- functions 4 and 6 are no other
other_function : (f n : ℕ) → eqb f 4 || eqb f 6 ≡ true → (n ≡ 4 → ⊥) → (n ≡ 6 → ⊥) → eqb f n ≡ false
other_function f n e x y = go (or_either (eqb f 4) (eqb f 6) e)
  where
    go : (eqb f 4 ≡ true) ⊎ (eqb f 6 ≡ true) → eqb f n ≡ false
    go (inl h) = ne_eqb f n (λ z. x (sym z ∙ eqb-true f 4 h))
    go (inr h) = ne_eqb f n (λ z. y (sym z ∙ eqb-true f 6 h))

module _ (g : Setup) (r : Request) where
  function_unasked : wants_none r ≡ true → Unasked (function_service r)
  function_unasked e =
      let f = function_of r in
      let no-status = other_function f 9 e (λ z. omega arith) (λ z. omega arith) in
      let no-3 = other_function f 3 e (λ z. omega arith) (λ z. omega arith) in
      let no-5 = other_function f 5 e (λ z. omega arith) (λ z. omega arith) in
      by_test Unasked (eqb f 9) _ _ (λ h. no_true (sym no-status ∙ h))
      (λ _. by_test Unasked (wants_acknowledgement r) _ _ (λ h. no_true ((λ i. sym no-3 i || sym no-5 i) ∙ h))
      (λ _. by_test Unasked (wants_none r) _ _ (λ _. either Unasked (global_form r) tt tt) (λ h. no_true (sym h ∙ e))))

  service_unasked : is_request g r ≡ false → Unasked (service_of g r)
  unfolding service_of
  service_unasked e =
      by_test Unasked (acts g r) _ _ (λ h. function_unasked (not-false (wants_none r) (and_second (acts g r) (asks r) e h))) (λ _. tt)

-- so what asks for anything else is one
pub request_asked : (g : Setup) (r : Request) → (Unasked (service_of g r) → ⊥) → is_request g r ≡ true
request_asked g r f = go (is_request g r) refl
  where
    go : (t : Bool) → is_request g r ≡ t → t ≡ true
    go true e = refl
    go false e = absurd (f (service_unasked g r e))

module _ (g : Setup) (c : Control) (b : Occupied) (r : Request) (octets : Data) where
  serve_silent : (v : Service) → Unasked v → Silent (serve v g c b r octets)
  unfolding global_control
  serve_silent Nothing h = (refl, refl, refl)
  serve_silent Status h = absurd h
  serve_silent Reject h = absurd h
  serve_silent GlobalControl h = either Silent (controls c r octets.second) (refl, refl, refl) (refl, refl, refl)
  serve_silent DataExchange h = absurd h
  serve_silent SetPrm h = absurd h
  serve_silent ChkCfg h = absurd h
  serve_silent SlaveDiag h = absurd h
  serve_silent GetCfg h = absurd h
  serve_silent ReadInputs h = absurd h
  serve_silent ReadOutputs h = absurd h

  -- what is no request changes no set and draws nothing
  pub unasked_silent : is_request g r ≡ false → Silent (serve (service_of g r) g c b r octets)
  unasked_silent e = serve_silent (service_of g r) (service_unasked g r e)
