-- A run that has come to the state t and the memory zs, with rest still to come: it holds at the start and after one more
-- octet or Tick, and at the end it says what the whole run does.
use Prim.Native.Nat.{ℕ, suc, ◌+◌, ◌-◌, ◌<◌}
use native.Mathlib.Omega.{arith}
use native.Mathlib.Numerals.{unary_clauses}
use mathlib.Core.Path.{◌≡◌, refl, subst, ◌∙◌}
use mathlib.Core.Bool.{false}
use mathlib.Core.List.{List, [], ◌∷◌, ◌++◌}
use lib.ListN.{length, get_or, drop}
use lib.Seq.{drop-cons}
use Rattle.state.specs.declared.state.State.{State}
use Rattle.steps.specs.Safe.{Safe}
use Rattle.steps.specs.Stepped.{Stepped, Steps}
use Rattle.steps.specs.Reading.{heard}
use Rattle.steps.specs.Bus.{elapsed}
use Rattle.steps.proofs.KeepsSafe.{safe_steps}
use Rattle.lent.specs.Run.{Beat, beat, run_beats, well_received, ticks}
use Rattle.lent.proofs.Same.{safe_beat}

-- end: what the whole run comes to
pub record Partly (end : Stepped) (t : State) (zs : List ℕ) (rest : List Beat) : Type 0 where
  pub safe : Safe t zs
  pub comes : run_beats t zs rest ≡ end

module _ {end : Stepped} {t : State} {zs : List ℕ} where
  pub partly_next : (b : Beat) {rest : List Beat} {u : State} {us : List ℕ} → Partly end t zs (b ∷ rest) → Steps (beat t zs b) u us → Partly end u us rest
  partly_next b {rest} {u} {us} p e = record {
    safe = safe_steps (beat t zs b) u us e (safe_beat t zs p.safe b);
    comes = (λ i. run_beats (e.states i) (e.leaves i) rest) ∙ p.comes;
  }

  -- ---- octets from i on

  pub next_octet : (os : List ℕ) (i : ℕ) {u : State} {us : List ℕ} → i < length os → Partly end t zs (well_received (drop i os))
      → Steps (heard t zs (get_or os i 0) false) u us → Partly end u us (well_received (drop (i + 1) os))
  next_octet os i h p =
      let e : drop i os ≡ get_or os i 0 ∷ drop (i + 1) os = simp unary_clauses (drop-cons os i 0 h) in
      partly_next _ (subst (λ (l : List ℕ). Partly end t zs (well_received l)) e p)

  -- ---- Ticks from i on

  pub next_tick : (n i : ℕ) {u : State} {us : List ℕ} → i < n → Partly end t zs (ticks (n - i)) → Steps (elapsed t zs) u us
      → Partly end u us (ticks (n - (i + 1)))
  next_tick n i h p = let e : n - i ≡ suc (n - (i + 1)) = omega arith in partly_next _ (subst (λ (k : ℕ). Partly end t zs (ticks k)) e p)

-- ---- runs in parts

pub run_append : (xs ys : List Beat) (s : State) (m : List ℕ) → run_beats s m (xs ++ ys) ≡ run_beats (run_beats s m xs).state (run_beats s m xs).memory ys
run_append [] ys s m = refl
run_append (x ∷ xs) ys s m = run_append xs ys (beat s m x).state (beat s m x).memory
