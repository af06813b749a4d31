-- Steps in a row are one run, and a run on the state that a memory holds, packed again, is what the exported calls leave.
use Prim.Native.Nat.{ℕ}
use mathlib.Core.Path.{◌≡◌, refl, sym, ap, ◌∙◌}
use mathlib.Core.Bool.{false}
use lib.ListN.{length}
use mathlib.Core.List.{List, [], ◌∷◌, ◌++◌}
use Rattle.state.specs.declared.state.State.{State}
use Rattle.state.specs.Answer.{Called}
use Rattle.state.specs.Memory.{kept, Holds}
use Rattle.steps.specs.Calls.{well_memory, memory_after}
use Rattle.rules.specs.Call.{Call}
use Rattle.steps.specs.Safe.{Safe}
use Rattle.steps.specs.Stepped.{Stepped, Steps}
use Rattle.steps.proofs.KeepsSafe.{safe_steps}
use Rattle.steps.specs.Demand1.{LengthIn}
use Rattle.steps.proofs.Guarded.{called_damaged}
use Rattle.lent.specs.Run.{Beat, run_beats, calls}
use Rattle.lent.proofs.Partly.{run_append}
use Rattle.lent.proofs.Same.{safe_run, lent_image}

-- what is needed of a state and a memory holds after a run
pub safe_after : (s : State) (m : List ℕ) (bs : List Beat) (t : State) (zs : List ℕ) → Safe s m → Steps (run_beats s m bs) t zs → Safe t zs
safe_after s m bs t zs h e = safe_steps (run_beats s m bs) t zs e (safe_run bs s m h)

-- one run after another
pub in_turn : (s : State) (m : List ℕ) (xs ys : List Beat) (t : State) (zs : List ℕ) (r : State) (ws : List ℕ)
    → Steps (run_beats s m xs) t zs → Steps (run_beats t zs ys) r ws → Steps (run_beats s m (xs ++ ys)) r ws
in_turn s m xs ys t zs r ws e f =
    let p : run_beats t zs ys ≡ run_beats s m (xs ++ ys) = (λ i. run_beats (e.states i) (e.leaves i) ys) ∙ sym (run_append xs ys s m) in
    record { states = f.states ∙ ap (λ (q : Stepped). q.state) p; leaves = f.leaves ∙ ap (λ (q : Stepped). q.memory) p }

-- packed where it ends
pub packed_again : (m : List ℕ) (s : State) (bs : List Beat) (t : State) (zs out : List ℕ) → LengthIn (length m) → Holds m s → Steps (run_beats s m bs) t zs → out ≡ kept t zs
    → out ≡ memory_after m (calls bs)
packed_again m s bs t zs out n h e k = k ∙ (λ i. kept (e.states i) (e.leaves i)) ∙ lent_image m s n h bs

-- a damaged memory is left as it is
pub left_damaged : (cs : List Call) (m : List ℕ) → well_memory m ≡ false → m ≡ memory_after m cs
left_damaged [] m e = refl
left_damaged (c ∷ cs) m e = left_damaged cs m e ∙ ap (λ (r : Called). memory_after r.memory cs) (sym (called_damaged m c e))
