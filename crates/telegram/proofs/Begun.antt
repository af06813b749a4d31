-- Only before the first octet has nothing begun.
use Rattle.std.proofs.Common.{◌≡◌, ℕ, Bool, true, false, List, [], ◌∷◌, sym, refl, ap, ◌∙◌, arith}
use Rattle.telegram.specs.declared.Kind.TheVariants.{Sd1}
use Rattle.telegram.specs.declared.reader.Phase.TheVariants.{Start}
use Rattle.telegram.specs.declared.reader.Reader.{Reader}
use Rattle.telegram.specs.declared.reader.Status.{Status}
use Rattle.telegram.specs.declared.reader.Status.TheVariants.{Fresh, Inside, Complete, Broken}
use Rattle.telegram.specs.Reading.{before, reader_step, step_at, run_from, run, status}
use Rattle.telegram.proofs.Run.{no_true}

abbrev is_fresh : Status → Bool
is_fresh Fresh = true
is_fresh Inside = false
is_fresh Complete = false
is_fresh Broken = false

step_on : (r : Reader) (b : ℕ) → is_fresh (status (reader_step r b)) ≡ false
unfolding reader_step step_at status
step_on r b = grind arith

run_on : (r : Reader) (x : ℕ) (xs : List ℕ) → is_fresh (status (run_from r (x ∷ xs))) ≡ false
run_on r x [] = step_on r x
run_on r x (y ∷ ys) = run_on (reader_step r x) y ys

pub begun : (xs : List ℕ) → status (run xs) ≡ Fresh → xs ≡ []
begun [] e = refl
begun (x ∷ xs) e = no_true (sym (run_on (before Start Sd1 0) x xs) ∙ ap is_fresh e)
