-- A reader over lists of octets: the laws that the theorems share.
use Rattle.std.proofs.Common.{◌≡◌, ℕ, true, false, List, [], ◌∷◌, ◌++◌, refl, ap, ◌∙◌, arith}
use Rattle.telegram.specs.declared.reader.Reader.{Reader}
use Rattle.telegram.specs.declared.reader.Status.TheVariants.{Fresh, Inside, Complete, Broken}
use Rattle.telegram.specs.Reading.{start, off, reader_step, run_from, run, status}

-- a test that failed did not pass
pub no_true : {A : Type 0} → false ≡ true → A
no_true e = let z : ◌≡◌ {A = ℕ} 0 1 = cc in absurd (omega arith)

-- two statuses are never equal
pub broken_complete : Broken ≡ Complete → ⊥
broken_complete e = let z : ◌≡◌ {A = ℕ} 0 1 = cc in omega arith

pub inside_complete : Inside ≡ Complete → ⊥
inside_complete e = let z : ◌≡◌ {A = ℕ} 0 1 = cc in omega arith

pub inside_broken : Inside ≡ Broken → ⊥
inside_broken e = let z : ◌≡◌ {A = ℕ} 0 1 = cc in omega arith

pub fresh_complete : Fresh ≡ Complete → ⊥
fresh_complete e = let z : ◌≡◌ {A = ℕ} 0 1 = cc in omega arith

-- after a gap nothing has begun
pub start_fresh : status start ≡ Fresh
unfolding status
start_fresh = refl

-- a reader that is off is broken off
pub off_broken : status off ≡ Broken
unfolding status
off_broken = refl

-- equal readers run alike
pub on : {p q : Reader} (ys : List ℕ) → p ≡ q → run_from p ys ≡ run_from q ys
on ys e = ap (λ (r : Reader). run_from r ys) e

pub run_append : (r : Reader) (xs ys : List ℕ) → run_from r (xs ++ ys) ≡ run_from (run_from r xs) ys
run_append r [] ys = refl
run_append r (x ∷ xs) ys = run_append (reader_step r x) xs ys

-- one octet more
pub run_snoc : (xs : List ℕ) (b : ℕ) → run (xs ++ b ∷ []) ≡ reader_step (run xs) b
run_snoc xs b = run_append start xs (b ∷ [])

-- broken off stays so
step_off : (b : ℕ) → reader_step off b ≡ off
unfolding reader_step
step_off b = refl

off_stays : (ys : List ℕ) → run_from off ys ≡ off
off_stays [] = refl
off_stays (y ∷ ys) = rw (step_off y) (off_stays ys)

pub stays_broken : (ys : List ℕ) → status (run_from off ys) ≡ Broken
stays_broken ys = ap status (off_stays ys) ∙ off_broken
