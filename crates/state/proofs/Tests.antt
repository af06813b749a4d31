-- Tests joined by `&`, and the facts that they stand for.
use Prim.Native.Nat.{ℕ, zero, suc, ◌+◌, ◌≤◌, ◌<◌}
use native.Mathlib.Omega.{arith}
use mathlib.Core.Path.{◌≡◌, refl, sym, ap, ◌∙◌}
use mathlib.Core.Logic.{inl, inr, ⊎_elim}
use mathlib.Core.Bool.{Bool, true, false, cond, ◌&&◌, ◌||◌, not, false≢true, and_assoc, and_comm}
use mathlib.Core.List.{List, [], ◌∷◌, ◌++◌}
use lib.Dec.{leb, eqb}
use lib.ListN.{get_or, take, drop}
use borrow.Author.Tests.{leb-true, le-leb, lt-leb, eqb-true, eqb-false, eq-eqb, ne_eqb, not-false}
use Rattle.state.specs.declared.state.Sets.{Sets}
use Rattle.state.specs.Sound.{Within, NoneOr, SetsCounted}
use Rattle.state.specs.Well.{all_from, all, within, none_or, set_counts}
use Rattle.state.proofs.Choice.{and_left, and_right, or_holds}

-- the first of tests that all hold
from_first : (a : Bool) (l : List Bool) → all_from a l ≡ true → a ≡ true
from_first a [] h = h
from_first true (b ∷ l) h = refl
from_first false (b ∷ l) h = from_first false l h

-- and the others hold too
pub all_behind : (a : Bool) (l : List Bool) → all (a ∷ l) ≡ true → all l ≡ true
all_behind a [] h = refl
all_behind true (b ∷ l) h = h
all_behind false (b ∷ l) h = absurd (let e : false ≡ true = from_first false l h in let z : ◌≡◌ {A = ℕ} 0 1 = cc in omega arith)

-- each of tests that all hold
pub all_at : (l : List Bool) (i : ℕ) → all l ≡ true → get_or l i true ≡ true
all_at [] i h = refl
all_at (a ∷ l) zero h = from_first a l h
all_at (a ∷ l) (suc i) h = all_at l i (all_behind a l h)

-- one test that fails is enough
false_from : (l : List Bool) → all_from false l ≡ false
false_from [] = refl
false_from (b ∷ l) = false_from l

fails_from : (a : Bool) (l : List Bool) (i : ℕ) → get_or l i true ≡ false → all_from a l ≡ false
fails_from a [] i h = absurd (false≢true (sym h))
fails_from true (b ∷ l) zero h = ap (λ (t : Bool). all_from t l) h ∙ false_from l
fails_from false (b ∷ l) zero h = false_from l
fails_from a (b ∷ l) (suc i) h = fails_from (a && b) l i h

pub all_fails : (l : List Bool) (i : ℕ) → get_or l i true ≡ false → false ≡ all l
all_fails [] i h = absurd (false≢true (sym h))
all_fails (a ∷ l) zero h = sym (ap (λ (t : Bool). all_from t l) h ∙ false_from l)
all_fails (a ∷ l) (suc i) h = sym (fails_from a l i h)

-- the first of the tests, and the others
pub from_and : (a : Bool) (l : List Bool) → all_from a l ≡ (a && all l)
from_and true [] = refl
from_and true (b ∷ l) = refl
from_and false [] = refl
from_and false (b ∷ l) = from_and false l

-- none of them fails
abbrev pub Passed : List Bool → Type 0
Passed [] = Unit
Passed (a ∷ l) = (not a ≡ false) × Passed l

-- where the first n hold the others decide
pub others_decide : (n : ℕ) (l : List Bool) → Passed (take n l) → all (drop n l) ≡ all l
others_decide zero l h = refl
others_decide (suc n) [] h = refl
others_decide (suc n) (a ∷ l) h =
    others_decide n l h.1 ∙ sym (from_and a l ∙ ap (λ (t : Bool). t && all l) (not-false a h.0))

-- two lists of tests in one
all_append : (l r : List Bool) → all (l ++ r) ≡ (all l && all r)
all_append [] r = refl
all_append (a ∷ l) r =
    from_and a (l ++ r)
    ∙ ap (λ (t : Bool). a && t) (all_append l r)
    ∙ sym (and_assoc a (all l) (all r))
    ∙ ap (λ (t : Bool). t && all r) (sym (from_and a l))

-- in either order
pub all_swap : (l r : List Bool) → all (l ++ r) ≡ all (r ++ l)
all_swap l r = all_append l r ∙ and_comm (all l) (all r) ∙ sym (all_append r l)

-- one test of the second list taken ahead of both
pub test_first : (a : Bool) (l r : List Bool) → (a && all (l ++ r)) ≡ all (l ++ a ∷ r)
test_first a l r =
    ap (λ (t : Bool). a && t) (all_append l r)
    ∙ sym (and_assoc a (all l) (all r))
    ∙ ap (λ (t : Bool). t && all r) (and_comm a (all l))
    ∙ and_assoc (all l) a (all r)
    ∙ sym (all_append l (a ∷ r) ∙ ap (λ (t : Bool). all l && t) (from_and a r))

-- the range of a test that holds
pub within_true : (lo x hi : ℕ) → within lo x hi ≡ true → Within lo x hi
within_true lo x hi h =
    let tests = leb lo x ∷ leb x hi ∷ [] in
    (leb-true lo x (all_at tests 0 h), leb-true x hi (all_at tests 1 h))

-- the test holds in the range
pub within_holds : (lo x hi : ℕ) → Within lo x hi → within lo x hi ≡ true
within_holds lo x hi h = λ i. le-leb lo x h.0 i && le-leb x hi h.1 i

-- below, and above
pub within_below : (lo x hi : ℕ) → x < lo → within lo x hi ≡ false
within_below lo x hi h = ap (λ (t : Bool). t && leb x hi) (lt-leb lo x h)

pub within_above : (lo x hi : ℕ) → lo ≤ x → hi < x → within lo x hi ≡ false
within_above lo x hi h k = λ i. le-leb lo x h i && lt-leb x hi k i

-- the same with 0 for none
pub none_or_true : (lo x hi : ℕ) → none_or lo x hi ≡ true → NoneOr lo x hi
none_or_true lo x hi h = go (eqb x 0) refl h
  where
    go : (t : Bool) → eqb x 0 ≡ t → (t || within lo x hi) ≡ true → NoneOr lo x hi
    go true e g = inl (eqb-true x 0 e)
    go false e g = inr (within_true lo x hi g)

-- and back
pub none_or_holds : (lo x hi : ℕ) → NoneOr lo x hi → none_or lo x hi ≡ true
none_or_holds lo x hi h =
    ⊎_elim (λ e. λ i. eq-eqb x 0 e i || within lo x hi) (λ w. or_holds (eqb x 0) (within lo x hi) (λ _. within_holds lo x hi w)) h

-- one that is there
pub none_or_some : {lo x hi : ℕ} → NoneOr lo x hi → (x ≡ 0 → ⊥) → Within lo x hi
none_or_some (inl z) n = absurd (n z)
none_or_some (inr w) n = w

-- a range tested beside something else
pub within_and : (lo x hi : ℕ) (p : Bool) → within lo x hi && p ≡ true → Within lo x hi
within_and lo x hi p e = within_true lo x hi (and_left (within lo x hi) p e)

-- what the test says that not both of two lengths are 0
pub not_both_true : (a b : ℕ) → not (eqb a 0 && eqb b 0) ≡ true → 1 ≤ a + b
not_both_true zero zero h = absurd (false≢true h)
not_both_true zero (suc b) h = omega arith
not_both_true (suc a) b h = omega arith

-- and back
pub not_both_holds : (a b : ℕ) → 1 ≤ a + b → not (eqb a 0 && eqb b 0) ≡ true
not_both_holds zero zero h = absurd (omega arith)
not_both_holds zero (suc b) h = ap (λ (t : Bool). not t) (ne_eqb (suc b) 0 (λ z. omega arith))
not_both_holds (suc a) b h = ap (λ (t : Bool). not (t && eqb b 0)) (ne_eqb (suc a) 0 (λ z. omega arith))

-- what the test of a set's counts says
module _ (lo hi : ℕ) (x : Sets) where
  pub set_counts_true : set_counts lo x.shown x.waiting hi ≡ true → x.set.fresh ≡ not (eqb x.waiting 0) → SetsCounted lo hi x
  set_counts_true h marked = go (eqb x.shown 0) refl h
    where
      go : (t : Bool) → eqb x.shown 0 ≡ t → cond t (eqb x.waiting 0) (within lo x.shown hi && none_or lo x.waiting hi) ≡ true → SetsCounted lo hi x
      go true e g =
          let z = eqb-true x.waiting 0 g in
          record { shown = inl (eqb-true x.shown 0 e); waiting = inl z; fresh = marked; behind = λ _. z }
      go false e g =
          record {
            shown = inr (within_and lo x.shown hi (none_or lo x.waiting hi) g);
            waiting = none_or_true lo x.waiting hi (and_right (within lo x.shown hi) (none_or lo x.waiting hi) g);
            fresh = marked;
            behind = λ z. absurd (eqb-false x.shown 0 e z);
          }

  -- and back
  pub set_counts_holds : SetsCounted lo hi x → set_counts lo x.shown x.waiting hi ≡ true
  set_counts_holds h = go (eqb x.shown 0) refl
    where
      go : (t : Bool) → eqb x.shown 0 ≡ t → cond t (eqb x.waiting 0) (within lo x.shown hi && none_or lo x.waiting hi) ≡ true
      go true e = eq-eqb x.waiting 0 (h.behind (eqb-true x.shown 0 e))
      go false e = λ i. within_holds lo x.shown hi (none_or_some h.shown (eqb-false x.shown 0 e)) i && none_or_holds lo x.waiting hi h.waiting i

module _ (lo shown waiting hi : ℕ) where
  -- where one is shown its own range decides, and then the one that waits
  pub set_counts_out : (shown ≡ 0 → ⊥) → within lo shown hi ≡ false → false ≡ set_counts lo shown waiting hi
  set_counts_out n e = rw (ne_eqb shown 0 n, e)

  pub set_counts_in : (shown ≡ 0 → ⊥) → within lo shown hi ≡ true → none_or lo waiting hi ≡ set_counts lo shown waiting hi
  set_counts_in n e = rw (ne_eqb shown 0 n, e)
