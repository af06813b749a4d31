-- Roles that change places: what was a permutation stays one.
use Prim.Native.Nat.{ℕ, zero, suc, ◌<◌}
use native.Mathlib.Omega.{arith}
use native.Mathlib.Nat.{not-suc-le-zero, le_of_suc-le-suc}
use mathlib.Core.Path.{◌≡◌, refl, sym, ap, subst, ◌∙◌}
use mathlib.Core.Bool.{Bool, true, false, cond, not, ◌&&◌, false≢true}
use mathlib.Core.List.{List, [], ◌∷◌}
use lib.ListN.{length, get_or}
use lib.Dec.{eqb, ltb}
use borrow.Author.Tests.{eqb-true, eqb-false, eq-eqb, ltb-true}
use Rattle.std.proofs.lemmas.Bool.{and_parts}
use Rattle.buffers.specs.Roles.{Permutation, places_by, across, exchanged}

-- ---- the places by a function

-- so many are there
places_length : (n : ℕ) (f : ℕ → ℕ) → length (places_by n f) ≡ n
places_length zero f = refl
places_length (suc n) f = ap suc (places_length n (λ k. f (suc k)))

-- each is the function's
places_at : (n : ℕ) (f : ℕ → ℕ) (k : ℕ) → k < n → get_or (places_by n f) k 0 ≡ f k
places_at zero f k h = absurd (not-suc-le-zero h)
places_at (suc n) f zero h = refl
places_at (suc n) f (suc k) h = places_at n (λ m. f (suc m)) k (le_of_suc-le-suc h)

-- ---- two roles

-- who changes places twice is back
across_twice : (i j k : ℕ) → across i j (across i j k) ≡ k
across_twice i j k = go (eqb k i) (eqb k j) refl refl
  where
    same : (a : ℕ) → eqb a a ≡ true
    same a = eq-eqb a a refl

    go : (s t : Bool) → eqb k i ≡ s → eqb k j ≡ t → across i j (across i j k) ≡ k
    go true t e f =
        let u : k ≡ i = eqb-true k i e in
        let v : across i j k ≡ j = ap (λ b. cond b j (cond (eqb k j) i k)) e in
        ap (across i j) v ∙ from (eqb j i) refl ∙ sym u
      where
        from : (b : Bool) → eqb j i ≡ b → across i j j ≡ i
        from true w = ap (λ b. cond b j (cond (eqb j j) i j)) w ∙ eqb-true j i w
        from false w = ap (λ b. cond b j (cond (eqb j j) i j)) w ∙ ap (λ b. cond b i j) (same j)
    go false true e f =
        let u : k ≡ j = eqb-true k j f in
        let v : across i j k ≡ i = ap (λ b. cond b j (cond (eqb k j) i k)) e ∙ ap (λ b. cond b i k) f in
        ap (across i j) v ∙ ap (λ b. cond b j (cond (eqb i j) i i)) (same i) ∙ sym u
    go false false e f =
        let v : across i j k ≡ k = ap (λ b. cond b j (cond (eqb k j) i k)) e ∙ ap (λ b. cond b i k) f in
        ap (across i j) v ∙ v

-- it is one of the roles
across_below : (n i j k : ℕ) → i < n → j < n → k < n → across i j k < n
across_below n i j k hi hj hk = go (eqb k i) (eqb k j)
  where
    go : (s t : Bool) → cond s j (cond t i k) < n
    go true t = hj
    go false true = hi
    go false false = hk

-- ---- the permutation

-- two roles that change places leave a permutation: each operation of a set exchanges two roles or none
pub exchanged_permutes : (n i j : ℕ) (l : List ℕ) → i < n → j < n → Permutation n l → Permutation n (exchanged n i j l)
exchanged_permutes n i j l hi hj p =
    record {
      long = places_length n (λ k. get_or l (across i j k) 0);
      within = λ k h. subst (λ x. x < n) (sym (at k h)) (p.within (across i j k) (inside k h));
      apart = λ a b ha hb different same.
          p.apart (across i j a) (across i j b) (inside a ha) (inside b hb)
          (λ e. different (sym (across_twice i j a) ∙ ap (across i j) e ∙ across_twice i j b))
          (sym (at a ha) ∙ same ∙ at b hb);
    }
  where
    inside : (k : ℕ) → k < n → across i j k < n
    inside k h = across_below n i j k hi hj h

    at : (k : ℕ) → k < n → get_or (exchanged n i j l) k 0 ≡ get_or l (across i j k) 0
    at k h = places_at n (λ m. get_or l (across i j m) 0) k h

-- ---- a list that is tested

-- x is not in the list
abbrev pub absent : ℕ → List ℕ → Bool
absent x [] = true
absent x (y ∷ ys) = not (eqb x y) && absent x ys

-- each is below n and not among those behind it
abbrev pub permutes : ℕ → List ℕ → Bool
permutes n [] = true
permutes n (x ∷ xs) = ltb x n && (absent x xs && permutes n xs)

-- two that differ
differs : (x y : ℕ) → not (eqb x y) ≡ true → ¬ (x ≡ y)
differs x y h = go (eqb x y) refl h
  where
    go : (b : Bool) → eqb x y ≡ b → not b ≡ true → ¬ (x ≡ y)
    go true e f = absurd (false≢true f)
    go false e f = eqb-false x y e

absent_at : (x : ℕ) (l : List ℕ) (j : ℕ) → j < length l → absent x l ≡ true → ¬ (x ≡ get_or l j 0)
absent_at x [] j h t = absurd (not-suc-le-zero h)
absent_at x (y ∷ ys) zero h t = differs x y (and_parts (not (eqb x y)) (absent x ys) t).0
absent_at x (y ∷ ys) (suc j) h t = absent_at x ys j (le_of_suc-le-suc h) (and_parts (not (eqb x y)) (absent x ys) t).1

-- what the test says of those behind the first
behind : (n x : ℕ) (xs : List ℕ) → permutes n (x ∷ xs) ≡ true → (absent x xs ≡ true) × (permutes n xs ≡ true)
behind n x xs t = and_parts (absent x xs) (permutes n xs) (and_parts (ltb x n) (absent x xs && permutes n xs) t).1

within_at : (n : ℕ) (l : List ℕ) (i : ℕ) → i < length l → permutes n l ≡ true → get_or l i 0 < n
within_at n [] i h t = absurd (not-suc-le-zero h)
within_at n (x ∷ xs) zero h t = ltb-true x n (and_parts (ltb x n) (absent x xs && permutes n xs) t).0
within_at n (x ∷ xs) (suc i) h t = within_at n xs i (le_of_suc-le-suc h) (behind n x xs t).1

apart_at : (n : ℕ) (l : List ℕ) (i j : ℕ) → i < length l → j < length l → permutes n l ≡ true → ¬ (i ≡ j) → ¬ (get_or l i 0 ≡ get_or l j 0)
apart_at n [] i j hi hj t d = absurd (not-suc-le-zero hi)
apart_at n (x ∷ xs) zero zero hi hj t d = absurd (d refl)
apart_at n (x ∷ xs) zero (suc j) hi hj t d = absent_at x xs j (le_of_suc-le-suc hj) (behind n x xs t).0
apart_at n (x ∷ xs) (suc i) zero hi hj t d = λ e. absent_at x xs i (le_of_suc-le-suc hi) (behind n x xs t).0 (sym e)
apart_at n (x ∷ xs) (suc i) (suc j) hi hj t d =
    apart_at n xs i j (le_of_suc-le-suc hi) (le_of_suc-le-suc hj) (behind n x xs t).1 (λ e. d (ap suc e))

-- a list that passes is a permutation
pub tested : (n : ℕ) (l : List ℕ) → length l ≡ n → permutes n l ≡ true → Permutation n l
tested n l e t =
    record {
      long = e;
      within = λ i h. within_at n l i (omega arith) t;
      apart = λ i j hi hj d. apart_at n l i j (omega arith) (omega arith) t d;
    }
