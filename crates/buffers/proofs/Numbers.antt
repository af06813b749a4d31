-- The number of a permutation, and back. There are few enough of them to try each.
use Prim.Native.Nat.{ℕ, zero, suc, ◌-◌, ◌%◌, ◌<◌, ◌≤◌}
use native.Mathlib.Omega.{arith}
use mathlib.Core.Path.{◌≡◌, refl, sym, ap, subst, ◌∙◌}
use mathlib.Core.Bool.{Bool, true, false, cond, ◌&&◌}
use mathlib.Core.List.{List, [], ◌∷◌}
use lib.ListN.{length, get_or}
use borrow.Author.Tests.{eqb-true, ne_eqb}
use lib.Dec.{eqb, ltb}
use Rattle.buffers.specs.Roles.{fill_of, next_of, held_of, back_of, Permutation}
use Rattle.buffers.specs.Number.{before, number_of, permutations, places_of, number_of4, permutations4, places_of4}
use lib.Pointwise.{pointwise}
use Rattle.std.specs.Cmp.Lexicographic.{same_text}
use Rattle.std.proofs.lemmas.Bool.{and_parts}
use Rattle.buffers.proofs.Below.{all_below, passes_below}
use Rattle.buffers.proofs.Roles.{permutes, tested}

-- a flag adds one at most
pub before_le : (x y : ℕ) → before x y ≤ 1
before_le x y = go (ltb x y)
  where
    go : (t : Bool) → cond t 1 0 ≤ 1
    go true = omega arith
    go false = omega arith

-- a permutation by its tests
abbrev is_permutation : ℕ → List ℕ → Bool
is_permutation w l = eqb (length l) w && permutes w l

-- each list of a table passes
abbrev all_in : (List ℕ → Bool) → List (List ℕ) → Bool
all_in p [] = true
all_in p (l ∷ ls) = p l && all_in p ls

-- a test that fails leaves what stands behind it
skip : {t b : Bool} → t ≡ false → cond t true b ≡ true → b ≡ true
skip {b = b} e h = sym (ap (λ s. cond s true b) e) ∙ h

-- two roles of a permutation have places that differ
differ : {n : ℕ} {l : List ℕ} → Permutation n l → (i j : ℕ) → i < j → j < n → eqb (get_or l i 0) (get_or l j 0) ≡ false
differ {l = l} p i j h k = ne_eqb (get_or l i 0) (get_or l j 0) (p.apart i j (omega arith) k (λ z. omega arith))

-- a table of permutations gives one for each number, where what stands for none is one
listed : (w : ℕ) (table : List (List ℕ)) → all_in (is_permutation w) table ≡ true → (n : ℕ) (none : List ℕ) → length none ≡ w → permutes w none ≡ true
    → Permutation w (get_or table n none)
listed w [] h n none e t = tested w none e t
listed w (l ∷ table) h zero none e t =
    let q = (and_parts (is_permutation w l) (all_in (is_permutation w) table) h).0 in
    let r = and_parts (eqb (length l) w) (permutes w l) q in
    tested w l (eqb-true (length l) w r.0) r.1
listed w (l ∷ table) h (suc n) none e t = listed w table (and_parts (is_permutation w l) (all_in (is_permutation w) table) h).1 n none e t

-- ---- three roles

-- every list has a number below 6
pub number_below : (l : List ℕ) → number_of l < 6
number_below l = let h = before_le (held_of l) (next_of l) in omega arith

-- every number below 6 is its permutation's
pub number_places : (n : ℕ) → n < 6 → number_of (places_of n) ≡ n
unfolding places_of
number_places n h = eqb-true (number_of (places_of n)) n (passes_below 6 (λ m. eqb (number_of (places_of m)) m) refl n h)

-- every number gives a permutation
pub places_permutation : (n : ℕ) → Permutation 3 (places_of n)
unfolding places_of
places_permutation n = listed 3 permutations refl n (0 ∷ 1 ∷ 2 ∷ []) refl refl

-- a list of three is its three elements
three : (l : List ℕ) → length l ≡ 3 → fill_of l ∷ next_of l ∷ held_of l ∷ [] ≡ l
three [] e = absurd (omega (arith, e))
three (a ∷ []) e = absurd (omega (arith, e))
three (a ∷ b ∷ []) e = absurd (omega (arith, e))
three (a ∷ b ∷ c ∷ []) e = refl
three (a ∷ b ∷ c ∷ d ∷ l) e = absurd (omega (arith, e))

-- three places that differ come back from their number
abbrev come_back : ℕ → ℕ → ℕ → Bool
come_back a b c =
    cond (eqb a b) true (cond (eqb a c) true (cond (eqb b c) true (pointwise eqb (places_of (number_of (a ∷ b ∷ c ∷ []))) (a ∷ b ∷ c ∷ []))))

all_come_back : (a b c : ℕ) → a < 3 → b < 3 → c < 3 → come_back a b c ≡ true
unfolding places_of
all_come_back a b c ha hb hc =
    passes_below 3 (come_back a b)
    (passes_below 3 (λ y. all_below 3 (come_back a y)) (passes_below 3 (λ x. all_below 3 (λ y. all_below 3 (come_back x y))) refl a ha) b hb)
    c hc

-- a permutation is its number's
pub places_number : (l : List ℕ) → Permutation 3 l → places_of (number_of l) ≡ l
places_number l p =
    subst (λ x. places_of (number_of x) ≡ x) (three l p.long)
    (same_text _ _ (sym
    (skip (differ p 1 2 (omega arith) (omega arith))
    (skip (differ p 0 2 (omega arith) (omega arith))
    (skip (differ p 0 1 (omega arith) (omega arith))
    (all_come_back (fill_of l) (next_of l) (held_of l) (p.within 0 (omega arith)) (p.within 1 (omega arith)) (p.within 2 (omega arith))))))))

-- ---- four roles

-- every list has a number below 24
pub number4_below : (l : List ℕ) → number_of4 l < 24
number4_below l =
    let h = before_le (back_of l) (held_of l) in
    let k : (next_of l - before (fill_of l) (next_of l)) % 3 < 3 = omega arith in
    omega arith

-- every number below 24 is its permutation's
pub number4_places : (n : ℕ) → n < 24 → number_of4 (places_of4 n) ≡ n
unfolding places_of4
number4_places n h = eqb-true (number_of4 (places_of4 n)) n (passes_below 24 (λ m. eqb (number_of4 (places_of4 m)) m) refl n h)

-- every number gives a permutation
pub places4_permutation : (n : ℕ) → Permutation 4 (places_of4 n)
unfolding places_of4
places4_permutation n = listed 4 permutations4 refl n (0 ∷ 1 ∷ 2 ∷ 3 ∷ []) refl refl

-- a list of four is its four elements
four : (l : List ℕ) → length l ≡ 4 → fill_of l ∷ next_of l ∷ held_of l ∷ back_of l ∷ [] ≡ l
four [] e = absurd (omega (arith, e))
four (a ∷ []) e = absurd (omega (arith, e))
four (a ∷ b ∷ []) e = absurd (omega (arith, e))
four (a ∷ b ∷ c ∷ []) e = absurd (omega (arith, e))
four (a ∷ b ∷ c ∷ d ∷ []) e = refl
four (a ∷ b ∷ c ∷ d ∷ x ∷ l) e = absurd (omega (arith, e))

-- four places that differ come back from their number
abbrev come_back4 : ℕ → ℕ → ℕ → ℕ → Bool
come_back4 a b c d =
    cond (eqb a b) true
    (cond (eqb a c) true
    (cond (eqb a d) true
    (cond (eqb b c) true
    (cond (eqb b d) true
    (cond (eqb c d) true (pointwise eqb (places_of4 (number_of4 (a ∷ b ∷ c ∷ d ∷ []))) (a ∷ b ∷ c ∷ d ∷ [])))))))

all_come_back4 : (a b c d : ℕ) → a < 4 → b < 4 → c < 4 → d < 4 → come_back4 a b c d ≡ true
unfolding places_of4
all_come_back4 a b c d ha hb hc hd =
    passes_below 4 (come_back4 a b c)
    (passes_below 4 (λ z. all_below 4 (come_back4 a b z))
    (passes_below 4 (λ y. all_below 4 (λ z. all_below 4 (come_back4 a y z)))
    (passes_below 4 (λ x. all_below 4 (λ y. all_below 4 (λ z. all_below 4 (come_back4 x y z)))) refl a ha) b hb) c hc) d hd

-- a permutation is its number's
pub places4_number : (l : List ℕ) → Permutation 4 l → places_of4 (number_of4 l) ≡ l
places4_number l p =
    subst (λ x. places_of4 (number_of4 x) ≡ x) (four l p.long)
    (same_text _ _ (sym
    (skip (differ p 2 3 (omega arith) (omega arith))
    (skip (differ p 1 3 (omega arith) (omega arith))
    (skip (differ p 1 2 (omega arith) (omega arith))
    (skip (differ p 0 3 (omega arith) (omega arith))
    (skip (differ p 0 2 (omega arith) (omega arith))
    (skip (differ p 0 1 (omega arith) (omega arith))
    (all_come_back4 (fill_of l) (next_of l) (held_of l) (back_of l) (p.within 0 (omega arith)) (p.within 1 (omega arith)) (p.within 2 (omega arith)) (p.within 3 (omega arith)))))))))))
