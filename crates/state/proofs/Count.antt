-- Cases counted in their order, one more behind them: what a number law for every enum needs.
use Prim.Native.Nat.{ℕ, zero, suc, ◌+◌, ◌<◌, ◌≤◌}
use native.Mathlib.Omega.{arith}
use native.Mathlib.Nat.{not-suc-le-zero, le_of_suc-le-suc, zero-add}
use mathlib.Core.Path.{◌≡◌, refl, sym, ap, ◌∙◌}
use mathlib.Core.Bool.{Bool, true, false}
use mathlib.Core.List.{List, [], ◌∷◌, map}
use lib.ListN.{length, get_or, get_or-eq_default, get_or-map}
use lib.Dec.{ltb}
use borrow.Author.Tests.{ltb-true, ltb-false}

-- as many numbers as asked for, from k on
abbrev pub count_up : ℕ → ℕ → List ℕ
count_up k zero = []
count_up k (suc n) = k ∷ count_up (suc k) n

-- a number for each case, by where it stands; last comes behind the others and answers every number past them
pub record Counts {A : Type 0} (cases : List A) (last : A) (number : A → ℕ) : Type 0 where
  pub back : (a : A) → get_or cases (number a) last ≡ a
  pub in_order : map number cases ≡ count_up 0 (length cases)
  pub behind : number last ≡ length cases

-- what stands at n
count_at : (k m n d : ℕ) → n < m → get_or (count_up k m) n d ≡ k + n
count_at k zero n d h = absurd (not-suc-le-zero h)
count_at k (suc m) zero d h = omega arith
count_at k (suc m) (suc n) d h = let e = count_at (suc k) m n d (le_of_suc-le-suc h) in omega (arith, e)

module _ {A : Type 0} {cases : List A} {last : A} {number : A → ℕ} (c : Counts cases last number) where
  -- a number up to the last is its case's
  pub counted : (n : ℕ) → n ≤ length cases → number (get_or cases n last) ≡ n
  counted n h = go (ltb n (length cases)) refl
    where
      go : (t : Bool) → ltb n (length cases) ≡ t → number (get_or cases n last) ≡ n
      go true e =
          sym (get_or-map number cases n last)
          ∙ ap (λ (l : List ℕ). get_or l n (number last)) c.in_order
          ∙ count_at 0 (length cases) n (number last) (ltb-true _ _ e)
          ∙ zero-add n
      go false e =
          let b : length cases ≤ n = ltb-false _ _ e in
          ap number (get_or-eq_default cases last b) ∙ c.behind ∙ omega arith

  -- every case has one
  pub count_le : (a : A) → number a ≤ length cases
  count_le a = go (ltb (length cases) (number a)) refl
    where
      go : (t : Bool) → ltb (length cases) (number a) ≡ t → number a ≤ length cases
      go true e =
          let b : length cases < number a = ltb-true _ _ e in
          let s : last ≡ a = sym (get_or-eq_default cases last (omega arith)) ∙ c.back a in
          let n : length cases ≡ number a = sym c.behind ∙ ap number s in
          omega arith
      go false e = ltb-false _ _ e

-- the last answers for a number past the others
pub past : {A : Type 0} (cases : List A) (n : ℕ) {last : A} → length cases ≤ n → last ≡ get_or cases n last
past cases n {last} h = sym (get_or-eq_default cases last h)

-- a number is none of those below k
abbrev pub Passed : ℕ → ℕ → Type 0
Passed n zero = Unit {0}
Passed n (suc k) = Passed n k × (n ≡ k → ⊥)

-- so it is at least k
pub passed : {n : ℕ} (k : ℕ) → Passed n k → k ≤ n
passed zero p = omega arith
passed (suc k) p = let h = passed k p.0 in let d = p.1 in omega arith
