-- The smallest number of a set event: it is what pending_of answers, no other number is it, and so many zeros stand below the lowest set bit.
use Prim.Native.Nat.{ℕ, zero, suc, ◌+◌, ◌/◌, ◌%◌, ◌^◌, ◌<◌}
use native.Mathlib.Nat.{mod-lt, zero-lt-suc, zero-add, div-one, div-div-eq-div-mul, pow-suc, not-suc-le-zero, le_of_suc-le-suc, eq-or-lt_of_le}
use native.Mathlib.Omega.{arith}
use mathlib.Core.Path.{◌≡◌, refl, sym, ap, subst, ◌∙◌}
use mathlib.Core.Bool.{Bool, true, false, cond, false≢true}
use mathlib.Core.Logic.{◌⊎◌, inl, inr}
use lib.Dec.{eqb}
use lib.Count.{count_trailing_zeros, under}
use Rattle.buffers.specs.declared.events.Events.{Events}
use Rattle.buffers.specs.Events.{width, bit, smallest_from, pending_of, SmallestSet, AnswersSmallest, PendingExactly}

-- ---- exactly the smallest

-- no bit below n is set
abbrev NoneBelow : ℕ → ℕ → Type 0
NoneBelow w n = (k : ℕ) → k < n → bit w k ≡ false

-- nor is n itself
none_below_next : (w n : ℕ) → NoneBelow w n → bit w n ≡ false → NoneBelow w (suc n)
none_below_next w n below unset k h = go (eq-or-lt_of_le (le_of_suc-le-suc h))
  where
    go : (k ≡ n) ⊎ (k < n) → bit w k ≡ false
    go (inl e) = ap (bit w) e ∙ unset
    go (inr l) = below k l

-- what is found from n on is the smallest, if none is set below n
smallest_found : (w k n : ℕ) → n + k ≡ width → NoneBelow w n → SmallestSet w (smallest_from w n k)
unfolding smallest_from
smallest_found w zero n e below = record { set_or_none = inr (omega arith); none_below = below }
smallest_found w (suc k) n e below = go (bit w n) refl (smallest_found w k (suc n) (omega arith))
  where
    go : (t : Bool) → bit w n ≡ t → (NoneBelow w (suc n) → SmallestSet w (smallest_from w (suc n) k))
        → SmallestSet w (cond t n (smallest_from w (suc n) k))
    go true f next = record { set_or_none = inl (omega arith, f); none_below = below }
    go false f next = next (none_below_next w n below f)

-- no smallest number is below another
not_below : (w m n : ℕ) → SmallestSet w m → SmallestSet w n → ¬ (m < n)
not_below w m n p q h = go p.set_or_none q.set_or_none
  where
    go : ((m < width) × (bit w m ≡ true)) ⊎ (m ≡ width) → ((n < width) × (bit w n ≡ true)) ⊎ (n ≡ width) → ⊥
    go (inl (l, set)) other = false≢true (sym (q.none_below m h) ∙ set)
    go (inr e) (inl (l, set)) = absurd (omega arith)
    go (inr e) (inr f) = absurd (omega arith)

-- what is found from 0 on is the smallest, and the smallest is found
pending_smallest : AnswersSmallest pending_of
pending_smallest e n = (λ p. subst (SmallestSet e.word) p found, only_one)
  where
    found : SmallestSet e.word (pending_of e)
    found = smallest_found e.word width 0 refl (λ k h. absurd (not-suc-le-zero h))

    only_one : SmallestSet e.word n → pending_of e ≡ n
    only_one q =
        let not-smaller = not_below e.word (pending_of e) n found q in
        let not-greater = not_below e.word n (pending_of e) q found in
        omega (arith, not-smaller, not-greater)

pub pending_exactly : PendingExactly
pending_exactly = record {
  smallest = pending_smallest;
  no_choice = λ answer right e. (right e (pending_of e)).1 ((pending_smallest e (pending_of e)).0 refl);
}

-- ---- by counting zeros

-- from n on: the zeros of the word shifted by n
smallest_counted : (w k n : ℕ) → smallest_from w n k ≡ n + count_trailing_zeros k (w / 2 ^ n)
unfolding smallest_from count_trailing_zeros bit
smallest_counted w zero n = omega arith
smallest_counted w (suc k) n = go (w / 2 ^ n % 2) (mod-lt (w / 2 ^ n) (zero-lt-suc 1)) (smallest_counted w k (suc n))
  where
    halved : w / 2 ^ suc n ≡ w / 2 ^ n / 2
    halved = ap (λ x. w / x) (pow-suc 2 n) ∙ sym (div-div-eq-div-mul w (2 ^ n) 2)

    go : (r : ℕ) → r < 2 → smallest_from w (suc n) k ≡ suc n + count_trailing_zeros k (w / 2 ^ suc n)
        → cond (eqb r 1) n (smallest_from w (suc n) k) ≡ n + under r (count_trailing_zeros k (w / 2 ^ n / 2))
    go zero h e = let counted = ap (count_trailing_zeros k) halved in omega arith
    go (suc zero) h e = omega arith
    go (suc (suc r)) h e = absurd (omega arith)

-- from 0 on: the zeros of the word
pub pending_counted : (e : Events) → pending_of e ≡ count_trailing_zeros width e.word
pending_counted e = smallest_counted e.word width 0 ∙ zero-add _ ∙ ap (count_trailing_zeros width) (div-one e.word)
