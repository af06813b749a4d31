-- Wrong answers to Pending: none of these functions keeps the promise, also if code and definition were both it.
use Prim.Native.Nat.{ℕ, ◌-◌, ◌<◌}
use native.Mathlib.Omega.{arith}
use mathlib.Core.Path.{◌≡◌, refl, sym, ◌∙◌}
use mathlib.Core.Bool.{true, false, cond, false≢true}
use mathlib.Core.Logic.{◌⊎◌, inl, inr}
use lib.Dec.{eqb}
use lib.Count.{count_leading_zeros}
use Rattle.buffers.specs.declared.events.Events.{Events}
use Rattle.buffers.specs.Events.{width, kept_events, bit, without, smallest_from, SmallestSet, AnswersSmallest}

-- ---- the two ways to be wrong

module _ (answer : Events → ℕ) (w n : ℕ) (answers : answer (record { word = w }) ≡ n) (right : AnswersSmallest answer) where
  told : SmallestSet w n
  told = (right (record { word = w }) n).0 answers

  -- a number is answered while a smaller one is set
  smaller_set : (k : ℕ) → k < n → bit w k ≡ true → ⊥
  smaller_set k h set = false≢true (sym (told.none_below k h) ∙ set)

  -- a number is answered that is not set
  not_set : n < width → bit w n ≡ false → ⊥
  not_set h unset = go told.set_or_none
    where
      go : ((n < width) × (bit w n ≡ true)) ⊎ (n ≡ width) → ⊥
      go (inl (l, set)) = false≢true (sym unset ∙ set)
      go (inr e) = absurd (omega arith)

-- ---- wrong answers

-- the greatest first
unfoldable greatest : Events → ℕ
greatest e = cond (eqb e.word 0) 16 (15 - count_leading_zeros 16 e.word)

not_greatest : ¬ AnswersSmallest greatest
unfolding greatest count_leading_zeros bit
not_greatest right = smaller_set greatest 3 1 refl right 0 (omega arith) refl

-- event 0 is not looked at: 16 while it is set
unfoldable without_event0 : Events → ℕ
without_event0 e = smallest_from (without e.word 1) 0 width

not_without_event_0 : ¬ AnswersSmallest without_event0
unfolding without_event0 smallest_from bit
not_without_event_0 right = smaller_set without_event0 1 16 refl right 0 (omega arith) refl

-- events that end with their set are not told
unfoldable without_sets : Events → ℕ
without_sets e = smallest_from (without e.word kept_events) 0 width

not_without_sets : ¬ AnswersSmallest without_sets
unfolding without_sets smallest_from bit
not_without_sets right = smaller_set without_sets 0x0400 16 refl right 10 (omega arith) refl

-- 11 ahead of 10, as the sets are judged
unfoldable parameters_first : Events → ℕ
parameters_first e = cond (eqb (smallest_from e.word 0 width) 10) (cond (bit e.word 11) 11 10) (smallest_from e.word 0 width)

not_parameters_first : ¬ AnswersSmallest parameters_first
unfolding parameters_first smallest_from bit
not_parameters_first right = smaller_set parameters_first 0x0C00 11 refl right 10 (omega arith) refl

-- 0 for none
unfoldable zero_for_none : Events → ℕ
zero_for_none e = cond (eqb e.word 0) 0 (smallest_from e.word 0 width)

not_zero_for_none : ¬ AnswersSmallest zero_for_none
unfolding zero_for_none smallest_from bit
not_zero_for_none right = not_set zero_for_none 0 0 refl right (omega arith) refl
