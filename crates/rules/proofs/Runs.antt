-- A list of calls in two parts, and one list made on two sides, whatever a call is and whatever it is made on.
use Prim.Native.Nat.{suc}
use mathlib.Core.Path.{◌≡◌, refl, ap}
use mathlib.Core.List.{List, [], ◌∷◌, ◌++◌}
use lib.ListN.{length}
use Rattle.state.specs.Answer.{Answer}
use Rattle.rules.specs.Runs.{answers_to, left_by}

module _ {S E : Type 0} (next : S → E → S) where
  pub left_append : (s : S) (cs ds : List E) → left_by next s (cs ++ ds) ≡ left_by next (left_by next s cs) ds
  left_append s [] ds = refl
  left_append s (c ∷ cs) ds = left_append (next s c) cs ds

module _ {S E : Type 0} (answer : S → E → Answer) (next : S → E → S) where
  pub answers_append : (s : S) (cs ds : List E)
      → answers_to answer next s (cs ++ ds) ≡ answers_to answer next s cs ++ answers_to answer next (left_by next s cs) ds
  answers_append s [] ds = refl
  answers_append s (c ∷ cs) ds = ap (λ (later : List Answer). answer s c ∷ later) (answers_append (next s c) cs ds)

  -- each call has one answer
  pub answers_length : (s : S) (cs : List E) → length (answers_to answer next s cs) ≡ length cs
  answers_length s [] = refl
  answers_length s (c ∷ cs) = ap suc (answers_length (next s c) cs)

-- the same calls made on two sides: where a relation is kept by every call and lets both sides answer alike
module _ {S T E : Type 0} (answer : S → E → Answer) (next : S → E → S) (answer' : T → E → Answer) (next' : T → E → T) (R : S → T → Type 0)
    (tells : (s : S) (t : T) → R s t → (e : E) → answer s e ≡ answer' t e)
    (keeps : (s : S) (t : T) → R s t → (e : E) → R (next s e) (next' t e)) where
  -- they answer alike throughout
  pub answers_alike : (es : List E) (s : S) (t : T) → R s t → answers_to answer next s es ≡ answers_to answer' next' t es
  answers_alike [] s t r = refl
  answers_alike (e ∷ es) s t r = λ i. tells s t r e i ∷ answers_alike es (next s e) (next' t e) (keeps s t r e) i

  -- and are related behind the list
  pub left_alike : (es : List E) (s : S) (t : T) → R s t → R (left_by next s es) (left_by next' t es)
  left_alike [] s t r = r
  left_alike (e ∷ es) s t r = left_alike es (next s e) (next' t e) (keeps s t r e)
