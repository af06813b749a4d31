-- Calls made one after the other, whatever a call is and whatever it is made on.
use Rattle.std.specs.Prelude.{List, [], ◌∷◌}
use Rattle.state.specs.Answer.{Answer}

-- what a list of calls leaves; next: what the call e leaves of s
module _ {S E : Type 0} (next : S → E → S) where
  abbrev pub left_by : S → List E → S
  left_by s [] = s
  left_by s (e ∷ es) = left_by (next s e) es

-- the answers to it; answer: what the call e answers on s
module _ {S E : Type 0} (answer : S → E → Answer) (next : S → E → S) where
  abbrev pub answers_to : S → List E → List Answer
  answers_to s [] = []
  answers_to s (e ∷ es) = answer s e ∷ answers_to (next s e) es
