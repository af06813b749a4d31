-- Equal codes are equal answers: a refusal is told apart from every value and from every other refusal.
use Rattle.std.specs.Prelude.{Ok, Err}
use mathlib.Core.Path.{◌≡◌, refl, sym, ap, ◌∙◌}
use mathlib.Core.List.{List, [], ◌∷◌}
use lib.IntN.{ℤ, pos, negsuc}
use lib.ListN.{get_or}
use Rattle.state.specs.declared.answer.Refusal.{Refusal}
use Rattle.state.specs.declared.answer.Refusal.TheVariants.{MemoryLength, Address, Length, Room, Damaged, Judging, Range, Absent, Delayed, Cell}
use Rattle.state.specs.Answer.{Answer, answer_number}

-- the refusals in the order of their numbers
abbrev refusals : List Refusal
refusals = MemoryLength ∷ Address ∷ Length ∷ Room ∷ Damaged ∷ Judging ∷ Range ∷ Absent ∷ Delayed ∷ Cell ∷ []

-- the answer that has a code
abbrev answer_of : ℤ → Answer
answer_of (pos n) = Ok n
answer_of (negsuc n) = Err (get_or refusals n Cell)

code_back : (a : Answer) → answer_of (answer_number a) ≡ a
code_back (Ok n) = refl
code_back (Err MemoryLength) = refl
code_back (Err Address) = refl
code_back (Err Length) = refl
code_back (Err Room) = refl
code_back (Err Damaged) = refl
code_back (Err Judging) = refl
code_back (Err Range) = refl
code_back (Err Absent) = refl
code_back (Err Delayed) = refl
code_back (Err Cell) = refl

pub codes_equal : (a b : Answer) → answer_number a ≡ answer_number b → a ≡ b
codes_equal a b e = sym (code_back a) ∙ ap answer_of e ∙ code_back b
