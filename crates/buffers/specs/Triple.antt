-- A set of three has the roles fill, next, held, always a permutation.
use Rattle.std.specs.Prelude.{ℕ, true, false, List, [], ◌∷◌}
use Rattle.buffers.specs.declared.triple.Triple.{Triple}
use Rattle.buffers.specs.Roles.{fill, next, held, exchanged}

-- each role at its own place, nothing new
abbrev pub initial : Triple
initial = record { place = 0 ∷ 1 ∷ 2 ∷ []; fresh = false }

-- two roles change places
abbrev pub swapped : ℕ → ℕ → List ℕ → List ℕ
swapped i j l = exchanged 3 i j l

-- fill and next change places, and next is new
abbrev pub published : Triple → Triple
published t = record { place = swapped fill next t.place; fresh = true }

-- next and held change places, and nothing is new
abbrev pub taken : Triple → Triple
taken t = record { place = swapped next held t.place; fresh = false }

-- held and next change places, and next is new
abbrev pub handed_over : Triple → Triple
handed_over t = record { place = swapped next held t.place; fresh = true }

-- fill and next change places, and nothing is new: new inputs come to the buffer that is sent from
abbrev pub brought : Triple → Triple
brought t = record { place = swapped fill next t.place; fresh = false }

-- fill and held change places, the mark as it was: a received set is shown because none is open
abbrev pub shown : Triple → Triple
shown t = record { place = swapped fill held t.place; fresh = t.fresh }

-- nothing is new any more
abbrev pub dropped : Triple → Triple
dropped t = record { place = t.place; fresh = false }
