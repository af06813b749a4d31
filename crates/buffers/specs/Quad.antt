-- A set of four, the output set, has the roles fill, next, held, back, always a permutation. withheld: back holds outputs that sync
-- holds back.
use Rattle.std.specs.Prelude.{ℕ, true, false, List, [], ◌∷◌}
use Rattle.buffers.specs.declared.quad.Quad.{Quad}
use Rattle.buffers.specs.Roles.{fill, next, held, back, exchanged}

-- each role at its own place, nothing new, nothing held back
abbrev pub initial : Quad
initial = record { place = 0 ∷ 1 ∷ 2 ∷ 3 ∷ []; fresh = false; withheld = false }

-- two roles change places
abbrev pub swapped : ℕ → ℕ → List ℕ → List ℕ
swapped i j l = exchanged 4 i j l

-- fill and next change places, and next is new
abbrev pub published : Quad → Quad
published q = record { place = swapped fill next q.place; fresh = true; withheld = q.withheld }

-- next and held change places, and nothing is new
abbrev pub taken : Quad → Quad
taken q = record { place = swapped next held q.place; fresh = false; withheld = q.withheld }

-- fill and back change places, and back is held back; next stays as it is
abbrev pub held_back : Quad → Quad
held_back q = record { place = swapped fill back q.place; fresh = q.fresh; withheld = true }

-- next and back change places, next is new, and nothing is held back any more
abbrev pub released : Quad → Quad
released q = record { place = swapped next back q.place; fresh = true; withheld = false }

-- next is new where it lies, and nothing is held back any more
abbrev pub renewed : Quad → Quad
renewed q = record { place = q.place; fresh = true; withheld = false }
