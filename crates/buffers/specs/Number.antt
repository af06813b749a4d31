-- The roles of a set as one number: 0 to 5 for three, 0 to 23 for four.
use Rattle.std.specs.Prelude.{ℕ, ◌+◌, ◌-◌, ◌*◌, ◌%◌, Bool, cond, List, [], ◌∷◌, get_or, ltb}
use Rattle.buffers.specs.declared.triple.Triple.{Triple}
use Rattle.buffers.specs.declared.quad.Quad.{Quad}
use Rattle.buffers.specs.Roles.{fill_of, next_of, held_of, back_of}

-- 1 where x lies before y
abbrev pub before : ℕ → ℕ → ℕ
before x y = cond (ltb x y) 1 0

-- two numbers for each place of fill; the second of them where held lies before next
abbrev pub number_of : List ℕ → ℕ
number_of l = 2 * (fill_of l % 3) + before (held_of l) (next_of l)

-- the six permutations in the order of their numbers
abbrev pub permutations : List (List ℕ)
permutations =
    (0 ∷ 1 ∷ 2 ∷ [])
    ∷ (0 ∷ 2 ∷ 1 ∷ [])
    ∷ (1 ∷ 0 ∷ 2 ∷ [])
    ∷ (1 ∷ 2 ∷ 0 ∷ [])
    ∷ (2 ∷ 0 ∷ 1 ∷ [])
    ∷ (2 ∷ 1 ∷ 0 ∷ [])
    ∷ []

-- the permutation of a number; the first one where there is none
unfoldable pub places_of : ℕ → List ℕ
places_of n = get_or permutations n (0 ∷ 1 ∷ 2 ∷ [])

-- the set whose roles have that number
abbrev pub numbered : ℕ → Bool → Triple
numbered n fresh = record { place = places_of n; fresh = fresh }

-- six numbers for each place of fill, two of them for each place of next among those left; the second where back lies before held
abbrev pub number_of4 : List ℕ → ℕ
number_of4 l = 6 * (fill_of l % 4) + 2 * ((next_of l - before (fill_of l) (next_of l)) % 3) + before (back_of l) (held_of l)

-- the twenty-four permutations in the order of their numbers
abbrev pub permutations4 : List (List ℕ)
permutations4 =
    (0 ∷ 1 ∷ 2 ∷ 3 ∷ [])
    ∷ (0 ∷ 1 ∷ 3 ∷ 2 ∷ [])
    ∷ (0 ∷ 2 ∷ 1 ∷ 3 ∷ [])
    ∷ (0 ∷ 2 ∷ 3 ∷ 1 ∷ [])
    ∷ (0 ∷ 3 ∷ 1 ∷ 2 ∷ [])
    ∷ (0 ∷ 3 ∷ 2 ∷ 1 ∷ [])
    ∷ (1 ∷ 0 ∷ 2 ∷ 3 ∷ [])
    ∷ (1 ∷ 0 ∷ 3 ∷ 2 ∷ [])
    ∷ (1 ∷ 2 ∷ 0 ∷ 3 ∷ [])
    ∷ (1 ∷ 2 ∷ 3 ∷ 0 ∷ [])
    ∷ (1 ∷ 3 ∷ 0 ∷ 2 ∷ [])
    ∷ (1 ∷ 3 ∷ 2 ∷ 0 ∷ [])
    ∷ (2 ∷ 0 ∷ 1 ∷ 3 ∷ [])
    ∷ (2 ∷ 0 ∷ 3 ∷ 1 ∷ [])
    ∷ (2 ∷ 1 ∷ 0 ∷ 3 ∷ [])
    ∷ (2 ∷ 1 ∷ 3 ∷ 0 ∷ [])
    ∷ (2 ∷ 3 ∷ 0 ∷ 1 ∷ [])
    ∷ (2 ∷ 3 ∷ 1 ∷ 0 ∷ [])
    ∷ (3 ∷ 0 ∷ 1 ∷ 2 ∷ [])
    ∷ (3 ∷ 0 ∷ 2 ∷ 1 ∷ [])
    ∷ (3 ∷ 1 ∷ 0 ∷ 2 ∷ [])
    ∷ (3 ∷ 1 ∷ 2 ∷ 0 ∷ [])
    ∷ (3 ∷ 2 ∷ 0 ∷ 1 ∷ [])
    ∷ (3 ∷ 2 ∷ 1 ∷ 0 ∷ [])
    ∷ []

-- the permutation of a number; the first one where there is none
unfoldable pub places_of4 : ℕ → List ℕ
places_of4 n = get_or permutations4 n (0 ∷ 1 ∷ 2 ∷ 3 ∷ [])

-- the set whose roles have that number
abbrev pub numbered4 : ℕ → Bool → Bool → Quad
numbered4 n fresh withheld = record { place = places_of4 n; fresh = fresh; withheld = withheld }
