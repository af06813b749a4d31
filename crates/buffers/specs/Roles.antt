-- The roles of the buffers of a set: each has the place of one buffer, always a permutation. Said for any number of roles.
use Rattle.std.specs.Prelude.{ℕ, zero, suc, ◌<◌, ◌≡◌, cond, List, [], ◌∷◌, length, get_or, eqb}

-- the roles, by where their places stand in the list
abbrev pub fill : ℕ
fill = 0

abbrev pub next : ℕ
next = 1

abbrev pub held : ℕ
held = 2

-- a set of four has this one too: what is held back
abbrev pub back : ℕ
back = 3

-- the place of the buffer in each role
abbrev pub fill_of : List ℕ → ℕ
fill_of l = get_or l fill 0

abbrev pub next_of : List ℕ → ℕ
next_of l = get_or l next 0

abbrev pub held_of : List ℕ → ℕ
held_of l = get_or l held 0

abbrev pub back_of : List ℕ → ℕ
back_of l = get_or l back 0

-- the places are 0 to n - 1, each once
pub record Permutation (n : ℕ) (l : List ℕ) : Type 0 where
  pub long : length l ≡ n
  pub within : (i : ℕ) → i < n → get_or l i 0 < n
  pub apart : (i j : ℕ) → i < n → j < n → ¬ (i ≡ j) → ¬ (get_or l i 0 ≡ get_or l j 0)

-- the places that n roles have, each role's by a function
abbrev pub places_by : ℕ → (ℕ → ℕ) → List ℕ
places_by zero f = []
places_by (suc n) f = f zero ∷ places_by n (λ k. f (suc k))

-- whose place a role k has once the roles i and j changed places
abbrev pub across : ℕ → ℕ → ℕ → ℕ
across i j k = cond (eqb k i) j (cond (eqb k j) i k)

-- of n roles, i and j change places
abbrev pub exchanged : ℕ → ℕ → ℕ → List ℕ → List ℕ
exchanged n i j l = places_by n (λ k. get_or l (across i j k) 0)
