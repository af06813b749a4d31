-- Octets in a word, and lists of octets held to lists of limits.
use Rattle.std.specs.Prelude.{ℕ, zero, suc, ◌+◌, ◌*◌, ◌/◌, ◌%◌, Bool, true, cond, ◌&&◌, List, [], ◌∷◌, replicate, ◌==◌, nat_le}
use Rattle.octets.specs.Part.{part}

-- the number with these octets, the lowest first
unfoldable pub number : List ℕ → ℕ
number [] = 0
number (x ∷ xs) = number xs * 256 + x

-- the k low octets of a number, the lowest first
unfoldable pub octets : ℕ → ℕ → List ℕ
octets zero x = []
octets (suc k) x = x % 256 ∷ octets k (x / 256)

-- each x is at most its y, as long as both lists go
unfoldable pub at_most : List ℕ → List ℕ → Bool
at_most [] ys = true
at_most (x ∷ xs) [] = true
at_most (x ∷ xs) (y ∷ ys) = nat_le x y && at_most xs ys

-- the low seven bits of each
unfoldable pub lows : List ℕ → List ℕ
lows [] = []
lows (x ∷ xs) = x % 128 ∷ lows xs

-- the four octets from a place on are 0
unfoldable pub nothing_at : List ℕ → ℕ → Bool
nothing_at m at = at_most (part m at 4) (replicate 4 0)

-- both are 0, or both are at least 4
abbrev pub pair : ℕ → ℕ → Bool
pair x y = cond (x == 0) (y == 0) (nat_le 4 x && nat_le 4 y)

-- each x and its y, as long as both lists go
unfoldable pub paired : List ℕ → List ℕ → Bool
paired [] ys = true
paired (x ∷ xs) [] = true
paired (x ∷ xs) (y ∷ ys) = pair x y && paired xs ys

-- an eighth of each, rounded up
unfoldable pub eighths_of : List ℕ → List ℕ
eighths_of [] = []
eighths_of (x ∷ xs) = (x + 7) / 8 ∷ eighths_of xs

unfoldable pub total : List ℕ → ℕ
total [] = 0
total (x ∷ xs) = x + total xs
