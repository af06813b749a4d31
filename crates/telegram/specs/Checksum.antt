-- The check octet FCS: a sum modulo 256, and the same as it runs over u8.
use Rattle.std.specs.Prelude.{ℕ, ◌+◌, ◌%◌, List, [], ◌∷◌}

-- the sum of a list of octets
abbrev pub total : List ℕ → ℕ
total [] = 0
total (x ∷ xs) = x + total xs

-- the check octet over a list of octets
abbrev pub checksum : List ℕ → ℕ
checksum xs = total xs % 256

-- a checksum s that runs on over a list, by an addition that wraps at 256 for each octet
abbrev pub running : ℕ → List ℕ → ℕ
running s [] = s
running s (x ∷ xs) = running ((s + x) % 256) xs
