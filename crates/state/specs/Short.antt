-- Short lengths: what the damage check looks at before it goes through the lengths one by one. No promise above it mentions them.
use Rattle.std.specs.Prelude.{ℕ, suc, Bool, ◌&&◌, List, [], ◌∷◌, ◌++◌, eqb, get_or, replicate}
use Rattle.state.specs.Well.{all, within}

-- the longest of them: all six lengths 64 end at 1,536, the length of the shortest memory
abbrev pub short_length : ℕ
short_length = 64

-- where the buffers of short lengths end at most
abbrev pub short_end : ℕ
short_end = 1536

-- where the buffers of any lengths end at most, those of the channels left out
abbrev pub long_end : ℕ
long_end = 4480

-- the octets from i on, each from its least to its most
abbrev pub between_tests : List ℕ → ℕ → List ℕ → List ℕ → List Bool
between_tests m i [] mosts = []
between_tests m i (least ∷ leasts) [] = []
between_tests m i (least ∷ leasts) (most ∷ mosts) = within least (get_or m i 0) most ∷ between_tests m (suc i) leasts mosts

-- octets 48 to 55: the six lengths where all of them are short and there are outputs, and the chain
abbrev pub short_leasts : List ℕ
short_leasts = 1 ∷ 0 ∷ 7 ∷ 1 ∷ 6 ∷ 1 ∷ 0 ∷ 0 ∷ []

abbrev pub short_mosts : List ℕ
short_mosts = replicate 6 short_length ++ 17 ∷ 127 ∷ []

abbrev pub short_tests : List ℕ → List Bool
short_tests m = between_tests m 48 short_leasts short_mosts

-- octets 49 to 56: the lengths but that of the outputs where all of them are short and there are inputs, and the chain; the last octet, the
-- count of the diagnosis, is in the word only because words have eight: its own test stands in `count_tests`, which with short lengths
-- holds it below 65, so that 127 refuses none
abbrev pub input_leasts : List ℕ
input_leasts = 1 ∷ 7 ∷ 1 ∷ 6 ∷ 1 ∷ 0 ∷ 0 ∷ 0 ∷ []

abbrev pub input_mosts : List ℕ
input_mosts = replicate 5 short_length ++ 17 ∷ 127 ∷ 127 ∷ []

abbrev pub short_input_tests : List ℕ → List Bool
short_input_tests m = between_tests m 49 input_leasts input_mosts

-- all lengths are short, and there are no outputs
abbrev pub short_inputs : List ℕ → Bool
short_inputs m = eqb (get_or m 48 0) 0 && all (short_input_tests m)
