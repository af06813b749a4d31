-- Which octets are the image of a sound state: tests of the octets alone.
use Rattle.std.specs.Prelude.{ℕ, suc, Bool, true, cond, not, ◌&&◌, ◌||◌, List, [], ◌∷◌, ◌++◌, leb, eqb, get_or}
use Rattle.state.specs.declared.setup.Setup.{Setup}
use Rattle.state.specs.Unpack.{setup_in}

-- a and each of l
abbrev pub all_from : Bool → List Bool → Bool
all_from a [] = a
all_from a (b ∷ l) = all_from (a && b) l

-- each of l
abbrev pub all : List Bool → Bool
all [] = true
all (a ∷ l) = all_from a l

-- lo to hi
abbrev pub within : ℕ → ℕ → ℕ → Bool
within lo x hi = leb lo x && leb x hi

-- 0, or lo to hi
abbrev pub none_or : ℕ → ℕ → ℕ → Bool
none_or lo x hi = eqb x 0 || within lo x hi

-- the counts of a set that is shown and of one that waits: neither is there, or the first has lo to hi octets, and the second none or that many
abbrev pub set_counts : ℕ → ℕ → ℕ → ℕ → Bool
set_counts lo shown waiting hi = cond (eqb shown 0) (eqb waiting 0) (within lo shown hi && none_or lo waiting hi)

-- of count data octets none is done, or the phase has come to the data, which begins at first, and no more are done than there are
abbrev pub part_done : ℕ → ℕ → ℕ → ℕ → Bool
part_done first phase count done = eqb done 0 || (leb first phase && leb done count)

-- neither outputs nor inputs
abbrev pub exchanges_nothing : Setup → Bool
exchanges_nothing s = eqb s.output_len 0 && eqb s.input_len 0

-- each length by itself: outputs and inputs at most 244, "parameters (7 to 244), configuration (1 to 244), diagnosis (6 to 244), and a slice of
-- 1 to 244 octets"
abbrev pub range_tests : Setup → List Bool
range_tests s =
    leb s.output_len 244
    ∷ leb s.input_len 244
    ∷ within 7 s.parameter_len 244
    ∷ within 1 s.configuration_len 244
    ∷ within 6 s.diagnosis_len 244
    ∷ within 1 s.get_cfg_len 244
    ∷ []

-- "Output and input lengths may be 0, not both" (document 02, Req 05)
abbrev pub length_tests : Setup → List Bool
length_tests s = not (exchanges_nothing s) ∷ range_tests s

-- the chain, octets 54 and 55: what its request drew with the frame count bit, and the master
abbrev pub chain_tests : List ℕ → List Bool
chain_tests m = leb (get_or m 54 0) 17 ∷ leb (get_or m 55 0) 127 ∷ []

-- the word of the lengths, octets 48 to 55: the chain and six lengths
abbrev pub lengths_tests : List ℕ → List Bool
lengths_tests m = chain_tests m ++ length_tests (setup_in m 0)

-- the counts of a delayed diagnosis and of the sets that are shown and that wait, octets 57 to 61; two octets are not used
abbrev pub set_tests : List ℕ → List Bool
set_tests m =
    none_or 6 (get_or m 57 0) (get_or m 52 0)
    ∷ set_counts 7 (get_or m 58 0) (get_or m 59 0) (get_or m 50 0)
    ∷ set_counts 1 (get_or m 60 0) (get_or m 61 0) (get_or m 51 0)
    ∷ eqb (get_or m 62 0) 0
    ∷ eqb (get_or m 63 0) 0
    ∷ []

-- the word of the counts, octets 56 to 63: diagnosis, and these
abbrev pub count_tests : List ℕ → List Bool
count_tests m = within 6 (get_or m 56 0) (get_or m 52 0) ∷ set_tests m

-- the counts of the telegram that is read and of the reply
abbrev pub line_tests : List ℕ → List Bool
line_tests m =
    leb (get_or m 32 0) 246
    ∷ part_done 9 (get_or m 31 0) (get_or m 32 0) (get_or m 33 0)
    ∷ leb (get_or m 14 0) 246
    ∷ part_done 7 (get_or m 17 0) (get_or m 14 0) (get_or m 15 0)
    ∷ []

-- the most that the codes may be, octets 16 to 31: of the reply its kind, stage, what was drawn and the place; the address, the
-- phase, the roles of the outputs, the input set; the parameter and the configuration set, the flags of a delayed diagnosis, the modes,
-- which diagnosis buffer is the controller's, the marks of the outputs, the kind and the phase of the telegram that is read
abbrev pub code_limits : List ℕ
code_limits = 3 ∷ 10 ∷ 8 ∷ 3 ∷ 126 ∷ 2 ∷ 23 ∷ 11 ∷ 5 ∷ 5 ∷ 7 ∷ 15 ∷ 1 ∷ 7 ∷ 3 ∷ 12 ∷ []

-- the octets from i on, each against its limit
abbrev pub limit_tests : List ℕ → ℕ → List ℕ → List Bool
limit_tests m i [] = []
limit_tests m i (limit ∷ limits) = leb (get_or m i 0) limit ∷ limit_tests m (suc i) limits

-- the codes
abbrev pub code_tests : List ℕ → List Bool
code_tests m = limit_tests m 16 code_limits

-- all of them
abbrev pub image_tests : List ℕ → List Bool
image_tests m = all (count_tests m) ∷ all (line_tests m) ∷ all (code_tests m) ∷ all (lengths_tests m) ∷ []

-- the octets are the image of a sound state
unfoldable pub well_image : List ℕ → Bool
well_image m = all (image_tests m)
