-- The kinds of octets that the vat program reads and writes: 1 outputs, 2 parameters shown, 3 configuration shown, 4 held inputs,
-- 5 the user's diagnosis buffer (document 01, User calls).
use Rattle.std.specs.Prelude.{ℕ, Bool, cond, ◌&&◌, ◌||◌, eqb, leb, ltb}
use Rattle.state.specs.declared.setup.Setup.{Setup}
use Rattle.rules.specs.declared.kinds.Octets.{Octets}
use Rattle.rules.specs.declared.kinds.Octets.TheVariants.{Outputs, Parameters, Configuration, Inputs, Diagnosis}

-- the number of a kind
abbrev pub kind_number : Octets → ℕ
kind_number Outputs = 1
kind_number Parameters = 2
kind_number Configuration = 3
kind_number Inputs = 4
kind_number Diagnosis = 5

-- what each kind is set to hold at most; 0 where there is no such kind
abbrev pub kind_length : Setup → ℕ → ℕ
kind_length s kind =
    cond (eqb kind 1) s.output_len
    (cond (eqb kind 2) s.parameter_len
    (cond (eqb kind 3) s.configuration_len
    (cond (eqb kind 4) s.input_len
    (cond (eqb kind 5) s.diagnosis_len 0))))

-- kinds 4 and 5 are written
abbrev pub writable : ℕ → Bool
writable kind = eqb kind 4 || eqb kind 5

-- index from 0, for 5 from 6, below the kind's set length
abbrev pub in_range : Setup → ℕ → ℕ → Bool
in_range s kind index = leb (cond (eqb kind 5) 6 0) index && ltb index (kind_length s kind)
