-- The rows of the table: what may be behind a cell, by its number.
use Prim.Native.Nat.{ℕ, zero, suc, ◌*◌, ◌^◌, ◌<◌}
use native.Mathlib.Omega.{arith}
use mathlib.Core.List.{List, [], ◌∷◌}
use lib.ListN.{get_or}
use Rattle.rules.specs.Call.{take, hand_over_call, new_diagnosis_call, judge_parameters_call, judge_configuration_call, events, acknowledge}
use Rattle.window.specs.Table.{whole, bits, Behind, calls, nothing, no_cell, Row, beyond, table, row_at}

infixr 4 ◌also◌
-- a pair, written so that many of them are one row
◌also◌ : {A B : Type 0} → A → B → A × B
a also b = (a, b)

-- what holds of every row of a list, by its number, and where it ends
abbrev EachRow : (ℕ → Row → Type 0) → List Row → Type 0
EachRow P [] = (n : ℕ) → P n beyond
EachRow P (x ∷ xs) = P 0 x × EachRow (λ n. P (suc n)) xs

-- holds of the row at any number
each_row : (P : ℕ → Row → Type 0) (xs : List Row) → EachRow P xs → (n : ℕ) → P n (get_or xs n beyond)
each_row P [] h n = h n
each_row P (x ∷ xs) h zero = h.0
each_row P (x ∷ xs) h (suc n) = each_row (λ k. P (suc k)) xs h.1 n

-- q: a cell with nothing behind it; r: no cell
module _ (count flags : ℕ) (P : ℕ → Behind → Type 0) (q : (n : ℕ) → P n nothing) (r : (n : ℕ) → 0x15 < n → P n no_cell) where
  -- behind reading a cell there is one of these, or nothing
  pub reading_cases_lem : P 0 (calls events (bits 0)) → P 1 (calls events (bits 8)) → P 2 (calls events (bits 0)) → P 3 (calls events (bits 8))
      → P 9 (calls hand_over_call whole) → P 11 (calls take whole) → P 13 (calls (new_diagnosis_call count flags) whole)
      → P 14 (calls (judge_parameters_call 1) whole) → P 15 (calls (judge_parameters_call 0) whole)
      → P 16 (calls (judge_configuration_call 1) whole) → P 17 (calls (judge_configuration_call 0) whole)
      → (cell : ℕ) → P cell (row_at count flags cell).reading
  unfolding table
  reading_cases_lem p0 p1 p2 p3 p9 p11 p13 p14 p15 p16 p17 =
      each_row (λ n row. P n row.reading) (table count flags)
      (p0 also p1 also p2 also p3 also q 4 also q 5 also q 6 also q 7 also q 8 also p9 also q 10 also p11 also q 12 also p13 also p14 also p15 also p16 also p17 also q 18 also q 19 also q 20 also q 21 also (λ n. r _ (omega arith)))

  -- and behind writing x to it
  pub writing_cases : (x : ℕ) → P 2 (calls (acknowledge (2 ^ 0 * x)) whole) → P 3 (calls (acknowledge (2 ^ 8 * x)) whole)
      → (cell : ℕ) → P cell ((row_at count flags cell).writing x)
  unfolding table
  writing_cases x p2 p3 =
      each_row (λ n row. P n (row.writing x)) (table count flags)
      (q 0 also q 1 also p2 also p3 also q 4 also q 5 also q 6 also q 7 also q 8 also q 9 also q 10 also q 11 also q 12 also q 13 also q 14 also q 15 also q 16 also q 17 also q 18 also q 19 also q 20 also q 21 also (λ n. r _ (omega arith)))
