-- Short lengths: the tests of their words, and that they are lengths; and where the buffers of short and of any lengths end at most.
use Prim.Native.Nat.{ℕ, ◌+◌, ◌≤◌}
use native.Mathlib.Omega.{arith}
use mathlib.Core.Path.{◌≡◌, refl, sym, ◌∙◌}
use mathlib.Core.Bool.{Bool, true, ◌&&◌}
use mathlib.Core.List.{List, [], ◌∷◌}
use lib.Dec.{leb, eqb}
use lib.ListN.{length, get_or}
use borrow.Author.Tests.{leb-true, le-leb, eqb-true}
use Rattle.octets.specs.Part.{part, rounded_up}
use Rattle.ranges.specs.Octets.{at_most}
use Rattle.state.specs.declared.setup.Setup.{Setup}
use Rattle.state.specs.Layout.{row_base, end_of, all_lengths}
use Rattle.state.specs.Short.{short_length, short_end, long_end, short_leasts, short_mosts, short_tests, input_leasts, input_mosts, short_input_tests, short_inputs}
use Rattle.state.specs.Sound.{Within}
use Rattle.state.specs.Unpack.{unpacked}
use Rattle.state.specs.Well.{all, within, lengths_tests}
use Rattle.state.proofs.ByWords.{ranges_all}
use Rattle.state.proofs.Choice.{and_left, and_right}
use Rattle.state.proofs.Tests.{all_at, within_true, within_holds, not_both_holds}

-- ---- the words

-- the test of the word is those of its octets
pub short_word : (m : List ℕ) → 56 ≤ length m → (at_most (part m 48 8) short_mosts && at_most short_leasts (part m 48 8)) ≡ all (short_tests m)
short_word m h = ranges_all m 48 short_leasts short_mosts refl h

-- and where there are no outputs
pub short_input_word : (m : List ℕ) → 57 ≤ length m → (at_most (part m 49 8) input_mosts && at_most input_leasts (part m 49 8)) ≡ all (short_input_tests m)
short_input_word m h = ranges_all m 49 input_leasts input_mosts refl h

-- ---- where buffers end

-- a longer length is not rounded up to less
rounded_order : (x y : ℕ) → x ≤ y → rounded_up x ≤ rounded_up y
unfolding rounded_up
rounded_order x y h = omega arith

-- buffers end behind those of no length above n at most where six of n octets do
ends_by : (s : Setup) (n : ℕ) → s.output_len ≤ n → s.input_len ≤ n → s.parameter_len ≤ n → s.configuration_len ≤ n
    → s.diagnosis_len ≤ n → s.get_cfg_len ≤ n → end_of s ≤ end_of (all_lengths n)
unfolding row_base
ends_by s n h₀ h₁ h₂ h₃ h₄ h₅ =
    let u₀ = rounded_order s.output_len n h₀ in
    let u₁ = rounded_order s.input_len n h₁ in
    let u₂ = rounded_order s.parameter_len n h₂ in
    let u₃ = rounded_order s.configuration_len n h₃ in
    let u₄ = rounded_order s.diagnosis_len n h₄ in
    let u₅ = rounded_order s.get_cfg_len n h₅ in
    omega arith

-- both tests of a memory that goes as far as the buffers may
room_for : (m : List ℕ) (end : ℕ) → all (lengths_tests m) ≡ true → end_of (unpacked m).setup ≤ end → end ≤ length m
    → true ≡ (all (lengths_tests m) && leb (end_of (unpacked m).setup) (length m))
room_for m end h ends long =
    let room = le-leb (end_of (unpacked m).setup) (length m) (omega arith) in
    sym (λ i. h i && room i)

-- ---- short lengths

-- they pass the test of lengths, and their buffers end early
pub record ShortBoth (m : List ℕ) : Type 0 where
  pub pass : all (lengths_tests m) ≡ true
  pub ends : end_of (unpacked m).setup ≤ short_end

-- octet i is lo to the longest short length
abbrev ShortAt : List ℕ → ℕ → ℕ → Type 0
ShortAt m lo i = Within lo (get_or m i 0) short_length

-- such lengths, not both of outputs and inputs 0, beside a chain
module _ (m : List ℕ) (outs : ShortAt m 0 48) (ins : ShortAt m 0 49) (some : 1 ≤ get_or m 48 0 + get_or m 49 0) (prm : ShortAt m 7 50) (cfg : ShortAt m 1 51)
    (diag : ShortAt m 6 52) (get : ShortAt m 1 53) (code : get_or m 54 0 ≤ 17) (master : get_or m 55 0 ≤ 127) where
  -- a short length is a length
  longer : (lo i : ℕ) → ShortAt m lo i → within lo (get_or m i 0) 244 ≡ true
  longer lo i w = let n = w.1 in within_holds lo (get_or m i 0) 244 (w.0, omega arith)

  -- they pass the test of lengths
  short_lengths : all (lengths_tests m) ≡ true
  short_lengths =
      let n₀ = outs.1 in
      let n₁ = ins.1 in
      λ i.
      all
      (le-leb (get_or m 54 0) 17 code i
      ∷ le-leb (get_or m 55 0) 127 master i
      ∷ not_both_holds (get_or m 48 0) (get_or m 49 0) some i
      ∷ le-leb (get_or m 48 0) 244 (omega arith) i
      ∷ le-leb (get_or m 49 0) 244 (omega arith) i
      ∷ longer 7 50 prm i
      ∷ longer 1 51 cfg i
      ∷ longer 6 52 diag i
      ∷ longer 1 53 get i
      ∷ [])

  -- and their buffers end where all-64 says or before
  short_end_lem : end_of (unpacked m).setup ≤ short_end
  unfolding unpacked row_base rounded_up
  short_end_lem = ends_by (unpacked m).setup short_length outs.1 ins.1 prm.1 cfg.1 diag.1 get.1

  short_both : ShortBoth m
  short_both = record { pass = short_lengths; ends = short_end_lem }

-- one octet of a word whose test passes, by the test's number
octet_in : (m : List ℕ) (tests : List Bool) (k lo i hi : ℕ) → all tests ≡ true → get_or tests k true ≡ within lo (get_or m i 0) hi → Within lo (get_or m i 0) hi
octet_in m tests k lo i hi h e = within_true lo (get_or m i 0) hi (sym e ∙ all_at tests k h)

-- by the test of a station with outputs
pub short_lengths_are : (m : List ℕ) → all (short_tests m) ≡ true → ShortBoth m
short_lengths_are m h =
    let t = short_tests m in
    let outs = octet_in m t 0 1 48 short_length h refl in
    let least = outs.0 in
    short_both m (omega arith, outs.1) (octet_in m t 1 0 49 short_length h refl) (omega arith) (octet_in m t 2 7 50 short_length h refl)
    (octet_in m t 3 1 51 short_length h refl) (octet_in m t 4 6 52 short_length h refl) (octet_in m t 5 1 53 short_length h refl)
    (octet_in m t 6 0 54 17 h refl).1 (octet_in m t 7 0 55 127 h refl).1

-- and of one without
pub short_inputs_are : (m : List ℕ) → short_inputs m ≡ true → ShortBoth m
short_inputs_are m h =
    let t = short_input_tests m in
    let none : get_or m 48 0 ≡ 0 = eqb-true (get_or m 48 0) 0 (and_left (eqb (get_or m 48 0) 0) (all t) h) in
    let p = and_right (eqb (get_or m 48 0) 0) (all t) h in
    let ins = octet_in m t 0 1 49 short_length p refl in
    let least = ins.0 in
    short_both m (omega arith, omega arith) (omega arith, ins.1) (omega arith) (octet_in m t 1 7 50 short_length p refl)
    (octet_in m t 2 1 51 short_length p refl) (octet_in m t 3 6 52 short_length p refl) (octet_in m t 4 1 53 short_length p refl)
    (octet_in m t 5 0 54 17 p refl).1 (octet_in m t 6 0 55 127 p refl).1

-- so there is room for them in a memory that goes as far
pub short_room : (m : List ℕ) → ShortBoth m → short_end ≤ length m → true ≡ (all (lengths_tests m) && leb (end_of (unpacked m).setup) (length m))
short_room m h long = room_for m short_end h.pass h.ends long

-- ---- any lengths

module _ (m : List ℕ) (h : all (lengths_tests m) ≡ true) where
  -- one of the tests
  length_test : (k : ℕ) → get_or (lengths_tests m) k true ≡ true
  length_test k = all_at (lengths_tests m) k h

  -- what a length is at most, by its test
  most : (lo x : ℕ) → within lo x 244 ≡ true → x ≤ 244
  most lo x e = (within_true lo x 244 e).1

  -- their buffers end where all-244 says or before
  pub long_end_lem : end_of (unpacked m).setup ≤ long_end
  unfolding unpacked row_base rounded_up
  long_end_lem =
      ends_by (unpacked m).setup 244 (leb-true (get_or m 48 0) 244 (length_test 3)) (leb-true (get_or m 49 0) 244 (length_test 4))
      (most 7 (get_or m 50 0) (length_test 5))
      (most 1 (get_or m 51 0) (length_test 6))
      (most 6 (get_or m 52 0) (length_test 7))
      (most 1 (get_or m 53 0) (length_test 8))

  -- so there is room for them too in a memory that goes as far
  pub long_room : long_end ≤ length m → true ≡ (all (lengths_tests m) && leb (end_of (unpacked m).setup) (length m))
  long_room long = room_for m long_end h long_end_lem long
