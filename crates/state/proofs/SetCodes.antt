-- The output set, the input set, the modes and the chain in their octets, and back.
use Prim.Native.Nat.{ℕ, ◌+◌, ◌*◌, ◌/◌, ◌%◌, ◌≤◌}
use native.Mathlib.Omega.{arith}
use mathlib.Core.Path.{◌≡◌, ap, ◌∙◌}
use mathlib.Core.Bool.{Bool, false}
use mathlib.Core.List.{List}
use Rattle.buffers.specs.declared.triple.Triple.{Triple}
use Rattle.buffers.specs.Roles.{Permutation}
use Rattle.buffers.specs.Number.{number_of, places_of, number_of4}
use Rattle.buffers.proofs.Numbers.{number_below, number_places, places_number, places4_number}
use Rattle.state.specs.declared.control.Modes.{Modes}
use Rattle.state.specs.declared.state.Drawn.{Drawn}
use Rattle.state.specs.declared.state.Drawn.TheVariants.{Nothing}
use Rattle.state.specs.declared.state.Outputs.{Outputs}
use Rattle.state.specs.Number.{drawn_number, drawn_numbered}
use Rattle.state.specs.Image.{bit_of, modes_of, marks_of, inputs_code}
use Rattle.state.specs.Unpack.{odd, bit_at, modes_in, outputs_in, inputs_in}
use Rattle.state.specs.Chain.{chain_of, no_chain, fcb_in, drawn_in}
use Rattle.state.specs.NumberLaws.{drawn_back}
use Rattle.state.proofs.Numbers.{drawn_le}
use Rattle.state.proofs.Bits.{bit_le, bit_in, odd_bit, marked, sum_marks}

-- ---- the number of the roles

pub roles_below : (n : ℕ) (l : List ℕ) → n ≡ number_of l → n ≤ 5
roles_below n l e = let h = number_below l in omega arith

-- ---- one mark below a number

pub record Halved (x n f : ℕ) : Type 0 where
  pub number_is : x / 2 ≡ n
  pub first : x % 2 ≡ f

halved : (x n f : ℕ) → f ≤ 1 → x ≡ 2 * n + f → Halved x n f
halved x n f hf e = record { number_is = omega arith; first = omega arith }

-- and back
twofold : (x a c : ℕ) → a ≡ x / 2 → c ≡ x % 2 → 2 * a + c ≡ x
twofold x a c ea ec = omega arith

-- ---- marks that are not there

not_there : (x worth : ℕ) → x / worth ≡ 0 → bit_of (bit_at x worth) ≡ 0
not_there x worth e = odd_bit (x / worth) ∙ ap (λ n. n % 2) e

-- ---- the output set

-- it comes back from its roles and its marks
pub outputs_back : (o : Outputs) → Permutation 4 o.set.place → outputs_in (number_of4 o.set.place) (marks_of o) ≡ o
outputs_back o h =
    let b = marked (marks_of o) o.set.fresh o.zeros o.set.withheld false false false false false (omega arith) in
    λ i.
    record {
      set = record { place = places4_number o.set.place h i; fresh = b.bit₀ i; withheld = b.bit₂ i };
      zeros = b.bit₁ i;
    }

-- and its marks from it
pub marks_coded : (roles x : ℕ) → x ≤ 7 → marks_of (outputs_in roles x) ≡ x
marks_coded roles x h =
    let all = sum_marks x (omega arith) in
    let none : (worth : ℕ) → x / worth ≡ 0 → bit_of (bit_at x worth) ≡ 0 = not_there x in
    omega (arith, all, none 8 (omega arith), none 16 (omega arith), none 32 (omega arith), none 64 (omega arith), none 128 (omega arith))

-- they are at most 7
pub marks_below : (o : Outputs) → marks_of o ≤ 7
marks_below o =
    let b₀ = bit_le o.set.fresh in
    let b₁ = bit_le o.zeros in
    let b₂ = bit_le o.set.withheld in
    omega arith

-- ---- the modes

-- they come back from their octet
pub modes_back : (m : Modes) → modes_in (modes_of m) ≡ m
modes_back m =
    let b = marked (modes_of m) m.sync m.freeze m.sync_allowed m.freeze_allowed false false false false (omega arith) in
    λ i. record { sync = b.bit₀ i; freeze = b.bit₁ i; sync_allowed = b.bit₂ i; freeze_allowed = b.bit₃ i }

-- and it from them
pub modes_coded : (x : ℕ) → x ≤ 15 → modes_of (modes_in x) ≡ x
modes_coded x h =
    let all = sum_marks x (omega arith) in
    let none : (worth : ℕ) → x / worth ≡ 0 → bit_of (bit_at x worth) ≡ 0 = not_there x in
    omega (arith, all, none 16 (omega arith), none 32 (omega arith), none 64 (omega arith), none 128 (omega arith))

-- it is at most 15
pub modes_below : (m : Modes) → modes_of m ≤ 15
modes_below m =
    let b₀ = bit_le m.sync in
    let b₁ = bit_le m.freeze in
    let b₂ = bit_le m.sync_allowed in
    let b₃ = bit_le m.freeze_allowed in
    omega arith

-- ---- the input set

pub inputs_back : (t : Triple) → Permutation 3 t.place → inputs_in (inputs_code t) ≡ t
inputs_back t h =
    let q = halved (inputs_code t) (number_of t.place) (bit_of t.fresh) (bit_le t.fresh) (λ _. inputs_code t) in
    λ i.
    record {
      place = (ap places_of q.number_is ∙ places_number t.place h) i;
      fresh = bit_in t.fresh (inputs_code t % 2) q.first i;
    }

pub inputs_coded : (x : ℕ) → x ≤ 11 → inputs_code (inputs_in x) ≡ x
inputs_coded x h = twofold x (number_of (places_of (x / 2))) (bit_of (odd x)) (number_places (x / 2) (omega arith)) (odd_bit x)

second_below : (n f most : ℕ) → n ≤ most → f ≤ 1 → 2 * n + f ≤ 2 * most + 1
second_below n f most hn hf = omega arith

pub inputs_below : (t : Triple) → inputs_code t ≤ 11
inputs_below t =
    let n = number_below t.place in
    second_below (number_of t.place) (bit_of t.fresh) 5 (omega arith) (bit_le t.fresh)

-- ---- the chain

-- its parts come back from it
module _ (master : ℕ) (fcb : Bool) (d : Drawn) where
  halves : Halved (chain_of master fcb d).code (drawn_number d) (bit_of fcb)
  halves = halved (chain_of master fcb d).code (drawn_number d) (bit_of fcb) (bit_le fcb) (λ _. (chain_of master fcb d).code)

  pub fcb_in_lem : fcb_in (chain_of master fcb d) ≡ fcb
  fcb_in_lem = bit_in fcb ((chain_of master fcb d).code % 2) halves.first

  pub drawn_in_lem : drawn_in (chain_of master fcb d) ≡ d
  drawn_in_lem = ap drawn_numbered halves.number_is ∙ drawn_back d

  -- the code is at most 17
  pub chain_below : (chain_of master fcb d).code ≤ 17
  chain_below = second_below (drawn_number d) (bit_of fcb) 8 (drawn_le d) (bit_le fcb)

-- no chain holds nothing
pub none_drawn : drawn_in no_chain ≡ Nothing
none_drawn = drawn_in_lem 127 false Nothing

-- the number of what was drawn
pub drawn_below : (n : ℕ) (d : Drawn) → n ≡ drawn_number d → n ≤ 8
drawn_below n d e = let h = drawn_le d in omega arith
