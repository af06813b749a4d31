-- The bits of a word after the operations on words, at every width.
use Prim.Native.Nat.{ℕ, zero, suc, ◌-◌, ◌<◌, ◌/◌, ◌%◌, ◌^◌}
use native.Mathlib.Omega.{arith}
use native.Mathlib.Nat.{mod-lt, zero-lt-suc, div-one, zero-div, div-eq_of_lt, mul-div-mul_right, mul-mod_left, pow-suc}
use mathlib.Core.Path.{◌≡◌, refl, sym, ap, ap₂, ◌∙◌}
use mathlib.Core.Bool.{Bool, true, false, not, cond, ◌&&◌, ◌||◌}
use lib.Dec.{eqb, eqb-zero-suc, eqb-suc-zero, eqb-suc-suc}
use lib.Pow.{pow-lt}
use lib.Bits.{bit_and, bit_or, bit_xor, and_comm, and_self, xor_add_and, and_shr, or_shr, xor_shr, and_mod, or_mod, xor_mod}
use Rattle.std.proofs.lemmas.Nat.{and-not, and_assoc}
use Rattle.buffers.specs.Events.{bit, without}
use Rattle.buffers.proofs.Below.{Each, below}

-- an operation works on each bit apart, if its laws on shifts and on low bits hold and its four cases are right
module _ (op : ℕ → ℕ → ℕ) (on : Bool → Bool → Bool)
    (shifts : (a b k : ℕ) → op a b / 2 ^ k ≡ op (a / 2 ^ k) (b / 2 ^ k))
    (lows : (a b k : ℕ) → op a b % 2 ^ k ≡ op (a % 2 ^ k) (b % 2 ^ k))
    (four : Each 2 (λ x. Each 2 (λ y. eqb (op x y) 1 ≡ on (eqb x 1) (eqb y 1)))) where
  bit_by_bit : (a b n : ℕ) → bit (op a b) n ≡ on (bit a n) (bit b n)
  unfolding bit
  bit_by_bit a b n =
      let x = a / 2 ^ n % 2 in
      let y = b / 2 ^ n % 2 in
      ap (λ z. eqb (z % 2) 1) (shifts a b n)
      ∙ ap (λ z. eqb z 1) (lows (a / 2 ^ n) (b / 2 ^ n) 1)
      ∙ below 2 (λ v. eqb (op x v) 1 ≡ on (eqb x 1) (eqb v 1))
      (below 2 (λ u. Each 2 (λ v. eqb (op u v) 1 ≡ on (eqb u 1) (eqb v 1))) four x (mod-lt (a / 2 ^ n) (zero-lt-suc 1)))
      y (mod-lt (b / 2 ^ n) (zero-lt-suc 1))

-- one of the two has the bit
pub bit_or_lem : (a b n : ℕ) → bit (bit_or a b) n ≡ (bit a n || bit b n)
bit_or_lem = bit_by_bit bit_or ◌||◌ or_shr or_mod ((refl, (refl, tt)), ((refl, (refl, tt)), tt))

-- both have the bit
pub bit_and_lem : (a b n : ℕ) → bit (bit_and a b) n ≡ (bit a n && bit b n)
bit_and_lem = bit_by_bit bit_and ◌&&◌ and_shr and_mod ((refl, (refl, tt)), ((refl, (refl, tt)), tt))

-- the bits differ
abbrev unlike : Bool → Bool → Bool
unlike s t = cond s (not t) t

-- one of the two has it, and the other not
pub bit_xor_lem : (a b n : ℕ) → bit (bit_xor a b) n ≡ unlike (bit a n) (bit b n)
bit_xor_lem = bit_by_bit bit_xor unlike xor_shr xor_mod ((refl, (refl, tt)), ((refl, (refl, tt)), tt))

-- a bit that differs from itself under a mask
unlike_and : (s t : Bool) → unlike s (s && t) ≡ (s && not t)
unlike_and true t = refl
unlike_and false t = refl

-- a bit stays exactly if the mask has it not
pub bit_without : (w mask n : ℕ) → bit (without w mask) n ≡ (bit w n && not (bit mask n))
bit_without w mask n =
    bit_xor_lem w (bit_and w mask) n ∙ ap (unlike (bit w n)) (bit_and_lem w mask n) ∙ unlike_and (bit w n) (bit mask n)

-- the bits of the complement are those that the mask has not
pub and_complement : (w mask : ℕ) → w < 65536 → mask < 65536 → bit_and w (65535 - mask) ≡ without w mask
and_complement w mask hw hm =
    let split = and-not 16 mask w hm hw in
    let both = xor_add_and w (bit_and w mask) in
    let same : bit_and w (bit_and w mask) ≡ bit_and w mask = sym (and_assoc mask w w) ∙ ap (λ x. bit_and x mask) (and_self w) in
    let turned = and_comm w (65535 - mask) in
    let turned2 = and_comm w mask in
    omega (arith, split, both, same, turned, turned2)

-- no bit of 0 is set
pub bit_zero : (n : ℕ) → bit 0 n ≡ false
unfolding bit
bit_zero n = ap (λ x. eqb (x % 2) 1) (zero-div (2 ^ n))

-- a power of two has its own bit alone
pub bit_power : (k n : ℕ) → bit (2 ^ k) n ≡ eqb k n
unfolding bit
bit_power zero zero = refl
bit_power zero (suc n) = ap (λ x. eqb (x % 2) 1) (div-eq_of_lt (pow-lt (zero-lt-suc n))) ∙ sym (eqb-zero-suc n)
bit_power (suc k) zero =
    ap (λ x. eqb (x % 2) 1) (div-one (2 ^ suc k) ∙ pow-suc 2 k) ∙ ap (λ x. eqb x 1) (mul-mod_left (2 ^ k) 2) ∙ sym (eqb-suc-zero k)
bit_power (suc k) (suc n) =
    ap (λ x. eqb (x % 2) 1) (ap₂ (λ x y. x / y) (pow-suc 2 k) (pow-suc 2 n) ∙ mul-div-mul_right (2 ^ k) (2 ^ n) (zero-lt-suc 1))
    ∙ bit_power k n ∙ sym (eqb-suc-suc k n)
