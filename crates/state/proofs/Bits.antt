-- Eight marks in one octet, and back.
use Prim.Native.Nat.{ℕ, zero, suc, ◌+◌, ◌*◌, ◌/◌, ◌%◌, ◌≤◌, ◌<◌}
use native.Mathlib.Omega.{arith}
use mathlib.Core.Path.{◌≡◌, refl, ap}
use mathlib.Core.Bool.{Bool, true, false}
use lib.Dec.{eqb}
use borrow.Author.Tests.{eqb-true, eqb-false}
use Rattle.state.specs.Image.{bit_of}
use Rattle.state.specs.Unpack.{odd, bit_at}

-- the sum of the marks, each at its worth
abbrev pub sum : Bool → Bool → Bool → Bool → Bool → Bool → Bool → Bool → ℕ
sum b₀ b₁ b₂ b₃ b₄ b₅ b₆ b₇ =
    bit_of b₀ + 2 * bit_of b₁ + 4 * bit_of b₂ + 8 * bit_of b₃ + 16 * bit_of b₄ + 32 * bit_of b₅ + 64 * bit_of b₆ + 128 * bit_of b₇

-- the marks of x are these
pub record Marked (x : ℕ) (b₀ b₁ b₂ b₃ b₄ b₅ b₆ b₇ : Bool) : Type 0 where
  pub bit₀ : odd x ≡ b₀
  pub bit₁ : bit_at x 2 ≡ b₁
  pub bit₂ : bit_at x 4 ≡ b₂
  pub bit₃ : bit_at x 8 ≡ b₃
  pub bit₄ : bit_at x 16 ≡ b₄
  pub bit₅ : bit_at x 32 ≡ b₅
  pub bit₆ : bit_at x 64 ≡ b₆
  pub bit₇ : bit_at x 128 ≡ b₇

-- a mark is 0 or 1
pub bit_le : (b : Bool) → bit_of b ≤ 1
bit_le true = omega arith
bit_le false = omega arith

-- a mark comes back from its number
pub bit_in : (b : Bool) (n : ℕ) → n ≡ bit_of b → eqb n 1 ≡ b
bit_in true n h = ap (λ (k : ℕ). eqb k 1) h
bit_in false n h = ap (λ (k : ℕ). eqb k 1) h

-- and its number from it
pub mark_coded : (n : ℕ) → n ≤ 1 → bit_of (eqb n 1) ≡ n
mark_coded zero h = refl
mark_coded (suc zero) h = refl
mark_coded (suc (suc n)) h = absurd (omega arith)

-- each mark comes back from the sum
pub marked : (x : ℕ) (b₀ b₁ b₂ b₃ b₄ b₅ b₆ b₇ : Bool) → x ≡ sum b₀ b₁ b₂ b₃ b₄ b₅ b₆ b₇ → Marked x b₀ b₁ b₂ b₃ b₄ b₅ b₆ b₇
marked x b₀ b₁ b₂ b₃ b₄ b₅ b₆ b₇ e =
    let h₀ = bit_le b₀ in
    let h₁ = bit_le b₁ in
    let h₂ = bit_le b₂ in
    let h₃ = bit_le b₃ in
    let h₄ = bit_le b₄ in
    let h₅ = bit_le b₅ in
    let h₆ = bit_le b₆ in
    let h₇ = bit_le b₇ in
    record {
      bit₀ = bit_in b₀ (x % 2) (omega arith);
      bit₁ = bit_in b₁ (x / 2 % 2) (omega arith);
      bit₂ = bit_in b₂ (x / 4 % 2) (omega arith);
      bit₃ = bit_in b₃ (x / 8 % 2) (omega arith);
      bit₄ = bit_in b₄ (x / 16 % 2) (omega arith);
      bit₅ = bit_in b₅ (x / 32 % 2) (omega arith);
      bit₆ = bit_in b₆ (x / 64 % 2) (omega arith);
      bit₇ = bit_in b₇ (x / 128 % 2) (omega arith);
    }

-- bit 0 as a number
pub odd_bit : (n : ℕ) → bit_of (odd n) ≡ n % 2
odd_bit n = go (odd n) refl
  where
    go : (t : Bool) → odd n ≡ t → bit_of t ≡ n % 2
    go true e = let h = eqb-true (n % 2) 1 e in omega arith
    go false e = let h = eqb-false (n % 2) 1 e in omega arith

-- the lowest mark, and what is left
halved : (n q : ℕ) → n / 2 ≡ q → n ≡ bit_of (odd n) + 2 * q
halved n q e = let h = odd_bit n in omega arith

-- eight halvings
total : (x q₁ q₂ q₃ q₄ q₅ q₆ q₇ r₀ r₁ r₂ r₃ r₄ r₅ r₆ r₇ : ℕ)
    → x ≡ r₀ + 2 * q₁
    → q₁ ≡ r₁ + 2 * q₂
    → q₂ ≡ r₂ + 2 * q₃
    → q₃ ≡ r₃ + 2 * q₄
    → q₄ ≡ r₄ + 2 * q₅
    → q₅ ≡ r₅ + 2 * q₆
    → q₆ ≡ r₆ + 2 * q₇
    → q₇ ≡ r₇ + 2 * 0
    → r₀ + 2 * r₁ + 4 * r₂ + 8 * r₃ + 16 * r₄ + 32 * r₅ + 64 * r₆ + 128 * r₇ ≡ x
total x q₁ q₂ q₃ q₄ q₅ q₆ q₇ r₀ r₁ r₂ r₃ r₄ r₅ r₆ r₇ e₀ e₁ e₂ e₃ e₄ e₅ e₆ e₇ = omega arith

-- an octet is the sum of its marks
pub sum_marks : (x : ℕ) → x < 256 → sum (odd x) (bit_at x 2) (bit_at x 4) (bit_at x 8) (bit_at x 16) (bit_at x 32) (bit_at x 64) (bit_at x 128) ≡ x
sum_marks x h =
    total x (x / 2) (x / 4) (x / 8) (x / 16) (x / 32) (x / 64) (x / 128)
    _ _ _ _ _ _ _ _
    (halved x (x / 2) refl)
    (halved (x / 2) (x / 4) (omega arith))
    (halved (x / 4) (x / 8) (omega arith))
    (halved (x / 8) (x / 16) (omega arith))
    (halved (x / 16) (x / 32) (omega arith))
    (halved (x / 32) (x / 64) (omega arith))
    (halved (x / 64) (x / 128) (omega arith))
    (halved (x / 128) 0 (omega arith))
