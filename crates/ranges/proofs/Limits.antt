-- Octets held to limits below 128 by the sums and differences of whole words.
use Rattle.std.proofs.Common.{◌≡◌, ℕ, zero, suc, ◌+◌, ◌-◌, ◌*◌, ◌/◌, ◌%◌, ◌^◌, ◌<◌, ◌≤◌, Bool, true, false, ◌&&◌, eqb, ltb, leb, sym, refl, ap, ◌∙◌, ap₂, lt_of_le_of_lt, mod-lt, mod-eq_of_lt, zero-lt-suc, arith, lit<, ltb-false, ltb-true, ne_eqb, leb-false, leb-true}
use mathlib.Core.Bool.{false≢true}
use lib.Bits.{bit_and, bit_or, and_block, or_block, or_lt, and_le_r, and_zero_r, and_mask, and_high, and_mod, or_mod, or_shr}
use borrow.Author.Tests.{lt-leb}
use Rattle.std.proofs.lemmas.Bool.{and_parts}
use Rattle.ranges.specs.Octets.{octets, at_most, lows}
use Rattle.ranges.proofs.Words.{shifted, or_zero}

-- k octets that are all d
unfoldable pub rep : ℕ → ℕ → ℕ
rep zero d = 0
rep (suc k) d = rep k d * 256 + d

-- ---- one octet

-- one octet more below the others' answer A: its s has bit 7 clear exactly if a is at most b
one_more : (A s a b : ℕ) (rest : Bool) → (a ≤ b → s < 128) → (b < a → 128 ≤ s) → eqb A 0 ≡ rest → eqb (A * 256 + s / 128 * 128) 0 ≡ (leb a b && rest)
one_more A s a b rest p q ih = go (leb a b) refl
  where
    go : (t : Bool) → leb a b ≡ t → eqb (A * 256 + s / 128 * 128) 0 ≡ (t && rest)
    go true e =
        let none : s / 128 ≡ 0 = omega (arith, p (leb-true a b e)) in
        ap (λ z. eqb (A * 256 + z * 128) 0) none ∙ shifted A ∙ ih
    go false e = ne_eqb (A * 256 + s / 128 * 128) 0 (λ z. omega (arith, q (leb-false a b e)))

-- the low seven bits of a word's octets: those of the lowest one and those of the rest
low_bits : (k y : ℕ) → bit_and y (rep k 127 * 256 + 127) ≡ bit_and (y / 256) (rep k 127) * 256 + y % 256 % 128
low_bits k y =
    let ys : y ≡ y / 256 * 256 + y % 256 = omega arith in
    ap (λ z. bit_and z (rep k 127 * 256 + 127)) ys
    ∙ and_block 8 (y / 256) (rep k 127) (y % 256) 127 (mod-lt y (zero-lt-suc 255)) (lit< tt)
    ∙ ap (λ z. bit_and (y / 256) (rep k 127) * 256 + z) (and_mask (y % 256) 7)

-- bit 7 of an or
top_bit : (x s : ℕ) → bit_and (bit_or x s) 128 ≡ (bit_or (x / 128) (s / 128) % 2) * 128
top_bit x s = and_high (bit_or x s) 1 7 ∙ ap (λ z. (z % 2) * 128) (or_shr x s 7)

-- it is set where the octet is from 128 on
set : (x s a b : ℕ) → x / 128 ≡ a → s / 128 ≡ b → 128 ≤ x → x < 256 → s < 256 → (bit_or a b % 2) * 128 ≡ 128
set x s zero b e f p q r = absurd (omega arith)
set x s (suc zero) zero e f p q r = refl
set x s (suc zero) (suc zero) e f p q r = refl
set x s (suc zero) (suc (suc b)) e f p q r = absurd (omega arith)
set x s (suc (suc a)) b e f p q r = absurd (omega arith)

-- and else where the sum is
clear : (x s a b : ℕ) → x / 128 ≡ a → s / 128 ≡ b → x < 128 → s < 256 → (bit_or a b % 2) * 128 ≡ s / 128 * 128
clear x s zero zero e f p q = omega arith
clear x s zero (suc zero) e f p q = omega arith
clear x s zero (suc (suc b)) e f p q = absurd (omega arith)
clear x s (suc a) b e f p q = absurd (omega arith)

-- ---- at most

-- what a sum carries out of the word does not matter
pub cut : (k a s top : ℕ) → a < 2 ^ k → top < 2 ^ k → bit_and (bit_or a (s % 2 ^ k)) top ≡ bit_and (bit_or a s) top
cut k a s top p q =
    ap (λ z. bit_and z top) (ap (λ z. bit_or z (s % 2 ^ k)) (sym (mod-eq_of_lt p)) ∙ sym (or_mod a s k))
    ∙ ap (bit_and (bit_or a s % 2 ^ k)) (sym (mod-eq_of_lt q)) ∙ sym (and_mod (bit_or a s) top k)
    ∙ mod-eq_of_lt (lt_of_le_of_lt (and_le_r (bit_or a s) top) q)

-- no octet, and no sum of an octet and 127 - limit, has bit 7 set exactly if each octet is at most its limit
pub above_is : (k x y : ℕ) → y ≤ rep k 255
    → eqb (bit_and (bit_or x (x + bit_and (rep k 255 - y) (rep k 127))) (rep k 128)) 0 ≡ at_most (octets k x) (lows (octets k y))
unfolding rep octets lows at_most
above_is zero x y h = ap (λ z. eqb z 0) (and_zero_r (bit_or x (x + bit_and (0 - y) 0)))
above_is (suc k) x y h =
    let n = rep k 255 * 256 + 255 - y in
    let high : n / 256 ≡ rep k 255 - y / 256 = omega arith in
    let low : n % 256 % 128 ≡ 127 - y₀ % 128 = omega arith in
    let room : bit_and n (rep k 127 * 256 + 127) ≡ C * 256 + (127 - y₀ % 128) =
    low_bits k n ∙ ap₂ (λ a b. bit_and a (rep k 127) * 256 + b) high low in
    ap (λ z. eqb (bit_and (bit_or x (x + z)) (rep k 128 * 256 + 128)) 0) room
    ∙ go (ltb x₀ 128) refl (above_is k (x / 256) (y / 256) (omega arith))
  where
    x₀ : ℕ
    x₀ = x % 256

    y₀ : ℕ
    y₀ = y % 256

    C : ℕ
    C = bit_and (rep k 255 - y / 256) (rep k 127)

    rest : Bool
    rest = at_most (octets k (x / 256)) (lows (octets k (y / 256)))

    sum : ℕ
    sum = x + (C * 256 + (127 - y₀ % 128))

    x< : x₀ < 256
    x< = mod-lt x (zero-lt-suc 255)

    s< : sum % 256 < 256
    s< = mod-lt sum (zero-lt-suc 255)

    parts : bit_and (bit_or x sum) (rep k 128 * 256 + 128)
        ≡ bit_and (bit_or (x / 256) (sum / 256)) (rep k 128) * 256 + (bit_or (x₀ / 128) (sum % 256 / 128) % 2) * 128
    parts =
        let xs : x ≡ x / 256 * 256 + x₀ = omega arith in
        let ss : sum ≡ sum / 256 * 256 + sum % 256 = omega arith in
        ap (λ z. bit_and z (rep k 128 * 256 + 128)) (ap₂ bit_or xs ss ∙ or_block 8 (x / 256) (sum / 256) x₀ (sum % 256) x< s<)
        ∙ and_block 8 (bit_or (x / 256) (sum / 256)) (rep k 128) (bit_or x₀ (sum % 256)) 128 (or_lt 8 x₀ (sum % 256) x< s<) (lit< tt)
        ∙ ap (λ z. bit_and (bit_or (x / 256) (sum / 256)) (rep k 128) * 256 + z) (top_bit x₀ (sum % 256))

    go : (t : Bool) → ltb x₀ 128 ≡ t → eqb (bit_and (bit_or (x / 256) (x / 256 + C)) (rep k 128)) 0 ≡ rest
        → eqb (bit_and (bit_or x sum) (rep k 128 * 256 + 128)) 0 ≡ (leb x₀ (y₀ % 128) && rest)
    go false e ih =
        let big : 128 ≤ x₀ = ltb-false x₀ 128 e in
        let A = bit_and (bit_or (x / 256) (sum / 256)) (rep k 128) in
        ap (λ z. eqb z 0) (parts ∙ ap (λ z. A * 256 + z) (set x₀ (sum % 256) _ _ refl refl big x< s<))
        ∙ ne_eqb (A * 256 + 128) 0 (λ z. omega arith)
        ∙ ap (λ t. t && rest) (sym (lt-leb x₀ (y₀ % 128) (omega arith)))
    go true e ih =
        let small : x₀ < 128 = ltb-true x₀ 128 e in
        let high : sum / 256 ≡ x / 256 + C = omega arith in
        let low : sum % 256 ≡ x₀ + (127 - y₀ % 128) = omega arith in
        let A = bit_and (bit_or (x / 256) (x / 256 + C)) (rep k 128) in
        let value : bit_and (bit_or x sum) (rep k 128 * 256 + 128) ≡ A * 256 + (x₀ + (127 - y₀ % 128)) / 128 * 128 =
        parts
        ∙ ap₂ (λ a b. bit_and (bit_or (x / 256) a) (rep k 128) * 256 + b) high
        (clear x₀ (sum % 256) _ _ refl refl small s< ∙ ap (λ z. z / 128 * 128) low) in
        ap (λ z. eqb z 0) value ∙ one_more A (x₀ + (127 - y₀ % 128)) x₀ (y₀ % 128) rest (λ p. omega arith) (λ p. omega arith) ih

-- ---- at least

-- of octets that are at most their limits the lowest one is below 128, and the others are at most theirs
lowest : (k x y : ℕ) → at_most (octets (suc k) x) (lows (octets (suc k) y)) ≡ true
    → (x % 256 < 128) × (at_most (octets k (x / 256)) (lows (octets k (y / 256))) ≡ true)
unfolding octets lows at_most
lowest k x y h =
    let (first, others) = and_parts (leb (x % 256) (y % 256 % 128)) (at_most (octets k (x / 256)) (lows (octets k (y / 256)))) h in
    (omega (arith, leb-true (x % 256) (y % 256 % 128) first), others)

-- so the whole word is at most that of 127 in each octet
low_word : (k x y : ℕ) → x ≤ rep k 255 → at_most (octets k x) (lows (octets k y)) ≡ true → x ≤ rep k 127
unfolding rep
low_word zero x y p h = p
low_word (suc k) x y p h =
    let (first, others) = lowest k x y h in
    let up : x / 256 ≤ rep k 127 = low_word k (x / 256) (y / 256) (omega arith) others in
    omega arith

-- then no difference 127 + least - octet has bit 7 set exactly if each octet is at least its least
below_is : (k x y l : ℕ) → x ≤ rep k 255 → at_most (octets k x) (lows (octets k y)) ≡ true
    → eqb (bit_and (rep k 127 + bit_and l (rep k 127) - x) (rep k 128)) 0 ≡ at_most (lows (octets k l)) (octets k x)
unfolding rep octets lows at_most
below_is zero x y l p h = ap (λ z. eqb z 0) (and_zero_r (0 + bit_and l 0 - x))
below_is (suc k) x y l p h =
    let (first, others) = lowest k x y h in
    let up : x / 256 ≤ rep k 127 = low_word k (x / 256) (y / 256) (omega arith) others in
    let apart : rep k 127 * 256 + 127 + (B * 256 + l₀) - x ≡ (rep k 127 + B - x / 256) * 256 + s = omega arith in
    let bit : bit_and s 128 ≡ s / 128 * 128 = and_high s 1 7 ∙ omega arith in
    ap (λ z. eqb (bit_and z (rep k 128 * 256 + 128)) 0) (ap (λ z. rep k 127 * 256 + 127 + z - x) (low_bits k l) ∙ apart)
    ∙ ap (λ z. eqb z 0) (and_block 8 (rep k 127 + B - x / 256) (rep k 128) s 128 (omega arith) (lit< tt) ∙ ap (λ z. A * 256 + z) bit)
    ∙ one_more A s l₀ x₀ _ (λ q. omega arith) (λ q. omega arith) (below_is k (x / 256) (y / 256) (l / 256) (omega arith) others)
  where
    x₀ : ℕ
    x₀ = x % 256

    l₀ : ℕ
    l₀ = l % 256 % 128

    B : ℕ
    B = bit_and (l / 256) (rep k 127)

    s : ℕ
    s = 127 + l₀ - x₀

    A : ℕ
    A = bit_and (rep k 127 + B - x / 256) (rep k 128)

-- a difference that does not wrap
unwrapped : (a x : ℕ) → a < 2 ^ 64 → x ≤ a → (a + (2 ^ 64 - x)) % 2 ^ 64 ≡ a - x
unwrapped a x p h = omega arith

-- w, 127 + least of each octet: the difference of whole words is tested where the test a of the mosts passes, and else does not matter
pub outside_is : (x y l w a : ℕ) → x ≤ rep 8 255 → w ≡ rep 8 127 + bit_and l (rep 8 127) → eqb a 0 ≡ at_most (octets 8 x) (lows (octets 8 y))
    → eqb (bit_or a (bit_and ((w + (2 ^ 64 - x)) % 2 ^ 64) (rep 8 128))) 0
    ≡ (at_most (octets 8 x) (lows (octets 8 y)) && at_most (lows (octets 8 l)) (octets 8 x))
unfolding rep
outside_is x y l w a p e f = or_zero a (bit_and r (rep 8 128)) ∙ ap (λ t. t && eqb (bit_and r (rep 8 128)) 0) f ∙ go (at_most (octets 8 x) (lows (octets 8 y))) refl
  where
    r : ℕ
    r = (w + (2 ^ 64 - x)) % 2 ^ 64

    go : (t : Bool) → at_most (octets 8 x) (lows (octets 8 y)) ≡ t
        → (t && eqb (bit_and r (rep 8 128)) 0) ≡ (t && at_most (lows (octets 8 l)) (octets 8 x))
    go true h =
        let fits : x ≤ rep 8 127 = low_word 8 x y p h in
        let small : w < 2 ^ 64 = omega (arith, e, and_le_r l (rep 8 127)) in
        ap (λ z. eqb (bit_and z (rep 8 128)) 0) (unwrapped w x small (omega arith) ∙ ap (λ z. z - x) e)
        ∙ below_is 8 x y l p h
    go false h = refl
