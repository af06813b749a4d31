-- Octets held to octets, and summed, by operations on whole words.
use Rattle.std.proofs.Common.{◌≡◌, ℕ, zero, suc, ◌+◌, ◌-◌, ◌*◌, ◌/◌, ◌%◌, ◌<◌, ◌≤◌, Bool, true, false, cond, ◌&&◌, eqb, leb, replicate, sym, refl, ap, ◌∙◌, ap₂, mod-lt, mod-eq_of_lt, zero-lt-suc, mul_assoc, arith, lit<, ne_eqb, eqb-true, leb-false, leb-true}
use native.Mathlib.Nat.{add-mul-mod_self_left, div-add-mod}
use mathlib.Core.Bool.{false≢true}
use lib.Bits.{bit_and, bit_or, and_block, or_block, or_lt, and_lt, and_le_l, and_le_r, and_zero_r, and_mask, and_high, and_shr, or_shr, or_add_and}
use borrow.Author.Tests.{eqb-false}
use Rattle.std.proofs.lemmas.Bool.{and_parts}
use Rattle.ranges.specs.Octets.{number, octets, at_most, pair, paired, eighths_of, total}
use Rattle.ranges.proofs.Words.{shifted}
use Rattle.ranges.proofs.Limits.{rep}

-- ---- one octet more

octet< : (x : ℕ) → x % 256 < 256
octet< x = mod-lt x (zero-lt-suc 255)

-- below the others' answer: bit 7 of its own, s, is clear exactly if its test t holds, and the others matter only then
lane : (k Z s : ℕ) (t rest : Bool) → s < 256 → (t ≡ true → (s < 128) × (eqb (bit_and Z (rep k 128)) 0 ≡ rest)) → (t ≡ false → 128 ≤ s)
    → eqb (bit_and (Z * 256 + s) (rep k 128 * 256 + 128)) 0 ≡ (t && rest)
lane k Z s t rest h p q = ap (λ z. eqb z 0) apart ∙ go t p q
  where
    A : ℕ
    A = bit_and Z (rep k 128)

    apart : bit_and (Z * 256 + s) (rep k 128 * 256 + 128) ≡ A * 256 + (s / 128 % 2) * 128
    apart = and_block 8 Z (rep k 128) s 128 h (lit< tt) ∙ ap (λ z. A * 256 + z) (and_high s 1 7)

    go : (u : Bool) → (u ≡ true → (s < 128) × (eqb A 0 ≡ rest)) → (u ≡ false → 128 ≤ s) → eqb (A * 256 + (s / 128 % 2) * 128) 0 ≡ (u && rest)
    go true f g =
        let small : s < 128 = (f refl).0 in
        let clear : (s / 128 % 2) * 128 ≡ 0 = omega arith in
        ap (λ z. eqb (A * 256 + z) 0) clear ∙ shifted A ∙ (f refl).1
    go false f g = let large : 128 ≤ s = g refl in ne_eqb (A * 256 + (s / 128 % 2) * 128) 0 (λ z. omega arith)

-- ---- at most

-- bit 7 tells whether l - x takes from the next octet: n is 255 - l, r is what is left
abbrev taken : ℕ → ℕ → ℕ → ℕ
taken x n r = bit_or (bit_and x n) (bit_and (bit_or x n) r)

taken_step : (x n r a b c : ℕ) → a < 256 → b < 256 → c < 256 → taken (x * 256 + a) (n * 256 + b) (r * 256 + c) ≡ taken x n r * 256 + taken a b c
taken_step x n r a b c p q s =
    ap₂ bit_or (and_block 8 x n a b p q) (ap (λ z. bit_and z (r * 256 + c)) (or_block 8 x n a b p q) ∙ and_block 8 (bit_or x n) r (bit_or a b) c (or_lt 8 a b p q) s)
    ∙ or_block 8 (bit_and x n) (bit_and (bit_or x n) r) (bit_and a b) (bit_and (bit_or a b) c) (and_lt 8 a b p q) (and_lt 8 (bit_or a b) c (or_lt 8 a b p q) s)

taken_top : (x n r : ℕ) → taken x n r / 128 ≡ taken (x / 128) (n / 128) (r / 128)
taken_top x n r =
    or_shr (bit_and x n) (bit_and (bit_or x n) r) 7
    ∙ ap₂ bit_or (and_shr x n 7) (and_shr (bit_or x n) r 7 ∙ ap (λ z. bit_and z (r / 128)) (or_shr x n 7))

-- it does not where x is at most l
kept : (x l r a b c : ℕ) → x / 128 ≡ a → (255 - l) / 128 ≡ b → r / 128 ≡ c → l < 256 → r + x ≡ l → taken a b c ≡ 0
kept x l r zero zero zero e f g h s = refl
kept x l r zero zero (suc zero) e f g h s = refl
kept x l r zero zero (suc (suc c)) e f g h s = absurd (omega arith)
kept x l r zero (suc zero) zero e f g h s = refl
kept x l r zero (suc zero) (suc c) e f g h s = absurd (omega arith)
kept x l r zero (suc (suc b)) c e f g h s = absurd (omega arith)
kept x l r (suc zero) zero zero e f g h s = refl
kept x l r (suc zero) zero (suc c) e f g h s = absurd (omega arith)
kept x l r (suc zero) (suc b) c e f g h s = absurd (omega arith)
kept x l r (suc (suc a)) b c e f g h s = absurd (omega arith)

-- it does where x is above l
lent : (x l r a b c : ℕ) → x / 128 ≡ a → (255 - l) / 128 ≡ b → r / 128 ≡ c → x < 256 → l < 256 → r < 256 → r + x ≡ l + 256 → taken a b c ≡ 1
lent x l r zero zero c e f g h i j s = absurd (omega arith)
lent x l r zero (suc zero) zero e f g h i j s = absurd (omega arith)
lent x l r zero (suc zero) (suc zero) e f g h i j s = refl
lent x l r zero (suc zero) (suc (suc c)) e f g h i j s = absurd (omega arith)
lent x l r zero (suc (suc b)) c e f g h i j s = absurd (omega arith)
lent x l r (suc zero) zero zero e f g h i j s = absurd (omega arith)
lent x l r (suc zero) zero (suc zero) e f g h i j s = refl
lent x l r (suc zero) zero (suc (suc c)) e f g h i j s = absurd (omega arith)
lent x l r (suc zero) (suc zero) zero e f g h i j s = refl
lent x l r (suc zero) (suc zero) (suc zero) e f g h i j s = refl
lent x l r (suc zero) (suc zero) (suc (suc c)) e f g h i j s = absurd (omega arith)
lent x l r (suc zero) (suc (suc b)) c e f g h i j s = absurd (omega arith)
lent x l r (suc (suc a)) b c e f g h i j s = absurd (omega arith)

-- how many numbers k octets make
unfoldable pub cap : ℕ → ℕ
cap zero = 1
cap (suc k) = 256 * cap k

cap_pos : (k : ℕ) → 0 < cap k
unfolding cap
cap_pos zero = omega arith
cap_pos (suc k) = let u = cap_pos k in omega arith

-- the lowest octet stays, the others are cut
low_step : (n p x : ℕ) → 0 < p → x < 256 → (n * 256 + x) % (256 * p) ≡ (n % p) * 256 + x
low_step n p x h g =
    let d = div-add-mod n p in
    let l = mod-lt n h in
    let a = mul_assoc 256 p (n / p) in
    let e : n * 256 + x ≡ (n % p) * 256 + x + 256 * p * (n / p) = omega arith in
    let s : (n % p) * 256 + x < 256 * p = omega arith in
    ap (λ (k : ℕ). k % (256 * p)) e ∙ add-mul-mod_self_left ((n % p) * 256 + x) (256 * p) (n / p) ∙ mod-eq_of_lt s

-- the differences of whole words show each octet of x that is above its octet of l
pub exceeds_is : (k x l r : ℕ) → l ≤ rep k 255 → (r + x) % cap k ≡ l % cap k → eqb (bit_and (taken x (rep k 255 - l) r) (rep k 128)) 0 ≡ at_most (octets k x) (octets k l)
unfolding rep octets at_most cap
exceeds_is zero x l r h e = ap (λ z. eqb z 0) (and_zero_r (taken x (0 - l) r))
exceeds_is (suc k) x l r h e =
    (λ i. eqb (bit_and (taken (xs i) (ns i) (rs i)) (rep k 128 * 256 + 128)) 0)
    ∙ ap (λ z. eqb (bit_and z (rep k 128 * 256 + 128)) 0) (taken_step (x / 256) n' (r / 256) x₀ (255 - l₀) r₀ (octet< x) (omega arith) (octet< r))
    ∙ lane k (taken (x / 256) n' (r / 256)) s (leb x₀ l₀) rest s< (yes (exceeds_is k (x / 256) (l / 256) (r / 256) (omega arith))) no
  where
    x₀ : ℕ
    x₀ = x % 256

    l₀ : ℕ
    l₀ = l % 256

    r₀ : ℕ
    r₀ = r % 256

    n' : ℕ
    n' = rep k 255 - l / 256

    s : ℕ
    s = taken x₀ (255 - l₀) r₀

    rest : Bool
    rest = at_most (octets k (x / 256)) (octets k (l / 256))

    xs : x ≡ x / 256 * 256 + x₀
    xs = omega arith

    rs : r ≡ r / 256 * 256 + r₀
    rs = omega arith

    ns : rep k 255 * 256 + 255 - l ≡ n' * 256 + (255 - l₀)
    ns = omega arith

    small : 255 - l₀ < 256
    small = omega arith

    s< : s < 256
    s< =
        or_lt 8 (bit_and x₀ (255 - l₀)) (bit_and (bit_or x₀ (255 - l₀)) r₀) (and_lt 8 x₀ (255 - l₀) (octet< x) small)
        (and_lt 8 (bit_or x₀ (255 - l₀)) r₀ (or_lt 8 x₀ (255 - l₀) (octet< x) small) (octet< r))

    carry : ℕ
    carry = (r₀ + x₀) / 256

    -- what is known of the lowest octets, and of the others
    parts : ((r / 256 + x / 256 + carry) % cap k ≡ (l / 256) % cap k) × ((r₀ + x₀) % 256 ≡ l₀)
    parts =
        let whole : r + x ≡ (r / 256 + x / 256 + carry) * 256 + (r₀ + x₀) % 256 = omega arith in
        let ls : l ≡ l / 256 * 256 + l₀ = omega arith in
        let u = low_step (r / 256 + x / 256 + carry) (cap k) ((r₀ + x₀) % 256) (cap_pos k) (octet< (r₀ + x₀)) in
        let v = low_step (l / 256) (cap k) l₀ (cap_pos k) (octet< l) in
        split ((r / 256 + x / 256 + carry) % cap k) ((l / 256) % cap k) ((r₀ + x₀) % 256) l₀ (octet< (r₀ + x₀)) (octet< l)
        (sym u ∙ ap (λ z. z % (256 * cap k)) (sym whole) ∙ e ∙ ap (λ z. z % (256 * cap k)) ls ∙ v)
      where
        split : (a b c d : ℕ) → c < 256 → d < 256 → a * 256 + c ≡ b * 256 + d → (a ≡ b) × (c ≡ d)
        split a b c d p q f = (omega arith, omega arith)

    yes : ((r / 256 + x / 256) % cap k ≡ (l / 256) % cap k → eqb (bit_and (taken (x / 256) n' (r / 256)) (rep k 128)) 0 ≡ rest)
        → leb x₀ l₀ ≡ true → (s < 128) × (eqb (bit_and (taken (x / 256) n' (r / 256)) (rep k 128)) 0 ≡ rest)
    yes others t =
        let le : x₀ ≤ l₀ = leb-true x₀ l₀ t in
        let l< = octet< l in
        let r< = octet< r in
        let same : (r₀ + x₀) % 256 ≡ l₀ = parts.1 in
        let sum : r₀ + x₀ ≡ l₀ = omega arith in
        let top : s / 128 ≡ 0 = taken_top x₀ (255 - l₀) r₀ ∙ kept x₀ l₀ r₀ _ _ _ refl refl refl l< sum in
        let none : r / 256 + x / 256 + carry ≡ r / 256 + x / 256 = omega arith in
        (omega arith, others (ap (λ z. z % cap k) (sym none) ∙ parts.0))

    no : leb x₀ l₀ ≡ false → 128 ≤ s
    no t =
        let lt : l₀ < x₀ = leb-false x₀ l₀ t in
        let x< = octet< x in
        let l< = octet< l in
        let r< = octet< r in
        let same : (r₀ + x₀) % 256 ≡ l₀ = parts.1 in
        let sum : r₀ + x₀ ≡ l₀ + 256 = omega arith in
        let top : s / 128 ≡ 1 = taken_top x₀ (255 - l₀) r₀ ∙ lent x₀ l₀ r₀ _ _ _ refl refl refl x< l< r< sum in
        omega arith

-- ---- pairs

or_least : (a b : ℕ) → (a ≤ bit_or a b) × (b ≤ bit_or a b)
or_least a b =
    let s = or_add_and a b in
    let p = and_le_l a b in
    let q = and_le_r a b in
    (omega arith, omega arith)

-- bit 7 of each octet is set exactly if its octet of x is at least 128 - d
abbrev reach : ℕ → ℕ → ℕ → ℕ
reach k d x = bit_or (bit_and x (rep k 127) + rep k d) x

-- that of one octet
abbrev reach₁ : ℕ → ℕ → ℕ
reach₁ d x = bit_or (x % 128 + d) x

reach_low : (d x : ℕ) → x + d < 128 → reach₁ d x < 128
reach_low d x h = or_lt 7 (x % 128 + d) x (omega arith) (omega arith)

reach_high : (d x : ℕ) → 128 ≤ x + d → 128 ≤ reach₁ d x
reach_high d x h = let (p, q) = or_least (x % 128 + d) x in omega arith

reach_octet : (d x : ℕ) → d < 128 → x < 256 → reach₁ d x < 256
reach_octet d x h g = or_lt 8 (x % 128 + d) x (omega arith) g

reach_step : (k d x a : ℕ) → d < 128 → a < 256 → bit_or (bit_and (x * 256 + a) (rep k 127 * 256 + 127) + (rep k d * 256 + d)) (x * 256 + a) ≡ reach k d x * 256 + reach₁ d a
reach_step k d x a h g =
    let m : bit_and a 127 ≡ a % 128 = and_mask a 7 in
    let low : bit_and x (rep k 127) * 256 + bit_and a 127 + (rep k d * 256 + d) ≡ (bit_and x (rep k 127) + rep k d) * 256 + (a % 128 + d) = omega arith in
    ap (λ z. bit_or (z + (rep k d * 256 + d)) (x * 256 + a)) (and_block 8 x (rep k 127) a 127 g (lit< tt))
    ∙ ap (λ z. bit_or z (x * 256 + a)) low
    ∙ or_block 8 (bit_and x (rep k 127) + rep k d) x (a % 128 + d) a (omega arith) g

-- no octet carries into the next one
pub reach_small : (k d x : ℕ) → d < 128 → x ≤ rep k 255 → reach k d x ≤ rep k 255
unfolding rep
reach_small zero d x h g = let e : x ≡ 0 = omega arith in rw e (omega arith)
reach_small (suc k) d x h g =
    let up = reach_small k d (x / 256) h (omega arith) in
    let low = reach_octet d (x % 256) h (octet< x) in
    let xs : x ≡ x / 256 * 256 + x % 256 = omega arith in
    let e = ap (λ z. bit_or (bit_and z (rep k 127 * 256 + 127) + (rep k d * 256 + d)) z) xs ∙ reach_step k d (x / 256) (x % 256) h (octet< x) in
    omega arith

-- of two octets from 128 on, bit 7 stays
and_tops : (a b : ℕ) → 128 ≤ a → a < 256 → 128 ≤ b → b < 256 → 128 ≤ bit_and a b
and_tops a b p q r s =
    let u : a / 128 ≡ 1 = omega arith in
    let v : b / 128 ≡ 1 = omega arith in
    let w : bit_and a b / 128 ≡ 1 = and_shr a b 7 ∙ ap₂ bit_and u v in
    omega arith

-- bit 7 of this is set where a or b is not 0 and one of them is below 4
abbrev lone : ℕ → ℕ → ℕ
lone a b = bit_and (reach₁ 127 (bit_or a b)) (255 - bit_and (reach₁ 124 a) (reach₁ 124 b))

pair_clear : (a b : ℕ) → a < 256 → b < 256 → pair a b ≡ true → lone a b < 128
pair_clear a b p q = go (eqb a 0) refl
  where
    F : ℕ
    F = reach₁ 124 a

    G : ℕ
    G = reach₁ 124 b

    go : (t : Bool) → eqb a 0 ≡ t → cond t (eqb b 0) (leb 4 a && leb 4 b) ≡ true → lone a b < 128
    go true e f =
        let none : bit_or a b ≡ 0 = ap₂ bit_or (eqb-true a 0 e) (eqb-true b 0 f) in
        let low = reach_low 127 (bit_or a b) (omega arith) in
        let le = and_le_l (reach₁ 127 (bit_or a b)) (255 - bit_and F G) in
        omega arith
    go false e f =
        let (u, v) = and_parts (leb 4 a) (leb 4 b) f in
        let a4 : 4 ≤ a = leb-true 4 a u in
        let b4 : 4 ≤ b = leb-true 4 b v in
        let high = and_tops F G (reach_high 124 a (omega arith)) (reach_octet 124 a (omega arith) p) (reach_high 124 b (omega arith)) (reach_octet 124 b (omega arith) q) in
        let le = and_le_r (reach₁ 127 (bit_or a b)) (255 - bit_and F G) in
        omega arith

pair_set : (a b : ℕ) → a < 256 → b < 256 → pair a b ≡ false → 128 ≤ lone a b
pair_set a b p q = go (eqb a 0) refl
  where
    F : ℕ
    F = reach₁ 124 a

    G : ℕ
    G = reach₁ 124 b

    o : ℕ
    o = bit_or a b

    shown : 1 ≤ o → bit_and F G < 128 → 128 ≤ lone a b
    shown h g =
        and_tops (reach₁ 127 o) (255 - bit_and F G) (reach_high 127 o (omega arith)) (reach_octet 127 o (omega arith) (or_lt 8 a b p q)) (omega arith) (omega arith)

    first : a < 4 → bit_and F G < 128
    first h = let low = reach_low 124 a (omega arith) in let le = and_le_l F G in omega arith

    second : b < 4 → bit_and F G < 128
    second h = let low = reach_low 124 b (omega arith) in let le = and_le_r F G in omega arith

    least : (a ≤ o) × (b ≤ o)
    least = or_least a b

    some : (x : ℕ) → (x ≡ 0 → ⊥) → x ≤ o → 1 ≤ o
    some zero h g = absurd (h refl)
    some (suc x) h g = omega arith

    few : (t : Bool) → leb 4 a ≡ t → (t && leb 4 b) ≡ false → bit_and F G < 128
    few true e f = second (leb-false 4 b f)
    few false e f = first (leb-false 4 a e)

    go : (t : Bool) → eqb a 0 ≡ t → cond t (eqb b 0) (leb 4 a && leb 4 b) ≡ false → 128 ≤ lone a b
    go true e f =
        let z : a ≡ 0 = eqb-true a 0 e in
        let n : b ≡ 0 → ⊥ = eqb-false b 0 f in
        let le : b ≤ o = least.1 in
        shown (some b n le) (first (omega arith))
    go false e f =
        let n : a ≡ 0 → ⊥ = eqb-false a 0 e in
        shown (some a n least.0) (few (leb 4 a) refl f)

-- the sums of whole words show each pair that is none
pub unpaired_is : (k a b : ℕ) → a ≤ rep k 255 → b ≤ rep k 255
    → eqb (bit_and (bit_and (reach k 127 (bit_or a b)) (rep k 255 - bit_and (reach k 124 a) (reach k 124 b))) (rep k 128)) 0 ≡ paired (octets k a) (octets k b)
unfolding rep octets paired
unpaired_is zero a b p q = ap (λ z. eqb z 0) (and_zero_r (bit_and (reach zero 127 (bit_or a b)) (0 - bit_and (reach zero 124 a) (reach zero 124 b))))
unpaired_is (suc k) a b p q =
    (λ i. eqb (bit_and (bit_and (some i) (rep k 255 * 256 + 255 - bit_and (first a i) (first b i))) (rep k 128 * 256 + 128)) 0)
    ∙ ap (λ z. eqb (bit_and (bit_and (S * 256 + reach₁ 127 (bit_or a₀ b₀)) z) (rep k 128 * 256 + 128)) 0) less
    ∙ ap (λ z. eqb (bit_and z (rep k 128 * 256 + 128)) 0)
    (and_block 8 S (rep k 255 - bit_and F G) (reach₁ 127 (bit_or a₀ b₀)) (255 - bit_and f g) (reach_octet 127 (bit_or a₀ b₀) (lit< tt) o<) (omega arith))
    ∙ lane k (bit_and S (rep k 255 - bit_and F G)) (lone a₀ b₀) (pair a₀ b₀) (paired (octets k (a / 256)) (octets k (b / 256)))
    (and_lt 8 (reach₁ 127 (bit_or a₀ b₀)) (255 - bit_and f g) (reach_octet 127 (bit_or a₀ b₀) (lit< tt) o<) (omega arith))
    (λ t. (pair_clear a₀ b₀ (octet< a) (octet< b) t, unpaired_is k (a / 256) (b / 256) (omega arith) (omega arith)))
    (pair_set a₀ b₀ (octet< a) (octet< b))
  where
    a₀ : ℕ
    a₀ = a % 256

    b₀ : ℕ
    b₀ = b % 256

    S : ℕ
    S = reach k 127 (bit_or (a / 256) (b / 256))

    F : ℕ
    F = reach k 124 (a / 256)

    G : ℕ
    G = reach k 124 (b / 256)

    f : ℕ
    f = reach₁ 124 a₀

    g : ℕ
    g = reach₁ 124 b₀

    o< : bit_or a₀ b₀ < 256
    o< = or_lt 8 a₀ b₀ (octet< a) (octet< b)

    apart : (x : ℕ) → x ≡ x / 256 * 256 + x % 256
    apart x = omega arith

    first : (x : ℕ) → reach (suc k) 124 x ≡ reach k 124 (x / 256) * 256 + reach₁ 124 (x % 256)
    first x = ap (reach (suc k) 124) (apart x) ∙ reach_step k 124 (x / 256) (x % 256) (lit< tt) (octet< x)

    some : reach (suc k) 127 (bit_or a b) ≡ S * 256 + reach₁ 127 (bit_or a₀ b₀)
    some =
        ap (reach (suc k) 127) (ap₂ bit_or (apart a) (apart b) ∙ or_block 8 (a / 256) (b / 256) a₀ b₀ (octet< a) (octet< b))
        ∙ reach_step k 127 (bit_or (a / 256) (b / 256)) (bit_or a₀ b₀) (lit< tt) o<

    less : rep k 255 * 256 + 255 - bit_and (F * 256 + f) (G * 256 + g) ≡ (rep k 255 - bit_and F G) * 256 + (255 - bit_and f g)
    less =
        let f< = reach_octet 124 a₀ (lit< tt) (octet< a) in
        let g< = reach_octet 124 b₀ (lit< tt) (octet< b) in
        let e = and_block 8 F G f g f< g< in
        let u = reach_small k 124 (a / 256) (lit< tt) (omega arith) in
        let v = and_le_l F G in
        let w = and_lt 8 f g f< g< in
        ap (λ z. rep k 255 * 256 + 255 - z) e ∙ cut_off (rep k 255) (bit_and F G) (bit_and f g) (omega arith) w
      where
        cut_off : (r x y : ℕ) → x ≤ r → y < 256 → r * 256 + 255 - (x * 256 + y) ≡ (r - x) * 256 + (255 - y)
        cut_off r x y m n = omega arith

-- ---- eighths

-- the whole word is at most that of the most in each octet
pub most_word : (k d x : ℕ) → x ≤ rep k 255 → at_most (octets k x) (replicate k d) ≡ true → x ≤ rep k d
unfolding rep octets at_most
most_word zero d x p h = p
most_word (suc k) d x p h =
    let (first, others) = and_parts (leb (x % 256) d) (at_most (octets k (x / 256)) (replicate k d)) h in
    let up = most_word k d (x / 256) (omega arith) others in
    let low = leb-true (x % 256) d first in
    omega arith

pub eighths_are : (k x : ℕ) → at_most (octets k x) (replicate k 248) ≡ true → bit_and ((x + rep k 7) / 8) (rep k 31) ≡ number (eighths_of (octets k x))
unfolding rep octets at_most number eighths_of
eighths_are zero x h = and_zero_r ((x + 0) / 8)
eighths_are (suc k) x h =
    let (first, others) = and_parts (leb (x % 256) 248) (at_most (octets k (x / 256)) (replicate k 248)) h in
    let low : x % 256 ≤ 248 = leb-true (x % 256) 248 first in
    let y = x / 256 + rep k 7 in
    let r = (y % 8) * 32 + (x % 256 + 7) / 8 in
    let e : (x + (rep k 7 * 256 + 7)) / 8 ≡ (y / 8) * 256 + r = omega arith in
    let f : r % 32 ≡ (x % 256 + 7) / 8 = omega arith in
    ap (λ (a : ℕ). bit_and a (rep k 31 * 256 + 31)) e
    ∙ and_block 8 (y / 8) (rep k 31) r 31 (omega arith) (lit< tt)
    ∙ ap₂ (λ (a b : ℕ). a * 256 + b) (eighths_are k (x / 256) others) (and_mask r 5 ∙ f)

-- ---- the sum of four octets

-- the first and the third
spread : (x : ℕ) → bit_and x 16711935 ≡ (x / 256 / 256 % 256) * 65536 + x % 256
spread x =
    let e : x ≡ x / 256 / 256 * 65536 + x % 65536 = omega arith in
    let f : x % 65536 % 256 ≡ x % 256 = omega arith in
    ap (λ z. bit_and z 16711935) e
    ∙ and_block 16 (x / 256 / 256) 255 (x % 65536) 255 (mod-lt x (zero-lt-suc 65535)) (lit< tt)
    ∙ ap₂ (λ a b. a * 65536 + b) (and_mask (x / 256 / 256) 8) (and_mask (x % 65536) 8 ∙ f)

pub pairs_are : (x : ℕ) → bit_and x 16711935 + bit_and (x / 256) 16711935 ≡ (x / 256 / 256 % 256 + x / 256 / 256 / 256 % 256) * 65536 + (x % 256 + x / 256 % 256)
pairs_are x = ap₂ (λ a b. a + b) (spread x) (spread (x / 256)) ∙ omega arith

folded : (a b c d p : ℕ) → a < 256 → b < 256 → c < 256 → d < 256 → p ≡ (c + d) * 65536 + (a + b) → (p + p / 65536) % 65536 ≡ a + (b + (c + (d + 0)))
folded a b c d p h i j k e =
    let q : p / 65536 ≡ c + d = omega arith in
    let s : p + p / 65536 ≡ (c + d) * 65536 + (a + b + (c + d)) = omega arith in
    ap (λ z. z % 65536) s ∙ last (c + d) (a + b + (c + d)) (omega arith) ∙ omega arith
  where
    last : (n y : ℕ) → y < 65536 → (n * 65536 + y) % 65536 ≡ y
    last n y l = omega arith

pub sum_is : (x p : ℕ) → p ≡ bit_and x 16711935 + bit_and (x / 256) 16711935 → (p + p / 65536) % 65536 ≡ total (octets 4 x)
unfolding octets total
sum_is x p e = folded (x % 256) (x / 256 % 256) (x / 256 / 256 % 256) (x / 256 / 256 / 256 % 256) p (octet< x) (octet< (x / 256)) (octet< (x / 256 / 256)) (octet< (x / 256 / 256 / 256)) (e ∙ pairs_are x)
