-- A word and its octets, and the parts of a memory that they come from.
use Rattle.std.proofs.Common.{◌≡◌, ℕ, zero, suc, ◌+◌, ◌*◌, ◌/◌, ◌%◌, ◌<◌, ◌≤◌, Bool, ◌&&◌, eqb, ltb, leb, List, [], ◌∷◌, ◌++◌, length, get_or, take, drop, replicate, sym, refl, ap, ◌∙◌, ap₂, add-one, arith, drop-cons, drop-drop, take-add, le-ltb, lt-ltb, ne_eqb}
use mathlib.Core.Bool.{and_assoc}
use lib.ListN.{length-replicate, replicate-append-replicate}
use lib.Bits.{bit_or, or_add_and, and_le_r}
use borrow.Author.Tests.{lt-leb}
use Rattle.octets.specs.Part.{part}
use Rattle.octets.proofs.Parts.{part_length}
use Rattle.ranges.specs.Octets.{number, octets, at_most, lows}

-- ---- a part of a memory

-- its first octet and the rest
pub part_cons : (m : List ℕ) (at k : ℕ) → at < length m → part m at (suc k) ≡ get_or m at 0 ∷ part m (at + 1) k
part_cons m at k h = ap (take (suc k)) (drop-cons m at 0 h) ∙ ap (λ n. get_or m at 0 ∷ take k (drop n m)) (sym (add-one at))

-- the same from a place that is counted on
part_from : (m : List ℕ) (at j k : ℕ) → at + j < length m → part m (at + j) (suc k) ≡ get_or m (at + j) 0 ∷ part m (at + suc j) k
part_from m at j k h =
    let next : at + j + 1 ≡ at + suc j = omega arith in
    part_cons m (at + j) k h ∙ ap (λ n. get_or m (at + j) 0 ∷ part m n k) next

-- k octets of a memory from at + j on, read one by one
unfoldable pub reads : List ℕ → ℕ → ℕ → ℕ → List ℕ
reads m at j zero = []
reads m at j (suc k) = get_or m (at + j) 0 ∷ reads m at (suc j) k

reads_are : (m : List ℕ) (at j k : ℕ) → at + j + k ≤ length m → part m (at + j) k ≡ reads m at j k
unfolding reads
reads_are m at j zero h = refl
reads_are m at j (suc k) h = part_from m at j k (omega arith) ∙ ap (λ l. get_or m (at + j) 0 ∷ l) (reads_are m at (suc j) k (omega arith))

-- a part's octets, read one by one
pub part_reads : (m : List ℕ) (at k : ℕ) → at + suc k ≤ length m → part m at (suc k) ≡ get_or m at 0 ∷ reads m at 1 k
part_reads m at k h = part_cons m at k (omega arith) ∙ ap (λ l. get_or m at 0 ∷ l) (reads_are m at 1 k (omega arith))

-- half a word of four octets that were read one by one is the part's
pub quarter : (m : List ℕ) (at r : ℕ) → at + 4 ≤ length m
    → r ≡ number (get_or m at 0 ∷ get_or m (at + 1) 0 ∷ get_or m (at + 2) 0 ∷ get_or m (at + 3) 0 ∷ []) → r ≡ number (part m at 4)
unfolding reads
quarter m at r h e = e ∙ ap number (sym (part_reads m at 3 h))

-- a word has the octets that it was made of
pub octets_part : (m : List ℕ) → ((i : ℕ) → get_or m i 0 < 256) → (k at : ℕ) → at + k ≤ length m → octets k (number (part m at k)) ≡ part m at k
unfolding octets number
octets_part m small zero at h = refl
octets_part m small (suc k) at h =
    let rest = part m (at + 1) k in
    let x = get_or m at 0 in
    let x< : x < 256 = small at in
    let low : (number rest * 256 + x) % 256 ≡ x = omega arith in
    let high : (number rest * 256 + x) / 256 ≡ number rest = omega arith in
    ap (λ l. octets (suc k) (number l)) (part_cons m at k (omega arith))
    ∙ ap₂ (λ a b. a ∷ octets k b) low high
    ∙ ap (λ l. x ∷ l) (octets_part m small k (at + 1) (omega arith))
    ∙ sym (part_cons m at k (omega arith))

-- ---- two words one behind the other

-- lists that are put together, held to limits that are put together in the same place
at_most_append : (xs ls ys ms : List ℕ) → length xs ≡ length ls → at_most (xs ++ ys) (ls ++ ms) ≡ (at_most xs ls && at_most ys ms)
unfolding at_most
at_most_append [] [] ys ms h = refl
at_most_append [] (l ∷ ls) ys ms h = absurd (let z : 0 ≡ suc (length ls) = h in omega arith)
at_most_append (x ∷ xs) [] ys ms h = absurd (let z : suc (length xs) ≡ 0 = h in omega arith)
at_most_append (x ∷ xs) (l ∷ ls) ys ms h =
    let h' : suc (length xs) ≡ suc (length ls) = h in
    ap (λ t. leb x l && t) (at_most_append xs ls ys ms (omega arith)) ∙ sym (and_assoc (leb x l) (at_most xs ls) (at_most ys ms))

-- sixteen octets of a memory held to two words of limits
pub two_words : (m : List ℕ) (at a b : ℕ) → at + 8 ≤ length m
    → at_most (part m at 16) (lows (octets 8 a) ++ lows (octets 8 b))
    ≡ (at_most (part m at 8) (lows (octets 8 a)) && at_most (part m (at + 8) 8) (lows (octets 8 b)))
unfolding octets lows
two_words m at a b h =
    ap (λ l. at_most l (lows (octets 8 a) ++ lows (octets 8 b)))
    (take-add 8 8 (drop at m) ∙ ap (λ l. part m at 8 ++ take 8 l) (drop-drop 8 at m))
    ∙ at_most_append (part m at 8) (lows (octets 8 a)) (part m (at + 8) 8) (lows (octets 8 b)) (part_length m at 8 h)

-- ---- words that are 0

-- an or is 0 exactly if both its sides are
pub or_zero : (a b : ℕ) → eqb (bit_or a b) 0 ≡ (eqb a 0 && eqb b 0)
or_zero zero b = refl
or_zero (suc a) b =
    ne_eqb (bit_or (suc a) b) 0 (λ z. omega (arith, or_add_and (suc a) b, and_le_r (suc a) b))
    ∙ ap (λ t. t && eqb b 0) (sym (ne_eqb (suc a) 0 (λ z. omega arith)))

-- a word with the octet 0 below it is 0 exactly if it is
pub shifted : (n : ℕ) → eqb (n * 256 + 0) 0 ≡ eqb n 0
shifted zero = refl
shifted (suc n) = ne_eqb (suc n * 256 + 0) 0 (λ z. omega arith) ∙ sym (ne_eqb (suc n) 0 (λ z. omega arith))

-- a word is 0 exactly if each of its octets is
all_zero : (xs : List ℕ) → eqb (number xs) 0 ≡ at_most xs (replicate (length xs) 0)
unfolding number at_most
all_zero [] = refl
all_zero (zero ∷ xs) = shifted (number xs) ∙ all_zero xs
all_zero (suc x ∷ xs) =
    ne_eqb (number xs * 256 + suc x) 0 (λ z. omega arith)
    ∙ ap (λ t. t && at_most xs (replicate (length xs) 0)) (sym (lt-leb (suc x) 0 (omega arith)))

-- a word is below 256 exactly if it is 0 above its lowest octet
below_256 : (n x : ℕ) → x < 256 → ltb (n * 256 + x) 256 ≡ eqb n 0
below_256 zero x h = lt-ltb (0 * 256 + x) 256 (omega arith)
below_256 (suc n) x h = le-ltb (suc n * 256 + x) 256 (omega arith) ∙ sym (ne_eqb (suc n) 0 (λ z. omega arith))

-- so a part's word is below 256 exactly if the octets behind the first are 0
pub behind_first : (m : List ℕ) (at k : ℕ) → get_or m at 0 < 256 → at + suc k ≤ length m
    → ltb (number (part m at (suc k))) 256 ≡ at_most (part m (at + 1) k) (replicate k 0)
unfolding number
behind_first m at k small h =
    let rest = part m (at + 1) k in
    ap (λ l. ltb (number l) 256) (part_cons m at k (omega arith))
    ∙ below_256 (number rest) (get_or m at 0) small
    ∙ all_zero rest
    ∙ ap (λ n. at_most rest (replicate n 0)) (part_length m (at + 1) k (omega arith))

-- ---- octets that are 0

-- half a word of a memory is 0 exactly if its octets are
pub half_none : (m : List ℕ) (at r : ℕ) → at + 4 ≤ length m → r ≡ number (part m at 4) → eqb r 0 ≡ at_most (part m at 4) (replicate 4 0)
half_none m at r h e = ap (λ x. eqb x 0) e ∙ all_zero (part m at 4) ∙ ap (λ n. at_most (part m at 4) (replicate n 0)) (part_length m at 4 h)

-- two parts of a memory, one behind the other, are 0 exactly if the part that they make is
pub none_joined : (m : List ℕ) (at j k : ℕ) → at + j ≤ length m
    → (at_most (part m at j) (replicate j 0) && at_most (part m (at + j) k) (replicate k 0)) ≡ at_most (part m at (j + k)) (replicate (j + k) 0)
none_joined m at j k h =
    sym (at_most_append (part m at j) (replicate j 0) (part m (at + j) k) (replicate k 0) (part_length m at j h ∙ sym (length-replicate {A = ℕ} j 0)))
    ∙ ap₂ at_most (sym (take-add j k (drop at m) ∙ ap (λ l. part m at j ++ take k l) (drop-drop j at m))) (replicate-append-replicate {A = ℕ} j k 0)

-- and so are words that are 0 exactly if these are
pub joined_none : (m : List ℕ) (at j k x y : ℕ) → at + j ≤ length m
    → eqb x 0 ≡ at_most (part m at j) (replicate j 0)
    → eqb y 0 ≡ at_most (part m (at + j) k) (replicate k 0)
    → eqb (bit_or x y) 0 ≡ at_most (part m at (j + k)) (replicate (j + k) 0)
joined_none m at j k x y h p q =
    or_zero x y
    ∙ ap₂ ◌&&◌ p q
    ∙ none_joined m at j k h

-- and so are four for parts of one length
pub four_none : (m : List ℕ) (at n w x y z : ℕ) → at + (n + n + n) ≤ length m
    → eqb w 0 ≡ at_most (part m at n) (replicate n 0)
    → eqb x 0 ≡ at_most (part m (at + n) n) (replicate n 0)
    → eqb y 0 ≡ at_most (part m (at + (n + n)) n) (replicate n 0)
    → eqb z 0 ≡ at_most (part m (at + (n + n + n)) n) (replicate n 0)
    → eqb (bit_or (bit_or (bit_or w x) y) z) 0 ≡ at_most (part m at (n + n + n + n)) (replicate (n + n + n + n) 0)
four_none m at n w x y z h p q r s = joined_none m at (n + n + n) n (bit_or (bit_or w x) y) z h three s
  where
    three : eqb (bit_or (bit_or w x) y) 0 ≡ at_most (part m at (n + n + n)) (replicate (n + n + n) 0)
    three = joined_none m at (n + n) n (bit_or w x) y (omega arith) (joined_none m at n n w x (omega arith) p q) r

-- an or of four is 0 exactly if each of them is
pub or_four : (w x y z : ℕ) {p q r s : Bool} → eqb w 0 ≡ p → eqb x 0 ≡ q → eqb y 0 ≡ r → eqb z 0 ≡ s
    → eqb (bit_or (bit_or (bit_or w x) y) z) 0 ≡ (p && (q && (r && s)))
or_four w x y z {p = p} {q = q} {r = r} {s = s} a b c d =
    or_zero (bit_or (bit_or w x) y) z
    ∙ ap₂ ◌&&◌ (or_zero (bit_or w x) y ∙ ap₂ ◌&&◌ (or_zero w x ∙ ap₂ ◌&&◌ a b) c) d
    ∙ and_assoc (p && q) r s
    ∙ and_assoc p q (r && s)
