-- Some channels at once: what the tests and sums of their octets in rows tell of each.
use Prim.Native.Nat.{ℕ, zero, suc, ◌+◌, ◌*◌, ◌/◌, ◌%◌, ◌≤◌, ◌<◌}
use native.Mathlib.Omega.{arith}
use mathlib.Core.Path.{◌≡◌, refl, sym, ap, ap₂, ◌∙◌}
use mathlib.Core.Logic.{inl, inr}
use mathlib.Core.Bool.{Bool, true, false, cond, ◌&&◌, and_assoc, and_comm}
use mathlib.Core.List.{List, ◌∷◌}
use lib.Dec.{leb, eqb}
use lib.ListN.{length, get_or, replicate}
use lib.Bits.{bit_or}
use borrow.Author.Tests.{eqb-true, le-leb}
use Rattle.std.proofs.lemmas.Bool.{and_parts}
use Rattle.std.specs.Prelude.{Some, None}
use Rattle.octets.specs.Part.{part, rounded_up}
use Rattle.ranges.specs.Octets.{number, octets, at_most, pair, paired, eighths_of, total}
use Rattle.ranges.proofs.Words.{or_zero, part_cons, octets_part}
use Rattle.channels.specs.Image.{channels, rows_end, cell, octet_at}
use Rattle.channels.specs.Rules.{LengthsOk, buffer_test, lengths_test, keeps, all_keep, well_at, each_from}
use Rattle.channels.specs.Places.{Lengths, lengths_in, room_at, room_from, surveyed}
use Rattle.channels.proofs.Exact.{lengths_ok_lem}
use Rattle.channels.proofs.Room.{rooms_small}
use Rattle.channels.proofs.Found.{each_add, room_add, Found}

-- ---- tests joined

swap : (t u v w : Bool) → ((t && u) && (v && w)) ≡ ((t && v) && (u && w))
swap false u v w = refl
swap true false false w = refl
swap true false true w = refl
swap true true v w = refl

-- ---- one channel

lengths_by : (a b : ℕ) → ((leb a 240 && leb b 240) && pair a b) ≡ lengths_test a b
lengths_by a b = go (eqb a 0) refl
  where
    zeros : (u : Bool) → eqb b 0 ≡ u → (leb b 240 && u) ≡ u
    zeros true e = let z : b ≡ 0 = eqb-true b 0 e in ap (λ t. t && true) (le-leb b 240 (omega arith))
    zeros false e = and_comm (leb b 240) false

    go : (t : Bool) → eqb a 0 ≡ t → ((leb a 240 && leb b 240) && cond t (eqb b 0) (leb 4 a && leb 4 b)) ≡ cond t (eqb b 0) (buffer_test a && buffer_test b)
    go true e =
        let z : a ≡ 0 = eqb-true a 0 e in
        ap (λ t. (t && leb b 240) && eqb b 0) (le-leb a 240 (omega arith)) ∙ zeros (eqb b 0) refl
    go false e = swap (leb a 240) (leb b 240) (leb 4 a) (leb 4 b) ∙ ap₂ ◌&&◌ (and_comm (leb a 240) (leb 4 a)) (and_comm (leb b 240) (leb 4 b))

keeps_by : (a b c d : ℕ) → ((((leb a 240 && leb b 240) && pair a b) && leb c a) && leb d b) ≡ keeps a b c d
unfolding keeps
keeps_by a b c d =
    ap (λ t. (t && leb c a) && leb d b) (lengths_by a b) ∙ and_assoc (lengths_test a b) (leb c a) (leb d b)

-- ---- channels whose octets are in words

-- each test of all of them, or all tests of each
pub all_by : (k a b c d : ℕ)
    → ((((at_most (octets k a) (replicate k 240) && at_most (octets k b) (replicate k 240)) && paired (octets k a) (octets k b)) && at_most (octets k c) (octets k a)) && at_most (octets k d) (octets k b))
    ≡ all_keep (octets k a) (octets k b) (octets k c) (octets k d)
unfolding octets at_most paired all_keep
all_by zero a b c d = refl
all_by (suc k) a b c d =
    ap (λ t. ((t && (pair a₀ b₀ && t3)) && (leb c₀ a₀ && t4)) && (leb d₀ b₀ && t5)) (swap (leb a₀ 240) t1 (leb b₀ 240) t2)
    ∙ ap (λ t. (t && (leb c₀ a₀ && t4)) && (leb d₀ b₀ && t5)) (swap (leb a₀ 240 && leb b₀ 240) (t1 && t2) (pair a₀ b₀) t3)
    ∙ ap (λ t. t && (leb d₀ b₀ && t5)) (swap ((leb a₀ 240 && leb b₀ 240) && pair a₀ b₀) ((t1 && t2) && t3) (leb c₀ a₀) t4)
    ∙ swap (((leb a₀ 240 && leb b₀ 240) && pair a₀ b₀) && leb c₀ a₀) (((t1 && t2) && t3) && t4) (leb d₀ b₀) t5
    ∙ ap₂ ◌&&◌ (keeps_by a₀ b₀ c₀ d₀) (all_by k (a / 256) (b / 256) (c / 256) (d / 256))
  where
    a₀ : ℕ
    a₀ = a % 256

    b₀ : ℕ
    b₀ = b % 256

    c₀ : ℕ
    c₀ = c % 256

    d₀ : ℕ
    d₀ = d % 256

    t1 : Bool
    t1 = at_most (octets k (a / 256)) (replicate k 240)

    t2 : Bool
    t2 = at_most (octets k (b / 256)) (replicate k 240)

    t3 : Bool
    t3 = paired (octets k (a / 256)) (octets k (b / 256))

    t4 : Bool
    t4 = at_most (octets k (c / 256)) (octets k (a / 256))

    t5 : Bool
    t5 = at_most (octets k (d / 256)) (octets k (b / 256))

-- an or of five is 0 exactly if each of them is
pub or_five : (v w x y z : ℕ) {p q r s t : Bool} → eqb v 0 ≡ p → eqb w 0 ≡ q → eqb x 0 ≡ r → eqb y 0 ≡ s → eqb z 0 ≡ t
    → eqb (bit_or (bit_or (bit_or (bit_or v w) x) y) z) 0 ≡ ((((p && q) && r) && s) && t)
or_five v w x y z a b c d e =
    or_zero (bit_or (bit_or (bit_or v w) x) y) z
    ∙ ap₂ ◌&&◌ (or_zero (bit_or (bit_or v w) x) y ∙ ap₂ ◌&&◌ (or_zero (bit_or v w) x ∙ ap₂ ◌&&◌ (or_zero v w ∙ ap₂ ◌&&◌ a b) c) d) e

-- ---- channels in a memory

-- the first of them and the others
each_first : (p : ℕ → Bool) (k j : ℕ) → each_from p k (suc j) ≡ (p k && each_from p (k + 1) j)
unfolding each_from
each_first p k j =
    let e : suc j ≡ 1 + j = omega arith in
    let z : k + 0 ≡ k = omega arith in
    ap (each_from p k) e ∙ each_add p k 1 j ∙ ap (λ n. p n && each_from p (k + 1) j) z

room_first : (z : Lengths) (k j : ℕ) → room_from z k (suc j) ≡ room_at z k + room_from z (k + 1) j
unfolding room_from
room_first z k j =
    let e : suc j ≡ 1 + j = omega arith in
    let n : k + 0 ≡ k = omega arith in
    ap (room_from z k) e ∙ room_add z k 1 j ∙ ap (λ i. 0 + room_at z i + room_from z (k + 1) j) n ∙ omega arith

-- a row's octets of channels from channel k on
abbrev row : List ℕ → ℕ → ℕ → ℕ → List ℕ
row m r k j = part m (cell r k) j

row_first : (m : List ℕ) (r k j : ℕ) → cell r k < length m → row m r k (suc j) ≡ octet_at m r k ∷ row m r (k + 1) j
row_first m r k j h =
    let e : cell r k + 1 ≡ cell r (k + 1) = omega arith in
    part_cons m (cell r k) j h ∙ ap (λ n. octet_at m r k ∷ part m n j) e

-- they keep the rules exactly if the octets in the rows do
pub rows_keep : (m : List ℕ) → rows_end ≤ length m → (k j : ℕ) → k + j ≤ channels
    → all_keep (row m 0 k j) (row m 1 k j) (row m 2 k j) (row m 3 k j) ≡ each_from (well_at m) k j
unfolding keeps all_keep well_at each_from
rows_keep m h k zero g = refl
rows_keep m h k (suc j) g =
    (λ i. all_keep (row_first m 0 k j (omega arith) i) (row_first m 1 k j (omega arith) i) (row_first m 2 k j (omega arith) i) (row_first m 3 k j (omega arith) i))
    ∙ one_more k j (rows_keep m h (k + 1) j (omega arith))
  where
    one_more : (k j : ℕ) → all_keep (row m 0 (k + 1) j) (row m 1 (k + 1) j) (row m 2 (k + 1) j) (row m 3 (k + 1) j) ≡ each_from (well_at m) (k + 1) j
        → (keeps (octet_at m 0 k) (octet_at m 1 k) (octet_at m 2 k) (octet_at m 3 k) && all_keep (row m 0 (k + 1) j) (row m 1 (k + 1) j) (row m 2 (k + 1) j) (row m 3 (k + 1) j))
        ≡ each_from (well_at m) k (suc j)
    one_more k j e = ap (λ t. well_at m k && t) e ∙ sym (each_first (well_at m) k j)

-- a channel that keeps them has short buffers
well_short : (m : List ℕ) (n r : ℕ) → r < 2 → well_at m n ≡ true → octet_at m r n ≤ 248
unfolding well_at keeps
well_short m n r l e = go r l (lengths_ok_lem (octet_at m 0 n) (octet_at m 1 n) (and_parts (lengths_test (octet_at m 0 n) (octet_at m 1 n)) _ e).0)
  where
    go : (r : ℕ) → r < 2 → LengthsOk (octet_at m 0 n) (octet_at m 1 n) → octet_at m r n ≤ 248
    go zero l (inl h) = let z = h.0 in omega arith
    go zero l (inr h) = let z : octet_at m 0 n ≤ 240 = h.0.1 in omega arith
    go (suc zero) l (inl h) = let z = h.1 in omega arith
    go (suc zero) l (inr h) = let z : octet_at m 1 n ≤ 240 = h.1.1 in omega arith
    go (suc (suc r)) l h = absurd (omega arith)

-- so all in a row are short
pub rows_short : (m : List ℕ) → rows_end ≤ length m → (r k j : ℕ) → r < 2 → k + j ≤ channels → each_from (well_at m) k j ≡ true → at_most (row m r k j) (replicate j 248) ≡ true
unfolding at_most
rows_short m h r k zero l g e = refl
rows_short m h r k (suc j) l g e =
    let (first, others) = and_parts (well_at m k) (each_from (well_at m) (k + 1) j) (sym (each_first (well_at m) k j) ∙ e) in
    ap (λ xs. at_most xs (replicate (suc j) 248)) (row_first m r k j (omega arith))
    ∙ (λ i. le-leb (octet_at m r k) 248 (well_short m k r l first) i && rows_short m h r (k + 1) j l (omega arith) others i)

-- ---- the room

-- the sum of two rows of eighths
pub sum_rows : (k a b : ℕ) → total (octets k (number (eighths_of (octets k a)) + number (eighths_of (octets k b)))) ≡ total (eighths_of (octets k a)) + total (eighths_of (octets k b))
unfolding octets number eighths_of total
sum_rows zero a b = refl
sum_rows (suc k) a b =
    let u = (a % 256 + 7) / 8 in
    let v = (b % 256 + 7) / 8 in
    let N = number (eighths_of (octets k (a / 256))) in
    let M = number (eighths_of (octets k (b / 256))) in
    let low : (N * 256 + u + (M * 256 + v)) % 256 ≡ u + v = small N M u v (omega arith) (omega arith) in
    let high : (N * 256 + u + (M * 256 + v)) / 256 ≡ N + M = large N M u v (omega arith) (omega arith) in
    ap₂ (λ x y. x + total (octets k y)) low high
    ∙ ap (λ x. u + v + x) (sum_rows k (a / 256) (b / 256))
    ∙ apart u v (total (eighths_of (octets k (a / 256)))) (total (eighths_of (octets k (b / 256))))
  where
    small : (N M u v : ℕ) → u ≤ 32 → v ≤ 32 → (N * 256 + u + (M * 256 + v)) % 256 ≡ u + v
    small N M u v h g = omega arith

    large : (N M u v : ℕ) → u ≤ 32 → v ≤ 32 → (N * 256 + u + (M * 256 + v)) / 256 ≡ N + M
    large N M u v h g = omega arith

    apart : (u v x y : ℕ) → u + v + (x + y) ≡ u + x + (v + y)
    apart u v x y = omega arith

-- is an eighth of the room
pub rows_room : (m : List ℕ) → rows_end ≤ length m → (k j : ℕ) → k + j ≤ channels
    → 8 * (total (eighths_of (row m 0 k j)) + total (eighths_of (row m 1 k j))) ≡ room_from (lengths_in m) k j
unfolding eighths_of total room_from rounded_up
rows_room m h k zero g = refl
rows_room m h k (suc j) g =
    (λ i. 8 * (total (eighths_of (row_first m 0 k j (omega arith) i)) + total (eighths_of (row_first m 1 k j (omega arith) i))))
    ∙ apart ((octet_at m 0 k + 7) / 8) ((octet_at m 1 k + 7) / 8) (total (eighths_of (row m 0 (k + 1) j))) (total (eighths_of (row m 1 (k + 1) j)))
    ∙ ap (λ x. room_at (lengths_in m) k + x) (rows_room m h (k + 1) j (omega arith))
    ∙ sym (room_first (lengths_in m) k j)
  where
    apart : (u v x y : ℕ) → 8 * (u + x + (v + y)) ≡ u * 8 + v * 8 + 8 * (x + y)
    apart u v x y = omega arith

-- by words
pub eighths_room : (m : List ℕ) → rows_end ≤ length m → ((i : ℕ) → get_or m i 0 < 256) → (k a b x y r : ℕ) → k + 4 ≤ channels
    → a ≡ number (row m 0 k 4) → b ≡ number (row m 1 k 4) → x ≡ number (eighths_of (octets 4 a)) → y ≡ number (eighths_of (octets 4 b)) → r ≡ total (octets 4 (x + y))
    → (8 * r ≡ room_from (lengths_in m) k 4) × (r ≤ 256)
eighths_room m h small k a b x y r g ea eb ex ey er =
    let p = ap (octets 4) ea ∙ octets_part m small 4 (cell 0 k) (omega arith) in
    let q = ap (octets 4) eb ∙ octets_part m small 4 (cell 1 k) (omega arith) in
    let e : r ≡ total (eighths_of (row m 0 k 4)) + total (eighths_of (row m 1 k 4)) =
    er ∙ (λ i. total (octets 4 (ex i + ey i))) ∙ sum_rows 4 a b ∙ (λ i. total (eighths_of (p i)) + total (eighths_of (q i))) in
    let f : 8 * r ≡ room_from (lengths_in m) k 4 = ap (λ n. 8 * n) e ∙ rows_room m h k 4 g in
    let u = rooms_small m k 4 small in
    (f, omega arith)

-- ---- groups of four, one behind the other

-- all keep the rules exactly if those of each group do
pub groups_keep : (p : ℕ → Bool) (a b c d : ℕ) → eqb a 0 ≡ each_from p 0 4 → eqb b 0 ≡ each_from p 4 4 → eqb c 0 ≡ each_from p 8 4 → eqb d 0 ≡ each_from p 12 4
    → eqb (bit_or (bit_or (bit_or a b) c) d) 0 ≡ each_from p 0 channels
groups_keep p a b c d e f g h =
    or_zero (bit_or (bit_or a b) c) d ∙ ap₂ ◌&&◌ (or_zero (bit_or a b) c ∙ ap₂ ◌&&◌ (or_zero a b ∙ ap₂ ◌&&◌ e f ∙ sym (each_add p 0 4 4)) g ∙ sym (each_add p 0 8 4)) h
    ∙ sym (each_add p 0 12 4)

-- where all keep them, those of each group do
pub group_keeps : (p : ℕ → Bool) → each_from p 0 channels ≡ true
    → (each_from p 0 4 ≡ true) × (each_from p 4 4 ≡ true) × (each_from p 8 4 ≡ true) × (each_from p 12 4 ≡ true)
group_keeps p e =
    let u = and_parts (each_from p 0 12) (each_from p 12 4) (sym (each_add p 0 12 4) ∙ e) in
    let v = and_parts (each_from p 0 8) (each_from p 8 4) (sym (each_add p 0 8 4) ∙ u.0) in
    let w = and_parts (each_from p 0 4) (each_from p 4 4) (sym (each_add p 0 4 4) ∙ v.0) in
    (w.0, w.1, v.1, u.1)

pub groups_room : (z : Lengths) (a b c d : ℕ) → 8 * a ≡ room_from z 0 4 → 8 * b ≡ room_from z 4 4 → 8 * c ≡ room_from z 8 4 → 8 * d ≡ room_from z 12 4
    → 8 * (a + b + c + d) ≡ room_from z 0 channels
groups_room z a b c d e f g h =
    let u = room_add z 0 4 4 in
    let v = room_add z 0 8 4 in
    let w = room_add z 0 12 4 in
    omega arith

-- where the last twelve octets of each row are 0 the first four channels are all there are
pub first_found : (m : List ℕ) → Found m 4 4 0 → Found m 8 4 0 → Found m 12 4 0 → surveyed m 0 4 ≡ surveyed m 0 channels
unfolding surveyed
first_found m u v w =
    let p = well_at m in
    let z = lengths_in m in
    let t : each_from p 0 channels ≡ each_from p 0 4 =
    each_add p 0 12 4 ∙ ap₂ ◌&&◌ (each_add p 0 8 4 ∙ ap₂ ◌&&◌ (each_add p 0 4 4 ∙ ap (λ t. each_from p 0 4 && t) u.0 ∙ and_comm (each_from p 0 4) true) v.0 ∙ and_comm (each_from p 0 4) true) w.0
    ∙ and_comm (each_from p 0 4) true in
    let a = room_add z 0 4 4 in
    let b = room_add z 0 8 4 in
    let c = room_add z 0 12 4 in
    let x = u.1 in
    let y = v.1 in
    let n = w.1 in
    let r : room_from z 0 channels ≡ room_from z 0 4 = omega arith in
    sym (ap₂ (λ (q : Bool) (n : ℕ). cond q (Some n) None) t r)
