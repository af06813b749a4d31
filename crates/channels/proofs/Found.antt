-- What the survey of some channels finds, put together from what it finds of parts of them.
use Prim.Native.Nat.{ℕ, zero, suc, ◌+◌, ◌*◌, ◌≤◌, ◌<◌}
use native.Mathlib.Nat.{not-suc-le-zero}
use native.Mathlib.Numerals.{add-one}
use native.Mathlib.Omega.{arith}
use mathlib.Core.Path.{◌≡◌, refl, sym, ap, ap₂, ◌∙◌}
use mathlib.Core.Bool.{Bool, true, false, cond, ◌&&◌, false≢true, and_assoc, and-true}
use mathlib.Core.List.{List, [], ◌∷◌}
use lib.Dec.{leb, eqb}
use lib.ListN.{get_or, replicate}
use borrow.Author.Tests.{leb-true, eq-eqb, ne_eqb}
use Rattle.std.proofs.lemmas.Bool.{and_parts}
use Rattle.std.specs.Prelude.{Some, None}
use Rattle.octets.specs.Part.{part, rounded_up}
use Rattle.octets.proofs.Parts.{part_at}
use Rattle.ranges.specs.Octets.{at_most, nothing_at}
use Rattle.channels.specs.Image.{channels, channels_at, rows, rows_length, cell, octet_at}
use Rattle.channels.specs.Rules.{buffer_test, lengths_test, keeps, well_at, each_from, well_channels}
use Rattle.channels.specs.Places.{indication, response, Lengths, lengths_in, room_at, room_from, room_of, surveyed}
use Rattle.channels.proofs.Exact.{each_at, each_holds}
use Rattle.channels.proofs.Same.{octet_in}
use Rattle.channels.proofs.Room.{rooms_small}

-- ---- the octets of one channel

pub lengths_none : (a b : ℕ) → a ≡ 0 → eqb b 0 ≡ lengths_test a b
lengths_none a b e = sym (ap (λ (t : Bool). cond t (eqb b 0) (buffer_test a && buffer_test b)) (eq-eqb a 0 e))

pub lengths_some : (a b : ℕ) → (a ≡ 0 → ⊥) → (buffer_test a && buffer_test b) ≡ lengths_test a b
lengths_some a b e = sym (ap (λ (t : Bool). cond t (eqb b 0) (buffer_test a && buffer_test b)) (ne_eqb a 0 e))

-- ---- an answer

pub says_none : (t : Bool) (x : ℕ) → t ≡ false → None ≡ cond t (Some x) None
says_none t x e = sym (ap (λ (u : Bool). cond u (Some x) None) e)

pub says_room : (t : Bool) (x y : ℕ) → t ≡ true → y ≡ x → Some y ≡ cond t (Some x) None
says_room t x y e f = ap Some f ∙ sym (ap (λ (u : Bool). cond u (Some x) None) e)

pub told_room : (t : Bool) (x y : ℕ) → cond t (Some x) None ≡ Some y → (t ≡ true) × (y ≡ x)
told_room true x y e = (refl, cc)
told_room false x y e = cc

pub told_none : (t : Bool) (x : ℕ) → cond t (Some x) None ≡ None → t ≡ false
told_none true x e = cc
told_none false x e = refl

-- ---- channels behind one another

pub each_add : (p : ℕ → Bool) (k i j : ℕ) → each_from p k (i + j) ≡ (each_from p k i && each_from p (k + i) j)
unfolding each_from
each_add p k i zero =
    let e : i + 0 ≡ i = omega arith in ap (each_from p k) e ∙ sym (and-true (each_from p k i))
each_add p k i (suc j) =
    let e : i + suc j ≡ suc (i + j) = omega arith in
    let f : k + (i + j) ≡ k + i + j = omega arith in
    ap (each_from p k) e ∙ ap₂ ◌&&◌ (each_add p k i j) (ap p f) ∙ and_assoc (each_from p k i) (each_from p (k + i) j) (p (k + i + j))

pub room_add : (z : Lengths) (k i j : ℕ) → room_from z k (i + j) ≡ room_from z k i + room_from z (k + i) j
unfolding room_from
room_add z k i zero = let e : i + 0 ≡ i = omega arith in ap (room_from z k) e ∙ omega arith
room_add z k i (suc j) =
    let e : i + suc j ≡ suc (i + j) = omega arith in
    let f : k + (i + j) ≡ k + i + j = omega arith in
    ap (room_from z k) e ∙ ap₂ (λ (x y : ℕ). x + y) (room_add z k i j) (ap (room_at z) f) ∙ omega arith

-- one test that fails is enough
pub each_false : (p : ℕ → Bool) (i j : ℕ) → i < j → p i ≡ false → each_from p 0 j ≡ false
each_false p i j h e = go (each_from p 0 j) refl
  where
    go : (t : Bool) → each_from p 0 j ≡ t → t ≡ false
    go true f = let z : i ≡ 0 + i = omega arith in absurd (false≢true (sym e ∙ ap p z ∙ each_at p 0 j f i h))
    go false f = refl

-- one more that holds
pub each_next : (p : ℕ → Bool) (j : ℕ) → each_from p 0 j ≡ true → p j ≡ true → each_from p 0 (j + 1) ≡ true
unfolding each_from
each_next p j e f =
    let z : 0 + j ≡ j = omega arith in rw (add-one j) (λ i. e i && (ap p z ∙ f) i)

-- one more channel's room
pub room_next : (z : Lengths) (n x u v : ℕ) → x ≡ room_from z 0 n → u ≡ rounded_up (z n indication) → v ≡ rounded_up (z n response)
    → x + (u + v) ≡ room_from z 0 (n + 1)
unfolding room_from
room_next z n x u v e f g =
    let o : 0 + n ≡ n = omega arith in
    (λ i. e i + (f i + g i)) ∙ ap (λ (k : ℕ). room_from z 0 n + room_at z k) (sym o) ∙ sym (ap (room_from z 0) (add-one n))

-- ---- what is found of j channels from channel k on

-- they keep the rules, and take this room
abbrev pub Found : List ℕ → ℕ → ℕ → ℕ → Type 0
Found m k j x = (each_from (well_at m) k j ≡ true) × (x ≡ room_from (lengths_in m) k j)

-- so it is told
pub found_says : (m : List ℕ) (k j x : ℕ) → Found m k j x → Some x ≡ surveyed m k j
unfolding surveyed
found_says m k j x h = says_room (each_from (well_at m) k j) (room_from (lengths_in m) k j) x h.0 h.1

-- and what is told is so
pub says_found : (m : List ℕ) (k j x : ℕ) → surveyed m k j ≡ Some x → Found m k j x
unfolding surveyed
says_found m k j x e = told_room (each_from (well_at m) k j) (room_from (lengths_in m) k j) x e

-- the room is small where the octets are
pub found_small : (m : List ℕ) (k j x : ℕ) → ((i : ℕ) → get_or m i 0 < 256) → Found m k j x → x ≤ 512 * j
found_small m k j x small h =
    let u = rooms_small m k j small in
    let v : x ≡ room_from (lengths_in m) k j = h.1 in
    omega arith

-- ---- channels whose octets are all 0

none_well : (m : List ℕ) (n : ℕ) → ((r : ℕ) → r < rows → octet_at m r n ≡ 0) → well_at m n ≡ true
unfolding well_at keeps
none_well m n f = λ i. keeps (f 0 (omega arith) i) (f 1 (omega arith) i) (f 2 (omega arith) i) (f 3 (omega arith) i)

none_room : (m : List ℕ) (k j : ℕ) → ((i : ℕ) → i < j → (r : ℕ) → r < rows → octet_at m r (k + i) ≡ 0) → room_from (lengths_in m) k j ≡ 0
unfolding room_from rounded_up
none_room m k zero f = refl
none_room m k (suc j) f =
    λ i. none_room m k j (λ x g. f x (omega arith)) i + (rounded_up (f j (omega arith) 0 (omega arith) i) + rounded_up (f j (omega arith) 1 (omega arith) i))

-- they keep the rules and take no room
found_nothing : (m : List ℕ) (k j : ℕ) → ((i : ℕ) → i < j → (r : ℕ) → r < rows → octet_at m r (k + i) ≡ 0) → Found m k j 0
found_nothing m k j h = (each_holds (well_at m) k j (λ i g. none_well m (k + i) (h i g)), sym (none_room m k j h))

-- the octets of a list that is held to zeros
zeros : (xs : List ℕ) (n i : ℕ) → at_most xs (replicate n 0) ≡ true → i < n → get_or xs i 0 ≡ 0
unfolding at_most
zeros [] n i e h = refl
zeros (x ∷ xs) zero i e h = absurd (not-suc-le-zero h)
zeros (x ∷ xs) (suc n) zero e h = let g : x ≤ 0 = leb-true x 0 (and_parts (leb x 0) (at_most xs (replicate n 0)) e).0 in omega arith
zeros (x ∷ xs) (suc n) (suc i) e h = zeros xs n i (and_parts (leb x 0) (at_most xs (replicate n 0)) e).1 (omega arith)

-- nothing in the rows
pub rows_nothing : (m : List ℕ) → at_most (part m channels_at rows_length) (replicate rows_length 0) ≡ true → Found m 0 channels 0
rows_nothing m e = found_nothing m 0 channels octet
  where
    octet : (i : ℕ) → i < channels → (r : ℕ) → r < rows → octet_at m r (0 + i) ≡ 0
    octet i h r g = octet_in m r (0 + i) g (omega arith) ∙ zeros (part m channels_at rows_length) rows_length (channels * r + (0 + i)) e (omega arith)

nothing_octet : (m : List ℕ) (a i j : ℕ) → nothing_at m a ≡ true → i < 4 → j ≡ a + i → get_or m j 0 ≡ 0
unfolding nothing_at
nothing_octet m a i j e h o = ap (λ (x : ℕ). get_or m x 0) o ∙ sym (part_at m a 4 i h) ∙ zeros (part m a 4) 4 i e h

-- nothing in four columns of them
pub columns_nothing : (m : List ℕ) (k : ℕ)
    → (nothing_at m (channels_at + k) && (nothing_at m (channels_at + k + 16) && (nothing_at m (channels_at + k + 2 * 16) && nothing_at m (channels_at + k + 3 * 16)))) ≡ true
    → Found m k 4 0
columns_nothing m k e =
    let u = and_parts (nothing_at m (channels_at + k)) _ e in
    let v = and_parts (nothing_at m (channels_at + k + 16)) _ u.1 in
    let w = and_parts (nothing_at m (channels_at + k + 2 * 16)) (nothing_at m (channels_at + k + 3 * 16)) v.1 in
    found_nothing m k 4 (octet u.0 v.0 w.0 w.1)
  where
    octet : nothing_at m (channels_at + k) ≡ true → nothing_at m (channels_at + k + 16) ≡ true → nothing_at m (channels_at + k + 2 * 16) ≡ true → nothing_at m (channels_at + k + 3 * 16) ≡ true
        → (i : ℕ) → i < 4 → (r : ℕ) → r < rows → octet_at m r (k + i) ≡ 0
    octet a b c d i h zero g = nothing_octet m (channels_at + k) i (cell 0 (k + i)) a h (omega arith)
    octet a b c d i h (suc zero) g = nothing_octet m (channels_at + k + 16) i (cell 1 (k + i)) b h (omega arith)
    octet a b c d i h (suc (suc zero)) g = nothing_octet m (channels_at + k + 2 * 16) i (cell 2 (k + i)) c h (omega arith)
    octet a b c d i h (suc (suc (suc zero))) g = nothing_octet m (channels_at + k + 3 * 16) i (cell 3 (k + i)) d h (omega arith)
    octet a b c d i h (suc (suc (suc (suc r)))) g = absurd (omega arith)

-- ---- all of them

-- where the survey tells a room every channel keeps the rules, and it is the room of their buffers
pub survey_well : (m : List ℕ) (x : ℕ) → surveyed m 0 channels ≡ Some x → (well_channels m ≡ true) × (x ≡ room_of (lengths_in m))
unfolding well_channels
survey_well m x e = says_found m 0 channels x e

-- which is small where the octets are
pub survey_small : (m : List ℕ) (x : ℕ) → ((i : ℕ) → get_or m i 0 < 256) → surveyed m 0 channels ≡ Some x → x ≤ 8192
survey_small m x small e = found_small m 0 channels x small (says_found m 0 channels x e)

-- and where it tells none a channel breaks them
pub survey_broken : (m : List ℕ) → surveyed m 0 channels ≡ None → well_channels m ≡ false
unfolding well_channels surveyed
survey_broken m e = told_none (each_from (well_at m) 0 channels) _ e
