-- The test of the channels is exact: it holds where every channel keeps the rules, and nowhere else. So is the test of Start's lengths.
use Prim.Native.Nat.{ℕ, zero, suc, ◌+◌, ◌≤◌, ◌<◌}
use native.Mathlib.Nat.{not-suc-le-zero}
use native.Mathlib.Omega.{arith}
use mathlib.Core.Path.{◌≡◌, refl, ap, ◌∙◌}
use mathlib.Core.Logic.{inl, inr}
use mathlib.Core.Bool.{Bool, true, false, cond, ◌&&◌}
use mathlib.Core.List.{List}
use lib.Dec.{leb, ltb, eqb}
use lib.ListN.{length}
use borrow.Author.Tests.{leb-true, le-leb, ltb-true, ltb-false, eqb-true, eq-eqb, ne_eqb}
use Rattle.std.proofs.lemmas.Bool.{and_parts}
use Rattle.channels.specs.declared.channel.Channel.{Channel}
use Rattle.channels.specs.Image.{channels, loaded}
use Rattle.channels.specs.Rules.{Buffer, LengthsOk, Sound, buffer_test, lengths_test, keeps, well_at, each_from, well_channels}
use Rattle.channels.specs.Places.{indication, response}
use Rattle.channels.specs.Setting.{length_octets, lengths_given, pair_test, lengths_ok}

-- ---- of the numbers from k on

-- a test of j numbers holds of each
pub each_at : (p : ℕ → Bool) (k j : ℕ) → each_from p k j ≡ true → (i : ℕ) → i < j → p (k + i) ≡ true
unfolding each_from
each_at p k zero e i h = absurd (not-suc-le-zero h)
each_at p k (suc j) e i h = go (ltb i j) refl (each_at p k j (and_parts (each_from p k j) (p (k + j)) e).0 i)
  where
    go : (t : Bool) → ltb i j ≡ t → (i < j → p (k + i) ≡ true) → p (k + i) ≡ true
    go true f before = before (ltb-true i j f)
    go false f before =
        let g : j ≤ i = ltb-false i j f in
        let q : i ≡ j = omega arith in
        ap (λ (x : ℕ). p (k + x)) q ∙ (and_parts (each_from p k j) (p (k + j)) e).1

-- and where it holds of each it holds
pub each_holds : (p : ℕ → Bool) (k j : ℕ) → ((i : ℕ) → i < j → p (k + i) ≡ true) → each_from p k j ≡ true
unfolding each_from
each_holds p k zero h = refl
each_holds p k (suc j) h = λ x. each_holds p k j (λ i g. h i (omega arith)) x && h j (omega arith) x

-- the same from 0 on
all_at : (p : ℕ → Bool) (j : ℕ) → each_from p 0 j ≡ true → (n : ℕ) → n < j → p n ≡ true
all_at p j e n h = let z : n ≡ 0 + n = omega arith in ap p z ∙ each_at p 0 j e n h

all_hold : (p : ℕ → Bool) (j : ℕ) → ((n : ℕ) → n < j → p n ≡ true) → each_from p 0 j ≡ true
all_hold p j h = each_holds p 0 j (λ i g. let z : 0 + i ≡ i = omega arith in ap p z ∙ h i g)

-- ---- the octets of one channel

buffer_ok : (n : ℕ) → buffer_test n ≡ true → Buffer n
buffer_ok n e = let g = and_parts (leb 4 n) (leb n 240) e in (leb-true 4 n g.0, leb-true n 240 g.1)

buffer_pass : (n : ℕ) → Buffer n → buffer_test n ≡ true
buffer_pass n h = λ i. le-leb 4 n h.0 i && le-leb n 240 h.1 i

-- the test of both lengths
pub lengths_ok_lem : (a b : ℕ) → lengths_test a b ≡ true → LengthsOk a b
lengths_ok_lem a b = go (eqb a 0) refl
  where
    go : (t : Bool) → eqb a 0 ≡ t → cond t (eqb b 0) (buffer_test a && buffer_test b) ≡ true → LengthsOk a b
    go true f e = inl (eqb-true a 0 f, eqb-true b 0 e)
    go false f e = let g = and_parts (buffer_test a) (buffer_test b) e in inr (buffer_ok a g.0, buffer_ok b g.1)

pub lengths_pass : (a b : ℕ) → LengthsOk a b → lengths_test a b ≡ true
lengths_pass a b (inl h) = λ i. cond (eq-eqb a 0 h.0 i) (eq-eqb b 0 h.1 i) (buffer_test a && buffer_test b)
lengths_pass a b (inr h) =
    λ i. cond (ne_eqb a 0 some i) (eqb b 0) (buffer_pass a h.0 i && buffer_pass b h.1 i)
  where
    some : a ≡ 0 → ⊥
    some z = let g : 4 ≤ a = h.0.0 in omega arith

-- the test of its four octets
pub keeps_sound : (c : Channel) → keeps c.indication_len c.response_len c.indication_count c.response_count ≡ true → Sound c
unfolding keeps
keeps_sound c e =
    let u = and_parts (lengths_test c.indication_len c.response_len) _ e in
    let v = and_parts (leb c.indication_count c.indication_len) (leb c.response_count c.response_len) u.1 in
    record {
      lengths = lengths_ok_lem c.indication_len c.response_len u.0;
      indication_fits = leb-true c.indication_count c.indication_len v.0;
      response_fits = leb-true c.response_count c.response_len v.1;
    }

pub sound_keeps : (c : Channel) → Sound c → keeps c.indication_len c.response_len c.indication_count c.response_count ≡ true
unfolding keeps
sound_keeps c h =
    λ i. lengths_pass c.indication_len c.response_len h.lengths i
    && (le-leb c.indication_count c.indication_len h.indication_fits i && le-leb c.response_count c.response_len h.response_fits i)

-- ---- the channels of a memory

-- where the test holds, every channel keeps the rules
pub well_sound : (m : List ℕ) → well_channels m ≡ true → (n : ℕ) → n < channels → Sound (loaded m n)
unfolding well_channels well_at loaded
well_sound m e n h = keeps_sound _ (all_at (well_at m) channels e n h)

-- and where every channel keeps them, the test holds
pub sound_well : (m : List ℕ) → ((n : ℕ) → n < channels → Sound (loaded m n)) → well_channels m ≡ true
unfolding well_channels well_at loaded
sound_well m h = all_hold (well_at m) channels (λ n g. sound_keeps _ (h n g))

-- ---- Start's lengths

-- where the test holds there are 32 octets, and every channel's lengths are allowed
pub lengths_say : (xs : List ℕ) → lengths_ok xs ≡ true
    → (length xs ≡ length_octets) × ((n : ℕ) → n < channels → LengthsOk (lengths_given xs n indication) (lengths_given xs n response))
unfolding lengths_ok
lengths_say xs e =
    let u = and_parts (eqb (length xs) length_octets) (each_from (pair_test xs) 0 channels) e in
    (eqb-true (length xs) length_octets u.0, λ n h. lengths_ok_lem _ _ (all_at (pair_test xs) channels u.1 n h))

-- and where that is so, the test holds
pub lengths_hold : (xs : List ℕ) → length xs ≡ length_octets
    → ((n : ℕ) → n < channels → LengthsOk (lengths_given xs n indication) (lengths_given xs n response)) → lengths_ok xs ≡ true
unfolding lengths_ok
lengths_hold xs e h =
    λ i. eq-eqb (length xs) length_octets e i && all_hold (pair_test xs) channels (λ n g. lengths_pass (lengths_given xs n indication) (lengths_given xs n response) (h n g)) i
