-- The buffers lie in the memory, each apart from the others.
use Prim.Native.Nat.{ℕ, zero, suc, ◌+◌, ◌≤◌, ◌<◌}
use native.Mathlib.Nat.{mul-le-mul_left, mul-suc, not-suc-le-zero}
use native.Mathlib.Omega.{arith}
use mathlib.Core.Path.{◌≡◌, refl, sym}
use mathlib.Core.Bool.{Bool, true, false}
use mathlib.Core.Logic.{◌⊎◌, inl, inr}
use lib.ListN.{length, get_or-eq_default}
use lib.Dec.{ltb}
use borrow.Author.Tests.{ltb-true, ltb-false}
use Rattle.octets.specs.Part.{rounded_up}
use Rattle.octets.proofs.Parts.{places_apart}
use Rattle.channels.specs.Places.{Lengths, room_from}
use Rattle.channels.proofs.Room.{rounded_small}
use Rattle.state.specs.declared.setup.Setup.{Setup}
use Rattle.state.specs.Layout.{state_length, image_length, row_counts, row_count, row_length, get_cfg_row, row_base, start_of, get_cfg_at, end_of, last_end, BuffersEnd}

-- a length is at most what it is rounded up to
pub rounded_le : (n : ℕ) → n ≤ rounded_up n
unfolding rounded_up
rounded_le n = omega arith

-- a row ends before every later row begins
before : (s : Setup) (a b : ℕ) → a < b → start_of s a (row_count a) ≤ row_base s b
unfolding row_base start_of
before s a zero h = absurd (not-suc-le-zero h)
before s a (suc b) h = go (ltb a b) refl (before s a b)
  where
    go : (t : Bool) → ltb a b ≡ t → (a < b → start_of s a (row_count a) ≤ row_base s b) → start_of s a (row_count a) ≤ row_base s (suc b)
    go true e f = let u = f (ltb-true a b e) in omega arith
    go false e f = let v : a ≡ b = (let w : b ≤ a = ltb-false a b e in omega arith) in rw v (omega arith)

-- a buffer ends where its row ends or before
ends : (s : Setup) (a i n : ℕ) → i < row_count a → n ≤ rounded_up (row_length s a) → start_of s a i + n ≤ start_of s a (row_count a)
unfolding start_of
ends s a i n h g =
    let u = mul-le-mul_left (rounded_up (row_length s a)) h in
    let v = mul-suc (rounded_up (row_length s a)) i in
    omega arith

-- a row that has buffers is one of those in the order
known : (a i : ℕ) → i < row_count a → a < length row_counts
known a i h = go (ltb a (length row_counts)) refl
  where
    go : (t : Bool) → ltb a (length row_counts) ≡ t → a < length row_counts
    go true e = ltb-true a (length row_counts) e
    go false e =
        let u : length row_counts ≤ a = ltb-false a (length row_counts) e in
        let z = get_or-eq_default row_counts 0 u in
        omega arith

-- the first buffer begins behind the state part
behind : (s : Setup) (a : ℕ) → state_length ≤ row_base s a
unfolding row_base
behind s zero = omega arith
behind s (suc a) = let u = behind s a in omega arith

-- a row begins with its first buffer
pub first_start : (s : Setup) (a : ℕ) → start_of s a 0 ≡ row_base s a
unfolding start_of
first_start s a = omega arith

-- every buffer, with its length rounded up, ends in front of a later row
rounded_in_front : (s : Setup) (a b i n : ℕ) → a < b → i < row_count a → n ≤ rounded_up (row_length s a) → start_of s a i + n ≤ row_base s b
rounded_in_front s a b i n o h g =
    let v = ends s a i n h g in
    let w = before s a b o in
    omega arith

-- so do its octets
pub in_front : (s : Setup) (a b i n : ℕ) → a < b → i < row_count a → n ≤ row_length s a → start_of s a i + n ≤ row_base s b
in_front s a b i n o h g = let r = rounded_le (row_length s a) in rounded_in_front s a b i n o h (omega arith)

-- every buffer lies behind the state and in front of the end
pub inside : (s : Setup) (a i n : ℕ) → i < row_count a → n ≤ row_length s a → (image_length ≤ start_of s a i) × (start_of s a i + n ≤ end_of s)
unfolding start_of
inside s a i n h g =
    let u = behind s a in
    (omega arith, in_front s a (length row_counts) i n (known a i h) h g)

-- behind the whole state part, the rows of the channels among it
pub beyond : (s : Setup) (a i : ℕ) → state_length ≤ start_of s a i
unfolding start_of
beyond s a i = let u = behind s a in omega arith

-- also with its length rounded up
pub rounded_inside : (s : Setup) (a i n : ℕ) → i < row_count a → n ≤ rounded_up (row_length s a) → start_of s a i + n ≤ end_of s
rounded_inside s a i n h g = rounded_in_front s a (length row_counts) i n (known a i h) h g

-- the one for Get_Cfg
pub get_cfg_inside : (s : Setup) (n : ℕ) → n ≤ s.get_cfg_len → (image_length ≤ get_cfg_at s) × (get_cfg_at s + n ≤ end_of s)
get_cfg_inside s n h =
    let u = inside s get_cfg_row 0 n (omega arith) h in
    let e = first_start s get_cfg_row in
    omega arith

-- the buffers end behind the state part
pub end_behind : (s : Setup) → state_length ≤ end_of s
end_behind s = behind s (length row_counts)

-- those of the channels end behind them
pub last_behind : (z : Lengths) (s : Setup) → end_of s ≤ last_end z s
unfolding last_end
last_behind z s = omega arith

-- two buffers that differ in row or in place lie apart
pub apart : (s : Setup) (a i n b j k : ℕ) → i < row_count a → j < row_count b → n ≤ row_length s a → k ≤ row_length s b → (a ≡ b → i ≡ j → ⊥)
    → (start_of s b j + k ≤ start_of s a i) ⊎ (start_of s a i + n ≤ start_of s b j)
unfolding start_of
apart s a i n b j k hi hj hn hk d = go (ltb a b) refl (ltb b a) refl
  where
    tall : n ≤ rounded_up (row_length s a)
    tall = let r = rounded_le (row_length s a) in omega arith

    wide : k ≤ rounded_up (row_length s b)
    wide = let r = rounded_le (row_length s b) in omega arith

    go : (t : Bool) → ltb a b ≡ t → (u : Bool) → ltb b a ≡ u → (start_of s b j + k ≤ start_of s a i) ⊎ (start_of s a i + n ≤ start_of s b j)
    go true e u f =
        let v = ends s a i n hi tall in
        let w = before s a b (ltb-true a b e) in
        inr (omega arith)
    go false e true f =
        let v = ends s b j k hj wide in
        let w = before s b a (ltb-true b a f) in
        inl (omega arith)
    go false e false f =
        let p : b ≤ a = ltb-false a b e in
        let q : a ≤ b = ltb-false b a f in
        let o : a ≡ b = omega arith in
        rw (sym o) (places_apart (row_base s a) (rounded_up (row_length s a)) i j n k (d o) tall (rw o wide))

-- ---- no start wraps

-- the lengths are octets
pub record Octets (s : Setup) : Type 0 where
  pub output_octet : s.output_len < 256
  pub input_octet : s.input_len < 256
  pub parameter_octet : s.parameter_len < 256
  pub configuration_octet : s.configuration_len < 256
  pub diagnosis_octet : s.diagnosis_len < 256
  pub get_cfg_octet : s.get_cfg_len < 256

-- every row begins far below what a number of the code can hold
pub base_small : (s : Setup) (a : ℕ) → Octets s → a ≤ length row_counts → row_base s a ≤ 65536
unfolding row_base start_of
base_small s a o h = go (ltb a (length row_counts)) refl
  where
    whole : end_of s ≤ 65536
    whole =
        let u₀ = rounded_small _ o.output_octet in
        let u₁ = rounded_small _ o.input_octet in
        let u₂ = rounded_small _ o.parameter_octet in
        let u₃ = rounded_small _ o.configuration_octet in
        let u₄ = rounded_small _ o.diagnosis_octet in
        let u₅ = rounded_small _ o.get_cfg_octet in
        omega arith

    go : (t : Bool) → ltb a (length row_counts) ≡ t → row_base s a ≤ 65536
    go true e = let u = before s a (length row_counts) (ltb-true a (length row_counts) e) in let w = whole in omega arith
    go false e =
        let u : length row_counts ≤ a = ltb-false a (length row_counts) e in
        let v : a ≡ length row_counts = omega arith in
        rw v whole

-- ---- the sums

pub buffers_end : BuffersEnd
unfolding row_base rounded_up last_end room_from
buffers_end = record { all_64 = refl; all_96 = refl; all_97 = refl; all_244 = refl; with_channels = refl; with_one = refl }
