-- Start's lengths are the channels that are then loaded, each of them free.
use Prim.Native.Nat.{ℕ, zero, suc, ◌+◌, ◌≤◌, ◌<◌}
use native.Mathlib.Nat.{not-suc-le-zero}
use native.Mathlib.Omega.{arith}
use mathlib.Core.Path.{◌≡◌, refl, ap, ◌∙◌}
use mathlib.Core.Bool.{Bool, true, false}
use mathlib.Core.List.{List}
use lib.Dec.{ltb}
use lib.ListN.{length, take, drop}
use borrow.Author.Tests.{ltb-true, ltb-false}
use Rattle.octets.specs.Part.{part}
use Rattle.channels.specs.declared.channel.Channel.{Channel}
use Rattle.channels.specs.Image.{channels, channels_at, rows_end, loaded, saved}
use Rattle.channels.specs.Rules.{Sound, LengthsOk}
use Rattle.channels.specs.Places.{Side, indication, response, lengths_in, room_of}
use Rattle.channels.specs.Setting.{lengths_given, free, set_up}
use Rattle.channels.proofs.Columns.{saved_length, saved_loaded, saved_other, saved_behind, saved_front}
use Rattle.channels.proofs.Same.{room_by}

-- the memory keeps its length
pub set_up_length : (m xs : List ℕ) (k : ℕ) → length (set_up m xs k) ≡ length m
unfolding set_up
set_up_length m xs zero = refl
set_up_length m xs (suc k) = saved_length (set_up m xs k) k (free xs k) ∙ set_up_length m xs k

-- the first k channels, each as it was set up
pub set_up_first : (m xs : List ℕ) (k n : ℕ) → rows_end ≤ length m → k ≤ channels → n < k → loaded (set_up m xs k) n ≡ free xs n
unfolding set_up
set_up_first m xs zero n g h l = absurd (not-suc-le-zero l)
set_up_first m xs (suc k) n g h l = go (ltb n k) refl (set_up_first m xs k n g (omega arith))
  where
    go : (t : Bool) → ltb n k ≡ t → (n < k → loaded (set_up m xs k) n ≡ free xs n) → loaded (saved (set_up m xs k) k (free xs k)) n ≡ free xs n
    go true e f =
        let i : n < k = ltb-true n k e in
        saved_other (set_up m xs k) k n (free xs k) (omega arith) (omega arith) (λ q. omega arith) ∙ f i
    go false e f =
        let i : k ≤ n = ltb-false n k e in
        let q : n ≡ k = omega arith in
        let s = set_up_length m xs k in
        rw q (saved_loaded (set_up m xs k) k (free xs k) (omega arith) (omega arith))

-- channel n is what it was set up as
pub set_up_loaded : (m xs : List ℕ) (n : ℕ) → rows_end ≤ length m → n < channels → loaded (set_up m xs channels) n ≡ free xs n
set_up_loaded m xs n g h = set_up_first m xs channels n g (omega arith) h

-- what lies behind the rows stays
pub set_up_drop : (m xs : List ℕ) (k a : ℕ) → k ≤ channels → rows_end ≤ a → drop a (set_up m xs k) ≡ drop a m
unfolding set_up
set_up_drop m xs zero a h g = refl
set_up_drop m xs (suc k) a h g = saved_behind (set_up m xs k) k (free xs k) a (omega arith) g ∙ set_up_drop m xs k a (omega arith) g

pub set_up_behind : (m xs : List ℕ) (k a j : ℕ) → k ≤ channels → rows_end ≤ a → part (set_up m xs k) a j ≡ part m a j
set_up_behind m xs k a j h g = ap (take j) (set_up_drop m xs k a h g)

-- and what lies in front of them
pub set_up_front : (m xs : List ℕ) (k a j : ℕ) → a + j ≤ channels_at → part (set_up m xs k) a j ≡ part m a j
unfolding set_up
set_up_front m xs zero a j h = refl
set_up_front m xs (suc k) a j h = saved_front (set_up m xs k) k (free xs k) a j h ∙ set_up_front m xs k a j h

-- the buffers take the room that Start's lengths take
pub set_up_room : (m xs : List ℕ) → rows_end ≤ length m → room_of (lengths_in (set_up m xs channels)) ≡ room_of (lengths_given xs)
unfolding loaded
set_up_room m xs g = room_by (lengths_in (set_up m xs channels)) (lengths_given xs) same
  where
    same : (n : ℕ) → n < channels → (s : Side) → lengths_in (set_up m xs channels) n s ≡ lengths_given xs n s
    same n h indication = ap (λ (c : Channel). c.indication_len) (set_up_loaded m xs n g h)
    same n h response = ap (λ (c : Channel). c.response_len) (set_up_loaded m xs n g h)

-- a channel that is set up with lengths that are allowed keeps the rules
pub free_sound : (xs : List ℕ) (n : ℕ) → LengthsOk (lengths_given xs n indication) (lengths_given xs n response) → Sound (free xs n)
free_sound xs n h = record { lengths = h; indication_fits = omega arith; response_fits = omega arith }
