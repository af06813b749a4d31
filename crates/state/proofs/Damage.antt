-- A memory passes the test of a state exactly if it holds one, and it is that state.
use Prim.Native.Nat.{ℕ, ◌<◌}
use native.Mathlib.Omega.{arith}
use mathlib.Core.Path.{◌≡◌, refl, sym, ap, ◌∙◌}
use mathlib.Core.Bool.{Bool, true, false, ◌&&◌}
use mathlib.Core.List.{List, ◌++◌}
use lib.Dec.{leb}
use lib.ListN.{length, get_or, take, drop, take-append-drop}
use borrow.Author.Tests.{leb-true, le-leb}
use Rattle.channels.specs.Rules.{well_channels}
use Rattle.channels.specs.Places.{lengths_in}
use Rattle.channels.proofs.Exact.{well_sound, sound_well}
use Rattle.state.specs.declared.state.State.{State}
use Rattle.state.specs.Layout.{state_length, image_length, last_end}
use Rattle.state.specs.Memory.{kept, holds_state, Channelled, Holds}
use Rattle.state.specs.Sound.{Sound}
use Rattle.state.specs.Unpack.{unpacked}
use Rattle.state.specs.Well.{well_image}
use Rattle.state.proofs.Choice.{and_left, and_right}
use Rattle.state.proofs.Front.{kept_take, kept_length}
use Rattle.state.proofs.Channelled.{channelled_long, kept_channelled}
use Rattle.state.proofs.Round.{round, image_well, image_sound, well_image_lem}

-- a memory with the same octets in front as one that holds a state stays as it is where that state is packed again
pub fronted : (m n : List ℕ) (s : State) → Holds m s → take image_length n ≡ take image_length m → n ≡ kept s n
fronted m n s h e = sym (take-append-drop image_length n) ∙ ap (λ (l : List ℕ). l ++ drop image_length n) (e ∙ h.front)

-- so does that memory itself
pub fronted_same : (m : List ℕ) (s : State) → Holds m s → m ≡ kept s m
fronted_same m s h = fronted m m s h refl

-- it unpacks to it
pub holds_unpacked : (m : List ℕ) (s : State) → Holds m s → unpacked m ≡ s
holds_unpacked m s h = ap unpacked (fronted_same m s h) ∙ round s h.sound (drop image_length m)

-- and passes the check
pub holds_passes : (m : List ℕ) (s : State) → Holds m s → holds_state m ≡ true
unfolding holds_state
holds_passes m s h =
    let channels_are = sound_well m h.room.each in
    let image_is : well_image m ≡ true = ap well_image (fronted_same m s h) ∙ image_well s h.sound (drop image_length m) in
    let room-is : leb (last_end (lengths_in m) (unpacked m).setup) (length m) ≡ true =
    ap (λ (t : State). leb (last_end (lengths_in m) t.setup) (length m)) (holds_unpacked m s h)
    ∙ le-leb (last_end (lengths_in m) s.setup) (length m) h.room.ends
    in
    λ i. channels_are i && (image_is i && room-is i)

-- the tests of a memory that passes: its channels, its image, its room
module _ (m : List ℕ) (e : holds_state m ≡ true) where
  passed_channels : well_channels m ≡ true
  unfolding holds_state
  passed_channels = and_left (well_channels m) _ e

  passed_image : well_image m ≡ true
  unfolding holds_state
  passed_image = and_left (well_image m) _ (and_right (well_channels m) _ e)

  -- its channels are sound, and its buffers end in it
  pub passes_room : Channelled m (unpacked m).setup
  unfolding holds_state
  passes_room = record {
    each = well_sound m passed_channels;
    ends = leb-true (last_end (lengths_in m) (unpacked m).setup) (length m) (and_right (well_image m) _ (and_right (well_channels m) _ e));
  }

-- a memory that passes unpacks to a sound state
pub passes_sound : (m : List ℕ) → holds_state m ≡ true → Sound (unpacked m)
passes_sound m e = image_sound m (passed_image m e)

-- and, being of octets, holds it
pub passes_holds : (m : List ℕ) → ((i : ℕ) → get_or m i 0 < 256) → holds_state m ≡ true → Holds m (unpacked m)
passes_holds m small e =
    let room = channelled_long (passes_room m e) in
    record {
      long = omega arith;
      sound = passes_sound m e;
      front = sym (well_image_lem m (omega arith) small (passed_image m e));
      room = passes_room m e;
    }

-- a memory without room for the state part holds none
pub short_fails : (m : List ℕ) → length m < state_length → false ≡ holds_state m
short_fails m h = go (holds_state m) refl
  where
    go : (t : Bool) → holds_state m ≡ t → false ≡ t
    go true e = let long = channelled_long (passes_room m e) in absurd (omega arith)
    go false e = refl

-- ---- save

-- a memory with a sound state in front that has room holds that state
pub kept_holds : (s : State) (m : List ℕ) → Sound s → Channelled m s.setup → Holds (kept s m) s
kept_holds s m h r =
    let long = channelled_long r in
    let e = kept_length s m (omega arith) in
    record { long = omega arith; sound = h; front = kept_take s m; room = kept_channelled s m s.setup r }
