-- A memory with a state in front. Of its length this asks only that the buffers end in it, so it may be a part of a larger one.
use Rattle.std.specs.Prelude.{ℕ, ◌≤◌, ◌<◌, ◌≡◌, Bool, ◌&&◌, List, ◌++◌, leb, length, take, drop}
use Rattle.channels.specs.Image.{channels, loaded}
use Rattle.channels.specs.Rules.{well_channels}
use Rattle.channels.specs.Rules as channel
use Rattle.channels.specs.Places.{lengths_in}
use Rattle.state.specs.declared.state.State.{State}
use Rattle.state.specs.Image.{image}
use Rattle.state.specs.declared.setup.Setup.{Setup}
use Rattle.state.specs.Layout.{image_length, last_end}
use Rattle.state.specs.Sound.{Sound}
use Rattle.state.specs.Unpack.{unpacked}
use Rattle.state.specs.Well.{well_image}

-- a memory with the state in front
abbrev pub kept : State → List ℕ → List ℕ
kept s m = image s ++ drop image_length m

-- the first octets and the rows of the channels are the image of a "state whose roles, lengths and counts keep these rules", and the buffers
-- for the stored lengths end in the memory
unfoldable pub holds_state : List ℕ → Bool
holds_state m = well_channels m && (well_image m && leb (last_end (lengths_in m) (unpacked m).setup) (length m))

-- the channels of a memory keep their rules, and the buffers, theirs behind the others, end in it
pub record Channelled (m : List ℕ) (s : Setup) : Type 0 where
  pub each : (n : ℕ) → n < channels → channel.Sound (loaded m n)
  pub ends : last_end (lengths_in m) s ≤ length m

-- what that means: m holds the state s
pub record Holds (m : List ℕ) (s : State) : Type 0 where
  pub long : image_length ≤ length m
  pub sound : Sound s
  pub front : take image_length m ≡ image s
  pub room : Channelled m s.setup

-- a memory m becomes n: whatever state stood in front, that state changed so stands there now, and nothing else changes
abbrev pub Changes : List ℕ → List ℕ → (State → State) → Type 0
Changes m n change = (s : State) → m ≡ kept s m → n ≡ kept (change s) m
