-- What the station's steps need of a state and a memory: every place is a buffer's, and every buffer lies in the memory.
-- A memory that is not damaged has it, and every step keeps it.
use Rattle.std.specs.Prelude.{ℕ, ◌≤◌, List, length}
use Rattle.buffers.specs.Roles.{Permutation}
use Rattle.state.specs.declared.state.State.{State}
use Rattle.state.specs.Layout.{end_of}
use Rattle.state.specs.Memory.{Channelled}

-- s is safe over the memory m
pub record Safe (s : State) (m : List ℕ) : Type 0 where
  pub outputs : Permutation 4 s.outputs.set.place
  pub inputs : Permutation 3 s.inputs.place
  pub parameters : Permutation 3 s.parameters.set.place
  pub configuration : Permutation 3 s.configuration.set.place
  pub reply : s.reply.place ≤ 3
  -- Set_Prm's octets are read from a buffer of at least 7, which has room for 8
  pub long : 7 ≤ s.setup.parameter_len
  pub room : end_of s.setup ≤ length m
  -- the channels keep their rules, and their buffers end in the memory too
  pub channels : Channelled m s.setup
