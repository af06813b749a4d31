-- The fill buffers that a telegram's data goes into lie in the memory.
use Rattle.std.proofs.Common.{ℕ, ◌+◌, ◌≤◌, List, length, arith}
use Rattle.buffers.specs.Roles.{fill_of}
use Rattle.buffers.specs.Roles as role
use Rattle.state.specs.declared.state.State.{State}
use Rattle.state.specs.Layout.{output_row, parameter_row, configuration_row, outputs_at, parameters_at, configuration_at}
use Rattle.steps.specs.Safe.{Safe}
use Rattle.steps.proofs.KeepsSafe.{buffer_room}

module _ (s : State) (m : List ℕ) (safe : Safe s m) where
  pub outputs_in : outputs_at s.setup (fill_of s.outputs.set.place) + s.setup.output_len ≤ length m
  outputs_in = buffer_room s m output_row (fill_of s.outputs.set.place) safe (safe.outputs.within role.fill (omega arith))

  pub parameters_in : parameters_at s.setup (fill_of s.parameters.set.place) + s.setup.parameter_len ≤ length m
  parameters_in = buffer_room s m parameter_row (fill_of s.parameters.set.place) safe (safe.parameters.within role.fill (omega arith))

  pub configuration_in : configuration_at s.setup (fill_of s.configuration.set.place) + s.setup.configuration_len ≤ length m
  configuration_in = buffer_room s m configuration_row (fill_of s.configuration.set.place) safe (safe.configuration.within role.fill (omega arith))
