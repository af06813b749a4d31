-- The outputs' next buffer lies in the memory.
use Prim.Native.Nat.{ℕ, ◌+◌, ◌≤◌}
use native.Mathlib.Omega.{arith}
use mathlib.Core.List.{List}
use lib.ListN.{length}
use Rattle.buffers.specs.Roles.{next_of}
use Rattle.buffers.specs.Roles as role
use Rattle.state.specs.declared.state.State.{State}
use Rattle.state.specs.Layout.{output_row, outputs_at}
use Rattle.steps.specs.Safe.{Safe}
use Rattle.steps.proofs.KeepsSafe.{buffer_room}

pub next_room : (s : State) (m : List ℕ) → Safe s m → outputs_at s.setup (next_of s.outputs.set.place) + s.setup.output_len ≤ length m
next_room s m h = buffer_room s m output_row _ h (h.outputs.within role.next (omega arith))
