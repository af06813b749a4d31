-- `channels::places::room_before` meets its contract.
use Prim.Native.Nat.{◌*◌, ◌≤◌}
use mathlib.Core.Path.{◌≡◌}
use Rattle.channels.specs.Places.{lengths_in, room_from}
use Rattle.channels.proofs.places.room_before.Given as goal

abbrev pub invariant-loop-k : goal.invariant-loop-k
invariant-loop-k l = (l.room ≡ room_from (lengths_in l.rows.octets.now) 0 l.k) × (l.room ≤ 512 * l.k)
