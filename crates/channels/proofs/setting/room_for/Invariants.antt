-- `channels::setting::room_for` meets its contract.
use Prim.Native.Nat.{◌*◌, ◌≤◌}
use mathlib.Core.Path.{◌≡◌}
use Rattle.channels.specs.Places.{room_from}
use Rattle.channels.specs.Setting.{lengths_given}
use Rattle.channels.proofs.setting.room_for.Given as goal

abbrev pub invariant-loop-n : goal.invariant-loop-n
invariant-loop-n l = (l.room ≡ room_from (lengths_given l.lengths) 0 l.n) × (l.room ≤ 512 * l.n)
