-- `channels::setting::room_for` meets its contract.
use native.Mathlib.Omega.{arith}
use mathlib.Core.Path.{refl}
use Rattle.channels.specs.Places.{room_from}
use Rattle.channels.specs.Setting.{lengths_given}
use Rattle.channels.proofs.Found.{room_next}
use Rattle.channels.proofs.setting.room_for.Goals as goal

pub loop-n-init : goal.loop-n-init
unfolding room_from
loop-n-init c = (refl, omega arith)

pub loop-n-preserved : goal.loop-n-preserved
loop-n-preserved c =
    let xs = c.args.lengths.now in
    let u = c.rounded_up.ensures in
    let v = c.rounded_up-in-loop-n.ensures in
    (room_next (lengths_given xs) c.loop-n.n c.loop-n.room _ _ c.loop-n.invariant.0 u.0 v.0, omega arith)
