-- `channels::places::room_before` meets its contract.
use native.Mathlib.Omega.{arith}
use mathlib.Core.Path.{refl, ap, ◌∙◌}
use Rattle.octets.specs.Part.{rounded_up}
use Rattle.channels.specs.declared.channel.Channel.{Channel}
use Rattle.channels.specs.Image.{loaded}
use Rattle.channels.specs.Places.{lengths_in, room_from}
use Rattle.channels.proofs.Found.{room_next}
use Rattle.channels.proofs.places.room_before.Goals as goal

pub loop-k-init : goal.loop-k-init
unfolding room_from
loop-k-init c = (refl, omega arith)

pub loop-k-preserved : goal.loop-k-preserved
unfolding loaded
loop-k-preserved c =
    let m = c.args.rows.octets.now in
    let e = c.load-c.ensures in
    let u = c.rounded_up.ensures in
    let v = c.rounded_up-in-loop-k.ensures in (
      room_next (lengths_in m) c.loop-k.k c.loop-k.room _ _ c.loop-k.invariant.0
          (u.0 ∙ ap (λ (x : Channel). rounded_up x.indication_len) e)
          (v.0 ∙ ap (λ (x : Channel). rounded_up x.response_len) e),
      omega arith,
    )
