-- `channels::places::response_at` meets its contract.
use Prim.Native.Nat.{◌+◌}
use mathlib.Core.Path.{ap, ◌∙◌}
use Rattle.octets.specs.Part.{rounded_up}
use Rattle.channels.specs.declared.channel.Channel.{Channel}
use Rattle.channels.specs.Image.{loaded}
use Rattle.channels.proofs.places.response_at.Goals as goal

pub returns : goal.returns
unfolding loaded
returns c =
    let e = c.rounded_up.ensures.0 ∙ ap (λ (x : Channel). rounded_up x.indication_len) c.load-c.ensures in
    λ i. c.indication_at.ensures.0 i + e i
