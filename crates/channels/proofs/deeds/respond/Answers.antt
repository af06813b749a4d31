-- `channels::deeds::respond` meets its contract.
use mathlib.Core.Path.{◌∙◌}
use lib.ListN.{length}
use Rattle.octets.specs.Part.{pasted}
use Rattle.channels.specs.Image.{saved}
use Rattle.channels.specs.Deeds.{responded, responded_in}
use Rattle.channels.proofs.deeds.respond.Goals as goal

pub returns : goal.returns
unfolding responded_in
returns c =
    let s = c.args in
    let k = length s.response.now in
    c.save.ensures
    ∙ (λ i. saved (c.copy_at.ensures i) s.n (c.responded.ensures i))
    ∙ (λ i. saved (pasted s.mem.now s.at s.response.now) s.n (responded (c.load-c.ensures i) k))
