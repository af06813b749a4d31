-- `state::load::Image::takes_data` meets its contract.
use mathlib.Core.Path.{ap, ◌∙◌}
use mathlib.Core.Bool.{Bool, ◌&&◌}
use lib.ListN.{get_or}
use lib.Dec.{eqb, ltb}
use Rattle.telegram.specs.Reading.{takes_data}
use Rattle.state.specs.Unpack.{unpacked}
use Rattle.state.proofs.LineCounts.{body_numbered}
use Rattle.state.proofs.load.Image.takes_data.Goals as goal

pub returns : goal.returns
unfolding unpacked takes_data
returns c =
    let m = c.args.self.octets.now in
    ap (λ (t : Bool). t && ltb (get_or m 33 0) (get_or m 32 0))
    (ap (eqb (get_or m 31 0)) c.number.ensures ∙ body_numbered (get_or m 31 0))
