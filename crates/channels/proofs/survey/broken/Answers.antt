-- `channels::survey::broken` meets its contract.
use mathlib.Core.Path.{◌≡◌, refl, ap, ◌∙◌}
use Rattle.ranges.specs.Octets.{octets, at_most}
use lib.ListN.{replicate}
use Rattle.channels.proofs.Fours.{or_five, all_by}
use Rattle.channels.proofs.survey.broken.Goals as goal

pub returns : goal.returns
unfolding octets
returns c =
    let v = c.exceeds in
    let w = c.exceeds-2 in
    let x = c.unpaired in
    let y = c.exceeds-3 in
    let z = c.exceeds-4 in
    let most : octets 4 4042322160 ≡ replicate 4 240 = refl in
    or_five v.result w.result x.result y.result z.result
    (v.ensures ∙ ap (at_most (octets 4 c.args.a)) most)
    (w.ensures ∙ ap (at_most (octets 4 c.args.b)) most)
    x.ensures
    y.ensures
    z.ensures
    ∙ all_by 4 c.args.a c.args.b c.args.c c.args.d
