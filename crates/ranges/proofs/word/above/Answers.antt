-- `ranges::word::above` meets its contract.
use Rattle.std.proofs.Common.{◌+◌, ◌-◌, eqb, ap, ◌∙◌, arith, lit<}
use lib.Bits.{bit_and}
use Rattle.ranges.proofs.Limits.{rep, cut, above_is}
use Rattle.ranges.proofs.word.above.Goals as goal

pub returns : goal.returns
unfolding rep
returns c =
    let x = c.args.x in
    let limits = c.args.limits in
    ap (λ z. eqb z 0) (cut 64 x (x + bit_and (rep 8 255 - limits) (rep 8 127)) (rep 8 128) c.ranges.x.fits (lit< tt))
    ∙ above_is 8 x limits (omega arith)
