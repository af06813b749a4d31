-- `ranges::checks::word_between` meets its contract.
use Rattle.std.proofs.Common.{◌&&◌, ap, ◌∙◌}
use Rattle.ranges.specs.Octets.{octets, at_most, lows}
use Rattle.ranges.proofs.Words.{octets_part}
use Rattle.ranges.proofs.checks.word_between.Goals as goal

pub returns : goal.returns
returns c =
    let same =
    ap (octets 8) c.word.ensures
    ∙ octets_part c.args.mem.now (λ i. (c.type_inv.mem i).fits) 8 c.args.at c.requires in
    c.outside.ensures
    ∙ ap (λ l. at_most l (lows (octets 8 c.args.most)) && at_most (lows (octets 8 c.args.least)) l) same
