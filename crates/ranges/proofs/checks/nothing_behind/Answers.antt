-- `ranges::checks::nothing_behind` meets its contract.
use Rattle.std.proofs.Common.{ltb, ap, ◌∙◌}
use Rattle.ranges.proofs.Words.{behind_first}
use Rattle.ranges.proofs.checks.nothing_behind.Goals as goal

pub returns : goal.returns
returns c =
    let at = c.args.at in
    ap (λ x. ltb x 256) c.word.ensures
    ∙ behind_first c.args.mem.now at 7 (c.type_inv.mem at).fits c.requires
