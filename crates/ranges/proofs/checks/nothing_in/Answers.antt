-- `ranges::checks::nothing_in` meets its contract.
use Rattle.std.proofs.Common.{◌+◌, ◌≤◌, length, arith}
use Rattle.ranges.proofs.Words.{four_none}
use Rattle.ranges.proofs.checks.nothing_in.Goals as goal

pub returns : goal.returns
returns c =
    let m = c.args.mem.now in
    let at = c.args.at in
    let fits : at + 64 ≤ length m = c.requires in
    let h = c.four_halves in
    let h2 = c.four_halves-2 in
    let h3 = c.four_halves-3 in
    let h4 = c.four_halves-4 in
    four_none m at 16 h.result h2.result h3.result h4.result (omega arith) h.ensures h2.ensures h3.ensures h4.ensures
