-- `ranges::checks::four_halves` meets its contract.
use Rattle.std.proofs.Common.{◌+◌, ◌≤◌, length, arith}
use Rattle.ranges.proofs.Words.{half_none, four_none}
use Rattle.ranges.proofs.checks.four_halves.Goals as goal

pub returns : goal.returns
returns c =
    let m = c.args.mem.now in
    let at = c.args.at in
    let fits : at + 16 ≤ length m = c.requires in
    let h = c.half in
    let h2 = c.half-2 in
    let h3 = c.half-3 in
    let h4 = c.half-4 in
    four_none m at 4 h.result h2.result h3.result h4.result (omega arith)
    (half_none m at h.result (omega arith) h.ensures)
    (half_none m (at + 4) h2.result (omega arith) h2.ensures)
    (half_none m (at + 8) h3.result (omega arith) h3.ensures)
    (half_none m (at + 12) h4.result (omega arith) h4.ensures)
