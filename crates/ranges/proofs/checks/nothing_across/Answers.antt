-- `ranges::checks::nothing_across` meets its contract.
use Rattle.std.proofs.Common.{◌+◌, ◌*◌, ◌≤◌, length, arith}
use Rattle.ranges.specs.Octets.{nothing_at}
use Rattle.ranges.proofs.Words.{half_none, or_four}
use Rattle.ranges.proofs.checks.nothing_across.Goals as goal

pub returns : goal.returns
unfolding nothing_at
returns c =
    let m = c.args.mem.now in
    let at = c.args.at in
    let step = c.args.step in
    let fits : at + 3 * step + 4 ≤ length m = c.requires.0 in
    let h = c.half in
    let h2 = c.half-2 in
    let h3 = c.half-3 in
    let h4 = c.half-4 in
    or_four h.result h2.result h3.result h4.result
    (half_none m at h.result (omega arith) h.ensures)
    (half_none m (at + step) h2.result (omega arith) h2.ensures)
    (half_none m (at + 2 * step) h3.result (omega arith) h3.ensures)
    (half_none m (at + 3 * step) h4.result (omega arith) h4.ensures)
