-- `ranges::checks::two_words_within` meets its contract.
use Rattle.std.proofs.Common.{ℕ, ◌+◌, ◌<◌, ◌≤◌, ◌&&◌, length, get_or, sym, ap, ◌∙◌, ap₂, arith}
use Rattle.ranges.specs.Octets.{octets, at_most, lows}
use Rattle.ranges.proofs.Words.{or_zero, octets_part, two_words}
use Rattle.ranges.proofs.checks.two_words_within.Goals as goal

pub returns : goal.returns
returns c =
    let m = c.args.mem.now in
    let at = c.args.at in
    let first = lows (octets 8 c.args.first) in
    let second = lows (octets 8 c.args.second) in
    let fits : at + 16 ≤ length m = c.requires in
    let small : (i : ℕ) → get_or m i 0 < 256 = λ i. (c.type_inv.mem i).fits in
    let same = ap (octets 8) c.word.ensures ∙ octets_part m small 8 at (omega arith) in
    let same2 = ap (octets 8) c.word-2.ensures ∙ octets_part m small 8 (at + 8) (omega arith) in
    or_zero c.above.result c.above-2.result
    ∙ ap₂ ◌&&◌ (c.above.ensures ∙ ap (λ l. at_most l first) same) (c.above-2.ensures ∙ ap (λ l. at_most l second) same2)
    ∙ sym (two_words m at c.args.first c.args.second (omega arith))
