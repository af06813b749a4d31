-- `channels::survey::eighths_at` meets its contract.
use Prim.Native.Nat.{ℕ, ◌+◌, ◌≤◌, ◌<◌}
use native.Mathlib.Omega.{arith}
use mathlib.Core.Path.{ap, ◌∙◌}
use lib.ListN.{length, get_or, replicate}
use Rattle.ranges.specs.Octets.{octets, at_most}
use Rattle.ranges.proofs.Words.{octets_part}
use Rattle.channels.specs.Image.{channels, rows_end}
use Rattle.channels.proofs.Fours.{rows_short, eighths_room}
use Rattle.channels.proofs.survey.eighths_at.Goals as goal

pub eighths-indications-requires : goal.eighths-indications-requires
eighths-indications-requires c =
    let m = c.args.rows.octets.now in
    let k = c.args.k in
    let near : k + 4 ≤ channels = c.requires.0 in
    let long : rows_end ≤ length m = c.args.rows.whole in
    let small : (i : ℕ) → get_or m i 0 < 256 = c.args.rows.small in
    ap (λ l. at_most l (replicate 4 248)) (ap (octets 4) c.half.ensures ∙ octets_part m small 4 (128 + k) (omega arith))
    ∙ rows_short m long 0 k 4 (omega arith) near c.requires.1

pub eighths-responses-requires : goal.eighths-responses-requires
eighths-responses-requires c =
    let m = c.args.rows.octets.now in
    let k = c.args.k in
    let near : k + 4 ≤ channels = c.requires.0 in
    let long : rows_end ≤ length m = c.args.rows.whole in
    let small : (i : ℕ) → get_or m i 0 < 256 = c.args.rows.small in
    ap (λ l. at_most l (replicate 4 248)) (ap (octets 4) c.half-2.ensures ∙ octets_part m small 4 (144 + k) (omega arith))
    ∙ rows_short m long 1 k 4 (omega arith) near c.requires.1

pub returns : goal.returns
returns c = eighths_room c.args.rows.octets.now c.args.rows.whole c.args.rows.small c.args.k _ _ _ _ _ c.requires.0
    c.half.ensures
    c.half-2.ensures
    c.eighths-indications.ensures.0
    c.eighths-responses.ensures.0
    c.sum_of.ensures
