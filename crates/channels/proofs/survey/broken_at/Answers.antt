-- `channels::survey::broken_at` meets its contract.
use Prim.Native.Nat.{ℕ, ◌+◌, ◌≤◌, ◌<◌}
use native.Mathlib.Omega.{arith}
use mathlib.Core.Path.{ap, ◌∙◌}
use lib.ListN.{length, get_or}
use Rattle.ranges.specs.Octets.{octets}
use Rattle.ranges.proofs.Words.{octets_part}
use Rattle.channels.specs.Image.{channels, rows_end}
use Rattle.channels.specs.Rules.{all_keep}
use Rattle.channels.proofs.Fours.{rows_keep}
use Rattle.channels.proofs.survey.broken_at.Goals as goal

pub returns : goal.returns
returns c =
    let m = c.args.rows.octets.now in
    let k = c.args.k in
    let near : k + 4 ≤ channels = c.requires in
    let long : rows_end ≤ length m = c.args.rows.whole in
    let small : (i : ℕ) → get_or m i 0 < 256 = c.args.rows.small in
    let row0 = ap (octets 4) c.half.ensures ∙ octets_part m small 4 (128 + k) (omega arith) in
    let row1 = ap (octets 4) c.half-2.ensures ∙ octets_part m small 4 (144 + k) (omega arith) in
    let row2 = ap (octets 4) c.half-3.ensures ∙ octets_part m small 4 (160 + k) (omega arith) in
    let row3 = ap (octets 4) c.half-4.ensures ∙ octets_part m small 4 (176 + k) (omega arith) in
    c.broken.ensures ∙ (λ i. all_keep (row0 i) (row1 i) (row2 i) (row3 i)) ∙ rows_keep m long k 4 near
