-- `state::well::short_inputs` meets its contract.
use native.Mathlib.Omega.{arith}
use mathlib.Core.Path.{sym, ◌∙◌}
use mathlib.Core.Bool.{◌&&◌}
use lib.ListN.{get_or}
use borrow.Author.Tests.{eq-eqb, ne_eqb}
use Rattle.ranges.specs.Octets.{octets, lows}
use Rattle.state.specs.Short.{short_input_tests}
use Rattle.state.specs.Well.{all}
use Rattle.state.proofs.ShortLengths.{short_input_word}
use Rattle.state.proofs.well.short_inputs.Goals as goal

pub returns-then-image-ne0 : goal.returns-then-image-ne0
returns-then-image-ne0 c =
    let m = c.args.image.octets.now in
    sym (λ i. ne_eqb (get_or m 48 0) 0 c.if-image-ne0.true i && all (short_input_tests m))

pub returns : goal.returns
unfolding octets lows
returns c =
    let m = c.args.image.octets.now in
    c.word_between.ensures ∙ short_input_word m (omega arith)
    ∙ sym (λ i. eq-eqb (get_or m 48 0) 0 c.if-image-ne0.false i && all (short_input_tests m))
