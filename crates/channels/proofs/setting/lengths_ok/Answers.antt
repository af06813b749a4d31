-- `channels::setting::lengths_ok` meets its contract.
use native.Mathlib.Omega.{arith}
use mathlib.Core.Path.{◌≡◌, refl, sym, ap, ◌∙◌}
use mathlib.Core.Bool.{◌&&◌}
use lib.ListN.{length}
use borrow.Author.Tests.{eq-eqb, ne_eqb}
use Rattle.channels.specs.Image.{channels}
use Rattle.channels.specs.Rules.{each_from}
use Rattle.channels.specs.Setting.{length_octets, pair_test, lengths_ok}
use Rattle.channels.proofs.Found.{each_false, each_next}
use Rattle.channels.proofs.setting.lengths_ok.Goals as goal

pub returns-then-lengths-ne32 : goal.returns-then-lengths-ne32
unfolding lengths_ok
returns-then-lengths-ne32 c =
    let xs = c.args.lengths.now in
    sym (ap (λ t. t && each_from (pair_test xs) 0 channels) (ne_eqb (length xs) length_octets c.if-lengths-ne32.true))

pub loop-n-init : goal.loop-n-init
unfolding each_from
loop-n-init c = refl

pub returns-then-not-lengths_ok : goal.returns-then-not-lengths_ok
unfolding lengths_ok
returns-then-not-lengths_ok c =
    let xs = c.args.lengths.now in
    let n = c.loop-n.n in
    let e = c.if-lengths-ne32.false in
    sym (λ i. eq-eqb (length xs) length_octets e i && each_false (pair_test xs) n channels (omega arith) (sym c.lengths_ok.ensures ∙ c.if-not-lengths_ok.true) i)

pub loop-n-preserved : goal.loop-n-preserved
loop-n-preserved c =
    let xs = c.args.lengths.now in
    each_next (pair_test xs) c.loop-n.n c.loop-n.invariant (sym c.lengths_ok.ensures ∙ c.if-not-lengths_ok.false)

pub returns : goal.returns
unfolding lengths_ok
returns c =
    let xs = c.args.lengths.now in
    let n : c.loop-n.n ≡ channels = omega arith in
    sym (λ i. eq-eqb (length xs) length_octets c.if-lengths-ne32.false i && (ap (each_from (pair_test xs) 0) (sym n) ∙ c.loop-n.invariant) i)
