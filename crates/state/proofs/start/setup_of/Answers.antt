-- `state::start::setup_of` meets its contract.
use mathlib.Core.Path.{sym, ◌∙◌}
use borrow.Author.Tests.{lt-ltb, le-ltb}
use Rattle.state.specs.Start.{asked}
use Rattle.state.proofs.Asking.{lengths_ranged}
use Rattle.state.proofs.start.setup_of.Goals as goal

pub returns-then-given-gt126 : goal.returns-then-given-gt126
unfolding asked
returns-then-given-gt126 c = simp (lt-ltb _ _ c.if-given-gt126.true)

pub returns-then-not-lengths_ok : goal.returns-then-not-lengths_ok
unfolding asked
returns-then-not-lengths_ok c =
    let bad = sym c.lengths_ok.ensures ∙ c.if-not-lengths_ok.true in
    simp (le-ltb _ _ c.if-given-gt126.false, bad)

pub returns-then-not-lengths_ok-2 : goal.returns-then-not-lengths_ok-2
unfolding asked
returns-then-not-lengths_ok-2 c =
    let good = sym c.lengths_ok.ensures ∙ c.if-not-lengths_ok.false in
    let bad = sym c.lengths_ok-2.ensures ∙ c.if-not-lengths_ok-2.true in
    simp (le-ltb _ _ c.if-given-gt126.false, good, bad)

pub narrowed-requires : goal.narrowed-requires
narrowed-requires c = lengths_ranged _ c.if-given-gt126.false (sym c.lengths_ok.ensures ∙ c.if-not-lengths_ok.false)

pub returns : goal.returns
unfolding asked
returns c =
    let good = sym c.lengths_ok.ensures ∙ c.if-not-lengths_ok.false in
    let also = sym c.lengths_ok-2.ensures ∙ c.if-not-lengths_ok-2.false in
    simp (c.narrowed.ensures, le-ltb _ _ c.if-given-gt126.false, good, also)
