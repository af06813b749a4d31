-- `channels::survey::first_four` meets its contract.
use mathlib.Core.Path.{sym, ◌∙◌}
use borrow.Author.Tests.{eq-eqb, ne_eqb}
use Rattle.channels.specs.Places.{surveyed}
use Rattle.channels.proofs.Found.{says_none, found_says}
use Rattle.channels.proofs.survey.first_four.Goals as goal

pub returns-then-broken_at-ne0 : goal.returns-then-broken_at-ne0
unfolding surveyed
returns-then-broken_at-ne0 c = says_none _ _ (sym c.broken_at.ensures ∙ ne_eqb _ 0 c.if-broken_at-ne0.true)

pub returns : goal.returns
returns c = found_says c.args.rows.octets.now 0 4 _ (sym c.broken_at.ensures ∙ eq-eqb _ 0 c.if-broken_at-ne0.false, c.eighths_at.ensures.0)
