-- `channels::survey::all` meets its contract.
use mathlib.Core.Path.{sym, ◌∙◌}
use borrow.Author.Tests.{eq-eqb, ne_eqb}
use Rattle.channels.specs.Image.{channels}
use Rattle.channels.specs.Places.{surveyed}
use Rattle.channels.proofs.Found.{says_none, found_says}
use Rattle.channels.proofs.survey.all.Goals as goal

pub returns-then-all_broken-ne0 : goal.returns-then-all_broken-ne0
unfolding surveyed
returns-then-all_broken-ne0 c = says_none _ _ (sym c.all_broken.ensures ∙ ne_eqb _ 0 c.if-all_broken-ne0.true)

pub returns : goal.returns
returns c = found_says c.args.rows.octets.now 0 channels _ (sym c.all_broken.ensures ∙ eq-eqb _ 0 c.if-all_broken-ne0.false, c.all_eighths.ensures.0)
