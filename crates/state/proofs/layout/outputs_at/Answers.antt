-- `state::layout::outputs_at` meets its contract.
use Rattle.state.specs.Layout.{row_base, start_of}
use borrow.Author.Rules.{rules}
use Rattle.state.proofs.layout.outputs_at.Goals as goal

pub returns : goal.returns
unfolding row_base start_of
returns c = search rules
