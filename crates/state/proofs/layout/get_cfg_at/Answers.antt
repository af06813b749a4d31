-- `state::layout::get_cfg_at` meets its contract.
use Rattle.state.specs.Layout.{row_base, start_of}
use borrow.Author.Rules.{rules}
use Rattle.state.proofs.layout.get_cfg_at.Goals as goal

pub returns : goal.returns
unfolding row_base start_of
returns c = search rules
