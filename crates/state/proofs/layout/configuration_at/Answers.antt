-- `state::layout::configuration_at` meets its contract.
use native.Mathlib.Omega.{arith}
use Rattle.state.specs.Layout.{configuration_row, row_base, start_of}
use Rattle.state.proofs.Places.{base_small}
use borrow.Author.Rules.{rules}
use Rattle.state.proofs.layout.configuration_at.Goals as goal

pub place_at-requires : goal.place_at-requires
unfolding row_base start_of
place_at-requires c =
    let u = base_small c.args.s configuration_row (search rules) (omega arith) in
    omega arith

pub returns : goal.returns
unfolding row_base start_of
returns c = search rules
