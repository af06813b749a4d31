-- `state::layout::end_of` meets its contract.
use Prim.Native.Nat.{ℕ}
use native.Mathlib.Omega.{arith}
use mathlib.Core.Path.{ap, ◌∙◌}
use lib.ListN.{length}
use Rattle.state.specs.Layout.{row_counts, get_cfg_row, place_at, row_base, start_of}
use Rattle.state.proofs.Places.{base_small}
use borrow.Author.Rules.{rules}
use Rattle.state.proofs.layout.end_of.Goals as goal

pub place_at-requires : goal.place_at-requires
unfolding row_base start_of
place_at-requires c =
    let u = base_small c.args.s get_cfg_row (search rules) (omega arith) in
    omega arith

pub returns : goal.returns
unfolding row_base start_of
returns c =
    let s = c.args.s in
    let e = c.place_at.ensures ∙ ap (λ (a : ℕ). place_at a s.get_cfg_len 1) c.get_cfg_at.ensures in
    let u = base_small s (length row_counts) (search rules) (omega arith) in
    (e, rw e u)
