-- `state::start::wipe` meets its contract.
use native.Mathlib.Omega.{arith}
use mathlib.Core.Path.{◌∙◌}
use Rattle.state.specs.Start.{wiped}
use Rattle.state.proofs.Places.{get_cfg_inside, end_behind}
use Rattle.state.proofs.start.wipe.Goals as goal

pub overflow_sub-end : goal.overflow_sub-end
overflow_sub-end c =
    let h = end_behind c.args.setup in
    omega arith

pub clear_at-requires : goal.clear_at-requires
clear_at-requires c =
    let h = end_behind c.args.setup in
    omega arith

pub copy_at-requires : goal.copy_at-requires
copy_at-requires c =
    let s = c.args.setup in
    let h = get_cfg_inside s s.get_cfg_len (omega arith) in
    let k = c.clear_at.auto.mem in
    omega arith

pub returns : goal.returns
unfolding wiped
returns c = c.copy_at.ensures
    ∙ simp (c.get_cfg_at.ensures, c.clear_at.ensures)
