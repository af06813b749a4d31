-- `outcomes::settling::change_diagnosis` meets its contract.
use mathlib.Core.Bool.{not}
use mathlib.Core.Path.{◌∙◌}
use Rattle.state.specs.Memory.{kept}
use Rattle.state.specs.With.{with_control_but_chain, with_swapped}
use Rattle.state.proofs.Written.{then}
use Rattle.outcomes.proofs.settling.change_diagnosis.Goals as goal

pub returns : goal.returns
returns c =
    let m = c.args.mem.now in
    let control = c.args.control in
    λ s e front.
    then _ _ _ _ _ c.save_control.ensures c.save_swapped.ensures s front
    ∙ (λ i. kept (with_swapped (with_control_but_chain s control) (not ((c.swapped-swapped.ensures ∙ (λ j. (e j).swapped)) i))) m)
