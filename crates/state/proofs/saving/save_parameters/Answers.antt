-- `state::saving::save_parameters` meets its contract.
use mathlib.Core.Path.{◌∙◌}
use mathlib.Core.List.{[], ◌∷◌}
use Rattle.state.proofs.Written.{wrote, parameters_saved}
use Rattle.state.proofs.saving.save_parameters.Goals as goal

pub returns : goal.returns
returns c =
    let m = c.args.mem.now in let i = c.args.parameters in λ s e. (λ j. wrote (wrote m 24 (c.number.ensures j ∷ [])) 58 (i.shown ∷ i.waiting ∷ [])) ∙ parameters_saved m s e _
