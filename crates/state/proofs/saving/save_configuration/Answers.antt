-- `state::saving::save_configuration` meets its contract.
use mathlib.Core.Path.{◌∙◌}
use mathlib.Core.List.{[], ◌∷◌}
use Rattle.state.proofs.Written.{wrote, configuration_saved}
use Rattle.state.proofs.saving.save_configuration.Goals as goal

pub returns : goal.returns
returns c =
    let m = c.args.mem.now in let i = c.args.configuration in λ s e. (λ j. wrote (wrote m 25 (c.number.ensures j ∷ [])) 60 (i.shown ∷ i.waiting ∷ [])) ∙ configuration_saved m s e _
