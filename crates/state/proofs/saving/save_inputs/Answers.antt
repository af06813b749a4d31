-- `state::saving::save_inputs` meets its contract.
use mathlib.Core.Path.{◌∙◌}
use mathlib.Core.List.{[], ◌∷◌}
use Rattle.state.proofs.Written.{wrote, inputs_saved}
use Rattle.state.proofs.saving.save_inputs.Goals as goal

pub returns : goal.returns
returns c =
    let m = c.args.mem.now in λ s e. (λ j. wrote m 23 (c.inputs_code.ensures j ∷ [])) ∙ inputs_saved m s e _
