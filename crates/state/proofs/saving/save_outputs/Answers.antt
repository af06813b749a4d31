-- `state::saving::save_outputs` meets its contract.
use mathlib.Core.Path.{◌∙◌}
use mathlib.Core.List.{[], ◌∷◌}
use Rattle.state.proofs.Written.{wrote, outputs_saved}
use Rattle.state.proofs.saving.save_outputs.Goals as goal

pub returns : goal.returns
returns c =
    let m = c.args.mem.now in
    λ s e. (λ j. wrote (wrote m 22 (c.number.ensures j ∷ [])) 29 (c.output_marks-marks.ensures j ∷ [])) ∙ outputs_saved m s e _
