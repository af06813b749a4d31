-- `state::saving::save_swapped` meets its contract.
use mathlib.Core.Path.{◌∙◌}
use mathlib.Core.List.{[], ◌∷◌}
use Rattle.state.proofs.Written.{wrote, swapped_saved}
use Rattle.state.proofs.saving.save_swapped.Goals as goal

pub returns : goal.returns
returns c =
    let m = c.args.mem.now in λ s e. (λ j. wrote m 28 (c.from.ensures j ∷ [])) ∙ swapped_saved m s e _
