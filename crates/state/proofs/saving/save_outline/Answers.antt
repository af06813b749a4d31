-- `state::saving::save_outline` meets its contract.
use mathlib.Core.Path.{◌∙◌}
use mathlib.Core.List.{[], ◌∷◌}
use Rattle.state.proofs.Written.{wrote, outline_saved}
use Rattle.state.proofs.saving.save_outline.Goals as goal

pub returns : goal.returns
returns c =
    let m = c.args.mem.now in let i = c.args.reply in λ s e. (λ j. wrote (wrote m 18 (c.number.ensures j ∷ i.place ∷ [])) 6 (i.header.status1 ∷ i.header.status2 ∷ i.header.status3 ∷ i.header.master ∷ [])) ∙ outline_saved m s e i
