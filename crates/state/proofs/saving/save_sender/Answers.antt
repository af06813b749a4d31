-- `state::saving::save_sender` meets its contract.
use mathlib.Core.Path.{◌∙◌}
use mathlib.Core.List.{[], ◌∷◌}
use Rattle.state.proofs.Written.{wrote, sender_saved}
use Rattle.state.proofs.saving.save_sender.Goals as goal

pub returns : goal.returns
returns c =
    let m = c.args.mem.now in let i = c.args.sender in λ s e. (λ j. wrote (wrote m 16 (c.number.ensures j ∷ c.number-2.ensures j ∷ [])) 10 (i.da ∷ i.sa ∷ i.fc ∷ i.sum ∷ i.count ∷ i.at ∷ [])) ∙ sender_saved m s e _
