-- `state::saving::save_incoming` meets its contract.
use mathlib.Core.Path.{◌∙◌}
use mathlib.Core.List.{[], ◌∷◌}
use Rattle.state.proofs.Written.{wrote, incoming_saved}
use Rattle.state.proofs.saving.save_incoming.Goals as goal

pub returns : goal.returns
returns c =
    let m = c.args.mem.now in let i = c.args.i in λ s e. (λ j. wrote m 30 (c.number.ensures j ∷ c.number-2.ensures j ∷ i.reader.count ∷ i.reader.at ∷ i.reader.da ∷ i.reader.sa ∷ i.reader.fc ∷ i.reader.dsap ∷ i.reader.ssap ∷ i.reader.sum ∷ i.first ∷ i.second ∷ [])) ∙ incoming_saved m s e _
