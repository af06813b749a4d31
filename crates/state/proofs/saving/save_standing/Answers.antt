-- `state::saving::save_standing` meets its contract.
use mathlib.Core.Path.{◌∙◌}
use mathlib.Core.List.{[], ◌∷◌}
use Rattle.state.proofs.Written.{wrote, four, standing_saved}
use Rattle.state.proofs.saving.save_standing.Goals as goal

pub returns : goal.returns
returns c =
    let m = c.args.mem.now in
    let x = c.args.control in
    λ s e.
    (λ j.
    wrote
    (wrote
    (wrote
    (wrote (wrote m 21 (c.number.ensures j ∷ [])) 64 (four (c.double_octets-reload.ensures j)))
    0 (x.owner ∷ x.group ∷ x.stored ∷ c.flags-packed.ensures j ∷ []))
    26 (x.diagnosis.delayed_flags ∷ c.modes-packed_modes.ensures j ∷ []))
    56 (x.diagnosis.count ∷ x.diagnosis.delayed_count ∷ []))
    ∙ standing_saved m s e x
