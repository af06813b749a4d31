-- `state::saving::save_ticks` meets its contract.
use mathlib.Core.Path.{◌∙◌}
use Rattle.state.proofs.Written.{wrote, four, ticks_saved}
use Rattle.state.proofs.saving.save_ticks.Goals as goal

pub returns : goal.returns
returns c =
    let m = c.args.mem.now in
    λ s e. (λ j. wrote m 44 (four (c.double_octets-octets.ensures j))) ∙ ticks_saved m s e c.args.ticks
