-- `state::saving::save_events` meets its contract.
use mathlib.Core.Path.{◌∙◌}
use Rattle.state.proofs.Written.{wrote, two, events_saved}
use Rattle.state.proofs.saving.save_events.Goals as goal

pub returns : goal.returns
returns c =
    let m = c.args.mem.now in λ s e. (λ j. wrote m 4 (two (c.word_octets-octets.ensures j))) ∙ events_saved m s e _
