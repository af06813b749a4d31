-- `state::saving::save_control` meets its contract.
use Rattle.state.specs.With.{with_standing, with_event_word, with_ticks}
use Rattle.state.proofs.Written.{then}
use Rattle.state.proofs.saving.save_control.Goals as goal

pub returns : goal.returns
returns c =
    let control = c.args.control in
    let m = c.args.mem.now in
    let n = c.save_standing.new.mem in
    let l = c.save_events.new.mem in
    then m l c.save_ticks.new.mem (λ s. with_event_word (with_standing s control) control.events)
    (λ s. with_ticks s control.watchdog.remaining)
    (then m n l (λ s. with_standing s control) (λ s. with_event_word s control.events)
    c.save_standing.ensures
    c.save_events.ensures)
    c.save_ticks.ensures
