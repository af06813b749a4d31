-- `state::saving::save_reply` meets its contract.
use Rattle.state.specs.With.{with_sender, with_outline}
use Rattle.state.proofs.Written.{then}
use Rattle.state.proofs.saving.save_reply.Goals as goal

pub returns : goal.returns
returns c =
    let reply = c.args.reply in
    then c.args.mem.now c.save_outline.new.mem c.save_sender.new.mem (λ s. with_outline s reply)
    (λ s. with_sender s reply.sender)
    c.save_outline.ensures
    c.save_sender.ensures
