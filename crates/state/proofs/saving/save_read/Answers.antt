-- `state::saving::save_read` meets its contract.
use Rattle.state.proofs.Written.{read_saved}
use Rattle.state.proofs.saving.save_read.Goals as goal

pub returns : goal.returns
returns c = λ s e. read_saved c.args.mem.now s e _ _
