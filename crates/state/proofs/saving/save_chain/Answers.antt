-- `state::saving::save_chain` meets its contract.
use Rattle.state.proofs.Written.{chain_saved}
use Rattle.state.proofs.saving.save_chain.Goals as goal

pub returns : goal.returns
returns c = λ s e. chain_saved c.args.mem.now s e c.args.chain
