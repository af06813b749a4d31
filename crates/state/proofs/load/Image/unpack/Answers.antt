-- `state::load::Image::unpack` meets its contract.
use Rattle.state.proofs.load.Image.unpack.Goals as goal

pub returns : goal.returns
returns c = λ i. record { setup = c.setup.ensures i; control = c.control.ensures i; outputs = c.outputs.ensures i; inputs = c.inputs.ensures i; parameters = c.parameters.ensures i; configuration = c.configuration.ensures i; swapped = c.swapped.ensures i; incoming = c.incoming.ensures i; reply = c.reply.ensures i }
