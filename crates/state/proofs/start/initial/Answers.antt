-- `state::start::initial` meets its contract.
use mathlib.Core.Bool.{false}
use Rattle.state.specs.Start.{initial_state}
use Rattle.state.proofs.start.initial.Goals as goal

pub returns : goal.returns
unfolding initial_state
returns c = λ i.
    record {
      setup = c.args.setup;
      control = c.first_control.ensures i;
      outputs = record { set = c.new.ensures i; zeros = false };
      inputs = c.new-2.ensures i;
      parameters = c.no_sets.ensures i;
      configuration = c.no_sets-2.ensures i;
      swapped = false;
      incoming = record { reader = c.off.ensures i; first = 0; second = 0 };
      reply = c.no_reply.ensures i;
    }
