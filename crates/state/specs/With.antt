-- The state with a part of it changed.
use Rattle.std.specs.Prelude.{ℕ, Bool, cond, eqb}
use Rattle.buffers.specs.declared.events.Events.{Events}
use Rattle.buffers.specs.declared.triple.Triple.{Triple}
use Rattle.telegram.specs.declared.sender.Sender.{Sender}
use Rattle.telegram.specs.Reading.{read_to}
use Rattle.state.specs.declared.setup.Setup.{Setup}
use Rattle.state.specs.declared.control.Phase.{Phase}
use Rattle.state.specs.declared.control.Watchdog.{Watchdog}
use Rattle.state.specs.declared.control.Flags.{Flags}
use Rattle.state.specs.declared.control.Diagnosis.{Diagnosis}
use Rattle.state.specs.declared.control.Modes.{Modes}
use Rattle.state.specs.declared.chain.Chain.{Chain}
use Rattle.state.specs.declared.control.Control.{Control}
use Rattle.state.specs.declared.state.Outputs.{Outputs}
use Rattle.state.specs.declared.state.Sets.{Sets}
use Rattle.state.specs.declared.state.Incoming.{Incoming}
use Rattle.state.specs.declared.state.Reply.{Reply}
use Rattle.state.specs.declared.state.State.{State}

-- a state of its parts
abbrev state_of : Setup → Control → Outputs → Triple → Sets → Sets → Bool → Incoming → Reply → State
state_of setup control outputs inputs parameters configuration swapped incoming reply =
    record {
      setup = setup;
      control = control;
      outputs = outputs;
      inputs = inputs;
      parameters = parameters;
      configuration = configuration;
      swapped = swapped;
      incoming = incoming;
      reply = reply;
    }

-- with one part changed
abbrev pub with_control : State → Control → State
with_control s x = state_of s.setup x s.outputs s.inputs s.parameters s.configuration s.swapped s.incoming s.reply

abbrev pub with_outputs : State → Outputs → State
with_outputs s x = state_of s.setup s.control x s.inputs s.parameters s.configuration s.swapped s.incoming s.reply

abbrev pub with_inputs : State → Triple → State
with_inputs s x = state_of s.setup s.control s.outputs x s.parameters s.configuration s.swapped s.incoming s.reply

abbrev pub with_parameters : State → Sets → State
with_parameters s x = state_of s.setup s.control s.outputs s.inputs x s.configuration s.swapped s.incoming s.reply

abbrev pub with_configuration : State → Sets → State
with_configuration s x = state_of s.setup s.control s.outputs s.inputs s.parameters x s.swapped s.incoming s.reply

abbrev pub with_swapped : State → Bool → State
with_swapped s x = state_of s.setup s.control s.outputs s.inputs s.parameters s.configuration x s.incoming s.reply

abbrev pub with_incoming : State → Incoming → State
with_incoming s x = state_of s.setup s.control s.outputs s.inputs s.parameters s.configuration s.swapped x s.reply

abbrev pub with_reply : State → Reply → State
with_reply s x = state_of s.setup s.control s.outputs s.inputs s.parameters s.configuration s.swapped s.incoming x

-- with another count of data octets read of the telegram that is coming, and another checksum
abbrev pub with_read : State → ℕ → ℕ → State
with_read s at sum =
    with_incoming s (record { reader = read_to s.incoming.reader at sum; first = s.incoming.first; second = s.incoming.second })

-- with data octet k kept if it is one of the first two
abbrev pub with_kept : State → ℕ → ℕ → State
with_kept s k b =
    with_incoming s
    (record { reader = s.incoming.reader; first = cond (eqb k 0) b s.incoming.first; second = cond (eqb k 1) b s.incoming.second })

-- with the sender of the reply
abbrev pub with_sender : State → Sender → State
with_sender s x =
    with_reply s (record { drawn = s.reply.drawn; sender = x; place = s.reply.place; header = s.reply.header })

-- with what a reply is but for its sender
abbrev pub with_outline : State → Reply → State
with_outline s r =
    with_reply s (record { drawn = r.drawn; sender = s.reply.sender; place = r.place; header = r.header })

-- a control part of its parts
abbrev pub control_of : Phase → ℕ → ℕ → ℕ → Watchdog → Flags → Events → Bool → Diagnosis → Modes → Chain → Control
control_of phase owner group stored watchdog flags events noted diagnosis modes chain =
    record {
      phase = phase;
      owner = owner;
      group = group;
      stored = stored;
      watchdog = watchdog;
      flags = flags;
      events = events;
      noted = noted;
      diagnosis = diagnosis;
      modes = modes;
      chain = chain;
    }

-- with the control part but for the events, the ticks that remain and the chain
abbrev pub with_standing : State → Control → State
with_standing s c =
    with_control s
    (control_of c.phase c.owner c.group c.stored
    (record { reload = c.watchdog.reload; remaining = s.control.watchdog.remaining }) c.flags s.control.events c.noted c.diagnosis
    c.modes s.control.chain)

-- with the control part but for the chain
abbrev pub with_control_but_chain : State → Control → State
with_control_but_chain s c =
    with_control s
    (control_of c.phase c.owner c.group c.stored c.watchdog c.flags c.events c.noted c.diagnosis c.modes s.control.chain)

-- with the events
abbrev pub with_event_word : State → Events → State
with_event_word s x =
    let c = s.control in
    with_control s (control_of c.phase c.owner c.group c.stored c.watchdog c.flags x c.noted c.diagnosis c.modes c.chain)

-- with the ticks that remain of the watchdog
abbrev pub with_ticks : State → ℕ → State
with_ticks s n =
    let c = s.control in
    with_control s
    (control_of c.phase c.owner c.group c.stored (record { reload = c.watchdog.reload; remaining = n }) c.flags c.events c.noted
    c.diagnosis c.modes c.chain)

-- with another chain
abbrev pub with_chain : State → Chain → State
with_chain s x =
    let c = s.control in
    with_control s
    (control_of c.phase c.owner c.group c.stored c.watchdog c.flags c.events c.noted c.diagnosis c.modes x)
