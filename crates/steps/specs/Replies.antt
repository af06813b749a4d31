-- The reply in progress: how it is drawn, and where its data octets are read.
use Rattle.std.specs.Prelude.{ℕ, ◌+◌, ◌-◌, ◌/◌, ◌%◌, Bool, true, false, cond, List, eqb, ltb, get_or, Option, Some, None}
use Rattle.buffers.specs.Roles.{fill_of, held_of}
use Rattle.octets.specs.Part.{part}
use Rattle.telegram.specs.declared.Kind.TheVariants.{Sd1, Sd2}
use Rattle.telegram.specs.declared.sender.Sender.{Sender}
use Rattle.telegram.specs.Sending.{empty, single, sending, asks}
use Rattle.state.specs.declared.setup.Setup.{Setup}
use Rattle.state.specs.declared.control.Control.{Control}
use Rattle.state.specs.declared.state.Drawn.{Drawn}
use Rattle.state.specs.declared.state.Drawn.TheVariants.{Nothing, Acknowledge, Status, Rejected, Exchange, Inputs, Outputs, Configuration, Diagnosis}
use Rattle.state.specs.declared.state.Header.{Header}
use Rattle.state.specs.declared.state.Reply.{Reply}
use Rattle.state.specs.declared.state.State.{State}
use Rattle.state.specs.Layout.{outputs_at, inputs_at, diagnosis_at, get_cfg_at}
use Rattle.rules.specs.Diagnosis.{header_of}
use Rattle.rules.specs.Replies.{exchange_fc, without_inputs, replies_e5, is_exchange}

-- SD2 with bit 7 in both addresses: DSAP and SSAP stand before n data octets
abbrev pub servicing : Setup → ℕ → ℕ → Sender
servicing s master n = sending Sd2 ((master + 128) % 256) ((s.address + 128) % 256) 0x08 ((n + 2) % 256)

-- how many data octets the reply to Data_Exchange has: the inputs, or one where there are none
abbrev pub exchange_count : Setup → ℕ
exchange_count s = cond (without_inputs s) 1 s.input_len

-- SD2 with them, or E5
abbrev pub exchange_sender : Setup → Control → ℕ → Sender
exchange_sender s c master = cond (replies_e5 s c) single (sending Sd2 master s.address (exchange_fc c) (exchange_count s))

-- the sender of each reply to a master
abbrev pub sender_for : Drawn → State → ℕ → Sender
sender_for Nothing s master = empty
sender_for Acknowledge s master = single
sender_for Status s master = sending Sd1 master s.setup.address 0x00 0
sender_for Rejected s master = sending Sd1 master s.setup.address 0x03 0
sender_for Exchange s master = exchange_sender s.setup s.control master
sender_for Inputs s master = servicing s.setup master s.setup.input_len
sender_for Outputs s master = servicing s.setup master s.setup.output_len
sender_for Configuration s master = servicing s.setup master s.setup.get_cfg_len
sender_for Diagnosis s master = servicing s.setup master s.control.diagnosis.count

-- the place of the held outputs and the diagnosis header are fixed when a reply is drawn
unfoldable pub reply_for : Drawn → State → ℕ → Reply
reply_for d s master =
    record { drawn = d; sender = sender_for d s master; place = held_of s.outputs.set.place; header = header_of s.control }

-- which of the two diagnosis buffers is the controller's
abbrev pub own_place : Bool → ℕ
own_place true = 1
own_place false = 0

-- and which is the user's
abbrev pub user_place : Bool → ℕ
user_place true = 0
user_place false = 1

-- the station's own diagnosis octets 0 to 5
abbrev pub header_at : Header → ℕ → ℕ → ℕ
header_at h ident i =
    cond (eqb i 0) h.status1
    (cond (eqb i 1) h.status2
    (cond (eqb i 2) h.status3
    (cond (eqb i 3) h.master
    (cond (eqb i 4) (ident / 256) (ident % 256)))))

-- data octet i of the reply behind DSAP and SSAP; where there are no inputs that of Data_Exchange is 0
abbrev pub content_at : Drawn → State → List ℕ → ℕ → ℕ
content_at Nothing s m i = 0
content_at Acknowledge s m i = 0
content_at Status s m i = 0
content_at Rejected s m i = 0
content_at Exchange s m i = get_or (part m (inputs_at s.setup (fill_of s.inputs.place)) s.setup.input_len) i 0
content_at Inputs s m i = get_or (part m (inputs_at s.setup (fill_of s.inputs.place)) s.setup.input_len) i 0
content_at Outputs s m i = get_or (part m (outputs_at s.setup s.reply.place) s.setup.output_len) i 0
content_at Configuration s m i = get_or (part m (get_cfg_at s.setup) s.setup.get_cfg_len) i 0
content_at Diagnosis s m i =
    cond (ltb i 6) (header_at s.reply.header s.setup.ident i)
    (get_or (part m (diagnosis_at s.setup (own_place s.swapped)) s.setup.diagnosis_len) i 0)

-- the service point that a reply comes from
abbrev pub reply_point : Drawn → ℕ
reply_point Nothing = 0
reply_point Acknowledge = 0
reply_point Status = 0
reply_point Rejected = 0
reply_point Exchange = 0
reply_point Inputs = 56
reply_point Outputs = 57
reply_point Configuration = 59
reply_point Diagnosis = 60

-- data octet k of the reply: 3E and the service point first, but in the reply to Data_Exchange
unfoldable pub datum_at : State → List ℕ → ℕ → ℕ
datum_at s m k =
    cond (is_exchange s.reply.drawn) (content_at Exchange s m k)
    (cond (eqb k 0) 0x3E
    (cond (eqb k 1) (reply_point s.reply.drawn) (content_at s.reply.drawn s m (k - 2))))

-- the data octet asked for, 0 where none is
abbrev pub asked_as : Option ℕ → State → List ℕ → ℕ
asked_as (Some k) s m = datum_at s m k
asked_as None s m = 0

-- what the sender of the reply asks for
abbrev pub asked_for : State → List ℕ → ℕ
asked_for s m = asked_as (asks s.reply.sender) s m
