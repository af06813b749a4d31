-- The replies, as the grammar's octets (document 01, Services; document 02, Req 05).
use Rattle.std.specs.Prelude.{ℕ, ◌+◌, ◌/◌, ◌%◌, cond, List, [], ◌∷◌, ◌++◌, take, drop}
use Rattle.telegram.specs.Telegram.{Telegram, sd1, sd2, octets_of}
use Rattle.state.specs.declared.setup.Setup.{Setup}
use Rattle.state.specs.declared.control.Control.{Control}
use Rattle.state.specs.declared.state.Header.{Header}
use Rattle.state.specs.declared.state.Drawn.{Drawn}
use Rattle.state.specs.declared.state.Drawn.TheVariants.{Nothing, Acknowledge, Status, Rejected, Exchange, Inputs, Outputs, Configuration, Diagnosis}
use Rattle.rules.specs.Diagnosis.{header_of}
use Rattle.rules.specs.Replies.{exchange_fc, without_inputs, replies_e5}
use Rattle.ledger.specs.Lists.{Buffers}

-- octets 0 to 3 as the station makes them, 4 and 5 the ident, high first
abbrev pub header_octets : Header → ℕ → List ℕ
header_octets h ident = h.status1 ∷ h.status2 ∷ h.status3 ∷ h.master ∷ ident / 256 ∷ ident % 256 ∷ []

-- the diagnosis: the rest from the controller's octets
abbrev pub diagnosis_octets : Setup → Control → List ℕ → List ℕ
diagnosis_octets s c own = header_octets (header_of c) s.ident ++ drop 6 (take c.diagnosis.count own)

-- what a telegram draws: no reply, the single octet E5, or a telegram
pub data WholeReply : Type 0 where
  silence : WholeReply
  acknowledgement : WholeReply
  answer : (t : Telegram) → WholeReply

-- 10 SA own FC FCS 16: to the master, from this station
abbrev pub short_telegram : Setup → ℕ → ℕ → Telegram
short_telegram s master fc = sd1 master s.address fc

-- SD2, FC 08, bit 7 in both addresses, data 3E, DSAP, then the data
abbrev pub service_telegram : Setup → ℕ → ℕ → List ℕ → Telegram
service_telegram s master point ds = sd2 (master + 128) (s.address + 128) 0x08 (0x3E ∷ point ∷ ds)

-- the data of the reply to Data_Exchange: the inputs, or "one octet 00" where there are none
abbrev pub exchange_octets : Setup → List ℕ → List ℕ
exchange_octets s inputs = cond (without_inputs s) (0 ∷ []) inputs

-- SD2 with them, FC 08 or 0A while Diag_Flag, or E5
abbrev pub exchange_reply : Setup → Control → List ℕ → ℕ → WholeReply
exchange_reply s c inputs master =
    cond (replies_e5 s c) acknowledgement (answer (sd2 master s.address (exchange_fc c) (exchange_octets s inputs)))

-- the reply to a master, by its fields DA, SA, FC and data
abbrev pub reply_by : Drawn → Setup → List ℕ → Control → Buffers → ℕ → WholeReply
reply_by Nothing s slice c b master = silence
reply_by Acknowledge s slice c b master = acknowledgement
reply_by Status s slice c b master = answer (short_telegram s master 0x00)
reply_by Rejected s slice c b master = answer (short_telegram s master 0x03)
reply_by Exchange s slice c b master = exchange_reply s c b.inputs.sending master
reply_by Inputs s slice c b master = answer (service_telegram s master 56 b.inputs.sending)
reply_by Outputs s slice c b master = answer (service_telegram s master 57 b.outputs.held)
reply_by Configuration s slice c b master = answer (service_telegram s master 59 slice)
reply_by Diagnosis s slice c b master = answer (service_telegram s master 60 (diagnosis_octets s c b.diagnosis.own))

-- its octets, whole
abbrev pub reply_octets : WholeReply → List ℕ
reply_octets silence = []
reply_octets acknowledgement = 0xE5 ∷ []
reply_octets (answer t) = octets_of t

-- the octets of the reply to a master
abbrev pub reply_of : Drawn → Setup → List ℕ → Control → Buffers → ℕ → List ℕ
reply_of d s slice c b master = reply_octets (reply_by d s slice c b master)
