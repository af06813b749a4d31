-- Retries (document 02, Req 04 and 05): which telegrams are requests, which of them repeat the request before, and what a repeat does. The type
-- Request is any telegram's header; the word request in the comments here is the document's.
use Rattle.std.specs.Prelude.{Bool, cond, not, ◌&&◌, eqb}
use Rattle.state.specs.declared.setup.Setup.{Setup}
use Rattle.state.specs.declared.chain.Chain.{Chain}
use Rattle.state.specs.declared.control.Control.{Control}
use Rattle.state.specs.declared.state.Drawn.{Drawn}
use Rattle.state.specs.declared.state.Drawn.TheVariants.{Acknowledge}
use Rattle.state.specs.Chain.{chain_of, no_chain, fcb_in, drawn_in}
use Rattle.rules.specs.declared.request.Request.{Request}
use Rattle.rules.specs.declared.outcome.Outcome.{Outcome}
use Rattle.rules.specs.Control.{bit, with_chain}
use Rattle.rules.specs.Phases.{drawing}
use Rattle.rules.specs.Replies.{replies_e5, is_exchange}
use Rattle.rules.specs.Requests.{master_of, wants_none, acts, refilled}

-- it asks for something: functions 4 and 6 do not
abbrev pub asks : Request → Bool
asks r = not (wants_none r)

-- every telegram that acts, but "Telegrams with function 4 or 6, so every Global_Control, are no requests here"
abbrev pub is_request : Setup → Request → Bool
is_request s r = acts s r && asks r

-- "FC bit 4 says that bit 5 counts" (frame count bit valid)
abbrev pub fcv_of : Request → Bool
fcv_of r = bit r.fc 4

-- bit 5, the frame count bit
abbrev pub fcb_of : Request → Bool
fcb_of r = bit r.fc 5

-- both set, or neither
abbrev pub same : Bool → Bool → Bool
same a b = cond a b (not b)

-- a request "with bit 4 set, the same SA (low 7 bits) and the same bit 5" as the last one
abbrev pub repeats : Chain → Request → Bool
repeats h r = asks r && fcv_of r && eqb (master_of r) h.master && same (fcb_of r) (fcb_in h)

-- the telegram acts, and is one
abbrev pub is_repeat : Setup → Control → Request → Bool
is_repeat s c r = acts s r && repeats c.chain r

-- what a later request is compared with after one that is no repeat and drew d: itself, or nothing, since "An acting request with bit 4
-- clear ends the chain"
abbrev pub chain_by : Request → Drawn → Chain
chain_by r d = cond (fcv_of r) (chain_of (master_of r) (fcb_of r) d) no_chain

-- the same after any telegram that is no repeat: what is no request leaves the chain as it is
abbrev pub chain_after : Setup → Chain → Request → Drawn → Chain
chain_after s h r d = cond (is_request s r) (chain_by r d) h

-- an outcome with another chain
abbrev pub on_chain : Outcome → Chain → Outcome
on_chain o h =
    record {
      control = with_chain o.control h;
      outputs = o.outputs;
      inputs = o.inputs;
      parameters = o.parameters;
      configuration = o.configuration;
      drawn = o.drawn;
    }

-- what a request drew, as its repeat draws it again: "one that drew E5, RS or nothing draws that again", and a Data_Exchange may have drawn E5
-- (Req 05)
abbrev pub drew : Setup → Outcome → Drawn
drew s o = cond (is_exchange o.drawn && replies_e5 s o.control) Acknowledge o.drawn

-- with the chain after it
abbrev pub chained : Setup → Request → Outcome → Outcome
chained s r o = on_chain o (chain_after s o.control.chain r (drew s o))

-- "A repeat changes nothing, but the owner's refills the watchdog", and it draws what the earlier request drew: the reply of that service,
-- formed "from the buffers and state as they then stand, without RS for phase or owner", or E5, RS or nothing
abbrev pub repeated : Setup → Control → Request → Outcome
repeated s c r = drawing (refilled s c r) (drawn_in c.chain)
