-- The last octet of a telegram over the memory, and what its short ways look at.
use Rattle.std.specs.Prelude.{ℕ, Bool, true, false, ◌&&◌, List, ◌==◌}
use Rattle.telegram.specs.declared.sender.Sender.{Sender}
use Rattle.state.specs.declared.setup.Setup.{Setup}
use Rattle.state.specs.declared.control.Control.{Control}
use Rattle.state.specs.declared.state.Drawn.{Drawn}
use Rattle.state.specs.declared.state.Drawn.TheVariants as drawn
use Rattle.state.specs.declared.state.Header.{Header}
use Rattle.state.specs.declared.state.Incoming.{Incoming}
use Rattle.state.specs.declared.state.Reply.{Reply}
use Rattle.state.specs.declared.state.State.{State}
use Rattle.state.specs.Unpack.{unpacked}
use Rattle.state.specs.With.{with_incoming}
use Rattle.rules.specs.declared.request.Request.{Request}
use Rattle.rules.specs.declared.request.Service.{Service}
use Rattle.rules.specs.declared.request.Service.TheVariants.{Nothing, Status, Reject, GlobalControl, DataExchange, SetPrm, ChkCfg, SlaveDiag, GetCfg, ReadInputs, ReadOutputs}
use Rattle.rules.specs.declared.outcome.Outcome.{Outcome}
use Rattle.rules.specs.Requests.{service_of}
use Rattle.rules.specs.Retries.{is_repeat, on_chain, chain_after, drew}
use Rattle.rules.specs.Services.{exchanges, good_exchange, served_by}
use Rattle.steps.specs.Stepped.{packed_after}
use Rattle.steps.specs.Outcome.{occupied}
use Rattle.steps.specs.Reading.{data_in, outcome_of, answered}

-- the memory after the last octet of a telegram; i: the telegram, read to its end, r: what it asks
abbrev pub completed_by : List ℕ → Incoming → Request → List ℕ
completed_by m i r = packed_after (answered (with_incoming (unpacked m) i) m (outcome_of (unpacked m) m r) r)

-- what comes of the service that a telegram asks for, whatever was asked before
abbrev pub served : State → List ℕ → Request → Outcome
served s m r = served_by s.setup s.control (occupied s) r (data_in s m)

-- the memory after an outcome was carried out and its reply drawn, where the telegram acts, is no repeat and no good Data_Exchange, so that
-- what was drawn goes into the chain as it is: with the chain after it
abbrev pub answered_by : List ℕ → Incoming → Request → Outcome → List ℕ
answered_by m i r o =
    let s = unpacked m in
    packed_after (answered (with_incoming s i) m (on_chain o (chain_after s.setup s.control.chain r o.drawn)) r)

-- it is a repeat
abbrev pub is_repeat_in : State → Request → Bool
is_repeat_in s r = is_repeat s.setup s.control r

-- the service is Data_Exchange
abbrev pub is_data_exchange : Service → Bool
is_data_exchange Nothing = false
is_data_exchange Status = false
is_data_exchange Reject = false
is_data_exchange GlobalControl = false
is_data_exchange DataExchange = true
is_data_exchange SetPrm = false
is_data_exchange ChkCfg = false
is_data_exchange SlaveDiag = false
is_data_exchange GetCfg = false
is_data_exchange ReadInputs = false
is_data_exchange ReadOutputs = false

-- a telegram is a good Data_Exchange: from the owner in DATA_EXCH, with as many octets as there are outputs
abbrev pub is_good_exchange : State → Request → Bool
is_good_exchange s r = is_data_exchange (service_of s.setup r) && exchanges s.control r && r.count == s.setup.output_len

-- what such a telegram drew, for the chain
abbrev pub exchange_drew : Setup → Control → Drawn
exchange_drew g c = drew g (good_exchange c)

-- and the reply to it with this sender, by the place of the held outputs and the diagnosis header
abbrev pub replied_with : Sender → ℕ → Header → Reply
replied_with x held header = record { drawn = drawn.Exchange; sender = x; place = held; header = header }
