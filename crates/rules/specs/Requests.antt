-- Which telegrams act, and what each asks of the station, by its header alone (document 01, Services, first paragraph).
use Rattle.std.specs.Prelude.{ℕ, ◌%◌, Bool, cond, not, ◌&&◌, ◌||◌, eqb, leb}
use Rattle.telegram.specs.declared.Kind.{Kind}
use Rattle.telegram.specs.declared.Kind.TheVariants.{Sd1, Sd2, Sd3, Sd4}
use Rattle.state.specs.declared.setup.Setup.{Setup}
use Rattle.state.specs.declared.control.Control.{Control}
use Rattle.rules.specs.declared.request.Request.{Request}
use Rattle.rules.specs.declared.request.Service.{Service}
use Rattle.rules.specs.declared.request.Service.TheVariants.{Nothing, Status, Reject, GlobalControl, DataExchange, SetPrm, ChkCfg, SlaveDiag, GetCfg, ReadInputs, ReadOutputs}
use Rattle.rules.specs.Control.{bit, owns, with_watchdog}

-- an address without its mark of an extension
abbrev pub address : ℕ → ℕ
address x = x % 128

-- the master that sent it
abbrev pub master_of : Request → ℕ
master_of r = address r.sa

-- DSAP and SSAP are there
abbrev pub extended : Request → Bool
extended r = leb 128 r.da

-- FC's low 4 bits
abbrev pub function_of : Request → ℕ
function_of r = r.fc % 16

-- 12 and 13: send and request
abbrev pub sends_and_requests : Request → Bool
sends_and_requests r = eqb (function_of r) 12 || eqb (function_of r) 13

-- 3 and 5: send with acknowledgement
abbrev pub wants_acknowledgement : Request → Bool
wants_acknowledgement r = eqb (function_of r) 3 || eqb (function_of r) 5

-- 4 and 6: send without
abbrev pub wants_none : Request → Bool
wants_none r = eqb (function_of r) 4 || eqb (function_of r) 6

-- the form of Global_Control: its function and its service points
abbrev pub global_form : Request → Bool
global_form r = wants_none r && extended r && eqb r.dsap 58 && eqb r.ssap 62

-- to this station alone
abbrev pub to_station : Setup → Request → Bool
to_station s r = eqb (address r.da) s.address

-- to all, for Global_Control alone
abbrev pub to_all : Request → Bool
to_all r = eqb (address r.da) 127 && global_form r

-- it acts: to the station or to all, from a master's address, FC with bit 7 clear and bit 6 set. SD4 has no FC, so it never acts.
abbrev pub acts : Setup → Request → Bool
acts s r = (to_station s r || to_all r) && leb (master_of r) 126 && not (bit r.fc 7) && bit r.fc 6

-- the watchdog is refilled by each acting telegram of the owner to this address
unfoldable pub refilled : Setup → Control → Request → Control
refilled s c r =
    cond (acts s r && to_station s r && owns c (master_of r))
    (with_watchdog c (record { reload = c.watchdog.reload; remaining = c.watchdog.reload }))
    c

-- the status request is an SD1, which has no extension
abbrev pub status_by : Kind → Service
status_by Sd1 = Status
status_by Sd2 = Nothing
status_by Sd3 = Nothing
status_by Sd4 = Nothing

-- by the service point of destination; any data is wrong where none is expected
abbrev pub point_of : Request → Service
point_of r =
    cond (eqb r.dsap 61) SetPrm
    (cond (eqb r.dsap 62) ChkCfg
    (cond (not (eqb r.count 0)) Reject
    (cond (eqb r.dsap 60) SlaveDiag
    (cond (eqb r.dsap 59) GetCfg
    (cond (eqb r.dsap 56) ReadInputs
    (cond (eqb r.dsap 57) ReadOutputs Reject))))))

-- functions 12 and 13: Data_Exchange without extension, else SSAP is 62 and the point decides
abbrev pub request_of : Request → Service
request_of r = cond (not (extended r)) DataExchange (cond (not (eqb r.ssap 62)) Reject (point_of r))

-- by the function of a telegram that acts; nothing else is answered
abbrev pub function_service : Request → Service
function_service r =
    cond (eqb (function_of r) 9) (status_by r.kind)
    (cond (wants_acknowledgement r) Reject
    (cond (wants_none r) (cond (global_form r) GlobalControl Nothing)
    (cond (sends_and_requests r) (request_of r) Nothing)))

-- what a telegram asks of the station; one that does not act asks nothing
unfoldable pub service_of : Setup → Request → Service
service_of s r = cond (acts s r) (function_service r) Nothing
