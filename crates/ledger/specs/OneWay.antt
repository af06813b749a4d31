-- Stations without inputs or without outputs (document 02, Req 05): what comes of a Data_Exchange, for every ledger and telegram, and what the
-- other calls and services make of lists without an octet. What is said of `completed` is so before a clear that was noted is carried out
-- (Bus.antt: heard_as), which a reply puts off and a Global_Control does not.
use Rattle.std.specs.Prelude.{ℕ, ◌+◌, ◌%◌, ◌≡◌, true, false, List, [], ◌∷◌, ◌⊎◌, length}
use Rattle.buffers.specs.Events.{outputs_event}
use Rattle.telegram.specs.declared.Kind.TheVariants.{Sd1}
use Rattle.telegram.specs.Telegram.{Telegram, kind_of, sd1, sd2, octets_of, payload_of, Valid}
use Rattle.state.specs.declared.setup.Setup.{Setup}
use Rattle.state.specs.declared.control.Control.{Control}
use Rattle.state.specs.declared.control.Phase.TheVariants.{WaitPrm}
use Rattle.state.specs.declared.answer.Refusal.TheVariants.{Range}
use Rattle.state.specs.declared.state.Drawn.TheVariants as drawn
use Rattle.state.specs.Layout.{state_length, input_row, parameter_row, row_base}
use Rattle.rules.specs.declared.request.Service.TheVariants.{GlobalControl, DataExchange}
use Rattle.rules.specs.Call.{Call, read, write}
use Rattle.rules.specs.Control.{bit}
use Rattle.rules.specs.Modes.{commands_sync}
use Rattle.rules.specs.Replies.{exchange_fc}
use Rattle.rules.specs.Requests.{master_of, acts, refilled, service_of}
use Rattle.rules.specs.Retries.{asks, is_repeat, chained}
use Rattle.rules.specs.Services.{exchanges, controls, good_exchange}
use Rattle.ledger.specs.Ledger.{Ledger}
use Rattle.ledger.specs.Replies.{answer, reply_by}
use Rattle.ledger.specs.Bus.{request_by, data_by, outcome_of, answered, completed}
use Rattle.ledger.specs.User.{refusing}
use Rattle.ledger.specs.Calls.{step}
use Rattle.ledger.specs.EventsFollow.{event_set}
use Rattle.ledger.specs.ReadBack.{Fit}
use Rattle.ledger.specs.Repeats.{drew_by, SentAgain, after_calls, after_gap, NoNewBetween, NothingNew}

-- Without outputs ---------------------------------------------------------------------------------

-- "No outputs: Data_Exchange comes as SD1": every SD1 that acts, with function 12 or 13, asks for it and has no data
abbrev pub AsksBySd1 : Type 0
AsksBySd1 =
    (s : Setup) (da sa fc : ℕ) → Valid (sd1 da sa fc) → acts s (request_by (sd1 da sa fc)) ≡ true → (fc % 16 ≡ 12) ⊎ (fc % 16 ≡ 13)
    → (service_of s (request_by (sd1 da sa fc)) ≡ DataExchange) × (payload_of (sd1 da sa fc) ≡ [])

-- and no other telegram does without data, since an SD2 has a data octet at least and an SD3 has eight
abbrev pub ComesAsSd1 : Type 0
ComesAsSd1 = (s : Setup) (t : Telegram) → Valid t → service_of s (request_by t) ≡ DataExchange → payload_of t ≡ [] → kind_of t ≡ Sd1

-- t asks for Data_Exchange, from the owner in DATA_EXCH, and repeats no request
pub record OwnersExchange (l : Ledger) (t : Telegram) : Type 0 where
  pub service : service_of l.setup (request_by t) ≡ DataExchange
  pub from_owner : exchanges l.control (request_by t) ≡ true
  pub new : is_repeat l.setup l.control (request_by t) ≡ false

-- of one without data
pub record Polled (l : Ledger) (t : Telegram) : Type 0 where
  -- it is a good one, with all that comes of one
  pub good : completed l t
      ≡ answered l (chained l.setup (request_by t) (good_exchange (refilled l.setup l.control (request_by t)))) (master_of (request_by t)) []
  -- it "publishes the empty list": next has no octet and is new, and no zeros by the station (a take then answers 1: History.antt,
  -- TakesTold), event 13
  pub publishes : l.control.modes.sync ≡ false → (completed l t).buffers.outputs.next ≡ []
  pub is_new : l.control.modes.sync ≡ false → ((completed l t).buffers.outputs.fresh ≡ true) × ((completed l t).buffers.outputs.zeros ≡ false)
  pub announces : l.control.modes.sync ≡ false → event_set (completed l t) outputs_event ≡ true
  -- "which sync holds back like any other": it is something held back, and what is next stays
  pub holds_back : l.control.modes.sync ≡ true → ((completed l t).buffers.outputs.back ≡ []) × ((completed l t).buffers.outputs.withheld ≡ true)
  pub next_stays : l.control.modes.sync ≡ true
      → ((completed l t).buffers.outputs.next ≡ l.buffers.outputs.next) × ((completed l t).buffers.outputs.fresh ≡ l.buffers.outputs.fresh)

-- any data is a wrong count: RS, Cfg_Fault, WAIT_PRM
pub record GivenData (l : Ledger) (t : Telegram) : Type 0 where
  pub rejects : (completed l t).line.reply ≡ octets_of (sd1 (master_of (request_by t)) l.setup.address 0x03)
  pub faults : (completed l t).control.flags.cfg_fault ≡ true
  pub leaves : (completed l t).control.phase ≡ WaitPrm

-- a Global_Control t that commands sync or unsync, and no clear, where something is held back
pub record CommandsRelease (l : Ledger) (t : Telegram) : Type 0 where
  -- function 4 or 6, as every Global_Control has
  pub function : asks (request_by t) ≡ false
  pub service : service_of l.setup (request_by t) ≡ GlobalControl
  pub obeyed : controls l.control (request_by t) (data_by (payload_of t)).second ≡ true
  pub commands : commands_sync l.control.modes (data_by (payload_of t)).first ≡ true
  pub no_clear : bit (data_by (payload_of t)).first 1 ≡ false
  pub held_back : l.buffers.outputs.withheld ≡ true

-- what is held back is published, be it without an octet, and nothing is held back any more
pub record Releases (l : Ledger) (t : Telegram) : Type 0 where
  pub publishes : (completed l t).buffers.outputs.next ≡ l.buffers.outputs.back
  pub is_new : ((completed l t).buffers.outputs.fresh ≡ true) × ((completed l t).buffers.outputs.zeros ≡ false)
  pub announces : event_set (completed l t) outputs_event ≡ true
  pub nothing_left : (completed l t).buffers.outputs.withheld ≡ false

-- Without inputs ----------------------------------------------------------------------------------

-- of the reply to a Data_Exchange with as many octets as there are outputs
pub record Replied (l : Ledger) (t : Telegram) : Type 0 where
  -- "No inputs: the reply is E5"
  pub e5 : l.setup.input_len ≡ 0 → l.control.flags.diag_flag ≡ false → (completed l t).line.reply ≡ 0xE5 ∷ []
  -- "or while Diag_Flag an SD2 with FC 0A and one octet 00"
  pub flagged : l.setup.input_len ≡ 0 → l.control.flags.diag_flag ≡ true
      → (completed l t).line.reply ≡ octets_of (sd2 (master_of (request_by t)) l.setup.address 0x0A (0x00 ∷ []))
  -- with inputs as before
  pub inputs : (l.setup.input_len ≡ 0 → ⊥)
      → (completed l t).line.reply
      ≡ octets_of (sd2 (master_of (request_by t)) l.setup.address (exchange_fc l.control) (completed l t).buffers.inputs.sending)

-- what a telegram drew as its repeat would draw it, which is what a new request puts into the chain (Repeats.antt: ChainGoesOn): E5 exactly
-- where its reply is E5, and else what the rules drew
pub record Remembers (l : Ledger) (t : Telegram) : Type 0 where
  pub e5 : (completed l t).line.reply ≡ 0xE5 ∷ [] → drew_by l t ≡ drawn.Acknowledge
  pub other : ((completed l t).line.reply ≡ 0xE5 ∷ [] → ⊥) → drew_by l t ≡ (outcome_of l (request_by t) (payload_of t)).drawn

-- Of either ---------------------------------------------------------------------------------------

-- kinds 1 and 4 of length 0 are always 7
pub record KindsRefused (l : Ledger) (index : ℕ) : Type 0 where
  pub outputs : l.setup.output_len ≡ 0 → step l (read 1 index) ≡ refusing Range l
  pub inputs : l.setup.input_len ≡ 0 → step l (read 4 index) ≡ refusing Range l
  pub written : (x : ℕ) → l.setup.input_len ≡ 0 → step l (write 4 index x) ≡ refusing Range l

-- the replies of Read_Inputs and Read_Outputs of length 0, where they draw one (Services.antt), are SD2 with 3E and DSAP alone
pub record ReadsNothing (l : Ledger) (c : Control) (master : ℕ) : Type 0 where
  pub inputs : l.setup.input_len ≡ 0
      → reply_by drawn.Inputs l.setup l.slice c l.buffers master ≡ answer (sd2 (master + 128) (l.setup.address + 128) 0x08 (0x3E ∷ 56 ∷ []))
  pub outputs : l.setup.output_len ≡ 0
      → reply_by drawn.Outputs l.setup l.slice c l.buffers master ≡ answer (sd2 (master + 128) (l.setup.address + 128) 0x08 (0x3E ∷ 57 ∷ []))

-- a length of 0 takes no room: what lies behind begins where it would begin
pub record NoRoom (s : Setup) : Type 0 where
  pub outputs : s.output_len ≡ 0 → row_base s input_row ≡ state_length
  pub inputs : s.input_len ≡ 0 → row_base s parameter_row ≡ row_base s input_row

-- all of it, for every ledger and telegram. E5 that was drawn is drawn again by a repeat, whatever calls come between that complete no new
-- request, among them a new diagnosis, which sets Diag_Flag
pub record OneWay : Type 0 where
  pub asks_by_sd1 : AsksBySd1
  pub comes_as_sd1 : ComesAsSd1
  pub polled : (l : Ledger) (t : Telegram) → OwnersExchange l t → l.setup.output_len ≡ 0 → payload_of t ≡ [] → Polled l t
  pub given_data : (l : Ledger) (t : Telegram) → OwnersExchange l t → l.setup.output_len ≡ 0 → (payload_of t ≡ [] → ⊥) → GivenData l t
  pub releases : (l : Ledger) (t : Telegram) → CommandsRelease l t → Releases l t
  pub replied : (l : Ledger) (t : Telegram) → OwnersExchange l t → length (payload_of t) ≡ l.setup.output_len → Replied l t
  pub remembers : (l : Ledger) (t : Telegram) → Remembers l t
  pub e5_again : (l : Ledger) (t u : Telegram) (cs : List Call) → OwnersExchange l t → length (payload_of t) ≡ l.setup.output_len
      → l.setup.input_len ≡ 0 → l.control.flags.diag_flag ≡ false → SentAgain l t u → NoNewBetween l t cs
      → NothingNew (after_gap l t cs) u
  -- and the reply of the other is the SD2 again (that nothing else comes of a repeat: Repeats.antt, RepeatIs): only a Slave_Diag of the owner
  -- that is a new request clears Diag_Flag
  pub flagged_again : (l : Ledger) (t u : Telegram) (cs : List Call) → OwnersExchange l t → length (payload_of t) ≡ l.setup.output_len
      → l.setup.input_len ≡ 0 → l.control.flags.diag_flag ≡ true → SentAgain l t u → NoNewBetween l t cs
      → (completed (after_calls l t cs) u).line.reply ≡ octets_of (sd2 (master_of (request_by u)) l.setup.address 0x0A (0x00 ∷ []))
  pub kinds_refused : (l : Ledger) (index : ℕ) → KindsRefused l index
  pub reads_nothing : (l : Ledger) → Fit l → (c : Control) (master : ℕ) → ReadsNothing l c master
  pub no_room : (s : Setup) → NoRoom s
