-- A request that is sent again (document 02, Req 04): which telegrams repeat one, what a repeat draws, what becomes of the chain, and that
-- nothing else comes of a repeat.
use Rattle.std.specs.Prelude.{ℕ, ◌/◌, ◌%◌, ◌≡◌, Bool, true, false, cond, not, ◌&&◌, List, [], ◌∷◌, ◌++◌, ◌↔◌}
use Rattle.telegram.specs.declared.reader.Status.{Status}
use Rattle.telegram.specs.declared.reader.Status.TheVariants.{Fresh, Inside, Complete, Broken}
use Rattle.telegram.specs.Telegram.{Telegram, octets_of, payload_of, Valid}
use Rattle.telegram.specs.Reading.{run, reader_after, status}
use Rattle.state.specs.declared.setup.Setup.{Setup}
use Rattle.state.specs.declared.chain.Chain.{Chain}
use Rattle.state.specs.declared.control.Control.{Control}
use Rattle.state.specs.declared.state.Drawn.{Drawn}
use Rattle.state.specs.declared.state.Drawn.TheVariants as drawn
use Rattle.state.specs.Chain.{chain_of, no_chain, fcb_in, drawn_in}
use Rattle.rules.specs.declared.request.Request.{Request}
use Rattle.rules.specs.declared.request.Data.{Data}
use Rattle.rules.specs.declared.request.Occupied.{Occupied}
use Rattle.rules.specs.declared.request.Service.TheVariants.{SetPrm}
use Rattle.rules.specs.Call.{Call, octet, gap, send, tick, take, read, write, hand_over_call, new_diagnosis_call, judge_parameters_call, judge_configuration_call, events, acknowledge, pending, leave}
use Rattle.rules.specs.Control.{with_chain}
use Rattle.rules.specs.Replies.{diagnoses}
use Rattle.rules.specs.Requests.{master_of, acts, refilled, service_of}
use Rattle.rules.specs.Retries.{is_request, fcv_of, fcb_of, is_repeat, on_chain, drew}
use Rattle.rules.specs.Services.{other_owns, outcome_by}
use Rattle.ledger.specs.Ledger.{Ledger, with_control, with_line, fresh}
use Rattle.ledger.specs.Replies.{reply_of}
use Rattle.ledger.specs.Outcome.{settle}
use Rattle.ledger.specs.Bus.{telegram_on, request_by, outcome_of, completed}
use Rattle.ledger.specs.Calls.{step, after}
use Rattle.ledger.specs.Hearing.{hear}
use Rattle.ledger.specs.History.{clears, telegram_deeds}

-- request, FC bits 4 and 5, and master, by the octets FC and SA
pub record InOctets (g : Setup) (r : Request) : Type 0 where
  -- a request acts, and its function is neither 4 nor 6
  pub request_is : (is_request g r ≡ true) ↔ ((acts g r ≡ true) × (r.fc % 16 ≡ 4 → ⊥) × (r.fc % 16 ≡ 6 → ⊥))
  -- FC bit 4, and FC bit 5
  pub counts_is : (fcv_of r ≡ true) ↔ (r.fc / 16 % 2 ≡ 1)
  pub bit_is : (fcb_of r ≡ true) ↔ (r.fc / 32 % 2 ≡ 1)
  -- SA's low 7 bits
  pub master_is : master_of r ≡ r.sa % 128

-- a repeat is exactly a request with FC bit 4 set and the master and the bit 5 of the last one
abbrev pub RepeatExactly : Type 0
RepeatExactly =
    (g : Setup) (c : Control) (r : Request)
    → (is_repeat g c r ≡ true)
    ↔ ((is_request g r ≡ true) × (fcv_of r ≡ true) × (master_of r ≡ c.chain.master) × (fcb_of r ≡ fcb_in c.chain))

-- the ledger after a repeat that draws d, before what waits for its end is settled: nothing but the owner's watchdog changes, and the reply
-- comes from the state and lists as they stand
abbrev pub again : Drawn → Ledger → Telegram → Ledger
again d l t =
    with_line (with_control l (refilled l.setup l.control (request_by t)))
    (record {
      ignored = true;
      telegram = [];
      reply = reply_of d l.setup l.slice (refilled l.setup l.control (request_by t)) l.buffers (master_of (request_by t));
      diagnosing = diagnoses d;
    })

-- so it is of every repeat, with what the earlier request drew: no Diag_Flag is cleared, no set, input or output changes, and a repeated
-- Slave_Diag's reply delays a new diagnosis
abbrev pub RepeatIs : Type 0
RepeatIs =
    (l : Ledger) (t : Telegram) → is_repeat l.setup l.control (request_by t) ≡ true
    → completed l t ≡ again (drawn_in l.control.chain) l t

-- the octets are those of a whole telegram
abbrev pub is_whole : Status → Bool
is_whole Fresh = false
is_whole Inside = false
is_whole Complete = true
is_whole Broken = false

-- a telegram is a request that repeats none
abbrev pub is_new : Ledger → Telegram → Bool
is_new l t = is_request l.setup (request_by t) && not (is_repeat l.setup l.control (request_by t))

-- a call completes a new request: an octet with which the octets since the gap are one
abbrev pub completes_new_request : Ledger → Call → Bool
completes_new_request l (octet b bad) =
    not l.line.ignored && is_whole (status (reader_after (run l.line.telegram) b bad))
    && is_new l (telegram_on (l.line.telegram ++ b ∷ []))
completes_new_request l gap = false
completes_new_request l send = false
completes_new_request l tick = false
completes_new_request l take = false
completes_new_request l (read kind index) = false
completes_new_request l (write kind index x) = false
completes_new_request l hand_over_call = false
completes_new_request l (new_diagnosis_call count flags) = false
completes_new_request l (judge_parameters_call j) = false
completes_new_request l (judge_configuration_call j) = false
completes_new_request l events = false
completes_new_request l (acknowledge mask) = false
completes_new_request l pending = false
completes_new_request l leave = false

-- no call of a list completes a new request; repeats, telegrams with function 4 or 6, and those that do not act, may come: a repeat of a
-- repeat is a repeat
abbrev pub NoNewRequest : Ledger → List Call → Type 0
NoNewRequest l [] = Unit
NoNewRequest l (c ∷ cs) = (completes_new_request l c ≡ false) × NoNewRequest (step l c).ledger cs

-- a station starts with no request that a telegram could repeat
abbrev pub StartHasNone : Type 0
StartHasNone = (s : Setup) (slice : List ℕ) → (fresh s slice).control.chain ≡ no_chain

-- and where there is none, nothing is a repeat
abbrev pub NoneRepeated : Type 0
NoneRepeated = (g : Setup) (c : Control) (r : Request) → c.chain ≡ no_chain → is_repeat g c r ≡ false

-- nothing but a new request touches the chain
abbrev pub ChainKept : Type 0
ChainKept = (l : Ledger) (c : Call) → completes_new_request l c ≡ false → (step l c).ledger.control.chain ≡ l.control.chain

-- what a request t drew, as its repeat draws it again: E5 also where a Data_Exchange is replied to by that (Req 05)
abbrev pub drew_by : Ledger → Telegram → Drawn
drew_by l t = drew l.setup (outcome_of l (request_by t) (payload_of t))

-- and what becomes of it by a request: after the last octet of t (ByGrammar.antt: HeardAsFramed.whole)
pub record ChainGoesOn (l : Ledger) (t : Telegram) : Type 0 where
  -- a new one is what the next is compared with, or ends the chain if its FC bit 4 is clear
  pub new_goes_in : is_request l.setup (request_by t) ≡ true → is_repeat l.setup l.control (request_by t) ≡ false
      → (settle (completed l t)).control.chain
      ≡ cond (fcv_of (request_by t)) (chain_of (master_of (request_by t)) (fcb_of (request_by t)) (drew_by l t)) no_chain
  -- a repeat leaves it
  pub repeat_leaves : is_repeat l.setup l.control (request_by t) ≡ true → (settle (completed l t)).control.chain ≡ l.control.chain

-- a telegram that is no repeat, Global_Control among them, does not look at the chain: the same comes of it with any other chain by which it
-- is none either, but for the chain
abbrev pub ChainUnseen : Type 0
ChainUnseen =
    (g : Setup) (c : Control) (h : Chain) (b : Occupied) (r : Request) (octets : Data) → is_repeat g c r ≡ false → is_repeat g (with_chain c h) r ≡ false
    → (k : Chain) → on_chain (outcome_by g (with_chain c h) b r octets) k ≡ on_chain (outcome_by g c b r octets) k

-- t is a request with FC bit 4 set that repeats none, and u is one with bit 4 set, that master and that bit 5; nothing else of u is looked at
pub record SentAgain (l : Ledger) (t u : Telegram) : Type 0 where
  pub first_asks : is_request l.setup (request_by t) ≡ true
  pub first_counts : fcv_of (request_by t) ≡ true
  pub first_new : is_repeat l.setup l.control (request_by t) ≡ false
  pub second_valid : Valid u
  pub second_asks : is_request l.setup (request_by u) ≡ true
  pub second_counts : fcv_of (request_by u) ≡ true
  pub same_master : master_of (request_by u) ≡ master_of (request_by t)
  pub same_bit : fcb_of (request_by u) ≡ fcb_of (request_by t)

-- the ledger after the last octet of t and the calls cs
abbrev pub after_calls : Ledger → Telegram → List Call → Ledger
after_calls l t cs = after (settle (completed l t)) cs

-- no call of cs, behind that octet, completes a new request
abbrev pub NoNewBetween : Ledger → Telegram → List Call → Type 0
NoNewBetween l t cs = NoNewRequest (settle (completed l t)) cs

-- whatever t drew is drawn again: u, complete after any calls between that complete no new request (its own octets but the last are among
-- them), is a repeat that draws it
abbrev pub DrawnAgain : Type 0
DrawnAgain =
    (l : Ledger) (t u : Telegram) (cs : List Call) → SentAgain l t u → NoNewBetween l t cs
    → completed (after_calls l t cs) u ≡ again (drew_by l t) (after_calls l t cs) u

-- the ledger after the last octet of t, the calls cs and a gap
abbrev pub after_gap : Ledger → Telegram → List Call → Ledger
after_gap l t cs = (step (after_calls l t cs) gap).ledger

-- of the ledger p after the gap: u is heard whole with no call between, octet by octet
pub record NothingNew (p : Ledger) (u : Telegram) : Type 0 where
  -- E5 is drawn
  pub draws_e5 : (after p (hear (octets_of u))).line.reply ≡ 0xE5 ∷ []
  -- the control part stays but for the present owner's watchdog, and so do the lists
  pub control_is : (after p (hear (octets_of u))).control ≡ refilled p.setup p.control (request_by u)
  pub buffers_are : (after p (hear (octets_of u))).buffers ≡ p.buffers
  -- so no event comes or goes
  pub events_stay : (after p (hear (octets_of u))).control.events ≡ p.control.events
  -- and before its last octet control part and lists stay whole
  pub inner_control : (xs ys : List ℕ) (y : ℕ) → octets_of u ≡ xs ++ y ∷ ys → (after p (hear xs)).control ≡ p.control
  pub inner_buffers : (xs ys : List ℕ) (y : ℕ) → octets_of u ≡ xs ++ y ∷ ys → (after p (hear xs)).buffers ≡ p.buffers

-- if t drew E5: so it is after any calls between that complete no new request
abbrev pub E5Again : Type 0
E5Again =
    (l : Ledger) (t u : Telegram) (cs : List Call) → SentAgain l t u
    → drew_by l t ≡ drawn.Acknowledge → NoNewBetween l t cs → NothingNew (after_gap l t cs) u

-- "the vat program gets the event twice" no more: a Set_Prm that no other master's ownership refuses, and its repeat
abbrev pub SetPrmOnce : Type 0
SetPrmOnce =
    (l : Ledger) (t u : Telegram) (cs : List Call) → SentAgain l t u → service_of l.setup (request_by t) ≡ SetPrm
    → other_owns l.control (master_of (request_by t)) ≡ false → NoNewBetween l t cs → NothingNew (after_gap l t cs) u

-- "the outputs of a repeated Data_Exchange count as accepted a single time": a repeat has no deed but that of a noted clear at its end
abbrev pub NoDeedAgain : Type 0
NoDeedAgain =
    (l : Ledger) (t : Telegram) → is_repeat l.setup l.control (request_by t) ≡ true → telegram_deeds l t ≡ clears (completed l t)
