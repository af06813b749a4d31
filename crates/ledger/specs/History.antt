-- What became of the outputs, told by the telegrams and takes alone, and what a read of them answers (demand 3).
use Rattle.std.specs.Prelude.{ℕ, ◌<◌, ◌≡◌, Bool, true, false, cond, ◌&&◌, List, [], ◌∷◌, ◌++◌, eqb, leb, replicate, get_or, Ok}
use Rattle.state.specs.declared.setup.Setup.{Setup}
use Rattle.telegram.specs.declared.reader.Status.{Status}
use Rattle.telegram.specs.declared.reader.Status.TheVariants.{Fresh, Inside, Complete, Broken}
use Rattle.telegram.specs.Telegram.{Telegram, payload_of}
use Rattle.telegram.specs.Reading.{run, reader_after, status}
use Rattle.rules.specs.declared.outcome.OutputsDeed.{OutputsDeed}
use Rattle.rules.specs.declared.outcome.OutputsDeed.TheVariants.{Keep, Publish, HoldBack, Release, Zeros}
use Rattle.state.specs.declared.control.Modes.{Modes}
use Rattle.rules.specs.Control.{bit}
use Rattle.rules.specs.Modes.{commands_sync, commanded_outputs}
use Rattle.rules.specs.Line.{clear_on, clear_noted, ticked}
use Rattle.rules.specs.User.{judged_parameters, judged_configuration}
use Rattle.ledger.specs.Lists.{some, Outputs}
use Rattle.ledger.specs.Lists as lists
use Rattle.ledger.specs.Ledger.{Ledger, with_line, busy, parameters_open, configuration_open, occupied, fresh}
use Rattle.ledger.specs.Bus.{telegram_on, request_by, outcome_of, completed, broken_off, send_left, silenced}
use Rattle.ledger.specs.Outcome.{on_outputs}
use Rattle.rules.specs.Call.{Call, octet, gap, send, tick, take, read, write, hand_over_call, new_diagnosis_call, judge_parameters_call, judge_configuration_call, events, acknowledge, pending, leave}
use Rattle.ledger.specs.Calls.{step, answers, after}

-- a Data_Exchange was accepted with these data octets, published at once; its data octets were held back; what was held back was
-- published, so that the Data_Exchange that brought it is accepted now; what was held back was emptied; zeros were published by the
-- station; the user took outputs
pub data Deed : Type 0 where
  accepted : (ds : List ℕ) → Deed
  withheld : (ds : List ℕ) → Deed
  released : Deed
  emptied : Deed
  zeroed : Deed
  outputs_taken : Deed

-- the octets held back last, none if they were released or emptied since
abbrev pub newest_withheld : List Deed → List ℕ
newest_withheld [] = []
newest_withheld (accepted ds ∷ earlier) = newest_withheld earlier
newest_withheld (withheld ds ∷ earlier) = ds
newest_withheld (released ∷ earlier) = []
newest_withheld (emptied ∷ earlier) = []
newest_withheld (zeroed ∷ earlier) = newest_withheld earlier
newest_withheld (outputs_taken ∷ earlier) = newest_withheld earlier

-- the octets published last, n zeros if none were; a release publishes those held back last before it
abbrev pub newest : ℕ → List Deed → List ℕ
newest n [] = replicate n 0
newest n (accepted ds ∷ earlier) = ds
newest n (withheld ds ∷ earlier) = newest n earlier
newest n (released ∷ earlier) = newest_withheld earlier
newest n (emptied ∷ earlier) = newest n earlier
newest n (zeroed ∷ earlier) = replicate n 0
newest n (outputs_taken ∷ earlier) = newest n earlier

-- what can be read after these deeds, the newest first: the octets published last before the latest take
abbrev pub readable : ℕ → List Deed → List ℕ
readable n [] = replicate n 0
readable n (accepted ds ∷ earlier) = readable n earlier
readable n (withheld ds ∷ earlier) = readable n earlier
readable n (released ∷ earlier) = readable n earlier
readable n (emptied ∷ earlier) = readable n earlier
readable n (zeroed ∷ earlier) = readable n earlier
readable n (outputs_taken ∷ earlier) = newest n earlier

-- the deeds of an outcome of the rules, the newest first; ds is the data received
abbrev pub deeds_by : OutputsDeed → List ℕ → List Deed
deeds_by Keep ds = []
deeds_by Publish ds = accepted ds ∷ []
deeds_by HoldBack ds = withheld ds ∷ []
deeds_by Release ds = released ∷ []
deeds_by Zeros ds = zeroed ∷ emptied ∷ []

-- a noted clear that is carried out because the line is idle
abbrev pub clears : Ledger → List Deed
clears l = deeds_by (clear_noted (busy l) l.control).outputs []

-- a complete telegram: what comes of it by the rules, and then such a clear
abbrev pub telegram_deeds : Ledger → Telegram → List Deed
telegram_deeds l t = clears (completed l t) ++ deeds_by (outcome_of l (request_by t) (payload_of t)).outputs (payload_of t)

-- an octet, by what the octets are with this one
abbrev pub heard_deeds : Status → Ledger → ℕ → List Deed
heard_deeds Fresh l b = []
heard_deeds Inside l b = []
heard_deeds Complete l b = telegram_deeds l (telegram_on (l.line.telegram ++ b ∷ []))
heard_deeds Broken l b = clears (with_line l (broken_off l.line))

-- the deeds of one call, the newest first; a refused judgement has none
abbrev pub deeds_of : Ledger → Call → List Deed
deeds_of l (octet b bad) = cond l.line.ignored [] (heard_deeds (status (reader_after (run l.line.telegram) b bad)) l b)
deeds_of l gap = clears (with_line l (broken_off l.line))
deeds_of l send = clears (with_line l (send_left l.line l.line.reply))
deeds_of l tick = cond l.control.noted (clears (with_line l (silenced l))) (deeds_by (ticked (busy l) l.control).outputs [])
deeds_of l take = outputs_taken ∷ []
deeds_of l (read kind index) = []
deeds_of l (write kind index x) = []
deeds_of l hand_over_call = []
deeds_of l (new_diagnosis_call count flags) = []
deeds_of l (judge_parameters_call j) =
    cond (parameters_open l && leb j 1)
    (deeds_by (judged_parameters l.control (some l.buffers.parameters.waiting) (eqb j 1)).outputs [])
    []
deeds_of l (judge_configuration_call j) =
    cond (configuration_open l && l.control.flags.parameters_good && leb j 1)
    (deeds_by (judged_configuration l.control (some l.buffers.configuration.waiting) (eqb j 1)).outputs [])
    []
deeds_of l events = []
deeds_of l (acknowledge mask) = []
deeds_of l pending = []
deeds_of l leave = deeds_by (clear_on (busy l) l.control).outputs []

-- the deeds of a list of calls, the newest first
abbrev pub history : Ledger → List Call → List Deed
history l [] = []
history l (c ∷ cs) = history (step l c).ledger cs ++ deeds_of l c

-- what deeds make of the outputs, the newest first: take changes next and held where next is new
abbrev pub made : ℕ → List Deed → Outputs → Outputs
made n [] o = o
made n (accepted ds ∷ earlier) o = lists.published (made n earlier o) ds
made n (withheld ds ∷ earlier) o = lists.held_back (made n earlier o) ds
made n (released ∷ earlier) o = lists.released (made n earlier o)
made n (emptied ∷ earlier) o = lists.emptied (made n earlier o)
made n (zeroed ∷ earlier) o = lists.published_zeros (made n earlier o) n
made n (outputs_taken ∷ earlier) o = lists.took_new (made n earlier o)

-- every call makes of the outputs what its deeds say, and nothing else
abbrev pub DeedsMake : Type 0
DeedsMake = (l : Ledger) (c : Call) → (step l c).ledger.buffers.outputs ≡ made l.setup.output_len (deeds_of l c) l.buffers.outputs

-- after every list of calls the outputs read are those of the newest telegram accepted before the latest take, or zeros
pub record OutputsRead (s : Setup) (slice : List ℕ) (cs : List Call) (index : ℕ) (rest : List Call) : Type 0 where
  pub answers_are : index < s.output_len
      → answers (fresh s slice) (cs ++ read 1 index ∷ rest)
      ≡ answers (fresh s slice) cs
      ++ Ok (get_or (readable s.output_len (history (fresh s slice) cs)) index 0) ∷ answers (after (fresh s slice) cs) rest

-- so it is of every list of calls, with any calls behind the read
abbrev pub OutputsReadable : Type 0
OutputsReadable = (s : Setup) (slice : List ℕ) (cs : List Call) (index : ℕ) (rest : List Call) → OutputsRead s slice cs index rest

-- whether something is held back, told by the deeds alone
abbrev pub holds_back : List Deed → Bool
holds_back [] = false
holds_back (accepted ds ∷ earlier) = holds_back earlier
holds_back (withheld ds ∷ earlier) = true
holds_back (released ∷ earlier) = false
holds_back (emptied ∷ earlier) = false
holds_back (zeroed ∷ earlier) = holds_back earlier
holds_back (outputs_taken ∷ earlier) = holds_back earlier

-- after every list of calls: what sync and unsync look at says that something is held back exactly if a Data_Exchange was held back and
-- neither released nor emptied since, be its outputs without an octet
abbrev pub WithheldTold : Type 0
WithheldTold = (s : Setup) (slice : List ℕ) (cs : List Call) → (occupied (after (fresh s slice) cs)).outputs ≡ holds_back (history (fresh s slice) cs)

-- what sync and unsync make of the outputs, without clear
abbrev pub sync_obeyed : Modes → ℕ → Outputs → ℕ → List ℕ → Outputs
sync_obeyed m first o n ds = on_outputs (cond (commands_sync m first && o.withheld) Release Keep) o n ds

-- "Clear (bit 1) comes last": what a Global_Control makes of the outputs is what sync and unsync make of them, and then zeros if bit 1 is set
abbrev pub ClearLast : Type 0
ClearLast =
    (m : Modes) (first : ℕ) (o : Outputs) (n : ℕ) (ds : List ℕ)
    → on_outputs (commanded_outputs m o.withheld first) o n ds
    ≡ cond (bit first 1) (on_outputs Zeros (sync_obeyed m first o n ds) n ds) (sync_obeyed m first o n ds)

-- what a take answers after these deeds: 0 if nothing was published since the latest take, 2 if zeros were last, else 1
abbrev pub news_of : List Deed → ℕ
news_of [] = 0
news_of (accepted ds ∷ earlier) = 1
news_of (withheld ds ∷ earlier) = news_of earlier
news_of (released ∷ earlier) = 1
news_of (emptied ∷ earlier) = news_of earlier
news_of (zeroed ∷ earlier) = 2
news_of (outputs_taken ∷ earlier) = 0

-- after every list of calls a take answers so
abbrev pub TakesTold : Type 0
TakesTold =
    (s : Setup) (slice : List ℕ) (cs : List Call)
    → (step (after (fresh s slice) cs) take).answer ≡ Ok (news_of (history (fresh s slice) cs))
