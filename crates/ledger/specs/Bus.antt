-- The calls of the bus: octet, gap, send and tick (document 01, Telegrams, Services, and the Tick in User calls). Octets are heard by
-- the reader's status; what that comes to is told by the grammar alone in ByGrammar.antt, for every ledger and octet.
use Rattle.std.specs.Prelude.{ℕ, Bool, true, false, cond, ◌||◌, List, [], ◌∷◌, ◌++◌, length, get_or}
use Rattle.telegram.specs.declared.reader.Status.{Status}
use Rattle.telegram.specs.declared.reader.Status.TheVariants.{Fresh, Inside, Complete, Broken}
use Rattle.telegram.specs.Telegram.{Telegram, kind_of, da_of, sa_of, fc_of, dsap_of, ssap_of, payload_of}
use Rattle.telegram.specs.Reading.{start, run, reader_after, status, gathered, telegram_of}
use Rattle.rules.specs.declared.request.Request.{Request}
use Rattle.rules.specs.declared.request.Data.{Data}
use Rattle.rules.specs.declared.request.Prm.{Prm}
use Rattle.rules.specs.declared.outcome.Outcome.{Outcome}
use Rattle.rules.specs.Requests.{master_of}
use Rattle.rules.specs.Services.{outcome_by}
use Rattle.rules.specs.Line.{ticked}
use Rattle.ledger.specs.Ledger.{Line, Ledger, with_line, begun, busy, occupied}
use Rattle.ledger.specs.Replies.{reply_of}
use Rattle.rules.specs.Replies.{diagnoses}
use Rattle.ledger.specs.Outcome.{carried, on_buffers, settle}

-- the telegram with these octets: where they are those of a valid telegram, that one (ByGrammar.antt: HeardAsFramed.whole)
abbrev pub telegram_on : List ℕ → Telegram
telegram_on xs = telegram_of (run xs) (gathered start xs)

-- its header, as the rules see it
abbrev pub request_by : Telegram → Request
request_by t =
    record { kind = kind_of t; da = da_of t; sa = sa_of t; fc = fc_of t; dsap = dsap_of t; ssap = ssap_of t; count = length (payload_of t) }

-- the data octets that Set_Prm looks at
abbrev pub prm_by : List ℕ → Prm
prm_by ds =
    record {
      status = get_or ds 0 0;
      factor1 = get_or ds 1 0;
      factor2 = get_or ds 2 0;
      ident_high = get_or ds 4 0;
      ident_low = get_or ds 5 0;
      group = get_or ds 6 0;
      base = get_or ds 7 0;
    }

-- and all that the rules look at
abbrev pub data_by : List ℕ → Data
data_by ds = record { prm = prm_by ds; first = get_or ds 0 0; second = get_or ds 1 0 }

-- what comes of a telegram
abbrev pub outcome_of : Ledger → Request → List ℕ → Outcome
outcome_of l r ds = outcome_by l.setup l.control (occupied l) r (data_by ds)

-- a last octet applies Services to all of them and fixes the reply whole; octets are ignored until a gap
unfoldable pub answered : Ledger → Outcome → ℕ → List ℕ → Ledger
answered l o master ds =
    with_line (carried l o ds)
    (record {
      ignored = true;
      telegram = [];
      reply = reply_of o.drawn l.setup l.slice o.control (on_buffers o l.setup ds l.buffers) master;
      diagnosing = diagnoses o.drawn;
    })

-- a complete telegram: what comes of it is carried out, and the reply fixed
abbrev pub completed : Ledger → Telegram → Ledger
completed l t = answered l (outcome_of l (request_by t) (payload_of t)) (master_of (request_by t)) (payload_of t)

-- broken off: octets are ignored until the next gap
abbrev pub broken_off : Line → Line
broken_off n = record { ignored = true; telegram = []; reply = n.reply; diagnosing = n.diagnosing }

-- an inner octet only lengthens the telegram octets
abbrev pub lengthened : Line → ℕ → Line
lengthened n b = record { ignored = false; telegram = n.telegram ++ b ∷ []; reply = n.reply; diagnosing = n.diagnosing }

-- a beginning drops an unfinished reply
abbrev pub beginning : ℕ → Line
beginning b = record { ignored = false; telegram = b ∷ []; reply = []; diagnosing = false }

-- by what the octets are with this one: none yet, some that lack octets, a telegram, or some that none can result from
-- (ByGrammar.antt: HeardAsFramed, each case by the grammar)
abbrev pub heard_as : Status → Ledger → ℕ → Ledger
heard_as Fresh l b = l
heard_as Inside l b = cond (begun l) (with_line l (lengthened l.line b)) (settle (with_line l (beginning b)))
heard_as Complete l b = settle (completed l (telegram_on (l.line.telegram ++ b ∷ [])))
heard_as Broken l b = settle (with_line l (broken_off l.line))

-- the bus's octet
unfoldable pub heard : Ledger → ℕ → Bool → Ledger
heard l b bad = cond l.line.ignored l (heard_as (status (reader_after (run l.line.telegram) b bad)) l b)

-- the line after a gap: the next octet may begin a telegram; a reply stays
abbrev pub gapped : Line → Line
gapped n = record { ignored = false; telegram = []; reply = n.reply; diagnosing = n.diagnosing }

-- a gap; one inside a telegram breaks it off
unfoldable pub paused : Ledger → Ledger
paused l = settle (with_line l (gapped l.line))

-- send answers the first reply octet left, 256 when no octet is left
abbrev pub send_told : List ℕ → ℕ
send_told [] = 256
send_told (x ∷ xs) = x

-- and removes it
abbrev pub send_left : Line → List ℕ → Line
send_left n [] = n
send_left n (x ∷ xs) = record { ignored = n.ignored; telegram = n.telegram; reply = xs; diagnosing = n.diagnosing }

-- the ledger after a send
unfoldable pub after_send : Ledger → Ledger
after_send l = settle (with_line l (send_left l.line l.line.reply))

-- the next Tick after a clear was noted drops telegram or reply, so that it is carried out, counting nothing
abbrev pub silenced : Ledger → Line
silenced l = record { ignored = l.line.ignored || begun l; telegram = []; reply = []; diagnosing = false }

-- a Tick
unfoldable pub elapsed : Ledger → Ledger
elapsed l = cond l.control.noted (settle (with_line l (silenced l))) (carried l (ticked (busy l) l.control) [])
