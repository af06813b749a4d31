-- Every reply but E5 is a telegram with the fields that the rules gave, and what every ledger keeps for that (demand 2).
use Rattle.std.specs.Prelude.{ℕ, ◌≤◌, ◌≡◌, Bool, true, false, List, [], ◌∷◌, ◌++◌, ◌⊎◌, length}
use Rattle.telegram.specs.declared.reader.Status.TheVariants.{Complete}
use Rattle.telegram.specs.Telegram.{Telegram, kind_of, octets_of, payload_of, Valid, IsTelegram}
use Rattle.telegram.specs.Reading.{start, run, reader_after, status, gathered, finished, telegram_of}
use Rattle.telegram.specs.Sending.{start_octet}
use Rattle.state.specs.declared.setup.Setup.{Setup}
use Rattle.state.specs.declared.state.Drawn.TheVariants as drawn
use Rattle.state.specs.Sound.{NoneOr, Ranged, DiagnosisCounted}
use Rattle.rules.specs.Requests.{master_of}
use Rattle.ledger.specs.Lists.{Outputs, Inputs, Sets, Diagnoses, Buffers}
use Rattle.ledger.specs.Ledger.{Ledger, fresh}
use Rattle.ledger.specs.Outcome.{on_buffers}
use Rattle.ledger.specs.Replies.{WholeReply, answer, reply_by, reply_octets}
use Rattle.ledger.specs.Bus.{telegram_on, request_by, outcome_of, completed, heard}
use Rattle.rules.specs.Call.{Call}
use Rattle.ledger.specs.Calls.{after}
use Rattle.ledger.specs.Hearing.{begun_by}

-- The ranges --------------------------------------------------------------------------------------

-- what Start takes
pub record StartTakes (s : Setup) (slice : List ℕ) : Type 0 where
  pub ranged : Ranged s
  pub slice_is : length slice ≡ s.get_cfg_len

-- the lists of the outputs are as long as their buffers, that of those held back where something is
pub record OutputsFit (n : ℕ) (o : Outputs) : Type 0 where
  pub held : length o.held ≡ n
  pub next : length o.next ≡ n
  pub back : o.withheld ≡ true → length o.back ≡ n

-- so are those of the inputs
pub record InputsFit (n : ℕ) (i : Inputs) : Type 0 where
  pub sending : length i.sending ≡ n
  pub next : length i.next ≡ n
  pub held : length i.held ≡ n

-- and of the diagnosis
pub record DiagnosesFit (n : ℕ) (d : Diagnoses) : Type 0 where
  pub own : length d.own ≡ n
  pub user : length d.user ≡ n

-- no set, or one of low to high octets
abbrev pub NoSetOr : ℕ → List ℕ → ℕ → Type 0
NoSetOr low xs high = NoneOr low (length xs) high

-- and the sets no longer than theirs
pub record SetsFit (low high : ℕ) (x : Sets) : Type 0 where
  pub shown : NoSetOr low x.shown high
  pub waiting : NoSetOr low x.waiting high

-- all of them
pub record ListsFit (s : Setup) (b : Buffers) : Type 0 where
  pub outputs : OutputsFit s.output_len b.outputs
  pub inputs : InputsFit s.input_len b.inputs
  pub parameters : SetsFit 7 s.parameter_len b.parameters
  pub configuration : SetsFit 1 s.configuration_len b.configuration
  pub diagnosis : DiagnosesFit s.diagnosis_len b.diagnosis

-- a reply is E5 or a telegram
abbrev pub IsReply : List ℕ → Type 0
IsReply xs = (xs ≡ 0xE5 ∷ []) ⊎ IsTelegram xs

-- the octets left of a reply: none, or those behind the ones that were sent
abbrev pub Left : List ℕ → Type 0
Left xs = (xs ≡ []) ⊎ ((sent : List ℕ) × IsReply (sent ++ xs))

-- what every ledger keeps
pub record Fit (l : Ledger) : Type 0 where
  pub start_takes : StartTakes l.setup l.slice
  pub lists : ListsFit l.setup l.buffers
  pub counts : DiagnosisCounted l.setup.diagnosis_len l.control.diagnosis
  pub reply : Left l.line.reply

-- The reply that is drawn ----------------------------------------------------------------------

-- the reply that a complete telegram t draws
abbrev pub drawn_by : Ledger → Telegram → WholeReply
drawn_by l t =
    let o = outcome_of l (request_by t) (payload_of t) in
    reply_by o.drawn l.setup l.slice o.control (on_buffers o l.setup (payload_of t) l.buffers) (master_of (request_by t))

-- these octets are that telegram, and reading them gives it back with all its fields
pub record ReadsBack (xs : List ℕ) (t : Telegram) : Type 0 where
  pub octets_are : octets_of t ≡ xs
  pub valid : Valid t
  pub fields_are : run xs ≡ finished t
  pub data_are : gathered start xs ≡ payload_of t
  pub telegram_is : telegram_of (run xs) (gathered start xs) ≡ t

-- of the reply that a complete telegram t fixes: it is what the rules draw, a telegram drawn reads back, and who is answered has a
-- master's address
pub record Draws (l : Ledger) (t : Telegram) : Type 0 where
  pub octets_are : (completed l t).line.reply ≡ reply_octets (drawn_by l t)
  pub reads_back : (u : Telegram) → drawn_by l t ≡ answer u → ReadsBack (completed l t).line.reply u
  pub master : ¬ ((outcome_of l (request_by t) (payload_of t)).drawn ≡ drawn.Nothing) → master_of (request_by t) ≤ 126

-- a last octet fixes the reply whole
abbrev pub Fixes : Ledger → ℕ → Bool → Type 0
Fixes l b bad =
    l.line.ignored ≡ false → status (reader_after (run l.line.telegram) b bad) ≡ Complete
    → (heard l b bad).line.reply ≡ (completed l (telegram_on (l.line.telegram ++ b ∷ []))).line.reply

-- after every list of calls the ranges are kept, so that what completes next, or is heard whole next, draws what reads back
pub record RepliesRead (s : Setup) (slice : List ℕ) (cs : List Call) : Type 0 where
  pub fit : Fit (after (fresh s slice) cs)
  pub fixes : (b : ℕ) (bad : Bool) → Fixes (after (fresh s slice) cs) b bad
  pub completes : (t : Telegram) → Draws (after (fresh s slice) cs) t
  pub heard_whole : (t : Telegram) → Draws (begun_by (after (fresh s slice) cs) (start_octet (kind_of t))) t

-- reading back: so it is of every list of calls from a station with what Start takes
abbrev pub ReadingBack : Type 0
ReadingBack = (s : Setup) (slice : List ℕ) (cs : List Call) → StartTakes s slice → RepliesRead s slice cs
