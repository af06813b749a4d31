-- A whole telegram heard, and the whole reply sent: what a list of good octets after a gap comes to, and what the sends behind it answer.
use Rattle.std.specs.Prelude.{ℕ, ◌≡◌, false, List, [], ◌∷◌, ◌++◌, length, replicate, Ok}
use Rattle.state.specs.Answer.{Answer}
use Rattle.telegram.specs.Telegram.{Telegram, kind_of, octets_of, Valid}
use Rattle.telegram.specs.Sending.{start_octet}
use Rattle.ledger.specs.Ledger.{Ledger, with_line}
use Rattle.ledger.specs.Outcome.{settle}
use Rattle.ledger.specs.Bus.{beginning, completed}
use Rattle.rules.specs.Call.{Call, octet, send}
use Rattle.ledger.specs.Calls.{answers, after}

-- these octets one after the other, none flagged bad
abbrev pub hear : List ℕ → List Call
hear [] = []
hear (x ∷ xs) = octet x false ∷ hear xs

-- a beginning drops an unfinished reply, and with it a delayed diagnosis takes effect
abbrev pub begun_by : Ledger → ℕ → Ledger
begun_by l b = settle (with_line l (beginning b))

-- heard after a gap, a telegram's octets all answer 0 and come to what its beginning and its completion do
pub record Hears (l : Ledger) (t : Telegram) : Type 0 where
  pub answers_are : answers l (hear (octets_of t)) ≡ replicate (length (octets_of t)) (Ok 0)
  pub ledger_is : l.line.ignored ≡ false → l.line.telegram ≡ [] → Valid t
      → after l (hear (octets_of t)) ≡ settle (completed (begun_by l (start_octet (kind_of t))) t)

-- a send for each of these octets
abbrev pub sends_of : List ℕ → List Call
sends_of [] = []
sends_of (x ∷ xs) = send ∷ sends_of xs

-- these octets as answers
abbrev pub values : List ℕ → List Answer
values [] = []
values (x ∷ xs) = Ok x ∷ values xs

-- the reply that a telegram fixes
abbrev pub reply_to : Ledger → Telegram → List ℕ
reply_to l t = (completed (begun_by l (start_octet (kind_of t))) t).line.reply

-- heard after a gap, a telegram is replied to whole: the sends behind it answer the reply octet by octet, and then 256
pub record Dialogue (l : Ledger) (t : Telegram) : Type 0 where
  pub answers_are : l.line.ignored ≡ false → l.line.telegram ≡ [] → Valid t
      → answers l (hear (octets_of t) ++ (sends_of (reply_to l t) ++ send ∷ []))
      ≡ replicate (length (octets_of t)) (Ok 0) ++ (values (reply_to l t) ++ Ok 256 ∷ [])
