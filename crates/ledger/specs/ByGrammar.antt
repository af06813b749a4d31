-- The bus's octet told by the grammar of telegrams alone (demand 2): the ledger of Bus.antt hears exactly the telegrams that the
-- grammar frames, whatever calls come between their octets.
use Rattle.std.specs.Prelude.{ℕ, ◌≡◌, Bool, true, false, cond, List, [], ◌∷◌, ◌++◌, ◌⊎◌}
use Rattle.telegram.specs.Telegram.{Telegram, sd4, octets_of, payload_of, Valid, IsTelegram}
use Rattle.telegram.specs.Framing.{Continues, Hopeless}
use Rattle.state.specs.declared.state.Drawn.TheVariants.{Nothing}
use Rattle.rules.specs.Call.{Call, gap, send, tick}
use Rattle.rules.specs.Phases.{drawing}
use Rattle.ledger.specs.Ledger.{Ledger, with_line, begun, fresh_line}
use Rattle.ledger.specs.Outcome.{settle}
use Rattle.ledger.specs.Bus.{request_by, outcome_of, completed, broken_off, lengthened, heard, gapped, send_left, silenced}
use Rattle.ledger.specs.Calls.{step}
use Rattle.ledger.specs.Exchange.{of_user}
use Rattle.ledger.specs.Hearing.{begun_by}

-- the octets since the gap with this one
abbrev pub octets_with : Ledger → ℕ → List ℕ
octets_with l b = l.line.telegram ++ b ∷ []

-- broken off, with what the end of a telegram lets go
abbrev pub interrupted : Ledger → Ledger
interrupted l = settle (with_line l (broken_off l.line))

-- an octet b to a ledger that does not ignore it, by the octets since the gap
pub record HeardAsFramed (l : Ledger) (b : ℕ) (bad : Bool) : Type 0 where
  -- one flagged bad breaks off
  pub flagged : bad ≡ true → heard l b bad ≡ interrupted l
  -- and so does the first octet after which no telegram can result
  pub hopeless : Hopeless (octets_with l b) → heard l b bad ≡ interrupted l
  -- the octets are those of a valid telegram: it acts whole, with exactly that telegram's fields
  pub whole : bad ≡ false → (t : Telegram) → Valid t → octets_of t ≡ octets_with l b → heard l b bad ≡ settle (completed l t)
  -- some further octets make them one: an inner octet only lengthens the telegram octets
  pub longer : bad ≡ false → Continues (octets_with l b) → begun l ≡ true → heard l b bad ≡ with_line l (lengthened l.line b)
  -- and a first one is a beginning, which drops an unfinished reply
  pub begins : bad ≡ false → Continues (octets_with l b) → begun l ≡ false → heard l b bad ≡ begun_by l b
  -- one of the three is the case
  pub one_of : Hopeless (octets_with l b) ⊎ (IsTelegram (octets_with l b) ⊎ Continues (octets_with l b))
  -- and no more than one: no telegram begins with another
  pub no_two : IsTelegram (octets_with l b) → ¬ Continues (octets_with l b)

-- the calls that come between octets: what they make of the line, so of the octets since the gap and of the ignoring
pub record BetweenOctets : Type 0 where
  -- a user call leaves it
  pub by_user : (l : Ledger) (c : Call) → of_user c ≡ true → (step l c).ledger.line ≡ l.line
  -- send removes the first octet left of the reply
  pub by_send : (l : Ledger) → (step l send).ledger.line ≡ send_left l.line l.line.reply
  -- only a gap ends the ignoring
  pub by_gap : (l : Ledger) → (step l gap).ledger.line ≡ gapped l.line
  -- a Tick leaves it, but where a clear is noted: then it drops telegram or reply
  pub by_tick : (l : Ledger) → (step l tick).ledger.line ≡ cond l.control.noted (silenced l) l.line

-- every ledger hears by the grammar; one that ignores octets is changed by none
pub record ByGrammar : Type 0 where
  pub ignored : (l : Ledger) (b : ℕ) (bad : Bool) → l.line.ignored ≡ true → heard l b bad ≡ l
  pub listening : (l : Ledger) (b : ℕ) (bad : Bool) → l.line.ignored ≡ false → HeardAsFramed l b bad
  pub between : BetweenOctets

-- SD4 is without effect: a complete one keeps everything and draws nothing, so the line is as after Start. Its beginning drops a reply as
-- every beginning, and its end lets a noted clear go as every end (HeardAsFramed)
pub record Sd4WithoutEffect : Type 0 where
  pub outcome_is : (l : Ledger) (da sa : ℕ)
      → outcome_of l (request_by (sd4 da sa)) (payload_of (sd4 da sa)) ≡ drawing l.control Nothing
  pub ledger_is : (l : Ledger) (da sa : ℕ) → completed l (sd4 da sa) ≡ with_line l fresh_line
