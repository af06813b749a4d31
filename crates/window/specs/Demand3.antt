-- Demand 3 over lists with accesses: what is claimed of every list of calls and accesses from a freshly started station, refused ones
-- included.
use Rattle.std.specs.Prelude.{ℕ, ◌<◌, ◌≡◌, Bool, true, List, [], ◌∷◌, ◌++◌, get_or, Ok}
use Rattle.state.specs.declared.setup.Setup.{Setup}
use Rattle.rules.specs.Call.{octet, take, read}
use Rattle.steps.specs.Calls as steps
use Rattle.ledger.specs.Ledger.{fresh}
use Rattle.ledger.specs.Calls as calls-on-ledger
use Rattle.ledger.specs.Exchange as exchange
use Rattle.ledger.specs.Exchange.{Inner, PlacesChanged}
use Rattle.ledger.specs.History.{readable, news_of, history}
use Rattle.agreement.specs.Agreement.{memory_of, FromStart}
use Rattle.window.specs.Entries.{Entry, call, window_read, window_write}
use Rattle.window.specs.Calls.{answers, memory_after}
use Rattle.window.specs.Translation as entries-on-ledger
use Rattle.window.specs.Translation.{after, behind_each, translated, answers_by}

-- a call of the vat program; every access is one, also one with nothing behind it or refused
abbrev pub of_user : Entry → Bool
of_user (call c) = exchange.of_user c
of_user (window_read order address) = true
of_user (window_write order address x) = true

-- m is the memory that Start was given, s its numbers, slice the octets for Get_Cfg, lengths those of the channels
pub record Agreement (m : List ℕ) (s : Setup) (slice lengths : List ℕ) : Type 0 where
  -- every answer is that of the ledger
  pub agree : (es : List Entry) → answers (memory_of m s slice lengths) es ≡ entries-on-ledger.answers (fresh s slice) es
  -- "a list with window accesses answers as the list of the calls behind them, Events cut to the eight bits read"
  pub answers_behind : (es : List Entry)
      → answers (memory_of m s slice lengths) es
      ≡ answers_by (behind_each (fresh s slice) es) (steps.answers (memory_of m s slice lengths) (translated (fresh s slice) es))
  -- and leaves the memory and the ledger that these leave: what holds of every ledger that calls lead to holds here too
  pub memory_behind : (es : List Entry) → memory_after (memory_of m s slice lengths) es ≡ steps.memory_after (memory_of m s slice lengths) (translated (fresh s slice) es)
  pub ledger_behind : (es : List Entry) → after (fresh s slice) es ≡ calls-on-ledger.after (fresh s slice) (translated (fresh s slice) es)
  -- if a call of the vat program and a neighbouring inner octet change places, every call keeps its answer, whichever came first
  pub octet_then_call : (pre post : List Entry) (b : ℕ) (bad : Bool) (e : Entry) → of_user e ≡ true
      → Inner (after (fresh s slice) pre) b bad → PlacesChanged (answers (memory_of m s slice lengths)) pre post (call (octet b bad)) e
  pub call_then_octet : (pre post : List Entry) (b : ℕ) (bad : Bool) (e : Entry) → of_user e ≡ true
      → Inner (after (fresh s slice) (pre ++ e ∷ [])) b bad → PlacesChanged (answers (memory_of m s slice lengths)) pre post (call (octet b bad)) e
  -- outputs read are those of the newest telegram accepted before the latest take, or zeros, whatever calls come behind the read; an
  -- access that takes is a take
  pub outputs : (es : List Entry) (index : ℕ) (rest : List Entry) → index < s.output_len
      → answers (memory_of m s slice lengths) (es ++ call (read 1 index) ∷ rest)
      ≡ answers (memory_of m s slice lengths) es
      ++ Ok (get_or (readable s.output_len (history (fresh s slice) (translated (fresh s slice) es))) index 0)
      ∷ answers (memory_after (memory_of m s slice lengths) es) rest
  -- a take tells of them, also where they have no octet that could be read
  pub takes : (es rest : List Entry)
      → answers (memory_of m s slice lengths) (es ++ call take ∷ rest)
      ≡ answers (memory_of m s slice lengths) es
      ++ Ok (news_of (history (fresh s slice) (translated (fresh s slice) es)))
      ∷ answers (memory_after (memory_of m s slice lengths) (es ++ call take ∷ [])) rest

-- demand 3 whole
abbrev pub Demand3 : Type 0
Demand3 = FromStart Agreement
