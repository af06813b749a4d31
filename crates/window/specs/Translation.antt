-- A list with accesses on the ledger, and as the list of the calls behind them.
use Rattle.std.specs.Prelude.{List, [], ◌∷◌, get_or, drop, Ok}
use Rattle.state.specs.Answer.{Answer}
use Rattle.rules.specs.Call.{Call}
use Rattle.rules.specs.Runs.{answers_to, left_by}
use Rattle.ledger.specs.Ledger.{Ledger}
use Rattle.ledger.specs.User.{Told}
use Rattle.ledger.specs.Calls as calls-on-ledger
use Rattle.window.specs.Entries.{Entry}
use Rattle.window.specs.Table.{Behind, calls, nothing, no_cell, answer_behind, left_behind, behind}

-- what is behind an entry, on the ledger
abbrev pub step_by : Ledger → Behind → Told
step_by l b =
    record {
      answer = answer_behind (λ c. (calls-on-ledger.step l c).answer) b;
      ledger = left_behind (λ c. (calls-on-ledger.step l c).ledger) l b;
    }

-- an entry, with the diagnosis that the ledger has in force
abbrev pub step : Ledger → Entry → Told
step l e = step_by l (behind l.control e)

-- the answers to a list of entries
abbrev pub answers : Ledger → List Entry → List Answer
answers = answers_to (λ l e. (step l e).answer) (λ l e. (step l e).ledger)

-- and the ledger after them
abbrev pub after : Ledger → List Entry → Ledger
after = left_by (λ l e. (step l e).ledger)

-- what is behind each entry of a list, along the ledger
abbrev pub behind_each : Ledger → List Entry → List Behind
behind_each l [] = []
behind_each l (e ∷ es) = behind l.control e ∷ behind_each (step l e).ledger es

-- the calls among it
abbrev pub calls_among : List Behind → List Call
calls_among [] = []
calls_among (calls c cut ∷ bs) = c ∷ calls_among bs
calls_among (nothing ∷ bs) = calls_among bs
calls_among (no_cell ∷ bs) = calls_among bs

-- the list of the calls behind a list of entries
abbrev pub translated : Ledger → List Entry → List Call
translated l es = calls_among (behind_each l es)

-- the answers to the entries by those to the calls behind them, of which each call takes the next
abbrev pub answers_by : List Behind → List Answer → List Answer
answers_by [] told = []
answers_by (b ∷ bs) told = answer_behind (λ c. get_or told 0 (Ok 0)) b ∷ answers_by bs (left_behind (λ c. drop 1 told) told b)
