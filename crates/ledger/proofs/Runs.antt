-- A list of calls on the ledger in two parts.
use mathlib.Core.Path.{◌≡◌}
use mathlib.Core.List.{List, ◌++◌}
use lib.ListN.{length}
use Rattle.rules.specs.Call.{Call}
use Rattle.rules.proofs.Runs as runs
use Rattle.ledger.specs.Ledger.{Ledger}
use Rattle.ledger.specs.Calls.{step, answers, after}

pub after_append : (l : Ledger) (cs ds : List Call) → after l (cs ++ ds) ≡ after (after l cs) ds
after_append = runs.left_append (λ l c. (step l c).ledger)

pub answers_append : (l : Ledger) (cs ds : List Call) → answers l (cs ++ ds) ≡ answers l cs ++ answers (after l cs) ds
answers_append = runs.answers_append (λ l c. (step l c).answer) (λ l c. (step l c).ledger)

-- each call has one answer
pub answers_length : (l : Ledger) (cs : List Call) → length (answers l cs) ≡ length cs
answers_length = runs.answers_length (λ l c. (step l c).answer) (λ l c. (step l c).ledger)
