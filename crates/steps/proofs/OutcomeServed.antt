-- What comes of a telegram, as the steps read its data, keeps what the rules keep.
use Prim.Native.Nat.{ℕ}
use mathlib.Core.List.{List}
use Rattle.state.specs.declared.state.State.{State}
use Rattle.rules.specs.declared.request.Request.{Request}
use Rattle.rules.proofs.Served.{Served, served}
use Rattle.steps.specs.Outcome.{occupied}
use Rattle.steps.specs.Reading.{data_in, outcome_of}

pub outcome_served : (s : State) (m : List ℕ) (r : Request) → Served s.setup s.control s.outputs.set.withheld r (outcome_of s m r)
unfolding outcome_of
outcome_served s m r = served s.setup s.control (occupied s) r (data_in s m)
