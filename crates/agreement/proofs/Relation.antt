-- The relation between the station's state and memory and the ledger: the control parts are equal, and each list is a part
-- of the memory.
use Prim.Native.Nat.{ℕ, ◌≤◌, ◌<◌}
use mathlib.Core.Path.{◌≡◌}
use mathlib.Core.Bool.{Bool, true, false}
use mathlib.Core.List.{List, []}
use lib.ListN.{length, take, get_or}
use Rattle.buffers.specs.declared.triple.Triple.{Triple}
use Rattle.buffers.specs.Roles.{fill_of, next_of, held_of, back_of}
use Rattle.octets.specs.Part.{part}
use Rattle.telegram.specs.Reading.{start, run, status, gathered}
use Rattle.telegram.specs.ToSend.{to_send}
use Rattle.state.specs.declared.setup.Setup.{Setup}
use Rattle.state.specs.declared.state.Outputs as station-outputs
use Rattle.state.specs.declared.state.Sets as station-sets
use Rattle.state.specs.declared.state.State.{State}
use Rattle.state.specs.Layout.{outputs_at, inputs_at, parameters_at, configuration_at, diagnosis_at, get_cfg_at}
use Rattle.ledger.specs.Lists.{some, Outputs, Inputs, Sets, Diagnoses}
use Rattle.ledger.specs.Ledger.{Line, Ledger}
use Rattle.ledger.specs.User as ledger-user
use Rattle.steps.specs.Safe.{Safe}
use Rattle.steps.specs.Stepped.{Stepped, Told}
use Rattle.rules.specs.Replies.{diagnoses}
use Rattle.steps.specs.Replies.{own_place, user_place, datum_at}
use Rattle.steps.specs.Reading.{is_ignored}

-- the outputs held and next, and those held back where something is, with their marks
pub record OutputsAgree (g : Setup) (m : List ℕ) (o : station-outputs.Outputs) (l : Outputs) : Type 0 where
  pub held : part m (outputs_at g (held_of o.set.place)) g.output_len ≡ l.held
  pub next : part m (outputs_at g (next_of o.set.place)) g.output_len ≡ l.next
  pub back : l.withheld ≡ true → part m (outputs_at g (back_of o.set.place)) g.output_len ≡ l.back
  pub fresh : o.set.fresh ≡ l.fresh
  pub zeros : o.zeros ≡ l.zeros
  pub withheld : o.set.withheld ≡ l.withheld

-- the three inputs
pub record InputsAgree (g : Setup) (m : List ℕ) (t : Triple) (l : Inputs) : Type 0 where
  pub sending : part m (inputs_at g (fill_of t.place)) g.input_len ≡ l.sending
  pub next : part m (inputs_at g (next_of t.place)) g.input_len ≡ l.next
  pub held : part m (inputs_at g (held_of t.place)) g.input_len ≡ l.held
  pub fresh : t.fresh ≡ l.fresh

-- the set that is shown and the one that waits; base: where each of the buffers begins
pub record SetsAgree (base : ℕ → ℕ) (m : List ℕ) (s : station-sets.Sets) (l : Sets) : Type 0 where
  pub shown : part m (base (held_of s.set.place)) s.shown ≡ l.shown
  pub waiting : part m (base (next_of s.set.place)) s.waiting ≡ l.waiting
  pub shown_count : s.shown ≡ length l.shown
  pub waiting_count : s.waiting ≡ length l.waiting
  pub fresh : s.set.fresh ≡ some l.waiting

-- the controller's diagnosis octets and the user's
pub record DiagnosesAgree (g : Setup) (m : List ℕ) (swapped : Bool) (l : Diagnoses) : Type 0 where
  pub own : part m (diagnosis_at g (own_place swapped)) g.diagnosis_len ≡ l.own
  pub user : part m (diagnosis_at g (user_place swapped)) g.diagnosis_len ≡ l.user

-- a buffer of n octets from a on begins with what was gathered, as far as it goes
abbrev pub BeginsWith : List ℕ → ℕ → ℕ → List ℕ → Type 0
BeginsWith m a n ds = part m a (length (take n ds)) ≡ take n ds

-- the data octets that came stand where the header of the telegram says
pub record Gathered (s : State) (m : List ℕ) (ds : List ℕ) : Type 0 where
  pub outputs : s.incoming.reader.da < 128 → BeginsWith m (outputs_at s.setup (fill_of s.outputs.set.place)) s.setup.output_len ds
  pub parameters : 128 ≤ s.incoming.reader.da → s.incoming.reader.dsap ≡ 61
      → BeginsWith m (parameters_at s.setup (fill_of s.parameters.set.place)) s.setup.parameter_len ds
  pub configuration : 128 ≤ s.incoming.reader.da → s.incoming.reader.dsap ≡ 62
      → BeginsWith m (configuration_at s.setup (fill_of s.configuration.set.place)) s.setup.configuration_len ds
  pub first : 1 ≤ length ds → s.incoming.first ≡ get_or ds 0 0
  pub second : 2 ≤ length ds → s.incoming.second ≡ get_or ds 1 0

-- the reading: ignoring, or the reader that took the telegram octets so far, with the data stored
pub record ReadingAgrees (s : State) (m : List ℕ) (n : Line) : Type 0 where
  pub ignoring : is_ignored (status s.incoming.reader) ≡ n.ignored
  pub empty : n.ignored ≡ true → n.telegram ≡ []
  pub reading : n.ignored ≡ false → s.incoming.reader ≡ run n.telegram
  pub stored : n.ignored ≡ false → Gathered s m (gathered start n.telegram)

-- the reply: ds are its data octets, and what the sender has yet to send is what is left of it
pub record ReplyAgrees (s : State) (m : List ℕ) (n : Line) (ds : List ℕ) : Type 0 where
  pub count : length ds ≡ s.reply.sender.count
  pub octets : (k : ℕ) → k < length ds → datum_at s m k ≡ get_or ds k 0
  pub unsent : to_send s.reply.sender ds ≡ n.reply
  pub diagnosis : diagnoses s.reply.drawn ≡ n.diagnosing

pub record Agrees (s : State) (m : List ℕ) (l : Ledger) : Type 0 where
  pub setup : s.setup ≡ l.setup
  pub control : s.control ≡ l.control
  pub outputs : OutputsAgree s.setup m s.outputs l.buffers.outputs
  pub inputs : InputsAgree s.setup m s.inputs l.buffers.inputs
  pub parameters : SetsAgree (parameters_at s.setup) m s.parameters l.buffers.parameters
  pub configuration : SetsAgree (configuration_at s.setup) m s.configuration l.buffers.configuration
  pub diagnosis : DiagnosesAgree s.setup m s.swapped l.buffers.diagnosis
  pub slice : part m (get_cfg_at s.setup) s.setup.get_cfg_len ≡ l.slice
  pub reading : ReadingAgrees s m l.line
  pub reply : (ds : List ℕ) × ReplyAgrees s m l.line ds
  pub safe : Safe s m

-- what a step leaves agrees with the ledger after it
abbrev pub After : Stepped → Ledger → Type 0
After x l = Agrees x.state x.memory l

-- a call told alike: the answers are equal, and what is left agrees
pub record Matches (t : Told) (u : ledger-user.Told) : Type 0 where
  pub answers : t.answer ≡ u.answer
  pub agrees : Agrees t.state t.memory u.ledger
