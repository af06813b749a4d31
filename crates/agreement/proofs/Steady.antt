-- Facts of every ledger that a list of calls leads to, on which the agreement rests, and all that is known between two calls.
use Prim.Native.Nat.{ℕ, ◌≤◌}
use mathlib.Core.Path.{◌≡◌}
use mathlib.Core.Bool.{true, false}
use mathlib.Core.List.{List, []}
use mathlib.Core.Logic.{◌⊎◌}
use lib.ListN.{length}
use Rattle.telegram.specs.Sending.{left}
use Rattle.state.specs.declared.setup.Setup.{Setup}
use Rattle.state.specs.declared.control.Control.{Control}
use Rattle.state.specs.declared.state.Drawn.TheVariants as drawn
use Rattle.state.specs.declared.state.Reply.{Reply}
use Rattle.state.specs.declared.state.State.{State}
use Rattle.rules.specs.Diagnosis.{delayed}
use Rattle.rules.proofs.MayDrawOutputs.{may_draw_outputs}
use Rattle.ledger.specs.Lists.{some, Sets}
use Rattle.ledger.specs.Ledger.{Ledger, begun, busy, diagnosis_leaves}
use Rattle.agreement.proofs.Relation.{Agrees}

-- no set is longer than its buffers
pub record SetsFit (n : ℕ) (x : Sets) : Type 0 where
  pub shown : length x.shown ≤ n
  pub waiting : length x.waiting ≤ n

-- a count of diagnosis octets
abbrev pub CountIn : Setup → ℕ → Type 0
CountIn s n = (6 ≤ n) × (n ≤ s.diagnosis_len)

-- the control part and the sets of parameters and configuration, which outcomes of the rules change
pub record InOrder (g : Setup) (c : Control) (p q : Sets) : Type 0 where
  -- where the held outputs may be drawn, in DATA_EXCH or by a repeat, no set is open: only a request opens one, and it replaces or ends the
  -- chain
  pub parameters_closed : may_draw_outputs c ≡ true → p.shown ≡ []
  pub configuration_closed : may_draw_outputs c ≡ true → q.shown ≡ []
  -- while a parameter set is open none is judged good
  pub unjudged : some p.shown ≡ true → c.flags.parameters_good ≡ false
  pub parameters_fit : SetsFit g.parameter_len p
  pub configuration_fit : SetsFit g.configuration_len q
  -- diagnosis has 6 octets to the set length, and a delayed one too
  pub count : CountIn g c.diagnosis.count
  pub delayed_count : (c.diagnosis.delayed_count ≡ 0) ⊎ CountIn g c.diagnosis.delayed_count

-- every ledger that calls lead to
pub record Steady (l : Ledger) : Type 0 where
  pub order : InOrder l.setup l.control l.buffers.parameters l.buffers.configuration
  -- while a telegram is coming no reply is left
  pub quiet : begun l ≡ true → l.line.reply ≡ []
  -- a clear is noted only on a busy line, and a diagnosis delayed only while a Slave_Diag reply is unfinished
  pub noted : l.control.noted ≡ true → busy l ≡ true
  pub delaying : delayed l.control ≡ true → diagnosis_leaves l ≡ true

-- with this control part the reply may be unfinished: one of the held outputs only where they may be drawn
abbrev pub Allows : Control → Reply → Type 0
Allows c r = r.drawn ≡ drawn.Outputs → left r.sender ≡ true → may_draw_outputs c ≡ true

abbrev pub ReplySteady : State → Type 0
ReplySteady s = Allows s.control s.reply

-- all that is known of a station and its ledger between two calls
pub record Related (s : State) (m : List ℕ) (l : Ledger) : Type 0 where
  pub agrees : Agrees s m l
  pub steady : Steady l
  pub reply_steady : ReplySteady s
