-- The calls gap and Tick: told alike, and what is left agrees.
use Prim.Native.Nat.{ℕ}
use mathlib.Core.Path.{◌≡◌, refl, sym, ap, ◌∙◌}
use mathlib.Core.Bool.{Bool, true, false, ◌||◌, or-true, or-false}
use mathlib.Core.List.{List, []}
use Rattle.telegram.specs.Reading.{start, off, run}
use Rattle.telegram.proofs.Run.{start_fresh, off_broken}
use Rattle.state.specs.declared.control.Control.{Control}
use Rattle.state.specs.declared.state.State.{State}
use Rattle.rules.specs.Line.{ticked}
use Rattle.ledger.proofs.Some.{nothing_in}
use Rattle.ledger.specs.Ledger as ledger
use Rattle.ledger.specs.Ledger.{Line, Ledger, with_line}
use Rattle.ledger.specs.Outcome as ledger-outcome
use Rattle.ledger.specs.Bus as ledger-bus
use Rattle.ledger.specs.Calls as ledger-calls
use Rattle.rules.specs.Call.{gap, tick}
use Rattle.state.specs.With.{with_reply}
use Rattle.steps.specs.Stepped.{Stepped}
use Rattle.steps.specs.Line.{begun, busy}
use Rattle.steps.specs.Outcome.{carried, settle}
use Rattle.state.specs.Start.{no_reply}
use Rattle.steps.specs.Reading.{is_ignored, read_by}
use Rattle.steps.specs.Bus.{paused, silenced_reader, elapsed}
use Rattle.steps.specs.Step.{step}
use Rattle.agreement.proofs.DataStands.{gathered_none}
use Rattle.agreement.proofs.Relation.{ReadingAgrees, Agrees, Matches}
use Rattle.agreement.proofs.SameLine.{begun_agrees, busy_agrees}
use Rattle.rules.proofs.Served.{ticked_quiet}
use Rattle.agreement.proofs.OutcomeCarried.{quiet_agrees}
use Rattle.agreement.proofs.LineStays.{ignored_agrees}
use Rattle.agreement.proofs.OnePartChanges.{reading_changed, reply_dropped}
use Rattle.state.proofs.Choice.{both}
use Rattle.agreement.proofs.SettleAgrees.{idle_spared, settle_agrees}

-- what a Tick leaves of the reading
silenced : {s : State} {m : List ℕ} {l : Ledger} → Agrees s m l
    → ReadingAgrees (read_by s (silenced_reader (begun s) s.incoming.reader)) m
    (record { ignored = l.line.ignored || ledger.begun l; telegram = []; reply = l.line.reply; diagnosing = l.line.diagnosing })
silenced {s} {m} {l} a = go (begun s) refl
  where
    r : ReadingAgrees s m l.line
    r = a.reading

    n : Bool → Line
    n b = record { ignored = b; telegram = []; reply = l.line.reply; diagnosing = l.line.diagnosing }

    broken : ReadingAgrees (read_by s off) m (n true)
    broken = ignored_agrees (ap is_ignored off_broken) refl refl

    as_before : ledger.begun l ≡ false → ReadingAgrees (read_by s s.incoming.reader) m (n l.line.ignored)
    as_before e = record {
      ignoring = r.ignoring;
      empty = λ _. refl;
      reading = λ f. r.reading f ∙ ap run (nothing_in l.line.telegram e);
      stored = λ f. gathered_none s m;
    }

    go : (t : Bool) → begun s ≡ t → ReadingAgrees (read_by s (silenced_reader t s.incoming.reader)) m (n (l.line.ignored || ledger.begun l))
    go true e = rw (sym (begun_agrees a) ∙ e, or-true l.line.ignored) broken
    go false e = let f = sym (begun_agrees a) ∙ e in rw (f, or-false l.line.ignored) (as_before f)

module _ {s : State} {m : List ℕ} {l : Ledger} (a : Agrees s m l) where
  gap_agrees : Agrees (paused s m).state (paused s m).memory (ledger-bus.paused l)
  unfolding paused ledger-bus.paused
  gap_agrees =
      settle_agrees
      (reading_changed a start false []
      (record { ignoring = ap is_ignored start_fresh; empty = λ _. refl; reading = λ _. refl; stored = λ _. gathered_none (read_by s start) m }))

  pub gap_matches : Matches (step s m gap) (ledger-calls.step l gap)
  gap_matches = record { answers = refl; agrees = gap_agrees }

  tick_agrees : Agrees (elapsed s m).state (elapsed s m).memory (ledger-bus.elapsed l)
  unfolding elapsed ledger-bus.elapsed
  tick_agrees =
      both (λ (x : Stepped) y. Agrees x.state x.memory y) s.control.noted l.control.noted
      (settle (with_reply (read_by s (silenced_reader (begun s) s.incoming.reader)) no_reply) m) (carried s m (ticked (busy s) s.control) 0)
      (ledger-outcome.settle (with_line l (ledger-bus.silenced l))) (ledger-outcome.carried l (ticked (ledger.busy l) l.control) [])
      (ap (λ (c : Control). c.noted) a.control)
      (λ _. settle_agrees (reply_dropped (reading_changed a (silenced_reader (begun s) s.incoming.reader) (l.line.ignored || ledger.begun l) [] (silenced a))))
      (λ _. quiet_agrees a (ticked_quiet s.setup s.control (busy s) (idle_spared s)) (ticked (ledger.busy l) l.control)
      (λ i. ticked (busy_agrees a i) (a.control i)))

  pub tick_matches : Matches (step s m tick) (ledger-calls.step l tick)
  tick_matches = record { answers = refl; agrees = tick_agrees }
