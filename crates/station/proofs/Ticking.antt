-- A Tick case by case, with the control part as the code read it.
use Rattle.std.proofs.Common.{◌≡◌, ℕ, ◌-◌, ◌<◌, Bool, true, false, cond, not, List, sym, ap, ◌∙◌}
use borrow.Author.Tests.{lt-leb}
use Rattle.telegram.specs.declared.reader.Reader.{Reader}
use Rattle.telegram.specs.declared.reader.Status.{Status}
use Rattle.telegram.specs.Counts.{ReadCounts}
use Rattle.telegram.specs.Reading.{status}
use Rattle.telegram.proofs.Counts.{off_counts}
use Rattle.state.specs.declared.control.Control.{Control}
use Rattle.state.specs.declared.state.Incoming.{Incoming}
use Rattle.state.specs.declared.state.State.{State}
use Rattle.state.specs.Memory.{kept, Holds, Changes}
use Rattle.state.specs.Start.{no_reply}
use Rattle.state.specs.With.{with_incoming, with_reply, with_ticks}
use Rattle.state.proofs.Choice.{either}
use Rattle.state.proofs.Damage.{fronted_same}
use Rattle.outcomes.proofs.Settled.{Fronts}
use Rattle.rules.specs.declared.outcome.Outcome.{Outcome}
use Rattle.rules.specs.Line.{counts, ticked}
use Rattle.rules.specs.Retries.{on_chain}
use Rattle.rules.proofs.Served.{ticked_quiet, chain_stays}
use Rattle.steps.specs.Stepped.{Stepped, unchanged}
use Rattle.steps.specs.Line.{is_inside, begun, busy}
use Rattle.steps.specs.Outcome.{carried, settle}
use Rattle.steps.specs.Reading.{read_on, read_by, beginning}
use Rattle.steps.specs.Bus.{silenced_reader, elapsed}
use Rattle.steps.proofs.SoundWith.{sound_beginning}

module _ (s : State) (m : List ℕ) (x : Control) (same : x ≡ s.control) where
  -- telegram and reply are dropped
  abbrev dropping : Stepped
  dropping = settle (with_reply (read_by s (silenced_reader (begun s) s.incoming.reader)) no_reply) m

  -- by the test of the code
  by_noted : (t : Bool) → x.noted ≡ t → elapsed s m ≡ cond t dropping (carried s m (ticked (busy s) s.control) 0)
  unfolding elapsed
  by_noted t e = ap (λ (u : Bool). cond u dropping (carried s m (ticked (busy s) s.control) 0)) ((λ i. (sym same i).noted) ∙ e)

  -- a clear is noted
  pub tick_drops : x.noted ≡ true → elapsed s m ≡ dropping
  tick_drops e = by_noted true e

  module _ (none : x.noted ≡ false) where
    -- none is noted: the outcome of the rules, which leaves the chain,
    pub tick_carries_over : (b : Bool) (o : Outcome) → b ≡ busy s → o ≡ ticked b x → elapsed s m ≡ carried s m (on_chain o s.control.chain) 0
    tick_carries_over b o e f =
        let is : o ≡ ticked (busy s) s.control = f ∙ (λ i. ticked (e i) (same i)) in
        let stays = chain_stays (ticked_quiet s.setup s.control {Clear = Unit} (busy s) (λ _. tt)) in
        by_noted false none ∙ ap (λ (p : Outcome). carried s m p 0) (sym ((λ i. on_chain (is i) s.control.chain) ∙ stays))

    module _ (b : Bool) (tested : b ≡ counts x) where
      -- by the test of the code
      counting : (t : Bool) → not b ≡ t → not (counts s.control) ≡ t
      counting t e = ap not (sym (tested ∙ ap counts same)) ∙ e

      -- which leaves all as it is where the watchdog does not count,
      pub tick_rests : not b ≡ true → elapsed s m ≡ unchanged s m
      unfolding carried ticked
      tick_rests e = by_noted false none ∙ rw (counting true e)

      -- and but for the ticks that remain where it counts and does not end
      pub tick_counts : not b ≡ false → 1 < x.watchdog.remaining → elapsed s m ≡ unchanged (with_ticks s (x.watchdog.remaining - 1)) m
      unfolding carried ticked
      tick_counts e h =
          let ticks : s.control.watchdog.remaining ≡ x.watchdog.remaining = λ i. (sym same i).watchdog.remaining in
          by_noted false none ∙ rw (counting false e, ticks, lt-leb _ _ h)

-- ---- telegram and reply dropped over the memory

-- r: the reader that the Tick leaves, n: the memory before the line is settled
pub silenced_fronts : (m : List ℕ) (s : State) → Holds m s → {old i : Incoming} {x : Status} {inside : Bool} {r : Reader} {n : List ℕ} → old ≡ s.incoming
    → x ≡ status old.reader → inside ≡ is_inside x → r ≡ silenced_reader inside old.reader → i ≡ read_on old r
    → Changes m n (λ u. with_reply (with_incoming u i) no_reply) → Fronts (beginning s (silenced_reader (begun s) s.incoming.reader)) m n
silenced_fronts m s h same told tested drops read k =
    let inside_is = tested ∙ ap is_inside told ∙ (λ u. is_inside (status (same u).reader)) in
    let silent = drops ∙ (λ t. silenced_reader (inside_is t) (same t).reader) in
    record {
      sound = sound_beginning s _ h.sound (either ReadCounts (begun s) off_counts h.sound.reading);
      room = h.room;
      front = k s (fronted_same m s h) ∙ (λ t. kept (with_reply (with_incoming s ((read ∙ (λ u. read_on (same u) (silent u))) t)) no_reply) m);
    }
