-- The bus's octet: what it leaves agrees, be it ignored, a beginning, inner, the last, or one that breaks off.
use Prim.Native.Nat.{ℕ}
use mathlib.Core.Path.{◌≡◌, refl, sym, ap, ◌∙◌, subst}
use mathlib.Core.Bool.{Bool, true, false}
use mathlib.Core.List.{List, [], ◌∷◌, ◌++◌}
use Rattle.telegram.specs.declared.reader.Reader.{Reader}
use Rattle.telegram.specs.declared.reader.Status.{Status}
use Rattle.telegram.specs.declared.reader.Status.TheVariants.{Fresh, Inside, Complete, Broken}
use Rattle.telegram.specs.Telegram.{Telegram}
use Rattle.telegram.specs.Reading.{off, start, reader_step, reader_after, run, status, takes_data, gathered, finished}
use Rattle.telegram.proofs.Run.{no_true, inside_broken, inside_complete, broken_complete, off_broken, run_snoc}
use Rattle.telegram.proofs.Framing.{framing}
use Rattle.telegram.proofs.Above.{first_never, first_plain, data_goes_on}
use Rattle.state.specs.declared.state.State.{State}
use Rattle.ledger.proofs.Some.{nothing_in}
use Rattle.ledger.specs.Ledger as ledger
use Rattle.ledger.specs.Ledger.{Ledger, with_line}
use Rattle.ledger.specs.Outcome as ledger-outcome
use Rattle.ledger.specs.Bus as bus
use Rattle.steps.specs.Line.{begun}
use Rattle.steps.specs.Outcome.{settle}
use Rattle.steps.specs.Reading.{is_ignored, read_by, completed, settle_after, beginning, heard_as, heard}
use Rattle.agreement.proofs.Relation.{Gathered, Agrees, After}
use Rattle.agreement.proofs.Steady.{Steady}
use Rattle.state.specs.Sound.{Ranged}
use Rattle.agreement.proofs.SameLine.{begun_agrees, nothing_left}
use Rattle.agreement.proofs.OnePartChanges.{reading_changed, reply_dropped}
use Rattle.state.proofs.Choice.{both}
use Rattle.agreement.proofs.SettleAgrees.{settle_agrees}
use Rattle.agreement.proofs.LineStays.{ignored_agrees}
use Rattle.agreement.proofs.DataStands.{gathered_none, gathered_on}
use Rattle.agreement.proofs.InnerOctetAgrees.{inner_octet}
use Rattle.agreement.proofs.LastOctetAgrees.{completes}

module _ (s : State) (m : List ℕ) (l : Ledger) (b : ℕ) (d : Steady l) (w : Ranged l.setup) (a : Agrees s m l) where
  -- broken off: octets are ignored until the next gap
  breaks_off : After (settle (read_by s off) m) (ledger-outcome.settle (with_line l (bus.broken_off l.line)))
  breaks_off = settle_agrees (reading_changed a off true [] (ignored_agrees (ap is_ignored off_broken) refl refl))

  abbrev r : Reader
  r = s.incoming.reader

  abbrev xs : List ℕ
  xs = l.line.telegram

  module _ (ignoring : l.line.ignored ≡ false) where
    read : r ≡ run xs
    read = a.reading.reading ignoring

    -- nothing was read before a first octet
    first : ledger.begun l ≡ false → reader_step r b ≡ reader_step start b
    first n = ap (λ (x : Reader). reader_step x b) (read ∙ ap run (nothing_in xs n))

    -- a beginning drops an unfinished reply
    begins : ledger.begun l ≡ false → status (reader_step r b) ≡ Inside → After (settle (beginning s (reader_step r b)) m) (ledger-outcome.settle (with_line l (bus.beginning b)))
    begins n e =
        settle_agrees
        (reply_dropped
        (reading_changed a (reader_step r b) false (b ∷ [])
        (record { ignoring = ap is_ignored e; empty = λ z. no_true z; reading = λ _. first n; stored = λ _. rw (first_plain b) (gathered_none (read_by s (reader_step r b)) m) })))

    -- the last octet is no data octet
    no_data : status (reader_step r b) ≡ Complete → takes_data r ≡ false
    no_data e = go (takes_data r) refl
      where
        go : (c : Bool) → takes_data r ≡ c → c ≡ false
        go true h = absurd (inside_complete (sym (data_goes_on r b h) ∙ e))
        go false h = refl

    -- and not the first one
    under_way : status (reader_step r b) ≡ Complete → ledger.begun l ≡ true
    under_way e = go (ledger.begun l) refl
      where
        go : (c : Bool) → ledger.begun l ≡ c → c ≡ true
        go true h = refl
        go false h = absurd (first_never b (ap status (sym (first h)) ∙ e))

    -- it is complete, and the data octets gathered are its data
    ends : status (reader_step r b) ≡ Complete → After (settle_after (completed s m (reader_step r b))) (ledger-outcome.settle (bus.completed l (bus.telegram_on (xs ++ b ∷ []))))
    ends e =
        let ys = xs ++ b ∷ [] in
        let went : reader_step (run xs) b ≡ run ys = sym (run_snoc xs b) in
        let steps : reader_step r b ≡ reader_step (run xs) b = ap (λ (x : Reader). reader_step x b) read in
        let whole = (framing ys).whole.0 (ap status (sym went) ∙ ap status (sym steps) ∙ e) in
        let t = whole.0 in
        let fields = (framing ys).fields t whole.1 whole.2 in
        let is : bus.telegram_on ys ≡ t = (framing ys).told t whole.1 whole.2 in
        let stored = gathered_on s m xs b read (rw read at (no_data e)) (λ z. broken_complete (sym z ∙ ap status (sym steps) ∙ e)) (a.reading.stored ignoring) in
        let moved = subst (λ (x : Reader). Gathered (read_by s x) m (gathered start ys)) (went ∙ fields.0) stored in
        let g = subst (λ (ds : List ℕ). Gathered (read_by s (finished t)) m ds) fields.1 moved in
        let done = settle_agrees (completes a d w t g (nothing_left a.reply (d.quiet (under_way e)))) in
        subst (λ (x : Reader). After (settle_after (completed s m x)) (ledger-outcome.settle (bus.completed l (bus.telegram_on ys)))) (sym (steps ∙ went ∙ fields.0))
        (subst (λ (x : Telegram). After (settle_after (completed s m (finished t))) (ledger-outcome.settle (bus.completed l x))) (sym is) done)

    -- by what the octets are with this one
    hears : (bad : Bool) (x : Status) → status (reader_after r b bad) ≡ x → After (heard_as x s m (reader_after r b bad) b) (bus.heard_as x l b)
    hears bad Fresh e = a
    hears true Inside e = absurd (inside_broken (sym e ∙ off_broken))
    hears false Inside e =
        both After (begun s) (ledger.begun l) _ _ _ _ (begun_agrees a)
        (λ c. inner_octet s m l b d a ignoring (sym (begun_agrees a) ∙ c) e)
        (λ c. begins (sym (begun_agrees a) ∙ c) e)
    hears true Complete e = absurd (broken_complete (sym off_broken ∙ e))
    hears false Complete e = ends e
    hears bad Broken e = breaks_off

  pub heard_agrees : (bad : Bool) → After (heard s m b bad) (bus.heard l b bad)
  unfolding heard bus.heard
  heard_agrees bad = both After (is_ignored (status r)) l.line.ignored _ _ _ _ a.reading.ignoring (λ _. a) (λ e. goes (sym a.reading.ignoring ∙ e))
    where
      goes : l.line.ignored ≡ false
          → After (heard_as (status (reader_after r b bad)) s m (reader_after r b bad) b) (bus.heard_as (status (reader_after (run xs) b bad)) l b)
      goes n =
          let q = reader_after r b bad in
          subst (λ (x : Status). After (heard_as (status q) s m q b) (bus.heard_as x l b)) (ap (λ (x : Reader). status (reader_after x b bad)) (read n)) (hears n bad (status q) refl)
