-- Ticks without a telegram: the watchdog counts down and expires at the last of them (specs/Watchdog.antt: Expires).
use Prim.Native.Nat.{ℕ, zero, suc, ◌+◌, ◌-◌, ◌≤◌}
use native.Mathlib.Omega.{arith}
use mathlib.Core.Path.{◌≡◌, refl, sym, ap, subst, ◌∙◌}
use mathlib.Core.Bool.{Bool, true, false, cond, not, ◌&&◌}
use mathlib.Core.List.{[]}
use mathlib.Core.Logic.{◌⊎◌, inl, inr}
use lib.Dec.{leb, eqb}
use lib.ListN.{replicate}
use borrow.Author.Tests.{lt-leb, eq-eqb, ne_eqb}
use Rattle.telegram.proofs.Run.{no_true}
use Rattle.buffers.specs.declared.events.Events.{Events}
use Rattle.buffers.specs.Events.{bit, cleared, data_exchange_event, watchdog_event, configuration_event, parameters_event, outputs_event}
use Rattle.buffers.proofs.Word.{raised_same, raised_other, cleared_other}
use Rattle.state.specs.declared.control.Phase.{Phase}
use Rattle.state.specs.declared.control.Phase.TheVariants.{WaitPrm, WaitCfg, DataExch}
use Rattle.state.specs.declared.control.Control.{Control}
use Rattle.state.specs.declared.state.Drawn.TheVariants.{Nothing}
use Rattle.state.proofs.Choice.{either}
use Rattle.rules.specs.Call.{tick}
use Rattle.rules.specs.Control.{in_wait_prm, in_exchange, with_noted, raise}
use Rattle.rules.specs.Line.{clear_on, counts, with_remaining, ticked}
use Rattle.rules.specs.Phases.{drawing, wait_prm, left_exchange}
use Rattle.ledger.specs.Ledger.{Ledger, with_line, with_control, busy}
use Rattle.ledger.specs.Outcome.{carried, settle}
use Rattle.ledger.specs.Bus.{silenced, elapsed}
use Rattle.ledger.specs.Calls.{step, after}
use Rattle.ledger.specs.EventsFollow.{event_set}
use Rattle.ledger.specs.Watchdog.{Expires}

-- event 3 is set
abbrev Told : Events → Type 0
Told e = bit e.word watchdog_event ≡ true

-- WAIT_PRM leaves it
kept : (c : Control) → Told c.events → Told (wait_prm c).events
unfolding wait_prm
kept c h =
    let e = left_exchange c in
    raised_other (cleared (cleared e configuration_event) parameters_event) outputs_event watchdog_event (λ z. omega arith)
    ∙ cleared_other (cleared e configuration_event) parameters_event watchdog_event (λ z. omega arith)
    ∙ cleared_other e configuration_event watchdog_event (λ z. omega arith)
    ∙ either Told (in_exchange c) (raised_other c.events data_exchange_event watchdog_event (λ z. omega arith) ∙ h) h

-- what the last Tick leaves of a ledger whose line was busy or not
record Ended (b : Bool) (m : Ledger) : Type 0 where
  told : event_set m watchdog_event ≡ true
  cleared : b ≡ false → m.control.phase ≡ WaitPrm
  noted : b ≡ true → m.control.noted ≡ true

-- a clear, noted or carried out
clear_ends : (l : Ledger) (b : Bool) (c : Control) → Told c.events → Ended b (carried l (clear_on b c) [])
unfolding wait_prm
clear_ends l true c h = record { told = h; cleared = λ e. no_true (sym e); noted = λ _. refl }
clear_ends l false c h = record { told = kept (with_noted c false) h; cleared = λ _. refl; noted = λ e. no_true e }

-- with n ticks left
abbrev left : Ledger → ℕ → Ledger
left l n = with_control l (with_remaining l.control n)

module _ (l : Ledger) (none : l.control.noted ≡ false) (on : counts l.control ≡ true) where
  -- one Tick of several
  counted : (n : ℕ) → l.control.watchdog.remaining ≡ suc (suc n) → (step l tick).ledger ≡ left l (suc n)
  unfolding elapsed ticked
  counted n e =
      let c = l.control in
      let more : leb c.watchdog.remaining 1 ≡ false = lt-leb c.watchdog.remaining 1 (omega arith) in
      let one_less : c.watchdog.remaining - 1 ≡ suc n = omega arith in
      let less = drawing (with_remaining c (c.watchdog.remaining - 1)) Nothing in
      let ends = clear_on (busy l) (raise (with_remaining c 0) watchdog_event) in
      ap (λ (t : Bool). cond t (settle (with_line l (silenced l))) (carried l (ticked (busy l) c) [])) none
      ∙ ap (λ (t : Bool). carried l (cond (not t) (drawing c Nothing) (cond (leb c.watchdog.remaining 1) ends less)) []) on
      ∙ ap (λ (t : Bool). carried l (cond t ends less) []) more
      ∙ ap (left l) one_less

  -- the last one
  last : l.control.watchdog.remaining ≡ 1 → Ended (busy l) (step l tick).ledger
  unfolding elapsed ticked
  last e =
      let c = l.control in
      let ended = raise (with_remaining c 0) watchdog_event in
      rw (none, on, e) (clear_ends l (busy l) ended (raised_same c.events watchdog_event (omega arith)))

-- k Ticks of more
down : (k m : ℕ) (l : Ledger) → l.control.noted ≡ false → counts l.control ≡ true → l.control.watchdog.remaining ≡ k + suc m
    → after l (replicate k tick) ≡ left l (suc m)
down zero m l none on e = λ i. left l (let f : l.control.watchdog.remaining ≡ suc m = e ∙ omega arith in f i)
down (suc k) m l none on e =
    let more : l.control.watchdog.remaining ≡ suc (suc (k + m)) = e ∙ omega arith in
    let rest : suc (k + m) ≡ k + suc m = omega arith in
    ap (λ (x : Ledger). after x (replicate k tick)) (counted l none on (k + m) more) ∙ down k m (left l (suc (k + m))) none on rest

-- all of them
gone : (n : ℕ) (l : Ledger) → l.control.noted ≡ false → counts l.control ≡ true → l.control.watchdog.remaining ≡ suc n
    → Ended (busy l) (after l (replicate (suc n) tick))
gone zero l none on e = last l none on e
gone (suc n) l none on e =
    subst (λ (x : Ledger). Ended (busy l) (after x (replicate (suc n) tick))) (sym (counted l none on n e)) (gone n (left l (suc n)) none on refl)

-- the watchdog counts in WAIT_CFG and in DATA_EXCH where it is on
not_waiting : (p : Phase) → (p ≡ WaitPrm → ⊥) → in_wait_prm p ≡ false
not_waiting WaitPrm h = absurd (h refl)
not_waiting WaitCfg h = refl
not_waiting DataExch h = refl

counting : (c : Control) → (c.phase ≡ WaitPrm → ⊥) → (c.watchdog.reload ≡ 0 → ⊥) → counts c ≡ true
counting c p r = λ i. not (not_waiting c.phase p i) && not (ne_eqb c.watchdog.reload 0 r i)

pub expires : (l : Ledger) (n : ℕ) → (l.control.phase ≡ WaitPrm → ⊥) → (l.control.watchdog.reload ≡ 0 → ⊥) → l.control.noted ≡ false
    → l.control.watchdog.remaining ≡ n → 1 ≤ n → Expires l n
expires l zero p r none e h = absurd (omega arith)
expires l (suc n) p r none e h =
    let on = counting l.control p r in
    let end = gone n l none on e in
    record {
      counts_down = λ k lt.
          let m = n - k in
          let parts : l.control.watchdog.remaining ≡ k + suc m = e ∙ omega arith in
          let same : suc m ≡ suc n - k = omega arith in
          down k m l none on parts ∙ ap (left l) same;
      told = end.told;
      cleared = end.cleared;
      noted = end.noted;
    }

-- else a Tick does nothing
idle : (c : Control) → (c.phase ≡ WaitPrm) ⊎ (c.watchdog.reload ≡ 0) → counts c ≡ false
idle c (inl e) = λ i. not (in_wait_prm (e i)) && not (eqb c.watchdog.reload 0)
idle c (inr e) = go (in_wait_prm c.phase) (eq-eqb c.watchdog.reload 0 e)
  where
    go : (w : Bool) → eqb c.watchdog.reload 0 ≡ true → not w && not (eqb c.watchdog.reload 0) ≡ false
    go true f = refl
    go false f = ap not f

pub rests : (l : Ledger) → (l.control.phase ≡ WaitPrm) ⊎ (l.control.watchdog.reload ≡ 0) → l.control.noted ≡ false → (step l tick).ledger ≡ l
unfolding elapsed ticked
rests l h none =
    let c = l.control in
    let goes = cond (leb c.watchdog.remaining 1) (clear_on (busy l) (raise (with_remaining c 0) watchdog_event)) (drawing (with_remaining c (c.watchdog.remaining - 1)) Nothing) in
    ap (λ (t : Bool). cond t (settle (with_line l (silenced l))) (carried l (ticked (busy l) c) [])) none
    ∙ ap (λ (t : Bool). carried l (cond (not t) (drawing c Nothing) goes) []) (idle c h)
