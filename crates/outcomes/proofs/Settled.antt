-- The line settled over the memory: what waited is carried out on the parts of the state that it changes.
use Prim.Native.Nat.{ℕ}
use native.Mathlib.Omega.{arith}
use mathlib.Core.Path.{◌≡◌, refl, sym, ap, subst, ◌∙◌}
use mathlib.Core.Bool.{Bool, not, ◌&&◌}
use mathlib.Core.List.{List}
use Rattle.state.specs.declared.state.State.{State}
use Rattle.state.specs.Layout.{image_length}
use Rattle.state.specs.Memory.{kept, Channelled, Holds}
use Rattle.state.specs.Sound.{Sound}
use Rattle.state.specs.Unpack.{unpacked}
use Rattle.state.proofs.Choice.{by_test}
use Rattle.state.proofs.Damage.{holds_unpacked, kept_holds}
use Rattle.state.proofs.Front.{kept_drop}
use Rattle.rules.specs.declared.outcome.Outcome.{Outcome}
use Rattle.rules.specs.Diagnosis.{delayed, caught_up}
use Rattle.rules.specs.Line.{clear_noted}
use Rattle.steps.specs.Stepped.{packed_after}
use Rattle.steps.specs.Line.{busy, diagnosis_leaves}
use Rattle.steps.specs.Outcome.{carried, diagnosis_changed, after_reply, settle}
use Rattle.steps.proofs.Behind.{behind, alike_packs, alike_carried, alike_settle}
use Rattle.steps.proofs.Holding.{holds_safe, sound_safe}
use Rattle.steps.proofs.KeepsSafe.{safe_after_reply}
use Rattle.steps.proofs.KeepsSound.{sound_after_reply}

-- ---- a memory with a state in front of another one

-- the sound state t stands in n, and behind it n is m, which has room for its buffers
pub record Fronts (t : State) (m n : List ℕ) : Type 0 where
  pub sound : Sound t
  pub room : Channelled m t.setup
  pub front : n ≡ kept t m

module _ {t : State} {m n : List ℕ} (f : Fronts t m n) where
  -- n holds that state
  holds : Holds n t
  holds = subst (λ (l : List ℕ). Holds l t) (sym f.front) (kept_holds t m f.sound f.room)

  unpacks : unpacked n ≡ t
  unpacks = holds_unpacked n t holds

  pub holds_front : Holds n (unpacked n)
  holds_front = subst (Holds n) (sym unpacks) holds

  -- and is m behind it
  same_behind : behind n ≡ behind m
  same_behind = ap behind f.front ∙ kept_drop t m image_length (omega arith)

  -- so an outcome carried out on n is that on m,
  carried_front : (o : Outcome) → packed_after (carried t n o 0) ≡ packed_after (carried t m o 0)
  carried_front o = alike_packs (alike_carried t n m (holds_safe n t holds) (sound_safe m t f.sound f.room) same_behind o 0)

  -- and so is the line settled
  pub settled_front : {out : List ℕ} → out ≡ packed_after (settle (unpacked n) n) → out ≡ packed_after (settle t m)
  settled_front e =
      e ∙ ap (λ (s : State). packed_after (settle s n)) unpacks
      ∙ alike_packs (alike_settle t n m (holds_safe n t holds) (sound_safe m t f.sound f.room) same_behind)

-- ---- what waits

module _ (s : State) (m : List ℕ) where
  -- a diagnosis that takes effect leaves the line
  same_busy : busy (after_reply s) ≡ busy s
  unfolding after_reply
  same_busy =
      by_test (λ (x : State). busy x ≡ busy s) (delayed s.control && not (diagnosis_leaves s)) (diagnosis_changed s (caught_up s.control)) s
      (λ _. refl) (λ _. refl)

  module _ (h : Holds m s) {n : List ℕ} (caught : n ≡ kept (after_reply s) m) where
    pub caught_fronts : Fronts (after_reply s) m n
    caught_fronts = record { sound = sound_after_reply s h.sound; room = (safe_after_reply s m (holds_safe m s h)).channels; front = caught }

    -- the diagnosis first, then the clear
    pub settles : {out : List ℕ} → out ≡ packed_after (carried (unpacked n) n (clear_noted (busy (unpacked n)) (unpacked n).control) 0)
        → out ≡ packed_after (settle s m)
    unfolding settle
    settles e =
        e
        ∙ ap (λ (t : State). packed_after (carried t n (clear_noted (busy t) t.control) 0)) (unpacks caught_fronts)
        ∙ carried_front caught_fronts (clear_noted (busy (after_reply s)) (after_reply s).control)
        ∙ ap (λ (b : Bool). packed_after (carried (after_reply s) m (clear_noted b (after_reply s).control) 0)) same_busy
