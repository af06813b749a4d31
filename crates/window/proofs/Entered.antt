-- What is behind an entry, over a memory: refused where the memory is damaged.
use Prim.Native.Nat.{ℕ}
use mathlib.Core.Path.{◌≡◌, refl, ap, ◌∙◌}
use mathlib.Core.Bool.{Bool, true, false, cond}
use mathlib.Core.List.{List}
use Rattle.state.specs.declared.answer.Refusal.TheVariants.{Damaged}
use Rattle.state.specs.Answer.{Answer, Called, Meets, refused}
use Rattle.rules.specs.Call.{Call}
use Rattle.steps.specs.Step.{step_over}
use Rattle.steps.specs.Calls.{well_memory, called}
use Rattle.window.specs.Table.{Cut, whole, bits, cut_to, Behind, calls}
use Rattle.window.specs.Calls.{made, entered_by}

module _ (m : List ℕ) (b : Behind) where
  pub entered_damaged : well_memory m ≡ false → entered_by m b ≡ refused m Damaged
  unfolding entered_by
  entered_damaged w = ap (λ (t : Bool). cond t (made m b) (refused m Damaged)) w

  pub entered_makes : well_memory m ≡ true → entered_by m b ≡ made m b
  unfolding entered_by
  entered_makes w = ap (λ (t : Bool). cond t (made m b) (refused m Damaged)) w

-- a call's answer cut, and the memory as the call leaves it
abbrev pub cut_called : Cut → Called → Called
cut_called cut x = record { answer = cut_to cut x.answer; memory = x.memory }

-- a call of the station behind an access is that call, its answer cut
pub entered_call : (m : List ℕ) (c : Call) (cut : Cut) → entered_by m (calls c cut) ≡ cut_called cut (called m c)
unfolding entered_by called
entered_call m c cut = go (well_memory m)
  where
    go : (t : Bool) → cond t (cut_called cut (step_over m c)) (refused m Damaged) ≡ cut_called cut (cond t (step_over m c) (refused m Damaged))
    go true = refl
    go false = damage_stays cut
      where
        damage_stays : (k : Cut) → refused m Damaged ≡ cut_called k (refused m Damaged)
        damage_stays whole = refl
        damage_stays (bits from) = refl

-- so it answers and leaves what the call does
pub cut_meets : (m : List ℕ) (c : Call) (cut : Cut) {a r : Answer} {left : List ℕ} → Meets (called m c) a left → r ≡ cut_to cut a
    → Meets (entered_by m (calls c cut)) r left
cut_meets m c cut h e = rw (entered_call m c cut) (record { answers = e ∙ ap (cut_to cut) h.answers; leaves = h.leaves })
