-- Demand 1 with accesses (specs/Demand1.antt).
use Rattle.std.specs.Prelude.{Ok, Err}
use Prim.Native.Nat.{ℕ, ◌+◌, ◌*◌, ◌/◌, ◌%◌, ◌^◌, ◌<◌, ◌≤◌}
use native.Mathlib.Omega.{arith}
use mathlib.Core.Path.{◌≡◌, refl, sym, ap, subst, ◌∙◌}
use mathlib.Core.Logic.{◌⊎◌, inl, inr}
use mathlib.Core.Bool.{Bool, true, false}
use mathlib.Core.List.{List}
use lib.Dec.{ltb}
use borrow.Author.Tests.{ltb-true, ltb-false}
use Rattle.telegram.specs.Telegram.{Octets}
use Rattle.telegram.proofs.OctetLists.{octet_at_lem}
use Rattle.state.specs.declared.answer.Refusal.{Refusal}
use Rattle.state.specs.declared.answer.Refusal.TheVariants.{Damaged, Judging, Delayed, Cell}
use Rattle.state.specs.declared.control.Control.{Control}
use Rattle.state.specs.Answer.{Answer, Called}
use Rattle.state.specs.Memory.{Holds}
use Rattle.state.specs.Unpack.{unpacked}
use Rattle.state.proofs.Choice.{by_test}
use Rattle.state.proofs.Damage.{holds_unpacked}
use Rattle.buffers.specs.Events.{width}
use Rattle.rules.specs.Call.{Call}
use Rattle.ledger.specs.Ledger.{Ledger}
use Rattle.steps.specs.Step.{step_over}
use Rattle.steps.specs.Calls.{well_memory, called}
use Rattle.steps.specs.Demand1.{Undamaged}
use Rattle.steps.proofs.Guarded.{holds_well, well_length, well_holds, called_steps}
use Rattle.steps.proofs.StaysUndamaged.{stays_undamaged}
use Rattle.steps.proofs.Demand1.{ByStep, by_step, step_same}
use Rattle.window.specs.declared.order.Order.{Order}
use Rattle.window.specs.declared.order.Order.TheVariants.{Intel, Motorola}
use Rattle.window.specs.Order.{exchanged, cell_at}
use Rattle.window.specs.Entries.{Entry, call, window_read, window_write}
use Rattle.window.specs.Table.{Cut, whole, bits, cut_to, Behind, calls, nothing, no_cell, table, behind}
use Rattle.window.specs.Calls.{made, entered_by, entered}
use Rattle.window.specs.Demand1.{Above, ReadAnswer, AccessAnswer, in_intel, EventsWhole, Demand1}
use Rattle.window.proofs.Orders.{exchanges, cell_within}
use Rattle.window.proofs.Found.{reads_none, writes_none}
use Rattle.window.proofs.Present.{present_stays}
use Rattle.window.proofs.Entered.{entered_damaged, entered_makes}
use Rattle.window.proofs.Answers.{read_answers, write_answers}

-- ---- a refusal

-- a cut does not make one
cut_refused : (cut : Cut) (a : Answer) (why : Refusal) → cut_to cut a ≡ Err why → a ≡ Err why
cut_refused whole a why e = e
cut_refused (bits from) (Ok n) why e = absurd (let z : ◌≡◌ {A = ℕ} 0 1 = cc in omega arith)
cut_refused (bits from) (Err other) why e = e

-- what is behind an entry leaves the memory where it is refused
made_same : (m : List ℕ) (b : Behind) (why : Refusal) → (made m b).answer ≡ Err why → (made m b).memory ≡ m
made_same m (calls c cut) why e = step_same m c why (cut_refused cut (step_over m c).answer why e)
made_same m nothing why e = refl
made_same m no_cell why e = refl

refusals_leave : (m : List ℕ) (e : Entry) (why : Refusal) → (entered m e).answer ≡ Err why → (entered m e).memory ≡ m
unfolding entered_by
refusals_leave m e why =
    by_test (λ (x : Called). x.answer ≡ Err why → x.memory ≡ m) (well_memory m) _ _ (λ _. made_same m (behind (unpacked m).control e) why) (λ _ f. refl)

-- it is never refused by 5
not_damaged : (m : List ℕ) (b : Behind) → ¬ ((made m b).answer ≡ Err Damaged)
not_damaged m (calls c cut) e = subst ByStep (cut_refused cut (step_over m c).answer Damaged e) (by_step m c)
not_damaged m nothing e = let z : ◌≡◌ {A = ℕ} 0 1 = cc in omega arith
not_damaged m no_cell e = let z : ◌≡◌ {A = ℕ} 0 1 = cc in omega arith

-- a value is no refusal
abbrev IsValue : Answer → Type 0
IsValue (Ok n) = Unit
IsValue (Err why) = ⊥

-- and on a damaged memory an entry always is
refuses : (m : List ℕ) (e : Entry) → Octets m → ¬ Undamaged m → (entered m e).answer ≡ Err Damaged
refuses m e o n = go (well_memory m) refl
  where
    go : (t : Bool) → well_memory m ≡ t → (entered m e).answer ≡ Err Damaged
    go true w = absurd (n (record { length_in = well_length m w; state = unpacked m; holds = well_holds m (λ i. record { fits = octet_at_lem m o i }) w }))
    go false w = ap (λ (x : Called). x.answer) (entered_damaged m (behind (unpacked m).control e) w)

calls_stay : (m : List ℕ) (c : Call) → entered m (call c) ≡ called m c
unfolding entered_by behind called
calls_stay m c = refl

-- 10 is neither 6 nor 9
refused_else : (Cell ≡ Judging) ⊎ (Cell ≡ Delayed) → ⊥
refused_else (inl e) = let z : ◌≡◌ {A = ℕ} 0 1 = cc in omega arith
refused_else (inr e) = let z : ◌≡◌ {A = ℕ} 0 1 = cc in omega arith

-- an address is above 015H or not
above_or_not : (n : ℕ) → (0x15 < n) ⊎ (n ≤ 0x15)
above_or_not n = go (ltb 0x15 n) refl
  where
    go : (t : Bool) → ltb 0x15 n ≡ t → (0x15 < n) ⊎ (n ≤ 0x15)
    go true e = inl (ltb-true 0x15 n e)
    go false e = inr (ltb-false 0x15 n e)

not_above : (n : ℕ) → ¬ (0x15 < n) → n ≤ 0x15
not_above n h = elim (above_or_not n) [ inl t ↦ absurd (h t) | inr t ↦ t ]

by_above : (n : ℕ) → (n ≤ 0x15 → 0x15 < n) → 0x15 < n
by_above n h = elim (above_or_not n) [ inl t ↦ t | inr t ↦ h t ]

-- ---- a memory that is not damaged

module _ (m : List ℕ) (u : Undamaged m) where
  well : well_memory m ≡ true
  well = holds_well m u.state u.length_in u.holds

  holds : Holds m (unpacked m)
  holds = subst (Holds m) (sym (holds_unpacked m u.state u.holds)) u.holds

  made_undamaged : (b : Behind) → Undamaged (made m b).memory
  made_undamaged (calls c cut) = subst (λ (x : Called). Undamaged x.memory) (called_steps m c well) (stays_undamaged m c u)
  made_undamaged nothing = u
  made_undamaged no_cell = u

  -- an entry makes what is behind it
  makes : (e : Entry) → entered m e ≡ made m (behind (unpacked m).control e)
  makes e = entered_makes m (behind (unpacked m).control e) well

  -- above 015H an access is refused by 10
  so_above : (e : Entry) → Above e → (made m (behind (unpacked m).control e)).answer ≡ Err Cell
  so_above (call c) t = absurd t
  so_above (window_read order address) t = ap (λ (b : Behind). (made m b).answer) (sym (reads_none order address t (unpacked m).control))
  so_above (window_write order address x) t = ap (λ (b : Behind). (made m b).answer) (sym (writes_none order address t (unpacked m).control x))

  -- and up to there it answers as its row does
  answers_so : (e : Entry) → ¬ Above e → AccessAnswer e (made m (behind (unpacked m).control e)).answer
  unfolding behind
  answers_so (call c) n = tt
  answers_so (window_read order address) n =
      read_answers m holds (cell_at order address) (cell_within order address (not_above address n))
  answers_so (window_write order address x) n =
      write_answers m holds x (cell_at order address) (cell_within order address (not_above address n))

  -- so nothing else is refused by 10
  above_so : (e : Entry) → (made m (behind (unpacked m).control e)).answer ≡ Err Cell → Above e
  unfolding behind
  above_so (call c) f = subst ByStep f (by_step m c)
  above_so (window_read order address) f =
      by_above address
      (λ h. absurd (refused_else (subst ReadAnswer f (read_answers m holds (cell_at order address) (cell_within order address h)))))
  above_so (window_write order address x) f =
      by_above address
      (λ h. absurd (subst IsValue (sym (write_answers m holds x (cell_at order address) (cell_within order address h)) ∙ f) tt))

-- ---- the two orders

behind_intel : (k : Control) (e : Entry) → behind k e ≡ behind k (in_intel e)
unfolding behind
behind_intel k (call c) = refl
behind_intel k (window_read order address) = refl
behind_intel k (window_write order address x) = refl

-- ---- the events

halves : (w : ℕ) → w < 2 ^ 16 → w / 2 ^ 0 % 256 + 256 * (w / 2 ^ 8 % 256) ≡ w
halves w h = omega arith

module _ (l : Ledger) (h : l.control.events.word < 2 ^ width) where
  events_whole : (order : Order) → EventsWhole l order
  unfolding behind table exchanged
  events_whole Intel = record { low = _; high = _; reads_low = refl; reads_high = refl; make_up = halves l.control.events.word h }
  events_whole Motorola = record { low = _; high = _; reads_low = refl; reads_high = refl; make_up = halves l.control.events.word h }

-- ---- all of it

pub demand_1 : Demand1
unfolding entered_by
demand_1 = record {
  calls_stay = calls_stay;
  damage_check = λ m e o. (
    λ f u. not_damaged m (behind (unpacked m).control e) (ap (λ (x : Called). x.answer) (sym (makes m u e)) ∙ f),
    refuses m e o,
  );
  refusals_leave = refusals_leave;
  stays_undamaged = λ m e u. subst (λ (x : Called). Undamaged x.memory) (sym (makes m u e)) (made_undamaged m u (behind (unpacked m).control e));
  above_refused = λ m e u. (
    λ f. above_so m u e (ap (λ (x : Called). x.answer) (sym (makes m u e)) ∙ f),
    λ t. ap (λ (x : Called). x.answer) (makes m u e) ∙ so_above m u e t,
  );
  access_answers = λ m e u n.
      subst (λ (x : Called). AccessAnswer e x.answer) (sym (makes m u e)) (answers_so m u e n);
  orders_alike = λ m e. ap (entered_by m) (behind_intel (unpacked m).control e);
  exchanges = exchanges;
  present_stays = present_stays;
  events_whole = λ l order h. events_whole l h order;
}
