-- Demand 1 (specs/Demand1.antt): refusal 5 is the damage check's alone, a refusal leaves the memory, and what Events and Pending
-- answer.
use Rattle.std.specs.Prelude.{Ok, Err, Result}
use Prim.Native.Nat.{ℕ}
use native.Mathlib.Omega.{arith}
use mathlib.Core.Path.{◌≡◌, refl, sym, ap, subst, ◌∙◌}
use mathlib.Core.Logic.{◌↔◌}
use mathlib.Core.Bool.{Bool, true, false, not, ◌&&◌}
use mathlib.Core.List.{List}
use lib.Dec.{ltb}
use lib.ListN.{length}
use Rattle.telegram.specs.Telegram.{Octets}
use Rattle.telegram.proofs.OctetLists.{octet_at_lem}
use Rattle.buffers.specs.Events.{pending_of, SmallestSet}
use Rattle.buffers.proofs.Pending.{pending_exactly}
use Rattle.state.specs.declared.answer.Refusal.{Refusal}
use Rattle.state.specs.declared.answer.Refusal.TheVariants.{MemoryLength, Address, Length, Room, Damaged, Judging, Range, Absent, Delayed, Cell}
use Rattle.state.specs.declared.setup.Setup.{Setup}
use Rattle.state.specs.declared.state.State.{State}
use Rattle.state.specs.Answer.{Answer, Called}
use Rattle.channels.specs.Setting.{lengths_given}
use Rattle.channels.specs.Setting as channel
use Rattle.channels.proofs.Exact.{lengths_hold}
use Rattle.state.proofs.LaidOut.{laid_holds, laid_channels, laid_slice, laid_zero, laid_behind}
use Rattle.state.specs.Layout.{last_end}
use Rattle.state.specs.Memory.{Holds, kept}
use Rattle.state.specs.Unpack.{unpacked}
use Rattle.state.specs.Start.{lengths_ok, asked}
use Rattle.state.proofs.Choice.{by_test, either}
use Rattle.state.proofs.Codes.{codes_equal}
use Rattle.state.proofs.Damage.{passes_holds, fronted_same}
use Rattle.state.proofs.Round.{image_injective}
use Rattle.rules.specs.Call.{Call, events, pending}
use Rattle.steps.specs.Stepped.{Told}
use Rattle.steps.specs.Step.{step, packed, step_over}
use Rattle.steps.specs.Calls.{length_ok, started_in, started_as, started, well_memory, called}
use Rattle.steps.specs.Demand1.{LengthIn, Undamaged, EventsTold, Demand1, Laid, StartLays}
use Rattle.steps.proofs.Holding.{ByUser, step_cases, whole, step_whole}
use Rattle.steps.proofs.KeepsSound.{step_sound}
use Rattle.steps.proofs.StaysUndamaged.{stays_undamaged, rest_stays}
use Rattle.steps.proofs.Guarded.{well_length, well_passes, holds_well, called_steps, called_damaged, started_begins, begins_started, refused_same}

-- an answer that a step may give
abbrev pub ByStep : Answer → Type 0
ByStep (Ok n) = Unit
ByStep (Err why) = ByUser why

pub by_step : (m : List ℕ) (c : Call) → ByStep (step_over m c).answer
unfolding step_over
by_step m c = step_cases (unpacked m) m (λ (t : Told). ByStep (packed m t).answer) (λ n t x. tt) (λ why u. u) c

-- ---- the damage check

-- no call on a memory that is well answers 5
well_answers : (m : List ℕ) (c : Call) → well_memory m ≡ true → ¬ ((called m c).answer ≡ Err Damaged)
well_answers m c w e = subst ByStep (ap (λ (x : Called). x.answer) (sym (called_steps m c w)) ∙ e) (by_step m c)

exactly : (m : List ℕ) (c : Call) → Octets m → ((called m c).answer ≡ Err Damaged) ↔ ¬ Undamaged m
exactly m c o = (λ e u. well_answers m c (holds_well m u.state u.length_in u.holds) e, refuses)
  where
    refuses : ¬ Undamaged m → (called m c).answer ≡ Err Damaged
    refuses n = go (well_memory m) refl
      where
        go : (t : Bool) → well_memory m ≡ t → (called m c).answer ≡ Err Damaged
        go true e = absurd (n (record { length_in = well_length m e; state = unpacked m; holds = passes_holds m (octet_at_lem m o) (well_passes m e) }))
        go false e = ap (λ (x : Called). x.answer) (called_damaged m c e)

-- ---- Start

-- an answer that Start may give
abbrev ByStart : Answer → Type 0
ByStart (Ok n) = Unit
ByStart (Err MemoryLength) = Unit
ByStart (Err Address) = Unit
ByStart (Err Length) = Unit
ByStart (Err Room) = Unit
ByStart (Err Damaged) = ⊥
ByStart (Err Judging) = ⊥
ByStart (Err Range) = ⊥
ByStart (Err Absent) = ⊥
ByStart (Err Delayed) = ⊥
ByStart (Err Cell) = ⊥

by_start : (m : List ℕ) (s : Setup) (slice lengths : List ℕ) → ByStart (started m s slice lengths).answer
unfolding started asked started_in
by_start m s slice lengths =
    either May (not (length_ok (length m))) tt
    (either May-as (ltb 126 s.address) tt
    (either May-as (not (lengths_ok s && channel.lengths_ok lengths)) tt (either May (ltb (length m) (last_end (lengths_given lengths) s)) tt tt)))
  where
    May : Called → Type 0
    May x = ByStart x.answer

    May-as : Result Setup Refusal → Type 0
    May-as a = ByStart (started_as m slice lengths a).answer

-- what it leaves
start_lays : StartLays
start_lays m s slice lengths long e =
    let b = started_begins m s slice lengths e in
    subst (λ (x : Called). Laid m x.memory s slice lengths) (sym (begins_started m s slice lengths b))
    (record {
      holds = laid_holds m s slice lengths long b.room b.ranged (lengths_hold lengths b.channel_lengths.octets b.channel_lengths.pairs);
      channels_are = laid_channels m s slice lengths long b.room;
      slice_is = laid_slice m s slice lengths long b.room;
      zeros_are = laid_zero m s slice lengths long b.room;
      behind_is = laid_behind m s slice lengths long b.room;
    })

-- ---- a refusal leaves the memory

pub step_same : (m : List ℕ) (c : Call) (why : Refusal) → (step_over m c).answer ≡ Err why → (step_over m c).memory ≡ m
unfolding step_over
step_same m c why =
    step_cases (unpacked m) m (λ (t : Told). (packed m t).answer ≡ Err why → (packed m t).memory ≡ m)
    (λ n t x e. let z : ◌≡◌ {A = ℕ} 0 1 = cc in absurd (omega arith)) (λ other u e. refl) c

called_same : (m : List ℕ) (c : Call) (why : Refusal) → (called m c).answer ≡ Err why → (called m c).memory ≡ m
unfolding called
called_same m c why = by_test (λ (x : Called). x.answer ≡ Err why → x.memory ≡ m) (well_memory m) _ _ (λ _. step_same m c why) (λ _ e. refl)

-- ---- events

module _ (m : List ℕ) (s : State) (n : LengthIn (length m)) (h : Holds m s) where
  -- a call's step is made on the state that the memory holds
  by_state : (c : Call) → called m c ≡ whole (step s m c)
  by_state c = called_steps m c (holds_well m s n h) ∙ step_whole m s c h

  -- and answers what it tells
  answer_by_state : (c : Call) → (called m c).answer ≡ (step s m c).answer
  answer_by_state c = ap (λ (x : Called). x.answer) (by_state c)

  events_told : EventsTold m s
  events_told = record {
    word = answer_by_state events;
    smallest = λ k. (λ e. (exactly k).0 (same_value (sym (answer_by_state pending) ∙ e)), λ p. answer_by_state pending ∙ ap Ok ((exactly k).1 p));
    events_leaves = ap (λ (x : Called). x.memory) (by_state events) ∙ same;
    pending_leaves = ap (λ (x : Called). x.memory) (by_state pending) ∙ same;
  }
    where
      exactly : (k : ℕ) → (pending_of s.control.events ≡ k) ↔ SmallestSet s.control.events.word k
      exactly = pending_exactly.smallest s.control.events

      same : kept s m ≡ m
      same = sym (fronted_same m s h)

      same_value : {j k : ℕ} → ◌≡◌ {A = Answer} (Ok j) (Ok k) → j ≡ k
      same_value e = cc

pub demand_1 : Demand1
demand_1 = record {
  damage_check = record { exactly = exactly; not_by_start = λ m s slice lengths e. subst ByStart e (by_start m s slice lengths) };
  refusals_leave = record { of_call = called_same; of_start = refused_same };
  one_image = image_injective;
  numbers_apart = codes_equal;
  sound_kept = step_sound;
  stays_undamaged = stays_undamaged;
  rest_stays = rest_stays;
  start_lays = start_lays;
  events_told = λ m u. events_told m u.state u.length_in u.holds;
  start_answers = λ m s slice lengths. (started_begins m s slice lengths, λ b. ap (λ (x : Called). x.answer) (begins_started m s slice lengths b));
}
