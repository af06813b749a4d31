-- What the conditions on the whole memory say: when a call is refused with 5, and when Start answers 0.
use Rattle.std.specs.Prelude.{Ok, Err, Result}
use Prim.Native.Nat.{ℕ, ◌%◌, ◌≤◌}
use native.Mathlib.Omega.{arith}
use mathlib.Core.Path.{◌≡◌, refl, ap, subst, ◌∙◌}
use mathlib.Core.Bool.{Bool, true, false, cond, not, ◌&&◌}
use mathlib.Core.List.{List, [], ◌∷◌}
use mir.Syntax.{w8}
use mir.Val.{Fits}
use lib.Dec.{eqb, ltb}
use lib.ListN.{length, get_or}
use borrow.Author.Tests.{eqb-true, eq-eqb, ltb-false, le-ltb}
use Rattle.state.specs.declared.answer.Refusal.{Refusal}
use Rattle.state.specs.declared.answer.Refusal.TheVariants.{MemoryLength, Room, Damaged}
use Rattle.state.specs.declared.setup.Setup.{Setup}
use Rattle.state.specs.declared.state.State.{State}
use Rattle.state.specs.Answer.{Called, refused}
use Rattle.channels.specs.Setting.{lengths_given}
use Rattle.channels.proofs.Exact.{lengths_say, lengths_hold}
use Rattle.state.specs.Layout.{last_end}
use Rattle.state.specs.Memory.{holds_state, Holds}
use Rattle.state.specs.Start.{asked, laid_out}
use Rattle.state.specs.Unpack.{unpacked}
use Rattle.state.specs.Well.{within}
use Rattle.state.proofs.Asking.{accepts, ranged_asked}
use Rattle.state.proofs.Damage.{holds_passes, passes_holds}
use Rattle.state.proofs.Tests.{all_at, within_true, within_holds}
use Rattle.rules.specs.Call.{Call}
use Rattle.steps.specs.Step.{step_over}
use Rattle.steps.specs.Demand1.{LengthIn, Begins}
use Rattle.steps.specs.Calls.{length_ok, started_in, started_as, started, well_memory, called}

-- ---- the length

pub length_says : (n : ℕ) → length_ok n ≡ true → LengthIn n
unfolding length_ok
length_says n e =
    let tests = within 1536 n 16384 ∷ eqb (n % 8) 0 ∷ [] in
    record { within = within_true 1536 n 16384 (all_at tests 0 e); by_8 = eqb-true (n % 8) 0 (all_at tests 1 e) }

pub length_holds : (n : ℕ) → LengthIn n → length_ok n ≡ true
unfolding length_ok
length_holds n h = λ i. within_holds 1536 n 16384 h.within i && eq-eqb (n % 8) 0 h.by_8 i

-- ---- a call

-- a memory of that length that holds a state is well
pub holds_well : (m : List ℕ) (s : State) → LengthIn (length m) → Holds m s → well_memory m ≡ true
unfolding well_memory
holds_well m s n h = λ i. length_holds (length m) n i && holds_passes m s h i

-- a memory that is well has that length
pub well_length : (m : List ℕ) → well_memory m ≡ true → LengthIn (length m)
unfolding well_memory
well_length m e = length_says (length m) (all_at (length_ok (length m) ∷ holds_state m ∷ []) 0 e)

-- and passes the test of a state
pub well_passes : (m : List ℕ) → well_memory m ≡ true → holds_state m ≡ true
unfolding well_memory
well_passes m e = all_at (length_ok (length m) ∷ holds_state m ∷ []) 1 e

-- and, being of octets, holds the state that it unpacks to
pub well_holds : (m : List ℕ) → ((i : ℕ) → Fits w8 (get_or m i 0)) → well_memory m ≡ true → Holds m (unpacked m)
well_holds m octets e = passes_holds m (λ i. (octets i).fits) (well_passes m e)

-- a call on it makes its step
pub called_steps : (m : List ℕ) (c : Call) → well_memory m ≡ true → called m c ≡ step_over m c
unfolding called
called_steps m c e = ap (λ (t : Bool). cond t (step_over m c) (refused m Damaged)) e

-- and on any other is refused
pub called_damaged : (m : List ℕ) (c : Call) → well_memory m ≡ false → called m c ≡ refused m Damaged
unfolding called
called_damaged m c e = ap (λ (t : Bool). cond t (step_over m c) (refused m Damaged)) e

-- ---- Start

-- what it answers and leaves then
abbrev pub answered_zero : List ℕ → Setup → List ℕ → List ℕ → Called
answered_zero m s slice lengths = record { answer = Ok 0; memory = laid_out m s slice lengths }

-- an answer 0 says that there is room
laid_room : (m : List ℕ) (s : Setup) (slice lengths : List ℕ) → (started_in m s slice lengths).answer ≡ Ok 0 → last_end (lengths_given lengths) s ≤ length m
unfolding started_in
laid_room m s slice lengths h = go (ltb (length m) (last_end (lengths_given lengths) s)) refl h
  where
    go : (t : Bool) → ltb (length m) (last_end (lengths_given lengths) s) ≡ t → (cond t (refused m Room) (answered_zero m s slice lengths)).answer ≡ Ok 0 → last_end (lengths_given lengths) s ≤ length m
    go true e f = absurd (let z : ◌≡◌ {A = ℕ} 0 1 = cc in omega arith)
    go false e f = ltb-false (length m) (last_end (lengths_given lengths) s) e

-- a refusal leaves the memory
laid_same : (m : List ℕ) (s : Setup) (slice lengths : List ℕ) (why : Refusal) → (started_in m s slice lengths).answer ≡ Err why → (started_in m s slice lengths).memory ≡ m
unfolding started_in
laid_same m s slice lengths why h = go (ltb (length m) (last_end (lengths_given lengths) s)) h
  where
    go : (t : Bool) → (cond t (refused m Room) (answered_zero m s slice lengths)).answer ≡ Err why → (cond t (refused m Room) (answered_zero m s slice lengths)).memory ≡ m
    go true f = refl
    go false f = absurd (let z : ◌≡◌ {A = ℕ} 0 1 = cc in omega arith)

module _ (m : List ℕ) (s : Setup) (slice lengths : List ℕ) where
  -- 1
  pub started_short : length_ok (length m) ≡ false → started m s slice lengths ≡ refused m MemoryLength
  unfolding started
  started_short e = simp e

  -- 2 and 3
  pub started_declined : (why : Refusal) → length_ok (length m) ≡ true → asked s lengths ≡ Err why → started m s slice lengths ≡ refused m why
  unfolding started
  started_declined why e f = simp (e, f)

  -- the rest
  pub started_accepted : (t : Setup) → length_ok (length m) ≡ true → asked s lengths ≡ Ok t → started m s slice lengths ≡ started_in m t slice lengths
  unfolding started
  started_accepted t e f = simp (e, f)

  -- an answer 0 says that the rules are kept
  pub started_begins : (started m s slice lengths).answer ≡ Ok 0 → Begins m s lengths
  unfolding started
  started_begins h = go (length_ok (length m)) refl (asked s lengths) refl h
    where
      go : (p : Bool) → length_ok (length m) ≡ p → (a : Result Setup Refusal) → asked s lengths ≡ a
          → (cond (not p) (refused m MemoryLength) (started_as m slice lengths a)).answer ≡ Ok 0 → Begins m s lengths
      go false e a f g = absurd (let z : ◌≡◌ {A = ℕ} 0 1 = cc in omega arith)
      go true e (Err why) f g = absurd (let z : ◌≡◌ {A = ℕ} 0 1 = cc in omega arith)
      go true e (Ok t) f g =
          let a = accepts s t lengths f in
          let ok = lengths_say lengths a.channels in
          record {
            length_in = length_says (length m) e;
            ranged = a.ranged;
            channel_lengths = record { octets = ok.0; pairs = ok.1 };
            room = subst (λ (u : Setup). last_end (lengths_given lengths) u ≤ length m) a.same (laid_room m t slice lengths g);
          }

  -- and where they are kept it answers 0
  pub begins_started : Begins m s lengths → started m s slice lengths ≡ answered_zero m s slice lengths
  unfolding started_in
  begins_started b =
      started_accepted s (length_holds (length m) b.length_in) (ranged_asked s lengths b.ranged (lengths_hold lengths b.channel_lengths.octets b.channel_lengths.pairs))
      ∙ ap (λ (t : Bool). cond t (refused m Room) (answered_zero m s slice lengths)) (le-ltb (length m) (last_end (lengths_given lengths) s) b.room)

  -- a refusal leaves the memory as it was
  pub refused_same : (why : Refusal) → (started m s slice lengths).answer ≡ Err why → (started m s slice lengths).memory ≡ m
  unfolding started
  refused_same why h = go (length_ok (length m)) (asked s lengths) h
    where
      go : (p : Bool) (a : Result Setup Refusal) → (cond (not p) (refused m MemoryLength) (started_as m slice lengths a)).answer ≡ Err why
          → (cond (not p) (refused m MemoryLength) (started_as m slice lengths a)).memory ≡ m
      go false a f = refl
      go true (Err other) f = refl
      go true (Ok t) f = laid_same m t slice lengths why f
