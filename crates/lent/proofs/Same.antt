-- The unpacked run and the exported calls over the same octets, gaps and Ticks leave the same memory.
use Rattle.std.specs.Prelude.{Ok}
use Prim.Native.Nat.{ℕ}
use native.Mathlib.Omega.{arith}
use mathlib.Core.Path.{◌≡◌, refl, sym, ap, subst, ◌∙◌}
use mathlib.Core.Bool.{true}
use mathlib.Core.List.{List, [], ◌∷◌, ◌++◌}
use lib.ListN.{length, replicate}
use Rattle.state.specs.declared.setup.Setup.{Setup}
use Rattle.state.specs.declared.state.State.{State}
use Rattle.state.specs.Answer.{Answer, Called}
use Rattle.state.specs.Image.{image}
use Rattle.state.specs.Layout.{image_length}
use Rattle.state.specs.Memory.{kept, Holds}
use Rattle.state.specs.Sound.{Sound}
use Rattle.steps.specs.Calls.{started, well_memory, called, answers, memory_after}
use Rattle.state.specs.Unpack.{unpacked}
use Rattle.state.proofs.Damage.{holds_unpacked, kept_holds, fronted_same}
use Rattle.state.proofs.Front.{kept_drop, kept_length}
use Rattle.ledger.specs.Ledger.{fresh}
use Rattle.rules.specs.Call as call
use Rattle.rules.specs.Call.{Call}
use Rattle.steps.specs.Safe.{Safe}
use Rattle.steps.specs.Step.{step_over}
use Rattle.agreement.specs.Agreement.{memory_of}
use Rattle.steps.proofs.Behind.{behind, Alike, alike_heard, alike_paused, alike_elapsed}
use Rattle.steps.proofs.KeepsSafe.{safe_heard, safe_paused, safe_elapsed}
use Rattle.steps.proofs.KeepsSetup.{step_keeps}
use Rattle.steps.proofs.KeepsSound.{step_sound}
use Rattle.steps.proofs.Holding.{holds_safe, step_whole}
use Rattle.steps.specs.Demand1.{LengthIn}
use Rattle.steps.proofs.Guarded.{holds_well, called_steps}
use Rattle.agreement.proofs.Agreement.{begins_ready, ready_after, later}
use Rattle.steps.proofs.Runs.{memory_append}
use Rattle.lent.specs.Run.{Beat, octet, gap, tick, beat, run_beats, call_of, calls, Same, LentSame, CarriesOver, Demand3CarriesOver}

-- ---- one octet, gap or Tick

pub safe_beat : (s : State) (m : List ℕ) → Safe s m → (x : Beat) → Safe (beat s m x).state (beat s m x).memory
safe_beat s m h (octet b bad) = safe_heard s m b bad h
safe_beat s m h gap = safe_paused s m h
safe_beat s m h tick = safe_elapsed s m h

-- it reads and writes only behind the image of the state
alike_beat : (s : State) (m n : List ℕ) → Safe s m → Safe s n → behind m ≡ behind n → (x : Beat) → Alike (beat s m x) (beat s n x)
alike_beat s m n h g e (octet b bad) = alike_heard s m n h g e b bad
alike_beat s m n h g e gap = alike_paused s m n h g e
alike_beat s m n h g e tick = alike_elapsed s m n h g e

-- what is needed of a run's state and memory holds after it
pub safe_run : (bs : List Beat) (s : State) (m : List ℕ) → Safe s m → Safe (run_beats s m bs).state (run_beats s m bs).memory
safe_run [] s m h = h
safe_run (b ∷ bs) s m h = safe_run bs (beat s m b).state (beat s m b).memory (safe_beat s m h b)

pub beat_length : (s : State) (m : List ℕ) → Safe s m → (x : Beat) → length (beat s m x).memory ≡ length m
beat_length s m h (octet b bad) = (step_keeps s m h (call.octet b bad)).length_is
beat_length s m h gap = (step_keeps s m h call.gap).length_is
beat_length s m h tick = (step_keeps s m h call.tick).length_is

-- a call over a memory that holds s
calls_beat : (p : List ℕ) (s : State) → LengthIn (length p) → Holds p s → (x : Beat)
    → called p (call_of x) ≡ record { answer = Ok 0; memory = kept (beat s p x).state (beat s p x).memory }
calls_beat p s n h x = called_steps p (call_of x) (holds_well p s n h) ∙ steps x
  where
    steps : (x : Beat) → step_over p (call_of x) ≡ record { answer = Ok 0; memory = kept (beat s p x).state (beat s p x).memory }
    steps (octet b bad) = step_whole p s (call.octet b bad) h
    steps gap = step_whole p s call.gap h
    steps tick = step_whole p s call.tick h

-- the state after it is sound
sound_beat : (s : State) (m : List ℕ) → Sound s → (x : Beat) → Sound (beat s m x).state
sound_beat s m h (octet b bad) = step_sound s m (call.octet b bad) h
sound_beat s m h gap = step_sound s m call.gap h
sound_beat s m h tick = step_sound s m call.tick h

-- and the memory that it leaves holds it
holds_beat : (p : List ℕ) (s : State) → Holds p s → (x : Beat) → Holds (kept (beat s p x).state (beat s p x).memory) (beat s p x).state
holds_beat p s h x =
    let safe = holds_safe p s h in
    kept_holds (beat s p x).state (beat s p x).memory (sound_beat s p h.sound x) (safe_beat s p safe x).channels

-- ---- all of them

-- p holds the state that the run is at, and agrees behind it with the run's memory
record Beside (p : List ℕ) (s : State) (m : List ℕ) : Type 0 where
  length_in : LengthIn (length p)
  holds : Holds p s
  safe : Safe s m
  bodies : behind p ≡ behind m

beside_beat : (p : List ℕ) (s : State) (m : List ℕ) → Beside p s m → (x : Beat)
    → Beside (kept (beat s p x).state (beat s p x).memory) (beat s m x).state (beat s m x).memory
beside_beat p s m b x =
    let safe = holds_safe p s b.holds in
    let a = alike_beat s p m safe b.safe b.bodies x in
    let e = beat_length s p safe x in
    record {
      length_in = rw (kept_length (beat s p x).state (beat s p x).memory (rw e b.holds.long), e) b.length_in;
      holds = subst (Holds (kept (beat s p x).state (beat s p x).memory)) a.states (holds_beat p s b.holds x);
      safe = safe_beat s m b.safe x;
      bodies = kept_drop (beat s p x).state (beat s p x).memory image_length (omega arith) ∙ a.bodies;
    }

-- the run packed where it is
packs : (p : List ℕ) (s : State) (m : List ℕ) → Beside p s m → kept s m ≡ p
packs p s m b = ap (λ (l : List ℕ). image s ++ l) (sym b.bodies) ∙ sym (fronted_same p s b.holds)

record Ends (p : List ℕ) (s : State) (m : List ℕ) (bs : List Beat) : Type 0 where
  image_is : kept (run_beats s m bs).state (run_beats s m bs).memory ≡ memory_after p (calls bs)
  answers_are : answers p (calls bs) ≡ replicate (length bs) (Ok 0)
  well_still : well_memory (kept (run_beats s m bs).state (run_beats s m bs).memory) ≡ true
  holds_still : Holds (kept (run_beats s m bs).state (run_beats s m bs).memory) (run_beats s m bs).state

ends : (bs : List Beat) (p : List ℕ) (s : State) (m : List ℕ) → Beside p s m → Ends p s m bs
ends [] p s m b = record {
  image_is = packs p s m b;
  answers_are = refl;
  well_still = subst (λ (l : List ℕ). well_memory l ≡ true) (sym (packs p s m b)) (holds_well p s b.length_in b.holds);
  holds_still = subst (λ (l : List ℕ). Holds l s) (sym (packs p s m b)) b.holds;
}
ends (x ∷ bs) p s m b =
    let e = calls_beat p s b.length_in b.holds x in
    let r = ends bs (kept (beat s p x).state (beat s p x).memory) (beat s m x).state (beat s m x).memory (beside_beat p s m b x) in
    record {
      image_is = r.image_is ∙ ap (λ (c : Called). memory_after c.memory (calls bs)) (sym e);
      answers_are =
          ap (λ (c : Called). c.answer ∷ answers c.memory (calls bs)) e
          ∙ ap (λ (more : List Answer). Ok 0 ∷ more) r.answers_are;
      well_still = r.well_still;
      holds_still = r.holds_still;
    }

-- for every memory of the right length that holds a state
pub lent_same : LentSame
lent_same m u bs =
    let g : Holds m (unpacked m) = subst (Holds m) (sym (holds_unpacked m u.state u.holds)) u.holds in
    let r = ends bs m (unpacked m) m (record { length_in = u.length_in; holds = g; safe = holds_safe m (unpacked m) g; bodies = refl }) in
    record { image_is = r.image_is; answers_are = r.answers_are; well_still = r.well_still; holds_still = r.holds_still }

-- and with that state named
pub lent_image : (m : List ℕ) (s : State) → LengthIn (length m) → Holds m s → (bs : List Beat) → kept (run_beats s m bs).state (run_beats s m bs).memory ≡ memory_after m (calls bs)
lent_image m s n h bs = (ends bs m s m (record { length_in = n; holds = h; safe = holds_safe m s h; bodies = refl })).image_is

-- ---- from a freshly started station

module _ (m : List ℕ) (s : Setup) (slice lengths : List ℕ) (long : s.get_cfg_len ≡ length slice) (zero : (started m s slice lengths).answer ≡ Ok 0) where
  same : (pre : List Call) (bs : List Beat) → Same (memory_after (memory_of m s slice lengths) pre) bs
  same pre bs =
      let r = ready_after pre (memory_of m s slice lengths) (fresh s slice) (begins_ready m s slice lengths long zero) in
      lent_same (memory_after (memory_of m s slice lengths) pre) (record { length_in = r.length_in; state = r.state; holds = r.on.holds }) bs

  carried_over : CarriesOver m s slice lengths
  carried_over = record {
    same = same;
    agree = λ pre bs cs.
        ap (λ (p : List ℕ). answers p cs) ((same pre bs).image_is ∙ sym (memory_append (memory_of m s slice lengths) pre (calls bs)))
        ∙ later m s slice lengths long zero (pre ++ calls bs) cs;
  }

pub carries_over : Demand3CarriesOver
carries_over = carried_over
