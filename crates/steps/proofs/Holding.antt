-- A step over a memory that holds a state: it may be made, a refusal leaves the memory, and what it leaves is packed again.
use Prim.Native.Nat.{ℕ}
use mathlib.Core.Path.{◌≡◌, refl, ap, ◌∙◌}
use mathlib.Core.Bool.{Bool, cond, not, ◌&&◌}
use mathlib.Core.List.{List}
use lib.Dec.{leb}
use Rattle.state.specs.declared.answer.Refusal.{Refusal}
use Rattle.state.specs.declared.answer.Refusal.TheVariants.{MemoryLength, Address, Length, Room, Damaged, Judging, Range, Absent, Delayed, Cell}
use Rattle.state.specs.declared.state.State.{State}
use Rattle.state.specs.Answer.{Called, refused}
use Rattle.state.specs.Memory.{kept, Channelled, Holds}
use Rattle.state.proofs.Channelled.{channelled_room}
use Rattle.state.specs.Sound.{Sound}
use Rattle.state.proofs.Choice.{either}
use Rattle.state.proofs.Damage.{fronted_same, holds_unpacked}
use Rattle.state.specs.Well.{within}
use Rattle.rules.specs.Diagnosis.{delayed}
use Rattle.rules.specs.Kinds.{in_range, writable}
use Rattle.rules.specs.Call as calls
use Rattle.rules.specs.Call.{Call}
use Rattle.steps.specs.Safe.{Safe}
use Rattle.steps.specs.Outcome.{is_open}
use Rattle.steps.specs.Line.{diagnosis_leaves}
use Rattle.steps.specs.User.{absent, take_outputs, read_octet, write_octet, hand_over, new_diagnosis, judge_parameters, judge_configuration, acknowledge_events, leave_master}
use Rattle.steps.specs.Stepped.{Told, told, refusing}
use Rattle.steps.specs.Step.{step, packed, step_over}

-- ---- a memory that holds a state

-- the steps may be made from a sound state whose buffers end in the memory
pub sound_safe : (m : List ℕ) (s : State) → Sound s → Channelled m s.setup → Safe s m
sound_safe m s h room =
    record {
      outputs = h.outputs;
      inputs = h.inputs;
      parameters = h.parameters;
      configuration = h.configuration;
      reply = h.place;
      long = h.setup.parameter_len.0;
      room = channelled_room room;
      channels = room;
    }

-- so they may be made on a memory that holds one
pub holds_safe : (m : List ℕ) (s : State) → Holds m s → Safe s m
holds_safe m s h = sound_safe m s h.sound h.room

-- ---- a refusal leaves the memory

-- what a step leaves, packed whatever it answers
abbrev pub whole : Told → Called
whole t = record { answer = t.answer; memory = kept t.state t.memory }

record Packs (m : List ℕ) (t : Told) : Type 0 where
  packed_so : packed m t ≡ whole t

-- the refusals of a step: those that the vat program causes by its calls
abbrev pub ByUser : Refusal → Type 0
ByUser MemoryLength = ⊥
ByUser Address = ⊥
ByUser Length = ⊥
ByUser Room = ⊥
ByUser Damaged = ⊥
ByUser Judging = Unit
ByUser Range = Unit
ByUser Absent = Unit
ByUser Delayed = Unit
ByUser Cell = ⊥

-- a step answers a value, or is refused because of the vat program and leaves state and memory as they were
module _ (s : State) (m : List ℕ) (P : Told → Type 0) (tells : (n : ℕ) (t : State) (x : List ℕ) → P (told n t x))
    (refuses : (why : Refusal) → ByUser why → P (refusing why s m)) where
  -- two tests in front of a step
  tested : (b : Bool) (why : Refusal) (c : Bool) (then : Refusal) (t : Told) → ByUser why → ByUser then → P t
      → P (cond b (refusing why s m) (cond c (refusing then s m) t))
  tested b why c then t u v p = either P b (refuses why u) (either P c (refuses then v) p)

  pub step_cases : (c : Call) → P (step s m c)
  unfolding take_outputs read_octet write_octet hand_over new_diagnosis judge_parameters judge_configuration acknowledge_events leave_master
  step_cases (calls.octet b bad) = tells _ _ _
  step_cases calls.gap = tells _ _ _
  step_cases calls.send = tells _ _ _
  step_cases calls.tick = tells _ _ _
  step_cases calls.take = either P (not s.outputs.set.fresh) (tells _ _ _) (tells _ _ _)
  step_cases (calls.read kind index) = tested (not (in_range s.setup kind index)) Range (absent s kind index) Absent _ tt tt (tells _ _ _)
  step_cases (calls.write kind index x) =
      tested (not (writable kind && in_range s.setup kind index)) Range (absent s kind index) Absent _ tt tt (tells _ _ _)
  step_cases calls.hand_over_call = tells _ _ _
  step_cases (calls.new_diagnosis_call count flags) =
      tested (not (within 6 count s.setup.diagnosis_len && leb flags 7)) Range (delayed s.control) Delayed _ tt tt
      (either P (diagnosis_leaves s) (tells _ _ _) (tells _ _ _))
  step_cases (calls.judge_parameters_call j) = tested (not (is_open s.parameters)) Judging (not (leb j 1)) Range _ tt tt (tells _ _ _)
  step_cases (calls.judge_configuration_call j) =
      tested (not (is_open s.configuration && s.control.flags.parameters_good)) Judging (not (leb j 1)) Range _ tt tt (tells _ _ _)
  step_cases calls.events = tells _ _ _
  step_cases (calls.acknowledge mask) = tells _ _ _
  step_cases calls.pending = tells _ _ _
  step_cases calls.leave = tells _ _ _

-- where a step is refused, state and memory are as they were
packs : (s : State) (m : List ℕ) → m ≡ kept s m → (c : Call) → Packs m (step s m c)
packs s m same =
    step_cases s m (Packs m) (λ n t x. record { packed_so = refl })
    (λ why _. record { packed_so = ap (λ (l : List ℕ). refused l why) same })

-- ---- over the memory

module _ (m : List ℕ) (s : State) (c : Call) (h : Holds m s) where
  -- the state is unpacked, its step made and what it leaves packed
  pub step_whole : step_over m c ≡ whole (step s m c)
  unfolding step_over
  step_whole = ap (λ (t : State). packed m (step t m c)) (holds_unpacked m s h) ∙ (packs s m (fronted_same m s h) c).packed_so
