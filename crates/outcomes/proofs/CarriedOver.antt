-- An outcome carried out over the memory, part by part: the memory then holds the state after it.
use Prim.Native.Nat.{ℕ}
use native.Mathlib.Omega.{arith}
use mathlib.Core.Path.{◌≡◌, refl, sym, ap, subst, ◌∙◌}
use mathlib.Core.List.{List, ◌++◌}
use lib.ListN.{take, take-append-drop}
use Rattle.buffers.specs.Roles.{next_of}
use Rattle.buffers.specs.Roles as role
use Rattle.octets.proofs.Parts.{pasted_take}
use Rattle.state.specs.declared.control.Control.{Control}
use Rattle.state.specs.declared.state.State.{State}
use Rattle.state.specs.Image.{image}
use Rattle.state.specs.Layout.{image_length, output_row}
use Rattle.state.specs.Memory.{kept, Channelled, Holds, Changes}
use Rattle.state.proofs.Channelled.{kept_channelled}
use Rattle.state.specs.Unpack.{unpacked}
use Rattle.state.specs.With.{with_control, with_control_but_chain, with_outputs, with_inputs, with_parameters, with_configuration}
use Rattle.state.proofs.Damage.{fronted_same}
use Rattle.state.proofs.Front.{kept_take, kept_drop}
use Rattle.state.proofs.PartsRead.{outputs_read, inputs_read, parameters_read, configuration_read, all_but_control}
use Rattle.state.proofs.Places.{inside}
use Rattle.state.proofs.Written.{again, onto}
use Rattle.rules.specs.declared.outcome.OutputsDeed.{OutputsDeed}
use Rattle.rules.specs.declared.outcome.OutputsDeed.TheVariants as outputs-deed
use Rattle.rules.specs.declared.outcome.Outcome.{Outcome}
use Rattle.rules.specs.Retries.{on_chain}
use Rattle.steps.specs.Safe.{Safe}
use Rattle.steps.specs.Stepped.{packed_after}
use Rattle.steps.specs.Outcome.{on_outputs, on_inputs, on_sets, on_memory, carried}
use Rattle.steps.proofs.Behind.{behind, safe_long, alike_carried}
use Rattle.steps.proofs.Holding.{holds_safe, sound_safe}
use Rattle.outcomes.proofs.NextRoom.{next_room}

-- zeros in a buffer leave the state part
buffers_front : (d : OutputsDeed) (s : State) (m : List ℕ) → Safe s m → take image_length (on_memory d s m) ≡ take image_length m
buffers_front outputs-deed.Keep s m safe = refl
buffers_front outputs-deed.Publish s m safe = refl
buffers_front outputs-deed.HoldBack s m safe = refl
buffers_front outputs-deed.Release s m safe = refl
buffers_front outputs-deed.Zeros s m safe =
    let k = next_of s.outputs.set.place in
    let long = safe_long s m safe in
    let room = next_room s m safe in
    pasted_take m _ _ image_length (inside s.setup output_row k 0 (safe.outputs.within role.next (omega arith)) (omega arith)).0 (omega arith)

-- and which buffer it is does not depend on the control part
buffers_apart : (d : OutputsDeed) (s : State) (c : Control) (m : List ℕ) → on_memory d (with_control s c) m ≡ on_memory d s m
buffers_apart outputs-deed.Keep s c m = refl
buffers_apart outputs-deed.Publish s c m = refl
buffers_apart outputs-deed.HoldBack s c m = refl
buffers_apart outputs-deed.Release s c m = refl
buffers_apart outputs-deed.Zeros s c m = refl

module _ (m : List ℕ) (s : State) (o : Outcome) (count : ℕ) (h : Holds m s) (n₀ : List ℕ) (p₀ : Changes m n₀ (λ t. with_control_but_chain t o.control)) where
  -- the control part first
  abbrev s₀ : State
  s₀ = with_control_but_chain s o.control

  e₀ : n₀ ≡ kept s₀ m
  e₀ = p₀ s (fronted_same m s h)

  -- the rest of the state stands there as it did
  rest : unpacked n₀ ≡ with_control s (unpacked n₀).control
  rest = all_but_control s s₀.control m n₀ h.sound e₀

  -- and so do the buffers,
  same_body : behind n₀ ≡ behind m
  same_body = ap behind e₀ ∙ kept_drop s₀ m image_length (omega arith)

  -- in their room
  still_safe : Safe s n₀
  still_safe = sound_safe n₀ s h.sound (subst (λ (l : List ℕ). Channelled l s.setup) (sym e₀) (kept_channelled s₀ m s.setup h.room))

  -- so the buffers may come next
  pub safe_then : Safe (unpacked n₀) n₀
  safe_then =
      let safe = still_safe in
      subst (λ (t : State). Safe t n₀) (sym rest)
      (record {
        outputs = safe.outputs;
        inputs = safe.inputs;
        parameters = safe.parameters;
        configuration = safe.configuration;
        reply = safe.reply;
        long = safe.long;
        room = safe.room;
        channels = safe.channels;
      })

  -- then the sets, one after the other
  pub carried_over : (n₁ n₂ n₃ n₄ n₅ : List ℕ)
      → n₁ ≡ on_memory o.outputs (unpacked n₀) n₀
      → ((t : State) → t.outputs ≡ (unpacked n₁).outputs → n₁ ≡ kept t n₁ → n₂ ≡ kept (with_outputs t (on_outputs o.outputs t.outputs)) n₁)
      → ((t : State) → t.inputs ≡ (unpacked n₂).inputs → n₂ ≡ kept t n₂ → n₃ ≡ kept (with_inputs t (on_inputs o.inputs t.inputs)) n₂)
      → ((t : State) → t.parameters ≡ (unpacked n₃).parameters → n₃ ≡ kept t n₃
      → n₄ ≡ kept (with_parameters t (on_sets o.parameters t.parameters count)) n₃)
      → ((t : State) → t.configuration ≡ (unpacked n₄).configuration → n₄ ≡ kept t n₄
      → n₅ ≡ kept (with_configuration t (on_sets o.configuration t.configuration count)) n₄)
      → n₅ ≡ packed_after (carried s m (on_chain o s.control.chain) count)
  unfolding carried
  carried_over n₁ n₂ n₃ n₄ n₅ e p₂ p₃ p₄ p₅ =
      let safe = still_safe in
      let zeroed : n₁ ≡ on_memory o.outputs s n₀ =
      e ∙ ap (λ (t : State). on_memory o.outputs t n₀) rest ∙ buffers_apart o.outputs s (unpacked n₀).control n₀ in
      let body : behind n₁ ≡ behind (on_memory o.outputs s m) =
      ap behind zeroed ∙ (alike_carried s n₀ m safe (holds_safe m s h) same_body o count).bodies in
      let e₁ : n₁ ≡ kept s₀ n₁ =
      sym (take-append-drop image_length n₁)
      ∙ ap (λ (l : List ℕ). l ++ behind n₁)
      (ap (take image_length) zeroed ∙ buffers_front o.outputs s n₀ safe ∙ ap (take image_length) e₀ ∙ kept_take s₀ m) in
      let s₂ : State = with_outputs s₀ (on_outputs o.outputs s.outputs) in
      let e₂ : n₂ ≡ kept s₂ n₁ = p₂ s₀ (sym (outputs_read s s₀ n₁ h.sound refl e₁)) e₁ in
      let f₂ : n₂ ≡ kept s₂ n₂ = again n₁ n₂ s₂ e₂ in
      let s₃ : State = with_inputs s₂ (on_inputs o.inputs s.inputs) in
      let e₃ : n₃ ≡ kept s₃ n₁ = onto n₁ n₂ n₃ s₂ s₃ e₂ (p₃ s₂ (sym (inputs_read s s₂ n₂ h.sound refl f₂)) f₂) in
      let f₃ : n₃ ≡ kept s₃ n₃ = again n₁ n₃ s₃ e₃ in
      let s₄ : State = with_parameters s₃ (on_sets o.parameters s.parameters count) in
      let e₄ : n₄ ≡ kept s₄ n₁ = onto n₁ n₃ n₄ s₃ s₄ e₃ (p₄ s₃ (sym (parameters_read s s₃ n₃ h.sound refl f₃)) f₃) in
      let f₄ : n₄ ≡ kept s₄ n₄ = again n₁ n₄ s₄ e₄ in
      let s₅ : State = with_configuration s₄ (on_sets o.configuration s.configuration count) in
      let e₅ : n₅ ≡ kept s₅ n₁ = onto n₁ n₄ n₅ s₄ s₅ e₄ (p₅ s₄ (sym (configuration_read s s₄ n₄ h.sound refl f₄)) f₄) in
      e₅ ∙ ap (λ (l : List ℕ). image s₅ ++ l) body
