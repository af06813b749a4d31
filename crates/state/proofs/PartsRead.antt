-- The four sets, and all parts but the control part, are read from octets of their own: they come back whatever was packed of the other parts
-- meanwhile.
use mathlib.Core.Path.{◌≡◌, refl, sym, ap, ◌∙◌}
use mathlib.Core.List.{List}
use Prim.Native.Nat.{ℕ}
use lib.ListN.{drop}
use Rattle.buffers.specs.declared.triple.Triple.{Triple}
use Rattle.state.specs.declared.control.Control.{Control}
use Rattle.state.specs.declared.state.Outputs.{Outputs}
use Rattle.state.specs.declared.state.Sets.{Sets}
use Rattle.state.specs.declared.state.State.{State}
use Rattle.state.specs.Image.{image}
use Rattle.state.specs.Layout.{image_length}
use Rattle.state.specs.Memory.{kept}
use Rattle.state.specs.Sound.{Sound}
use Rattle.state.specs.Unpack.{unpacked}
use Rattle.state.specs.With.{with_control, with_outputs, with_inputs, with_parameters, with_configuration}
use Rattle.state.proofs.Round.{round}

-- ---- one part

-- what is read of it depends on that part alone
abbrev Own : {A : Type 0} → (State → A) → Type 0
Own part = (t u : State) (m : List ℕ) → part t ≡ part u → part (unpacked (kept t m)) ≡ part (unpacked (kept u m))

-- so it comes back if a sound state has it too
comes_back : {A : Type 0} (part : State → A) → Own part → (s t : State) (m : List ℕ) → Sound s → part t ≡ part s → m ≡ kept t m → part (unpacked m) ≡ part s
comes_back part own s t m h e f =
    ap (λ (l : List ℕ). part (unpacked l)) f ∙ own t s m e ∙ ap part (round s h (drop image_length m))

own_outputs : Own (λ (s : State). s.outputs)
unfolding image unpacked
own_outputs t u m e = ap (λ (x : Outputs). (unpacked (kept (with_outputs u x) m)).outputs) e

own_inputs : Own (λ (s : State). s.inputs)
unfolding image unpacked
own_inputs t u m e = ap (λ (x : Triple). (unpacked (kept (with_inputs u x) m)).inputs) e

own_parameters : Own (λ (s : State). s.parameters)
unfolding image unpacked
own_parameters t u m e = ap (λ (x : Sets). (unpacked (kept (with_parameters u x) m)).parameters) e

own_configuration : Own (λ (s : State). s.configuration)
unfolding image unpacked
own_configuration t u m e = ap (λ (x : Sets). (unpacked (kept (with_configuration u x) m)).configuration) e

module _ (s t : State) (m : List ℕ) (h : Sound s) where
  pub outputs_read : t.outputs ≡ s.outputs → m ≡ kept t m → (unpacked m).outputs ≡ s.outputs
  outputs_read = comes_back (λ (x : State). x.outputs) own_outputs s t m h

  pub inputs_read : t.inputs ≡ s.inputs → m ≡ kept t m → (unpacked m).inputs ≡ s.inputs
  inputs_read = comes_back (λ (x : State). x.inputs) own_inputs s t m h

  pub parameters_read : t.parameters ≡ s.parameters → m ≡ kept t m → (unpacked m).parameters ≡ s.parameters
  parameters_read = comes_back (λ (x : State). x.parameters) own_parameters s t m h

  pub configuration_read : t.configuration ≡ s.configuration → m ≡ kept t m → (unpacked m).configuration ≡ s.configuration
  configuration_read = comes_back (λ (x : State). x.configuration) own_configuration s t m h

-- ---- all parts but the control part

apart : (s : State) (c : Control) (m : List ℕ)
    → unpacked (kept (with_control s c) m) ≡ with_control (unpacked (kept s m)) (unpacked (kept (with_control s c) m)).control
unfolding image unpacked
apart s c m = refl

-- behind another control part the rest of a sound state comes back
pub all_but_control : (s : State) (c : Control) (m n : List ℕ) → Sound s → n ≡ kept (with_control s c) m → unpacked n ≡ with_control s (unpacked n).control
all_but_control s c m n h e =
    ap unpacked e ∙ apart s c m ∙ (λ i. with_control (round s h (drop image_length m) i) (unpacked (sym e i)).control)
