-- An octet of any kind that the vat program may read or write lies in a buffer: behind the state part, and in front of where the buffers end.
use Prim.Native.Nat.{ℕ, ◌+◌, ◌≤◌, ◌<◌}
use native.Mathlib.Omega.{arith}
use mathlib.Core.Path.{◌≡◌}
use mathlib.Core.Bool.{Bool, true, false, cond}
use mathlib.Core.List.{List, [], ◌∷◌}
use lib.Dec.{eqb, leb, ltb}
use borrow.Author.Tests.{ltb-true}
use Rattle.buffers.specs.Roles.{held_of}
use Rattle.buffers.specs.Roles as role
use Rattle.state.specs.declared.state.State.{State}
use Rattle.state.specs.Layout.{state_length, output_row, input_row, parameter_row, configuration_row, diagnosis_row, row_count, row_length, start_of, end_of}
use Rattle.state.proofs.Places.{inside, beyond}
use Rattle.state.proofs.Tests.{all_at}
use Rattle.rules.specs.Kinds.{kind_length, in_range}
use Rattle.steps.specs.Safe.{Safe}
use Rattle.steps.specs.Replies.{user_place}
use Rattle.steps.specs.User.{kind_at}
use Rattle.steps.proofs.KeepsSafe.{user_in}

module _ (s : State) (m : List ℕ) (kind index : ℕ) (safe : Safe s m) where
  -- there it lies
  abbrev Lies : ℕ → Type 0
  Lies a = (state_length ≤ a) × (a < end_of s.setup)

  in_buffer : (a i : ℕ) → i < row_count a → ltb index (row_length s.setup a) ≡ true → Lies (start_of s.setup a i + index)
  in_buffer a i h e =
      let below : index < row_length s.setup a = ltb-true index (row_length s.setup a) e in
      let u = inside s.setup a i (index + 1) h (omega arith) in
      let v = beyond s.setup a i in
      (omega arith, omega arith)

  pub kind_inside : in_range s.setup kind index ≡ true → (state_length ≤ kind_at s kind + index) × (kind_at s kind + index < end_of s.setup)
  kind_inside e =
      go (eqb kind 1) (eqb kind 2) (eqb kind 3) (eqb kind 4) (eqb kind 5)
      (all_at (leb (cond (eqb kind 5) 6 0) index ∷ ltb index (kind_length s.setup kind) ∷ []) 1 e)
    where
      go : (b₁ b₂ b₃ b₄ b₅ : Bool)
          → ltb index
          (cond b₁ s.setup.output_len
          (cond b₂ s.setup.parameter_len
          (cond b₃ s.setup.configuration_len (cond b₄ s.setup.input_len (cond b₅ s.setup.diagnosis_len 0)))))
          ≡ true
          → Lies
          (cond b₁ (start_of s.setup output_row (held_of s.outputs.set.place))
          (cond b₂ (start_of s.setup parameter_row (held_of s.parameters.set.place))
          (cond b₃ (start_of s.setup configuration_row (held_of s.configuration.set.place))
          (cond b₄ (start_of s.setup input_row (held_of s.inputs.place))
          (start_of s.setup diagnosis_row (user_place s.swapped)))))
          + index)
      go true b₂ b₃ b₄ b₅ f = in_buffer output_row (held_of s.outputs.set.place) (safe.outputs.within role.held (omega arith)) f
      go false true b₃ b₄ b₅ f = in_buffer parameter_row (held_of s.parameters.set.place) (safe.parameters.within role.held (omega arith)) f
      go false false true b₄ b₅ f = in_buffer configuration_row (held_of s.configuration.set.place) (safe.configuration.within role.held (omega arith)) f
      go false false false true b₅ f = in_buffer input_row (held_of s.inputs.place) (safe.inputs.within role.held (omega arith)) f
      go false false false false true f = in_buffer diagnosis_row (user_place s.swapped) (user_in s.swapped) f
      go false false false false false f = let z : index < 0 = ltb-true index 0 f in absurd (omega arith)
