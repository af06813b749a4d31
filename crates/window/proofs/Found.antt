-- How the code finds what is behind an access by comparing.
use Prim.Native.Nat.{ℕ, ◌<◌, ◌≤◌}
use native.Mathlib.Omega.{arith}
use mathlib.Core.Path.{◌≡◌, refl, sym, ap, subst, ◌∙◌}
use mathlib.Core.Logic.{inl, inr}
use mathlib.Core.List.{List, [], ◌∷◌}
use lib.ListN.{get_or-eq_default}
use types.Run.{OneOf}
use Rattle.state.specs.declared.control.Control.{Control}
use Rattle.window.specs.declared.order.Order.{Order}
use Rattle.window.specs.Order.{cell_at}
use Rattle.window.specs.Entries.{window_read, window_write}
use Rattle.window.specs.Table.{Behind, nothing, no_cell, Row, beyond, table, row_at, row_of, behind}
use Rattle.window.proofs.Orders.{cell_within, cell_above}
use Rattle.window.proofs.Rows.{reading_cases_lem, writing_cases}

-- a cell that is none of the keys of some arms, the last arm first
abbrev Elsewhere : List (List ℕ) → ℕ → Type 0
Elsewhere [] n = Unit
Elsewhere (ks ∷ arms) n = Elsewhere arms n × (OneOf ks n → ⊥)

-- the arms of the code for reading and for writing
abbrev read_arms : List (List ℕ)
read_arms =
    (17 ∷ []) ∷ (16 ∷ []) ∷ (15 ∷ []) ∷ (14 ∷ []) ∷ (13 ∷ []) ∷ (11 ∷ []) ∷ (9 ∷ []) ∷ (1 ∷ 3 ∷ []) ∷ (0 ∷ 2 ∷ []) ∷ []

abbrev write_arms : List (List ℕ)
write_arms = (3 ∷ []) ∷ (2 ∷ []) ∷ []

module _ (count flags : ℕ) where
  -- nothing is behind reading any other cell
  quiet_read : (cell : ℕ) → cell ≤ 0x15 → Elsewhere read_arms cell → (row_at count flags cell).reading ≡ nothing
  quiet_read =
      reading_cases_lem count flags (λ n b. n ≤ 0x15 → Elsewhere read_arms n → b ≡ nothing) (λ n h e. refl) (λ n f h e. absurd (omega arith))
      (λ h e. absurd (e.0.0.0.0.0.0.0.0.1 (inl refl)))
      (λ h e. absurd (e.0.0.0.0.0.0.0.1 (inl refl)))
      (λ h e. absurd (e.0.0.0.0.0.0.0.0.1 (inr refl)))
      (λ h e. absurd (e.0.0.0.0.0.0.0.1 (inr refl)))
      (λ h e. absurd (e.0.0.0.0.0.0.1 refl))
      (λ h e. absurd (e.0.0.0.0.0.1 refl))
      (λ h e. absurd (e.0.0.0.0.1 refl))
      (λ h e. absurd (e.0.0.0.1 refl))
      (λ h e. absurd (e.0.0.1 refl))
      (λ h e. absurd (e.0.1 refl))
      (λ h e. absurd (e.1 refl))

  -- nor behind writing to one
  quiet_write : (x cell : ℕ) → cell ≤ 0x15 → Elsewhere write_arms cell → (row_at count flags cell).writing x ≡ nothing
  quiet_write x =
      writing_cases count flags (λ n b. n ≤ 0x15 → Elsewhere write_arms n → b ≡ nothing) (λ n h e. refl) (λ n f h e. absurd (omega arith)) x
      (λ h e. absurd (e.0.1 refl)) (λ h e. absurd (e.1 refl))

  -- and above the last there is none
  pub no_row : (cell : ℕ) → 0x15 < cell → row_at count flags cell ≡ beyond
  unfolding table
  no_row cell h = get_or-eq_default (table count flags) beyond h

-- what the code found at a number is what is behind an access to the cell that has it
module _ {b : Control → Behind} (order : Order) (address : ℕ) {cell : ℕ} (e : cell ≡ cell_at order address) where
  at_cell : (done : Row → Behind) → ((k : Control) → b k ≡ done (row_of k cell)) → (k : Control) → b k ≡ done (row_of k (cell_at order address))
  at_cell done h k = h k ∙ ap (λ (i : ℕ). done (row_of k i)) e

  module _ (n : ℕ) (f : cell ≡ n) where
    pub reads_at : ((k : Control) → b k ≡ (row_of k n).reading) → (k : Control) → b k ≡ behind k (window_read order address)
    unfolding behind
    reads_at h = at_cell (λ row. row.reading) (λ k. h k ∙ ap (λ (i : ℕ). (row_of k i).reading) (sym f))

    pub writes_at : (x : ℕ) → ((k : Control) → b k ≡ (row_of k n).writing x) → (k : Control) → b k ≡ behind k (window_write order address x)
    unfolding behind
    writes_at x h = at_cell (λ row. row.writing x) (λ k. h k ∙ ap (λ (i : ℕ). (row_of k i).writing x) (sym f))

-- where the code found none of its numbers nothing is behind it
module _ (order : Order) (address : ℕ) {cell : ℕ} (e : cell ≡ cell_at order address) (h : address ≤ 0x15) where
  within : cell ≤ 0x15
  within = subst (λ (n : ℕ). n ≤ 0x15) (sym e) (cell_within order address h)

  pub reads_nothing : Elsewhere read_arms cell → (k : Control) → nothing ≡ behind k (window_read order address)
  unfolding behind
  reads_nothing f = at_cell {b = λ k. nothing} order address e (λ row. row.reading) (λ k. sym (quiet_read _ _ cell within f))

  pub writes_nothing : (x : ℕ) → Elsewhere write_arms cell → (k : Control) → nothing ≡ behind k (window_write order address x)
  unfolding behind
  writes_nothing x f = at_cell {b = λ k. nothing} order address e (λ row. row.writing x) (λ k. sym (quiet_write _ _ x cell within f))

-- and above the last cell there is none
module _ (order : Order) (address : ℕ) (h : 0x15 < address) (k : Control) where
  none : row_of k (cell_at order address) ≡ beyond
  none = no_row _ _ (cell_at order address) (cell_above order address h)

  pub reads_none : no_cell ≡ behind k (window_read order address)
  unfolding behind
  reads_none = ap (λ (row : Row). row.reading) (sym none)

  pub writes_none : (x : ℕ) → no_cell ≡ behind k (window_write order address x)
  unfolding behind
  writes_none x = ap (λ (row : Row). row.writing x) (sym none)
