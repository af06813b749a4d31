-- The two orders.
use Prim.Native.Nat.{ℕ, zero, suc, ◌<◌, ◌≤◌}
use native.Mathlib.Omega.{arith}
use mathlib.Core.Path.{◌≡◌, refl, sym, ap, subst, ◌∙◌}
use lib.Bits.{bit_xor}
use borrow.Author.Tests.{ne_eqb}
use Rattle.window.specs.declared.order.Order.{Order}
use Rattle.window.specs.declared.order.Order.TheVariants.{Intel, Motorola}
use Rattle.window.specs.Order.{exchanged, cell_at}

-- what holds of the four cells that change places and of every other holds of all
by_cell : (P : ℕ → Type 0) → P 0 → P 1 → P 2 → P 3 → ((n : ℕ) → 3 < n → P n) → (n : ℕ) → P n
by_cell P p0 p1 p2 p3 other zero = p0
by_cell P p0 p1 p2 p3 other (suc zero) = p1
by_cell P p0 p1 p2 p3 other (suc (suc zero)) = p2
by_cell P p0 p1 p2 p3 other (suc (suc (suc zero))) = p3
by_cell P p0 p1 p2 p3 other (suc (suc (suc (suc n)))) = other (suc (suc (suc (suc n)))) (omega arith)

-- no other changes its place
pub stays : (n : ℕ) → 3 < n → exchanged n ≡ n
unfolding exchanged
stays n h =
    rw (
      ne_eqb n 0 (λ e. omega arith),
      ne_eqb n 1 (λ e. omega arith),
      ne_eqb n 2 (λ e. omega arith),
      ne_eqb n 3 (λ e. omega arith),
    )

-- the lowest bit is what tells the two of a word apart
pub exchanged_bit : (n : ℕ) → n ≤ 3 → bit_xor n 1 ≡ exchanged n
unfolding exchanged
exchanged_bit = by_cell (λ n. n ≤ 3 → bit_xor n 1 ≡ exchanged n) (λ h. refl) (λ h. refl) (λ h. refl) (λ h. refl) (λ n f h. absurd (omega arith))

-- exchanging twice is not exchanging at all
exchanged_twice : (n : ℕ) → exchanged (exchanged n) ≡ n
unfolding exchanged
exchanged_twice = by_cell (λ n. exchanged (exchanged n) ≡ n) refl refl refl refl (λ n h. ap exchanged (stays n h) ∙ stays n h)

-- so each order has every cell at one address
pub exchanges : (order : Order) (cell : ℕ) → cell_at order (cell_at order cell) ≡ cell
exchanges Intel cell = refl
exchanges Motorola cell = exchanged_twice cell

-- an address up to 015H is a cell's
pub cell_within : (order : Order) (n : ℕ) → n ≤ 0x15 → cell_at order n ≤ 0x15
unfolding exchanged
cell_within Intel n h = h
cell_within Motorola n h =
    by_cell (λ k. k ≤ 0x15 → exchanged k ≤ 0x15) (λ _. omega arith) (λ _. omega arith) (λ _. omega arith) (λ _. omega arith)
    (λ k f g. subst (λ (x : ℕ). x ≤ 0x15) (sym (stays k f)) g) n h

-- and one above stays above
pub cell_above : (order : Order) (n : ℕ) → 0x15 < n → 0x15 < cell_at order n
cell_above Intel n h = h
cell_above Motorola n h = subst (λ (x : ℕ). 0x15 < x) (sym (stays n (omega arith))) h
