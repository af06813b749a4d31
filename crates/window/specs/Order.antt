-- The two orders of the cells.
use Rattle.std.specs.Prelude.{ℕ, cond, eqb}
use Rattle.window.specs.declared.order.Order.{Order}
use Rattle.window.specs.declared.order.Order.TheVariants.{Intel, Motorola}

-- an order's number in C: 0 is Intel's, any other Motorola's
abbrev pub order_of : ℕ → Order
order_of n = cond (eqb n 0) Intel Motorola

-- "Motorola exchanges 00H with 01H and 02H with 03H, no others"
unfoldable pub exchanged : ℕ → ℕ
exchanged address =
    cond (eqb address 0) 1 (cond (eqb address 1) 0 (cond (eqb address 2) 3 (cond (eqb address 3) 2 address)))

-- the cell that an order has at an address, by Intel's address; and so the address that it has a cell at, since exchanging twice is not
-- exchanging at all
abbrev pub cell_at : Order → ℕ → ℕ
cell_at Intel address = address
cell_at Motorola address = exchanged address
