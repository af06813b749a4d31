-- `station::user::read_octet` meets its contract.
use Rattle.std.proofs.Common.{arith}
use Rattle.std.proofs.Math.Logic.{∥∥₁_elim}
use Rattle.std.specs.Coded.{le_prop}
use Rattle.steps.proofs.Holding.{holds_safe}
use Rattle.station.proofs.UserOverMemory.{lies}
use Rattle.station.proofs.user.read_octet.Goals as goal

pub overflow_add-kind_at : goal.overflow_add-kind_at
overflow_add-kind_at c =
    let inside = ∥∥₁_elim c.args.held.holds le_prop (λ h. lies _ c.args.held.image.octets.now _ _ c.setup.ensures c.in-Some.ensures (holds_safe _ _ h) c.kind_at.ensures) in
    omega arith

pub bounds-image-kind_at : goal.bounds-image-kind_at
bounds-image-kind_at c = ∥∥₁_elim c.args.held.holds le_prop (λ h. lies _ _ _ _ c.setup.ensures c.in-Some.ensures (holds_safe _ _ h) c.kind_at.ensures)
