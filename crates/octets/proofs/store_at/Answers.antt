-- `octets::store_at` meets its contract: the part that was lent comes back with the octet in it.
use Prim.Native.Nat.{ℕ, ◌+◌, ◌-◌}
use native.Mathlib.Nat.{add-sub_cancel_left}
use native.Mathlib.Omega.{arith}
use mathlib.Core.Path.{ap, ◌∙◌}
use borrow.Rule.Slice.PartMut.{put_mid}
use Rattle.octets.specs.Part.{stored_in}
use Rattle.octets.proofs.Parts.{lent_store}
use Rattle.octets.proofs.store_at.Goals as goal

pub returns : goal.returns
returns c =
    let m = c.args.mem.now in
    let a = c.args.from in
    let n = c.args.len in
    let i = c.args.at in
    let octet = c.args.octet in
    ap (put_mid a (a + n - a) m) c.store.ensures
    ∙ lent_store m a (a + n - a) i octet (omega arith)
    ∙ ap (λ (k : ℕ). stored_in m a k i octet) (add-sub_cancel_left a n)
