-- `octets::copy_at` meets its contract: the part that was lent comes back with the copy in it.
use Prim.Native.Nat.{◌+◌, ◌-◌}
use native.Mathlib.Omega.{arith}
use mathlib.Core.Path.{ap, ◌∙◌}
use borrow.Rule.Slice.PartMut.{put_mid}
use lib.ListN.{length}
use Rattle.octets.proofs.Parts.{lent_copy}
use Rattle.octets.proofs.copy_at.Goals as goal

pub returns : goal.returns
returns c =
    let m = c.args.mem.now in
    let a = c.args.from in
    let xs = c.args.src.now in
    ap (put_mid a (a + length xs - a) m) c.copy.ensures
    ∙ lent_copy m a (a + length xs - a) xs (omega arith) (omega arith)
