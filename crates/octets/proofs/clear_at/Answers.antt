-- `octets::clear_at` meets its contract: the part that was lent comes back cleared.
use Prim.Native.Nat.{ℕ, ◌+◌, ◌-◌}
use native.Mathlib.Nat.{add-sub_cancel_left}
use native.Mathlib.Omega.{arith}
use mathlib.Core.Path.{ap, ◌∙◌}
use borrow.Rule.Slice.PartMut.{put_mid}
use lib.ListN.{replicate}
use Rattle.octets.specs.Part.{pasted}
use Rattle.octets.proofs.Parts.{lent_clear}
use Rattle.octets.proofs.clear_at.Goals as goal

pub returns : goal.returns
returns c =
    let m = c.args.mem.now in
    let a = c.args.from in
    let n = c.args.len in
    ap (put_mid a (a + n - a) m) c.clear.ensures
    ∙ lent_clear m a (a + n - a) (omega arith)
    ∙ ap (λ (k : ℕ). pasted m a (replicate k 0)) (add-sub_cancel_left a n)
