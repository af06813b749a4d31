-- `channels::setting::set_up` meets its contract.
use Prim.Native.Nat.{ℕ}
use native.Mathlib.Numerals.{add-one}
use mathlib.Core.Path.{refl, ap, ◌∙◌}
use mathlib.Core.List.{List}
use lib.ListN.{length}
use Rattle.channels.specs.Image.{saved}
use Rattle.channels.specs.Setting.{free, set_up}
use Rattle.channels.proofs.Columns.{saved_length}
use Rattle.channels.proofs.setting.set_up.Goals as goal

pub loop-n-init : goal.loop-n-init
unfolding set_up
loop-n-init c = (refl, refl)

pub loop-n-preserved : goal.loop-n-preserved
unfolding set_up
loop-n-preserved c =
    let n = c.loop-n.n in
    let xs = c.args.lengths.now in (
      rw (add-one n) (c.save.ensures ∙ ap (λ (l : List ℕ). saved l n (free xs n)) c.loop-n.invariant.0),
      ap length c.save.ensures ∙ saved_length _ n (free xs n) ∙ c.loop-n.invariant.1,
    )
