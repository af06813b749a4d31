-- `state::image::save` meets its contract.
use Prim.Native.Nat.{ℕ}
use mathlib.Core.Path.{ap, ◌∙◌}
use mathlib.Core.List.{List, ◌++◌}
use lib.ListN.{length, drop}
use Rattle.state.specs.Image.{image}
use Rattle.state.proofs.image.save.Goals as goal

pub returns : goal.returns
unfolding image
returns c =
    let m = c.args.mem.now in
    c.copy.ensures ∙ ap (λ (l : List ℕ). l ++ drop (length l) m) c.octets.ensures
