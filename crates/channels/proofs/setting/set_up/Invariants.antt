-- `channels::setting::set_up` meets its contract.
use mathlib.Core.Path.{◌≡◌}
use lib.ListN.{length}
use Rattle.channels.specs.Setting.{set_up}
use Rattle.channels.proofs.setting.set_up.Given as goal

abbrev pub invariant-loop-n : goal.invariant-loop-n
invariant-loop-n l = (l.mem ≡ set_up l.initial.mem l.lengths l.n) × (length l.mem ≡ length l.initial.mem)
