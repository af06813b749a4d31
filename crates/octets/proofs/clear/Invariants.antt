-- `octets::clear` meets its contract: after i turns the first i octets are 0 and the rest is as it was.
use mathlib.Core.Path.{◌≡◌}
use mathlib.Core.List.{◌++◌}
use lib.ListN.{drop, replicate}
use Rattle.octets.proofs.clear.Given as goal

abbrev pub invariant-loop-i : goal.invariant-loop-i
invariant-loop-i l = (l.dst ≡ replicate l.i 0 ++ drop l.i l.initial.dst)
