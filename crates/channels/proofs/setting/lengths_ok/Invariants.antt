-- `channels::setting::lengths_ok` meets its contract.
use mathlib.Core.Path.{◌≡◌}
use mathlib.Core.Bool.{true}
use Rattle.channels.specs.Rules.{each_from}
use Rattle.channels.specs.Setting.{pair_test}
use Rattle.channels.proofs.setting.lengths_ok.Given as goal

abbrev pub invariant-loop-n : goal.invariant-loop-n
invariant-loop-n l = (each_from (pair_test l.lengths) 0 l.n ≡ true)
