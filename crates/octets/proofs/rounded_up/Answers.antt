-- `octets::rounded_up` meets its contract.
use native.Mathlib.Omega.{arith}
use Rattle.octets.specs.Part.{rounded_up}
use Rattle.octets.proofs.rounded_up.Goals as goal

pub returns : goal.returns
unfolding rounded_up
returns c = (omega arith, omega arith)
