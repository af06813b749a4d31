-- `station::over_memory::write` meets its contract.
use Rattle.steps.specs.Step.{step_over}
use Rattle.station.proofs.Stepping.{wrote}
use Rattle.station.proofs.over_memory.write.Goals as goal

pub returns : goal.returns
unfolding step_over
returns c = wrote _ _ _ _ _ _ c.requires c.write_octet.ensures
