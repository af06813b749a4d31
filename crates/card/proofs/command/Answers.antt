-- `card::command` meets its contract.
use mir.Syntax.{w64}
use mir.Facts.{to_z-of_z}
use mathlib.Core.Path.{◌∙◌}
use Rattle.state.specs.Unpack.{unpacked}
use Rattle.card.proofs.Exporting.{exported, handed_on, by_call, by_command}
use Rattle.card.proofs.command.Goals as goal

pub returns-in-HandOver : goal.returns-in-HandOver
returns-in-HandOver c = by_command c.args.memory.now (unpacked c.args.memory.now).control _ _ c.in-HandOver.is (by_call _ _ (exported c.hand_over.ensures (to_z-of_z {w = w64} (record { sfits = c.code-in-HandOver.type_inv }) ∙ c.code-in-HandOver.ensures)))

pub returns-in-Take : goal.returns-in-Take
returns-in-Take c = by_command c.args.memory.now (unpacked c.args.memory.now).control _ _ c.in-Take.is
    (handed_on (to_z-of_z {w = w64} (record { sfits = c.dp_take_outputs.type_inv })) (by_call _ _ c.dp_take_outputs.ensures))

pub returns-in-NewDiagnosis : goal.returns-in-NewDiagnosis
returns-in-NewDiagnosis c = by_command c.args.memory.now (unpacked c.args.memory.now).control _ _ c.in-NewDiagnosis.is (by_call _ _ (exported c.renew_diagnosis.ensures (to_z-of_z {w = w64} (record { sfits = c.code-in-NewDiagnosis.type_inv }) ∙ c.code-in-NewDiagnosis.ensures)))

pub returns-in-JudgeParameters : goal.returns-in-JudgeParameters
returns-in-JudgeParameters c = by_command c.args.memory.now (unpacked c.args.memory.now).control _ _ c.in-JudgeParameters.is
    (handed_on (to_z-of_z {w = w64} (record { sfits = c.dp_judge_parameters.type_inv })) (by_call _ _ c.dp_judge_parameters.ensures))

pub returns-in-JudgeConfiguration : goal.returns-in-JudgeConfiguration
returns-in-JudgeConfiguration c = by_command c.args.memory.now (unpacked c.args.memory.now).control _ _ c.in-JudgeConfiguration.is
    (handed_on (to_z-of_z {w = w64} (record { sfits = c.dp_judge_configuration.type_inv })) (by_call _ _ c.dp_judge_configuration.ensures))

pub returns-in-Acknowledge : goal.returns-in-Acknowledge
returns-in-Acknowledge c = by_command c.args.memory.now (unpacked c.args.memory.now).control _ _ c.in-Acknowledge.is (by_call _ _ (exported c.acknowledge.ensures (to_z-of_z {w = w64} (record { sfits = c.code-in-Acknowledge.type_inv }) ∙ c.code-in-Acknowledge.ensures)))
