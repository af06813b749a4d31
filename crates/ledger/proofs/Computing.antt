-- What a list of calls computes with: `unfolding computing` opens all that the ledger leaves shut.
use Prim.Native.Nat.{ℕ}
use Rattle.buffers.specs.Events.{bit, smallest_from}
use Rattle.telegram.proofs.Computing.{computing as reading}
use Rattle.rules.specs.Phases.{wait_prm, wait_cfg, data_exch}
use Rattle.state.specs.Number.{drawn_numbered}
use Rattle.rules.specs.Requests.{refilled, service_of}
use Rattle.rules.specs.Services.{parametrized, set_prm, chk_cfg, data_exchange, slave_diag, global_control}
use Rattle.rules.specs.Diagnosis.{header_of, diagnosed, delaying}
use Rattle.rules.specs.Line.{ticked}
use Rattle.rules.specs.User.{judged_parameters, judged_configuration}
use Rattle.ledger.specs.Outcome.{after_reply, settle}
use Rattle.ledger.specs.Bus.{answered, heard, paused, after_send, elapsed}
use Rattle.ledger.specs.User.{take_outputs, read_octet, write_octet, hand_over, new_diagnosis, judge_parameters, judge_configuration, acknowledge_events, leave_master}

unfoldable pub computing : ℕ
unfolding heard paused after_send elapsed answered after_reply settle take_outputs read_octet write_octet hand_over new_diagnosis judge_parameters judge_configuration acknowledge_events leave_master header_of diagnosed delaying ticked wait_prm wait_cfg data_exch refilled service_of parametrized set_prm chk_cfg data_exchange slave_diag global_control judged_parameters judged_configuration reading bit smallest_from drawn_numbered
computing = 0
