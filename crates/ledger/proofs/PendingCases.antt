-- Lists of calls in which several events are set at once, and what Pending answers (document 02, Req 06), each computed from a fresh station.
use mathlib.Core.Path.{refl}
use mathlib.Core.List.{[], ◌∷◌}
use Rattle.rules.specs.Call.{gap, send, tick, new_diagnosis_call, judge_parameters_call, judge_configuration_call, events, acknowledge, pending, leave}
use Rattle.ledger.specs.Script.{hears, sends, does, Answers}
use Rattle.ledger.proofs.Scripts.{written}
use Rattle.ledger.proofs.Computing.{computing}
use Rattle.ledger.proofs.Cases.{started, set_prm, set_prm_watched, chk_cfg, e5}
use Rattle.ledger.proofs.ModeCases.{control, exchange, input}

-- 13, 12, 11 and 10 come in this order and are each told ahead of the earlier ones; the watchdog's 3 is ahead of what it leaves of them; what is
-- acknowledged makes room for the next, down to none
smallest_first : Answers started
    (does pending 16
    ∷ does leave 0 ∷ does pending 13
    ∷ does (new_diagnosis_call 6 0) 0 ∷ does pending 12
    ∷ does gap 0 ∷ hears set_prm_watched ∷ sends e5 ∷ does send 256 ∷ does pending 11
    ∷ does gap 0 ∷ hears chk_cfg ∷ sends e5 ∷ does send 256 ∷ does pending 10 ∷ does events 0x3C00
    ∷ does tick 0 ∷ does tick 0 ∷ does pending 3 ∷ does events 0x3008
    ∷ does (acknowledge 0x0008) 0 ∷ does pending 12
    ∷ does (acknowledge 0x1000) 0 ∷ does pending 13
    ∷ does (acknowledge 0x2000) 0 ∷ does pending 16 ∷ [])
unfolding computing
smallest_first = written refl

-- 10 and 11 are told until their sets are judged, whatever is acknowledged; 1 is ahead of 8 and 13, which come later; asking changes nothing
told_until_ended : Answers started
    (does gap 0 ∷ hears set_prm ∷ sends e5 ∷ does send 256
    ∷ does (acknowledge 0xFFFF) 0 ∷ does pending 11
    ∷ does gap 0 ∷ hears chk_cfg ∷ sends e5 ∷ does send 256
    ∷ does (acknowledge 0xFFFF) 0 ∷ does pending 10
    ∷ does (judge_parameters_call 1) 0 ∷ does pending 10
    ∷ does (judge_configuration_call 1) 0 ∷ does pending 1
    ∷ does gap 0 ∷ hears (exchange 0x11 0x65) ∷ sends (input 0x00 0x0F) ∷ does send 256 ∷ does pending 1
    ∷ does gap 0 ∷ hears (control 0x20 0x5F) ∷ does send 256 ∷ does pending 1 ∷ does pending 1 ∷ does events 0x2102
    ∷ does (acknowledge 0x0002) 0 ∷ does pending 8
    ∷ does (acknowledge 0x0100) 0 ∷ does pending 13 ∷ [])
unfolding computing
told_until_ended = written refl
