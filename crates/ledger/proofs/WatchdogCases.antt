-- Lists of calls on the watchdog's base (document 02, Req 07), each computed from the fresh station of Cases.antt, with their answers. All have the
-- factors 1 and 2 unless they say otherwise, so 2 ticks on a base of 1 ms and 20 on one of 10 ms.
use Prim.Native.Nat.{ℕ}
use mathlib.Core.Path.{◌≡◌, refl}
use mathlib.Core.List.{List, [], ◌∷◌, ◌++◌}
use lib.ListN.{replicate}
use Rattle.state.specs.declared.answer.Refusal.TheVariants.{Absent}
use Rattle.rules.specs.Call.{gap, send, tick, read, judge_parameters_call, judge_configuration_call, events, acknowledge}
use Rattle.ledger.specs.Calls.{after}
use Rattle.ledger.specs.Script.{Part, hears, sends, does, refuses, calls_of, Answers}
use Rattle.ledger.proofs.Scripts.{written}
use Rattle.ledger.proofs.Computing.{computing}
use Rattle.ledger.proofs.Cases.{started, set_prm_watched, chk_cfg, slave_diag, e5}

-- 7 data octets
abbrev set_prm_slow : List ℕ
set_prm_slow = 0x68 ∷ 0x0C ∷ 0x0C ∷ 0x68 ∷ 0x85 ∷ 0x82 ∷ 0x4D ∷ 0x3D ∷ 0x3E ∷ 0x88 ∷ 0x01 ∷ 0x02 ∷ 0x0B ∷ 0x80 ∷ 0xB3 ∷ 0x00 ∷ 0x98 ∷ 0x16 ∷ []

-- a Set_Prm that draws E5
abbrev sets : List ℕ → List Part
sets xs = does gap 0 ∷ hears xs ∷ sends e5 ∷ does send 256 ∷ []

-- event 3 comes at the tick behind n others, with zeros and the end of the set that was shown
abbrev expires : ℕ → List Part
expires n = replicate n (does tick 0) ++ does events 0x0800 ∷ does tick 0 ∷ does events 0x2008 ∷ []

-- octet 7 with bit 2: 1 ms
base_of_1_ms : Answers started (sets set_prm_watched ++ expires 1)
unfolding computing
base_of_1_ms = written refl

-- octet 7 with all bits: 1 ms
all_bits : Answers started (sets (0x68 ∷ 0x0D ∷ 0x0D ∷ 0x68 ∷ 0x85 ∷ 0x82 ∷ 0x4D ∷ 0x3D ∷ 0x3E ∷ 0x88 ∷ 0x01 ∷ 0x02 ∷ 0x0B ∷ 0x80 ∷ 0xB3 ∷ 0x00 ∷ 0xFF ∷ 0x97 ∷ 0x16 ∷ []) ++ expires 1)
unfolding computing
all_bits = written refl

-- octet 7 with all bits but bit 2: 10 ms
all_but_bit_2 : Answers started (sets (0x68 ∷ 0x0D ∷ 0x0D ∷ 0x68 ∷ 0x85 ∷ 0x82 ∷ 0x4D ∷ 0x3D ∷ 0x3E ∷ 0x88 ∷ 0x01 ∷ 0x02 ∷ 0x0B ∷ 0x80 ∷ 0xB3 ∷ 0x00 ∷ 0xFB ∷ 0x93 ∷ 0x16 ∷ []) ++ expires 19)
unfolding computing
all_but_bit_2 = written refl

-- no octet 7: 10 ms, also where the Set_Prm before it had one
no_octet_7 : Answers started (sets set_prm_watched ++ sets set_prm_slow ++ expires 19)
unfolding computing
no_octet_7 = written refl

-- bit 2 of octet 0 is no base
bit_2_of_octet_0 : Answers started (sets (0x68 ∷ 0x0C ∷ 0x0C ∷ 0x68 ∷ 0x85 ∷ 0x82 ∷ 0x4D ∷ 0x3D ∷ 0x3E ∷ 0x8C ∷ 0x01 ∷ 0x02 ∷ 0x0B ∷ 0x80 ∷ 0xB3 ∷ 0x00 ∷ 0x9C ∷ 0x16 ∷ []) ++ expires 19)
unfolding computing
bit_2_of_octet_0 = written refl

-- octet 7 is shown as every other, and is not there with 7 data octets
octet_7_shown : Answers started (sets set_prm_watched ++ does (read 2 7) 0x04 ∷ [])
unfolding computing
octet_7_shown = written refl

octet_7_absent : Answers started (sets set_prm_slow ++ refuses (read 2 7) Absent ∷ [])
unfolding computing
octet_7_absent = written refl

-- Slave_Diag then tells Prm_Fault in WAIT_PRM
abbrev faulty : List Part
faulty =
    does events 0x2000 ∷ does gap 0 ∷ hears slave_diag
    ∷ sends (0x68 ∷ 0x0B ∷ 0x0B ∷ 0x68 ∷ 0x82 ∷ 0x85 ∷ 0x08 ∷ 0x3E ∷ 0x3C ∷ 0x42 ∷ 0x05 ∷ 0x00 ∷ 0xFF ∷ 0x80 ∷ 0xB3 ∷ 0x02 ∷ 0x16 ∷ []) ∷ []

-- both factors 1 are a fault on a base of 1 ms, too
both_1 : Answers started (sets (0x68 ∷ 0x0D ∷ 0x0D ∷ 0x68 ∷ 0x85 ∷ 0x82 ∷ 0x4D ∷ 0x3D ∷ 0x3E ∷ 0x88 ∷ 0x01 ∷ 0x01 ∷ 0x0B ∷ 0x80 ∷ 0xB3 ∷ 0x00 ∷ 0x04 ∷ 0x9B ∷ 0x16 ∷ []) ++ faulty)
unfolding computing
both_1 = written refl

-- and so is a factor of 0
factor_0 : Answers started (sets (0x68 ∷ 0x0D ∷ 0x0D ∷ 0x68 ∷ 0x85 ∷ 0x82 ∷ 0x4D ∷ 0x3D ∷ 0x3E ∷ 0x88 ∷ 0x00 ∷ 0x02 ∷ 0x0B ∷ 0x80 ∷ 0xB3 ∷ 0x00 ∷ 0x04 ∷ 0x9B ∷ 0x16 ∷ []) ++ faulty)
unfolding computing
factor_0 = written refl

-- but not where the watchdog is not switched on: the set is shown
off_with_both_1 : Answers started (sets (0x68 ∷ 0x0C ∷ 0x0C ∷ 0x68 ∷ 0x85 ∷ 0x82 ∷ 0x4D ∷ 0x3D ∷ 0x3E ∷ 0x80 ∷ 0x01 ∷ 0x01 ∷ 0x0B ∷ 0x80 ∷ 0xB3 ∷ 0x00 ∷ 0x8F ∷ 0x16 ∷ []) ++ does events 0x0800 ∷ [])
unfolding computing
off_with_both_1 = written refl

off_with_0 : Answers started (sets (0x68 ∷ 0x0D ∷ 0x0D ∷ 0x68 ∷ 0x85 ∷ 0x82 ∷ 0x4D ∷ 0x3D ∷ 0x3E ∷ 0x80 ∷ 0x00 ∷ 0x05 ∷ 0x0B ∷ 0x80 ∷ 0xB3 ∷ 0x00 ∷ 0x04 ∷ 0x96 ∷ 0x16 ∷ []) ++ does events 0x0800 ∷ [])
unfolding computing
off_with_0 = written refl

-- it counts in DATA_EXCH too: events 1, 3 and 13
in_exchange_lem : Answers started
    (sets set_prm_watched ++ sets chk_cfg
    ++ does (judge_parameters_call 1) 0 ∷ does (judge_configuration_call 1) 0 ∷ does (acknowledge 65535) 0
    ∷ does tick 0 ∷ does events 0 ∷ does tick 0 ∷ does events 0x200A ∷ [])
unfolding computing
in_exchange_lem = written refl

-- the owner's Global_Control to all stations does not refill it
not_refilled_by_127 : Answers started
    (sets set_prm_watched ++ does tick 0
    ∷ does gap 0 ∷ hears (0x68 ∷ 0x07 ∷ 0x07 ∷ 0x68 ∷ 0xFF ∷ 0x82 ∷ 0x46 ∷ 0x3A ∷ 0x3E ∷ 0x00 ∷ 0x00 ∷ 0x3F ∷ 0x16 ∷ []) ∷ does send 256 ∷ expires 0)
unfolding computing
not_refilled_by_127 = written refl

-- after it has expired diagnosis shows no watchdog (02 05 00 FF)
off_after_expiry : Answers started
    (sets set_prm_watched ++ expires 1
    ++ does gap 0 ∷ hears slave_diag
    ∷ sends (0x68 ∷ 0x0B ∷ 0x0B ∷ 0x68 ∷ 0x82 ∷ 0x85 ∷ 0x08 ∷ 0x3E ∷ 0x3C ∷ 0x02 ∷ 0x05 ∷ 0x00 ∷ 0xFF ∷ 0x80 ∷ 0xB3 ∷ 0xC2 ∷ 0x16 ∷ []) ∷ [])
unfolding computing
off_after_expiry = written refl

-- 255 and 255: more ticks than 16 bits hold
most_ticks_lem : (after started (calls_of (sets (0x68 ∷ 0x0C ∷ 0x0C ∷ 0x68 ∷ 0x85 ∷ 0x82 ∷ 0x4D ∷ 0x3D ∷ 0x3E ∷ 0x88 ∷ 0xFF ∷ 0xFF ∷ 0x0B ∷ 0x80 ∷ 0xB3 ∷ 0x00 ∷ 0x93 ∷ 0x16 ∷ [])))).control.watchdog.reload ≡ 650250
unfolding computing
most_ticks_lem = refl

-- on a base of 1 ms
most_fast_ticks : (after started (calls_of (sets (0x68 ∷ 0x0D ∷ 0x0D ∷ 0x68 ∷ 0x85 ∷ 0x82 ∷ 0x4D ∷ 0x3D ∷ 0x3E ∷ 0x88 ∷ 0xFF ∷ 0xFF ∷ 0x0B ∷ 0x80 ∷ 0xB3 ∷ 0x00 ∷ 0x04 ∷ 0x97 ∷ 0x16 ∷ [])))).control.watchdog.reload ≡ 65025
unfolding computing
most_fast_ticks = refl
