-- Lists of calls with their answers in sync and freeze (document 02, Req 01), each computed from a fresh station with one output and one input.
use Prim.Native.Nat.{ℕ}
use mathlib.Core.Path.{refl}
use mathlib.Core.List.{List, [], ◌∷◌, ◌++◌}
use Rattle.ledger.specs.Ledger.{Ledger, fresh}
use Rattle.rules.specs.Call.{gap, send, take, read, write, hand_over_call, judge_parameters_call, judge_configuration_call, events, acknowledge, leave}
use Rattle.ledger.specs.Script.{Part, hears, sends, does, Answers, station}
use Rattle.ledger.proofs.Scripts.{written}
use Rattle.ledger.proofs.Computing.{computing}

abbrev started : Ledger
started = fresh (station 1 1 7 1 6 1) (0x20 ∷ [])

-- The telegrams, with the octets in which they differ, and FCS.

-- Set_Prm with this octet 0
abbrev set_prm : (status fcs : ℕ) → List ℕ
set_prm status fcs = 0x68 ∷ 0x0C ∷ 0x0C ∷ 0x68 ∷ 0x85 ∷ 0x82 ∷ 0x4D ∷ 0x3D ∷ 0x3E ∷ status ∷ 0x00 ∷ 0x00 ∷ 0x0B ∷ 0x80 ∷ 0xB3 ∷ 0x00 ∷ fcs ∷ 0x16 ∷ []

-- Chk_Cfg with the configuration that Start was given
abbrev chk_cfg : List ℕ
chk_cfg = 0x68 ∷ 0x06 ∷ 0x06 ∷ 0x68 ∷ 0x85 ∷ 0x82 ∷ 0x4D ∷ 0x3E ∷ 0x3E ∷ 0x20 ∷ 0xF0 ∷ 0x16 ∷ []

-- Global_Control to every station with this octet 0
abbrev pub control : (command fcs : ℕ) → List ℕ
control command fcs = 0x68 ∷ 0x07 ∷ 0x07 ∷ 0x68 ∷ 0xFF ∷ 0x82 ∷ 0x46 ∷ 0x3A ∷ 0x3E ∷ command ∷ 0x00 ∷ fcs ∷ 0x16 ∷ []

-- Data_Exchange with this output
abbrev pub exchange : (output fcs : ℕ) → List ℕ
exchange output fcs = 0x68 ∷ 0x04 ∷ 0x04 ∷ 0x68 ∷ 0x05 ∷ 0x02 ∷ 0x4D ∷ output ∷ fcs ∷ 0x16 ∷ []

-- and its reply with this input
abbrev pub input : (octet fcs : ℕ) → List ℕ
input octet fcs = 0x68 ∷ 0x04 ∷ 0x04 ∷ 0x68 ∷ 0x02 ∷ 0x05 ∷ 0x08 ∷ octet ∷ fcs ∷ 0x16 ∷ []

-- Slave_Diag
abbrev pub slave_diag : List ℕ
slave_diag = 0x68 ∷ 0x05 ∷ 0x05 ∷ 0x68 ∷ 0x85 ∷ 0x82 ∷ 0x6D ∷ 0x3C ∷ 0x3E ∷ 0xEE ∷ 0x16 ∷ []

-- its reply with these octets 0 and 1
abbrev diagnosis : (octet0 octet1 fcs : ℕ) → List ℕ
diagnosis octet0 octet1 fcs = 0x68 ∷ 0x0B ∷ 0x0B ∷ 0x68 ∷ 0x82 ∷ 0x85 ∷ 0x08 ∷ 0x3E ∷ 0x3C ∷ octet0 ∷ octet1 ∷ 0x00 ∷ 0x02 ∷ 0x80 ∷ 0xB3 ∷ fcs ∷ 0x16 ∷ []

-- Read_Inputs
abbrev read_inputs : List ℕ
read_inputs = 0x68 ∷ 0x05 ∷ 0x05 ∷ 0x68 ∷ 0x85 ∷ 0x82 ∷ 0x6D ∷ 0x38 ∷ 0x3E ∷ 0xEA ∷ 0x16 ∷ []

-- its reply with the input 21
abbrev inputs_read21 : List ℕ
inputs_read21 = 0x68 ∷ 0x06 ∷ 0x06 ∷ 0x68 ∷ 0x82 ∷ 0x85 ∷ 0x08 ∷ 0x3E ∷ 0x38 ∷ 0x21 ∷ 0xA6 ∷ 0x16 ∷ []

-- from WAIT_PRM into the exchange, with this octet 0 of Set_Prm
abbrev pub entered : (status fcs : ℕ) → List Part
entered status fcs =
    does gap 0 ∷ hears (set_prm status fcs) ∷ sends (0xE5 ∷ []) ∷ does send 256
    ∷ does gap 0 ∷ hears chk_cfg ∷ sends (0xE5 ∷ []) ∷ does send 256
    ∷ does (judge_parameters_call 1) 0 ∷ does (judge_configuration_call 1) 0 ∷ does (acknowledge 0xFFFF) 0 ∷ []

-- The lists.

-- in sync a Data_Exchange is answered, raises no event 13 and brings nothing to take, and a later one replaces it; sync publishes the
-- newest, again though octet 0 is the stored one, and unsync does and ends it
sync_holds_back : Answers started
    (entered 0xB0 0xBD
    ++ does gap 0 ∷ hears (control 0x20 0x5F) ∷ does send 256
    ∷ does events 0x0100
    ∷ does gap 0 ∷ hears (exchange 0x11 0x65) ∷ sends (input 0x00 0x0F) ∷ does send 256
    ∷ does take 0
    ∷ does gap 0 ∷ hears (exchange 0x22 0x76) ∷ sends (input 0x00 0x0F) ∷ does send 256
    ∷ does take 0
    ∷ does events 0x0100
    ∷ does gap 0 ∷ hears (control 0x20 0x5F) ∷ does send 256
    ∷ does events 0x2100
    ∷ does take 1 ∷ does (read 1 0) 0x22
    ∷ does gap 0 ∷ hears (control 0x20 0x5F) ∷ does send 256
    ∷ does take 0
    ∷ does gap 0 ∷ hears (exchange 0x33 0x87) ∷ sends (input 0x00 0x0F) ∷ does send 256
    ∷ does take 0
    ∷ does gap 0 ∷ hears (control 0x10 0x4F) ∷ does send 256
    ∷ does take 1 ∷ does (read 1 0) 0x33
    ∷ does gap 0 ∷ hears (exchange 0x44 0x98) ∷ sends (input 0x00 0x0F) ∷ does send 256
    ∷ does take 1 ∷ does (read 1 0) 0x44 ∷ [])
unfolding computing
sync_holds_back = written refl

-- both bits of a pair: the ending one acts
both_end : Answers started
    (entered 0xB0 0xBD
    ++ does gap 0 ∷ hears (control 0x28 0x67) ∷ does send 256
    ∷ does gap 0 ∷ hears (exchange 0x11 0x65) ∷ sends (input 0x00 0x0F) ∷ does send 256
    ∷ does gap 0 ∷ hears slave_diag ∷ sends (diagnosis 0x00 0x34 0xF2) ∷ does send 256
    ∷ does gap 0 ∷ hears (control 0x3C 0x7B) ∷ does send 256
    ∷ does take 1 ∷ does (read 1 0) 0x11
    ∷ does gap 0 ∷ hears slave_diag ∷ sends (diagnosis 0x00 0x04 0xC2) ∷ does send 256
    ∷ does gap 0 ∷ hears (exchange 0x22 0x76) ∷ sends (input 0x00 0x0F) ∷ does send 256
    ∷ does take 1 ∷ does (read 1 0) 0x22 ∷ [])
unfolding computing
both_end = written refl

-- clear comes last and empties what is held back; the mode stays
clear_empties : Answers started
    (entered 0xA0 0xAD
    ++ does gap 0 ∷ hears (control 0x20 0x5F) ∷ does send 256
    ∷ does gap 0 ∷ hears (exchange 0x11 0x65) ∷ sends (input 0x00 0x0F) ∷ does send 256
    ∷ does gap 0 ∷ hears (control 0x22 0x61) ∷ does send 256
    ∷ does take 2 ∷ does (read 1 0) 0x00
    ∷ does gap 0 ∷ hears (control 0x20 0x5F) ∷ does send 256
    ∷ does take 0
    ∷ does gap 0 ∷ hears (exchange 0x22 0x76) ∷ sends (input 0x00 0x0F) ∷ does send 256
    ∷ does gap 0 ∷ hears (control 0x02 0x41) ∷ does send 256
    ∷ does take 2 ∷ does (read 1 0) 0x00
    ∷ does gap 0 ∷ hears (control 0x10 0x4F) ∷ does send 256
    ∷ does take 0 ∷ [])
unfolding computing
clear_empties = written refl

-- freeze brings new inputs and keeps them, freeze again brings newer ones, and unfreeze does and ends it
freeze_keeps : Answers started
    (entered 0x90 0x9D
    ++ does (write 4 0 0x21) 0 ∷ does hand_over_call 0
    ∷ does gap 0 ∷ hears (control 0x08 0x47) ∷ does send 256
    ∷ does gap 0 ∷ hears (exchange 0x11 0x65) ∷ sends (input 0x21 0x30) ∷ does send 256
    ∷ does (write 4 0 0x22) 0 ∷ does hand_over_call 0
    ∷ does gap 0 ∷ hears (exchange 0x12 0x66) ∷ sends (input 0x21 0x30) ∷ does send 256
    ∷ does gap 0 ∷ hears (control 0x08 0x47) ∷ does send 256
    ∷ does gap 0 ∷ hears (exchange 0x13 0x67) ∷ sends (input 0x22 0x31) ∷ does send 256
    ∷ does (write 4 0 0x23) 0 ∷ does hand_over_call 0
    ∷ does gap 0 ∷ hears (exchange 0x14 0x68) ∷ sends (input 0x22 0x31) ∷ does send 256
    ∷ does gap 0 ∷ hears (control 0x04 0x43) ∷ does send 256
    ∷ does (write 4 0 0x24) 0 ∷ does hand_over_call 0
    ∷ does gap 0 ∷ hears (exchange 0x15 0x69) ∷ sends (input 0x24 0x33) ∷ does send 256 ∷ [])
unfolding computing
freeze_keeps = written refl

-- unfreeze brings new inputs also where no freeze was on
unfreeze_brings : Answers started
    (entered 0x90 0x9D
    ++ does (write 4 0 0x21) 0 ∷ does hand_over_call 0
    ∷ does gap 0 ∷ hears (control 0x04 0x43) ∷ does send 256
    ∷ does (write 4 0 0x22) 0 ∷ does hand_over_call 0
    ∷ does gap 0 ∷ hears read_inputs ∷ sends inputs_read21 ∷ does send 256 ∷ [])
unfolding computing
unfreeze_brings = written refl

-- the bits of a pair that Set_Prm did not allow are ignored, but for being stored
not_allowed : Answers started
    (entered 0x80 0x8D
    ++ does gap 0 ∷ hears (control 0x28 0x67) ∷ does send 256
    ∷ does events 0x0100
    ∷ does (write 4 0 0x21) 0 ∷ does hand_over_call 0
    ∷ does gap 0 ∷ hears (exchange 0x11 0x65) ∷ sends (input 0x21 0x30) ∷ does send 256
    ∷ does take 1 ∷ does (read 1 0) 0x11
    ∷ does gap 0 ∷ hears slave_diag ∷ sends (diagnosis 0x00 0x04 0xC2) ∷ does send 256 ∷ [])
unfolding computing
not_allowed = written refl

-- Chk_Cfg out of DATA_EXCH ends both modes and empties what is held back; what is allowed stays
configuration_ends : Answers started
    (entered 0xB0 0xBD
    ++ does gap 0 ∷ hears (control 0x28 0x67) ∷ does send 256
    ∷ does gap 0 ∷ hears (exchange 0x11 0x65) ∷ sends (input 0x00 0x0F) ∷ does send 256
    ∷ does gap 0 ∷ hears chk_cfg ∷ sends (0xE5 ∷ []) ∷ does send 256
    ∷ does take 2 ∷ does (read 1 0) 0x00
    ∷ does gap 0 ∷ hears slave_diag ∷ sends (diagnosis 0x02 0x04 0xC4) ∷ does send 256
    ∷ does (judge_configuration_call 1) 0
    ∷ does gap 0 ∷ hears (exchange 0x22 0x76) ∷ sends (input 0x00 0x0F) ∷ does send 256
    ∷ does take 1 ∷ does (read 1 0) 0x22
    ∷ does gap 0 ∷ hears (control 0x20 0x5F) ∷ does send 256
    ∷ does gap 0 ∷ hears (exchange 0x33 0x87) ∷ sends (input 0x00 0x0F) ∷ does send 256
    ∷ does take 0
    ∷ does gap 0 ∷ hears slave_diag ∷ sends (diagnosis 0x00 0x24 0xE2) ∷ does send 256 ∷ [])
unfolding computing
configuration_ends = written refl

-- so does WAIT_PRM, and the next good Set_Prm allows anew
leaving_ends : Answers started
    (entered 0xB0 0xBD
    ++ does gap 0 ∷ hears (control 0x28 0x67) ∷ does send 256
    ∷ does gap 0 ∷ hears (exchange 0x11 0x65) ∷ sends (input 0x00 0x0F) ∷ does send 256
    ∷ does leave 0
    ∷ does take 2 ∷ does (read 1 0) 0x00
    ∷ entered 0x80 0x8D
    ++ does gap 0 ∷ hears slave_diag ∷ sends (diagnosis 0x00 0x04 0xC2) ∷ does send 256
    ∷ does gap 0 ∷ hears (exchange 0x22 0x76) ∷ sends (input 0x00 0x0F) ∷ does send 256
    ∷ does take 1 ∷ does (read 1 0) 0x22
    ∷ does gap 0 ∷ hears (control 0x20 0x5F) ∷ does send 256
    ∷ does gap 0 ∷ hears (exchange 0x33 0x87) ∷ sends (input 0x00 0x0F) ∷ does send 256
    ∷ does take 1 ∷ does (read 1 0) 0x33 ∷ [])
unfolding computing
leaving_ends = written refl
