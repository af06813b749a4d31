-- Lists of calls with their answers where requests are sent again (document 02, Req 04), each computed from a fresh station: one output, one input,
-- up to 10 parameter octets, 4 of configuration and 10 of diagnosis, and 20 21 for Get_Cfg.
use Prim.Native.Nat.{ℕ}
use mathlib.Core.Path.{refl}
use mathlib.Core.List.{List, [], ◌∷◌, ◌++◌}
use Rattle.state.specs.declared.answer.Refusal.TheVariants.{Judging, Delayed}
use Rattle.ledger.specs.Ledger.{Ledger, fresh}
use Rattle.rules.specs.Call.{gap, send, tick, take, read, write, hand_over_call, new_diagnosis_call, judge_parameters_call, judge_configuration_call, events, acknowledge, leave}
use Rattle.ledger.specs.Script.{Part, hears, sends, does, refuses, Answers, station}
use Rattle.ledger.proofs.Scripts.{written}
use Rattle.ledger.proofs.Computing.{computing}

abbrev started : Ledger
started = fresh (station 1 1 10 4 10 2) (0x20 ∷ 0x21 ∷ [])

-- Telegrams and replies, those that come more than once among them; telegrams by their service and FC. The master is 2.

-- Chk_Cfg
abbrev chk_cfg4_d : List ℕ
chk_cfg4_d = 0x68 ∷ 0x07 ∷ 0x07 ∷ 0x68 ∷ 0x85 ∷ 0x82 ∷ 0x4D ∷ 0x3E ∷ 0x3E ∷ 0x20 ∷ 0x21 ∷ 0x11 ∷ 0x16 ∷ []

-- Data_Exchange with the output 11
abbrev exchange4_d : List ℕ
exchange4_d = 0x68 ∷ 0x04 ∷ 0x04 ∷ 0x68 ∷ 0x05 ∷ 0x02 ∷ 0x4D ∷ 0x11 ∷ 0x65 ∷ 0x16 ∷ []

-- the same with bit 4 set
abbrev pub exchange5_d : List ℕ
exchange5_d = 0x68 ∷ 0x04 ∷ 0x04 ∷ 0x68 ∷ 0x05 ∷ 0x02 ∷ 0x5D ∷ 0x11 ∷ 0x75 ∷ 0x16 ∷ []

-- and the output 22
abbrev exchange5_dwith22 : List ℕ
exchange5_dwith22 = 0x68 ∷ 0x04 ∷ 0x04 ∷ 0x68 ∷ 0x05 ∷ 0x02 ∷ 0x5D ∷ 0x22 ∷ 0x86 ∷ 0x16 ∷ []

-- with bit 5 set too, and the output 44
abbrev exchange7_dwith44 : List ℕ
exchange7_dwith44 = 0x68 ∷ 0x04 ∷ 0x04 ∷ 0x68 ∷ 0x05 ∷ 0x02 ∷ 0x7D ∷ 0x44 ∷ 0xC8 ∷ 0x16 ∷ []

-- and 11
abbrev pub exchange7_dwith11 : List ℕ
exchange7_dwith11 = 0x68 ∷ 0x04 ∷ 0x04 ∷ 0x68 ∷ 0x05 ∷ 0x02 ∷ 0x7D ∷ 0x11 ∷ 0x95 ∷ 0x16 ∷ []

-- Get_Cfg
abbrev get_cfg5_d : List ℕ
get_cfg5_d = 0x68 ∷ 0x05 ∷ 0x05 ∷ 0x68 ∷ 0x85 ∷ 0x82 ∷ 0x5D ∷ 0x3B ∷ 0x3E ∷ 0xDD ∷ 0x16 ∷ []

-- and its reply
abbrev get_cfg_told : List ℕ
get_cfg_told = 0x68 ∷ 0x07 ∷ 0x07 ∷ 0x68 ∷ 0x82 ∷ 0x85 ∷ 0x08 ∷ 0x3E ∷ 0x3B ∷ 0x20 ∷ 0x21 ∷ 0xC9 ∷ 0x16 ∷ []

-- the reply to a Data_Exchange with the input 00
abbrev input00 : List ℕ
input00 = 0x68 ∷ 0x04 ∷ 0x04 ∷ 0x68 ∷ 0x02 ∷ 0x05 ∷ 0x08 ∷ 0x00 ∷ 0x0F ∷ 0x16 ∷ []

-- and 21
abbrev input21 : List ℕ
input21 = 0x68 ∷ 0x04 ∷ 0x04 ∷ 0x68 ∷ 0x02 ∷ 0x05 ∷ 0x08 ∷ 0x21 ∷ 0x30 ∷ 0x16 ∷ []

-- Read_Outputs of master 3, function 12
abbrev read_outputs5_cof3 : List ℕ
read_outputs5_cof3 = 0x68 ∷ 0x05 ∷ 0x05 ∷ 0x68 ∷ 0x85 ∷ 0x83 ∷ 0x5C ∷ 0x39 ∷ 0x3E ∷ 0xDB ∷ 0x16 ∷ []

-- Set_Prm
abbrev set_prm4_d : List ℕ
set_prm4_d = 0x68 ∷ 0x0C ∷ 0x0C ∷ 0x68 ∷ 0x85 ∷ 0x82 ∷ 0x4D ∷ 0x3D ∷ 0x3E ∷ 0x80 ∷ 0x00 ∷ 0x00 ∷ 0x0B ∷ 0x80 ∷ 0xB3 ∷ 0x00 ∷ 0x8D ∷ 0x16 ∷ []

-- with bit 4 set
abbrev set_prm5_d : List ℕ
set_prm5_d = 0x68 ∷ 0x0C ∷ 0x0C ∷ 0x68 ∷ 0x85 ∷ 0x82 ∷ 0x5D ∷ 0x3D ∷ 0x3E ∷ 0x80 ∷ 0x00 ∷ 0x00 ∷ 0x0B ∷ 0x80 ∷ 0xB3 ∷ 0x00 ∷ 0x9D ∷ 0x16 ∷ []

-- with a watchdog of 3 ticks, on a base of 1 ms
abbrev set_prm5_dwatched : List ℕ
set_prm5_dwatched = 0x68 ∷ 0x0D ∷ 0x0D ∷ 0x68 ∷ 0x85 ∷ 0x82 ∷ 0x5D ∷ 0x3D ∷ 0x3E ∷ 0x88 ∷ 0x01 ∷ 0x03 ∷ 0x0B ∷ 0x80 ∷ 0xB3 ∷ 0x00 ∷ 0x04 ∷ 0xAD ∷ 0x16 ∷ []

-- with bit 5 set and bit 4 clear
abbrev set_prm6_d : List ℕ
set_prm6_d = 0x68 ∷ 0x0C ∷ 0x0C ∷ 0x68 ∷ 0x85 ∷ 0x82 ∷ 0x6D ∷ 0x3D ∷ 0x3E ∷ 0x80 ∷ 0x00 ∷ 0x00 ∷ 0x0B ∷ 0x80 ∷ 0xB3 ∷ 0x00 ∷ 0xAD ∷ 0x16 ∷ []

-- Slave_Diag
abbrev slave_diag5_d : List ℕ
slave_diag5_d = 0x68 ∷ 0x05 ∷ 0x05 ∷ 0x68 ∷ 0x85 ∷ 0x82 ∷ 0x5D ∷ 0x3C ∷ 0x3E ∷ 0xDE ∷ 0x16 ∷ []

-- of master 3
abbrev slave_diag5_dof3 : List ℕ
slave_diag5_dof3 = 0x68 ∷ 0x05 ∷ 0x05 ∷ 0x68 ∷ 0x85 ∷ 0x83 ∷ 0x5D ∷ 0x3C ∷ 0x3E ∷ 0xDF ∷ 0x16 ∷ []

-- its reply in DATA_EXCH
abbrev diagnosis_told : List ℕ
diagnosis_told = 0x68 ∷ 0x0B ∷ 0x0B ∷ 0x68 ∷ 0x82 ∷ 0x85 ∷ 0x08 ∷ 0x3E ∷ 0x3C ∷ 0x00 ∷ 0x04 ∷ 0x00 ∷ 0x02 ∷ 0x80 ∷ 0xB3 ∷ 0xC2 ∷ 0x16 ∷ []

-- outside it, to master 3
abbrev diagnosis_told_to3 : List ℕ
diagnosis_told_to3 = 0x68 ∷ 0x0B ∷ 0x0B ∷ 0x68 ∷ 0x83 ∷ 0x85 ∷ 0x08 ∷ 0x3E ∷ 0x3C ∷ 0x02 ∷ 0x04 ∷ 0x00 ∷ 0x02 ∷ 0x80 ∷ 0xB3 ∷ 0xC5 ∷ 0x16 ∷ []

-- in it, to master 3
abbrev diagnosis_told_in_exchange_to3 : List ℕ
diagnosis_told_in_exchange_to3 = 0x68 ∷ 0x0B ∷ 0x0B ∷ 0x68 ∷ 0x83 ∷ 0x85 ∷ 0x08 ∷ 0x3E ∷ 0x3C ∷ 0x00 ∷ 0x04 ∷ 0x00 ∷ 0x02 ∷ 0x80 ∷ 0xB3 ∷ 0xC3 ∷ 0x16 ∷ []

-- to master 2, with overflow and a seventh octet
abbrev diagnosis_told7 : List ℕ
diagnosis_told7 = 0x68 ∷ 0x0C ∷ 0x0C ∷ 0x68 ∷ 0x82 ∷ 0x85 ∷ 0x08 ∷ 0x3E ∷ 0x3C ∷ 0x00 ∷ 0x04 ∷ 0x80 ∷ 0x02 ∷ 0x80 ∷ 0xB3 ∷ 0xAA ∷ 0xEC ∷ 0x16 ∷ []

-- the reply to Read_Inputs with the input 00
abbrev inputs_told : List ℕ
inputs_told = 0x68 ∷ 0x06 ∷ 0x06 ∷ 0x68 ∷ 0x82 ∷ 0x85 ∷ 0x08 ∷ 0x3E ∷ 0x38 ∷ 0x00 ∷ 0x85 ∷ 0x16 ∷ []

-- sync, FC bits 4 and 5 clear
abbrev sync46 : List ℕ
sync46 = 0x68 ∷ 0x07 ∷ 0x07 ∷ 0x68 ∷ 0x85 ∷ 0x82 ∷ 0x46 ∷ 0x3A ∷ 0x3E ∷ 0x20 ∷ 0x00 ∷ 0xE5 ∷ 0x16 ∷ []

-- the reply to a status request
abbrev status_told : List ℕ
status_told = 0x10 ∷ 0x02 ∷ 0x05 ∷ 0x00 ∷ 0x07 ∷ 0x16 ∷ []

-- RS
abbrev pub rs : List ℕ
rs = 0x10 ∷ 0x02 ∷ 0x05 ∷ 0x03 ∷ 0x0A ∷ 0x16 ∷ []

-- E5
abbrev pub e5 : List ℕ
e5 = 0xE5 ∷ []

-- into DATA_EXCH
abbrev entering : List Part
entering =
    does gap 0 ∷ hears set_prm4_d ∷ sends e5 ∷ does send 256 ∷ does gap 0 ∷ hears chk_cfg4_d ∷ sends e5 ∷ does send 256 ∷ does (judge_parameters_call 1) 0 ∷ does (judge_configuration_call 1) 0 ∷ does events 0x0002 ∷ []

-- The lists.

-- a Set_Prm that drew E5 is sent again: E5, and the parameters are shown once
set_prm_again : Answers started
    (does gap 0 ∷ hears set_prm5_d ∷ sends e5 ∷ does send 256 ∷ does events 0x0800 ∷ does (judge_parameters_call 1) 0
    ∷ does gap 0 ∷ hears set_prm5_d ∷ sends e5 ∷ does send 256 ∷ does events 0x0000 ∷ refuses (judge_parameters_call 1) Judging
    ∷ does gap 0 ∷ hears set_prm5_d ∷ sends e5 ∷ does send 256 ∷ does events 0x0000
    ∷ does gap 0 ∷ hears (0x68 ∷ 0x0C ∷ 0x0C ∷ 0x68 ∷ 0x85 ∷ 0x82 ∷ 0x7D ∷ 0x3D ∷ 0x3E ∷ 0x80 ∷ 0x00 ∷ 0x00 ∷ 0x0B ∷ 0x80 ∷ 0xB3 ∷ 0x00 ∷ 0xBD ∷ 0x16 ∷ [])
    ∷ sends e5 ∷ does send 256 ∷ does events 0x0800 ∷ [])
unfolding computing
set_prm_again = written refl

-- a request with FC bit 4 clear ends the chain
bit_4_clear_ends : Answers started
    (does gap 0 ∷ hears set_prm5_d ∷ sends e5 ∷ does send 256 ∷ does (judge_parameters_call 1) 0
    ∷ does gap 0 ∷ hears (0x10 ∷ 0x05 ∷ 0x02 ∷ 0x49 ∷ 0x50 ∷ 0x16 ∷ []) ∷ sends status_told ∷ does send 256
    ∷ does gap 0 ∷ hears set_prm5_d ∷ sends e5 ∷ does send 256 ∷ does events 0x0800 ∷ does (judge_parameters_call 1) 0
    ∷ does gap 0 ∷ hears set_prm6_d ∷ sends e5 ∷ does send 256 ∷ does events 0x0800 ∷ does (judge_parameters_call 1) 0
    ∷ does gap 0 ∷ hears set_prm6_d ∷ sends e5 ∷ does send 256 ∷ does events 0x0800 ∷ [])
unfolding computing
bit_4_clear_ends = written refl

-- so does one of another master
another_master_ends : Answers started
    (does gap 0 ∷ hears set_prm5_d ∷ sends e5 ∷ does send 256 ∷ does (judge_parameters_call 1) 0
    ∷ does gap 0 ∷ hears (0x68 ∷ 0x05 ∷ 0x05 ∷ 0x68 ∷ 0x85 ∷ 0x83 ∷ 0x4D ∷ 0x3C ∷ 0x3E ∷ 0xCF ∷ 0x16 ∷ []) ∷ sends diagnosis_told_to3 ∷ does send 256
    ∷ does gap 0 ∷ hears set_prm5_d ∷ sends e5 ∷ does send 256 ∷ does events 0x0800 ∷ does (judge_parameters_call 1) 0
    ∷ does gap 0 ∷ hears slave_diag5_dof3 ∷ sends diagnosis_told_to3 ∷ does send 256
    ∷ does gap 0 ∷ hears set_prm5_d ∷ sends e5 ∷ does send 256 ∷ does events 0x0800 ∷ does (judge_parameters_call 1) 0
    ∷ does gap 0 ∷ hears (0x10 ∷ 0x05 ∷ 0x03 ∷ 0x40 ∷ 0x48 ∷ 0x16 ∷ []) ∷ does send 256
    ∷ does gap 0 ∷ hears set_prm5_d ∷ sends e5 ∷ does send 256 ∷ does events 0x0800 ∷ [])
unfolding computing
another_master_ends = written refl

-- telegrams with functions 4 and 6, Global_Control among them, leave the chain
functions_4_and_6_leave : Answers started
    (does gap 0 ∷ hears (0x68 ∷ 0x0C ∷ 0x0C ∷ 0x68 ∷ 0x85 ∷ 0x82 ∷ 0x4D ∷ 0x3D ∷ 0x3E ∷ 0xA0 ∷ 0x00 ∷ 0x00 ∷ 0x0B ∷ 0x80 ∷ 0xB3 ∷ 0x00 ∷ 0xAD ∷ 0x16 ∷ [])
    ∷ sends e5 ∷ does send 256
    ∷ does gap 0 ∷ hears chk_cfg4_d ∷ sends e5 ∷ does send 256 ∷ does (judge_parameters_call 1) 0 ∷ does (judge_configuration_call 1) 0 ∷ does events 0x0002
    ∷ does gap 0 ∷ hears exchange5_d ∷ sends input00 ∷ does send 256 ∷ does take 1
    ∷ does gap 0 ∷ hears (0x68 ∷ 0x07 ∷ 0x07 ∷ 0x68 ∷ 0x85 ∷ 0x82 ∷ 0x76 ∷ 0x3A ∷ 0x3E ∷ 0x20 ∷ 0x00 ∷ 0x15 ∷ 0x16 ∷ []) ∷ does send 256
    ∷ does gap 0 ∷ hears exchange5_d ∷ sends input00 ∷ does send 256 ∷ does gap 0 ∷ hears sync46 ∷ does send 256 ∷ does take 0
    ∷ does gap 0 ∷ hears (0x68 ∷ 0x05 ∷ 0x05 ∷ 0x68 ∷ 0x85 ∷ 0x82 ∷ 0x4D ∷ 0x3C ∷ 0x3E ∷ 0xCE ∷ 0x16 ∷ []) ∷ sends (0x68 ∷ 0x0B ∷ 0x0B ∷ 0x68 ∷ 0x82 ∷ 0x85 ∷ 0x08 ∷ 0x3E ∷ 0x3C ∷ 0x00 ∷ 0x24 ∷ 0x00 ∷ 0x02 ∷ 0x80 ∷ 0xB3 ∷ 0xE2 ∷ 0x16 ∷ [])
    ∷ does send 256
    ∷ does gap 0 ∷ hears exchange5_dwith22 ∷ sends input00 ∷ does send 256
    ∷ does gap 0 ∷ hears sync46 ∷ does send 256 ∷ does take 1
    ∷ does (read 1 0) 0x22
    ∷ does gap 0 ∷ hears (0x68 ∷ 0x04 ∷ 0x04 ∷ 0x68 ∷ 0x05 ∷ 0x03 ∷ 0x44 ∷ 0x01 ∷ 0x4D ∷ 0x16 ∷ []) ∷ does send 256
    ∷ does gap 0 ∷ hears (0x68 ∷ 0x04 ∷ 0x04 ∷ 0x68 ∷ 0x05 ∷ 0x02 ∷ 0x5D ∷ 0x33 ∷ 0x97 ∷ 0x16 ∷ []) ∷ sends input00 ∷ does send 256
    ∷ does gap 0 ∷ hears (0x68 ∷ 0x07 ∷ 0x07 ∷ 0x68 ∷ 0x85 ∷ 0x82 ∷ 0x54 ∷ 0x3A ∷ 0x3E ∷ 0x20 ∷ 0x00 ∷ 0xF3 ∷ 0x16 ∷ []) ∷ does send 256 ∷ does take 0
    ∷ does gap 0 ∷ hears exchange7_dwith44 ∷ sends input00 ∷ does send 256
    ∷ does gap 0 ∷ hears (0x68 ∷ 0x07 ∷ 0x07 ∷ 0x68 ∷ 0x85 ∷ 0x82 ∷ 0x46 ∷ 0x3A ∷ 0x3E ∷ 0x10 ∷ 0x00 ∷ 0xD5 ∷ 0x16 ∷ []) ∷ does send 256 ∷ does take 1
    ∷ does (read 1 0) 0x44 ∷ [])
unfolding computing
functions_4_and_6_leave = written refl

-- a Data_Exchange sent again with other outputs: they are not published, and the inputs are drawn again
data_exchange_again : Answers started
    (entering ++ (does (write 4 0 0x21) 0 ∷ does hand_over_call 0
    ∷ does gap 0 ∷ hears exchange5_d ∷ sends input21 ∷ does send 256 ∷ does take 1 ∷ does (acknowledge 65535) 0 ∷ does (write 4 0 0x22) 0
    ∷ does hand_over_call 0 ∷ does (new_diagnosis_call 6 0) 0 ∷ does (acknowledge 65535) 0
    ∷ does gap 0 ∷ hears exchange5_dwith22 ∷ sends (0x68 ∷ 0x04 ∷ 0x04 ∷ 0x68 ∷ 0x02 ∷ 0x05 ∷ 0x0A ∷ 0x21 ∷ 0x32 ∷ 0x16 ∷ []) ∷ does send 256 ∷ does events 0x0000
    ∷ does take 0 ∷ does (read 1 0) 0x11
    ∷ does gap 0 ∷ hears exchange7_dwith11 ∷ sends (0x68 ∷ 0x04 ∷ 0x04 ∷ 0x68 ∷ 0x02 ∷ 0x05 ∷ 0x0A ∷ 0x22 ∷ 0x33 ∷ 0x16 ∷ []) ∷ does send 256 ∷ does events 0x2000
    ∷ does take 1 ∷ []))
unfolding computing
data_exchange_again = written refl

-- a Slave_Diag sent again is formed anew and clears no Diag_Flag
slave_diag_again : Answers started
    (entering ++ (does (new_diagnosis_call 6 1) 0
    ∷ does gap 0 ∷ hears slave_diag5_d ∷ sends (0x68 ∷ 0x0B ∷ 0x0B ∷ 0x68 ∷ 0x82 ∷ 0x85 ∷ 0x08 ∷ 0x3E ∷ 0x3C ∷ 0x08 ∷ 0x04 ∷ 0x00 ∷ 0x02 ∷ 0x80 ∷ 0xB3 ∷ 0xCA ∷ 0x16 ∷ [])
    ∷ does send 256 ∷ does (write 5 6 0xAA) 0 ∷ does (new_diagnosis_call 7 4) 0
    ∷ does gap 0 ∷ hears slave_diag5_d ∷ sends diagnosis_told7 ∷ does send 256
    ∷ does gap 0 ∷ hears exchange4_d ∷ sends (0x68 ∷ 0x04 ∷ 0x04 ∷ 0x68 ∷ 0x02 ∷ 0x05 ∷ 0x0A ∷ 0x00 ∷ 0x11 ∷ 0x16 ∷ []) ∷ does send 256
    ∷ does gap 0 ∷ hears slave_diag5_d ∷ sends diagnosis_told7 ∷ does send 256
    ∷ does gap 0 ∷ hears exchange4_d ∷ sends input00 ∷ does send 256 ∷ []))
unfolding computing
slave_diag_again = written refl

-- and its reply delays a new diagnosis
diagnosis_delayed_again : Answers started
    (does gap 0 ∷ hears slave_diag5_d ∷ sends (0x68 ∷ []) ∷ does (new_diagnosis_call 7 1) 0 ∷ refuses (new_diagnosis_call 7 1) Delayed
    ∷ does gap 0 ∷ hears slave_diag5_d ∷ sends (0x68 ∷ 0x0C ∷ 0x0C ∷ 0x68 ∷ 0x82 ∷ 0x85 ∷ 0x08 ∷ 0x3E ∷ 0x3C ∷ 0x0A ∷ 0x05 ∷ 0x00 ∷ 0xFF ∷ 0x80 ∷ 0xB3 ∷ 0x00 ∷ 0xCA ∷ 0x16 ∷ [])
    ∷ does events 0x1000 ∷ does (acknowledge 65535) 0
    ∷ does gap 0 ∷ hears slave_diag5_d ∷ sends (0x68 ∷ []) ∷ does (new_diagnosis_call 8 2) 0 ∷ refuses (new_diagnosis_call 8 2) Delayed ∷ does events 0x0000 ∷ [])
unfolding computing
diagnosis_delayed_again = written refl

-- no RS for phase or owner
no_rs_again : Answers started
    (entering ++ (does (write 4 0 0x21) 0 ∷ does hand_over_call 0
    ∷ does gap 0 ∷ hears exchange5_d ∷ sends input21 ∷ does send 256 ∷ does leave 0 ∷ does take 2 ∷ does (acknowledge 65535) 0
    ∷ does gap 0 ∷ hears exchange5_d ∷ sends input21 ∷ does send 256 ∷ does events 0x0000 ∷ does take 0
    ∷ does gap 0 ∷ hears exchange7_dwith11 ∷ sends rs ∷ does send 256 ∷ []))
unfolding computing
no_rs_again = written refl

-- Read_Outputs, Leave master, and Read_Outputs again
read_outputs_again : Answers started
    (entering ++ (does gap 0 ∷ hears exchange4_d ∷ sends input00 ∷ does send 256 ∷ does take 1
    ∷ does gap 0 ∷ hears read_outputs5_cof3 ∷ sends (0x68 ∷ 0x06 ∷ 0x06 ∷ 0x68 ∷ 0x83 ∷ 0x85 ∷ 0x08 ∷ 0x3E ∷ 0x39 ∷ 0x11 ∷ 0x98 ∷ 0x16 ∷ []) ∷ does send 256
    ∷ does leave 0 ∷ does take 2
    ∷ does gap 0 ∷ hears read_outputs5_cof3 ∷ sends (0x68 ∷ 0x06 ∷ 0x06 ∷ 0x68 ∷ 0x83 ∷ 0x85 ∷ 0x08 ∷ 0x3E ∷ 0x39 ∷ 0x00 ∷ 0x87 ∷ 0x16 ∷ []) ∷ does send 256 ∷ []))
unfolding computing
read_outputs_again = written refl

-- nothing but SA and FC of a repeat is looked at
octets_differ : Answers started
    (entering ++ (does gap 0 ∷ hears slave_diag5_d ∷ sends diagnosis_told ∷ does send 256
    ∷ does gap 0 ∷ hears exchange5_d ∷ sends diagnosis_told ∷ does send 256 ∷ does take 0
    ∷ does gap 0 ∷ hears (0x68 ∷ 0x06 ∷ 0x06 ∷ 0x68 ∷ 0x05 ∷ 0x02 ∷ 0x5D ∷ 0x11 ∷ 0x22 ∷ 0x33 ∷ 0xCA ∷ 0x16 ∷ []) ∷ sends diagnosis_told ∷ does send 256
    ∷ does gap 0 ∷ hears exchange7_dwith44 ∷ sends input00 ∷ does send 256
    ∷ does gap 0 ∷ hears (0x68 ∷ 0x05 ∷ 0x05 ∷ 0x68 ∷ 0x85 ∷ 0x82 ∷ 0x7C ∷ 0x3B ∷ 0x3E ∷ 0xFC ∷ 0x16 ∷ []) ∷ sends input00 ∷ does send 256
    ∷ does gap 0 ∷ hears (0x10 ∷ 0x05 ∷ 0x02 ∷ 0x73 ∷ 0x7A ∷ 0x16 ∷ []) ∷ sends input00 ∷ does send 256 ∷ []))
unfolding computing
octets_differ = written refl

-- status, RS and nothing are drawn again by requests of other functions and services, RS also where the request would be served now, and the
-- inputs outside DATA_EXCH
status_rs_nothing_inputs_again : Answers started
    (does gap 0 ∷ hears (0x10 ∷ 0x05 ∷ 0x02 ∷ 0x59 ∷ 0x60 ∷ 0x16 ∷ []) ∷ sends status_told ∷ does send 256
    ∷ does gap 0 ∷ hears set_prm5_d ∷ sends status_told ∷ does send 256 ∷ does events 0x0000
    ∷ does gap 0 ∷ hears (0x10 ∷ 0x05 ∷ 0x02 ∷ 0x73 ∷ 0x7A ∷ 0x16 ∷ []) ∷ sends rs ∷ does send 256
    ∷ does gap 0 ∷ hears (0x10 ∷ 0x05 ∷ 0x02 ∷ 0x70 ∷ 0x77 ∷ 0x16 ∷ []) ∷ sends rs ∷ does send 256
    ∷ does gap 0 ∷ hears (0x10 ∷ 0x05 ∷ 0x02 ∷ 0x50 ∷ 0x57 ∷ 0x16 ∷ []) ∷ does send 256
    ∷ does gap 0 ∷ hears slave_diag5_d ∷ does send 256
    ∷ does gap 0 ∷ hears set_prm4_d ∷ sends e5 ∷ does send 256 ∷ does gap 0 ∷ hears chk_cfg4_d ∷ sends e5 ∷ does send 256 ∷ does (judge_parameters_call 1) 0
    ∷ does gap 0 ∷ hears exchange5_d ∷ sends rs ∷ does send 256 ∷ does (judge_configuration_call 1) 0
    ∷ does gap 0 ∷ hears exchange5_d ∷ sends rs ∷ does send 256 ∷ does take 0
    ∷ does gap 0 ∷ hears (0x68 ∷ 0x05 ∷ 0x05 ∷ 0x68 ∷ 0x85 ∷ 0x82 ∷ 0x7D ∷ 0x38 ∷ 0x3E ∷ 0xFA ∷ 0x16 ∷ []) ∷ sends inputs_told ∷ does send 256 ∷ does leave 0
    ∷ does gap 0 ∷ hears (0x68 ∷ 0x05 ∷ 0x05 ∷ 0x68 ∷ 0x85 ∷ 0x82 ∷ 0x7D ∷ 0x38 ∷ 0x3E ∷ 0xFA ∷ 0x16 ∷ []) ∷ sends inputs_told ∷ does send 256 ∷ [])
unfolding computing
status_rs_nothing_inputs_again = written refl

-- a Global_Control acts though the chain is another master's
control_behind_another : Answers started
    (entering ++ (does gap 0 ∷ hears slave_diag5_dof3 ∷ sends diagnosis_told_in_exchange_to3 ∷ does send 256
    ∷ does gap 0 ∷ hears (0x68 ∷ 0x07 ∷ 0x07 ∷ 0x68 ∷ 0x85 ∷ 0x82 ∷ 0x46 ∷ 0x3A ∷ 0x3E ∷ 0x02 ∷ 0x00 ∷ 0xC7 ∷ 0x16 ∷ []) ∷ does send 256
    ∷ does take 2 ∷ does events 0x2102 ∷ []))
unfolding computing
control_behind_another = written refl

-- the owner's repeat refills the watchdog
refills_again : Answers started
    (does gap 0 ∷ hears set_prm5_dwatched ∷ sends e5 ∷ does send 256 ∷ does tick 0 ∷ does tick 0
    ∷ does gap 0 ∷ hears set_prm5_dwatched ∷ sends e5 ∷ does send 256 ∷ does tick 0 ∷ does tick 0 ∷ does events 0x0800
    ∷ does gap 0 ∷ hears slave_diag5_dof3 ∷ sends (0x68 ∷ 0x0B ∷ 0x0B ∷ 0x68 ∷ 0x83 ∷ 0x85 ∷ 0x08 ∷ 0x3E ∷ 0x3C ∷ 0x02 ∷ 0x0C ∷ 0x00 ∷ 0x02 ∷ 0x80 ∷ 0xB3 ∷ 0xCD ∷ 0x16 ∷ [])
    ∷ does send 256 ∷ does tick 0 ∷ does events 0x2008 ∷ [])
unfolding computing
refills_again = written refl

-- a clear leaves the chain: behind it a request to no service point draws Get_Cfg's reply
chain_survives_clear : Answers started
    (entering ++ (does gap 0 ∷ hears get_cfg5_d ∷ sends (0x68 ∷ []) ∷ does leave 0
    ∷ does gap 0 ∷ hears (0x10 ∷ []) ∷ does tick 0 ∷ does take 2
    ∷ does gap 0 ∷ hears (0x68 ∷ 0x05 ∷ 0x05 ∷ 0x68 ∷ 0x85 ∷ 0x82 ∷ 0x5D ∷ 0x60 ∷ 0x3E ∷ 0x02 ∷ 0x16 ∷ []) ∷ sends get_cfg_told ∷ does send 256
    ∷ does gap 0 ∷ hears get_cfg5_d ∷ sends get_cfg_told ∷ does send 256 ∷ []))
unfolding computing
chain_survives_clear = written refl
