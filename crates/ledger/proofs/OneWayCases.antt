-- Lists of calls with their answers at stations without inputs or without outputs (document 02, Req 05), each computed from a fresh station: a
-- panel with one output, and a sensor with one input. What holds at every index and of every telegram stands in specs/OneWay.antt.
use Prim.Native.Nat.{ℕ}
use mathlib.Core.Path.{refl}
use mathlib.Core.List.{List, [], ◌∷◌, ◌++◌}
use Rattle.state.specs.declared.answer.Refusal.TheVariants.{Range}
use Rattle.ledger.specs.Ledger.{Ledger, fresh}
use Rattle.rules.specs.Call.{gap, send, take, read, write, hand_over_call, new_diagnosis_call, events, acknowledge, leave}
use Rattle.ledger.specs.Script.{hears, sends, does, refuses, Answers, station}
use Rattle.ledger.proofs.Scripts.{written}
use Rattle.ledger.proofs.Computing.{computing}
use Rattle.ledger.proofs.ModeCases.{control, exchange, input, slave_diag, entered}
use Rattle.ledger.proofs.RetryCases.{e5, rs, exchange5_d, exchange7_dwith11}

-- one output, no input
abbrev panel : Ledger
panel = fresh (station 1 0 7 1 6 1) (0x20 ∷ [])

-- no output, one input
abbrev sensor : Ledger
sensor = fresh (station 0 1 7 1 6 1) (0x20 ∷ [])

-- Data_Exchange without data, FC bit 4 clear
abbrev poll : List ℕ
poll = 0x10 ∷ 0x05 ∷ 0x02 ∷ 0x4D ∷ 0x54 ∷ 0x16 ∷ []

-- with bit 4 set
abbrev poll5_d : List ℕ
poll5_d = 0x10 ∷ 0x05 ∷ 0x02 ∷ 0x5D ∷ 0x64 ∷ 0x16 ∷ []

-- FC 0A and one octet 00
abbrev flag_told : List ℕ
flag_told = 0x68 ∷ 0x04 ∷ 0x04 ∷ 0x68 ∷ 0x02 ∷ 0x05 ∷ 0x0A ∷ 0x00 ∷ 0x11 ∷ 0x16 ∷ []

-- Read_Inputs, with FC bit 4 set, and its reply without inputs
abbrev read_inputs5_d : List ℕ
read_inputs5_d = 0x68 ∷ 0x05 ∷ 0x05 ∷ 0x68 ∷ 0x85 ∷ 0x82 ∷ 0x5D ∷ 0x38 ∷ 0x3E ∷ 0xDA ∷ 0x16 ∷ []

abbrev no_inputs_read : List ℕ
no_inputs_read = 0x68 ∷ 0x05 ∷ 0x05 ∷ 0x68 ∷ 0x82 ∷ 0x85 ∷ 0x08 ∷ 0x3E ∷ 0x38 ∷ 0x85 ∷ 0x16 ∷ []

-- the reply to Slave_Diag in WAIT_PRM with Cfg_Fault
abbrev fault_told : List ℕ
fault_told = 0x68 ∷ 0x0B ∷ 0x0B ∷ 0x68 ∷ 0x82 ∷ 0x85 ∷ 0x08 ∷ 0x3E ∷ 0x3C ∷ 0x06 ∷ 0x05 ∷ 0x00 ∷ 0xFF ∷ 0x80 ∷ 0xB3 ∷ 0xC6 ∷ 0x16 ∷ []

-- sync, unsync and clear
abbrev sync : List ℕ
sync = control 0x20 0x5F

abbrev unsync : List ℕ
unsync = control 0x10 0x4F

abbrev clear : List ℕ
clear = control 0x02 0x41

-- without inputs a Data_Exchange draws E5, and while Diag_Flag an SD2 with one octet 00. A repeat of one that drew E5 draws E5, Diag_Flag or
-- not, and publishes nothing; a repeat of the other draws the SD2 again
panel_replies : Answers panel
    (entered 0xB0 0xBD
    ++ does gap 0 ∷ hears exchange5_d ∷ sends e5 ∷ does send 256 ∷ does take 1 ∷ does (read 1 0) 0x11
    ∷ does (new_diagnosis_call 6 0) 0
    ∷ does gap 0 ∷ hears exchange5_d ∷ sends e5 ∷ does send 256 ∷ does take 0
    ∷ does gap 0 ∷ hears exchange7_dwith11 ∷ sends flag_told ∷ does send 256 ∷ does take 1
    ∷ does gap 0 ∷ hears exchange7_dwith11 ∷ sends flag_told ∷ does send 256 ∷ does take 0 ∷ [])
unfolding computing
panel_replies = written refl

-- Read_Inputs and its repeat send 3E and DSAP alone, kind 4 is out of range, and handing over works, in freeze too
panel_without_inputs : Answers panel
    (entered 0xB0 0xBD
    ++ does gap 0 ∷ hears read_inputs5_d ∷ sends no_inputs_read ∷ does send 256
    ∷ does gap 0 ∷ hears read_inputs5_d ∷ sends no_inputs_read ∷ does send 256
    ∷ refuses (read 4 0) Range ∷ refuses (write 4 0 0x21) Range ∷ does hand_over_call 0
    ∷ does gap 0 ∷ hears (control 0x08 0x47) ∷ does send 256 ∷ does hand_over_call 0
    ∷ does gap 0 ∷ hears (exchange 0x11 0x65) ∷ sends e5 ∷ does send 256 ∷ does take 1
    ∷ does gap 0 ∷ hears (control 0x04 0x43) ∷ does send 256
    ∷ does gap 0 ∷ hears (exchange 0x22 0x76) ∷ sends e5 ∷ does send 256 ∷ does take 1 ∷ does (read 1 0) 0x22 ∷ [])
unfolding computing
panel_without_inputs = written refl

-- an SD1 is no Data_Exchange of a station with outputs: RS, Cfg_Fault, WAIT_PRM
panel_polled : Answers panel
    (entered 0xB0 0xBD
    ++ does gap 0 ∷ hears poll ∷ sends rs ∷ does send 256 ∷ does events 0x2002 ∷ does take 2
    ∷ does gap 0 ∷ hears slave_diag ∷ sends fault_told ∷ does send 256
    ∷ does gap 0 ∷ hears (exchange 0x11 0x65) ∷ sends rs ∷ does send 256 ∷ [])
unfolding computing
panel_polled = written refl

-- without outputs Data_Exchange comes as SD1 and publishes the empty list: event 13, take 1, once for a request and its repeat
sensor_polled : Answers sensor
    (entered 0xB0 0xBD
    ++ does (write 4 0 0x21) 0 ∷ does hand_over_call 0
    ∷ does gap 0 ∷ hears poll5_d ∷ sends (input 0x21 0x30) ∷ does send 256 ∷ does events 0x2000 ∷ does take 1 ∷ does take 0
    ∷ does (acknowledge 0x2000) 0
    ∷ does gap 0 ∷ hears poll5_d ∷ sends (input 0x21 0x30) ∷ does send 256 ∷ does events 0x0000 ∷ does take 0
    ∷ does gap 0 ∷ hears poll ∷ sends (input 0x21 0x30) ∷ does send 256 ∷ does events 0x2000 ∷ does take 1 ∷ [])
unfolding computing
sensor_polled = written refl

-- any data is a wrong count: RS, Cfg_Fault, WAIT_PRM with zeros, which are the empty list: take 2
sensor_given_data : Answers sensor
    (entered 0xB0 0xBD
    ++ does gap 0 ∷ hears (exchange 0x11 0x65) ∷ sends rs ∷ does send 256 ∷ does events 0x2002 ∷ does take 2 ∷ does take 0
    ∷ does gap 0 ∷ hears slave_diag ∷ sends fault_told ∷ does send 256
    ∷ does gap 0 ∷ hears poll ∷ sends rs ∷ does send 256 ∷ [])
unfolding computing
sensor_given_data = written refl

-- the empty list is held back like any other: it brings nothing to take, sync publishes it, and there is nothing held back then; a later
-- one that is held back is published by unsync, and clear empties what is held back
sensor_in_sync : Answers sensor
    (entered 0xB0 0xBD
    ++ does gap 0 ∷ hears sync ∷ does send 256 ∷ does (acknowledge 0xFFFF) 0
    ∷ does gap 0 ∷ hears poll ∷ sends (input 0x00 0x0F) ∷ does send 256 ∷ does events 0x0000 ∷ does take 0
    ∷ does gap 0 ∷ hears sync ∷ does send 256 ∷ does events 0x2000 ∷ does take 1
    ∷ does gap 0 ∷ hears sync ∷ does send 256 ∷ does take 0
    ∷ does gap 0 ∷ hears poll ∷ sends (input 0x00 0x0F) ∷ does send 256 ∷ does take 0
    ∷ does gap 0 ∷ hears unsync ∷ does send 256 ∷ does take 1
    ∷ does gap 0 ∷ hears sync ∷ does send 256
    ∷ does gap 0 ∷ hears poll ∷ sends (input 0x00 0x0F) ∷ does send 256 ∷ does take 0
    ∷ does gap 0 ∷ hears clear ∷ does send 256 ∷ does take 2
    ∷ does gap 0 ∷ hears unsync ∷ does send 256 ∷ does take 0 ∷ [])
unfolding computing
sensor_in_sync = written refl

-- Read_Outputs sends 3E and DSAP alone, and kind 1 is out of range
sensor_without_outputs : Answers sensor
    (entered 0xB0 0xBD
    ++ does gap 0 ∷ hears (0x68 ∷ 0x05 ∷ 0x05 ∷ 0x68 ∷ 0x85 ∷ 0x82 ∷ 0x6D ∷ 0x39 ∷ 0x3E ∷ 0xEB ∷ 0x16 ∷ [])
    ∷ sends (0x68 ∷ 0x05 ∷ 0x05 ∷ 0x68 ∷ 0x82 ∷ 0x85 ∷ 0x08 ∷ 0x3E ∷ 0x39 ∷ 0x86 ∷ 0x16 ∷ []) ∷ does send 256
    ∷ refuses (read 1 0) Range ∷ does leave 0 ∷ does take 2 ∷ refuses (read 1 0) Range ∷ [])
unfolding computing
sensor_without_outputs = written refl
