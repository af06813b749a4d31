-- Document 01's bench examples a to j, as one list with a gap before each: address 5, ident 80B3, master 2, one output, one input. Their FC
-- does not alternate, so a, whose FC has bit 4 clear, is sent ahead of each further telegram and ends the chain (document 02, Req 04).
use Rattle.std.specs.Prelude.{ℕ, List, [], ◌∷◌, ◌++◌, replicate}
use Rattle.state.specs.declared.setup.Setup.{Setup}
use Rattle.ledger.specs.Ledger.{fresh}
use Rattle.rules.specs.Call.{gap, send, tick, take, read, write, hand_over_call, new_diagnosis_call, judge_parameters_call, judge_configuration_call, events, acknowledge, leave}
use Rattle.ledger.specs.Script.{Part, hears, sends, does, Answers, station}

-- a status request
abbrev pub a : List Part
a =
    does gap 0 ∷ hears (0x10 ∷ 0x05 ∷ 0x02 ∷ 0x49 ∷ 0x50 ∷ 0x16 ∷ [])
    ∷ sends (0x10 ∷ 0x02 ∷ 0x05 ∷ 0x00 ∷ 0x07 ∷ 0x16 ∷ []) ∷ does send 256 ∷ []

-- Slave_Diag, fresh
abbrev pub b : List Part
b =
    does gap 0 ∷ hears (0x68 ∷ 0x05 ∷ 0x05 ∷ 0x68 ∷ 0x85 ∷ 0x82 ∷ 0x6D ∷ 0x3C ∷ 0x3E ∷ 0xEE ∷ 0x16 ∷ [])
    ∷ sends (0x68 ∷ 0x0B ∷ 0x0B ∷ 0x68 ∷ 0x82 ∷ 0x85 ∷ 0x08 ∷ 0x3E ∷ 0x3C ∷ 0x02 ∷ 0x05 ∷ 0x00 ∷ 0xFF ∷ 0x80 ∷ 0xB3 ∷ 0xC2 ∷ 0x16 ∷ [])
    ∷ does send 256 ∷ []

-- d while fresh
abbrev pub f : List Part
f =
    does gap 0 ∷ hears (0x68 ∷ 0x04 ∷ 0x04 ∷ 0x68 ∷ 0x05 ∷ 0x02 ∷ 0x5D ∷ 0x7A ∷ 0xDE ∷ 0x16 ∷ [])
    ∷ sends (0x10 ∷ 0x02 ∷ 0x05 ∷ 0x03 ∷ 0x0A ∷ 0x16 ∷ []) ∷ does send 256 ∷ []

-- Set_Prm with a watchdog of 1 × 10 on a base of 10 ms, so 100 ticks (document 02, Req 07): events 3 and 13 come at the hundredth
abbrev pub c : List Part
c =
    does gap 0
    ∷ hears (0x68 ∷ 0x0C ∷ 0x0C ∷ 0x68 ∷ 0x85 ∷ 0x82 ∷ 0x5D ∷ 0x3D ∷ 0x3E ∷ 0x88 ∷ 0x01 ∷ 0x0A ∷ 0x0B ∷ 0x80 ∷ 0xB3 ∷ 0x00 ∷ 0xB0 ∷ 0x16 ∷ [])
    ∷ sends (0xE5 ∷ []) ∷ does send 256
    ∷ does events 0x0800 ∷ (replicate 99 (does tick 0)
    ++ does events 0x0800 ∷ does tick 0 ∷ does events 0x2008 ∷ does (acknowledge 0xFFFF) 0 ∷ [])

-- on the way into the exchange: Set_Prm without a watchdog
abbrev pub parametrize : List Part
parametrize =
    does gap 0
    ∷ hears (0x68 ∷ 0x0C ∷ 0x0C ∷ 0x68 ∷ 0x85 ∷ 0x82 ∷ 0x5D ∷ 0x3D ∷ 0x3E ∷ 0x80 ∷ 0x01 ∷ 0x0A ∷ 0x0B ∷ 0x80 ∷ 0xB3 ∷ 0x00 ∷ 0xA8 ∷ 0x16 ∷ [])
    ∷ sends (0xE5 ∷ []) ∷ does send 256 ∷ []

-- and Chk_Cfg; both judged good, and the input is 21
abbrev pub configure : List Part
configure =
    does gap 0 ∷ hears (0x68 ∷ 0x06 ∷ 0x06 ∷ 0x68 ∷ 0x85 ∷ 0x82 ∷ 0x5D ∷ 0x3E ∷ 0x3E ∷ 0x20 ∷ 0x00 ∷ 0x16 ∷ [])
    ∷ sends (0xE5 ∷ []) ∷ does send 256
    ∷ does (judge_parameters_call 1) 0 ∷ does (judge_configuration_call 1) 0 ∷ does (write 4 0 0x21) 0 ∷ does hand_over_call 0 ∷ []

-- Data_Exchange
abbrev pub d : List Part
d =
    does gap 0 ∷ hears (0x68 ∷ 0x04 ∷ 0x04 ∷ 0x68 ∷ 0x05 ∷ 0x02 ∷ 0x5D ∷ 0x7A ∷ 0xDE ∷ 0x16 ∷ [])
    ∷ sends (0x68 ∷ 0x04 ∷ 0x04 ∷ 0x68 ∷ 0x02 ∷ 0x05 ∷ 0x08 ∷ 0x21 ∷ 0x30 ∷ 0x16 ∷ []) ∷ does send 256
    ∷ does take 1 ∷ does (read 1 0) 0x7A ∷ []

-- with Diag_Flag
abbrev pub e : List Part
e =
    does (new_diagnosis_call 6 0) 0
    ∷ does gap 0 ∷ hears (0x68 ∷ 0x04 ∷ 0x04 ∷ 0x68 ∷ 0x05 ∷ 0x02 ∷ 0x5D ∷ 0x7A ∷ 0xDE ∷ 0x16 ∷ [])
    ∷ sends (0x68 ∷ 0x04 ∷ 0x04 ∷ 0x68 ∷ 0x02 ∷ 0x05 ∷ 0x0A ∷ 0x21 ∷ 0x32 ∷ 0x16 ∷ []) ∷ does send 256 ∷ []

-- a with another FCS: nothing
abbrev pub g : List Part
g = does gap 0 ∷ hears (0x10 ∷ 0x05 ∷ 0x02 ∷ 0x49 ∷ 0x51 ∷ 0x16 ∷ []) ∷ does send 256 ∷ []

-- LE 3: broken off
abbrev pub h : List Part
h = does gap 0 ∷ hears (0x68 ∷ 0x03 ∷ 0x03 ∷ 0x68 ∷ 0x05 ∷ 0x02 ∷ 0x5D ∷ 0x64 ∷ 0x16 ∷ []) ∷ does send 256 ∷ []

-- LE 250: broken off at LE. Leave is noted while the telegram is coming and carried out when it breaks off, so events 1 and 13 show
-- that the octet FA ended it
abbrev pub i : List Part
i =
    does (acknowledge 0xFFFF) 0 ∷ does gap 0 ∷ hears (0x68 ∷ []) ∷ does leave 0 ∷ does events 0
    ∷ hears (0xFA ∷ []) ∷ does events 0x2002 ∷ hears (0xFA ∷ 0x68 ∷ 0x05 ∷ 0x02 ∷ 0x5D ∷ []) ∷ does send 256 ∷ []

-- LE 249 is read: RS, since the station has no owner any more
abbrev pub j : List Part
j =
    does gap 0 ∷ hears (0x68 ∷ 0xF9 ∷ 0xF9 ∷ 0x68 ∷ 0x05 ∷ 0x02 ∷ 0x5D ∷ (replicate 246 0 ++ 0x64 ∷ 0x16 ∷ []))
    ∷ sends (0x10 ∷ 0x02 ∷ 0x05 ∷ 0x03 ∷ 0x0A ∷ 0x16 ∷ []) ∷ does send 256 ∷ []

-- the station that they are tried on, with the octets that Get_Cfg sends
abbrev pub bench_setup : Setup
bench_setup = station 1 1 7 1 6 1

abbrev pub bench_slice : List ℕ
bench_slice = 0x20 ∷ []

-- all of them, one behind the other, with a ahead of each
abbrev pub bench : List Part
bench = a ++ b ++ a ++ f ++ a ++ c ++ a ++ parametrize ++ a ++ configure ++ a ++ d ++ a ++ e ++ a ++ g ++ a ++ h ++ a ++ i ++ a ++ j

-- the ledger answers so
abbrev pub BenchAnswered : Type 0
BenchAnswered = Answers (fresh bench_setup bench_slice) bench
