-- The table of the window (document 02, Req 02): what is behind each access.
use Rattle.std.specs.Prelude.{ℕ, ◌*◌, ◌/◌, ◌%◌, ◌^◌, List, [], ◌∷◌, get_or, Ok, Err}
use Rattle.state.specs.Answer.{Answer}
use Rattle.state.specs.declared.answer.Refusal.TheVariants.{Cell}
use Rattle.state.specs.declared.control.Control.{Control}
use Rattle.rules.specs.Call.{Call, take, hand_over_call, new_diagnosis_call, judge_parameters_call, judge_configuration_call, events, acknowledge}
use Rattle.rules.specs.Diagnosis.{present_flags}
use Rattle.window.specs.Order.{cell_at}
use Rattle.window.specs.Entries.{Entry, call, window_read, window_write}

-- how much of a call's answer is read: all of it, or eight bits of a word, from that bit upward
pub data Cut : Type 0 where
  whole : Cut
  bits : (from : ℕ) → Cut

-- an answer so cut; a refusal is told whole
abbrev pub cut_to : Cut → Answer → Answer
cut_to whole a = a
cut_to (bits from) (Ok n) = Ok (n / 2 ^ from % 256)
cut_to (bits from) (Err why) = Err why

-- what is behind an access: a call, and the cut of its answer; nothing, so that it reads 0 and changes nothing; no cell of the window
pub data Behind : Type 0 where
  calls : (c : Call) (cut : Cut) → Behind
  nothing : Behind
  no_cell : Behind

-- what an access answers; answer: what a call answers where the access is made
abbrev pub answer_behind : (Call → Answer) → Behind → Answer
answer_behind answer (calls c cut) = cut_to cut (answer c)
answer_behind answer nothing = Ok 0
answer_behind answer no_cell = Err Cell

-- and what it leaves of s; next: what a call leaves of it
abbrev pub left_behind : {S : Type 0} → (Call → S) → S → Behind → S
left_behind next s (calls c cut) = next c
left_behind next s nothing = s
left_behind next s no_cell = s

-- a row of the table: what is behind reading the cell, and behind writing an octet to it
pub record Row : Type 0 where
  pub reading : Behind
  pub writing : ℕ → Behind

-- a cell that reads 0 and takes no octet
abbrev pub idle : Row
idle = record { reading = nothing; writing = λ x. nothing }

-- a cell that does something when it is read, and nothing when it is written
abbrev pub read_only : Call → Cut → Row
read_only c cut = record { reading = calls c cut; writing = λ x. nothing }

-- eight bits of the event word: they are read, and those that are set in the octet written are acknowledged
abbrev pub event_bits : ℕ → Row
event_bits from = record { reading = calls events (bits from); writing = λ x. calls (acknowledge (2 ^ from * x)) whole }

-- the cells from 000H on, by Intel's addresses, each by its name on the chip for reading and then, where that is not reserved, for
-- writing; count and flags are those of the diagnosis in force
unfoldable pub table : ℕ → ℕ → List Row
table count flags =
    -- 00H Int-Req-Reg, for both, bits 7 to 0
    read_only events (bits 0)
    -- 01H Int-Req-Reg, for both, bits 15 to 8
    ∷ read_only events (bits 8)
    -- 02H Int-Reg, Int-Ack-Reg, bits 7 to 0
    ∷ event_bits 0
    -- 03H Int-Reg, Int-Ack-Reg, bits 15 to 8
    ∷ event_bits 8
    -- 04H Status-Reg, Int-Mask-Reg, bits 7 to 0
    ∷ idle
    -- 05H Status-Reg, Int-Mask-Reg, bits 15 to 8
    ∷ idle
    -- 06H reserved, Mode-Reg0
    ∷ idle
    -- 07H reserved, Mode-Reg0-S
    ∷ idle
    -- 08H DIN_Buffer_SM, Mode-Reg1-S
    ∷ idle
    -- 09H New_DIN_Buffer_Cmd, Mode-Reg1-R
    ∷ read_only hand_over_call whole
    -- 0AH DOUT_Buffer_SM, WD_Baud_Ctrl-Val
    ∷ idle
    -- 0BH Next_DOUT_Buffer_Cmd, MinTsdr_Val
    ∷ read_only take whole
    -- 0CH DIAG_Buffer_SM
    ∷ idle
    -- 0DH New_DIAG_Puffer_Cmd
    ∷ read_only (new_diagnosis_call count flags) whole
    -- 0EH User_Prm_Data_OK
    ∷ read_only (judge_parameters_call 1) whole
    -- 0FH User_Prm_Data_NOK
    ∷ read_only (judge_parameters_call 0) whole
    -- 10H User_Cfg_Data_OK
    ∷ read_only (judge_configuration_call 1) whole
    -- 11H User_Cfg_Data_NOK
    ∷ read_only (judge_configuration_call 0) whole
    -- 12H reserved
    ∷ idle
    -- 13H reserved
    ∷ idle
    -- 14H SSA_Bufferfreecmd
    ∷ idle
    -- 15H reserved
    ∷ idle
    ∷ []

-- where the table ends there is no cell: "an address above 015H is refused by 10"
abbrev pub beyond : Row
beyond = record { reading = no_cell; writing = λ x. no_cell }

-- the row of a cell
abbrev pub row_at : ℕ → ℕ → ℕ → Row
row_at count flags cell = get_or (table count flags) cell beyond

-- with the diagnosis that the control part has in force
abbrev pub row_of : Control → ℕ → Row
row_of c cell = row_at c.diagnosis.count (present_flags c.flags) cell

-- what is behind an entry, with that control part
unfoldable pub behind : Control → Entry → Behind
behind c (call k) = calls k whole
behind c (window_read order address) = (row_of c (cell_at order address)).reading
behind c (window_write order address x) = (row_of c (cell_at order address)).writing x
