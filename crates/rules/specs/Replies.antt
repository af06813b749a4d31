-- What the rules say of a reply beside its octets.
use Rattle.std.specs.Prelude.{ℕ, Bool, true, false, cond, not, ◌&&◌, eqb}
use Rattle.state.specs.declared.setup.Setup.{Setup}
use Rattle.state.specs.declared.control.Control.{Control}
use Rattle.state.specs.declared.state.Drawn.{Drawn}
use Rattle.state.specs.declared.state.Drawn.TheVariants.{Nothing, Acknowledge, Status, Rejected, Exchange, Inputs, Outputs, Configuration, Diagnosis}

-- FC 08, or 0A while Diag_Flag
abbrev pub exchange_fc : Control → ℕ
exchange_fc c = cond c.flags.diag_flag 0x0A 0x08

-- a station without inputs (document 02, Req 05)
abbrev pub without_inputs : Setup → Bool
without_inputs s = eqb s.input_len 0

-- "No inputs: the reply is E5, or while Diag_Flag an SD2": a Data_Exchange is replied to by E5
abbrev pub replies_e5 : Setup → Control → Bool
replies_e5 s c = without_inputs s && not c.flags.diag_flag

-- the reply to Data_Exchange
abbrev pub is_exchange : Drawn → Bool
is_exchange Nothing = false
is_exchange Acknowledge = false
is_exchange Status = false
is_exchange Rejected = false
is_exchange Exchange = true
is_exchange Inputs = false
is_exchange Outputs = false
is_exchange Configuration = false
is_exchange Diagnosis = false

-- a Slave_Diag's
abbrev pub diagnoses : Drawn → Bool
diagnoses Nothing = false
diagnoses Acknowledge = false
diagnoses Status = false
diagnoses Rejected = false
diagnoses Exchange = false
diagnoses Inputs = false
diagnoses Outputs = false
diagnoses Configuration = false
diagnoses Diagnosis = true
