-- The calls that a list of calls is made of: those of the bus, then those of the vat program (document 01, User calls).
use Rattle.std.specs.Prelude.{ℕ, Bool}

-- a call with its arguments
pub data Call : Type 0 where
  octet : (value : ℕ) (bad : Bool) → Call
  gap : Call
  send : Call
  tick : Call
  take : Call
  read : (kind index : ℕ) → Call
  write : (kind index value : ℕ) → Call
  hand_over_call : Call
  new_diagnosis_call : (count flags : ℕ) → Call
  judge_parameters_call : (judgement : ℕ) → Call
  judge_configuration_call : (judgement : ℕ) → Call
  events : Call
  acknowledge : (mask : ℕ) → Call
  pending : Call
  leave : Call
