-- Replies are octets: Send answers an octet, and 256 only when no octet is left (document 01, Numbers by who causes them).
use Rattle.std.specs.Prelude.{ℕ, ◌<◌, ◌≡◌, List, [], ◌∷◌, ◌↔◌, Ok}
use Rattle.telegram.specs.Telegram.{Octets}
use Rattle.state.specs.declared.setup.Setup.{Setup}
use Rattle.rules.specs.Call.{Call, octet, gap, send, tick, take, read, write, hand_over_call, new_diagnosis_call, judge_parameters_call, judge_configuration_call, events, acknowledge, pending, leave}
use Rattle.ledger.specs.Ledger.{Ledger, fresh}
use Rattle.ledger.specs.Calls.{step, after}
use Rattle.ledger.specs.ReadBack.{StartTakes}

-- the bus's octet and the octet written are octets; no other call brings one
abbrev pub OctetsIn : Call → Type 0
OctetsIn (octet b bad) = b < 256
OctetsIn gap = Unit
OctetsIn send = Unit
OctetsIn tick = Unit
OctetsIn take = Unit
OctetsIn (read kind index) = Unit
OctetsIn (write kind index x) = x < 256
OctetsIn hand_over_call = Unit
OctetsIn (new_diagnosis_call count flags) = Unit
OctetsIn (judge_parameters_call j) = Unit
OctetsIn (judge_configuration_call j) = Unit
OctetsIn events = Unit
OctetsIn (acknowledge mask) = Unit
OctetsIn pending = Unit
OctetsIn leave = Unit

-- so for each call of a list
abbrev pub AllOctets : List Call → Type 0
AllOctets [] = Unit
AllOctets (c ∷ cs) = OctetsIn c × AllOctets cs

-- "Send answers 256 when no octet is left", and "Reading answers the octet"
pub record AnswersOctets (l : Ledger) : Type 0 where
  -- what is left of the reply are octets
  pub left_are : Octets l.line.reply
  -- so that 256 from Send says that none is left
  pub answers_none : ((step l send).answer ≡ Ok 256) ↔ (l.line.reply ≡ [])
  -- what a read answers is an octet
  pub reads_octet : (kind index n : ℕ) → (step l (read kind index)).answer ≡ Ok n → n < 256

-- after every list of calls that brings octets, from a Start with a slice of octets and an ident number of 16 bits
abbrev pub SentOctets : Type 0
SentOctets =
    (s : Setup) (slice : List ℕ) (cs : List Call) → StartTakes s slice → Octets slice → s.ident < 65536 → AllOctets cs
    → AnswersOctets (after (fresh s slice) cs)
