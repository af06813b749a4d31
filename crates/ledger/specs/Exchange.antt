-- A user call and a neighbouring inner octet change places: what demand 3 promises of every answer.
use Rattle.std.specs.Prelude.{ℕ, ◌≡◌, Bool, true, false, List, [], ◌∷◌, ◌++◌, length, Ok}
use Rattle.state.specs.Answer.{Answer}
use Rattle.telegram.specs.Framing.{Continues}
use Rattle.ledger.specs.Ledger.{Ledger, begun}
use Rattle.ledger.specs.Bus.{heard}
use Rattle.rules.specs.Call.{Call, octet, gap, send, tick, take, read, write, hand_over_call, new_diagnosis_call, judge_parameters_call, judge_configuration_call, events, acknowledge, pending, leave}
use Rattle.ledger.specs.Calls.{answers, after}

-- a telegram is begun, unfinished and not broken off: octets are heard, some came, and some more complete a telegram
pub record MidTelegram (l : Ledger) : Type 0 where
  pub listens : l.line.ignored ≡ false
  pub begins : begun l ≡ true
  pub unfinished : Continues l.line.telegram

-- an octet is inner if that is so both before and after it
pub record Inner (l : Ledger) (b : ℕ) (bad : Bool) : Type 0 where
  pub before : MidTelegram l
  pub behind : MidTelegram (heard l b bad)

-- a user call; the others are the bus's
abbrev pub of_user : Call → Bool
of_user (octet b bad) = false
of_user gap = false
of_user send = false
of_user tick = false
of_user take = true
of_user (read kind index) = true
of_user (write kind index x) = true
of_user hand_over_call = true
of_user (new_diagnosis_call count flags) = true
of_user (judge_parameters_call j) = true
of_user (judge_configuration_call j) = true
of_user events = true
of_user (acknowledge mask) = true
of_user pending = true
of_user leave = true

-- every call keeps its answer, whichever of an octet and a call c comes first between the calls pre and post; answered: what a list of
-- calls answers, whatever a call is and whatever it is made on
pub record PlacesChanged {E : Type 0} (answered : List E → List Answer) (pre post : List E) (octet c : E) : Type 0 where
  pub earlier : List Answer
  pub own : Answer
  pub later : List Answer
  pub earlier_are : length earlier ≡ length pre
  pub later_are : length later ≡ length post
  pub octet_first : answered (pre ++ octet ∷ c ∷ post) ≡ earlier ++ Ok 0 ∷ own ∷ later
  pub call_first : answered (pre ++ c ∷ octet ∷ post) ≡ earlier ++ own ∷ Ok 0 ∷ later

-- and that for a user call, where the octet is inner before the call or is inner after it
pub record Exchange (l : Ledger) (pre post : List Call) (b : ℕ) (bad : Bool) (c : Call) : Type 0 where
  pub inner_first : of_user c ≡ true → Inner (after l pre) b bad → PlacesChanged (answers l) pre post (octet b bad) c
  pub inner_second : of_user c ≡ true → Inner (after l (pre ++ c ∷ [])) b bad → PlacesChanged (answers l) pre post (octet b bad) c

-- so it is from every ledger on
abbrev pub PlacesChange : Type 0
PlacesChange = (l : Ledger) (pre post : List Call) (b : ℕ) (bad : Bool) (c : Call) → Exchange l pre post b bad c
