-- Lists of calls written down beside their answers.
use Rattle.std.specs.Prelude.{ℕ, ◌≡◌, List, [], ◌∷◌, ◌++◌, length, replicate, Ok, Err}
use Rattle.state.specs.declared.setup.Setup.{Setup}
use Rattle.state.specs.Answer.{Answer}
use Rattle.state.specs.declared.answer.Refusal.{Refusal}
use Rattle.ledger.specs.Ledger.{Ledger}
use Rattle.rules.specs.Call.{Call}
use Rattle.ledger.specs.Calls.{answers}
use Rattle.ledger.specs.Hearing.{hear, sends_of, values}

-- octets that come, each answered by 0; sends that answer these; a call that answers a value; a call that is refused
pub data Part : Type 0 where
  hears : (octets : List ℕ) → Part
  sends : (octets : List ℕ) → Part
  does : (call : Call) (value : ℕ) → Part
  refuses : (call : Call) (refusal : Refusal) → Part

-- the calls
abbrev pub calls_of : List Part → List Call
calls_of [] = []
calls_of (hears xs ∷ ps) = hear xs ++ calls_of ps
calls_of (sends xs ∷ ps) = sends_of xs ++ calls_of ps
calls_of (does c n ∷ ps) = c ∷ calls_of ps
calls_of (refuses c r ∷ ps) = c ∷ calls_of ps

-- and their answers
abbrev pub answers_of : List Part → List Answer
answers_of [] = []
answers_of (hears xs ∷ ps) = replicate (length xs) (Ok 0) ++ answers_of ps
answers_of (sends xs ∷ ps) = values xs ++ answers_of ps
answers_of (does c n ∷ ps) = Ok n ∷ answers_of ps
answers_of (refuses c r ∷ ps) = Err r ∷ answers_of ps

-- the ledger answers so
pub record Answers (l : Ledger) (ps : List Part) : Type 0 where
  pub answers_are : answers l (calls_of ps) ≡ answers_of ps

-- address 5, ident 80B3, these lengths for outputs, inputs, parameters, configuration, diagnosis and Get_Cfg
abbrev pub station : ℕ → ℕ → ℕ → ℕ → ℕ → ℕ → Setup
station outs ins prm cfg diag get =
    record { address = 5; ident = 0x80B3; output_len = outs; input_len = ins; parameter_len = prm; configuration_len = cfg; diagnosis_len = diag; get_cfg_len = get }
