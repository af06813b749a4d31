-- Demand 3, over the memory: what is claimed of every list of calls from a freshly started station, refused ones included.
use Rattle.std.specs.Prelude.{ℕ, ◌<◌, ◌≡◌, Bool, true, List, [], ◌∷◌, ◌++◌, length, get_or, Ok}
use Rattle.state.specs.declared.setup.Setup.{Setup}
use Rattle.steps.specs.Calls.{started, answers, memory_after}
use Rattle.ledger.specs.Ledger.{fresh}
use Rattle.ledger.specs.Calls as ledger
use Rattle.rules.specs.Call.{Call, octet, take, read}
use Rattle.ledger.specs.Calls.{after}
use Rattle.ledger.specs.Exchange.{Inner, of_user, PlacesChanged}
use Rattle.ledger.specs.History.{readable, news_of, history}

-- the memory after Start
abbrev pub memory_of : List ℕ → Setup → List ℕ → List ℕ → List ℕ
memory_of m s slice lengths = (started m s slice lengths).memory

-- m is the memory that Start was given, s its numbers, slice the octets for Get_Cfg, lengths those of the channels
pub record Agreement (m : List ℕ) (s : Setup) (slice lengths : List ℕ) : Type 0 where
  -- every answer is that of the ledger
  pub agree : (cs : List Call) → answers (memory_of m s slice lengths) cs ≡ ledger.answers (fresh s slice) cs
  -- if a user call and a neighbouring inner octet change places, every call keeps its answer, whichever came first
  pub octet_then_call : (pre post : List Call) (b : ℕ) (bad : Bool) (c : Call) → of_user c ≡ true
      → Inner (after (fresh s slice) pre) b bad → PlacesChanged (answers (memory_of m s slice lengths)) pre post (octet b bad) c
  pub call_then_octet : (pre post : List Call) (b : ℕ) (bad : Bool) (c : Call) → of_user c ≡ true
      → Inner (after (fresh s slice) (pre ++ c ∷ [])) b bad → PlacesChanged (answers (memory_of m s slice lengths)) pre post (octet b bad) c
  -- outputs read are those of the newest telegram accepted before the latest take, or zeros, whatever calls come behind the read
  pub outputs : (cs : List Call) (index : ℕ) (rest : List Call) → index < s.output_len
      → answers (memory_of m s slice lengths) (cs ++ read 1 index ∷ rest)
      ≡ answers (memory_of m s slice lengths) cs
      ++ Ok (get_or (readable s.output_len (history (fresh s slice) cs)) index 0) ∷ answers (memory_after (memory_of m s slice lengths) cs) rest
  -- a take tells of them, also where they have no octet that could be read: 0 if nothing was published since the latest take, 2 if zeros were
  -- published last, else 1
  pub takes : (cs rest : List Call)
      → answers (memory_of m s slice lengths) (cs ++ take ∷ rest)
      ≡ answers (memory_of m s slice lengths) cs
      ++ Ok (news_of (history (fresh s slice) cs)) ∷ answers (memory_after (memory_of m s slice lengths) (cs ++ take ∷ [])) rest

-- for every memory, setup, slice of the setup's Get_Cfg length and lengths of channels for which Start answers 0
abbrev pub FromStart : (List ℕ → Setup → List ℕ → List ℕ → Type 0) → Type 0
FromStart P =
    (m : List ℕ) (s : Setup) (slice lengths : List ℕ) → s.get_cfg_len ≡ length slice → (started m s slice lengths).answer ≡ Ok 0
    → P m s slice lengths

-- demand 3 whole
abbrev pub Demand3 : Type 0
Demand3 = FromStart Agreement
