-- The ledger's state (document 01, The ledger; document 02, Req 01, and Req 04 by the control part), and the ledger of a freshly started station.
use Rattle.std.specs.Prelude.{ℕ, Bool, true, false, ◌&&◌, ◌||◌, List, [], replicate}
use Rattle.state.specs.declared.setup.Setup.{Setup}
use Rattle.state.specs.declared.control.Control.{Control}
use Rattle.state.specs.Start.{first_control}
use Rattle.rules.specs.declared.request.Occupied.{Occupied}
use Rattle.ledger.specs.Lists.{some, Outputs, Buffers, no_sets}

-- the line: whether octets are ignored, telegram octets so far, reply octets left and whether they are a Slave_Diag's
pub record Line : Type 0 where
  pub ignored : Bool
  pub telegram : List ℕ
  pub reply : List ℕ
  pub diagnosing : Bool

-- Start's values with the octets that Get_Cfg sends, the control part, the lists, the line
pub record Ledger : Type 0 where
  pub setup : Setup
  pub slice : List ℕ
  pub control : Control
  pub buffers : Buffers
  pub line : Line

-- the ledger with one field changed
abbrev pub with_control : Ledger → Control → Ledger
with_control l x =
    record {
      setup = l.setup;
      slice = l.slice;
      control = x;
      buffers = l.buffers;
      line = l.line;
    }

abbrev pub with_buffers : Ledger → Buffers → Ledger
with_buffers l x =
    record {
      setup = l.setup;
      slice = l.slice;
      control = l.control;
      buffers = x;
      line = l.line;
    }

abbrev pub with_line : Ledger → Line → Ledger
with_line l x =
    record {
      setup = l.setup;
      slice = l.slice;
      control = l.control;
      buffers = l.buffers;
      line = x;
    }

-- a telegram is begun and unfinished
abbrev pub begun : Ledger → Bool
begun l = some l.line.telegram

-- a busy line: a telegram is begun or a reply is unfinished
abbrev pub busy : Ledger → Bool
busy l = begun l || some l.line.reply

-- a Slave_Diag reply is unfinished
abbrev pub diagnosis_leaves : Ledger → Bool
diagnosis_leaves l = l.line.diagnosing && some l.line.reply

-- a parameter set is open
abbrev pub parameters_open : Ledger → Bool
parameters_open l = some l.buffers.parameters.shown

-- a configuration set is open
abbrev pub configuration_open : Ledger → Bool
configuration_open l = some l.buffers.configuration.shown

-- what the rules look at of the lists
abbrev pub occupied : Ledger → Occupied
occupied l =
    record { parameters = parameters_open l; configuration = configuration_open l; outputs = l.buffers.outputs.withheld }

-- zeroed outputs, none held back
abbrev pub fresh_outputs : ℕ → Outputs
fresh_outputs n =
    record { held = replicate n 0; next = replicate n 0; back = []; fresh = false; zeros = false; withheld = false }

-- zeroed buffers
abbrev pub fresh_buffers : Setup → Buffers
fresh_buffers s =
    record {
      outputs = fresh_outputs s.output_len;
      inputs = record { sending = replicate s.input_len 0; next = replicate s.input_len 0; held = replicate s.input_len 0; fresh = false };
      parameters = no_sets;
      configuration = no_sets;
      diagnosis = record { own = replicate s.diagnosis_len 0; user = replicate s.diagnosis_len 0 };
    }

-- Start also waits for a gap
abbrev pub fresh_line : Line
fresh_line = record { ignored = true; telegram = []; reply = []; diagnosing = false }

-- the ledger is fed Start's arguments; WAIT_PRM without publishing, no owner, nothing new or shown, diagnosis count 6, no flags, no events
abbrev pub fresh : Setup → List ℕ → Ledger
fresh s slice = record { setup = s; slice = slice; control = first_control; buffers = fresh_buffers s; line = fresh_line }
