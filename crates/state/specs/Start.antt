-- Start: what it asks of a setup, the first state, and what it leaves. Its conditions on the whole memory are in the crate steps.
use Rattle.std.specs.Prelude.{ℕ, ◌-◌, Bool, false, not, cond, ◌&&◌, List, replicate, ltb, Result, Ok, Err}
use Rattle.buffers.specs.Events.{no_events}
use Rattle.buffers.specs.Triple.{initial}
use Rattle.buffers.specs.Quad as quad
use Rattle.octets.specs.Part.{pasted}
use Rattle.channels.specs.Image.{channels}
use Rattle.channels.specs.Setting.{lengths_given, set_up}
use Rattle.channels.specs.Setting as channel
use Rattle.telegram.specs.Reading.{off}
use Rattle.telegram.specs.Sending.{empty}
use Rattle.state.specs.declared.setup.Setup.{Setup}
use Rattle.state.specs.declared.setup.Given.{Given}
use Rattle.state.specs.declared.control.Control.{Control}
use Rattle.state.specs.declared.control.Phase.TheVariants.{WaitPrm}
use Rattle.state.specs.declared.state.State.{State}
use Rattle.state.specs.declared.state.Sets.{Sets}
use Rattle.state.specs.declared.state.Reply.{Reply}
use Rattle.state.specs.declared.state.Drawn.TheVariants.{Nothing}
use Rattle.state.specs.declared.answer.Refusal.{Refusal}
use Rattle.state.specs.declared.answer.Refusal.TheVariants.{Address, Length}
use Rattle.state.specs.Chain.{no_chain}
use Rattle.state.specs.Layout.{image_length, get_cfg_at, last_end}
use Rattle.state.specs.Memory.{kept}
use Rattle.state.specs.Well.{all, length_tests}

-- what Start is given, n octets for Get_Cfg among it, as it is kept
abbrev pub given : ℕ → ℕ → ℕ → ℕ → ℕ → ℕ → ℕ → ℕ → Setup
given address ident outputs inputs parameters configuration diagnosis n =
    record {
      address = address;
      ident = ident;
      output_len = outputs;
      input_len = inputs;
      parameter_len = parameters;
      configuration_len = configuration;
      diagnosis_len = diagnosis;
      get_cfg_len = n;
    }

-- what Start is given, its numbers in one value, as it is kept
abbrev pub given_by : Given → ℕ → Setup
given_by g n = given g.address g.ident g.output_len g.input_len g.parameter_len g.configuration_len g.diagnosis_len n

-- all lengths are in their ranges, and not both of outputs and inputs 0
unfoldable pub lengths_ok : Setup → Bool
lengths_ok s = all (length_tests s)

-- "2 address; 3 a length or slice outside its range", "both zero is 3 too" (document 02, Req 05), and so for the lengths of the channels
unfoldable pub asked : Setup → List ℕ → Result Setup Refusal
asked s lengths =
    cond (ltb 126 s.address) (Err Address)
    (cond (not (lengths_ok s && channel.lengths_ok lengths)) (Err Length)
    (Ok s))

-- what diagnosis shows for no owner
abbrev pub no_owner : ℕ
no_owner = 255

-- "enters WAIT_PRM without publishing, no owner, nothing new or shown, diagnosis count 6, no flags, no events"
abbrev pub first_control : Control
first_control =
    record {
      phase = WaitPrm;
      owner = no_owner;
      group = 0;
      stored = 0;
      watchdog = record { reload = 0; remaining = 0 };
      flags =
          record {
            prm_fault = false;
            cfg_fault = false;
            ext_diag = false;
            stat_diag = false;
            overflow = false;
            diag_flag = false;
            parameters_good = false;
          };
      events = no_events;
      noted = false;
      diagnosis = record { count = 6; delayed_count = 0; delayed_flags = 0 };
      modes = record { sync = false; freeze = false; sync_allowed = false; freeze_allowed = false };
      chain = no_chain;
    }

-- nothing shown, nothing waits
abbrev pub no_sets : Sets
no_sets = record { set = initial; shown = 0; waiting = 0 }

-- nothing to send
abbrev pub no_reply : Reply
no_reply =
    record {
      drawn = Nothing;
      sender = empty;
      place = 0;
      header = record { status1 = 0; status2 = 0; status3 = 0; master = 0 };
    }

-- the state after Start, which waits for a gap
unfoldable pub initial_state : Setup → State
initial_state s =
    record {
      setup = s;
      control = first_control;
      outputs = record { set = quad.initial; zeros = false };
      inputs = initial;
      parameters = no_sets;
      configuration = no_sets;
      swapped = false;
      incoming = record { reader = off; first = 0; second = 0 };
      reply = no_reply;
    }

-- n octets 0
abbrev pub zeros : ℕ → List ℕ
zeros n = replicate n 0

-- "Start zeroes them, copies the Get_Cfg slice", "changes nothing past the buffers"; the octets between the state's image and the buffers
-- are zeroed too. end: where the last buffer ends
unfoldable pub wiped : List ℕ → Setup → List ℕ → (end : ℕ) → List ℕ
wiped m s slice end = pasted (pasted m image_length (zeros (end - image_length))) (get_cfg_at s) slice

-- the first state in front of the wiped buffers, and the channels with their lengths, all of them free
unfoldable pub laid_out : List ℕ → Setup → List ℕ → List ℕ → List ℕ
laid_out m s slice lengths =
    kept (initial_state s) (set_up (wiped m s slice (last_end (lengths_given lengths) s)) lengths channels)
