-- The state that the first octets of a memory hold.
use Rattle.std.specs.Prelude.{ℕ, ◌+◌, ◌*◌, ◌/◌, ◌%◌, Bool, not, List, eqb, get_or}
use Rattle.telegram.specs.declared.Kind.{Kind}
use Rattle.telegram.specs.declared.reader.Phase.{Phase}
use Rattle.telegram.specs.declared.reader.Reader.{Reader}
use Rattle.telegram.specs.declared.sender.Stage.{Stage}
use Rattle.telegram.specs.declared.sender.Sender.{Sender}
use Rattle.buffers.specs.declared.triple.Triple.{Triple}
use Rattle.buffers.specs.Number.{numbered, numbered4}
use Rattle.state.specs.declared.setup.Setup.{Setup}
use Rattle.state.specs.declared.control.Flags.{Flags}
use Rattle.state.specs.declared.control.Modes.{Modes}
use Rattle.state.specs.declared.control.Diagnosis.{Diagnosis}
use Rattle.state.specs.declared.control.Control.{Control}
use Rattle.state.specs.declared.state.Outputs.{Outputs}
use Rattle.state.specs.declared.state.Sets.{Sets}
use Rattle.state.specs.declared.state.Incoming.{Incoming}
use Rattle.state.specs.declared.state.Header.{Header}
use Rattle.state.specs.declared.state.Reply.{Reply}
use Rattle.state.specs.declared.state.State.{State}
use Rattle.state.specs.Number.{reading_numbered, kind_numbered, stage_numbered, phase_numbered, drawn_numbered}

-- the word whose low octet stands at i and whose high octet follows
abbrev pub word_at : List ℕ → ℕ → ℕ
word_at l i = get_or l i 0 + 256 * get_or l (i + 1) 0

-- the double word whose low octet stands at i: a low word, and a high word behind it
abbrev pub double_at : List ℕ → ℕ → ℕ
double_at l i = word_at l i + 65536 * word_at l (i + 2)

-- whether bit 0 is set
abbrev pub odd : ℕ → Bool
odd x = eqb (x % 2) 1

-- whether the bit is set that is worth that much
abbrev pub bit_at : ℕ → ℕ → Bool
bit_at x worth = odd (x / worth)

-- octet 20 and the lengths from 48 on, the ident number handed in
abbrev pub setup_in : List ℕ → ℕ → Setup
setup_in l ident =
    record {
      address = get_or l 20 0;
      ident = ident;
      output_len = get_or l 48 0;
      input_len = get_or l 49 0;
      parameter_len = get_or l 50 0;
      configuration_len = get_or l 51 0;
      diagnosis_len = get_or l 52 0;
      get_cfg_len = get_or l 53 0;
    }

-- the flags of an octet
abbrev pub flags_in : ℕ → Flags
flags_in x =
    record {
      prm_fault = odd x;
      cfg_fault = bit_at x 2;
      ext_diag = bit_at x 8;
      stat_diag = bit_at x 16;
      overflow = bit_at x 32;
      diag_flag = bit_at x 64;
      parameters_good = bit_at x 128;
    }

-- the modes of an octet
abbrev pub modes_in : ℕ → Modes
modes_in x = record { sync = odd x; freeze = bit_at x 2; sync_allowed = bit_at x 4; freeze_allowed = bit_at x 8 }

-- octets 56, 57 and 26
abbrev pub diagnosis_in : List ℕ → Diagnosis
diagnosis_in l = record { count = get_or l 56 0; delayed_count = get_or l 57 0; delayed_flags = get_or l 26 0 }

-- octets 0 to 5, 21, 27, 44 to 47, 54, 55 and 64 to 67; diagnosis
abbrev pub control_in : List ℕ → Control
control_in l =
    record {
      phase = phase_numbered (get_or l 21 0);
      owner = get_or l 0 0;
      group = get_or l 1 0;
      stored = get_or l 2 0;
      watchdog = record { reload = double_at l 64; remaining = double_at l 44 };
      flags = flags_in (get_or l 3 0);
      events = record { word = word_at l 4 };
      noted = bit_at (get_or l 3 0) 4;
      diagnosis = diagnosis_in l;
      modes = modes_in (get_or l 27 0);
      chain = record { code = get_or l 54 0; master = get_or l 55 0 };
    }

-- the output set of its roles and its marks
abbrev pub outputs_in : ℕ → ℕ → Outputs
outputs_in roles marks = record { set = numbered4 roles (odd marks) (bit_at marks 4); zeros = bit_at marks 2 }

-- the input set of an octet
abbrev pub inputs_in : ℕ → Triple
inputs_in x = numbered (x / 2) (odd x)

-- received sets: their roles at octet k, the two counts from octet i on; one waits exactly if its count is not 0
abbrev pub sets_in : List ℕ → ℕ → ℕ → Sets
sets_in l k i =
    record { set = numbered (get_or l k 0) (not (eqb (get_or l (i + 1) 0) 0)); shown = get_or l i 0; waiting = get_or l (i + 1) 0 }

-- octets 32 to 39, the phase and the kind handed in
abbrev pub reader_in : List ℕ → Phase → Kind → Reader
reader_in l phase kind =
    record {
      phase = phase;
      kind = kind;
      count = get_or l 32 0;
      at = get_or l 33 0;
      da = get_or l 34 0;
      sa = get_or l 35 0;
      fc = get_or l 36 0;
      dsap = get_or l 37 0;
      ssap = get_or l 38 0;
      sum = get_or l 39 0;
    }

-- octets 30 to 41
abbrev pub incoming_in : List ℕ → Incoming
incoming_in l =
    record {
      reader = reader_in l (reading_numbered (get_or l 31 0)) (kind_numbered (get_or l 30 0));
      first = get_or l 40 0;
      second = get_or l 41 0;
    }

-- octets 10 to 15, the stage and the kind handed in
abbrev pub sender_in : List ℕ → Stage → Kind → Sender
sender_in l stage kind =
    record {
      stage = stage;
      kind = kind;
      count = get_or l 14 0;
      at = get_or l 15 0;
      da = get_or l 10 0;
      sa = get_or l 11 0;
      fc = get_or l 12 0;
      sum = get_or l 13 0;
    }

-- octets 6 to 9
abbrev pub header_in : List ℕ → Header
header_in l = record { status1 = get_or l 6 0; status2 = get_or l 7 0; status3 = get_or l 8 0; master = get_or l 9 0 }

-- octets 6 to 19
abbrev pub reply_in : List ℕ → Reply
reply_in l =
    record {
      drawn = drawn_numbered (get_or l 18 0);
      sender = sender_in l (stage_numbered (get_or l 17 0)) (kind_numbered (get_or l 16 0));
      place = get_or l 19 0;
      header = header_in l;
    }

-- the state
unfoldable pub unpacked : List ℕ → State
unpacked l =
    record {
      setup = setup_in l (word_at l 42);
      control = control_in l;
      outputs = outputs_in (get_or l 22 0) (get_or l 29 0);
      inputs = inputs_in (get_or l 23 0);
      parameters = sets_in l 24 58;
      configuration = sets_in l 25 60;
      swapped = eqb (get_or l 28 0) 1;
      incoming = incoming_in l;
      reply = reply_in l;
    }
