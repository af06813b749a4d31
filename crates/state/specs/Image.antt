-- The image of a state but for its channels: 68 octets.
use Rattle.std.specs.Prelude.{ℕ, ◌+◌, ◌*◌, ◌/◌, ◌%◌, Bool, true, false, List, [], ◌∷◌}
use Rattle.buffers.specs.declared.triple.Triple.{Triple}
use Rattle.buffers.specs.Number.{number_of, number_of4}
use Rattle.state.specs.declared.control.Flags.{Flags}
use Rattle.state.specs.declared.control.Modes.{Modes}
use Rattle.state.specs.declared.state.Outputs.{Outputs}
use Rattle.state.specs.declared.state.State.{State}
use Rattle.state.specs.Number.{reading_number, kind_number, stage_number, phase_number, drawn_number}

-- a mark as a number
abbrev pub bit_of : Bool → ℕ
bit_of true = 1
bit_of false = 0

-- the low 16 bits of a double word of 32
abbrev pub low_word : ℕ → ℕ
low_word x = x % 65536

-- and the high ones
abbrev pub high_word : ℕ → ℕ
high_word x = x / 65536

-- its octets, low first
abbrev pub double_octets : ℕ → List ℕ
double_octets x = low_word x % 256 ∷ low_word x / 256 ∷ high_word x % 256 ∷ high_word x / 256 ∷ []

-- the flags and the note of a clear in one octet, bit 0 first
abbrev pub flags_of : Flags → Bool → ℕ
flags_of f noted =
    bit_of f.prm_fault
    + 2 * bit_of f.cfg_fault
    + 4 * bit_of noted
    + 8 * bit_of f.ext_diag
    + 16 * bit_of f.stat_diag
    + 32 * bit_of f.overflow
    + 64 * bit_of f.diag_flag
    + 128 * bit_of f.parameters_good

-- the modes in one octet, bit 0 first
abbrev pub modes_of : Modes → ℕ
modes_of m = bit_of m.sync + 2 * bit_of m.freeze + 4 * bit_of m.sync_allowed + 8 * bit_of m.freeze_allowed

-- the marks of the output set in one octet: whether next is new, whether it is zeros by the station, whether something is held back
abbrev pub marks_of : Outputs → ℕ
marks_of o = bit_of o.set.fresh + 2 * bit_of o.zeros + 4 * bit_of o.set.withheld

-- the input set in one octet: its roles, whether next is new
abbrev pub inputs_code : Triple → ℕ
inputs_code t = 2 * number_of t.place + bit_of t.fresh

-- octet by octet from 0 on; among them 62 and 63 are not used
unfoldable pub image : State → List ℕ
image s =
    s.control.owner
    ∷ s.control.group
    ∷ s.control.stored
    ∷ flags_of s.control.flags s.control.noted
    ∷ s.control.events.word % 256
    ∷ s.control.events.word / 256
    ∷ s.reply.header.status1
    ∷ s.reply.header.status2
    ∷ s.reply.header.status3
    ∷ s.reply.header.master
    ∷ s.reply.sender.da
    ∷ s.reply.sender.sa
    ∷ s.reply.sender.fc
    ∷ s.reply.sender.sum
    ∷ s.reply.sender.count
    ∷ s.reply.sender.at
    ∷ kind_number s.reply.sender.kind
    ∷ stage_number s.reply.sender.stage
    ∷ drawn_number s.reply.drawn
    ∷ s.reply.place
    ∷ s.setup.address
    ∷ phase_number s.control.phase
    ∷ number_of4 s.outputs.set.place
    ∷ inputs_code s.inputs
    ∷ number_of s.parameters.set.place
    ∷ number_of s.configuration.set.place
    ∷ s.control.diagnosis.delayed_flags
    ∷ modes_of s.control.modes
    ∷ bit_of s.swapped
    ∷ marks_of s.outputs
    ∷ kind_number s.incoming.reader.kind
    ∷ reading_number s.incoming.reader.phase
    ∷ s.incoming.reader.count
    ∷ s.incoming.reader.at
    ∷ s.incoming.reader.da
    ∷ s.incoming.reader.sa
    ∷ s.incoming.reader.fc
    ∷ s.incoming.reader.dsap
    ∷ s.incoming.reader.ssap
    ∷ s.incoming.reader.sum
    ∷ s.incoming.first
    ∷ s.incoming.second
    ∷ s.setup.ident % 256
    ∷ s.setup.ident / 256
    ∷ low_word s.control.watchdog.remaining % 256
    ∷ low_word s.control.watchdog.remaining / 256
    ∷ high_word s.control.watchdog.remaining % 256
    ∷ high_word s.control.watchdog.remaining / 256
    ∷ s.setup.output_len
    ∷ s.setup.input_len
    ∷ s.setup.parameter_len
    ∷ s.setup.configuration_len
    ∷ s.setup.diagnosis_len
    ∷ s.setup.get_cfg_len
    ∷ s.control.chain.code
    ∷ s.control.chain.master
    ∷ s.control.diagnosis.count
    ∷ s.control.diagnosis.delayed_count
    ∷ s.parameters.shown
    ∷ s.parameters.waiting
    ∷ s.configuration.shown
    ∷ s.configuration.waiting
    ∷ 0
    ∷ 0
    ∷ low_word s.control.watchdog.reload % 256
    ∷ low_word s.control.watchdog.reload / 256
    ∷ high_word s.control.watchdog.reload % 256
    ∷ high_word s.control.watchdog.reload / 256
    ∷ []
