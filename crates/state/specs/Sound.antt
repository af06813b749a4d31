-- A setup that Start takes, and a state whose roles, lengths and counts keep the rules.
use Rattle.std.specs.Prelude.{ℕ, ◌+◌, ◌≤◌, ◌≡◌, ◌⊎◌, not, eqb}
use Rattle.buffers.specs.Roles.{Permutation}
use Rattle.telegram.specs.Counts.{ReadCounts, SentCounts}
use Rattle.state.specs.declared.setup.Setup.{Setup}
use Rattle.state.specs.declared.control.Diagnosis.{Diagnosis}
use Rattle.state.specs.declared.state.Sets.{Sets}
use Rattle.state.specs.declared.state.State.{State}

-- lo to hi
abbrev pub Within : ℕ → ℕ → ℕ → Type 0
Within lo x hi = (lo ≤ x) × (x ≤ hi)

-- 0 for none, or lo to hi
abbrev pub NoneOr : ℕ → ℕ → ℕ → Type 0
NoneOr lo x hi = (x ≡ 0) ⊎ Within lo x hi

-- what holds of every setup that Start takes
pub record Ranged (s : Setup) : Type 0 where
  -- the station address is 0 to 126
  pub address : s.address ≤ 126
  -- outputs are at most 244 octets
  pub output_len : s.output_len ≤ 244
  -- inputs are at most 244 octets
  pub input_len : s.input_len ≤ 244
  -- and not both are 0
  pub not_both_none : 1 ≤ s.output_len + s.input_len
  -- parameters are 7 to 244 octets
  pub parameter_len : Within 7 s.parameter_len 244
  -- configuration is 1 to 244 octets
  pub configuration_len : Within 1 s.configuration_len 244
  -- diagnosis is 6 to 244 octets
  pub diagnosis_len : Within 6 s.diagnosis_len 244
  -- Get_Cfg sends 1 to 244 octets
  pub get_cfg_len : Within 1 s.get_cfg_len 244

-- the counts of a set of parameters or of configuration that is shown and of one that waits: lo to hi octets, 0 for none
pub record SetsCounted (lo hi : ℕ) (x : Sets) : Type 0 where
  pub shown : NoneOr lo x.shown hi
  pub waiting : NoneOr lo x.waiting hi
  -- one waits exactly if its count is not 0
  pub fresh : x.set.fresh ≡ not (eqb x.waiting 0)
  -- and only behind one that is shown
  pub behind : x.shown ≡ 0 → x.waiting ≡ 0

-- diagnosis of 6 octets to the set length n, and a delayed one of that or 0 for none, with three flag bits
pub record DiagnosisCounted (n : ℕ) (d : Diagnosis) : Type 0 where
  pub count : Within 6 d.count n
  pub delayed : NoneOr 6 d.delayed_count n
  pub flags : d.delayed_flags ≤ 7

-- what holds of every state that is kept
pub record Sound (s : State) : Type 0 where
  -- Start took its setup
  pub setup : Ranged s.setup
  -- the roles of the output set are a permutation
  pub outputs : Permutation 4 s.outputs.set.place
  -- so are those of the input set
  pub inputs : Permutation 3 s.inputs.place
  -- of the parameter set
  pub parameters : Permutation 3 s.parameters.set.place
  -- and of the configuration set
  pub configuration : Permutation 3 s.configuration.set.place
  -- parameters have 7 octets to the set length
  pub parameter_counts : SetsCounted 7 s.setup.parameter_len s.parameters
  -- and a configuration 1 to the set length
  pub configuration_counts : SetsCounted 1 s.setup.configuration_len s.configuration
  -- so many octets has the diagnosis
  pub diagnosis_counts : DiagnosisCounted s.setup.diagnosis_len s.control.diagnosis
  -- the chain's master has an address or there is no chain, and its request drew one of nine things
  pub chain_master : s.control.chain.master ≤ 127
  pub chain_code : s.control.chain.code ≤ 17
  -- the telegram that is read counts its data octets and those that were read
  pub reading : ReadCounts s.incoming.reader
  -- the reply counts its data octets and those that were sent
  pub sending : SentCounts s.reply.sender
  -- the output buffer that a reply leaves from is one of four
  pub place : s.reply.place ≤ 3
