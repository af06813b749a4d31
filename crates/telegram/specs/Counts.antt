-- The counts of a telegram that is read or sent: how many data octets it has, and how many of them came or went.
use Rattle.std.specs.Prelude.{◌≡◌, ◌≤◌, Bool, true, false}
use Rattle.telegram.specs.declared.reader.Phase.{Phase}
use Rattle.telegram.specs.declared.reader.Phase.TheVariants as reading
use Rattle.telegram.specs.declared.reader.Reader.{Reader}
use Rattle.telegram.specs.declared.sender.Stage.{Stage}
use Rattle.telegram.specs.declared.sender.Stage.TheVariants as stage
use Rattle.telegram.specs.declared.sender.Sender.{Sender}

-- a reader's phase before the data octets: an octet that stands before them is still to come
abbrev pub before_data : Phase → Bool
before_data reading.Start = true
before_data reading.Le = true
before_data reading.LeAgain = true
before_data reading.SdAgain = true
before_data reading.Da = true
before_data reading.Sa = true
before_data reading.Fc = true
before_data reading.Dsap = true
before_data reading.Ssap = true
before_data reading.Body = false
before_data reading.End = false
before_data reading.Done = false
before_data reading.Off = false

-- a sender's stage before the data octets: FC or an octet before it is still to be sent
abbrev pub stage_before_data : Stage → Bool
stage_before_data stage.Start = true
stage_before_data stage.Le = true
stage_before_data stage.LeAgain = true
stage_before_data stage.SdAgain = true
stage_before_data stage.Da = true
stage_before_data stage.Sa = true
stage_before_data stage.Fc = true
stage_before_data stage.Body = false
stage_before_data stage.End = false
stage_before_data stage.Single = false
stage_before_data stage.Empty = false

-- the counts of a telegram that is read
pub record ReadCounts (r : Reader) : Type 0 where
  -- "LE − 3 data octets", "LE 4 to 249": at most 246
  pub count : r.count ≤ 246
  -- no more of them were read than there are
  pub read : r.at ≤ r.count
  -- before the data none was: DA with bit 7 takes the extension's two octets off the count, which must not fall below those read
  pub none_yet : before_data r.phase ≡ true → r.at ≡ 0

-- the counts of a telegram that is sent
pub record SentCounts (s : Sender) : Type 0 where
  -- "LE − 3 data octets", "LE 4 to 249": at most 246
  pub count : s.count ≤ 246
  -- no more of them were sent than there are
  pub sent : s.at ≤ s.count
  -- before the data none was
  pub none_yet : stage_before_data s.stage ≡ true → s.at ≡ 0
