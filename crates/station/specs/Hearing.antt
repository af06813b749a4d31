-- What the ways of an octet over the memory look at.
use Rattle.std.specs.Prelude.{◌≡◌, ℕ, Bool, false, not, ◌&&◌, List}
use Rattle.telegram.specs.declared.reader.Reader.{Reader}
use Rattle.telegram.specs.Reading.{status, takes_data}
use Rattle.telegram.specs.Counts.{ReadCounts}
use Rattle.telegram.specs.declared.reader.Status.{Status}
use Rattle.telegram.specs.declared.reader.Status.TheVariants.{Inside}
use Rattle.state.specs.declared.state.Incoming.{Incoming}
use Rattle.state.specs.Memory.{Holds}
use Rattle.state.specs.Unpack.{unpacked}
use Rattle.steps.specs.Line.{is_inside, begun}

-- an octet is inner and no data, by the reader before it and after it
abbrev pub is_plain : Reader → Reader → Bool
is_plain r next = is_inside (status r) && is_inside (status next) && not (takes_data r)

-- the octet begins, ends or breaks off a telegram: what the way of such an octet asks of the memory, of the telegram that was coming, of
-- the reader after the octet and of what the octets are with it
pub record Turns (m : List ℕ) (old : Incoming) (next : Reader) (x : Status) : Type 0 where
  pub holds : Holds m (unpacked m)
  pub was : old ≡ (unpacked m).incoming
  pub counts : ReadCounts next
  pub begins : x ≡ Inside → begun (unpacked m) ≡ false
