-- What a list of octets computes with: `unfolding computing` opens all that the reader leaves shut.
use Rattle.std.proofs.Common.{ℕ}
use Rattle.telegram.specs.Reading.{reader_step, status, takes_data, datum_of}

unfoldable pub computing : ℕ
unfolding reader_step status takes_data datum_of
computing = 0
