-- A reader and a sender keep their counts, whatever comes: from every reader and every sender that has them, reached or not.
use Rattle.std.proofs.Common.{ℕ, ◌≤◌, Bool, true, false, refl, arith}
use Rattle.telegram.specs.declared.Kind.{Kind}
use Rattle.telegram.specs.declared.Kind.TheVariants.{Sd1}
use Rattle.telegram.specs.declared.reader.Phase.{Phase}
use Rattle.telegram.specs.declared.reader.Phase.TheVariants as reading
use Rattle.telegram.specs.declared.reader.Reader.{Reader}
use Rattle.telegram.specs.declared.sender.Stage.{Stage}
use Rattle.telegram.specs.declared.sender.Stage.TheVariants as stage
use Rattle.telegram.specs.declared.sender.Sender.{Sender}
use Rattle.telegram.specs.Reading.{before, off, start, step_at, reader_step, reader_after}
use Rattle.telegram.specs.Sending.{sn, empty, single, sending, sent}
use Rattle.telegram.specs.Counts.{ReadCounts, SentCounts}

-- ---- reading

-- nothing is read before DA
before_counts : (p : Phase) (k : Kind) (n : ℕ) → n ≤ 246 → ReadCounts (before p k n)
before_counts p k n h = record { count = h; read = omega arith; none_yet = λ _. refl }

pub start_counts : ReadCounts start
start_counts = before_counts reading.Start Sd1 0 (omega arith)

pub off_counts : ReadCounts off
off_counts = before_counts reading.Off Sd1 0 (omega arith)

-- an octet
pub step_counts : (r : Reader) (b : ℕ) → ReadCounts r → ReadCounts (reader_step r b)
unfolding reader_step step_at
step_counts r b h =
    let c = h.count in
    let a = h.read in
    let z = h.none_yet in
    record { count = grind (arith, c); read = grind (arith, a, z); none_yet = grind (arith, z) }

-- and one that may be flagged bad
pub after_counts : (r : Reader) (b : ℕ) (bad : Bool) → ReadCounts r → ReadCounts (reader_after r b bad)
after_counts r b true h = off_counts
after_counts r b false h = step_counts r b h

-- ---- sending

-- no data octet was sent yet
unsent : (g : Stage) (k : Kind) (n da sa fc : ℕ) → n ≤ 246 → SentCounts (sn g k n 0 da sa fc 0)
unsent g k n da sa fc h = record { count = h; sent = omega arith; none_yet = λ _. refl }

pub sending_counts : (k : Kind) (da sa fc n : ℕ) → n ≤ 246 → SentCounts (sending k da sa fc n)
sending_counts k da sa fc n = unsent stage.Start k n da sa fc

pub empty_counts : SentCounts empty
empty_counts = unsent stage.Empty Sd1 0 0 0 0 (omega arith)

pub single_counts : SentCounts single
single_counts = unsent stage.Single Sd1 0 0 0 0 (omega arith)

-- an octet sent
pub sent_counts : (s : Sender) (d : ℕ) → SentCounts s → SentCounts (sent s d).sender
unfolding sent
sent_counts s d h =
    let c = h.count in
    let a = h.sent in
    let z = h.none_yet in
    record { count = grind (arith, c); sent = grind (arith, a); none_yet = grind (arith, z) }
