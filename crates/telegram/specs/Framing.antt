-- The framing promise: what a reader tells of the octets xs that came since a gap, by the grammar of telegrams alone.
use Rattle.std.specs.Prelude.{◌≡◌, ℕ, true, ◌⊎◌, ◌↔◌, List, [], ◌∷◌, ◌++◌}
use Rattle.telegram.specs.declared.reader.Status.TheVariants.{Fresh, Inside, Complete, Broken}
use Rattle.telegram.specs.Checksum.{checksum}
use Rattle.telegram.specs.Telegram.{Telegram, head_of, covered_of, octets_of, payload_of, Valid, IsTelegram, Octets}
use Rattle.telegram.specs.Reading.{start, reader_after, run, run_from, status, gathered, finished, telegram_of}

-- some octets that come after xs complete a telegram
abbrev pub Continues : List ℕ → Type 0
Continues xs = (y : ℕ) × (ys : List ℕ) × Octets (y ∷ ys) × IsTelegram (xs ++ y ∷ ys)

-- they are no telegram, and none can result
abbrev pub Hopeless : List ℕ → Type 0
Hopeless xs = ¬ IsTelegram xs × ¬ Continues xs

-- the promise for the octets xs
pub record Framing (xs : List ℕ) : Type 0 where
  -- nothing has begun: exactly if no octet came
  pub nothing : (status (run xs) ≡ Fresh) ↔ (xs ≡ [])
  -- complete: exactly if xs is a telegram
  pub whole : (status (run xs) ≡ Complete) ↔ IsTelegram xs
  -- inside: exactly if octets came, they are no telegram, and some more make them one
  pub part : (status (run xs) ≡ Inside) ↔ (¬ (xs ≡ []) × ¬ IsTelegram xs × Continues xs)
  -- broken off: exactly if they are none, and none can result
  pub neither : (status (run xs) ≡ Broken) ↔ Hopeless xs
  -- complete with the telegram's fields, and the octets told of as data are its data, in order
  pub fields : (t : Telegram) → Valid t → octets_of t ≡ xs → (run xs ≡ finished t) × (gathered start xs ≡ payload_of t)
  -- that telegram is told by the reader's fields and the data gathered
  pub told : (t : Telegram) → Valid t → octets_of t ≡ xs → telegram_of (run xs) (gathered start xs) ≡ t
  -- octets are those of one telegram only
  pub only : (t u : Telegram) → Valid t → Valid u → octets_of t ≡ xs → octets_of u ≡ xs → t ≡ u
  -- broken off stays so
  pub stays : status (run xs) ≡ Broken → (ys : List ℕ) → status (run (xs ++ ys)) ≡ Broken
  -- no telegram begins with another, and the first octet behind one breaks off
  pub ends : IsTelegram xs → (y : ℕ) (ys : List ℕ) → ¬ IsTelegram (xs ++ y ∷ ys) × (status (run (xs ++ y ∷ ys)) ≡ Broken)
  -- an octet flagged bad breaks off, whatever follows it
  pub flagged : (b : ℕ) (ys : List ℕ) → status (run_from (reader_after (run xs) b true) ys) ≡ Broken
  -- while DA up to the last data octet of a telegram come, the running checksum is their sum modulo 256
  pub sums : (t : Telegram) (ps qs : List ℕ) → Valid t → covered_of t ≡ ps ++ qs → head_of t ++ ps ≡ xs → (run xs).sum ≡ checksum ps

-- the framing promise, for every list of octets
abbrev pub FramingPromise : Type 0
FramingPromise = (xs : List ℕ) → Framing xs

-- a start delimiter: 10, 68, A2 or DC
abbrev pub Delimiter : ℕ → Type 0
Delimiter b = (b ≡ 0x10) ⊎ ((b ≡ 0x68) ⊎ ((b ≡ 0xA2) ⊎ (b ≡ 0xDC)))

-- exactly from such a first octet a telegram can result
abbrev pub FirstOctets : Type 0
FirstOctets = (b : ℕ) → Continues (b ∷ []) ↔ Delimiter b
