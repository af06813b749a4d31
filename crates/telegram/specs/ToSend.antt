-- What a sender has yet to send, for a layer that keeps a reply as the octets left of it.
use Rattle.std.specs.Prelude.{ℕ, ◌+◌, ◌%◌, List, [], ◌∷◌, ◌++◌, drop}
use Rattle.telegram.specs.declared.Kind.{Kind}
use Rattle.telegram.specs.declared.Kind.TheVariants.{Sd1, Sd2, Sd3, Sd4}
use Rattle.telegram.specs.declared.sender.Stage.{Stage}
use Rattle.telegram.specs.declared.sender.Stage.TheVariants.{Start, Le, LeAgain, SdAgain, Da, Sa, Fc, Body, End, Single, Empty}
use Rattle.telegram.specs.declared.sender.Sender.{Sender}
use Rattle.telegram.specs.Checksum.{running}
use Rattle.telegram.specs.Sending.{start_octet}

-- octets with the check octet and the end behind them; s is the checksum of what was sent before
abbrev pub closing : ℕ → List ℕ → List ℕ
closing s xs = xs ++ (running s xs ∷ 0x16 ∷ [])

-- addresses and what follows them; nothing follows in SD4
abbrev pub behind : Kind → ℕ → List ℕ → List ℕ → List ℕ
behind Sd1 s ad xs = closing s (ad ++ xs)
behind Sd2 s ad xs = closing s (ad ++ xs)
behind Sd3 s ad xs = closing s (ad ++ xs)
behind Sd4 s ad xs = ad

-- FC, and the data octets that are left of ds
abbrev pub body : Sender → List ℕ → List ℕ
body s ds = s.fc ∷ drop s.at ds

-- DA and what follows it
abbrev pub from_da : Sender → List ℕ → List ℕ
from_da s ds = behind s.kind s.sum (s.da ∷ s.sa ∷ []) (body s ds)

-- between the start delimiter and DA
abbrev pub lengths : Kind → ℕ → List ℕ
lengths Sd1 n = []
lengths Sd2 n = (n + 3) % 256 ∷ (n + 3) % 256 ∷ 0x68 ∷ []
lengths Sd3 n = []
lengths Sd4 n = []

-- the octets left of a telegram with the data octets ds, by the stage
abbrev pub to_send_at : Stage → Sender → List ℕ → List ℕ
to_send_at Start s ds = start_octet s.kind ∷ (lengths s.kind s.count ++ from_da s ds)
to_send_at Le s ds = (s.count + 3) % 256 ∷ (s.count + 3) % 256 ∷ 0x68 ∷ from_da s ds
to_send_at LeAgain s ds = (s.count + 3) % 256 ∷ 0x68 ∷ from_da s ds
to_send_at SdAgain s ds = 0x68 ∷ from_da s ds
to_send_at Da s ds = from_da s ds
to_send_at Sa s ds = behind s.kind s.sum (s.sa ∷ []) (body s ds)
to_send_at Fc s ds = closing s.sum (body s ds)
to_send_at Body s ds = closing s.sum (drop s.at ds)
to_send_at End s ds = 0x16 ∷ []
to_send_at Single s ds = 0xE5 ∷ []
to_send_at Empty s ds = []

-- the octets left of a telegram with the data octets ds
unfoldable pub to_send : Sender → List ℕ → List ℕ
to_send s ds = to_send_at s.stage s ds
