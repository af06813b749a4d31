-- What a sender sends, octet by octet, and the promise that these are the octets of a telegram.
use Rattle.std.specs.Prelude.{◌≡◌, ℕ, zero, suc, ◌+◌, ◌%◌, ◌≤◌, Bool, true, false, cond, List, [], ◌∷◌, length, nat_lt, slice_index, Option, Some, None}
use Rattle.telegram.specs.declared.Kind.{Kind}
use Rattle.telegram.specs.declared.Kind.TheVariants.{Sd1, Sd2, Sd3, Sd4}
use Rattle.telegram.specs.declared.sender.Stage.{Stage}
use Rattle.telegram.specs.declared.sender.Stage.TheVariants.{Start, Le, LeAgain, SdAgain, Da, Sa, Fc, Body, End, Single, Empty}
use Rattle.telegram.specs.declared.sender.Sender.{Sender}
use Rattle.telegram.specs.declared.sender.Sent.{Sent}
use Rattle.telegram.specs.Telegram.{Telegram, kind_of, da_of, sa_of, fc_of, data_of, octets_of, payload_of, Valid}
use Rattle.telegram.specs.Reading.{start, run, gathered, finished}

-- a sender at a stage
abbrev pub sn : Stage → Kind → ℕ → ℕ → ℕ → ℕ → ℕ → ℕ → Sender
sn g k n i da sa fc s = record { stage = g; kind = k; count = n; at = i; da = da; sa = sa; fc = fc; sum = s }

-- nothing to send
abbrev pub empty : Sender
empty = sn Empty Sd1 0 0 0 0 0 0

-- the single octet E5
abbrev pub single : Sender
single = sn Single Sd1 0 0 0 0 0 0

-- a sender of a telegram with n data octets
abbrev pub sending : Kind → ℕ → ℕ → ℕ → ℕ → Sender
sending k da sa fc n = sn Start k n 0 da sa fc 0

-- the sender of a telegram
abbrev pub sender_of : Telegram → Sender
sender_of t = sending (kind_of t) (da_of t) (sa_of t) (fc_of t) (length (data_of t))

-- is an octet left, by the stage?
abbrev pub left_at : Stage → Bool
left_at Start = true
left_at Le = true
left_at LeAgain = true
left_at SdAgain = true
left_at Da = true
left_at Sa = true
left_at Fc = true
left_at Body = true
left_at End = true
left_at Single = true
left_at Empty = false

-- is an octet left?
abbrev pub left : Sender → Bool
left s = left_at s.stage

-- which data octet is sent next, by the stage
abbrev pub asks_at : Stage → Sender → Option ℕ
asks_at Start s = None
asks_at Le s = None
asks_at LeAgain s = None
asks_at SdAgain s = None
asks_at Da s = None
asks_at Sa s = None
asks_at Fc s = None
asks_at Body s = cond (nat_lt s.at s.count) (Some s.at) None
asks_at End s = None
asks_at Single s = None
asks_at Empty s = None

-- which data octet is sent next
abbrev pub asks : Sender → Option ℕ
asks s = asks_at s.stage s

-- the start delimiter
abbrev pub start_octet : Kind → ℕ
start_octet Sd1 = 0x10
start_octet Sd2 = 0x68
start_octet Sd3 = 0xA2
start_octet Sd4 = 0xDC

-- the octet that is sent, by the stage, with d for the data octet asked for
abbrev pub octet_at : Stage → Sender → ℕ → ℕ
octet_at Start s d = start_octet s.kind
octet_at Le s d = (s.count + 3) % 256
octet_at LeAgain s d = (s.count + 3) % 256
octet_at SdAgain s d = 0x68
octet_at Da s d = s.da
octet_at Sa s d = s.sa
octet_at Fc s d = s.fc
octet_at Body s d = cond (nat_lt s.at s.count) d s.sum
octet_at End s d = 0x16
octet_at Single s d = 0xE5
octet_at Empty s d = 0

-- the octet that is sent, with d for the data octet asked for
abbrev pub octet_of : Sender → ℕ → ℕ
octet_of s d = octet_at s.stage s d

-- only SD2 has a length
abbrev pub after_start : Kind → Stage
after_start Sd1 = Da
after_start Sd2 = Le
after_start Sd3 = Da
after_start Sd4 = Da

-- SD4 ends with the source address
abbrev pub stage_after_sa : Kind → Stage
stage_after_sa Sd1 = Fc
stage_after_sa Sd2 = Fc
stage_after_sa Sd3 = Fc
stage_after_sa Sd4 = Empty

-- a sender on to another stage
abbrev pub onto : Sender → Stage → Sender
onto s g = sn g s.kind s.count s.at s.da s.sa s.fc s.sum

-- and with an octet added to its checksum
abbrev pub adding : Sender → ℕ → Stage → Sender
adding s b g = sn g s.kind s.count s.at s.da s.sa s.fc ((s.sum + b) % 256)

-- the sender after it sent b, by the stage
abbrev pub after_at : Stage → Sender → ℕ → Sender
after_at Start s b = onto s (after_start s.kind)
after_at Le s b = onto s LeAgain
after_at LeAgain s b = onto s SdAgain
after_at SdAgain s b = onto s Da
after_at Da s b = adding s b Sa
after_at Sa s b = adding s b (stage_after_sa s.kind)
after_at Fc s b = adding s b Body
after_at Body s b =
    cond (nat_lt s.at s.count)
    (sn Body s.kind s.count (s.at + 1) s.da s.sa s.fc ((s.sum + b) % 256))
    (onto s End)
after_at End s b = onto s Empty
after_at Single s b = onto s Empty
after_at Empty s b = onto s Empty

-- the sender after it sent b
abbrev pub after_sent : Sender → ℕ → Sender
after_sent s b = after_at s.stage s b

-- the octet that is sent, and the sender after it
unfoldable pub sent : Sender → ℕ → Sent
sent s d = record { octet = octet_of s d; sender = after_sent s (octet_of s d) }

-- at most n octets, one after the other until nothing is left; the data octets ds are handed in as they are asked for
abbrev pub sent_up_to : ℕ → Sender → List ℕ → List ℕ
sent_up_to zero s ds = []
sent_up_to (suc n) s ds =
    cond (left s)
    ((sent s (slice_index ds s.at)).octet ∷ sent_up_to n (sent s (slice_index ds s.at)).sender ds)
    []

-- asked again and again a sender gives exactly the telegram's octets, so that they are read back with the same fields
pub record Sending (t : Telegram) : Type 0 where
  pub octets : (n : ℕ) → length (octets_of t) ≤ n → sent_up_to n (sender_of t) (data_of t) ≡ octets_of t
  pub fields : (n : ℕ) → length (octets_of t) ≤ n → run (sent_up_to n (sender_of t) (data_of t)) ≡ finished t
  pub payload : (n : ℕ) → length (octets_of t) ≤ n → gathered start (sent_up_to n (sender_of t) (data_of t)) ≡ payload_of t

-- the sending promise, for every telegram of the grammar
abbrev pub SendingPromise : Type 0
SendingPromise = (t : Telegram) → Valid t → Sending t
