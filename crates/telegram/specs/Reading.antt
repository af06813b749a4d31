-- What a reader does at an octet, and over a list of octets.
use Rattle.std.specs.Prelude.{ℕ, ◌+◌, ◌-◌, ◌%◌, Bool, true, false, cond, not, ◌&&◌, ◌||◌, List, [], ◌∷◌, length, ◌==◌, nat_le, nat_lt, Option, Some, None}
use Rattle.std.specs.Bool.{beq}
use Rattle.telegram.specs.declared.Kind.{Kind}
use Rattle.telegram.specs.declared.Kind.TheVariants.{Sd1, Sd2, Sd3, Sd4}
use Rattle.telegram.specs.declared.reader.Phase.{Phase}
use Rattle.telegram.specs.declared.reader.Phase.TheVariants.{Start, Le, LeAgain, SdAgain, Da, Sa, Fc, Dsap, Ssap, Body, End, Done, Off}
use Rattle.telegram.specs.declared.reader.Reader.{Reader}
use Rattle.telegram.specs.declared.reader.Status.{Status}
use Rattle.telegram.specs.declared.reader.Status.TheVariants.{Fresh, Inside, Complete, Broken}
use Rattle.telegram.specs.Checksum.{checksum}
use Rattle.telegram.specs.Telegram.{Telegram, sd1, sd2, sd3, sd4, kind_of, da_of, sa_of, fc_of, dsap_of, ssap_of, payload_of, covered_of}

-- a reader at a phase, with what it knows there; the fields that it does not know yet are 0
abbrev pub rd : Phase → Kind → ℕ → ℕ → ℕ → ℕ → ℕ → ℕ → ℕ → ℕ → Reader
rd p k n i da sa fc dp sp s =
    record { phase = p; kind = k; count = n; at = i; da = da; sa = sa; fc = fc; dsap = dp; ssap = sp; sum = s }

-- a reader before DA, of a telegram with n data octets
abbrev pub before : Phase → Kind → ℕ → Reader
before p k n = rd p k n 0 0 0 0 0 0 0

-- broken off: octets are ignored until the next gap
abbrev pub off : Reader
off = before Off Sd1 0

-- after a gap: the next octet may begin a telegram
abbrev pub start : Reader
start = before Start Sd1 0

-- a reader on to another phase
abbrev pub moved : Reader → Phase → Reader
moved r p = rd p r.kind r.count r.at r.da r.sa r.fc r.dsap r.ssap r.sum

-- and with an octet added to its checksum
abbrev pub summed : Reader → ℕ → Phase → Reader
summed r b p =
    rd p r.kind r.count r.at r.da r.sa r.fc r.dsap r.ssap ((r.sum + b) % 256)

-- and with n data octets read and another checksum
abbrev pub read_to : Reader → ℕ → ℕ → Reader
read_to r n s = rd r.phase r.kind r.count n r.da r.sa r.fc r.dsap r.ssap s

-- may this octet come here?
abbrev pub ok_at : Phase → Reader → ℕ → Bool
ok_at Start r b = b == 0x10 || b == 0xA2 || b == 0xDC || b == 0x68
ok_at Le r b = nat_le 4 b && nat_le b 249
ok_at LeAgain r b = b == r.count + 3
ok_at SdAgain r b = b == 0x68
ok_at Da r b = not (nat_le 128 b) || nat_le 2 r.count
ok_at Sa r b = beq (nat_le 128 r.da) (nat_le 128 b)
ok_at Fc r b = true
ok_at Dsap r b = true
ok_at Ssap r b = true
ok_at Body r b = nat_lt r.at r.count || b == r.sum
ok_at End r b = b == 0x16
ok_at Done r b = false
ok_at Off r b = false

-- SD4 ends with the source address
abbrev pub after_sa : Kind → Phase
after_sa Sd1 = Fc
after_sa Sd2 = Fc
after_sa Sd3 = Fc
after_sa Sd4 = Done

-- DSAP and SSAP follow where DA has bit 7
abbrev pub after_fc : ℕ → Phase
after_fc da = cond (nat_le 128 da) Dsap Body

-- DSAP and SSAP are not counted among the data octets from DA on
abbrev pub counted : ℕ → ℕ → ℕ
counted da n = cond (nat_le 128 da) (n - 2) n

-- where the reader is after an octet that may come
abbrev pub next_at : Phase → Reader → ℕ → Reader
next_at Start r b =
    cond (b == 0x10) (before Da Sd1 0)
    (cond (b == 0xA2) (before Da Sd3 8)
    (cond (b == 0xDC) (before Da Sd4 0) (before Le Sd2 0)))
next_at Le r b = before LeAgain Sd2 (b - 3)
next_at LeAgain r b = before SdAgain Sd2 r.count
next_at SdAgain r b = before Da Sd2 r.count
next_at Da r b =
    rd Sa r.kind (counted b r.count) r.at b r.sa r.fc r.dsap r.ssap ((r.sum + b) % 256)
next_at Sa r b =
    rd (after_sa r.kind) r.kind r.count r.at r.da b r.fc r.dsap r.ssap ((r.sum + b) % 256)
next_at Fc r b =
    rd (after_fc r.da) r.kind r.count r.at r.da r.sa b r.dsap r.ssap ((r.sum + b) % 256)
next_at Dsap r b =
    rd Ssap r.kind r.count r.at r.da r.sa r.fc b r.ssap ((r.sum + b) % 256)
next_at Ssap r b =
    rd Body r.kind r.count r.at r.da r.sa r.fc r.dsap b ((r.sum + b) % 256)
next_at Body r b =
    cond (nat_lt r.at r.count)
    (rd Body r.kind r.count (r.at + 1) r.da r.sa r.fc r.dsap r.ssap ((r.sum + b) % 256))
    (moved r End)
next_at End r b = moved r Done
next_at Done r b = off
next_at Off r b = off

-- where it is after any octet: broken off if it may not come
unfoldable pub step_at : Phase → Reader → ℕ → Reader
step_at p r b = cond (ok_at p r b) (next_at p r b) off

-- the reader after an octet
unfoldable pub reader_step : Reader → ℕ → Reader
unfolding step_at
reader_step r b = step_at r.phase r b

-- and after one that may be flagged bad: then it breaks off
abbrev pub reader_after : Reader → ℕ → Bool → Reader
reader_after r b bad = cond bad off (reader_step r b)

-- over a list of octets
abbrev pub run_from : Reader → List ℕ → Reader
run_from r [] = r
run_from r (b ∷ bs) = run_from (reader_step r b) bs

-- the reader that took these octets since a gap
abbrev pub run : List ℕ → Reader
run xs = run_from start xs

-- what a reader tells, by its phase
abbrev pub status_at : Phase → Status
status_at Start = Fresh
status_at Le = Inside
status_at LeAgain = Inside
status_at SdAgain = Inside
status_at Da = Inside
status_at Sa = Inside
status_at Fc = Inside
status_at Dsap = Inside
status_at Ssap = Inside
status_at Body = Inside
status_at End = Inside
status_at Done = Complete
status_at Off = Broken

-- what a reader tells
unfoldable pub status : Reader → Status
status r = status_at r.phase

-- the next octet is a data octet or the check octet
abbrev pub in_body : Phase → Bool
in_body Start = false
in_body Le = false
in_body LeAgain = false
in_body SdAgain = false
in_body Da = false
in_body Sa = false
in_body Fc = false
in_body Dsap = false
in_body Ssap = false
in_body Body = true
in_body End = false
in_body Done = false
in_body Off = false

-- is the next octet a data octet, number r .at?
unfoldable pub takes_data : Reader → Bool
takes_data r = in_body r.phase && nat_lt r.at r.count

-- which data octet the next octet is, if it is one
unfoldable pub datum_of : Reader → Option ℕ
datum_of r = cond (takes_data r) (Some r.at) None

-- the data octets among those that come, in order, DSAP and SSAP left out
abbrev pub gathered : Reader → List ℕ → List ℕ
gathered r [] = []
gathered r (b ∷ bs) = let ds = gathered (reader_step r b) bs in cond (takes_data r) (b ∷ ds) ds

-- the reader that has read a telegram: its fields, and how many data octets came behind DSAP and SSAP
abbrev pub finished : Telegram → Reader
finished t =
    rd Done (kind_of t) (length (payload_of t)) (length (payload_of t)) (da_of t) (sa_of t) (fc_of t) (dsap_of t) (ssap_of t) (checksum (covered_of t))

-- a telegram by its kind and its fields; ds are all its data octets
abbrev pub telegram_by : Kind → ℕ → ℕ → ℕ → List ℕ → Telegram
telegram_by Sd1 da sa fc ds = sd1 da sa fc
telegram_by Sd2 da sa fc ds = sd2 da sa fc ds
telegram_by Sd3 da sa fc ds = sd3 da sa fc ds
telegram_by Sd4 da sa fc ds = sd4 da sa

-- the telegram that a complete reader has read, from its fields and the data octets gathered
abbrev pub telegram_of : Reader → List ℕ → Telegram
telegram_of r ps =
    telegram_by r.kind r.da r.sa r.fc (cond (nat_le 128 r.da) (r.dsap ∷ r.ssap ∷ ps) ps)
