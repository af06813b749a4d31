-- The telegrams of the bus as lists of octets (document 01, Telegrams). Nothing here knows a reader or a sender.
use Rattle.std.specs.Prelude.{◌≡◌, ℕ, ◌+◌, ◌<◌, ◌≤◌, Bool, cond, ◌⊎◌, List, [], ◌∷◌, ◌++◌, length, drop, nat_le, slice_index}
use Rattle.telegram.specs.declared.Kind.{Kind}
use Rattle.telegram.specs.declared.Kind.TheVariants.{Sd1, Sd2, Sd3, Sd4}
use Rattle.telegram.specs.Checksum.{checksum}

-- a telegram by its fields: destination DA, source SA, control octet FC, data octets
pub data Telegram : Type 0 where
  sd1 : (da sa fc : ℕ) → Telegram
  sd2 : (da sa fc : ℕ) (ds : List ℕ) → Telegram
  sd3 : (da sa fc : ℕ) (ds : List ℕ) → Telegram
  sd4 : (da sa : ℕ) → Telegram

-- its start delimiter
abbrev pub kind_of : Telegram → Kind
kind_of (sd1 da sa fc) = Sd1
kind_of (sd2 da sa fc ds) = Sd2
kind_of (sd3 da sa fc ds) = Sd3
kind_of (sd4 da sa) = Sd4

-- its destination
abbrev pub da_of : Telegram → ℕ
da_of (sd1 da sa fc) = da
da_of (sd2 da sa fc ds) = da
da_of (sd3 da sa fc ds) = da
da_of (sd4 da sa) = da

-- its source
abbrev pub sa_of : Telegram → ℕ
sa_of (sd1 da sa fc) = sa
sa_of (sd2 da sa fc ds) = sa
sa_of (sd3 da sa fc ds) = sa
sa_of (sd4 da sa) = sa

-- its control octet; SD4 has none
abbrev pub fc_of : Telegram → ℕ
fc_of (sd1 da sa fc) = fc
fc_of (sd2 da sa fc ds) = fc
fc_of (sd3 da sa fc ds) = fc
fc_of (sd4 da sa) = 0

-- all data octets, DSAP and SSAP among them
abbrev pub data_of : Telegram → List ℕ
data_of (sd1 da sa fc) = []
data_of (sd2 da sa fc ds) = ds
data_of (sd3 da sa fc ds) = ds
data_of (sd4 da sa) = []

-- what stands before DA: the start delimiter, in SD2 with the length LE twice and the delimiter again
abbrev pub head_of : Telegram → List ℕ
head_of (sd1 da sa fc) = 0x10 ∷ []
head_of (sd2 da sa fc ds) = 0x68 ∷ (length ds + 3) ∷ (length ds + 3) ∷ 0x68 ∷ []
head_of (sd3 da sa fc ds) = 0xA2 ∷ []
head_of (sd4 da sa) = 0xDC ∷ []

-- DA up to the last data octet: what the check octet covers
abbrev pub covered_of : Telegram → List ℕ
covered_of (sd1 da sa fc) = da ∷ sa ∷ fc ∷ []
covered_of (sd2 da sa fc ds) = da ∷ sa ∷ fc ∷ ds
covered_of (sd3 da sa fc ds) = da ∷ sa ∷ fc ∷ ds
covered_of (sd4 da sa) = da ∷ sa ∷ []

-- behind it the check octet FCS and the end delimiter 16; SD4 has neither
abbrev pub tail_of : Telegram → List ℕ
tail_of (sd1 da sa fc) = checksum (da ∷ sa ∷ fc ∷ []) ∷ 0x16 ∷ []
tail_of (sd2 da sa fc ds) = checksum (da ∷ sa ∷ fc ∷ ds) ∷ 0x16 ∷ []
tail_of (sd3 da sa fc ds) = checksum (da ∷ sa ∷ fc ∷ ds) ∷ 0x16 ∷ []
tail_of (sd4 da sa) = []

-- all octets of a telegram
abbrev pub octets_of : Telegram → List ℕ
octets_of t = head_of t ++ (covered_of t ++ tail_of t)

-- bit 7 of an address octet: the mark of an extension
abbrev pub Marked : ℕ → Type 0
Marked x = 128 ≤ x

-- no such mark
abbrev pub Plain : ℕ → Type 0
Plain x = x < 128

-- the mark in both addresses or in neither; an extension needs two of the n data octets
abbrev pub Addresses : ℕ → ℕ → ℕ → Type 0
Addresses n da sa = (Plain da × Plain sa) ⊎ (Marked da × Marked sa × 2 ≤ n)

-- LE is 4 to 249, SD3 has 8 data octets
abbrev pub Valid : Telegram → Type 0
Valid (sd1 da sa fc) = Addresses 0 da sa
Valid (sd2 da sa fc ds) = (4 ≤ length ds + 3) × (length ds + 3 ≤ 249) × Addresses (length ds) da sa
Valid (sd3 da sa fc ds) = (length ds ≡ 8) × Addresses 8 da sa
Valid (sd4 da sa) = Addresses 0 da sa

-- these octets are a telegram
abbrev pub IsTelegram : List ℕ → Type 0
IsTelegram xs = (t : Telegram) × Valid t × (octets_of t ≡ xs)

-- every number of the list is an octet
abbrev pub Octets : List ℕ → Type 0
Octets [] = Unit
Octets (x ∷ xs) = (x < 256) × Octets xs

-- DA has the mark: DSAP and SSAP stand before the data
abbrev pub extended : Telegram → Bool
extended t = nat_le 128 (da_of t)

-- DSAP, the service point of the destination; 0 where there is none
abbrev pub dsap_of : Telegram → ℕ
dsap_of t = cond (extended t) (slice_index (data_of t) 0) 0

-- SSAP, that of the source
abbrev pub ssap_of : Telegram → ℕ
ssap_of t = cond (extended t) (slice_index (data_of t) 1) 0

-- the data octets less DSAP and SSAP
abbrev pub payload_of : Telegram → List ℕ
payload_of t = cond (extended t) (drop 2 (data_of t)) (data_of t)
