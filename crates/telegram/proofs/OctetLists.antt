-- Lists of octets: their parts, what is put together from them, and the octets and the data of a telegram.
use Rattle.std.proofs.Common.{ℕ, zero, suc, ◌<◌, Bool, true, false, cond, List, [], ◌∷◌, ◌++◌, get_or, take, drop, set, replicate, mod-lt, arith}
use Rattle.telegram.specs.Checksum.{checksum, total}
use Rattle.telegram.specs.Telegram.{Telegram, sd1, sd2, sd3, sd4, da_of, sa_of, fc_of, data_of, head_of, covered_of, tail_of, octets_of, payload_of, extended, Valid, Octets}

-- ---------------------------------------------------------------------------------------------------
-- Lists.

-- one behind the other
pub both_octets : (xs ys : List ℕ) → Octets xs → Octets ys → Octets (xs ++ ys)
both_octets [] ys o q = q
both_octets (x ∷ xs) ys o q = (o.0, both_octets xs ys o.1 q)

-- the first of the two
first_octets : (xs ys : List ℕ) → Octets (xs ++ ys) → Octets xs
first_octets [] ys o = tt
first_octets (x ∷ xs) ys o = (o.0, first_octets xs ys o.1)

-- the first n
pub take_octets : (n : ℕ) (xs : List ℕ) → Octets xs → Octets (take n xs)
take_octets zero xs o = tt
take_octets (suc n) [] o = tt
take_octets (suc n) (x ∷ xs) o = (o.0, take_octets n xs o.1)

-- all but the first n
pub drop_octets : (n : ℕ) (xs : List ℕ) → Octets xs → Octets (drop n xs)
drop_octets zero xs o = o
drop_octets (suc n) [] o = tt
drop_octets (suc n) (x ∷ xs) o = drop_octets n xs o.1

-- one of them written
pub set_octets : (xs : List ℕ) (n b : ℕ) → b < 256 → Octets xs → Octets (set xs n b)
set_octets [] n b h o = tt
set_octets (x ∷ xs) zero b h o = (h, o.1)
set_octets (x ∷ xs) (suc n) b h o = (o.0, set_octets xs n b h o.1)

-- zeros
pub zero_octets : (n : ℕ) → Octets (replicate n 0)
zero_octets zero = tt
zero_octets (suc n) = (omega arith, zero_octets n)

-- each of them
pub octet_at_lem : (xs : List ℕ) → Octets xs → (n : ℕ) → get_or xs n 0 < 256
octet_at_lem [] o n = omega arith
octet_at_lem (x ∷ xs) o zero = o.0
octet_at_lem (x ∷ xs) o (suc n) = octet_at_lem xs o.1 n

-- ---------------------------------------------------------------------------------------------------
-- Telegrams.

-- the fields are octets
pub record Fields (t : Telegram) : Type 0 where
  pub da : da_of t < 256
  pub sa : sa_of t < 256
  pub fc : fc_of t < 256
  pub ds : Octets (data_of t)

-- a sum modulo 256 is one
check_octet : (xs : List ℕ) → checksum xs < 256
check_octet xs = mod-lt (total xs) (omega arith)

-- what stands before DA
head_octets : (t : Telegram) → Valid t → Octets (head_of t)
head_octets (sd1 da sa fc) v = (omega arith, tt)
head_octets (sd2 da sa fc ds) v = (omega arith, (omega arith, (omega arith, (omega arith, tt))))
head_octets (sd3 da sa fc ds) v = (omega arith, tt)
head_octets (sd4 da sa) v = (omega arith, tt)

-- DA up to the last data octet
covered_octets : (t : Telegram) → Fields t → Octets (covered_of t)
covered_octets (sd1 da sa fc) f = (f.da, (f.sa, (f.fc, tt)))
covered_octets (sd2 da sa fc ds) f = (f.da, (f.sa, (f.fc, f.ds)))
covered_octets (sd3 da sa fc ds) f = (f.da, (f.sa, (f.fc, f.ds)))
covered_octets (sd4 da sa) f = (f.da, (f.sa, tt))

-- and what stands behind
tail_octets : (t : Telegram) → Octets (tail_of t)
tail_octets (sd1 da sa fc) = (check_octet (da ∷ sa ∷ fc ∷ []), (omega arith, tt))
tail_octets (sd2 da sa fc ds) = (check_octet (da ∷ sa ∷ fc ∷ ds), (omega arith, tt))
tail_octets (sd3 da sa fc ds) = (check_octet (da ∷ sa ∷ fc ∷ ds), (omega arith, tt))
tail_octets (sd4 da sa) = tt

-- so all octets of a telegram
pub telegram_octets : (t : Telegram) → Valid t → Fields t → Octets (octets_of t)
telegram_octets t v f =
    both_octets (head_of t) (covered_of t ++ tail_of t) (head_octets t v) (both_octets (covered_of t) (tail_of t) (covered_octets t f) (tail_octets t))

-- the data of a telegram are among its octets
data_octets : (t : Telegram) → Octets (octets_of t) → Octets (data_of t)
data_octets (sd1 da sa fc) o = tt
data_octets (sd2 da sa fc ds) o = first_octets ds (tail_of (sd2 da sa fc ds)) o.1.1.1.1.1.1.1
data_octets (sd3 da sa fc ds) o = first_octets ds (tail_of (sd3 da sa fc ds)) o.1.1.1.1
data_octets (sd4 da sa) o = tt

-- and without DSAP and SSAP
pub payload_octets : (t : Telegram) → Octets (octets_of t) → Octets (payload_of t)
payload_octets t o = go (extended t)
  where
    go : (c : Bool) → Octets (cond c (drop 2 (data_of t)) (data_of t))
    go true = drop_octets 2 (data_of t) (data_octets t o)
    go false = data_octets t o
