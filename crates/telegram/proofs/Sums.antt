-- While DA up to the last data octet of a telegram come, the running checksum is their sum modulo 256.
use Rattle.std.proofs.Common.{◌≡◌, ℕ, ◌+◌, ◌-◌, ◌%◌, ◌<◌, ◌≤◌, true, false, List, [], ◌∷◌, ◌++◌, length, refl, ap, ◌∙◌, inl, inr, arith, length-append, le-leb}
use native.Mathlib.Nat.{mod-add-mod}
use borrow.Author.Tests.{lt-leb}
use Rattle.telegram.specs.declared.Kind.{Kind}
use Rattle.telegram.specs.declared.Kind.TheVariants.{Sd1, Sd2, Sd3, Sd4}
use Rattle.telegram.specs.declared.reader.Phase.TheVariants.{Da, Fc}
use Rattle.telegram.specs.declared.reader.Reader.{Reader}
use Rattle.telegram.specs.Checksum.{total, checksum}
use Rattle.telegram.specs.Telegram.{Telegram, sd1, sd2, sd3, sd4, head_of, covered_of, Addresses, Valid}
use Rattle.telegram.specs.Reading.{before, after_sa, counted, run_from, run}
use Rattle.telegram.proofs.Run.{on}
use Rattle.telegram.proofs.ReadBack.{step_start, step_da, step_sa, step_dsap, head, head2, points, run_skip, run_data}

module _ (k : Kind) (n da sa : ℕ) (a : Addresses n da sa) where
  -- the addresses, which every telegram has
  sum_da : (run_from (before Da k n) (da ∷ [])).sum ≡ checksum (da ∷ [])
  sum_da =
      let q : 0 + da ≡ total (da ∷ []) = omega arith in
      rw (step_da k n da sa a, q)

  sum_sa : (run_from (before Da k n) (da ∷ sa ∷ [])).sum ≡ checksum (da ∷ sa ∷ [])
  sum_sa =
      let q : 0 + da + sa ≡ total (da ∷ sa ∷ []) = omega arith in
      rw (step_da k n da sa a, step_sa k n (counted da n) da sa ((0 + da) % 256) a, mod-add-mod (0 + da) 256 sa, q)

-- the rest, which a telegram with FC has; ps are octets behind FC
module _ (k : Kind) (e : after_sa k ≡ Fc) (n da sa fc : ℕ) where
  sum_plain : (ps : List ℕ) → da < 128 → sa < 128 → length ps ≤ n
      → (run_from (before Da k n) (da ∷ sa ∷ fc ∷ ps)).sum ≡ checksum (da ∷ sa ∷ fc ∷ ps)
  sum_plain ps h g l =
      let m = lt-leb 128 da h in
      let q : 0 + da + sa + fc + total ps ≡ total (da ∷ sa ∷ fc ∷ ps) = omega arith in
      ap (λ (r : Reader). r.sum) (head run_from run_skip k e n da sa fc ps false m (inl (h, g)))
      ∙ rw (m, ← q) (ap (λ (r : Reader). r.sum) (run_data k n da sa fc 0 0 0 (0 + da + sa + fc) ps (omega arith)))

  sum_marked : (ps : List ℕ) → 128 ≤ da → 128 ≤ sa → 2 ≤ n → length ps ≤ n
      → (run_from (before Da k n) (da ∷ sa ∷ fc ∷ ps)).sum ≡ checksum (da ∷ sa ∷ fc ∷ ps)
  sum_marked [] h g t l =
      let q : 0 + da + sa + fc ≡ total (da ∷ sa ∷ fc ∷ []) = omega arith in
      rw (← q) (ap (λ (r : Reader). r.sum) (head run_from run_skip k e n da sa fc [] true (le-leb 128 da h) (inr (h, g, t))))
  sum_marked (x ∷ []) h g t l =
      let q : 0 + da + sa + fc + x ≡ total (da ∷ sa ∷ fc ∷ x ∷ []) = omega arith in
      ap (λ (r : Reader). r.sum) (head run_from run_skip k e n da sa fc (x ∷ []) true (le-leb 128 da h) (inr (h, g, t)))
      ∙ rw (step_dsap k (counted da n) da sa fc ((0 + da + sa + fc) % 256) x, mod-add-mod (0 + da + sa + fc) 256 x, q)
  sum_marked (x ∷ y ∷ ps) h g t l =
      let m = le-leb 128 da h in
      let q : 0 + da + sa + fc + x + y + total ps ≡ total (da ∷ sa ∷ fc ∷ x ∷ y ∷ ps) = omega arith in
      ap (λ (r : Reader). r.sum)
      (head run_from run_skip k e n da sa fc (x ∷ y ∷ ps) true m (inr (h, g, t))
      ∙ points run_from run_skip k (counted da n) da sa fc (0 + da + sa + fc) x y ps)
      ∙ rw (m, ← q) (ap (λ (r : Reader). r.sum) (run_data k (n - 2) da sa fc x y 0 (0 + da + sa + fc + x + y) ps (omega arith)))

  -- ps are the first of DA up to the last data octet
  sum_framed : (ds ps qs : List ℕ) → Addresses n da sa → length ds ≡ n → da ∷ sa ∷ fc ∷ ds ≡ ps ++ qs
      → (run_from (before Da k n) ps).sum ≡ checksum ps
  sum_framed ds [] qs a c w = refl
  sum_framed ds (x ∷ []) qs a c w =
      let p : da ≡ x = cc in
      rw (← p) (sum_da k n da sa a)
  sum_framed ds (x ∷ y ∷ []) qs a c w =
      let p : da ≡ x = cc in
      let q : sa ≡ y = cc in
      rw (← p, ← q) (sum_sa k n da sa a)
  sum_framed ds (x ∷ y ∷ z ∷ ps) qs a c w =
      let p : da ≡ x = cc in
      let q : sa ≡ y = cc in
      let r : fc ≡ z = cc in
      let v : ds ≡ ps ++ qs = cc in
      let l = length-append ps qs in
      let u = ap length v in
      rw (← p, ← q, ← r) (go a (omega arith))
    where
      go : Addresses n da sa → length ps ≤ n → (run_from (before Da k n) (da ∷ sa ∷ fc ∷ ps)).sum ≡ checksum (da ∷ sa ∷ fc ∷ ps)
      go (inl b) l = sum_plain ps b.0 b.1 l
      go (inr b) l = sum_marked ps b.0 b.1 b.2 l

sum_token : (da sa : ℕ) (ps qs : List ℕ) → Addresses 0 da sa → da ∷ sa ∷ [] ≡ ps ++ qs
    → (run_from (before Da Sd4 0) ps).sum ≡ checksum ps
sum_token da sa [] qs a w = refl
sum_token da sa (x ∷ []) qs a w =
    let p : da ≡ x = cc in
    rw (← p) (sum_da Sd4 0 da sa a)
sum_token da sa (x ∷ y ∷ []) qs a w =
    let p : da ≡ x = cc in
    let q : sa ≡ y = cc in
    rw (← p, ← q) (sum_sa Sd4 0 da sa a)
sum_token da sa (x ∷ y ∷ z ∷ ps) qs a w =
    let l = ap length w in
    absurd (omega arith)

pub sums : (t : Telegram) (ps qs : List ℕ) → Valid t → covered_of t ≡ ps ++ qs → (run (head_of t ++ ps)).sum ≡ checksum ps
sums (sd1 da sa fc) ps qs v w = ap (λ (r : Reader). r.sum) (on ps step_start.0) ∙ sum_framed Sd1 refl 0 da sa fc [] ps qs v refl w
sums (sd2 da sa fc ds) ps qs v w =
    ap (λ (r : Reader). r.sum) (head2 run_from run_skip (length ds) ps v.0 v.1)
    ∙ sum_framed Sd2 refl (length ds) da sa fc ds ps qs v.2 refl w
sums (sd3 da sa fc ds) ps qs v w =
    ap (λ (r : Reader). r.sum) (on ps step_start.1) ∙ sum_framed Sd3 refl 8 da sa fc ds ps qs v.1 v.0 w
sums (sd4 da sa) ps qs v w = ap (λ (r : Reader). r.sum) (on ps step_start.2) ∙ sum_token da sa ps qs v w
