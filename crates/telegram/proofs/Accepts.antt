-- A reader that completes has read a telegram: from the last octet back to the first.
use Rattle.std.proofs.Common.{◌≡◌, ℕ, ◌+◌, ◌-◌, ◌%◌, ◌≤◌, Bool, true, false, cond, not, ◌&&◌, ◌||◌, eqb, ltb, leb, List, [], ◌∷◌, ◌++◌, length, refl, ap, ◌∙◌, inl, inr, add-zero, add_assoc, arith, ltb-false, ltb-true, eqb-true, leb-false, leb-true}
use native.Mathlib.Nat.{mod-add-mod}
use mathlib.Core.Bool.{beq}
use Rattle.telegram.specs.declared.Kind.{Kind}
use Rattle.telegram.specs.declared.Kind.TheVariants.{Sd1, Sd2, Sd3, Sd4}
use Rattle.telegram.specs.declared.reader.Phase.TheVariants.{Le, LeAgain, SdAgain, Da, Sa, Fc, Dsap, Ssap, Body, End, Done}
use Rattle.telegram.specs.declared.reader.Status.TheVariants.{Complete}
use Rattle.telegram.specs.Checksum.{total, checksum}
use Rattle.telegram.specs.Telegram.{sd1, sd2, sd3, sd4, Addresses, IsTelegram}
use Rattle.telegram.specs.Reading.{rd, before, start, after_sa, counted, run_from, run, status}
use Rattle.telegram.proofs.Run.{no_true, inside_complete, fresh_complete}
use Rattle.telegram.proofs.Steps.{passed}

-- complete: nothing more came
ended : (k : Kind) (n i da sa fc dp sp s : ℕ) (ys : List ℕ) → status (run_from (rd Done k n i da sa fc dp sp s) ys) ≡ Complete → ys ≡ []
ended k n i da sa fc dp sp s [] h = refl
ended k n i da sa fc dp sp s (y ∷ ys) h = no_true (passed (rd Done k n i da sa fc dp sp s) y ys h).0

-- data octets up to the number of them, then the check octet and the end; t is the sum of all before, unreduced
Rest : ℕ → ℕ → ℕ → List ℕ → Type 0
Rest n i t ys = (ds : List ℕ) × (i + length ds ≡ n) × (ys ≡ ds ++ ((t + total ds) % 256 ∷ 0x16 ∷ []))

more : (n i t y : ℕ) (ys : List ℕ) → Rest n (i + 1) (t + y) ys → Rest n i t (y ∷ ys)
unfolding Rest
more n i t y ys w =
    let e = w.1 in (
      y ∷ w.0,
      omega arith,
      ap (λ (l : List ℕ). y ∷ l) w.2
          ∙ ap (λ (m : ℕ). y ∷ (w.0 ++ (m % 256 ∷ 0x16 ∷ []))) (add_assoc t y (total w.0)),
    )

module _ (k : Kind) (n da sa fc dp sp : ℕ) where
  last : (i s : ℕ) (ys : List ℕ) → status (run_from (rd End k n i da sa fc dp sp s) ys) ≡ Complete → ys ≡ 0x16 ∷ []
  unfolding status
  last i s [] h = absurd (inside_complete h)
  last i s (y ∷ ys) h =
      let p = passed (rd End k n i da sa fc dp sp s) y ys h in
      let e = eqb-true y 0x16 p.0 in
      let f = ended k n i da sa fc dp sp s ys p.1 in cc

  body : (i t : ℕ) (ys : List ℕ) → i ≤ n → status (run_from (rd Body k n i da sa fc dp sp (t % 256)) ys) ≡ Complete → Rest n i t ys
  unfolding Rest status
  body i t [] l h = absurd (inside_complete h)
  body i t (y ∷ ys) l h =
      go (ltb i n) refl (passed (rd Body k n i da sa fc dp sp (t % 256)) y ys h) (λ l'. body (i + 1) (t + y) ys l')
    where
      go : (c : Bool) → ltb i n ≡ c
          → (c || eqb y (t % 256) ≡ true)
          × (status (run_from (cond c (rd Body k n (i + 1) da sa fc dp sp ((t % 256 + y) % 256)) (rd End k n i da sa fc dp sp (t % 256))) ys) ≡ Complete)
          → (i + 1 ≤ n → status (run_from (rd Body k n (i + 1) da sa fc dp sp ((t + y) % 256)) ys) ≡ Complete → Rest n (i + 1) (t + y) ys)
          → Rest n i t (y ∷ ys)
      go true e p rec =
          let l' = ltb-true i n e in
          more n i t y ys (rec (omega arith) (rw (mod-add-mod t 256 y) at p.1))
      go false e p rec =
          let l' = ltb-false i n e in
          let q = eqb-true y (t % 256) p.0 in
          let f = last i (t % 256) ys p.1 in
          ([], omega arith, cc (add-zero t))

-- DSAP and SSAP are data octets, though a reader does not count them
points : (n t x y : ℕ) (ys : List ℕ) → Rest n 0 (t + x + y) ys → Rest (n + 2) 0 t (x ∷ y ∷ ys)
unfolding Rest
points n t x y ys w =
    let e = w.1 in
    let r : Rest (n + 2) (0 + 1 + 1) (t + x + y) ys = (w.0, omega arith, w.2) in
    more (n + 2) 0 t x (y ∷ ys) (more (n + 2) (0 + 1) (t + x) y ys r)

-- behind FC
after_fc_lem : (k : Kind) (n da sa fc t : ℕ) (c : Bool) (ys : List ℕ)
    → status (run_from (rd (cond c Dsap Body) k n 0 da sa fc 0 0 (t % 256)) ys) ≡ Complete → Rest (cond c (n + 2) n) 0 t ys
unfolding status
after_fc_lem k n da sa fc t false ys h = body k n da sa fc 0 0 0 t ys (omega arith) h
after_fc_lem k n da sa fc t true [] h = absurd (inside_complete h)
after_fc_lem k n da sa fc t true (x ∷ []) h =
    absurd (inside_complete (passed (rd Dsap k n 0 da sa fc 0 0 (t % 256)) x [] h).1)
after_fc_lem k n da sa fc t true (x ∷ y ∷ ys) h =
    let p = passed (rd Dsap k n 0 da sa fc 0 0 (t % 256)) x (y ∷ ys) h in
    let q = passed (rd Ssap k n 0 da sa fc x 0 ((t % 256 + x) % 256)) y ys p.1 in
    points n t x y ys
    (body k n da sa fc x y 0 (t + x + y) ys (omega arith) (rw (mod-add-mod t 256 x, mod-add-mod (t + x) 256 y) at q.1))

-- the tests on bit 7, from the reader to the rule
addresses : (n da sa : ℕ) → not (leb 128 da) || leb 2 n ≡ true → beq (leb 128 da) (leb 128 sa) ≡ true → Addresses n da sa
addresses n da sa = go (leb 128 da) refl (leb 128 sa) refl
  where
    go : (p : Bool) → leb 128 da ≡ p → (q : Bool) → leb 128 sa ≡ q → not p || leb 2 n ≡ true → beq p q ≡ true → Addresses n da sa
    go true d true s a b = inr (leb-true 128 da d, leb-true 128 sa s, leb-true 2 n a)
    go true d false s a b = no_true b
    go false d true s a b = no_true b
    go false d false s a b = inl (leb-false 128 da d, leb-false 128 sa s)

-- from DA on
record Framed (n : ℕ) (ys : List ℕ) : Type 0 where
  da : ℕ
  sa : ℕ
  fc : ℕ
  ds : List ℕ
  fit : Addresses n da sa
  count : length ds ≡ n
  octets : ys ≡ (da ∷ sa ∷ fc ∷ ds) ++ (checksum (da ∷ sa ∷ fc ∷ ds) ∷ 0x16 ∷ [])

framed_of : (n da sa fc : ℕ) (ys : List ℕ) → Addresses n da sa → Rest n 0 (0 + da + sa + fc) ys → Framed n (da ∷ sa ∷ fc ∷ ys)
unfolding Rest
framed_of n da sa fc ys a w =
    let e = w.1 in
    let q : 0 + da + sa + fc + total w.0 ≡ da + (sa + (fc + total w.0)) = omega arith in
    record { da = da; sa = sa; fc = fc; ds = w.0; fit = a; count = omega arith; octets = cc }

-- the data octets are those counted and DSAP and SSAP
recounted : (n da : ℕ) → not (leb 128 da) || leb 2 n ≡ true → cond (leb 128 da) (counted da n + 2) (counted da n) ≡ n
recounted n da = go (leb 128 da)
  where
    go : (c : Bool) → not c || leb 2 n ≡ true → cond c (cond c (n - 2) n + 2) (cond c (n - 2) n) ≡ n
    go true e = let l = leb-true 2 n e in omega arith
    go false e = refl

framed : (k : Kind) → after_sa k ≡ Fc → (n : ℕ) (ys : List ℕ) → status (run_from (before Da k n) ys) ≡ Complete → Framed n ys
unfolding status
framed k e n [] h = absurd (inside_complete h)
framed k e n (da ∷ []) h = absurd (inside_complete (passed (before Da k n) da [] h).1)
framed k e n (da ∷ sa ∷ []) h =
    let p = passed (before Da k n) da (sa ∷ []) h in
    let q = passed (rd Sa k (counted da n) 0 da 0 0 0 0 ((0 + da) % 256)) sa [] p.1 in
    absurd (inside_complete (rw e at q.1))
framed k e n (da ∷ sa ∷ fc ∷ ys) h =
    let p = passed (before Da k n) da (sa ∷ fc ∷ ys) h in
    let q = passed (rd Sa k (counted da n) 0 da 0 0 0 0 ((0 + da) % 256)) sa (fc ∷ ys) p.1 in
    let r = passed (rd Fc k (counted da n) 0 da sa 0 0 0 (((0 + da) % 256 + sa) % 256)) fc ys (rw e at q.1) in
    let w = after_fc_lem k (counted da n) da sa fc (0 + da + sa + fc) (leb 128 da) ys
    (rw (mod-add-mod (0 + da) 256 sa, mod-add-mod (0 + da + sa) 256 fc) at r.1) in
    framed_of n da sa fc ys (addresses n da sa p.0 q.0) (rw (recounted n da p.0) at w)

-- and from the first octet on
both : (p q : Bool) → p && q ≡ true → (p ≡ true) × (q ≡ true)
both true q h = (refl, h)
both false q h = no_true h

no_data : (ds : List ℕ) → length ds ≡ 0 → ds ≡ []
no_data [] e = refl
no_data (d ∷ ds) e = absurd (omega arith)

is_sd1 : (ys : List ℕ) → Framed 0 ys → IsTelegram (0x10 ∷ ys)
is_sd1 ys f = let e = no_data f.ds f.count in (sd1 f.da f.sa f.fc, f.fit, cc)

is_sd3 : (ys : List ℕ) → Framed 8 ys → IsTelegram (0xA2 ∷ ys)
is_sd3 ys f = (sd3 f.da f.sa f.fc f.ds, (f.count, f.fit), cc)

is_sd4 : (ys : List ℕ) → status (run_from (before Da Sd4 0) ys) ≡ Complete → IsTelegram (0xDC ∷ ys)
unfolding status
is_sd4 [] h = absurd (inside_complete h)
is_sd4 (da ∷ []) h = absurd (inside_complete (passed (before Da Sd4 0) da [] h).1)
is_sd4 (da ∷ sa ∷ ys) h =
    let p = passed (before Da Sd4 0) da (sa ∷ ys) h in
    let q = passed (rd Sa Sd4 (counted da 0) 0 da 0 0 0 0 ((0 + da) % 256)) sa ys p.1 in
    let e = ended Sd4 (counted da 0) 0 da sa 0 0 0 (((0 + da) % 256 + sa) % 256) ys q.1 in
    (sd4 da sa, addresses 0 da sa p.0 q.0, cc)

sd2_of : (a b m : ℕ) (ys : List ℕ) → 4 ≤ a → a ≤ 249 → b ≡ a - 3 + 3 → m ≡ 0x68 → Framed (a - 3) ys → IsTelegram (0x68 ∷ a ∷ b ∷ m ∷ ys)
sd2_of a b m ys l u e g f =
    let c = f.count in
    let a' : length f.ds + 3 ≡ a = omega arith in
    let b' : length f.ds + 3 ≡ b = omega arith in
    (sd2 f.da f.sa f.fc f.ds, (omega arith, omega arith, rw c f.fit), cc)

is_sd2 : (ys : List ℕ) → status (run_from (before Le Sd2 0) ys) ≡ Complete → IsTelegram (0x68 ∷ ys)
unfolding status
is_sd2 [] h = absurd (inside_complete h)
is_sd2 (a ∷ []) h = absurd (inside_complete (passed (before Le Sd2 0) a [] h).1)
is_sd2 (a ∷ b ∷ []) h =
    let p = passed (before Le Sd2 0) a (b ∷ []) h in
    absurd (inside_complete (passed (before LeAgain Sd2 (a - 3)) b [] p.1).1)
is_sd2 (a ∷ b ∷ m ∷ ys) h =
    let p = passed (before Le Sd2 0) a (b ∷ m ∷ ys) h in
    let q = passed (before LeAgain Sd2 (a - 3)) b (m ∷ ys) p.1 in
    let r = passed (before SdAgain Sd2 (a - 3)) m ys q.1 in
    let l = both (leb 4 a) (leb a 249) p.0 in
    sd2_of a b m ys (leb-true 4 a l.0) (leb-true a 249 l.1) (eqb-true b (a - 3 + 3) q.0) (eqb-true m 0x68 r.0)
    (framed Sd2 refl (a - 3) ys r.1)

pub accepted : (xs : List ℕ) → status (run xs) ≡ Complete → IsTelegram xs
unfolding status
accepted [] h = absurd (fresh_complete h)
accepted (b ∷ ys) h =
    go (eqb b 0x10) refl (eqb b 0xA2) refl (eqb b 0xDC) refl (eqb b 0x68) refl (passed start b ys h)
  where
    go : (p : Bool) → eqb b 0x10 ≡ p → (q : Bool) → eqb b 0xA2 ≡ q → (r : Bool) → eqb b 0xDC ≡ r → (s : Bool) → eqb b 0x68 ≡ s
        → (p || q || r || s ≡ true)
        × (status (run_from (cond p (before Da Sd1 0) (cond q (before Da Sd3 8) (cond r (before Da Sd4 0) (before Le Sd2 0)))) ys) ≡ Complete)
        → IsTelegram (b ∷ ys)
    go true e q f r g s i h = rw (eqb-true b 0x10 e) (is_sd1 ys (framed Sd1 refl 0 ys h.1))
    go false e true f r g s i h = rw (eqb-true b 0xA2 f) (is_sd3 ys (framed Sd3 refl 8 ys h.1))
    go false e false f true g s i h = rw (eqb-true b 0xDC g) (is_sd4 ys h.1)
    go false e false f false g true i h = rw (eqb-true b 0x68 i) (is_sd2 ys h.1)
    go false e false f false g false i h = no_true h.0
