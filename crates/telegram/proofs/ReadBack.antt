-- Every telegram is read, with its fields, its data and its running checksum.
use Rattle.std.proofs.Common.{◌≡◌, ℕ, ◌+◌, ◌-◌, ◌%◌, ◌<◌, ◌≤◌, Bool, true, false, cond, leb, List, [], ◌∷◌, ◌++◌, length, get_or, drop, refl, ap, ◌∙◌, inl, inr, add-zero, add_assoc, arith, le-ltb, lt-ltb, eq-eqb, le-leb}
use native.Mathlib.Nat.{mod-add-mod}
use borrow.Author.Tests.{lt-leb}
use Rattle.telegram.specs.declared.Kind.{Kind}
use Rattle.telegram.specs.declared.Kind.TheVariants.{Sd1, Sd2, Sd3, Sd4}
use Rattle.telegram.specs.declared.reader.Phase.{Phase}
use Rattle.telegram.specs.declared.reader.Phase.TheVariants.{Le, LeAgain, SdAgain, Da, Sa, Fc, Dsap, Ssap, Body, End, Done}
use Rattle.telegram.specs.declared.reader.Reader.{Reader}
use Rattle.telegram.specs.Checksum.{total, checksum}
use Rattle.telegram.specs.Telegram.{Telegram, sd1, sd2, sd3, sd4, octets_of, payload_of, Addresses, Valid}
use Rattle.telegram.specs.Reading.{rd, before, start, after_sa, counted, reader_step, run_from, run, takes_data, gathered, finished}
use Rattle.telegram.proofs.Run.{on, run_append}

-- ---------------------------------------------------------------------------------------------------
-- A step at each phase of a telegram.

pub step_start : (reader_step start 0x10 ≡ before Da Sd1 0) × (reader_step start 0xA2 ≡ before Da Sd3 8)
    × (reader_step start 0xDC ≡ before Da Sd4 0) × (reader_step start 0x68 ≡ before Le Sd2 0)
unfolding reader_step
step_start = (refl, refl, refl, refl)

step_le : (n : ℕ) → 4 ≤ n + 3 → n + 3 ≤ 249 → reader_step (before Le Sd2 0) (n + 3) ≡ before LeAgain Sd2 n
unfolding reader_step
step_le n l u =
    let e : n + 3 - 3 ≡ n = omega arith in
    rw (le-leb 4 (n + 3) l, le-leb (n + 3) 249 u, e)

step_again : (n : ℕ) → reader_step (before LeAgain Sd2 n) (n + 3) ≡ before SdAgain Sd2 n
unfolding reader_step
step_again n = rw (eq-eqb (n + 3) (n + 3) refl)

step_sd : (n : ℕ) → reader_step (before SdAgain Sd2 n) 0x68 ≡ before Da Sd2 n
unfolding reader_step
step_sd n = refl

module _ (k : Kind) where
  pub step_da : (n da sa : ℕ) → Addresses n da sa → reader_step (before Da k n) da ≡ rd Sa k (counted da n) 0 da 0 0 0 0 ((0 + da) % 256)
  unfolding reader_step
  step_da n da sa (inl a) = rw (lt-leb 128 da a.0)
  step_da n da sa (inr a) = rw (le-leb 128 da a.0, le-leb 2 n a.2)

  pub step_sa : (n m da sa s : ℕ) → Addresses n da sa
      → reader_step (rd Sa k m 0 da 0 0 0 0 s) sa ≡ rd (after_sa k) k m 0 da sa 0 0 0 ((s + sa) % 256)
  unfolding reader_step
  step_sa n m da sa s (inl a) = rw (lt-leb 128 da a.0, lt-leb 128 sa a.1)
  step_sa n m da sa s (inr a) = rw (le-leb 128 da a.0, le-leb 128 sa a.1)

  step_fc : (n da sa s b : ℕ) (c : Bool) → leb 128 da ≡ c
      → reader_step (rd Fc k n 0 da sa 0 0 0 s) b ≡ rd (cond c Dsap Body) k n 0 da sa b 0 0 ((s + b) % 256)
  unfolding reader_step
  step_fc n da sa s b c e = rw e

  pub step_dsap : (n da sa fc s b : ℕ) → reader_step (rd Dsap k n 0 da sa fc 0 0 s) b ≡ rd Ssap k n 0 da sa fc b 0 ((s + b) % 256)
  unfolding reader_step
  step_dsap n da sa fc s b = refl

  step_ssap : (n da sa fc dp s b : ℕ) → reader_step (rd Ssap k n 0 da sa fc dp 0 s) b ≡ rd Body k n 0 da sa fc dp b ((s + b) % 256)
  unfolding reader_step
  step_ssap n da sa fc dp s b = refl

  step_data : (n i da sa fc dp sp s b : ℕ) → i < n
      → reader_step (rd Body k n i da sa fc dp sp s) b ≡ rd Body k n (i + 1) da sa fc dp sp ((s + b) % 256)
  unfolding reader_step
  step_data n i da sa fc dp sp s b h = rw (lt-ltb i n h)

  step_check : (n i da sa fc dp sp s : ℕ) → n ≤ i → reader_step (rd Body k n i da sa fc dp sp s) s ≡ rd End k n i da sa fc dp sp s
  unfolding reader_step
  step_check n i da sa fc dp sp s h = rw (le-ltb i n h, eq-eqb s s refl)

  step_end : (n i da sa fc dp sp s : ℕ) → reader_step (rd End k n i da sa fc dp sp s) 0x16 ≡ rd Done k n i da sa fc dp sp s
  unfolding reader_step
  step_end n i da sa fc dp sp s = refl

-- ---------------------------------------------------------------------------------------------------
-- The data octets, from number i on; t is the sum of all before them, unreduced.

module _ (k : Kind) (n da sa fc dp sp : ℕ) where
  pub run_data : (i t : ℕ) (ds : List ℕ) → i + length ds ≤ n
      → run_from (rd Body k n i da sa fc dp sp (t % 256)) ds ≡ rd Body k n (i + length ds) da sa fc dp sp ((t + total ds) % 256)
  run_data i t [] l = rw (add-zero t, add-zero i)
  run_data i t (d ∷ ds) l =
      let h : i < n = omega arith in
      let e : i + 1 + length ds ≡ i + length (d ∷ ds) = omega arith in
      on ds (step_data k n i da sa fc dp sp (t % 256) d h)
      ∙ rw (mod-add-mod t 256 d, ← add_assoc t d (total ds), ← e) (run_data (i + 1) (t + d) ds (omega arith))

  read_body : (t : ℕ) (ds : List ℕ) → length ds ≡ n
      → run_from (rd Body k n 0 da sa fc dp sp (t % 256)) (ds ++ ((t + total ds) % 256 ∷ 0x16 ∷ [])) ≡ rd Done k n n da sa fc dp sp ((t + total ds) % 256)
  read_body t ds e =
      let z : 0 + length ds ≡ n = omega arith in
      let s = (t + total ds) % 256 in
      run_append (rd Body k n 0 da sa fc dp sp (t % 256)) ds (s ∷ 0x16 ∷ [])
      ∙ on (s ∷ 0x16 ∷ []) (run_data 0 t ds (omega arith) ∙ ap (λ (i : ℕ). rd Body k n i da sa fc dp sp s) z)
      ∙ on (0x16 ∷ []) (step_check k n n da sa fc dp sp s (omega arith))
      ∙ step_end k n n da sa fc dp sp s

  gather_body : (i t : ℕ) (ds : List ℕ) → i + length ds ≡ n
      → gathered (rd Body k n i da sa fc dp sp (t % 256)) (ds ++ ((t + total ds) % 256 ∷ 0x16 ∷ [])) ≡ ds
  unfolding takes_data
  gather_body i t [] e =
      let l : n ≤ i = omega arith in
      rw (le-ltb i n l, add-zero t, step_check k n i da sa fc dp sp (t % 256) l)
  gather_body i t (d ∷ ds) e =
      let l : i < n = omega arith in
      rw (lt-ltb i n l, step_data k n i da sa fc dp sp (t % 256) d l, mod-add-mod t 256 d, ← add_assoc t d (total ds))
      (ap (λ (l : List ℕ). d ∷ l) (gather_body (i + 1) (t + d) ds (omega arith)))

-- ---------------------------------------------------------------------------------------------------
-- Up to the first data octet, for all that goes by steps and leaves out what is no data: the run, and what is gathered.

-- the sum of DA, SA and FC as the reader has it
sum3 : (da sa fc : ℕ) → (((0 + da) % 256 + sa) % 256 + fc) % 256 ≡ (0 + da + sa + fc) % 256
sum3 da sa fc = rw (mod-add-mod (0 + da) 256 sa, mod-add-mod (0 + da + sa) 256 fc)

sum5 : (t x y : ℕ) → ((t % 256 + x) % 256 + y) % 256 ≡ (t + x + y) % 256
sum5 t x y = rw (mod-add-mod t 256 x, mod-add-mod (t + x) 256 y)

module _ {A : Type 0} (F : Reader → List ℕ → A)
    (skip : (r : Reader) (b : ℕ) (ys : List ℕ) → takes_data r ≡ false → F r (b ∷ ys) ≡ F (reader_step r b) ys) where
  via : (r q : Reader) (b : ℕ) (ys : List ℕ) → takes_data r ≡ false → reader_step r b ≡ q → F r (b ∷ ys) ≡ F q ys
  via r q b ys t e = skip r b ys t ∙ ap (λ (x : Reader). F x ys) e

  pub head2 : (n : ℕ) (ys : List ℕ) → 4 ≤ n + 3 → n + 3 ≤ 249
      → F start (0x68 ∷ (n + 3) ∷ (n + 3) ∷ 0x68 ∷ ys) ≡ F (before Da Sd2 n) ys
  unfolding takes_data
  head2 n ys l u =
      via _ _ 0x68 _ refl step_start.3
      ∙ via _ _ (n + 3) _ refl (step_le n l u)
      ∙ via _ _ (n + 3) _ refl (step_again n)
      ∙ via _ _ 0x68 _ refl (step_sd n)

  pub head : (k : Kind) → after_sa k ≡ Fc → (n da sa fc : ℕ) (ys : List ℕ) (c : Bool) → leb 128 da ≡ c → Addresses n da sa
      → F (before Da k n) (da ∷ sa ∷ fc ∷ ys) ≡ F (rd (cond c Dsap Body) k (counted da n) 0 da sa fc 0 0 ((0 + da + sa + fc) % 256)) ys
  unfolding takes_data
  head k e n da sa fc ys c m a =
      let s = ((0 + da) % 256 + sa) % 256 in
      via _ _ da _ refl (step_da k n da sa a)
      ∙ via _ _ sa _ refl (step_sa k n (counted da n) da sa ((0 + da) % 256) a ∙ ap (λ (p : Phase). rd p k (counted da n) 0 da sa 0 0 0 s) e)
      ∙ via _ _ fc _ refl (step_fc k (counted da n) da sa s fc c m ∙ ap (λ (x : ℕ). rd (cond c Dsap Body) k (counted da n) 0 da sa fc 0 0 x) (sum3 da sa fc))

  pub points : (k : Kind) (n da sa fc t x y : ℕ) (ys : List ℕ)
      → F (rd Dsap k n 0 da sa fc 0 0 (t % 256)) (x ∷ y ∷ ys) ≡ F (rd Body k n 0 da sa fc x y ((t + x + y) % 256)) ys
  unfolding takes_data
  points k n da sa fc t x y ys =
      via _ _ x _ refl (step_dsap k n da sa fc (t % 256) x)
      ∙ via _ _ y _ refl (step_ssap k n da sa fc x ((t % 256 + x) % 256) y ∙ ap (λ (s : ℕ). rd Body k n 0 da sa fc x y s) (sum5 t x y))

pub run_skip : (r : Reader) (b : ℕ) (ys : List ℕ) → takes_data r ≡ false → run_from r (b ∷ ys) ≡ run_from (reader_step r b) ys
run_skip r b ys t = refl

gather_skip : (r : Reader) (b : ℕ) (ys : List ℕ) → takes_data r ≡ false → gathered r (b ∷ ys) ≡ gathered (reader_step r b) ys
gather_skip r b ys t = rw t

-- ---------------------------------------------------------------------------------------------------
-- From DA to the end.

module _ (k : Kind) (e : after_sa k ≡ Fc) (n da sa fc : ℕ) where
  -- a telegram read, its extension taken apart or not
  Ending : List ℕ → ℕ → Reader
  Ending ds s =
      rd Done k (length (cond (leb 128 da) (drop 2 ds) ds)) (length (cond (leb 128 da) (drop 2 ds) ds)) da sa fc
      (cond (leb 128 da) (get_or ds 0 0) 0) (cond (leb 128 da) (get_or ds 1 0) 0) s

  -- what follows FC: the data, the check octet over all, the end
  Behind : List ℕ → List ℕ
  Behind ds = ds ++ (checksum (da ∷ sa ∷ fc ∷ ds) ∷ 0x16 ∷ [])

  plain_sum : (ds : List ℕ) → 0 + da + sa + fc + total ds ≡ total (da ∷ sa ∷ fc ∷ ds)
  plain_sum ds = omega arith

  marked_sum : (x y : ℕ) (ds : List ℕ) → 0 + da + sa + fc + x + y + total ds ≡ total (da ∷ sa ∷ fc ∷ x ∷ y ∷ ds)
  marked_sum x y ds = omega arith

  read_framed : (ds : List ℕ) → Addresses n da sa → length ds ≡ n
      → run_from (before Da k n) (da ∷ sa ∷ fc ∷ Behind ds) ≡ Ending ds (checksum (da ∷ sa ∷ fc ∷ ds))
  unfolding Ending Behind
  read_framed ds (inl a) c =
      let m = lt-leb 128 da a.0 in
      head run_from run_skip k e n da sa fc (ds ++ (checksum (da ∷ sa ∷ fc ∷ ds) ∷ 0x16 ∷ [])) false m (inl a)
      ∙ rw (m, c, ← plain_sum ds) (read_body k n da sa fc 0 0 (0 + da + sa + fc) ds c)
  read_framed [] (inr a) c = absurd (omega arith)
  read_framed (x ∷ []) (inr a) c = absurd (omega arith)
  read_framed (x ∷ y ∷ ds) (inr a) c =
      let m = le-leb 128 da a.0 in
      let l : length ds ≡ n - 2 = omega arith in
      head run_from run_skip k e n da sa fc (x ∷ y ∷ (ds ++ (checksum (da ∷ sa ∷ fc ∷ x ∷ y ∷ ds) ∷ 0x16 ∷ []))) true m (inr a)
      ∙ points run_from run_skip k (counted da n) da sa fc (0 + da + sa + fc) x y (ds ++ (checksum (da ∷ sa ∷ fc ∷ x ∷ y ∷ ds) ∷ 0x16 ∷ []))
      ∙ rw (m, l, ← marked_sum x y ds) (read_body k (n - 2) da sa fc x y (0 + da + sa + fc + x + y) ds l)

  gather_framed : (ds : List ℕ) → Addresses n da sa → length ds ≡ n
      → gathered (before Da k n) (da ∷ sa ∷ fc ∷ Behind ds) ≡ cond (leb 128 da) (drop 2 ds) ds
  unfolding Behind
  gather_framed ds (inl a) c =
      let m = lt-leb 128 da a.0 in
      head gathered gather_skip k e n da sa fc (ds ++ (checksum (da ∷ sa ∷ fc ∷ ds) ∷ 0x16 ∷ [])) false m (inl a)
      ∙ rw (m, ← plain_sum ds) (gather_body k n da sa fc 0 0 0 (0 + da + sa + fc) ds (omega arith))
  gather_framed [] (inr a) c = absurd (omega arith)
  gather_framed (x ∷ []) (inr a) c = absurd (omega arith)
  gather_framed (x ∷ y ∷ ds) (inr a) c =
      let m = le-leb 128 da a.0 in
      head gathered gather_skip k e n da sa fc (x ∷ y ∷ (ds ++ (checksum (da ∷ sa ∷ fc ∷ x ∷ y ∷ ds) ∷ 0x16 ∷ []))) true m (inr a)
      ∙ points gathered gather_skip k (counted da n) da sa fc (0 + da + sa + fc) x y (ds ++ (checksum (da ∷ sa ∷ fc ∷ x ∷ y ∷ ds) ∷ 0x16 ∷ []))
      ∙ rw (m, ← marked_sum x y ds) (gather_body k (n - 2) da sa fc x y 0 (0 + da + sa + fc + x + y) ds (omega arith))

-- SD4 has no room for an extension
token_sum : (da sa : ℕ) → ((0 + da) % 256 + sa) % 256 ≡ checksum (da ∷ sa ∷ [])
token_sum da sa =
    let q : 0 + da + sa ≡ total (da ∷ sa ∷ []) = omega arith in
    mod-add-mod (0 + da) 256 sa ∙ ap (λ (x : ℕ). x % 256) q

token_plain : (da sa : ℕ) → Addresses 0 da sa → leb 128 da ≡ false
token_plain da sa (inl a) = lt-leb 128 da a.0
token_plain da sa (inr a) = absurd (omega arith)

-- every telegram is read, with its fields
pub reads : (t : Telegram) → Valid t → run (octets_of t) ≡ finished t
unfolding Ending Behind
reads (sd1 da sa fc) v =
    on (da ∷ sa ∷ fc ∷ Behind Sd1 refl 0 da sa fc []) step_start.0 ∙ read_framed Sd1 refl 0 da sa fc [] v refl
reads (sd2 da sa fc ds) v =
    head2 run_from run_skip (length ds) (da ∷ sa ∷ fc ∷ Behind Sd2 refl (length ds) da sa fc ds) v.0 v.1
    ∙ read_framed Sd2 refl (length ds) da sa fc ds v.2 refl
reads (sd3 da sa fc ds) v =
    on (da ∷ sa ∷ fc ∷ Behind Sd3 refl 8 da sa fc ds) step_start.1 ∙ read_framed Sd3 refl 8 da sa fc ds v.1 v.0
reads (sd4 da sa) v =
    on (da ∷ sa ∷ []) step_start.2
    ∙ on (sa ∷ []) (step_da Sd4 0 da sa v)
    ∙ step_sa Sd4 0 (counted da 0) da sa ((0 + da) % 256) v
    ∙ rw (token_plain da sa v, token_sum da sa)

-- and its data octets are those that the reader tells of, in order
pub gathers : (t : Telegram) → Valid t → gathered start (octets_of t) ≡ payload_of t
unfolding Behind takes_data
gathers (sd1 da sa fc) v =
    via gathered gather_skip start _ 0x10 (da ∷ sa ∷ fc ∷ Behind Sd1 refl 0 da sa fc []) refl step_start.0 ∙ gather_framed Sd1 refl 0 da sa fc [] v refl
gathers (sd2 da sa fc ds) v =
    head2 gathered gather_skip (length ds) (da ∷ sa ∷ fc ∷ Behind Sd2 refl (length ds) da sa fc ds) v.0 v.1
    ∙ gather_framed Sd2 refl (length ds) da sa fc ds v.2 refl
gathers (sd3 da sa fc ds) v =
    via gathered gather_skip start _ 0xA2 (da ∷ sa ∷ fc ∷ Behind Sd3 refl 8 da sa fc ds) refl step_start.1 ∙ gather_framed Sd3 refl 8 da sa fc ds v.1 v.0
gathers (sd4 da sa) v =
    via gathered gather_skip start _ 0xDC (da ∷ sa ∷ []) refl step_start.2
    ∙ via gathered gather_skip _ _ da (sa ∷ []) refl (step_da Sd4 0 da sa v)
    ∙ via gathered gather_skip _ _ sa [] refl (step_sa Sd4 0 (counted da 0) da sa ((0 + da) % 256) v)
    ∙ rw (token_plain da sa v)
