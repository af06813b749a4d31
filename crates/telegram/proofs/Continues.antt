-- From inside a telegram some octets complete one: plain addresses where they are open, zeros as data, the check octet that the reader waits for.
use Rattle.std.proofs.Common.{◌≡◌, ℕ, zero, suc, ◌+◌, ◌%◌, ◌<◌, ◌≤◌, Bool, true, false, cond, ltb, leb, List, [], ◌∷◌, refl, ap, ◌∙◌, arith, ltb-false, le-ltb, eq-eqb}
use Rattle.telegram.specs.declared.Kind.{Kind}
use Rattle.telegram.specs.declared.Kind.TheVariants.{Sd1, Sd2, Sd3, Sd4}
use Rattle.telegram.specs.declared.reader.Phase.{Phase}
use Rattle.telegram.specs.declared.reader.Phase.TheVariants.{Start, Le, LeAgain, SdAgain, Da, Sa, Fc, Dsap, Ssap, Body, End, Done, Off}
use Rattle.telegram.specs.declared.reader.Reader.{Reader}
use Rattle.telegram.specs.declared.reader.Status.{Status}
use Rattle.telegram.specs.declared.reader.Status.TheVariants.{Fresh, Inside, Complete, Broken}
use Rattle.telegram.specs.Telegram.{Octets}
use Rattle.telegram.specs.Reading.{rd, ok_at, next_at, after_sa, counted, reader_step, step_at, run_from, status, status_at}
use Rattle.telegram.proofs.Run.{no_true, on}
use Rattle.telegram.proofs.Steps.{goes}

-- what a reader never leaves: its length octet and its check octet are octets
abbrev pub Small : Reader → Type 0
Small r = (r.count ≤ 246) × (r.sum < 256)

-- more octets may come
abbrev pub goes_on : Status → Bool
goes_on Fresh = true
goes_on Inside = true
goes_on Complete = false
goes_on Broken = false

unfoldable pub Leads : Reader → Type 0
Leads r = (ys : List ℕ) × Octets ys × (status (run_from r ys) ≡ Complete)

leads_via : (r : Reader) (b : ℕ) → ok_at r.phase r b ≡ true → b < 256 → Leads (next_at r.phase r b) → Leads r
unfolding Leads
leads_via r b e l w = (b ∷ w.0, (l, w.1), ap status (on w.0 (goes r b e)) ∙ w.2)

module _ (k : Kind) where
  leads_done : (n i da sa fc dp sp s : ℕ) → Leads (rd Done k n i da sa fc dp sp s)
  unfolding Leads status
  leads_done n i da sa fc dp sp s = ([], tt, refl)

  leads_end : (n i da sa fc dp sp s : ℕ) → Leads (rd End k n i da sa fc dp sp s)
  leads_end n i da sa fc dp sp s =
      leads_via (rd End k n i da sa fc dp sp s) 0x16 refl (omega arith) (leads_done n i da sa fc dp sp s)

  leads_check : (n i da sa fc dp sp s : ℕ) → n ≤ i → s < 256 → Leads (rd Body k n i da sa fc dp sp s)
  leads_check n i da sa fc dp sp s l u =
      leads_via (rd Body k n i da sa fc dp sp s) s (rw (le-ltb i n l, eq-eqb s s refl)) u
      (rw (le-ltb i n l) (leads_end n i da sa fc dp sp s))

  -- m bounds the data octets that are left
  leads_body : (m n i da sa fc dp sp s : ℕ) → n ≤ i + m → s < 256 → Leads (rd Body k n i da sa fc dp sp s)
  leads_body zero n i da sa fc dp sp s l u = leads_check n i da sa fc dp sp s (omega arith) u
  leads_body (suc m) n i da sa fc dp sp s l u =
      go (ltb i n) refl (leads_body m n (i + 1) da sa fc dp sp ((s + 0) % 256) (omega arith) (omega arith))
    where
      go : (c : Bool) → ltb i n ≡ c → Leads (rd Body k n (i + 1) da sa fc dp sp ((s + 0) % 256)) → Leads (rd Body k n i da sa fc dp sp s)
      go true e w = leads_via (rd Body k n i da sa fc dp sp s) 0 (rw e) (omega arith) (rw e w)
      go false e w = leads_check n i da sa fc dp sp s (ltb-false i n e) u

  leads_ssap : (n i da sa fc dp sp s : ℕ) → Leads (rd Ssap k n i da sa fc dp sp s)
  leads_ssap n i da sa fc dp sp s =
      leads_via (rd Ssap k n i da sa fc dp sp s) 0 refl (omega arith) (leads_body n n i da sa fc dp 0 ((s + 0) % 256) (omega arith) (omega arith))

  leads_dsap : (n i da sa fc dp sp s : ℕ) → Leads (rd Dsap k n i da sa fc dp sp s)
  leads_dsap n i da sa fc dp sp s =
      leads_via (rd Dsap k n i da sa fc dp sp s) 0 refl (omega arith) (leads_ssap n i da sa fc 0 sp ((s + 0) % 256))

  leads_behind : (c : Bool) (n i da sa fc dp sp s : ℕ) → s < 256 → Leads (rd (cond c Dsap Body) k n i da sa fc dp sp s)
  leads_behind true n i da sa fc dp sp s u = leads_dsap n i da sa fc dp sp s
  leads_behind false n i da sa fc dp sp s u = leads_body n n i da sa fc dp sp s (omega arith) u

  leads_fc : (n i da sa fc dp sp s : ℕ) → Leads (rd Fc k n i da sa fc dp sp s)
  leads_fc n i da sa fc dp sp s =
      leads_via (rd Fc k n i da sa fc dp sp s) 0 refl (omega arith) (leads_behind (leb 128 da) n i da sa 0 dp sp ((s + 0) % 256) (omega arith))

leads_after : (k : Kind) (n i da sa fc dp sp s : ℕ) → Leads (rd (after_sa k) k n i da sa fc dp sp s)
leads_after Sd1 n i da sa fc dp sp s = leads_fc Sd1 n i da sa fc dp sp s
leads_after Sd2 n i da sa fc dp sp s = leads_fc Sd2 n i da sa fc dp sp s
leads_after Sd3 n i da sa fc dp sp s = leads_fc Sd3 n i da sa fc dp sp s
leads_after Sd4 n i da sa fc dp sp s = leads_done Sd4 n i da sa fc dp sp s

-- a source address with DA's bit 7
leads_sa : (k : Kind) (n i da sa fc dp sp s : ℕ) → Leads (rd Sa k n i da sa fc dp sp s)
leads_sa k n i da sa fc dp sp s = go (leb 128 da) refl
  where
    go : (c : Bool) → leb 128 da ≡ c → Leads (rd Sa k n i da sa fc dp sp s)
    go true e = leads_via (rd Sa k n i da sa fc dp sp s) 128 (rw e) (omega arith) (leads_after k n i da 128 fc dp sp ((s + 128) % 256))
    go false e = leads_via (rd Sa k n i da sa fc dp sp s) 0 (rw e) (omega arith) (leads_after k n i da 0 fc dp sp ((s + 0) % 256))

leads_da : (k : Kind) (n i da sa fc dp sp s : ℕ) → Leads (rd Da k n i da sa fc dp sp s)
leads_da k n i da sa fc dp sp s =
    leads_via (rd Da k n i da sa fc dp sp s) 0 refl (omega arith) (leads_sa k (counted 0 n) i 0 sa fc dp sp ((s + 0) % 256))

leads_sd : (k : Kind) (n i da sa fc dp sp s : ℕ) → Leads (rd SdAgain k n i da sa fc dp sp s)
leads_sd k n i da sa fc dp sp s =
    leads_via (rd SdAgain k n i da sa fc dp sp s) 0x68 refl (omega arith) (leads_da Sd2 n 0 0 0 0 0 0 0)

leads_again : (k : Kind) (n i da sa fc dp sp s : ℕ) → n ≤ 246 → Leads (rd LeAgain k n i da sa fc dp sp s)
leads_again k n i da sa fc dp sp s l =
    leads_via (rd LeAgain k n i da sa fc dp sp s) (n + 3) (eq-eqb (n + 3) (n + 3) refl) (omega arith) (leads_sd Sd2 n 0 0 0 0 0 0 0)

leads_at : (p : Phase) (k : Kind) (n i da sa fc dp sp s : ℕ) → n ≤ 246 → s < 256 → goes_on (status_at p) ≡ true
    → Leads (rd p k n i da sa fc dp sp s)
leads_at Start k n i da sa fc dp sp s l u e =
    leads_via (rd Start k n i da sa fc dp sp s) 0x10 refl (omega arith) (leads_da Sd1 0 0 0 0 0 0 0 0)
leads_at Le k n i da sa fc dp sp s l u e =
    leads_via (rd Le k n i da sa fc dp sp s) 4 refl (omega arith) (leads_again Sd2 1 0 0 0 0 0 0 0 (omega arith))
leads_at LeAgain k n i da sa fc dp sp s l u e = leads_again k n i da sa fc dp sp s l
leads_at SdAgain k n i da sa fc dp sp s l u e = leads_sd k n i da sa fc dp sp s
leads_at Da k n i da sa fc dp sp s l u e = leads_da k n i da sa fc dp sp s
leads_at Sa k n i da sa fc dp sp s l u e = leads_sa k n i da sa fc dp sp s
leads_at Fc k n i da sa fc dp sp s l u e = leads_fc k n i da sa fc dp sp s
leads_at Dsap k n i da sa fc dp sp s l u e = leads_dsap k n i da sa fc dp sp s
leads_at Ssap k n i da sa fc dp sp s l u e = leads_ssap k n i da sa fc dp sp s
leads_at Body k n i da sa fc dp sp s l u e = leads_body k n n i da sa fc dp sp s (omega arith) u
leads_at End k n i da sa fc dp sp s l u e = leads_end k n i da sa fc dp sp s
leads_at Done k n i da sa fc dp sp s l u e = no_true e
leads_at Off k n i da sa fc dp sp s l u e = no_true e

pub leads : (r : Reader) → Small r → goes_on (status r) ≡ true → Leads r
unfolding status
leads r m e =
    leads_at r.phase r.kind r.count r.at r.da r.sa r.fc r.dsap r.ssap r.sum m.0 m.1 e

-- every reader that is come to is small
small_step : (r : Reader) (b : ℕ) → Small r → Small (reader_step r b)
unfolding reader_step step_at
small_step r b m = let c = m.0 in let u = m.1 in grind (arith, c, u)

pub small_run : (r : Reader) (xs : List ℕ) → Small r → Small (run_from r xs)
small_run r [] m = m
small_run r (x ∷ xs) m = small_run (reader_step r x) xs (small_step r x m)
