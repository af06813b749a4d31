-- The framing promise (specs/Framing.antt), for every list of octets.
use Rattle.std.proofs.Common.{◌≡◌, ℕ, true, false, cond, leb, List, [], ◌∷◌, ◌++◌, length, get_or, drop, sym, refl, ap, ◌∙◌, inl, inr, arith, le-leb}
use borrow.Author.Tests.{lt-leb}
use Rattle.telegram.specs.declared.reader.Phase.{Phase}
use Rattle.telegram.specs.declared.reader.Reader.{Reader}
use Rattle.telegram.specs.declared.reader.Status.{Status}
use Rattle.telegram.specs.declared.reader.Status.TheVariants.{Fresh, Inside, Complete, Broken}
use Rattle.telegram.specs.Telegram.{Telegram, sd1, sd2, sd3, sd4, octets_of, payload_of, Addresses, Valid, IsTelegram, Octets}
use Rattle.telegram.specs.Reading.{off, start, ok_at, reader_step, run_from, run, status, status_at, gathered, finished, telegram_of}
use Rattle.telegram.specs.Framing.{Continues, FramingPromise}
use Rattle.telegram.proofs.Run.{no_true, broken_complete, start_fresh, on, stays_broken, run_append}
use Rattle.telegram.proofs.Accepts.{accepted}
use Rattle.telegram.proofs.ReadBack.{reads, gathers}
use Rattle.telegram.proofs.Continues.{Leads, goes_on, leads, small_run}
use Rattle.telegram.proofs.Begun.{begun}
use Rattle.telegram.proofs.Sums.{sums}

-- a complete or broken reader takes no more octets
no_more : (p : Phase) (r : Reader) (b : ℕ) → goes_on (status_at p) ≡ false → ok_at p r b ≡ false
no_more p r b h = grind (arith, h)

shut : (r : Reader) (b : ℕ) → goes_on (status r) ≡ false → reader_step r b ≡ off
unfolding reader_step status
shut r b h = rw (no_more r.phase r b h)

-- a reader that has read a telegram is complete
pub finished_complete : (t : Telegram) → status (finished t) ≡ Complete
unfolding status
finished_complete t = refl

completes : (xs : List ℕ) → IsTelegram xs → status (run xs) ≡ Complete
completes xs w = rw (← w.2) (ap status (reads w.0 w.1) ∙ finished_complete w.0)

-- it is broken off by each further octet
breaks : (xs : List ℕ) → goes_on (status (run xs)) ≡ false → (y : ℕ) (ys : List ℕ) → status (run (xs ++ y ∷ ys)) ≡ Broken
breaks xs h y ys = ap status (run_append start xs (y ∷ ys) ∙ on ys (shut (run xs) y h)) ∙ stays_broken ys

-- so that no telegram results
stops : (xs : List ℕ) → goes_on (status (run xs)) ≡ false → (y : ℕ) (ys : List ℕ) → IsTelegram (xs ++ y ∷ ys) → ⊥
stops xs h y ys w = broken_complete (sym (breaks xs h y ys) ∙ completes (xs ++ y ∷ ys) w)

-- while from a reader that goes on some octets lead to a telegram
continues : (xs : List ℕ) → goes_on (status (run xs)) ≡ true → Continues xs
unfolding Leads
continues xs e = let w = leads (run xs) (small_run start xs (omega arith)) e in go w.0 w.1 w.2
  where
    go : (ys : List ℕ) → Octets ys → status (run_from (run xs) ys) ≡ Complete → Continues xs
    go [] o h = no_true (sym (ap goes_on h) ∙ e)
    go (y ∷ ys) o h = (y, ys, o, accepted (xs ++ y ∷ ys) (ap status (run_append start xs (y ∷ ys)) ∙ h))

-- a telegram is told by the reader that has read it and the data gathered
points_back : (ds : List ℕ) (n da sa : ℕ) → Addresses n da sa → length ds ≡ n
    → cond (leb 128 da) (cond (leb 128 da) (get_or ds 0 0) 0 ∷ cond (leb 128 da) (get_or ds 1 0) 0 ∷ cond (leb 128 da) (drop 2 ds) ds) (cond (leb 128 da) (drop 2 ds) ds) ≡ ds
points_back ds n da sa (inl a) c = rw (lt-leb 128 da a.0)
points_back [] n da sa (inr a) c = absurd (omega arith)
points_back (x ∷ []) n da sa (inr a) c = absurd (omega arith)
points_back (x ∷ y ∷ ds) n da sa (inr a) c = rw (le-leb 128 da a.0)

back : (t : Telegram) → Valid t → telegram_of (finished t) (payload_of t) ≡ t
back (sd1 da sa fc) v = refl
back (sd2 da sa fc ds) v = ap (λ (l : List ℕ). sd2 da sa fc l) (points_back ds (length ds) da sa v.2 refl)
back (sd3 da sa fc ds) v = ap (λ (l : List ℕ). sd3 da sa fc l) (points_back ds 8 da sa v.1 v.0)
back (sd4 da sa) v = refl

told : (t : Telegram) → Valid t → telegram_of (run (octets_of t)) (gathered start (octets_of t)) ≡ t
told t v = rw (reads t v, gathers t v) (back t v)

unique : (xs : List ℕ) (t u : Telegram) → Valid t → Valid u → octets_of t ≡ xs → octets_of u ≡ xs → t ≡ u
unique xs t u v w e f =
    sym (told t v) ∙ ap (λ (l : List ℕ). telegram_of (run l) (gathered start l)) (e ∙ sym f) ∙ told u w

inside_begun : (xs : List ℕ) → status (run xs) ≡ Inside → xs ≡ [] → ⊥
inside_begun xs e n = let f = ap (λ (l : List ℕ). status (run l)) n ∙ start_fresh in let z : ◌≡◌ {A = ℕ} 0 1 = cc in omega arith

module _ (xs : List ℕ) where
  part_back : ¬ (xs ≡ []) → ¬ IsTelegram xs → Continues xs → status (run xs) ≡ Inside
  part_back m n c = go (status (run xs)) refl
    where
      go : (s : Status) → status (run xs) ≡ s → s ≡ Inside
      go Fresh e = absurd (m (begun xs e))
      go Inside e = refl
      go Complete e = absurd (n (accepted xs e))
      go Broken e = absurd (stops xs (ap goes_on e) c.0 c.1 c.3)

  neither_back : ¬ IsTelegram xs → ¬ Continues xs → status (run xs) ≡ Broken
  neither_back n c = go (status (run xs)) refl
    where
      go : (s : Status) → status (run xs) ≡ s → s ≡ Broken
      go Fresh e = absurd (c (continues xs (ap goes_on e)))
      go Inside e = absurd (c (continues xs (ap goes_on e)))
      go Complete e = absurd (n (accepted xs e))
      go Broken e = refl

  still : status (run xs) ≡ Broken → (ys : List ℕ) → status (run (xs ++ ys)) ≡ Broken
  still e [] = ap status (run_append start xs []) ∙ e
  still e (y ∷ ys) = breaks xs (ap goes_on e) y ys

  no_telegram : (s : Status) → status (run xs) ≡ s → (s ≡ Complete → ⊥) → ¬ IsTelegram xs
  no_telegram s e n w = n (sym e ∙ completes xs w)

pub framing : FramingPromise
framing xs = record {
  nothing = (begun xs, λ e. ap (λ (l : List ℕ). status (run l)) e ∙ start_fresh);
  whole = (accepted xs, completes xs);
  part = (
    λ e. (inside_begun xs e, no_telegram xs Inside e (λ f. let z : ◌≡◌ {A = ℕ} 0 1 = cc in omega arith), continues xs (ap goes_on e)),
    λ w. part_back xs w.0 w.1 w.2,
  );
  neither = (
    λ e. (no_telegram xs Broken e broken_complete, λ c. stops xs (ap goes_on e) c.0 c.1 c.3),
    λ w. neither_back xs w.0 w.1,
  );
  fields = λ t v e. (rw (← e) (reads t v), rw (← e) (gathers t v));
  told = λ t v e. rw (← e) (told t v);
  only = λ t u v w e f. unique xs t u v w e f;
  stays = still xs;
  ends = λ w y ys. (stops xs (ap goes_on (completes xs w)) y ys, breaks xs (ap goes_on (completes xs w)) y ys);
  flagged = λ b ys. stays_broken ys;
  sums = λ t ps qs v w e. rw (← e) (sums t ps qs v w);
}
