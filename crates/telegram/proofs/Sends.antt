-- The sending promise (specs/Sending.antt), and the laws of what a sender has yet to send.
use Rattle.std.proofs.Common.{◌≡◌, ℕ, zero, suc, ◌+◌, ◌%◌, ◌<◌, ◌≤◌, Bool, true, false, cond, ltb, List, [], ◌∷◌, length, get_or, sym, refl, ap, ◌∙◌, mod-eq_of_lt, add-one, arith, drop_of_length-le, drop-cons, ltb-false, ltb-true, Some, None}
use Rattle.telegram.specs.declared.sender.Stage.{Stage}
use Rattle.telegram.specs.declared.sender.Stage.TheVariants.{Body}
use Rattle.telegram.specs.declared.sender.Sender.{Sender}
use Rattle.telegram.specs.Telegram.{Telegram, sd1, sd2, sd3, sd4, data_of, octets_of, Valid}
use Rattle.telegram.specs.Reading.{start, run, gathered}
use Rattle.telegram.specs.Sending.{sn, single, sender_of, left, left_at, asks, octet_at, after_at, sent, sent_up_to, SendingPromise}
use Rattle.telegram.specs.ToSend.{to_send, to_send_at}
use Rattle.telegram.proofs.Checksum.{running_total}
use Rattle.telegram.proofs.ReadBack.{reads, gathers}

-- what is sent next of a telegram with the data octets ds
abbrev Next : Stage → Sender → List ℕ → ℕ
Next g s ds = octet_at g s (get_or ds s.at 0)

abbrev Then : Stage → Sender → List ℕ → Sender
Then g s ds = after_at g s (Next g s ds)

-- the first octet to send, and the others
abbrev One : Stage → Sender → List ℕ → Type 0
One g s ds = to_send_at g s ds ≡ Next g s ds ∷ to_send (Then g s ds) ds

one_body : (s : Sender) (ds : List ℕ) → length ds ≡ s.count → One Body s ds
unfolding to_send
one_body s ds e = go (ltb s.at s.count) refl
  where
    go : (t : Bool) → ltb s.at s.count ≡ t → One Body s ds
    go true h =
        let l = ltb-true s.at s.count h in
        rw (h, add-one s.at, drop-cons ds s.at 0 (omega arith))
    go false h =
        let l = ltb-false s.at s.count h in
        rw (h, drop_of_length-le ds {i = s.at} (omega arith))

one_at : (g : Stage) (s : Sender) (ds : List ℕ) → length ds ≡ s.count → left_at g ≡ true → One g s ds
unfolding to_send
one_at g s ds e h = let b = one_body s ds e in grind (arith, h, b)

-- nothing is left exactly at the end
pub none : (s : Sender) (ds : List ℕ) → left s ≡ false → to_send s ds ≡ []
unfolding to_send
none s ds h = grind (arith, h)

-- while something is left, the sender sends the first octet of it and keeps the others
pub one : (s : Sender) (ds : List ℕ) → length ds ≡ s.count → left s ≡ true
    → to_send s ds ≡ (sent s (get_or ds s.at 0)).octet ∷ to_send (sent s (get_or ds s.at 0)).sender ds
unfolding to_send sent
one s ds e h = one_at s.stage s ds e h

-- what a sender asks for is data that it has, and its next stage sends more of them
pub asked_below : (s : Sender) (k : ℕ) → asks s ≡ Some k → s.at < s.count
asked_below s k e = grind (arith, e)

-- and it sends the octet that it is given
pub sent_asked : (s : Sender) (d k : ℕ) → asks s ≡ Some k
    → sent s d ≡ record { octet = d; sender = sn Body s.kind s.count (s.at + 1) s.da s.sa s.fc ((s.sum + d) % 256) }
unfolding sent
sent_asked s d k e = grind (arith, e)

-- the number of data octets stays
pub keeps_count : (s : Sender) (d : ℕ) → (sent s d).sender.count ≡ s.count
unfolding sent
keeps_count s d = grind arith

-- what is handed in where no data octet is asked for has no effect
pub unasked : (s : Sender) → asks s ≡ None → (d e : ℕ) → sent s d ≡ sent s e
unfolding sent
unasked s h d e = grind (arith, h)

-- at first all octets of the telegram are to be sent
pub begins : (t : Telegram) → Valid t → to_send (sender_of t) (data_of t) ≡ octets_of t
unfolding to_send
begins (sd1 da sa fc) v = rw (running_total (da ∷ sa ∷ fc ∷ []))
begins (sd2 da sa fc ds) v =
    let e : length ds + 3 < 256 = omega arith in
    rw (mod-eq_of_lt e, running_total (da ∷ sa ∷ fc ∷ ds))
begins (sd3 da sa fc ds) v = rw (running_total (da ∷ sa ∷ fc ∷ ds))
begins (sd4 da sa) v = refl

pub single_octet : (ds : List ℕ) → to_send single ds ≡ 0xE5 ∷ []
unfolding to_send
single_octet ds = refl

-- asked often enough, a sender sends all that it has to send, and then nothing
pub sends_all : (n : ℕ) (s : Sender) (ds : List ℕ) → length ds ≡ s.count → length (to_send s ds) ≤ n → sent_up_to n s ds ≡ to_send s ds
sends_all zero s ds e l = go (left s) refl
  where
    go : (t : Bool) → left s ≡ t → [] ≡ to_send s ds
    go true h = let w = ap length (one s ds e h) in absurd (omega arith)
    go false h = sym (none s ds h)
sends_all (suc n) s ds e l =
    go (left s) refl (sends_all n (sent s (get_or ds s.at 0)).sender ds)
  where
    go : (t : Bool) → left s ≡ t
        → (length ds ≡ (sent s (get_or ds s.at 0)).sender.count → length (to_send (sent s (get_or ds s.at 0)).sender ds) ≤ n
        → sent_up_to n (sent s (get_or ds s.at 0)).sender ds ≡ to_send (sent s (get_or ds s.at 0)).sender ds)
        → cond t ((sent s (get_or ds s.at 0)).octet ∷ sent_up_to n (sent s (get_or ds s.at 0)).sender ds) [] ≡ to_send s ds
    go true h ih =
        let o = one s ds e h in
        let w = ap length o in
        ap (λ (l : List ℕ). (sent s (get_or ds s.at 0)).octet ∷ l) (ih (e ∙ sym (keeps_count s (get_or ds s.at 0))) (omega arith)) ∙ sym o
    go false h ih = sym (none s ds h)

pub sending : SendingPromise
sending t v = record {
  octets = all;
  fields = λ n l. ap run (all n l) ∙ reads t v;
  payload = λ n l. ap (λ (xs : List ℕ). gathered start xs) (all n l) ∙ gathers t v;
}
  where
    all : (n : ℕ) → length (octets_of t) ≤ n → sent_up_to n (sender_of t) (data_of t) ≡ octets_of t
    all n l = sends_all n (sender_of t) (data_of t) refl (rw (begins t v) l) ∙ begins t v

-- the acknowledgement E5 is sent as one octet
pub single_sent : (n : ℕ) (ds : List ℕ) → 1 ≤ n → length ds ≡ 0 → sent_up_to n single ds ≡ 0xE5 ∷ []
single_sent n ds l e = sends_all n single ds e (rw (single_octet ds) l) ∙ single_octet ds
