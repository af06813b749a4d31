-- A whole telegram heard (specs/Hearing.antt): inner octets only lengthen, and the last one completes.
use Rattle.std.specs.Prelude.{Ok}
use Prim.Native.Nat.{ℕ}
use mathlib.Core.Path.{◌≡◌, refl, sym, ap, ◌∙◌}
use mathlib.Core.Bool.{Bool, false}
use mathlib.Core.List.{List, [], ◌∷◌, ◌++◌, append-nil, append_assoc}
use lib.ListN.{length, replicate}
use Rattle.state.specs.Answer.{Answer}
use Rattle.telegram.specs.declared.reader.Status.{Status}
use Rattle.telegram.specs.declared.reader.Status.TheVariants.{Fresh, Inside, Complete, Broken}
use Rattle.telegram.specs.Telegram.{Telegram, sd1, sd2, sd3, sd4, kind_of, octets_of, Valid, IsTelegram}
use Rattle.telegram.specs.Reading.{run, reader_after, status, reader_step as reads}
use Rattle.telegram.specs.Sending.{start_octet}
use Rattle.telegram.proofs.Run.{broken_complete, run_snoc}
use Rattle.telegram.proofs.Framing.{framing}
use Rattle.ledger.specs.Ledger.{Line, Ledger, with_line}
use Rattle.ledger.specs.Outcome.{settle}
use Rattle.ledger.specs.Bus.{telegram_on, answered, completed, lengthened, beginning, heard, send_told, send_left, after_send}
use Rattle.rules.specs.Call.{send}
use Rattle.ledger.specs.Calls.{answers, after}
use Rattle.ledger.specs.Hearing.{hear, begun_by, Hears, sends_of, values, reply_to, Dialogue}
use Rattle.ledger.proofs.Runs.{answers_append}
use Rattle.ledger.proofs.Settling.{settle_line}
use Rattle.ledger.proofs.Exchange.{lengthens_heard}

pub hear_answers : (l : Ledger) (xs : List ℕ) → answers l (hear xs) ≡ replicate (length xs) (Ok 0)
hear_answers l [] = refl
hear_answers l (x ∷ xs) = ap (λ (a : List Answer). Ok 0 ∷ a) (hear_answers (heard l x false) xs)

-- a telegram that lacks octets is inside
pub unfinished : (x : ℕ) (xs : List ℕ) (y : ℕ) (ys : List ℕ) → IsTelegram ((x ∷ xs) ++ y ∷ ys) → status (run (x ∷ xs)) ≡ Inside
unfinished x xs y ys w = go (status (run (x ∷ xs))) refl
  where
    go : (s : Status) → status (run (x ∷ xs)) ≡ s → s ≡ Inside
    go Fresh e = let f = (framing (x ∷ xs)).nothing.0 e in cc
    go Inside e = refl
    go Complete e = absurd (((framing (x ∷ xs)).ends ((framing (x ∷ xs)).whole.0 e) y ys).0 w)
    go Broken e =
        absurd (broken_complete (sym ((framing (x ∷ xs)).stays e (y ∷ ys)) ∙ (framing ((x ∷ xs) ++ y ∷ ys)).whole.1 w))

-- one octet more, for the reader
pub one_more : {s : Status} (xs : List ℕ) (y : ℕ) → status (run (xs ++ y ∷ [])) ≡ s → status (reads (run xs) y) ≡ s
one_more xs y e = ap status (sym (run_snoc xs y)) ∙ e

-- what comes of a telegram does not look at the line
pub completed_on : (l : Ledger) (n : Line) (t : Telegram) → completed (with_line l n) t ≡ completed l t
unfolding answered
completed_on l n t = refl

-- the last octet
pub last_heard : (l : Ledger) (y : ℕ) (bad : Bool) → l.line.ignored ≡ false → status (reader_after (run l.line.telegram) y bad) ≡ Complete
    → heard l y bad ≡ settle (completed l (telegram_on (l.line.telegram ++ y ∷ [])))
unfolding heard
last_heard l y bad i s = rw (i, s)

-- an inner octet
pub inner_heard : (l : Ledger) (x : ℕ) (xs : List ℕ) (y : ℕ) → l.line.ignored ≡ false → l.line.telegram ≡ x ∷ xs
    → status (run ((x ∷ xs) ++ y ∷ [])) ≡ Inside → heard l y false ≡ with_line l (lengthened l.line y)
inner_heard l x xs y i e s = lengthens_heard l y false (record { listens = i; begins = rw e; inside = rw e (one_more (x ∷ xs) y s) })

module _ (t : Telegram) (v : Valid t) where
  -- the octets y ∷ ys that the telegram lacks
  rest_heard : (l : Ledger) (x : ℕ) (xs : List ℕ) (y : ℕ) (ys : List ℕ)
      → l.line.ignored ≡ false → l.line.telegram ≡ x ∷ xs → octets_of t ≡ (x ∷ xs) ++ y ∷ ys
      → after l (hear (y ∷ ys)) ≡ settle (completed l t)
  rest_heard l x xs y [] i e o =
      let s = one_more (x ∷ xs) y ((framing ((x ∷ xs) ++ y ∷ [])).whole.1 (t, v, o)) in
      last_heard l y false i (rw e s)
      ∙ ap (λ (u : List ℕ). settle (completed l (telegram_on (u ++ y ∷ [])))) e
      ∙ ap (λ (u : List ℕ). settle (completed l (telegram_on u))) (sym o)
      ∙ ap (λ (u : Telegram). settle (completed l u)) ((framing (octets_of t)).told t v refl)
  rest_heard l x xs y (z ∷ zs) i e o =
      let w : octets_of t ≡ (x ∷ (xs ++ y ∷ [])) ++ z ∷ zs = o ∙ sym (append_assoc (x ∷ xs) (y ∷ []) (z ∷ zs)) in
      ap (λ (m : Ledger). after m (hear (z ∷ zs))) (inner_heard l x xs y i e (unfinished x (xs ++ y ∷ []) z zs (t, v, w)))
      ∙ rest_heard (with_line l (lengthened l.line y)) x (xs ++ y ∷ []) z zs refl (rw e) w
      ∙ ap settle (completed_on l (lengthened l.line y) t)

-- every telegram has a first octet and more
opens : (t : Telegram) → (y : ℕ) × (ys : List ℕ) × (octets_of t ≡ start_octet (kind_of t) ∷ y ∷ ys)
opens (sd1 da sa fc) = (_, _, refl)
opens (sd2 da sa fc ds) = (_, _, refl)
opens (sd3 da sa fc ds) = (_, _, refl)
opens (sd4 da sa) = (_, _, refl)

-- the first octet
pub begun_heard : (l : Ledger) (b : ℕ) → l.line.ignored ≡ false → l.line.telegram ≡ [] → status (run (b ∷ [])) ≡ Inside
    → heard l b false ≡ begun_by l b
unfolding heard
begun_heard l b i e s = rw (i, e, s)

pub hears : (l : Ledger) (t : Telegram) → Hears l t
hears l t = record {
  answers_are = hear_answers l (octets_of t);
  ledger_is = λ i e v.
      let b = start_octet (kind_of t) in
      let w = opens t in
      let y = w.0 in
      let ys = w.1 in
      let n = settle_line (with_line l (beginning b)) in
      ap (λ (xs : List ℕ). after l (hear xs)) w.2
      ∙ ap (λ (m : Ledger). after m (hear (y ∷ ys))) (begun_heard l b i e (unfinished b [] y ys (t, v, w.2)))
      ∙ rest_heard t v (begun_by l b) b [] y ys (ap (λ (k : Line). k.ignored) n) (ap (λ (k : Line). k.telegram) n) w.2;
}

-- ---------------------------------------------------------------------------------------------------
-- The reply sent.

-- a send takes the first octet left
sent_reply : (l : Ledger) (x : ℕ) (xs : List ℕ) → l.line.reply ≡ x ∷ xs → (after_send l).line.reply ≡ xs
unfolding after_send
sent_reply l x xs e = ap (λ (n : Line). n.reply) (settle_line (with_line l (send_left l.line l.line.reply))) ∙ rw e

pub sends_all : (l : Ledger) (xs ys : List ℕ) → l.line.reply ≡ xs ++ ys
    → (answers l (sends_of xs) ≡ values xs) × ((after l (sends_of xs)).line.reply ≡ ys)
sends_all l [] ys e = (refl, e)
sends_all l (x ∷ xs) ys e =
    let w = sends_all (after_send l) xs ys (sent_reply l x (xs ++ ys) e) in
    (λ i. Ok (send_told (e i)) ∷ w.0 i, w.1)

pub dialogue : (l : Ledger) (t : Telegram) → Dialogue l t
dialogue l t = record {
  answers_are = λ i e v.
      let m = completed (begun_by l (start_octet (kind_of t))) t in
      let r = reply_to l t in
      let w = sends_all (settle m) r [] (ap (λ (n : Line). n.reply) (settle_line m) ∙ sym (append-nil r)) in
      answers_append l (hear (octets_of t)) (sends_of r ++ send ∷ [])
      ∙ (λ k. (hears l t).answers_are k ++ answers ((hears l t).ledger_is i e v k) (sends_of r ++ send ∷ []))
      ∙ ap (λ (a : List Answer). replicate (length (octets_of t)) (Ok 0) ++ a)
      (answers_append (settle m) (sends_of r) (send ∷ []) ∙ (λ k. w.0 k ++ Ok (send_told (w.1 k)) ∷ []));
}
