-- Station and ledger say the same of the line and of open sets.
use Prim.Native.Nat.{ℕ}
use native.Mathlib.Omega.{arith}
use mathlib.Core.Path.{◌≡◌, refl, sym, ap, ◌∙◌}
use mathlib.Core.Bool.{Bool, true, false, not, ◌&&◌, ◌||◌}
use mathlib.Core.List.{List, [], ◌∷◌}
use lib.Dec.{eqb}
use lib.ListN.{length}
use borrow.Author.Tests.{ne_eqb}
use Rattle.telegram.specs.declared.reader.Reader.{Reader}
use Rattle.telegram.specs.declared.reader.Status.{Status}
use Rattle.telegram.specs.declared.reader.Status.TheVariants.{Fresh, Inside, Complete, Broken}
use Rattle.telegram.specs.declared.sender.Sender.{Sender}
use Rattle.telegram.specs.Reading.{run, status}
use Rattle.telegram.specs.Sending.{left}
use Rattle.telegram.specs.ToSend.{to_send}
use Rattle.telegram.proofs.Run.{no_true, start_fresh}
use Rattle.telegram.proofs.Framing.{framing}
use Rattle.telegram.proofs.Sends.{none, one}
use Rattle.state.specs.declared.state.Sets as station-sets
use Rattle.state.specs.declared.state.State.{State}
use Rattle.ledger.specs.Lists.{some, Sets}
use Rattle.ledger.specs.Ledger as ledger
use Rattle.ledger.specs.Ledger.{Line, Ledger}
use Rattle.steps.specs.Line.{is_inside, begun, busy, diagnosis_leaves}
use Rattle.steps.specs.Outcome.{is_open}
use Rattle.steps.specs.Reading.{is_ignored}
use Rattle.agreement.proofs.Relation.{SetsAgree, ReadingAgrees, ReplyAgrees, Agrees}

-- ---- a telegram is begun

ignored_idle : (t : Status) → is_ignored t ≡ true → is_inside t ≡ false
ignored_idle Fresh e = refl
ignored_idle Inside e = no_true e
ignored_idle Complete e = refl
ignored_idle Broken e = refl

runs_begun : (xs : List ℕ) → is_ignored (status (run xs)) ≡ false → is_inside (status (run xs)) ≡ some xs
runs_begun [] e = ap is_inside start_fresh
runs_begun (x ∷ xs) e = go (status (run (x ∷ xs))) refl e
  where
    go : (t : Status) → status (run (x ∷ xs)) ≡ t → is_ignored t ≡ false → is_inside t ≡ true
    go Fresh h g = let z : ◌≡◌ {A = ℕ} 0 1 = cc ((framing (x ∷ xs)).nothing.0 h) in absurd (omega arith)
    go Inside h g = refl
    go Complete h g = no_true (sym g)
    go Broken h g = no_true (sym g)

reading_begun : (s : State) (m : List ℕ) (n : Line) → ReadingAgrees s m n → begun s ≡ some n.telegram
reading_begun s m n r = go n.ignored refl
  where
    go : (t : Bool) → n.ignored ≡ t → begun s ≡ some n.telegram
    go true e = ignored_idle (status s.incoming.reader) (r.ignoring ∙ e) ∙ sym (ap some (r.empty e))
    go false e =
        let f = r.reading e in
        ap (λ (x : Reader). is_inside (status x)) f
        ∙ runs_begun n.telegram (sym (ap (λ (x : Reader). is_ignored (status x)) f) ∙ r.ignoring ∙ e)

-- ---- a reply is unfinished

sender_left : (x : Sender) (ds : List ℕ) → length ds ≡ x.count → left x ≡ some (to_send x ds)
sender_left x ds e = go (left x) refl
  where
    go : (t : Bool) → left x ≡ t → t ≡ some (to_send x ds)
    go true h = sym (ap some (one x ds e h))
    go false h = sym (ap some (none x ds h))

reply_left : (s : State) (m : List ℕ) (n : Line) → (ds : List ℕ) × ReplyAgrees s m n ds → left s.reply.sender ≡ some n.reply
reply_left s m n r = sender_left s.reply.sender r.0 r.1.count ∙ ap some r.1.unsent

-- with no reply octet left the sender has none
pub nothing_left : {s : State} {m : List ℕ} {n : Line} → (ds : List ℕ) × ReplyAgrees s m n ds → n.reply ≡ [] → left s.reply.sender ≡ false
nothing_left {s} {m} {n} r e = reply_left s m n r ∙ ap some e

module _ {s : State} {m : List ℕ} {l : Ledger} (a : Agrees s m l) where
  pub begun_agrees : begun s ≡ ledger.begun l
  begun_agrees = reading_begun s m l.line a.reading

  pub left_agrees : left s.reply.sender ≡ some l.line.reply
  left_agrees = reply_left s m l.line a.reply

  pub busy_agrees : busy s ≡ ledger.busy l
  busy_agrees = λ i. begun_agrees i || left_agrees i

  pub leaves_agrees : diagnosis_leaves s ≡ ledger.diagnosis_leaves l
  leaves_agrees = λ i. a.reply.1.diagnosis i && left_agrees i

-- ---- a set is open

some_counted : (xs : List ℕ) → not (eqb (length xs) 0) ≡ some xs
some_counted [] = refl
some_counted (x ∷ xs) = ap not (ne_eqb (length (x ∷ xs)) 0 (omega arith))

pub open_agrees : {base : ℕ → ℕ} {m : List ℕ} {x : station-sets.Sets} {l : Sets} → SetsAgree base m x l → is_open x ≡ some l.shown
open_agrees {l = l} a = ap (λ (n : ℕ). not (eqb n 0)) a.shown_count ∙ some_counted l.shown
