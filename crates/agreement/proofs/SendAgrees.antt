-- Send answers the same octet on both sides, and leaves what agrees.
use Rattle.std.proofs.Common.{Option, Some, None}
use Prim.Native.Nat.{ℕ, ◌-◌, ◌<◌}
use native.Mathlib.Omega.{arith}
use mathlib.Core.Path.{◌≡◌, refl, sym, ap, ◌∙◌, subst}
use mathlib.Core.Bool.{Bool, true, false, cond, not, ◌&&◌}
use mathlib.Core.List.{List, [], ◌∷◌}
use lib.Dec.{ltb, eqb}
use lib.ListN.{get_or}
use borrow.Author.Tests.{ltb-true}
use Rattle.telegram.specs.declared.sender.Stage.{Stage}
use Rattle.telegram.specs.declared.sender.Stage.TheVariants.{Start, Le, LeAgain, SdAgain, Da, Sa, Fc, Body, End, Single, Empty}
use Rattle.telegram.specs.declared.sender.Sender.{Sender}
use Rattle.telegram.specs.declared.sender.Sent.{Sent}
use Rattle.telegram.specs.Sending.{left, asks, asks_at, sent}
use Rattle.telegram.specs.ToSend.{to_send}
use Rattle.telegram.proofs.Sends.{one, none, unasked, keeps_count}
use Rattle.state.specs.declared.state.Drawn.{Drawn}
use Rattle.state.specs.declared.state.Drawn.TheVariants as drawn
use Rattle.state.specs.declared.state.State.{State}
use Rattle.rules.specs.Diagnosis.{delayed}
use Rattle.rules.specs.Line.{clear_noted}
use Rattle.ledger.specs.Ledger.{Line, Ledger, with_line, busy, diagnosis_leaves}
use Rattle.ledger.specs.Outcome as ledger
use Rattle.ledger.specs.Bus as bus
use Rattle.state.specs.With.{with_reply}
use Rattle.steps.specs.Stepped.{Stepped, unchanged}
use Rattle.steps.specs.Outcome.{settle}
use Rattle.rules.specs.Replies.{is_exchange}
use Rattle.steps.specs.Replies.{content_at, reply_point, datum_at, asked_as, asked_for}
use Rattle.steps.specs.Bus.{sent_by, send_told, send_left}
use Rattle.agreement.proofs.Relation.{ReplyAgrees, Agrees, After}
use Rattle.agreement.proofs.Steady.{Steady}
use Rattle.state.proofs.Choice.{by_test}
use Rattle.agreement.proofs.SettleAgrees.{settle_agrees}
use Rattle.agreement.proofs.OnePartChanges.{replied, reply_changed}

-- a data octet is asked for by its number, or none is
asked_cases : (x : Sender) {A : Type 0} → (asks x ≡ Some x.at → x.at < x.count → A) → (asks x ≡ None → A) → A
asked_cases x {A} f g = at_stage x.stage f g
  where
    body : (t : Bool) → ltb x.at x.count ≡ t → (cond t (Some x.at) None ≡ Some x.at → x.at < x.count → A)
        → (cond t (Some x.at) None ≡ None → A) → A
    body true e f g = f refl (ltb-true x.at x.count e)
    body false e f g = g refl

    at_stage : (p : Stage) → (asks_at p x ≡ Some x.at → x.at < x.count → A) → (asks_at p x ≡ None → A) → A
    at_stage Start f g = g refl
    at_stage Le f g = g refl
    at_stage LeAgain f g = g refl
    at_stage SdAgain f g = g refl
    at_stage Da f g = g refl
    at_stage Sa f g = g refl
    at_stage Fc f g = g refl
    at_stage Body f g = body (ltb x.at x.count) refl f g
    at_stage End f g = g refl
    at_stage Single f g = g refl
    at_stage Empty f g = g refl

-- the sender alone went on: each data octet of the reply is the one that it was
pub datum_sent : (s : State) (m : List ℕ) (x : Sender) (k : ℕ) → datum_at (with_reply s (sent_by s.reply x)) m k ≡ datum_at s m k
unfolding datum_at
datum_sent s m x k =
    λ j. cond (is_exchange s.reply.drawn) (content_at drawn.Exchange s m k)
    (cond (eqb k 0) 0x3E (cond (eqb k 1) (reply_point s.reply.drawn) (content s.reply.drawn (k - 2) j)))
  where
    content : (d : Drawn) (i : ℕ) → content_at d (with_reply s (sent_by s.reply x)) m i ≡ content_at d s m i
    content drawn.Nothing i = refl
    content drawn.Acknowledge i = refl
    content drawn.Status i = refl
    content drawn.Rejected i = refl
    content drawn.Exchange i = refl
    content drawn.Inputs i = refl
    content drawn.Outputs i = refl
    content drawn.Configuration i = refl
    content drawn.Diagnosis i = refl

module _ {s : State} {m : List ℕ} {n : Line} {ds : List ℕ} (r : ReplyAgrees s m n ds) where
  -- the station sends as if it were handed the data octet
  pub sends_datum : sent s.reply.sender (asked_for s m) ≡ sent s.reply.sender (get_or ds s.reply.sender.at 0)
  sends_datum =
      let x = s.reply.sender in
      asked_cases x
      (λ e h. let c = r.count in ap (sent x) (ap (λ (d : Option ℕ). asked_as d s m) e ∙ r.octets x.at (omega arith)))
      (λ e. unasked x e (asked_for s m) (get_or ds x.at 0))

  -- so the first octet left is the one sent
  sends_first : left s.reply.sender ≡ true
      → n.reply ≡ (sent s.reply.sender (asked_for s m)).octet ∷ to_send (sent s.reply.sender (asked_for s m)).sender ds
  sends_first h =
      sym r.unsent ∙ one s.reply.sender ds r.count h
      ∙ ap (λ (y : Sent). y.octet ∷ to_send y.sender ds) (sym sends_datum)

  -- and the others are left
  sent_reply : left s.reply.sender ≡ true
      → ReplyAgrees (with_reply s (sent_by s.reply (sent s.reply.sender (asked_for s m)).sender)) m
      (replied n (to_send (sent s.reply.sender (asked_for s m)).sender ds) n.diagnosing) ds
  sent_reply h =
      let y = (sent s.reply.sender (asked_for s m)).sender in
      record {
        count = r.count ∙ sym (keeps_count s.reply.sender (asked_for s m));
        octets = λ k g. datum_sent s m y k ∙ r.octets k g;
        unsent = refl;
        diagnosis = r.diagnosis;
      }

-- a ledger where nothing delayed or noted may be carried out is settled
implied : (p q : Bool) → (p ≡ true → q ≡ true) → p && not q ≡ false
implied true q h = ap not (h refl)
implied false q h = refl

replied_same : (l : Ledger) → Steady l → ledger.after_reply l ≡ l
unfolding ledger.after_reply
replied_same l d = rw (implied (delayed l.control) (diagnosis_leaves l) d.delaying)

settles_same : (l : Ledger) → Steady l → ledger.settle l ≡ l
unfolding ledger.settle
settles_same l d =
    ap (λ (k : Ledger). ledger.carried k (clear_noted (busy l) k.control) []) (replied_same l d)
    ∙ rw (implied l.control.noted (busy l) d.noted)

module _ (s : State) (m : List ℕ) (l : Ledger) (d : Steady l) (a : Agrees s m l) where
  pub send_told_lem : send_told s m ≡ bus.send_told l.line.reply
  unfolding send_told
  send_told_lem = go (left s.reply.sender) refl
    where
      go : (t : Bool) → left s.reply.sender ≡ t → cond t (sent s.reply.sender (asked_for s m)).octet 256 ≡ bus.send_told l.line.reply
      go true h = sym (ap bus.send_told (sends_first a.reply.1 h))
      go false h = sym (ap bus.send_told (sym a.reply.1.unsent ∙ none s.reply.sender a.reply.0 h))

  pub send_agrees : After (send_left s m) (bus.after_send l)
  unfolding send_left bus.after_send
  send_agrees =
      by_test (λ (x : Stepped). After x (ledger.settle (with_line l (bus.send_left l.line l.line.reply)))) (left s.reply.sender)
      (settle (with_reply s (sent_by s.reply next)) m) (unchanged s m) goes_on (λ h. over (sym a.reply.1.unsent ∙ none s.reply.sender a.reply.0 h))
    where
      next : Sender
      next = (sent s.reply.sender (asked_for s m)).sender

      goes_on : left s.reply.sender ≡ true → After (settle (with_reply s (sent_by s.reply next)) m) (ledger.settle (with_line l (bus.send_left l.line l.line.reply)))
      goes_on h =
          subst (λ (xs : List ℕ). After (settle (with_reply s (sent_by s.reply next)) m) (ledger.settle (with_line l (bus.send_left l.line xs))))
          (sym (sends_first a.reply.1 h))
          (settle_agrees (reply_changed a (sent_by s.reply next) _ l.line.diagnosing a.safe.reply (a.reply.0, sent_reply a.reply.1 h)))

      over : l.line.reply ≡ [] → Agrees s m (ledger.settle (with_line l (bus.send_left l.line l.line.reply)))
      over e =
          subst (λ (k : Ledger). Agrees s m k)
          (sym (settles_same l d) ∙ ap (λ (xs : List ℕ). ledger.settle (with_line l (bus.send_left l.line xs))) (sym e)) a
