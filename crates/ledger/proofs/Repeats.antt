-- A request that is sent again (specs/Repeats.antt): its repeat draws again what it drew, and of one that drew E5 nothing else comes.
use Prim.Native.Nat.{ℕ, ◌/◌, ◌%◌}
use mathlib.Core.Path.{◌≡◌, refl, sym, ap, subst, ◌∙◌}
use mathlib.Core.Bool.{Bool, true, false, cond, not, ◌&&◌, ◌||◌}
use mathlib.Core.List.{List, [], ◌∷◌, ◌++◌, append-nil, append_assoc}
use lib.Dec.{eqb}
use borrow.Author.Tests.{eqb-true, eqb-false, eq-eqb, ne_eqb, not-true}
use Rattle.telegram.specs.declared.reader.Status.TheVariants.{Inside}
use Rattle.telegram.specs.Telegram.{Telegram, kind_of, octets_of, payload_of, Valid}
use Rattle.telegram.specs.Reading.{run, status}
use Rattle.telegram.specs.Sending.{start_octet}
use Rattle.state.specs.declared.chain.Chain.{Chain}
use Rattle.state.specs.declared.setup.Setup.{Setup}
use Rattle.state.specs.declared.state.Drawn.{Drawn}
use Rattle.state.specs.declared.state.Drawn.TheVariants.{Nothing, Acknowledge, Status, Rejected, Exchange, Inputs, Outputs, Configuration, Diagnosis}
use Rattle.state.specs.Chain.{chain_of, no_chain, drawn_in}
use Rattle.state.proofs.Choice.{either, and_left, and_right, or_left, or_right}
use Rattle.state.proofs.SetCodes.{drawn_in_lem}
use Rattle.rules.specs.declared.request.Request.{Request}
use Rattle.rules.specs.declared.outcome.Outcome.{Outcome}
use Rattle.rules.specs.Call.{Call, gap}
use Rattle.rules.specs.Diagnosis.{is_delayed, delayed}
use Rattle.rules.specs.Line.{clearing}
use Rattle.rules.specs.Phases.{drawing}
use Rattle.rules.specs.Replies.{replies_e5, is_exchange, diagnoses}
use Rattle.rules.specs.Requests.{master_of, acts}
use Rattle.rules.specs.Retries.{is_request, fcv_of, fcb_of, is_repeat}
use Rattle.rules.proofs.Alike.{refilled_alike}
use Rattle.rules.proofs.ByCases.{refilled_same}
use Rattle.rules.proofs.Repeats.{is_repeat_lem, by_repeat, set_prm_draws}
use Rattle.ledger.specs.Ledger.{Line, Ledger, with_line, busy, occupied}
use Rattle.ledger.specs.Outcome.{carried, after_reply, settle}
use Rattle.ledger.specs.Bus.{request_by, data_by, outcome_of, answered, completed, lengthened, beginning, paused, gapped}
use Rattle.ledger.specs.Calls.{step, after}
use Rattle.ledger.specs.Hearing.{hear, begun_by}
use Rattle.ledger.specs.History.{clears, deeds_by}
use Rattle.ledger.specs.Repeats.{InOctets, again, RepeatIs, drew_by, SentAgain, after_calls, DrawnAgain, after_gap, NothingNew, E5Again, SetPrmOnce, NoDeedAgain}
use Rattle.ledger.proofs.Settling.{settle_line, settle_setup}
use Rattle.ledger.proofs.Kept.{step_kept, after_kept}
use Rattle.ledger.proofs.Hearing.{unfinished, completed_on, inner_heard, begun_heard, hears}
use Rattle.ledger.proofs.RequestKept.{after_chain, chain_goes_on, Waits, settle_waits, step_waits, after_waits}

-- ---------------------------------------------------------------------------------------------------
-- The words.

-- a request's octets
pub in_octets : (g : Setup) (r : Request) → InOctets g r
in_octets g r =
    let f = r.fc % 16 in
    record {
      request_is = (
        λ e.
            let none = not-true _ (and_right (acts g r) _ e) in
            (and_left (acts g r) _ e, eqb-false f 4 (or_left (eqb f 4) (eqb f 6) none), eqb-false f 6 (or_right (eqb f 4) (eqb f 6) none)),
        λ x. λ i. x.0 i && not (ne_eqb f 4 x.1 i || ne_eqb f 6 x.2 i),
      );
      counts_is = (eqb-true (r.fc / 16 % 2) 1, eq-eqb (r.fc / 16 % 2) 1);
      bit_is = (eqb-true (r.fc / 32 % 2) 1, eq-eqb (r.fc / 32 % 2) 1);
      master_is = refl;
    }

-- ---------------------------------------------------------------------------------------------------
-- A busy line with nothing delayed.

-- settling leaves all as it was: a noted clear waits
settle_stays : (l : Ledger) → delayed l.control ≡ false → busy l ≡ true → settle l ≡ l
unfolding settle after_reply
settle_stays l d b = rw (d, b) (go l.control.noted)
  where
    go : (t : Bool) → carried l (cond (t && false) (clearing l.control) (drawing l.control Nothing)) [] ≡ l
    go true = refl
    go false = refl

-- so does a telegram's beginning, but for the line
begun_stays : (l : Ledger) (b : ℕ) → delayed l.control ≡ false → begun_by l b ≡ with_line l (beginning b)
begun_stays l b d = settle_stays (with_line l (beginning b)) d refl

-- ---------------------------------------------------------------------------------------------------
-- The octets before the last.

-- the control part and the lists of m are those of l
abbrev Same : Ledger → Ledger → Type 0
Same l m = (m.control ≡ l.control) × (m.buffers ≡ l.buffers)

module _ (t : Telegram) (v : Valid t) where
  -- a telegram lacks octets while y and ys are to come
  lacks : (x : ℕ) (xs zs : List ℕ) (y : ℕ) (ys : List ℕ) → octets_of t ≡ (x ∷ xs) ++ (zs ++ y ∷ ys) → status (run (x ∷ xs)) ≡ Inside
  lacks x xs [] y ys o = unfinished x xs y ys (t, v, o)
  lacks x xs (z ∷ zs) y ys o = unfinished x xs z (zs ++ y ∷ ys) (t, v, o)

  -- so the octets zs behind its first ones change the line alone
  inner_same : (l : Ledger) (x : ℕ) (xs zs : List ℕ) (y : ℕ) (ys : List ℕ) → l.line.ignored ≡ false → l.line.telegram ≡ x ∷ xs
      → octets_of t ≡ (x ∷ xs) ++ (zs ++ y ∷ ys) → Same l (after l (hear zs))
  inner_same l x xs [] y ys i e o = (refl, refl)
  inner_same l x xs (z ∷ zs) y ys i e o =
      let w : octets_of t ≡ (x ∷ (xs ++ z ∷ [])) ++ (zs ++ y ∷ ys) = o ∙ sym (append_assoc (x ∷ xs) (z ∷ []) (zs ++ y ∷ ys)) in
      subst (λ (m : Ledger). Same l (after m (hear zs))) (sym (inner_heard l x xs z i e (lacks x (xs ++ z ∷ []) zs y ys w)))
      (inner_same (with_line l (lengthened l.line z)) x (xs ++ z ∷ []) zs y ys refl (rw e) w)

  -- and from a gap on
  part_same : (l : Ledger) (xs : List ℕ) (y : ℕ) (ys : List ℕ) → delayed l.control ≡ false → l.line.ignored ≡ false → l.line.telegram ≡ []
      → octets_of t ≡ xs ++ y ∷ ys → Same l (after l (hear xs))
  part_same l [] y ys d i e o = (refl, refl)
  part_same l (x ∷ xs) y ys d i e o =
      subst (λ (m : Ledger). Same l (after m (hear xs))) (sym (begun_heard l x i e (lacks x [] xs y ys o) ∙ begun_stays l x d))
      (inner_same (with_line l (beginning x)) x [] xs y ys refl refl o)

-- ---------------------------------------------------------------------------------------------------
-- The last octet.

-- a repeat draws what the chain holds, and that is all
pub repeat_is : RepeatIs
unfolding answered
repeat_is l t e =
    ap (λ (o : Outcome). answered l o (master_of (request_by t)) (payload_of t))
    (by_repeat l.setup l.control (occupied l) (request_by t) (data_by (payload_of t)) e)

-- heard whole after a gap
repeat_heard : (l : Ledger) (t : Telegram) → Valid t → delayed l.control ≡ false → l.line.ignored ≡ false → l.line.telegram ≡ []
    → is_repeat l.setup l.control (request_by t) ≡ true → drawn_in l.control.chain ≡ Acknowledge → after l (hear (octets_of t)) ≡ again Acknowledge l t
repeat_heard l t v n i e r d =
    (hears l t).ledger_is i e v
    ∙ ap (λ (m : Ledger). settle (completed m t)) (begun_stays l (start_octet (kind_of t)) n)
    ∙ ap settle (completed_on l (beginning (start_octet (kind_of t))) t ∙ repeat_is l t r ∙ ap (λ (x : Drawn). again x l t) d)
    ∙ settle_stays (again Acknowledge l t) (ap is_delayed (refilled_alike l.setup l.control (request_by t)).diagnosis_same ∙ n) refl

-- ---------------------------------------------------------------------------------------------------
-- Sent again.

-- the chain of a request that drew E5
abbrev e5_chain : Telegram → Chain
e5_chain t = chain_of (master_of (request_by t)) (fcb_of (request_by t)) Acknowledge

-- it holds E5
e5_drawn : (t : Telegram) → drawn_in (e5_chain t) ≡ Acknowledge
e5_drawn t = drawn_in_lem (master_of (request_by t)) (fcb_of (request_by t)) Acknowledge

-- its repeat after a gap
nothing_new : (l : Ledger) (t : Telegram) → Valid t → Waits (e5_chain t) l → l.line.ignored ≡ false → l.line.telegram ≡ []
    → is_request l.setup (request_by t) ≡ true → fcv_of (request_by t) ≡ true → NothingNew l t
nothing_new l t v w i e a b =
    let r = request_by t in
    let n = w.1.none_delayed in
    let s = repeat_heard l t v n i e (is_repeat_lem l.setup l.control r Acknowledge a b w.0) (ap drawn_in w.0 ∙ e5_drawn t) in
    record {
      draws_e5 = ap (λ (m : Ledger). m.line.reply) s;
      control_is = ap (λ (m : Ledger). m.control) s;
      buffers_are = ap (λ (m : Ledger). m.buffers) s;
      events_stay = ap (λ (m : Ledger). m.control.events) s ∙ (refilled_same l.setup l.control r).1;
      inner_control = λ xs ys y o. (part_same t v l xs y ys n i e o).0;
      inner_buffers = λ xs ys y o. (part_same t v l xs y ys n i e o).1;
    }

-- the line after a gap
gap_line : (l : Ledger) → (step l gap).ledger.line ≡ gapped l.line
unfolding paused
gap_line l = settle_line (with_line l (gapped l.line))

-- whether a diagnosis was drawn is told by what is drawn again
drew_diagnoses : (d : Drawn) (e5 : Bool) → diagnoses d ≡ diagnoses (cond (is_exchange d && e5) Acknowledge d)
drew_diagnoses Nothing e5 = refl
drew_diagnoses Acknowledge e5 = refl
drew_diagnoses Status e5 = refl
drew_diagnoses Rejected e5 = refl
drew_diagnoses Exchange e5 = either (λ (d : Drawn). false ≡ diagnoses d) e5 refl refl
drew_diagnoses Inputs e5 = refl
drew_diagnoses Outputs e5 = refl
drew_diagnoses Configuration e5 = refl
drew_diagnoses Diagnosis e5 = refl

module _ (l : Ledger) (t u : Telegram) (s : SentAgain l t u) where
  -- what t drew
  abbrev first_drawn : Drawn
  first_drawn = drew_by l t

  -- after t the chain is the one that its repeat asks for
  goes_in : (settle (completed l t)).control.chain ≡ chain_of (master_of (request_by u)) (fcb_of (request_by u)) first_drawn
  goes_in =
      (chain_goes_on l t).new_goes_in s.first_asks s.first_new
      ∙ (λ i. cond (s.first_counts i) (chain_of (sym s.same_master i) (sym s.same_bit i) first_drawn) no_chain)

  -- and nothing is delayed if that was E5
  request_waits : first_drawn ≡ Acknowledge → Waits (e5_chain u) (settle (completed l t))
  unfolding answered
  request_waits d =
      let o = outcome_of l (request_by t) (payload_of t) in
      settle_waits (completed l t) (goes_in ∙ ap (chain_of (master_of (request_by u)) (fcb_of (request_by u))) d)
      (drew_diagnoses o.drawn (replies_e5 l.setup o.control) ∙ ap diagnoses d)

  -- u is a request for every station with that setup
  asks_on : (p : Ledger) → p.setup ≡ l.setup → is_request p.setup (request_by u) ≡ true
  asks_on p e = ap (λ (x : Setup). is_request x (request_by u)) e ∙ s.second_asks

-- the setup after t and the calls cs
pub setup_stays : (l : Ledger) (t : Telegram) (cs : List Call) → (after_calls l t cs).setup ≡ l.setup
unfolding answered
setup_stays l t cs = (after_kept (settle (completed l t)) cs).0 ∙ settle_setup (completed l t)

-- a request that drew anything
pub drawn_again : DrawnAgain
drawn_again l t u cs s n =
    let p = after_calls l t cs in
    let h = after_chain (settle (completed l t)) cs n ∙ goes_in l t u s in
    repeat_is p u (is_repeat_lem p.setup p.control (request_by u) (first_drawn l t u s) (asks_on l t u s p (setup_stays l t cs)) s.second_counts h)
    ∙ ap (λ (d : Drawn). again d p u) (ap drawn_in h ∙ drawn_in_lem (master_of (request_by u)) (fcb_of (request_by u)) (first_drawn l t u s))

-- a request that drew E5
pub e5_again : E5Again
e5_again l t u cs s d n =
    let m = after_calls l t cs in
    let x = ap diagnoses (e5_drawn u) in
    nothing_new (after_gap l t cs) u s.second_valid (step_waits x m gap refl (after_waits x (settle (completed l t)) cs n (request_waits l t u s d)))
    (ap (λ (x : Line). x.ignored) (gap_line m)) (ap (λ (x : Line). x.telegram) (gap_line m))
    (asks_on l t u s (after_gap l t cs) ((step_kept m gap).0 ∙ setup_stays l t cs)) s.second_counts

-- among them every Set_Prm that no other master's ownership refuses
pub set_prm_once : SetPrmOnce
set_prm_once l t u cs s v o n =
    let e = set_prm_draws l.setup l.control (occupied l) (request_by t) (data_by (payload_of t)) s.first_new v o in
    let e5 = replies_e5 l.setup (outcome_of l (request_by t) (payload_of t)).control in
    e5_again l t u cs s (λ i. cond (is_exchange (e i) && e5) Acknowledge (e i)) n

-- a repeat keeps the outputs, so that it has no deed of its own
pub no_deed_again : NoDeedAgain
no_deed_again l t e =
    ap (λ (o : Outcome). clears (completed l t) ++ deeds_by o.outputs (payload_of t))
    (by_repeat l.setup l.control (occupied l) (request_by t) (data_by (payload_of t)) e)
    ∙ append-nil (clears (completed l t))
