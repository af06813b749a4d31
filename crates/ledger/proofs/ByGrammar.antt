-- The bus's octet by the grammar (specs/ByGrammar.antt): the reader's status says which of the grammar's cases it is.
use Prim.Native.Nat.{ℕ}
use mathlib.Core.Path.{◌≡◌, refl, ap, ◌∙◌}
use mathlib.Core.Bool.{Bool, true, false, cond, ◌&&◌, ◌||◌}
use mathlib.Core.List.{List, [], ◌∷◌, ◌++◌}
use mathlib.Core.Logic.{◌⊎◌, inl, inr}
use lib.Dec.{leb}
use Rattle.telegram.specs.declared.reader.Status.{Status}
use Rattle.telegram.specs.declared.reader.Status.TheVariants.{Fresh, Inside, Complete, Broken}
use Rattle.telegram.specs.Telegram.{Telegram, sd4, octets_of, payload_of, Valid, IsTelegram}
use Rattle.telegram.specs.Reading.{run, reader_after, status}
use Rattle.telegram.specs.Framing.{Continues, Hopeless}
use Rattle.telegram.proofs.Framing.{framing}
use Rattle.state.specs.declared.state.Drawn.TheVariants.{Nothing}
use Rattle.rules.specs.declared.request.Request.{Request}
use Rattle.rules.specs.declared.outcome.Outcome.{Outcome}
use Rattle.rules.specs.Call.{gap, send, tick}
use Rattle.rules.specs.Line.{ticked}
use Rattle.rules.specs.Phases.{drawing}
use Rattle.rules.specs.Requests.{master_of, to_station, to_all, acts, refilled, service_of}
use Rattle.ledger.specs.Ledger.{Ledger, with_line, begun, busy}
use Rattle.ledger.specs.Outcome.{carried, settle}
use Rattle.ledger.specs.Bus.{request_by, outcome_of, answered, completed, lengthened, heard, gapped, paused, send_left, after_send, silenced, elapsed}
use Rattle.ledger.specs.Calls.{step}
use Rattle.ledger.specs.Hearing.{begun_by}
use Rattle.ledger.specs.ByGrammar.{octets_with, interrupted, HeardAsFramed, ByGrammar, Sd4WithoutEffect}
use Rattle.ledger.proofs.Exchange.{keeps_line, not_fresh, lengthens_heard}
use Rattle.ledger.proofs.Settling.{settle_line}
use Rattle.ledger.proofs.Hearing.{one_more, last_heard, begun_heard}
use Rattle.ledger.proofs.Some.{nothing_in}

-- a telegram is none that goes on
no_two : (xs : List ℕ) → IsTelegram xs → ¬ Continues xs
no_two xs w c = ((framing xs).ends w c.0 c.1).0 c.3

-- there is an octet
some_came : (xs : List ℕ) (b : ℕ) → ¬ (xs ++ b ∷ [] ≡ [])
some_came xs b e = not_fresh xs b false (one_more xs b ((framing (xs ++ b ∷ [])).nothing.1 e))

-- which of the three it is
one_of : (xs : List ℕ) (b : ℕ) → Hopeless (xs ++ b ∷ []) ⊎ (IsTelegram (xs ++ b ∷ []) ⊎ Continues (xs ++ b ∷ []))
one_of xs b = go (status (run ys)) refl
  where
    ys : List ℕ
    ys = xs ++ b ∷ []

    go : (s : Status) → status (run ys) ≡ s → Hopeless ys ⊎ (IsTelegram ys ⊎ Continues ys)
    go Fresh e = absurd (not_fresh xs b false (one_more xs b e))
    go Inside e = inr (inr ((framing ys).part.0 e).2)
    go Complete e = inr (inl ((framing ys).whole.0 e))
    go Broken e = inl ((framing ys).neither.0 e)

-- an octet that breaks off
broken_heard : (l : Ledger) (b : ℕ) (bad : Bool) → l.line.ignored ≡ false → status (reader_after (run l.line.telegram) b bad) ≡ Broken
    → heard l b bad ≡ interrupted l
unfolding heard
broken_heard l b bad i s = rw (i, s)

module _ (l : Ledger) (b : ℕ) (i : l.line.ignored ≡ false) where
  abbrev xs : List ℕ
  xs = l.line.telegram

  abbrev ys : List ℕ
  ys = octets_with l b

  flagged : (bad : Bool) → bad ≡ true → heard l b bad ≡ interrupted l
  flagged bad e = broken_heard l b bad i (rw e ((framing xs).flagged b []))

  hopeless : (bad : Bool) → Hopeless ys → heard l b bad ≡ interrupted l
  hopeless true h = flagged true refl
  hopeless false h = broken_heard l b false i (one_more xs b ((framing ys).neither.1 h))

  whole : (bad : Bool) → bad ≡ false → (t : Telegram) → Valid t → octets_of t ≡ ys → heard l b bad ≡ settle (completed l t)
  whole bad e t v o =
      last_heard l b bad i (rw e (one_more xs b ((framing ys).whole.1 (t, v, o))))
      ∙ ap (λ (u : Telegram). settle (completed l u)) ((framing ys).told t v o)

  inside : Continues ys → status (run ys) ≡ Inside
  inside c = (framing ys).part.1 (some_came xs b, λ w. no_two ys w c, c)

  longer : (bad : Bool) → bad ≡ false → Continues ys → begun l ≡ true → heard l b bad ≡ with_line l (lengthened l.line b)
  longer bad e c g = lengthens_heard l b bad (record { listens = i; begins = g; inside = rw e (one_more xs b (inside c)) })

  begins : (bad : Bool) → bad ≡ false → Continues ys → begun l ≡ false → heard l b bad ≡ begun_by l b
  begins bad e c g =
      let none = nothing_in xs g in
      rw e (begun_heard l b i none (rw none at (inside c)))

  framed : (bad : Bool) → HeardAsFramed l b bad
  framed bad = record {
    flagged = flagged bad;
    hopeless = hopeless bad;
    whole = whole bad;
    longer = longer bad;
    begins = begins bad;
    one_of = one_of xs b;
    no_two = no_two ys;
  }

ignores : (l : Ledger) (b : ℕ) (bad : Bool) → l.line.ignored ≡ true → heard l b bad ≡ l
unfolding heard
ignores l b bad e = rw e

-- ---- the calls between octets

sends : (l : Ledger) → (step l send).ledger.line ≡ send_left l.line l.line.reply
unfolding after_send
sends l = settle_line (with_line l (send_left l.line l.line.reply))

gaps : (l : Ledger) → (step l gap).ledger.line ≡ gapped l.line
unfolding paused
gaps l = settle_line (with_line l (gapped l.line))

ticks : (l : Ledger) → (step l tick).ledger.line ≡ cond l.control.noted (silenced l) l.line
unfolding elapsed
ticks l = go l.control.noted
  where
    go : (t : Bool) → (cond t (settle (with_line l (silenced l))) (carried l (ticked (busy l) l.control) [])).line ≡ cond t (silenced l) l.line
    go true = settle_line (with_line l (silenced l))
    go false = refl

pub by_grammar : ByGrammar
by_grammar = record {
  ignored = ignores;
  listening = λ l b bad i. framed l b i bad;
  between = record { by_user = keeps_line; by_send = sends; by_gap = gaps; by_tick = ticks };
}

-- ---- SD4

no_and : (p : Bool) → p && false ≡ false
no_and true = refl
no_and false = refl

-- a telegram that does not act is without effect
idle_outcome : (l : Ledger) (r : Request) (ds : List ℕ) → acts l.setup r ≡ false → outcome_of l r ds ≡ drawing l.control Nothing
unfolding refilled service_of
idle_outcome l r ds e = rw e

-- SD4 has no FC, so it does not act
sd4_idle : (l : Ledger) (da sa : ℕ) → outcome_of l (request_by (sd4 da sa)) (payload_of (sd4 da sa)) ≡ drawing l.control Nothing
sd4_idle l da sa =
    let t = sd4 da sa in
    let r = request_by t in
    idle_outcome l r (payload_of t) (no_and ((to_station l.setup r || to_all r) && leb (master_of r) 126 && true))

pub sd4_without_effect : Sd4WithoutEffect
unfolding answered
sd4_without_effect = record {
  outcome_is = sd4_idle;
  ledger_is = λ l da sa.
      let t = sd4 da sa in
      ap (λ (o : Outcome). answered l o (master_of (request_by t)) (payload_of t)) (sd4_idle l da sa);
}
