-- Lists written down with their answers, computed by whole telegrams: the octets of one that comes after a gap are not computed one by one.
use Rattle.std.specs.Prelude.{Ok}
use Prim.Native.Nat.{ℕ}
use mathlib.Core.Path.{◌≡◌, refl, sym, ap, ◌∙◌}
use mathlib.Core.Bool.{Bool, true, false, not, ◌&&◌}
use mathlib.Core.List.{List, [], ◌∷◌, ◌++◌}
use lib.ListN.{length, replicate}
use borrow.Author.Tests.{not-true}
use Rattle.state.specs.Answer.{Answer}
use Rattle.telegram.specs.declared.reader.Status.{Status}
use Rattle.telegram.specs.declared.reader.Status.TheVariants.{Fresh, Inside, Complete, Broken}
use Rattle.telegram.specs.Telegram.{Telegram, kind_of, IsTelegram}
use Rattle.telegram.specs.Reading.{run, status}
use Rattle.telegram.specs.Sending.{start_octet}
use Rattle.telegram.proofs.Run.{no_true}
use Rattle.telegram.proofs.Framing.{framing}
use Rattle.ledger.specs.Ledger.{Ledger, begun}
use Rattle.ledger.specs.Outcome.{settle}
use Rattle.ledger.specs.Bus.{telegram_on, completed}
use Rattle.ledger.specs.Calls.{step, answers, after}
use Rattle.ledger.specs.Hearing.{hear, begun_by, sends_of}
use Rattle.ledger.specs.Script.{Part, hears, sends, does, refuses, calls_of, answers_of, Answers}
use Rattle.ledger.proofs.Runs.{answers_append}
use Rattle.ledger.proofs.Some.{nothing_in}
use Rattle.state.proofs.Choice.{and_left, and_right}
use Rattle.ledger.proofs.Hearing.{hear_answers, hears as whole}

abbrev complete : Status → Bool
complete Fresh = false
complete Inside = false
complete Complete = true
complete Broken = false

-- a telegram's octets after a gap
abbrev at_once : Ledger → List ℕ → Bool
at_once l xs = not l.line.ignored && not (begun l) && complete (status (run xs))

-- what a telegram comes to
abbrev heard_whole : Ledger → Telegram → Ledger
heard_whole l t = settle (completed (begun_by l (start_octet (kind_of t))) t)

abbrev heard_by : Bool → Ledger → List ℕ → Ledger
heard_by true l xs = heard_whole l (telegram_on xs)
heard_by false l xs = after l (hear xs)

-- the answers, by whole telegrams
abbrev pub quick : Ledger → List Part → List Answer
quick l [] = []
quick l (hears xs ∷ ps) = replicate (length xs) (Ok 0) ++ quick (heard_by (at_once l xs) l xs) ps
quick l (sends xs ∷ ps) = answers l (sends_of xs) ++ quick (after l (sends_of xs)) ps
quick l (does c n ∷ ps) = (step l c).answer ∷ quick (step l c).ledger ps
quick l (refuses c r ∷ ps) = (step l c).answer ∷ quick (step l c).ledger ps

is_complete : (s : Status) → complete s ≡ true → s ≡ Complete
is_complete Fresh e = no_true e
is_complete Inside e = no_true e
is_complete Complete e = refl
is_complete Broken e = no_true e

heard_is : (l : Ledger) (xs : List ℕ) → after l (hear xs) ≡ heard_by (at_once l xs) l xs
heard_is l xs = go (at_once l xs) refl
  where
    p : Bool
    p = not l.line.ignored

    q : Bool
    q = not (begun l)

    by : IsTelegram xs → l.line.ignored ≡ false → l.line.telegram ≡ [] → after l (hear xs) ≡ heard_by true l xs
    by w i e =
        ap (λ (u : List ℕ). after l (hear u)) (sym w.2)
        ∙ (whole l w.0).ledger_is i e w.1
        ∙ ap (heard_whole l) (sym ((framing xs).told w.0 w.1 w.2))

    go : (t : Bool) → at_once l xs ≡ t → after l (hear xs) ≡ heard_by t l xs
    go true e =
        by ((framing xs).whole.0 (is_complete (status (run xs)) (and_right (p && q) _ e)))
        (not-true _ (and_left p q (and_left (p && q) _ e)))
        (nothing_in l.line.telegram (not-true _ (and_right p q (and_left (p && q) _ e))))
    go false e = refl

quick_is : (l : Ledger) (ps : List Part) → answers l (calls_of ps) ≡ quick l ps
quick_is l [] = refl
quick_is l (hears xs ∷ ps) =
    answers_append l (hear xs) (calls_of ps)
    ∙ (λ i. hear_answers l xs i ++ answers (heard_is l xs i) (calls_of ps))
    ∙ ap (λ (a : List Answer). replicate (length xs) (Ok 0) ++ a) (quick_is (heard_by (at_once l xs) l xs) ps)
quick_is l (sends xs ∷ ps) =
    answers_append l (sends_of xs) (calls_of ps)
    ∙ ap (λ (a : List Answer). answers l (sends_of xs) ++ a) (quick_is (after l (sends_of xs)) ps)
quick_is l (does c n ∷ ps) = ap (λ (a : List Answer). (step l c).answer ∷ a) (quick_is (step l c).ledger ps)
quick_is l (refuses c r ∷ ps) = ap (λ (a : List Answer). (step l c).answer ∷ a) (quick_is (step l c).ledger ps)

-- so a list answers as it is written down if the quick way does
pub written : {l : Ledger} {ps : List Part} → quick l ps ≡ answers_of ps → Answers l ps
written {l} {ps} e = record { answers_are = quick_is l ps ∙ e }
