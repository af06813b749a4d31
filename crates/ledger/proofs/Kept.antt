-- Start's values stay as they were.
use Prim.Native.Nat.{ℕ}
use mathlib.Core.Path.{◌≡◌, refl, ◌∙◌}
use mathlib.Core.Bool.{Bool, true, false, cond}
use mathlib.Core.List.{List, [], ◌∷◌, ◌++◌}
use Rattle.telegram.specs.declared.reader.Status.{Status}
use Rattle.telegram.specs.declared.reader.Status.TheVariants.{Fresh, Inside, Complete, Broken}
use Rattle.telegram.specs.Reading.{run, reader_after, status}
use Rattle.rules.specs.Line.{ticked}
use Rattle.ledger.specs.Ledger.{Ledger, with_line, begun, busy}
use Rattle.ledger.specs.Outcome.{carried, settle}
use Rattle.ledger.specs.Bus.{telegram_on, answered, completed, broken_off, lengthened, beginning, send_left, silenced, heard_as, heard, paused, after_send, elapsed, gapped}
use Rattle.ledger.specs.User.{hand_over, acknowledge_events, leave_master}
use Rattle.rules.specs.Call.{Call, octet, gap, send, tick, take, read, write, hand_over_call, new_diagnosis_call, judge_parameters_call, judge_configuration_call, events, acknowledge, pending, leave}
use Rattle.ledger.specs.Calls.{step, after}
use Rattle.ledger.proofs.Settling.{settle_setup, settle_slice}
use Rattle.ledger.proofs.ByCases.{take_cases, read_cases, write_cases, diagnosis_cases, parameters_cases, configuration_cases}

abbrev pub Kept : Ledger → Ledger → Type 0
Kept l m = (m.setup ≡ l.setup) × (m.slice ≡ l.slice)

settled_kept : (l m : Ledger) → Kept l m → Kept l (settle m)
settled_kept l m k = (settle_setup m ∙ k.0, settle_slice m ∙ k.1)

heard_kept : (l : Ledger) (b : ℕ) (s : Status) → Kept l (heard_as s l b)
unfolding answered
heard_kept l b Fresh = (refl, refl)
heard_kept l b Inside = go (begun l)
  where
    go : (t : Bool) → Kept l (cond t (with_line l (lengthened l.line b)) (settle (with_line l (beginning b))))
    go true = (refl, refl)
    go false = settled_kept l (with_line l (beginning b)) (refl, refl)
heard_kept l b Complete =
    settled_kept l (completed l (telegram_on (l.line.telegram ++ b ∷ []))) (refl, refl)
heard_kept l b Broken = settled_kept l (with_line l (broken_off l.line)) (refl, refl)

pub step_kept : (l : Ledger) (c : Call) → Kept l (step l c).ledger
unfolding heard paused after_send elapsed hand_over acknowledge_events leave_master
step_kept l (octet b bad) = go l.line.ignored
  where
    s : Status
    s = status (reader_after (run l.line.telegram) b bad)

    go : (t : Bool) → Kept l (cond t l (heard_as s l b))
    go true = (refl, refl)
    go false = heard_kept l b s
step_kept l gap =
    settled_kept l (with_line l (gapped l.line))
    (refl, refl)
step_kept l send = settled_kept l (with_line l (send_left l.line l.line.reply)) (refl, refl)
step_kept l tick = go l.control.noted
  where
    go : (t : Bool) → Kept l (cond t (settle (with_line l (silenced l))) (carried l (ticked (busy l) l.control) []))
    go true = settled_kept l (with_line l (silenced l)) (refl, refl)
    go false = (refl, refl)
step_kept l take = take_cases (λ t. Kept l t.ledger) l (λ _. (refl, refl)) (λ _. (refl, refl))
step_kept l (read kind index) = read_cases (λ t. Kept l t.ledger) l kind index (λ _. (refl, refl)) (refl, refl)
step_kept l (write kind index x) = write_cases (λ t. Kept l t.ledger) l kind index x (λ _. (refl, refl)) (refl, refl)
step_kept l hand_over_call = (refl, refl)
step_kept l (new_diagnosis_call count flags) =
    diagnosis_cases (λ t. Kept l t.ledger) l count flags (λ _. (refl, refl)) (λ _. (refl, refl)) (λ _. (refl, refl))
step_kept l (judge_parameters_call j) = parameters_cases (λ t. Kept l t.ledger) l j (λ _ _. (refl, refl)) (λ _. (refl, refl))
step_kept l (judge_configuration_call j) = configuration_cases (λ t. Kept l t.ledger) l j (λ _ _. (refl, refl)) (λ _. (refl, refl))
step_kept l events = (refl, refl)
step_kept l (acknowledge mask) = (refl, refl)
step_kept l pending = (refl, refl)
step_kept l leave = (refl, refl)

pub after_kept : (l : Ledger) (cs : List Call) → Kept l (after l cs)
after_kept l [] = (refl, refl)
after_kept l (c ∷ cs) =
    let m = step_kept l c in
    let k = after_kept (step l c).ledger cs in
    (k.0 ∙ m.0, k.1 ∙ m.1)
