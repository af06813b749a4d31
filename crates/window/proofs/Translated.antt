-- A list of entries is answered by the list of the calls behind them, on the ledger and over the memory.
use Rattle.std.specs.Prelude.{Ok, Err}
use Prim.Native.Nat.{ℕ}
use mathlib.Core.Path.{◌≡◌, refl, sym, ap, ◌∙◌}
use mathlib.Core.List.{List, [], ◌∷◌}
use Rattle.state.specs.declared.answer.Refusal.TheVariants.{Cell}
use Rattle.state.specs.Answer.{Answer, Called}
use Rattle.ledger.specs.Ledger.{Ledger}
use Rattle.ledger.specs.Calls as ledger
use Rattle.steps.specs.Calls as steps
use Rattle.steps.proofs.Guarded.{called_steps}
use Rattle.agreement.proofs.Agreement.{Ready, ready_well}
use Rattle.window.specs.Entries.{Entry}
use Rattle.window.specs.Table.{cut_to, Behind, calls, nothing, no_cell, behind}
use Rattle.window.specs.Calls.{made, memory_after}
use Rattle.window.specs.Translation.{step_by, answers, after, behind_each, calls_among, translated, answers_by}
use Rattle.window.proofs.EntryAlike.{made_alike, entered_made}

-- b is behind the first entry, and what follows it is so answered
module _ (l : Ledger) (es : List Entry) where
  first_answer : (b : Behind)
      → answers (step_by l b).ledger es ≡ answers_by (behind_each (step_by l b).ledger es) (ledger.answers (step_by l b).ledger (translated (step_by l b).ledger es))
      → (step_by l b).answer ∷ answers (step_by l b).ledger es
      ≡ answers_by (b ∷ behind_each (step_by l b).ledger es) (ledger.answers l (calls_among (b ∷ behind_each (step_by l b).ledger es)))
  first_answer (calls c cut) = ap (λ (more : List Answer). cut_to cut (ledger.step l c).answer ∷ more)
  first_answer nothing = ap (λ (more : List Answer). Ok 0 ∷ more)
  first_answer no_cell = ap (λ (more : List Answer). Err Cell ∷ more)

  first_left : (b : Behind) → ledger.after (step_by l b).ledger (translated (step_by l b).ledger es) ≡ ledger.after l (calls_among (b ∷ behind_each (step_by l b).ledger es))
  first_left (calls c cut) = refl
  first_left nothing = refl
  first_left no_cell = refl

-- on the ledger
pub ledger_answers : (es : List Entry) (l : Ledger) → answers l es ≡ answers_by (behind_each l es) (ledger.answers l (translated l es))
ledger_answers [] l = refl
ledger_answers (e ∷ es) l =
    let b = behind l.control e in
    first_answer l es b (ledger_answers es (step_by l b).ledger)

pub ledger_left : (es : List Entry) (l : Ledger) → after l es ≡ ledger.after l (translated l es)
ledger_left [] l = refl
ledger_left (e ∷ es) l =
    let b = behind l.control e in
    ledger_left es (step_by l b).ledger ∙ first_left l es b

-- over the memory
module _ (m : List ℕ) (l : Ledger) (r : Ready m l) (es : List Entry) where
  first_memory : (b : Behind)
      → steps.memory_after (made m b).memory (translated (step_by l b).ledger es) ≡ steps.memory_after m (calls_among (b ∷ behind_each (step_by l b).ledger es))
  first_memory (calls c cut) =
      ap (λ (x : Called). steps.memory_after x.memory (translated (ledger.step l c).ledger es)) (sym (called_steps m c (ready_well m l r)))
  first_memory nothing = refl
  first_memory no_cell = refl

pub memory_left : (es : List Entry) (m : List ℕ) (l : Ledger) → Ready m l → memory_after m es ≡ steps.memory_after m (translated l es)
memory_left [] m l r = refl
memory_left (e ∷ es) m l r =
    let b = behind l.control e in
    ap (λ (x : Called). memory_after x.memory es) (entered_made m l r e)
    ∙ memory_left es (made m b).memory (step_by l b).ledger (made_alike m l r b).again
    ∙ first_memory m l r es b
