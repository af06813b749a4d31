-- A call of the vat program, made as a call or as an access, and a neighbouring inner octet change places on the ledger.
use Prim.Native.Nat.{ℕ}
use mathlib.Core.Path.{◌≡◌, refl, sym, ap, ◌∙◌}
use mathlib.Core.Bool.{Bool, true}
use mathlib.Core.List.{List, [], ◌∷◌, ◌++◌}
use Rattle.state.specs.declared.control.Control.{Control}
use Rattle.rules.specs.Call.{octet}
use Rattle.rules.proofs.Runs.{left_append}
use Rattle.ledger.specs.Ledger.{Ledger}
use Rattle.ledger.specs.Bus.{heard}
use Rattle.ledger.specs.User.{Told}
use Rattle.ledger.specs.Exchange as exchange
use Rattle.ledger.specs.Exchange.{Inner, PlacesChanged}
use Rattle.ledger.proofs.Exchange.{Lengthens, inner_lengthens, lengthens_heard, keeps_line, octet_then_call, call_then_octet, neighbours_change}
use Rattle.window.specs.Order.{cell_at}
use Rattle.window.specs.Entries.{Entry, call, window_read, window_write}
use Rattle.window.specs.Table.{cut_to, Behind, calls, nothing, no_cell, behind}
use Rattle.window.specs.Translation.{step_by, step, answers, after}
use Rattle.window.specs.Demand3.{of_user}
use Rattle.window.proofs.Rows.{reading_cases_lem, writing_cases}

-- what is behind a call of the vat program is one
abbrev UserBehind : Behind → Type 0
UserBehind (calls c cut) = exchange.of_user c ≡ true
UserBehind nothing = Unit
UserBehind no_cell = Unit

user_behind : (k : Control) (e : Entry) → of_user e ≡ true → UserBehind (behind k e)
unfolding behind
user_behind k (call c) u = u
user_behind k (window_read order address) u =
    reading_cases_lem _ _ (λ n b. UserBehind b) (λ n. tt) (λ n h. tt) refl refl refl refl refl refl refl refl refl refl refl (cell_at order address)
user_behind k (window_write order address x) u = writing_cases _ _ (λ n b. UserBehind b) (λ n. tt) (λ n h. tt) x refl refl (cell_at order address)

-- it leaves the line as it was
line_stays : (l : Ledger) (b : Behind) → UserBehind b → (step_by l b).ledger.line ≡ l.line
line_stays l (calls c cut) u = keeps_line l c u
line_stays l nothing u = refl
line_stays l no_cell u = refl

module _ (l : Ledger) (b : ℕ) (bad : Bool) (x : Lengthens l.line b bad) where
  -- behind an inner octet it does what it does before it, and then comes the octet
  behind_octet : (d : Behind) → UserBehind d → step_by (heard l b bad) d ≡ record { answer = (step_by l d).answer; ledger = heard (step_by l d).ledger b bad }
  behind_octet (calls c cut) u =
      ap (λ (t : Told). record { answer = cut_to cut t.answer; ledger = t.ledger }) (octet_then_call l b bad c u x)
      ∙ ap (λ (m : Ledger). record { answer = (step_by l (calls c cut)).answer; ledger = m }) (sym (call_then_octet l b bad c u x))
  behind_octet nothing u = refl
  behind_octet no_cell u = refl

  -- an inner octet leaves the control part, and with it what is behind an entry
  octet_then_entry : (e : Entry) → of_user e ≡ true → step (heard l b bad) e ≡ record { answer = (step l e).answer; ledger = heard (step l e).ledger b bad }
  octet_then_entry e u =
      ap (λ (m : Ledger). step_by (heard l b bad) (behind m.control e)) (lengthens_heard l b bad x)
      ∙ behind_octet (behind l.control e) (user_behind l.control e u)

module _ (l : Ledger) (pre post : List Entry) (b : ℕ) (bad : Bool) (e : Entry) (u : of_user e ≡ true) where
  exchanged : Lengthens (after l pre).line b bad → PlacesChanged (answers l) pre post (call (octet b bad)) e
  unfolding behind
  exchanged x =
      let h = octet_then_entry (after l pre) b bad x e u in
      neighbours_change (λ k d. (step k d).answer) (λ k d. (step k d).ledger) l pre post (call (octet b bad)) e refl refl
      (ap (λ (t : Told). t.answer) h) (ap (λ (t : Told). t.ledger) h)

  pub inner_first : Inner (after l pre) b bad → PlacesChanged (answers l) pre post (call (octet b bad)) e
  inner_first i = exchanged (inner_lengthens (after l pre) b bad i)

  pub inner_second : Inner (after l (pre ++ e ∷ [])) b bad → PlacesChanged (answers l) pre post (call (octet b bad)) e
  inner_second i =
      let m = after l pre in
      exchanged
      (rw (line_stays m (behind m.control e) (user_behind m.control e u)) at
      (inner_lengthens (step m e).ledger b bad (rw (left_append (λ k d. (step k d).ledger) l pre (e ∷ [])) at i)))
