-- Demand 3 over lists with accesses (specs/Demand3.antt).
use Rattle.std.specs.Prelude.{Ok}
use Prim.Native.Nat.{ℕ, ◌<◌}
use mathlib.Core.Path.{◌≡◌, sym, ap, ◌∙◌}
use mathlib.Core.List.{List, [], ◌∷◌, ◌++◌}
use lib.ListN.{length, get_or}
use Rattle.state.specs.declared.setup.Setup.{Setup}
use Rattle.rules.specs.Call.{take, read}
use Rattle.rules.proofs.Runs.{left_append, answers_append}
use Rattle.ledger.specs.Ledger.{Ledger, fresh}
use Rattle.ledger.specs.User.{Told, told}
use Rattle.ledger.specs.Calls as calls-on-ledger
use Rattle.ledger.specs.History.{readable, news_of, history}
use Rattle.ledger.proofs.Exchange.{places_alike}
use Rattle.ledger.proofs.History.{output_told, takes_told}
use Rattle.steps.specs.Calls as steps
use Rattle.agreement.specs.Agreement.{memory_of}
use Rattle.agreement.proofs.Agreement as core
use Rattle.agreement.proofs.Agreement.{Ready, lists_agree, lists_ready, begins_ready}
use Rattle.window.specs.Entries.{Entry, call}
use Rattle.window.specs.Table.{behind}
use Rattle.window.specs.Calls.{entered, answers, memory_after}
use Rattle.window.specs.Translation as ledger
use Rattle.window.specs.Translation.{step, after, behind_each, translated, answers_by}
use Rattle.window.specs.Demand3.{Agreement, Demand3}
use Rattle.window.proofs.EntryAlike.{entry_alike}
use Rattle.window.proofs.Translated.{ledger_answers, ledger_left, memory_left}
use Rattle.window.proofs.Places.{inner_first, inner_second}

agrees_on : (es : List Entry) (m : List ℕ) (l : Ledger) → Ready m l → answers m es ≡ ledger.answers l es
agrees_on = lists_agree entered step entry_alike

ready_after : (es : List Entry) (m : List ℕ) (l : Ledger) → Ready m l → Ready (memory_after m es) (after l es)
ready_after = lists_ready entered step entry_alike

-- a read of the outputs after a list of entries
module _ (s : Setup) (slice : List ℕ) (es : List Entry) (index : ℕ) (i : index < s.output_len) where
  l : Ledger
  l = fresh s slice

  octet_read : ℕ
  octet_read = get_or (readable s.output_len (history (fresh s slice) (translated (fresh s slice) es))) index 0

  read_told : step (after l es) (call (read 1 index)) ≡ told octet_read (after l es)
  unfolding behind l octet_read
  read_told =
      ap (λ (a : Ledger). calls-on-ledger.step a (read 1 index)) (ledger_left es l)
      ∙ output_told s slice (translated l es) index i
      ∙ ap (told octet_read) (sym (ledger_left es l))

  pub read_answers : (rest : List Entry)
      → ledger.answers (fresh s slice) (es ++ call (read 1 index) ∷ rest)
      ≡ ledger.answers (fresh s slice) es
      ++ Ok (get_or (readable s.output_len (history (fresh s slice) (translated (fresh s slice) es))) index 0)
      ∷ ledger.answers (after (fresh s slice) es) rest
  unfolding l octet_read
  read_answers rest =
      answers_append (λ k e. (step k e).answer) (λ k e. (step k e).ledger) l es (call (read 1 index) ∷ rest)
      ∙ ap (λ (t : Told). ledger.answers l es ++ t.answer ∷ ledger.answers t.ledger rest) read_told

-- a take after a list of entries
take_told : (s : Setup) (slice : List ℕ) (es : List Entry)
    → (step (after (fresh s slice) es) (call take)).answer ≡ Ok (news_of (history (fresh s slice) (translated (fresh s slice) es)))
unfolding behind
take_told s slice es =
    ap (λ (a : Ledger). (calls-on-ledger.step a take).answer) (ledger_left es (fresh s slice)) ∙ takes_told s slice (translated (fresh s slice) es)

module _ (m : List ℕ) (s : Setup) (slice lengths : List ℕ) (long : s.get_cfg_len ≡ length slice) (zero : (steps.started m s slice lengths).answer ≡ Ok 0) where
  ready : Ready (memory_of m s slice lengths) (fresh s slice)
  ready = begins_ready m s slice lengths long zero

  agree : (es : List Entry) → answers (memory_of m s slice lengths) es ≡ ledger.answers (fresh s slice) es
  agree es = agrees_on es (memory_of m s slice lengths) (fresh s slice) ready

  later : (es rest : List Entry) → answers (memory_after (memory_of m s slice lengths) es) rest ≡ ledger.answers (after (fresh s slice) es) rest
  later es rest = agrees_on rest (memory_after (memory_of m s slice lengths) es) (after (fresh s slice) es) (ready_after es (memory_of m s slice lengths) (fresh s slice) ready)

  agreed : Agreement m s slice lengths
  agreed = record {
    agree = agree;
    answers_behind = λ es.
        agree es ∙ ledger_answers es (fresh s slice)
        ∙ ap (answers_by (behind_each (fresh s slice) es)) (sym ((core.demand_3 m s slice lengths long zero).agree (translated (fresh s slice) es)));
    ledger_behind = λ es. ledger_left es (fresh s slice);
    memory_behind = λ es. memory_left es (memory_of m s slice lengths) (fresh s slice) ready;
    octet_then_call = λ pre post b bad e u i. places_alike agree (inner_first (fresh s slice) pre post b bad e u i);
    call_then_octet = λ pre post b bad e u i. places_alike agree (inner_second (fresh s slice) pre post b bad e u i);
    outputs = λ es index rest i.
        let x = Ok (get_or (readable s.output_len (history (fresh s slice) (translated (fresh s slice) es))) index 0) in
        agree (es ++ call (read 1 index) ∷ rest)
        ∙ read_answers s slice es index i rest
        ∙ (λ j. sym (agree es) j ++ x ∷ sym (later es rest) j);
    takes = λ es rest.
        let a = memory_of m s slice lengths in
        let told = (entry_alike (memory_after a es) (after (fresh s slice) es) (ready_after es a (fresh s slice) ready) (call take)).answers ∙ take_told s slice es in
        answers_append (λ n e. (entered n e).answer) (λ n e. (entered n e).memory) a es (call take ∷ rest)
        ∙ (λ j. answers a es ++ told j ∷ answers (sym (left_append (λ n e. (entered n e).memory) a es (call take ∷ [])) j) rest);
  }

pub demand_3 : Demand3
demand_3 = agreed
