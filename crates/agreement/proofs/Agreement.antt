-- Demand 3: for every list of calls from a freshly started station the answers over the memory are the ledger's.
use Rattle.std.specs.Prelude.{Ok}
use Prim.Native.Nat.{ℕ}
use mathlib.Core.Path.{◌≡◌, refl, sym, ap, subst, ◌∙◌}
use mathlib.Core.Bool.{true}
use mathlib.Core.List.{List, [], ◌∷◌, ◌++◌}
use lib.ListN.{length, get_or}
use Rattle.state.specs.declared.setup.Setup.{Setup}
use Rattle.state.specs.declared.state.State.{State}
use Rattle.state.specs.Answer.{Called}
use Rattle.state.specs.Start.{initial_state, laid_out}
use Rattle.state.specs.Unpack.{unpacked}
use Rattle.state.proofs.Damage.{holds_unpacked}
use Rattle.rules.specs.Runs.{answers_to, left_by}
use Rattle.rules.proofs.Runs.{left_append, answers_append, answers_alike, left_alike}
use Rattle.steps.specs.Step.{step_over}
use Rattle.steps.specs.Calls.{started, well_memory, called, answers, memory_after}
use Rattle.state.proofs.LaidOut.{laid_holds, laid_length}
use Rattle.ledger.specs.Ledger.{Ledger, fresh}
use Rattle.channels.specs.Setting.{lengths_ok}
use Rattle.channels.proofs.Exact.{lengths_hold}
use Rattle.ledger.specs.User.{Told}
use Rattle.ledger.specs.Calls as ledger
use Rattle.rules.specs.Call.{Call, take, read}
use Rattle.ledger.specs.History.{readable, history}
use Rattle.ledger.proofs.Exchange.{exchange, places_alike}
use Rattle.ledger.proofs.History.{outputs_read, takes_told}
use Rattle.agreement.specs.Agreement.{memory_of, Agreement, Demand3}
use Rattle.agreement.proofs.StartAgrees.{start_related}
use Rattle.steps.specs.Demand1.{LengthIn, Begins}
use Rattle.steps.proofs.Guarded.{holds_well, called_steps, started_begins, begins_started}
use Rattle.agreement.proofs.StepAgrees.{On, does}

-- a memory of the right length that holds a state, which the ledger l is about
pub record Ready (m : List ℕ) (l : Ledger) : Type 0 where
  pub length_in : LengthIn (length m)
  pub state : State
  pub on : On m state l

-- what is answered and left, on the memory and on the ledger alike
pub record Alike (x : Called) (t : Told) : Type 0 where
  pub answers : x.answer ≡ t.answer
  pub again : Ready x.memory t.ledger

module _ (m : List ℕ) (l : Ledger) (r : Ready m l) where
  -- such a memory passes the check
  pub ready_well : well_memory m ≡ true
  ready_well = holds_well m r.state r.length_in r.on.holds

  -- and has the ledger's control part
  pub ready_control : (unpacked m).control ≡ l.control
  ready_control = ap (λ (s : State). s.control) (holds_unpacked m r.state r.on.holds) ∙ r.on.related.agrees.control

  -- a step over it is the ledger's
  pub step_alike : (c : Call) → Alike (step_over m c) (ledger.step l c)
  step_alike c =
      let d = does m r.state l r.on c in
      subst (λ (x : Called). Alike x (ledger.step l c)) (sym d.tells)
      (record { answers = refl; again = record { length_in = rw d.same_length r.length_in; state = d.state_after; on = d.again } })

  -- so is a call
  pub call_alike : (c : Call) → Alike (called m c) (ledger.step l c)
  call_alike c = subst (λ (x : Called). Alike x (ledger.step l c)) (sym (called_steps m c ready_well)) (step_alike c)

-- lists of any kind of call that is alike on the memory and on the ledger
module _ {E : Type 0} (on_memory_lem : List ℕ → E → Called) (on-ledger : Ledger → E → Told)
    (alike : (m : List ℕ) (l : Ledger) → Ready m l → (e : E) → Alike (on_memory_lem m e) (on-ledger l e)) where
  -- they are answered alike
  pub lists_agree : (es : List E) (m : List ℕ) (l : Ledger) → Ready m l
      → answers_to (λ n e. (on_memory_lem n e).answer) (λ n e. (on_memory_lem n e).memory) m es
      ≡ answers_to (λ k e. (on-ledger k e).answer) (λ k e. (on-ledger k e).ledger) l es
  lists_agree = answers_alike _ _ _ _ Ready (λ m l r e. (alike m l r e).answers) (λ m l r e. (alike m l r e).again)

  -- and after them the memory holds a state that the ledger is about
  pub lists_ready : (es : List E) (m : List ℕ) (l : Ledger) → Ready m l
      → Ready (left_by (λ n e. (on_memory_lem n e).memory) m es) (left_by (λ k e. (on-ledger k e).ledger) l es)
  lists_ready =
      left_alike (λ m e. (on_memory_lem m e).answer) (λ m e. (on_memory_lem m e).memory) (λ l e. (on-ledger l e).answer) (λ l e. (on-ledger l e).ledger)
      Ready (λ m l r e. (alike m l r e).answers) (λ m l r e. (alike m l r e).again)

-- lists of the station's calls
agrees_on : (cs : List Call) (m : List ℕ) (l : Ledger) → Ready m l → answers m cs ≡ ledger.answers l cs
agrees_on = lists_agree called ledger.step call_alike

pub ready_after : (cs : List Call) (m : List ℕ) (l : Ledger) → Ready m l → Ready (memory_after m cs) (ledger.after l cs)
ready_after = lists_ready called ledger.step call_alike

module _ (m : List ℕ) (s : Setup) (slice lengths : List ℕ) (long : s.get_cfg_len ≡ length slice) (zero : (started m s slice lengths).answer ≡ Ok 0) where
  begins : Begins m s lengths
  begins = started_begins m s slice lengths zero

  lengths_pass : lengths_ok lengths ≡ true
  lengths_pass = lengths_hold lengths begins.channel_lengths.octets begins.channel_lengths.pairs

  memory_is : memory_of m s slice lengths ≡ laid_out m s slice lengths
  memory_is = ap (λ (c : Called). c.memory) (begins_started m s slice lengths begins)

  -- a freshly started station
  pub begins_ready : Ready (memory_of m s slice lengths) (fresh s slice)
  begins_ready =
      let b = begins in
      subst (λ (x : List ℕ). Ready x (fresh s slice)) (sym memory_is)
      (record {
        length_in = rw (laid_length m s slice lengths long b.room) b.length_in;
        state = initial_state s;
        on = record {
          holds = laid_holds m s slice lengths long b.room b.ranged lengths_pass;
          related = start_related m s slice lengths long b.room b.ranged lengths_pass;
        };
      })

  agree : (cs : List Call) → answers (memory_of m s slice lengths) cs ≡ ledger.answers (fresh s slice) cs
  agree cs = agrees_on cs (memory_of m s slice lengths) (fresh s slice) begins_ready

  -- after some calls the others answer as the ledger does after them
  pub later : (cs rest : List Call) → answers (memory_after (memory_of m s slice lengths) cs) rest ≡ ledger.answers (ledger.after (fresh s slice) cs) rest
  later cs rest =
      agrees_on rest (memory_after (memory_of m s slice lengths) cs) (ledger.after (fresh s slice) cs)
      (ready_after cs (memory_of m s slice lengths) (fresh s slice) begins_ready)

  agreed : Agreement m s slice lengths
  agreed = record {
    agree = agree;
    octet_then_call = λ pre post b bad c u i. places_alike agree ((exchange (fresh s slice) pre post b bad c).inner_first u i);
    call_then_octet = λ pre post b bad c u i. places_alike agree ((exchange (fresh s slice) pre post b bad c).inner_second u i);
    outputs = λ cs index rest h.
        let x = Ok (get_or (readable s.output_len (history (fresh s slice) cs)) index 0) in
        agree (cs ++ read 1 index ∷ rest)
        ∙ (outputs_read s slice cs index rest).answers_are h
        ∙ (λ i. sym (agree cs) i ++ x ∷ sym (later cs rest) i);
    takes = λ cs rest.
        let a = memory_of m s slice lengths in
        let told = (call_alike (memory_after a cs) (ledger.after (fresh s slice) cs) (ready_after cs a (fresh s slice) begins_ready) take).answers ∙ takes_told s slice cs in
        answers_append (λ n c. (called n c).answer) (λ n c. (called n c).memory) a cs (take ∷ rest)
        ∙ (λ i. answers a cs ++ told i ∷ answers (sym (left_append (λ n c. (called n c).memory) a cs (take ∷ [])) i) rest);
  }

pub demand_3 : Demand3
demand_3 = agreed
