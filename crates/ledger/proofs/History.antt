-- The outputs read are those of the newest telegram accepted before the latest take, or zeros (specs/History.antt).
use Rattle.std.specs.Prelude.{Ok}
use Prim.Native.Nat.{ℕ, ◌<◌}
use native.Mathlib.Omega.{arith}
use mathlib.Core.Path.{◌≡◌, refl, sym, ap, ◌∙◌}
use mathlib.Core.Bool.{Bool, true, false, cond, not, ◌&&◌}
use mathlib.Core.List.{List, [], ◌∷◌, ◌++◌}
use lib.ListN.{get_or}
use lib.Dec.{eqb, ltb}
use borrow.Author.Tests.{le-leb, lt-ltb}
use Rattle.state.specs.declared.setup.Setup.{Setup}
use Rattle.rules.specs.Control.{bit}
use Rattle.rules.specs.Modes.{commands_sync}
use Rattle.rules.specs.declared.outcome.OutputsDeed.{OutputsDeed}
use Rattle.rules.specs.declared.outcome.OutputsDeed.TheVariants.{Keep, Publish, HoldBack, Release, Zeros}
use Rattle.ledger.specs.Lists.{some, Outputs, published, published_zeros, took_new, written_input, written_diagnosis, with_inputs, with_diagnoses}
use Rattle.ledger.specs.Lists as lists
use Rattle.telegram.specs.declared.reader.Status.{Status}
use Rattle.telegram.specs.declared.reader.Status.TheVariants.{Fresh, Inside, Complete, Broken}
use Rattle.telegram.specs.Telegram.{payload_of}
use Rattle.telegram.specs.Reading.{run, reader_after, status}
use Rattle.rules.specs.declared.outcome.Outcome.{Outcome}
use Rattle.rules.specs.Line.{clear_on, clear_noted, ticked}
use Rattle.rules.specs.User.{judged_parameters, judged_configuration}
use Rattle.ledger.specs.Ledger.{Ledger, with_line, begun, busy, fresh}
use Rattle.ledger.specs.Outcome.{on_outputs, carried, settle}
use Rattle.ledger.specs.Bus.{telegram_on, request_by, outcome_of, answered, completed, broken_off, lengthened, beginning, send_left, silenced, heard_as, heard, paused, after_send, elapsed, gapped}
use Rattle.ledger.specs.User.{Told, told, take_outputs, read_octet, hand_over, acknowledge_events, leave_master}
use Rattle.rules.specs.Call.{Call, octet, gap, send, tick, take, read, write, hand_over_call, new_diagnosis_call, judge_parameters_call, judge_configuration_call, events, acknowledge, pending, leave}
use Rattle.ledger.specs.Calls.{step, answers, after}
use Rattle.ledger.proofs.Runs.{answers_append}
use Rattle.ledger.proofs.Settling.{settle_outputs}
use Rattle.ledger.proofs.Kept.{step_kept, after_kept}
use Rattle.ledger.proofs.ByCases.{take_cases, read_cases, write_cases, diagnosis_cases, parameters_cases, configuration_cases}
use Rattle.ledger.specs.History.{Deed, accepted, withheld, released, emptied, zeroed, outputs_taken, newest_withheld, newest, readable, holds_back, deeds_by, clears, heard_deeds, deeds_of, history, made, DeedsMake, OutputsRead, OutputsReadable, WithheldTold, ClearLast, news_of, TakesTold}

-- ---------------------------------------------------------------------------------------------------
-- The outputs as the deeds make them, the newest deed first.

made_append : (n : ℕ) (g h : List Deed) (o : Outputs) → made n (g ++ h) o ≡ made n g (made n h o)
made_append n [] h o = refl
made_append n (accepted ds ∷ g) h o = ap (λ (q : Outputs). published q ds) (made_append n g h o)
made_append n (withheld ds ∷ g) h o = ap (λ (q : Outputs). lists.held_back q ds) (made_append n g h o)
made_append n (released ∷ g) h o = ap lists.released (made_append n g h o)
made_append n (emptied ∷ g) h o = ap lists.emptied (made_append n g h o)
made_append n (zeroed ∷ g) h o = ap (λ (q : Outputs). published_zeros q n) (made_append n g h o)
made_append n (outputs_taken ∷ g) h o = ap took_new (made_append n g h o)

-- as the ledger makes them by an outcome
made_one : (n : ℕ) (d : OutputsDeed) (ds : List ℕ) (o : Outputs) → made n (deeds_by d ds) o ≡ on_outputs d o n ds
made_one n Keep ds o = refl
made_one n Publish ds o = refl
made_one n HoldBack ds o = refl
made_one n Release ds o = refl
made_one n Zeros ds o = refl

-- made from zeros, what is held is readable, what is next or, with nothing new, held is the newest, and what is held back is told
record Shows (n : ℕ) (o : Outputs) (h : List Deed) : Type 0 where
  holds : o.held ≡ readable n h
  brings : cond o.fresh o.next o.held ≡ newest n h
  keeps : o.back ≡ newest_withheld h
  tells : cond (not o.fresh) 0 (cond o.zeros 2 1) ≡ news_of h

made_shows : (n : ℕ) (h : List Deed) (o : Outputs) → Shows n o [] → Shows n (made n h o) h
made_shows n [] o s = s
made_shows n (accepted ds ∷ h) o s =
    let w = made_shows n h o s in
    record { holds = w.holds; brings = refl; keeps = w.keeps; tells = refl }
made_shows n (withheld ds ∷ h) o s =
    let w = made_shows n h o s in
    record { holds = w.holds; brings = w.brings; keeps = refl; tells = w.tells }
made_shows n (released ∷ h) o s =
    let w = made_shows n h o s in
    record { holds = w.holds; brings = w.keeps; keeps = refl; tells = refl }
made_shows n (emptied ∷ h) o s =
    let w = made_shows n h o s in
    record { holds = w.holds; brings = w.brings; keeps = refl; tells = w.tells }
made_shows n (zeroed ∷ h) o s =
    let w = made_shows n h o s in
    record { holds = w.holds; brings = refl; keeps = w.keeps; tells = refl }
made_shows n (outputs_taken ∷ h) o s = took_shows (made n h o) h (made_shows n h o s)
  where
    took_shows : (q : Outputs) (h : List Deed) → Shows n q h → Shows n (took_new q) (outputs_taken ∷ h)
    took_shows q h w = go q.fresh refl
      where
        go : (t : Bool) → q.fresh ≡ t → Shows n (cond t (lists.taken_outputs q) q) (outputs_taken ∷ h)
        go true e = let b = sym (ap (λ (u : Bool). cond u q.next q.held) e) ∙ w.brings in record { holds = b; brings = b; keeps = w.keeps; tells = refl }
        go false e =
            let b = sym (ap (λ (u : Bool). cond u q.next q.held) e) ∙ w.brings in
            record { holds = b; brings = w.brings; keeps = w.keeps; tells = ap (λ (u : Bool). cond (not u) 0 (cond q.zeros 2 1)) e }

-- whether something is held back, too
made_withheld : (n : ℕ) (h : List Deed) (o : Outputs) → o.withheld ≡ false → (made n h o).withheld ≡ holds_back h
made_withheld n [] o e = e
made_withheld n (accepted ds ∷ h) o e = made_withheld n h o e
made_withheld n (withheld ds ∷ h) o e = refl
made_withheld n (released ∷ h) o e = refl
made_withheld n (emptied ∷ h) o e = refl
made_withheld n (zeroed ∷ h) o e = made_withheld n h o e
made_withheld n (outputs_taken ∷ h) o e = go (made n h o).fresh ∙ made_withheld n h o e
  where
    go : (t : Bool) → (cond t (lists.taken_outputs (made n h o)) (made n h o)).withheld ≡ (made n h o).withheld
    go true = refl
    go false = refl

-- ---------------------------------------------------------------------------------------------------
-- Each call makes of the outputs what its deeds say.

-- where the line settles behind a change that left the outputs to a deed
settles : (m : Ledger) (h : List Deed) (o : Outputs) → m.buffers.outputs ≡ made m.setup.output_len h o
    → (settle m).buffers.outputs ≡ made m.setup.output_len (clears m ++ h) o
settles m h o e =
    let n = m.setup.output_len in
    settle_outputs m
    ∙ ap (λ (q : Outputs). on_outputs (clear_noted (busy m) m.control).outputs q n []) e
    ∙ sym (made_append n (clears m) h o ∙ made_one n (clear_noted (busy m) m.control).outputs [] (made n h o))

settles_one : (m : Ledger) → (settle m).buffers.outputs ≡ made m.setup.output_len (clears m) m.buffers.outputs
settles_one m = settle_outputs m ∙ sym (made_one m.setup.output_len (clear_noted (busy m) m.control).outputs [] m.buffers.outputs)

-- a beginning leaves the line busy
begins : (l : Ledger) (b : ℕ) → (settle (with_line l (beginning b))).buffers.outputs ≡ l.buffers.outputs
begins l b = settle_outputs (with_line l (beginning b)) ∙ go l.control.noted refl
  where
    go : (t : Bool) → l.control.noted ≡ t
        → on_outputs (clear_noted true l.control).outputs l.buffers.outputs l.setup.output_len [] ≡ l.buffers.outputs
    go true e = rw e
    go false e = rw e

Made : Ledger → List Deed → Ledger → Type 0
Made l h m = m.buffers.outputs ≡ made l.setup.output_len h l.buffers.outputs

heard_made : (l : Ledger) (b : ℕ) (s : Status) → Made l (heard_deeds s l b) (heard_as s l b)
unfolding Made answered
heard_made l b Fresh = refl
heard_made l b Inside = go (begun l)
  where
    go : (t : Bool) → (cond t (with_line l (lengthened l.line b)) (settle (with_line l (beginning b)))).buffers.outputs ≡ l.buffers.outputs
    go true = refl
    go false = begins l b
heard_made l b Complete =
    let t = telegram_on (l.line.telegram ++ b ∷ []) in
    let o = outcome_of l (request_by t) (payload_of t) in
    settles (completed l t) (deeds_by o.outputs (payload_of t)) l.buffers.outputs
    (sym (made_one l.setup.output_len o.outputs (payload_of t) l.buffers.outputs))
heard_made l b Broken = settles_one (with_line l (broken_off l.line))

step_made : (l : Ledger) (c : Call) → Made l (deeds_of l c) (step l c).ledger
unfolding Made heard paused after_send elapsed hand_over acknowledge_events leave_master
step_made l (octet b bad) = go l.line.ignored
  where
    s : Status
    s = status (reader_after (run l.line.telegram) b bad)

    go : (t : Bool) → Made l (cond t [] (heard_deeds s l b)) (cond t l (heard_as s l b))
    go true = refl
    go false = heard_made l b s
step_made l gap = settles_one (with_line l (gapped l.line))
step_made l send = settles_one (with_line l (send_left l.line l.line.reply))
step_made l tick = go l.control.noted
  where
    o : Outcome
    o = ticked (busy l) l.control

    go : (t : Bool) → Made l (cond t (clears (with_line l (silenced l))) (deeds_by o.outputs [])) (cond t (settle (with_line l (silenced l))) (carried l o []))
    go true = settles_one (with_line l (silenced l))
    go false = sym (made_one l.setup.output_len o.outputs [] l.buffers.outputs)
step_made l take = take_cases (λ t. Made l (outputs_taken ∷ []) t.ledger) l (λ e. rw e) (λ e. rw e)
step_made l (read kind index) = read_cases (λ t. Made l [] t.ledger) l kind index (λ _. refl) refl
step_made l (write kind index x) = write_cases (λ t. Made l [] t.ledger) l kind index x (λ _. refl) (wrote (eqb kind 4))
  where
    wrote : (t : Bool)
        → (cond t (with_inputs l.buffers (written_input l.buffers.inputs index x)) (with_diagnoses l.buffers (written_diagnosis l.buffers.diagnosis index x))).outputs
        ≡ l.buffers.outputs
    wrote true = refl
    wrote false = refl
step_made l hand_over_call = refl
step_made l (new_diagnosis_call count flags) =
    diagnosis_cases (λ t. Made l [] t.ledger) l count flags (λ _. refl) (λ _. refl) (λ _. refl)
step_made l (judge_parameters_call j) =
    parameters_cases (λ t. Made l (deeds_of l (judge_parameters_call j)) t.ledger) l j (λ e _. rw e)
    (λ e. rw e (sym (made_one l.setup.output_len (judged_parameters l.control (some l.buffers.parameters.waiting) (eqb j 1)).outputs [] l.buffers.outputs)))
step_made l (judge_configuration_call j) =
    configuration_cases (λ t. Made l (deeds_of l (judge_configuration_call j)) t.ledger) l j (λ e _. rw e)
    (λ e. rw e (sym (made_one l.setup.output_len (judged_configuration l.control (some l.buffers.configuration.waiting) (eqb j 1)).outputs [] l.buffers.outputs)))
step_made l events = refl
step_made l (acknowledge mask) = refl
step_made l pending = refl
step_made l leave = sym (made_one l.setup.output_len (clear_on (busy l) l.control).outputs [] l.buffers.outputs)

-- ---------------------------------------------------------------------------------------------------
-- So do whole lists.

after_made : (l : Ledger) (cs : List Call) → Made l (history l cs) (after l cs)
unfolding Made
after_made l [] = refl
after_made l (c ∷ cs) =
    let m = (step l c).ledger in
    let n = l.setup.output_len in
    after_made m cs
    ∙ ap (λ (s : Setup). made s.output_len (history m cs) m.buffers.outputs) (step_kept l c).0
    ∙ ap (made n (history m cs)) (step_made l c)
    ∙ sym (made_append n (history m cs) (deeds_of l c) l.buffers.outputs)

pub deeds_make : DeedsMake
unfolding Made
deeds_make = step_made

module _ (s : Setup) (slice : List ℕ) (cs : List Call) where
  held_readable : (after (fresh s slice) cs).buffers.outputs.held ≡ readable s.output_len (history (fresh s slice) cs)
  unfolding Made
  held_readable =
      let l = fresh s slice in
      ap (λ (o : Outputs). o.held) (after_made l cs)
      ∙ (made_shows s.output_len (history l cs) l.buffers.outputs (record { holds = refl; brings = refl; keeps = refl; tells = refl })).holds

  in_range_lem : (index : ℕ) → index < s.output_len → ltb index (after (fresh s slice) cs).setup.output_len ≡ true
  in_range_lem index i =
      ap (λ (t : Setup). ltb index t.output_len) (after_kept (fresh s slice) cs).0 ∙ lt-ltb index s.output_len i

  -- a read of the outputs after the calls
  pub output_told : (index : ℕ) → index < s.output_len
      → step (after (fresh s slice) cs) (read 1 index)
      ≡ told (get_or (readable s.output_len (history (fresh s slice) cs)) index 0) (after (fresh s slice) cs)
  unfolding read_octet
  output_told index i = rw (in_range_lem index i, le-leb 0 index (omega arith), held_readable)

  read_so : (index : ℕ) (rest : List Call) → OutputsRead s slice cs index rest
  read_so index rest = record {
    answers_are = λ i.
        answers_append (fresh s slice) cs (read 1 index ∷ rest)
        ∙ ap (λ (t : Told). answers (fresh s slice) cs ++ t.answer ∷ answers t.ledger rest) (output_told index i);
  }

pub outputs_read : OutputsReadable
outputs_read = read_so

-- the mark that something is held back is what the deeds tell
pub withheld_told : WithheldTold
unfolding Made
withheld_told s slice cs =
    let l = fresh s slice in
    ap (λ (o : Outputs). o.withheld) (after_made l cs) ∙ made_withheld s.output_len (history l cs) l.buffers.outputs refl

-- clear comes last, by what octet 0 has set
pub clear_last : ClearLast
clear_last m first o n ds = go (bit first 1) (commands_sync m first && o.withheld)
  where
    go : (c t : Bool) → on_outputs (cond c Zeros (cond t Release Keep)) o n ds
        ≡ cond c (on_outputs Zeros (on_outputs (cond t Release Keep) o n ds) n ds) (on_outputs (cond t Release Keep) o n ds)
    go true true = refl
    go true false = refl
    go false t = refl

-- the answer of one call or another
either_told : (t : Bool) (a b : ℕ) (l m : Ledger) → (cond t (told a l) (told b m)).answer ≡ Ok (cond t a b)
either_told true a b l m = refl
either_told false a b l m = refl

-- a take tells what is new by the deeds
pub takes_told : TakesTold
unfolding Made take_outputs
takes_told s slice cs =
    let l = fresh s slice in
    let o = (after l cs).buffers.outputs in
    either_told (not o.fresh) 0 (cond o.zeros 2 1) _ _
    ∙ ap (λ (q : Outputs). Ok (cond (not q.fresh) 0 (cond q.zeros 2 1))) (after_made l cs)
    ∙ ap Ok (made_shows s.output_len (history l cs) l.buffers.outputs (record { holds = refl; brings = refl; keeps = refl; tells = refl })).tells
