-- Replies are octets (specs/Octets.antt): every list of a ledger that is fed octets has octets alone.
use Rattle.std.specs.Prelude.{Ok}
use Prim.Native.Nat.{ℕ, ◌<◌}
use native.Mathlib.Omega.{arith}
use mathlib.Core.Path.{◌≡◌, refl, sym, ap, subst, ◌∙◌}
use mathlib.Core.Bool.{Bool, true, false}
use mathlib.Core.List.{List, [], ◌∷◌, ◌++◌}
use lib.Dec.{eqb}
use lib.ListN.{get_or}
use Rattle.telegram.specs.declared.reader.Status.{Status}
use Rattle.telegram.specs.declared.reader.Status.TheVariants.{Fresh, Inside, Complete, Broken}
use Rattle.telegram.specs.Telegram.{Telegram, payload_of, Octets}
use Rattle.telegram.specs.Reading.{run, reader_after, status}
use Rattle.telegram.proofs.Run.{broken_complete, run_snoc}
use Rattle.telegram.proofs.Framing.{framing}
use Rattle.telegram.proofs.OctetLists.{both_octets, zero_octets, octet_at_lem, payload_octets}
use Rattle.state.specs.declared.setup.Setup.{Setup}
use Rattle.state.proofs.Choice.{either}
use Rattle.rules.specs.Requests.{master_of}
use Rattle.rules.specs.Diagnosis.{delaying}
use Rattle.rules.specs.Line.{clear_on, ticked}
use Rattle.rules.specs.User.{judged_parameters, judged_configuration}
use Rattle.rules.specs.Call.{Call, octet, gap, send, tick, take, read, write, hand_over_call, new_diagnosis_call, judge_parameters_call, judge_configuration_call, events, acknowledge, pending, leave}
use Rattle.rules.proofs.Bounded.{Factors, clear_bounded, ticked_bounded, parameters_bounded, configuration_bounded, telegram_bounded}
use Rattle.ledger.specs.Lists.{some, taken_outputs, handed_over, Buffers, with_outputs, with_inputs}
use Rattle.ledger.specs.Ledger.{Line, Ledger, begun, busy, occupied, fresh}
use Rattle.ledger.specs.Outcome.{carried}
use Rattle.ledger.specs.Bus.{telegram_on, request_by, data_by, outcome_of, answered, completed, broken_off, lengthened, beginning, send_told, send_left, silenced, heard_as, heard, paused, after_send, elapsed, gapped}
use Rattle.ledger.specs.User.{octets_of_kind, written_octet, hand_over, acknowledge_events, leave_master}
use Rattle.ledger.specs.Calls.{step, after}
use Rattle.ledger.specs.ReadBack.{StartTakes, Fit}
use Rattle.ledger.specs.Octets.{OctetsIn, AllOctets, AnswersOctets, SentOctets}
use Rattle.ledger.proofs.ByCases.{take_cases, read_cases, write_cases, diagnosis_cases, parameters_cases, configuration_cases}
use Rattle.ledger.proofs.Fit.{master_low, drawn_valid, step_fit, replies_read}
use Rattle.ledger.proofs.OctetReplies.{ListOctets, reply_octets_lem}
use Rattle.ledger.proofs.OctetsCarried.{Octal, on_line, on_lists, on_inputs_lem, taken_octal, written_octal, carried_octal, changed_octal, settle_octal}

-- ---------------------------------------------------------------------------------------------------
-- Each call.

-- octets that are complete with the last one are a telegram with octets for data
heard_octets : (xs : List ℕ) (b : ℕ) (bad : Bool) → Octets (xs ++ b ∷ []) → status (reader_after (run xs) b bad) ≡ Complete
    → Octets (payload_of (telegram_on (xs ++ b ∷ [])))
heard_octets xs b true o e = absurd (broken_complete (sym ((framing xs).flagged b []) ∙ e))
heard_octets xs b false o e =
    let ys = xs ++ b ∷ [] in
    let w = (framing ys).whole.0 (ap status (run_snoc xs b) ∙ e) in
    subst (λ (t : Telegram). Octets (payload_of t)) (sym ((framing ys).told w.0 w.1 w.2)) (payload_octets w.0 (subst Octets (sym w.2) o))

-- so are the factors of a Set_Prm
factor_octets : (ds : List ℕ) → Octets ds → Factors (data_by ds).prm
factor_octets ds q = record { first = octet_at_lem ds q 1; second = octet_at_lem ds q 2 }

-- a complete telegram with octets for data
completed_octal : {l : Ledger} (t : Telegram) → Fit l → Octal l → Octets (payload_of t) → Octal (completed l t)
unfolding answered
completed_octal {l} t k f q =
    let o = outcome_of l (request_by t) (payload_of t) in
    let g = carried_octal f o (payload_of t) q (telegram_bounded l.setup l.control (occupied l) (request_by t) (data_by (payload_of t)) (factor_octets (payload_of t) q) f.control) in
    on_line g (completed l t).line tt
    (reply_octets_lem l.setup l.slice o.control (carried l o (payload_of t)).buffers (master_of (request_by t)) (master_low (request_by t))
    k.start_takes.ranged.address f.ident g.control.0 f.slice g.lists o.drawn (drawn_valid k t))

-- an octet, by what the octets are with it
heard_octal : {l : Ledger} (b : ℕ) (bad : Bool) (s : Status) → b < 256 → status (reader_after (run l.line.telegram) b bad) ≡ s → Fit l → Octal l → Octal (heard_as s l b)
heard_octal b bad Fresh h e k f = f
heard_octal {l} b bad Inside h e k f =
    either Octal (begun l) (on_line f (lengthened l.line b) (both_octets l.line.telegram (b ∷ []) f.telegram (h, tt)) f.reply)
    (settle_octal (on_line f (beginning b) (h, tt) tt))
heard_octal {l} b bad Complete h e k f =
    settle_octal
    (completed_octal (telegram_on (l.line.telegram ++ b ∷ [])) k f
    (heard_octets l.line.telegram b bad (both_octets l.line.telegram (b ∷ []) f.telegram (h, tt)) e))
heard_octal {l} b bad Broken h e k f = settle_octal (on_line f (broken_off l.line) tt f.reply)

-- one octet of a reply sent
sent_octal : (n : Line) (xs : List ℕ) → n.reply ≡ xs → Octets n.telegram → Octets xs → Octets (send_left n xs).telegram × Octets (send_left n xs).reply
sent_octal n [] e x y = (x, rw e y)
sent_octal n (b ∷ xs) e x y = (x, y.1)

-- every call
step_octal : (l : Ledger) (c : Call) → OctetsIn c → Fit l → Octal l → Octal (step l c).ledger
unfolding heard paused after_send elapsed hand_over acknowledge_events leave_master delaying
step_octal l (octet b bad) h k f =
    either Octal l.line.ignored f (heard_octal b bad (status (reader_after (run l.line.telegram) b bad)) h refl k f)
step_octal l gap h k f =
    settle_octal (on_line f (gapped l.line) tt f.reply)
step_octal l send h k f =
    let w = sent_octal l.line l.line.reply refl f.telegram f.reply in
    settle_octal (on_line f (send_left l.line l.line.reply) w.0 w.1)
step_octal l tick h k f =
    either Octal l.control.noted (settle_octal (on_line f (silenced l) tt tt))
    (carried_octal f (ticked (busy l) l.control) [] tt (ticked_bounded l.control f.control (busy l)))
step_octal l take h k f =
    take_cases (λ t. Octal t.ledger) l (λ _. f)
    (λ _. on_lists f (with_outputs l.buffers (taken_outputs l.buffers.outputs)) l.control (taken_octal f) f.control)
step_octal l (read kind index) h k f = read_cases (λ t. Octal t.ledger) l kind index (λ _. f) f
step_octal l (write kind index x) h k f =
    write_cases (λ t. Octal t.ledger) l kind index x (λ _. f)
    (on_lists f (written_octet l.buffers kind index x) l.control (written_octal f kind index x h) f.control)
step_octal l hand_over_call h k f =
    on_lists f (with_inputs l.buffers (handed_over l.buffers.inputs)) l.control
    (on_inputs_lem f (handed_over l.buffers.inputs)
    (record { sending = f.lists.inputs.sending; next = f.lists.inputs.held; held = f.lists.inputs.next })) f.control
step_octal l (new_diagnosis_call count flags) h k f =
    diagnosis_cases (λ t. Octal t.ledger) l count flags (λ _. f)
    (λ _. on_lists f l.buffers (delaying l.control count flags) f.lists f.control) (λ _. changed_octal f count flags)
step_octal l (judge_parameters_call j) h k f =
    let waits = some l.buffers.parameters.waiting in
    parameters_cases (λ t. Octal t.ledger) l j (λ _ _. f)
    (λ _. carried_octal f (judged_parameters l.control waits (eqb j 1)) [] tt (parameters_bounded l.control f.control waits (eqb j 1)))
step_octal l (judge_configuration_call j) h k f =
    let waits = some l.buffers.configuration.waiting in
    configuration_cases (λ t. Octal t.ledger) l j (λ _ _. f)
    (λ _. carried_octal f (judged_configuration l.control waits (eqb j 1)) [] tt (configuration_bounded l.control f.control waits (eqb j 1)))
step_octal l events h k f = f
step_octal l (acknowledge mask) h k f = on_lists f l.buffers (step l (acknowledge mask)).ledger.control f.lists f.control
step_octal l pending h k f = f
step_octal l leave h k f = carried_octal f (clear_on (busy l) l.control) [] tt (clear_bounded l.control f.control (busy l))

-- ---------------------------------------------------------------------------------------------------
-- Every list.

-- after Start
fresh_octal : (s : Setup) (slice : List ℕ) → Octets slice → s.ident < 65536 → Octal (fresh s slice)
fresh_octal s slice x i = record {
  ident = i;
  slice = x;
  control = (omega arith, record { left = omega arith; most = omega arith });
  lists = record {
    outputs = record { held = zero_octets s.output_len; next = zero_octets s.output_len; back = tt };
    inputs = record { sending = zero_octets s.input_len; next = zero_octets s.input_len; held = zero_octets s.input_len };
    parameters = record { shown = tt; waiting = tt };
    configuration = record { shown = tt; waiting = tt };
    diagnosis = record { own = zero_octets s.diagnosis_len; user = zero_octets s.diagnosis_len };
  };
  telegram = tt;
  reply = tt;
}

-- after a list of calls
after_octal : (l : Ledger) (cs : List Call) → AllOctets cs → Fit l → Octal l → Octal (after l cs)
after_octal l [] h k f = f
after_octal l (c ∷ cs) h k f = after_octal (step l c).ledger cs h.1 (step_fit l c k) (step_octal l c h.0 k f)

-- 256 is no octet
told_none : (xs : List ℕ) → Octets xs → send_told xs ≡ 256 → xs ≡ []
told_none [] o e = refl
told_none (x ∷ xs) o e = absurd (omega arith)

-- the octets of each kind
kind_octets : (b : Buffers) (kind : ℕ) → ListOctets b → Octets (octets_of_kind b kind)
kind_octets b kind f =
    either Octets (eqb kind 1) f.outputs.held
    (either Octets (eqb kind 2) f.parameters.shown
    (either Octets (eqb kind 3) f.configuration.shown (either Octets (eqb kind 4) f.inputs.held f.diagnosis.user)))

-- what such a ledger answers
octal_answers : (l : Ledger) → Octal l → AnswersOctets l
octal_answers l f = record {
  left_are = f.reply;
  answers_none = (
    λ e. told_none l.line.reply f.reply (let m : send_told l.line.reply ≡ 256 = cc in m),
    λ e. ap (λ (xs : List ℕ). Ok (send_told xs)) e,
  );
  reads_octet = λ kind index n.
      read_cases (λ t. t.answer ≡ Ok n → n < 256) l kind index (λ r e. let z : ◌≡◌ {A = ℕ} 0 1 = cc in absurd (omega arith))
      (λ e. let m : get_or (octets_of_kind l.buffers kind) index 0 ≡ n = cc in rw (← m) (octet_at_lem (octets_of_kind l.buffers kind) (kind_octets l.buffers kind f.lists) index));
}

-- from Start on
pub always_octal : (s : Setup) (slice : List ℕ) (cs : List Call) → StartTakes s slice → Octets slice → s.ident < 65536 → AllOctets cs → Octal (after (fresh s slice) cs)
always_octal s slice cs a x i h = after_octal (fresh s slice) cs h (replies_read s slice [] a).fit (fresh_octal s slice x i)

pub sent_octets : SentOctets
sent_octets s slice cs a x i h = octal_answers (after (fresh s slice) cs) (always_octal s slice cs a x i h)
