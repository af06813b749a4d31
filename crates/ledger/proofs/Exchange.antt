-- A user call and a neighbouring inner octet change places (specs/Exchange.antt), for every list of calls.
use Rattle.std.specs.Prelude.{Ok}
use Prim.Native.Nat.{ℕ}
use native.Mathlib.Omega.{arith}
use mathlib.Core.Path.{◌≡◌, refl, sym, ap, ◌∙◌}
use mathlib.Core.Bool.{Bool, true, false, cond, not, ◌&&◌}
use mathlib.Core.List.{List, [], ◌∷◌, ◌++◌}
use lib.Dec.{leb, eqb}
use lib.ListN.{get_or}
use Rattle.state.specs.Answer.{Answer}
use Rattle.telegram.specs.declared.reader.Status.{Status}
use Rattle.telegram.specs.declared.reader.Status.TheVariants.{Fresh, Inside, Complete, Broken}
use Rattle.telegram.specs.Reading.{run, reader_after, status}
use Rattle.telegram.proofs.Run.{no_true, run_snoc}
use Rattle.telegram.proofs.Framing.{framing}
use Rattle.state.specs.declared.answer.Refusal.TheVariants.{Judging, Range, Absent, Delayed}
use Rattle.state.specs.Well.{within}
use Rattle.rules.specs.Diagnosis.{delayed, diagnosed, delaying}
use Rattle.rules.specs.Line.{clear_on}
use Rattle.rules.specs.User.{judged_parameters, judged_configuration}
use Rattle.ledger.specs.Lists.{some, taken_outputs, with_outputs}
use Rattle.ledger.specs.Ledger.{Line, Ledger, with_control, with_buffers, with_line, busy, diagnosis_leaves, parameters_open, configuration_open}
use Rattle.ledger.specs.Outcome.{carried, diagnosis_changed, settle}
use Rattle.ledger.specs.Bus.{answered, lengthened, heard_as, heard}
use Rattle.ledger.specs.User.{Told, told, refusing, absent, octets_of_kind, written_octet, take_outputs, read_octet, write_octet, hand_over, new_diagnosis, judge_parameters, judge_configuration, acknowledge_events, leave_master}
use Rattle.rules.specs.Kinds.{in_range, writable}
use Rattle.rules.specs.Call.{Call, octet, gap, send, tick, take, read, write, hand_over_call, new_diagnosis_call, judge_parameters_call, judge_configuration_call, events, acknowledge, pending, leave}
use Rattle.ledger.specs.Calls.{step, answers, after}
use Rattle.ledger.specs.Exchange.{MidTelegram, Inner, of_user, PlacesChanged, PlacesChange}
use Rattle.rules.specs.Runs.{answers_to, left_by}
use Rattle.rules.proofs.Runs as runs
use Rattle.ledger.proofs.Runs.{after_append}
use Rattle.ledger.proofs.Settling.{settle_line}

-- ---------------------------------------------------------------------------------------------------
-- A user call sees of the line only whether it is busy and whether a Slave_Diag reply leaves, and never changes it.

-- what is told, with another line
abbrev on_line : Line → Told → Told
on_line n t = record { answer = t.answer; ledger = with_line t.ledger n }

module _ (n : Line) where
  over : (p : Bool) (x y : Told) → cond p (on_line n x) (on_line n y) ≡ on_line n (cond p x y)
  over true x y = refl
  over false x y = refl

  over2 : (p q : Bool) (x y z : Told) → cond p (on_line n x) (cond q (on_line n y) (on_line n z)) ≡ on_line n (cond p x (cond q y z))
  over2 true q x y z = refl
  over2 false q x y z = over q y z

  over3 : (p q r : Bool) (x y z w : Told)
      → cond p (on_line n x) (cond q (on_line n y) (cond r (on_line n z) (on_line n w))) ≡ on_line n (cond p x (cond q y (cond r z w)))
  over3 true q r x y z w = refl
  over3 false q r x y z w = over2 q r y z w

record Alike (l : Ledger) (n : Line) : Type 0 where
  busy_is : busy (with_line l n) ≡ busy l
  leaves_is : diagnosis_leaves (with_line l n) ≡ diagnosis_leaves l

user_on : (l : Ledger) (n : Line) (c : Call) → of_user c ≡ true → Alike l n → step (with_line l n) c ≡ on_line n (step l c)
unfolding take_outputs read_octet write_octet hand_over new_diagnosis judge_parameters judge_configuration acknowledge_events leave_master
user_on l n (octet b bad) u a = no_true u
user_on l n gap u a = no_true u
user_on l n send u a = no_true u
user_on l n tick u a = no_true u
user_on l n take u a =
    over n (not l.buffers.outputs.fresh) (told 0 l)
    (told (cond l.buffers.outputs.zeros 2 1) (with_buffers l (with_outputs l.buffers (taken_outputs l.buffers.outputs))))
user_on l n (read kind index) u a =
    over2 n (not (in_range l.setup kind index)) (absent l kind index) (refusing Range l) (refusing Absent l)
    (told (get_or (octets_of_kind l.buffers kind) index 0) l)
user_on l n (write kind index x) u a =
    over2 n (not (writable kind && in_range l.setup kind index)) (absent l kind index) (refusing Range l) (refusing Absent l)
    (told 0 (with_buffers l (written_octet l.buffers kind index x)))
user_on l n hand_over_call u a = refl
user_on l n (new_diagnosis_call count flags) u a =
    let x : Told = refusing Range l in
    let y : Told = refusing Delayed l in
    let z : Told = told 0 (with_control l (delaying l.control count flags)) in
    let w : Told = told 0 (diagnosis_changed l (diagnosed l.control count flags)) in
    let p : Bool = not (within 6 count l.setup.diagnosis_len && leb flags 7) in
    ap (λ (t : Bool). cond p (on_line n x) (cond (delayed l.control) (on_line n y) (cond t (on_line n z) (on_line n w)))) a.leaves_is
    ∙ over3 n p (delayed l.control) (diagnosis_leaves l) x y z w
user_on l n (judge_parameters_call j) u a =
    over2 n (not (parameters_open l)) (not (leb j 1)) (refusing Judging l) (refusing Range l)
    (told (cond (some l.buffers.parameters.waiting) 1 0)
    (carried l (judged_parameters l.control (some l.buffers.parameters.waiting) (eqb j 1)) []))
user_on l n (judge_configuration_call j) u a =
    over2 n (not (configuration_open l && l.control.flags.parameters_good)) (not (leb j 1)) (refusing Judging l) (refusing Range l)
    (told (cond (some l.buffers.configuration.waiting) 1 0)
    (carried l (judged_configuration l.control (some l.buffers.configuration.waiting) (eqb j 1)) []))
user_on l n events u a = refl
user_on l n (acknowledge mask) u a = refl
user_on l n pending u a = refl
user_on l n leave u a =
    ap (λ (t : Bool). told 0 (with_line (carried l (clear_on t l.control) []) n)) a.busy_is

-- so it leaves the line as it was
pub keeps_line : (l : Ledger) (c : Call) → of_user c ≡ true → (step l c).ledger.line ≡ l.line
keeps_line l c u = ap (λ (t : Told). t.ledger.line) (user_on l l.line c u (record { busy_is = refl; leaves_is = refl }))

-- ---------------------------------------------------------------------------------------------------
-- An inner octet only lengthens the telegram octets. Whether it is inner is seen from the line alone.

pub record Lengthens (n : Line) (b : ℕ) (bad : Bool) : Type 0 where
  pub listens : n.ignored ≡ false
  pub begins : some n.telegram ≡ true
  pub inside : status (reader_after (run n.telegram) b bad) ≡ Inside

-- with an octet something has begun
pub not_fresh : (xs : List ℕ) (b : ℕ) (bad : Bool) → status (reader_after (run xs) b bad) ≡ Fresh → ⊥
not_fresh xs b true e = let f = (framing xs).flagged b [] in let z : ◌≡◌ {A = ℕ} 0 1 = cc in omega arith
not_fresh xs b false e = none xs ((framing (xs ++ b ∷ [])).nothing.0 (ap status (run_snoc xs b) ∙ e))
  where
    none : (ys : List ℕ) → ys ++ b ∷ [] ≡ [] → ⊥
    none [] f = let z : ◌≡◌ {A = ℕ} 0 1 = cc in omega arith
    none (y ∷ ys) f = let z : ◌≡◌ {A = ℕ} 0 1 = cc in omega arith

-- the last octet and one that breaks off are followed by octets that are ignored
ignores : (m : Ledger) → (settle m).line.ignored ≡ false → m.line.ignored ≡ true → ⊥
ignores m e f = no_true (sym e ∙ ap (λ (n : Line). n.ignored) (settle_line m) ∙ f)

pub inner_lengthens : (l : Ledger) (b : ℕ) (bad : Bool) → Inner l b bad → Lengthens l.line b bad
unfolding heard answered
inner_lengthens l b bad i = record {
  listens = i.before.listens;
  begins = i.before.begins;
  inside = go (status (reader_after (run l.line.telegram) b bad)) refl i.behind;
}
  where
    go : (s : Status) → status (reader_after (run l.line.telegram) b bad) ≡ s
        → MidTelegram (cond l.line.ignored l (heard_as s l b)) → s ≡ Inside
    go Fresh e w = absurd (not_fresh l.line.telegram b bad e)
    go Inside e w = refl
    go Complete e w = absurd (ignores _ (rw i.before.listens at w.listens) refl)
    go Broken e w = absurd (ignores _ (rw i.before.listens at w.listens) refl)

pub lengthens_heard : (l : Ledger) (b : ℕ) (bad : Bool) → Lengthens l.line b bad → heard l b bad ≡ with_line l (lengthened l.line b)
unfolding heard
lengthens_heard l b bad x = rw (x.listens, x.inside, x.begins)

-- ---------------------------------------------------------------------------------------------------
-- The two orders.

still_some : (xs : List ℕ) (b : ℕ) → some (xs ++ b ∷ []) ≡ true
still_some [] b = refl
still_some (x ∷ xs) b = refl

module _ (l : Ledger) (b : ℕ) (bad : Bool) (c : Call) (u : of_user c ≡ true) (x : Lengthens l.line b bad) where
  -- the ledger after both
  pub both : Ledger
  both = with_line (step l c).ledger (lengthened l.line b)

  pub octet_then_call : step (heard l b bad) c ≡ record { answer = (step l c).answer; ledger = both }
  unfolding both
  octet_then_call =
      ap (λ (m : Ledger). step m c) (lengthens_heard l b bad x)
      ∙ user_on l (lengthened l.line b) c u
      (record { busy_is = rw (x.begins, still_some l.line.telegram b); leaves_is = refl })

  pub call_then_octet : heard (step l c).ledger b bad ≡ both
  unfolding both
  call_then_octet =
      lengthens_heard (step l c).ledger b bad (rw (keeps_line l c u) x)
      ∙ ap (λ (n : Line). with_line (step l c).ledger (lengthened n b)) (keeps_line l c u)

-- whatever a call is and whatever it is made on: two neighbours change places if each answers the same behind the other and both orders
-- leave the same
module _ {S E : Type 0} (answer : S → E → Answer) (next : S → E → S) (s : S) (pre post : List E) (o c : E) where
  -- what the calls before them leave
  abbrev between : S
  between = left_by next s pre

  pub neighbours_change : answer between o ≡ Ok 0 → answer (next between c) o ≡ Ok 0
      → answer (next between o) c ≡ answer between c → next (next between o) c ≡ next (next between c) o
      → PlacesChanged (answers_to answer next s) pre post o c
  neighbours_change first then same left = record {
    earlier = answers_to answer next s pre;
    own = answer between c;
    later = answers_to answer next (next (next between c) o) post;
    earlier_are = runs.answers_length answer next s pre;
    later_are = runs.answers_length answer next (next (next between c) o) post;
    octet_first =
        runs.answers_append answer next s pre (o ∷ c ∷ post)
        ∙ (λ i. answers_to answer next s pre ++ first i ∷ same i ∷ answers_to answer next (left i) post);
    call_first =
        runs.answers_append answer next s pre (c ∷ o ∷ post)
        ∙ (λ i. answers_to answer next s pre ++ answer between c ∷ then i ∷ answers_to answer next (next (next between c) o) post);
  }

-- what answers alike changes places alike
pub places_alike : {E : Type 0} {f g : List E → List Answer} {pre post : List E} {o c : E} → ((es : List E) → f es ≡ g es)
    → PlacesChanged g pre post o c → PlacesChanged f pre post o c
places_alike {E} {f} {g} {pre} {post} {o} {c} same x = record {
  earlier = x.earlier;
  own = x.own;
  later = x.later;
  earlier_are = x.earlier_are;
  later_are = x.later_are;
  octet_first = same (pre ++ o ∷ c ∷ post) ∙ x.octet_first;
  call_first = same (pre ++ c ∷ o ∷ post) ∙ x.call_first;
}

exchanged : (l : Ledger) (pre post : List Call) (b : ℕ) (bad : Bool) (c : Call) → of_user c ≡ true
    → Lengthens (after l pre).line b bad → PlacesChanged (answers l) pre post (octet b bad) c
exchanged l pre post b bad c u x =
    let m = after l pre in
    neighbours_change (λ k d. (step k d).answer) (λ k d. (step k d).ledger) l pre post (octet b bad) c refl refl
    (ap (λ (t : Told). t.answer) (octet_then_call m b bad c u x))
    (ap (λ (t : Told). t.ledger) (octet_then_call m b bad c u x) ∙ sym (call_then_octet m b bad c u x))

pub exchange : PlacesChange
exchange l pre post b bad c = record {
  inner_first = λ u i. exchanged l pre post b bad c u (inner_lengthens (after l pre) b bad i);
  inner_second = λ u i.
      exchanged l pre post b bad c u
      (rw (keeps_line (after l pre) c u) at
      (inner_lengthens (step (after l pre) c).ledger b bad (rw (after_append l pre (c ∷ [])) at i)));
}
