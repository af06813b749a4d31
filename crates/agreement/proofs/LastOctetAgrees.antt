-- The last octet of a telegram: both sides serve the same request with the same outcome, and draw the same reply.
use Prim.Native.Nat.{ℕ, ◌+◌, ◌≤◌, ◌<◌}
use native.Mathlib.Nat.{mod-lt, add-zero}
use native.Mathlib.Omega.{arith}
use mathlib.Core.Path.{◌≡◌, refl, sym, ap, ◌∙◌, subst}
use mathlib.Core.Bool.{true, false}
use mathlib.Core.List.{List, []}
use lib.ListN.{length, get_or}
use Rattle.buffers.specs.Roles.{fill_of, held_of}
use Rattle.buffers.specs.Roles as role
use Rattle.octets.specs.Part.{part}
use Rattle.octets.proofs.Parts.{part_at}
use Rattle.telegram.specs.Telegram.{Telegram, payload_of}
use Rattle.telegram.specs.Reading.{finished}
use Rattle.telegram.specs.Sending.{left}
use Rattle.telegram.proofs.Framing.{finished_complete}
use Rattle.state.specs.declared.setup.Setup.{Setup}
use Rattle.state.specs.declared.control.Control.{Control}
use Rattle.state.specs.declared.state.State.{State}
use Rattle.state.specs.Layout.{parameters_at}
use Rattle.rules.specs.declared.outcome.Outcome.{Outcome}
use Rattle.rules.specs.Control.{bit}
use Rattle.rules.specs.Requests.{master_of}
use Rattle.rules.specs.Services.{outcome_by}
use Rattle.ledger.specs.Ledger.{Ledger, with_line}
use Rattle.ledger.specs.Replies.{reply_of}
use Rattle.rules.specs.Replies.{diagnoses}
use Rattle.ledger.specs.Outcome as ledger
use Rattle.ledger.specs.Bus as bus
use Rattle.ledger.specs.Bus.{request_by}
use Rattle.steps.specs.Outcome.{occupied, carried}
use Rattle.steps.specs.Replies.{reply_for}
use Rattle.steps.specs.Reading.{is_ignored, read_by, prm_in, data_in, outcome_of, answered, completed}
use Rattle.agreement.proofs.Relation.{Gathered, Agrees, After}
use Rattle.agreement.proofs.Steady.{Steady}
use Rattle.state.specs.Sound.{Ranged}
use Rattle.agreement.proofs.SameLine.{open_agrees}
use Rattle.agreement.proofs.OnePartChanges.{reading_changed, replied, reply_changed}
use Rattle.agreement.proofs.ReplyDrawn.{draws}
use Rattle.rules.proofs.Served.{Served}
use Rattle.steps.proofs.OutcomeServed.{outcome_served}
use Rattle.rules.proofs.LookedAt.{SamePrm, same_base, same_outcome}
use Rattle.agreement.proofs.LineStays.{begins_whole, reply_line_lem, ignored_agrees}
use Rattle.agreement.proofs.OutcomeCarried.{received_agrees}

-- Set_Prm's octets, where there are enough of them; what stands at octet 7 is the telegram's only if that has one
prm_same : (s : State) (m : List ℕ) (ds : List ℕ) → 7 ≤ length ds
    → part m (parameters_at s.setup (fill_of s.parameters.set.place)) (length ds) ≡ ds → SamePrm (length ds) (prm_in s m) (bus.prm_by ds)
prm_same s m ds h e = record {
  others = λ j. record {
    status = (ap (λ (x : ℕ). get_or m x 0) (sym (add-zero at)) ∙ octet 0 (omega arith)) j;
    factor1 = octet 1 (omega arith) j;
    factor2 = octet 2 (omega arith) j;
    ident_high = octet 4 (omega arith) j;
    ident_low = octet 5 (omega arith) j;
    group = octet 6 (omega arith) j;
    base = get_or m (at + 7) 0;
  };
  base = same_base (length ds) (prm_in s m) (bus.prm_by ds) (λ there. ap (λ (x : ℕ). bit x 2) (octet 7 (omega arith)));
}
  where
    at : ℕ
    at = parameters_at s.setup (fill_of s.parameters.set.place)

    octet : (i : ℕ) → i < length ds → get_or m (at + i) 0 ≡ get_or ds i 0
    octet i g = sym (part_at m at (length ds) i g) ∙ ap (λ (l : List ℕ). get_or l i 0) e

-- the state that has read the telegram
abbrev reading : State → Telegram → State
reading s t = read_by s (finished t)

-- its data is gathered, and no reply is left
module _ {s : State} {m : List ℕ} {l : Ledger} (a : Agrees s m l) (d : Steady l) (w : Ranged l.setup) (t : Telegram)
    (g : Gathered (reading s t) m (payload_of t)) (still : left s.reply.sender ≡ false) where
  -- both sides come to the same outcome
  outcomes : outcome_of (reading s t) m (request_by t) ≡ bus.outcome_of l (request_by t) (payload_of t)
  unfolding outcome_of
  outcomes =
      let r = request_by t in
      let ds = payload_of t in
      let at = parameters_at s.setup (fill_of s.parameters.set.place) in
      same_outcome s.setup s.control (occupied s) r (data_in (reading s t) m) (bus.data_by ds)
      (λ to fits. prm_same (reading s t) m ds fits.0 (begins_whole m at s.setup.parameter_len ds fits.1 (g.parameters to.0 to.1)))
      (λ two. (g.first (omega arith), g.second (omega arith)))
      ∙ (λ i. outcome_by (a.setup i) (a.control i) (record { parameters = open_agrees a.parameters i; configuration = open_agrees a.configuration i; outputs = a.outputs.withheld i }) r (bus.data_by ds))

  -- octets are ignored from here on
  ignores : Agrees (reading s t) m (with_line l (bus.broken_off l.line))
  ignores = reading_changed a (finished t) true [] (ignored_agrees (ap is_ignored (finished_complete t)) refl refl)

  module _ (o : Outcome) (v : Served s.setup s.control s.outputs.set.withheld (request_by t) o) where
    -- the outcome carried out
    done : After (carried (reading s t) m o (length (payload_of t))) (ledger.carried (with_line l (bus.broken_off l.line)) o (payload_of t))
    done = received_agrees ignores (request_by t) (payload_of t) refl refl refl g v refl still

    counts : o.control.diagnosis ≡ l.control.diagnosis
    counts = v.lawful.counts_stay ∙ ap (λ (c : Control). c.diagnosis) a.control

    -- and the reply drawn
    answers : After (answered (reading s t) m o (request_by t)) (bus.answered l o (master_of (request_by t)) (payload_of t))
    unfolding answered bus.answered carried reply_for
    answers =
        let h = done in
        let ds = payload_of t in
        let x = carried (reading s t) m o (length (payload_of t)) in
        let master = master_of (request_by t) in
        let b = ledger.on_buffers o l.setup ds l.buffers in
        let xs = reply_of o.drawn l.setup l.slice o.control b master in
        let place : held_of (carried (reading s t) m o (length (payload_of t))).state.outputs.set.place < 4 = h.safe.outputs.within role.held (omega arith) in
        let low : 6 ≤ o.control.diagnosis.count = rw counts d.order.count.0 in
        let high : o.control.diagnosis.count ≤ s.setup.diagnosis_len = rw (counts, a.setup) d.order.count.1 in
        reply_changed h (reply_for o.drawn x.state master) xs (diagnoses o.drawn) (omega arith)
        (reply_line_lem
        (draws x.state x.memory l.slice b master h.safe (subst Ranged (sym a.setup) w) (mod-lt (request_by t).sa (omega arith)) low high
        h.outputs.held h.inputs.sending h.diagnosis.own h.slice o.drawn)
        (replied (bus.broken_off l.line) xs (diagnoses o.drawn))
        (ap (λ (y : Setup). reply_of o.drawn y l.slice o.control b master) (sym a.setup)) refl)

  pub completes : After (completed s m (finished t)) (bus.completed l t)
  completes =
      let o = outcome_of (reading s t) m (request_by t) in
      subst (λ (x : Outcome). After (answered (reading s t) m o (request_by t)) (bus.answered l x (master_of (request_by t)) (payload_of t))) outcomes (answers o (outcome_served (reading s t) m (request_by t)))
