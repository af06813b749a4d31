-- From one ledger to the next event 13 goes with what is published, and 11 and 10 with the sets that are open: where an outcome is carried out, and
-- where the line settles.
use Prim.Native.Nat.{ℕ, ◌≤◌}
use native.Mathlib.Omega.{arith}
use mathlib.Core.Path.{◌≡◌, refl, sym, ap, ◌∙◌}
use mathlib.Core.Bool.{Bool, true, false, cond, not, ◌&&◌, ◌||◌, or-false}
use mathlib.Core.List.{List, [], ◌∷◌, ◌++◌}
use lib.ListN.{length}
use Rattle.buffers.specs.Events.{diagnosis_event, outputs_event, parameters_event, configuration_event}
use Rattle.state.specs.declared.control.Control.{Control}
use Rattle.state.specs.declared.state.Drawn.TheVariants.{Nothing}
use Rattle.state.specs.Sound.{Within}
use Rattle.rules.specs.declared.outcome.OutputsDeed.{OutputsDeed}
use Rattle.rules.specs.declared.outcome.OutputsDeed.TheVariants as outputs-deed
use Rattle.rules.specs.declared.outcome.SetDeed.{SetDeed}
use Rattle.rules.specs.declared.outcome.SetDeed.TheVariants as set-deed
use Rattle.rules.specs.declared.outcome.Outcome.{Outcome}
use Rattle.rules.specs.Diagnosis.{delayed, diagnosed, caught_up}
use Rattle.rules.specs.Phases.{drawing}
use Rattle.rules.specs.Line.{clearing, clear_noted}
use Rattle.rules.proofs.Served.{Receives, Lawful, Quiet, clear_noted_quiet}
use Rattle.rules.proofs.ByCases.{another_raised}
use Rattle.rules.proofs.EventsFollow.{publishing, EventShows, Waiting, EventsAfter, noted_follows}
use Rattle.ledger.specs.Lists.{some, Sets}
use Rattle.ledger.specs.Ledger.{Ledger, busy, diagnosis_leaves, parameters_open, configuration_open, occupied}
use Rattle.ledger.specs.Outcome.{on_sets, carried, diagnosis_changed, after_reply, settle}
use Rattle.ledger.specs.History.{Deed, accepted, withheld, released, emptied, zeroed, outputs_taken, deeds_by, clears}
use Rattle.ledger.specs.EventsFollow.{event_set, publishes_in}

-- ---------------------------------------------------------------------------------------------------
-- What is published, by the deeds.

-- by an outcome
publishes_in_lem : (d : OutputsDeed) (ds : List ℕ) → publishes_in (deeds_by d ds) ≡ publishing d
publishes_in_lem outputs-deed.Keep ds = refl
publishes_in_lem outputs-deed.Publish ds = refl
publishes_in_lem outputs-deed.HoldBack ds = refl
publishes_in_lem outputs-deed.Release ds = refl
publishes_in_lem outputs-deed.Zeros ds = refl

-- by one or the other
publishes_either : (g h : List Deed) → publishes_in (g ++ h) ≡ (publishes_in g || publishes_in h)
publishes_either [] h = refl
publishes_either (accepted ds ∷ g) h = refl
publishes_either (withheld ds ∷ g) h = publishes_either g h
publishes_either (released ∷ g) h = refl
publishes_either (emptied ∷ g) h = publishes_either g h
publishes_either (zeroed ∷ g) h = refl
publishes_either (outputs_taken ∷ g) h = publishes_either g h

-- ---------------------------------------------------------------------------------------------------
-- From one ledger to the next.

-- event 11 is set exactly while a parameter set is open, and 10 while a configuration set is
abbrev pub Open : Ledger → Type 0
Open l = (event_set l parameters_event ≡ parameters_open l) × (event_set l configuration_event ≡ configuration_open l)

-- from l to m with the deeds h event 13 goes with what is published, and 11 and 10 with the sets; gone: event 13 is acknowledged
abbrev pub Goes : Ledger → Bool → List Deed → Ledger → Type 0
Goes l gone h m = (event_set m outputs_event ≡ ((event_set l outputs_event && not gone) || publishes_in h)) × (Open l → Open m)

-- what was set stays where nothing is acknowledged
kept_or : (x y : Bool) → (x || y) ≡ ((x && true) || y)
kept_or true y = refl
kept_or false y = refl

-- no event and no set changes
pub quiet : (l : Ledger) → Goes l false [] l
quiet l = (sym (or-false (event_set l outputs_event)) ∙ kept_or (event_set l outputs_event) false, λ o. o)

-- one after the other
pub then : (l m n : Ledger) (g h : List Deed) → Goes l false h m → Goes m false g n → Goes l false (g ++ h) n
then l m n g h v w = (
  w.0 ∙ ap (λ (t : Bool). (t && true) || publishes_in g) v.0
      ∙ joined (event_set l outputs_event && true) (publishes_in h) (publishes_in g)
      ∙ ap (λ (t : Bool). (event_set l outputs_event && true) || t) (sym (publishes_either g h)),
  λ o. w.1 (v.1 o),
)
  where
    joined : (x y z : Bool) → (((x || y) && true) || z) ≡ (x || (z || y))
    joined true y z = refl
    joined false true true = refl
    joined false true false = refl
    joined false false true = refl
    joined false false false = refl

-- deeds that publish alike
pub alike : (l m : Ledger) (g h : List Deed) → publishes_in g ≡ publishes_in h → Goes l false g m → Goes l false h m
alike l m g h e v = (v.0 ∙ ap (λ (t : Bool). (event_set l outputs_event && true) || t) e, v.1)

-- ---------------------------------------------------------------------------------------------------
-- An outcome carried out.

-- a set with octets in it
has_some : (ds : List ℕ) → 1 ≤ length ds → some ds ≡ true
has_some [] h = absurd (omega arith)
has_some (x ∷ ds) h = refl

-- an event that goes with its sets still does; a set that is received is not empty
sets_go : (Given : Type 0) (d : SetDeed) (x : Sets) (low high : ℕ) (ds : List ℕ) (before later : Bool) → 1 ≤ low → Receives (Given × Within low (length ds) high) d
    → EventShows d (some x.shown) (some x.waiting) before later → before ≡ some x.shown → later ≡ some (on_sets d x ds).shown
sets_go Given set-deed.Keep x low high ds before later h r s e = s ∙ e
sets_go Given set-deed.Receive x low high ds before later h r s e = go (some x.shown) s
  where
    go : (t : Bool) → later ≡ cond t before true → later ≡ some (cond {A = Sets} t (record { shown = x.shown; waiting = ds }) (record { shown = ds; waiting = x.waiting })).shown
    go true w = w ∙ e
    go false w = w ∙ sym (has_some ds (omega arith))
sets_go Given set-deed.Advance x low high ds before later h r s e = s.2 ∙ e ∙ s.0 ∙ sym s.1
sets_go Given set-deed.Drop x low high ds before later h r s e = s

-- the sets that wait
abbrev pub waiting_sets : Ledger → Waiting
waiting_sets l = record { parameters = some l.buffers.parameters.waiting; configuration = some l.buffers.configuration.waiting }

-- the events go with what the outcome does
pub carried_goes : (l : Ledger) {Given Held Asked Clear : Type 0} {At : ℕ → Type 0} (o : Outcome) (ds : List ℕ) → Lawful l.setup l.control (length ds) Given Held Asked Clear At o
    → EventsAfter l.control.events (occupied l) (waiting_sets l) o → Goes l false (deeds_by o.outputs ds) (carried l o ds)
carried_goes l {Given} {Held} {Asked} {Clear} {At} o ds w f = (
  f.outputs_raise ∙ ap (λ (t : Bool). event_set l outputs_event || t) (sym (publishes_in_lem o.outputs ds))
      ∙ kept_or (event_set l outputs_event) (publishes_in (deeds_by o.outputs ds)),
  λ e. (
    sets_go (At 61) o.parameters l.buffers.parameters 7 l.setup.parameter_len ds (event_set l parameters_event) (event_set (carried l o ds) parameters_event)
        (omega arith) w.parameters_come f.parameters_show e.0,
    sets_go (At 62) o.configuration l.buffers.configuration 1 l.setup.configuration_len ds (event_set l configuration_event) (event_set (carried l o ds) configuration_event)
        (omega arith) w.configuration_come f.configuration_show e.1,
  ),
)

-- one without data
pub quiet_goes : (l : Ledger) (o : Outcome) → Quiet l.setup l.control Unit o → EventsAfter l.control.events (occupied l) (waiting_sets l) o
    → Goes l false (deeds_by o.outputs []) (carried l o [])
quiet_goes l o w f = carried_goes l o [] w f

-- a new diagnosis raises event 12 alone
pub diagnosed_goes : (l : Ledger) (count flags : ℕ) → Goes l false [] (diagnosis_changed l (diagnosed l.control count flags))
unfolding diagnosed
diagnosed_goes l count flags =
    let u = another_raised l.control.events diagnosis_event (λ q. omega arith) (λ q. omega arith) (λ q. omega arith) in
    (u.outputs_same ∙ (quiet l).0, λ o. (u.parameters_same ∙ o.0, u.configuration_same ∙ o.1))

-- ---------------------------------------------------------------------------------------------------
-- Settling.

-- a noted clear is carried out whatever else the control part holds
noted_alike : (b : Bool) (c k : Control) → k.noted ≡ c.noted → (clear_noted b k).outputs ≡ (clear_noted b c).outputs
noted_alike b c k e = ap (λ (t : Bool). (cond (t && not b) (clearing k) (drawing k Nothing)).outputs) e ∙ go (c.noted && not b)
  where
    go : (t : Bool) → (cond t (clearing k) (drawing k Nothing)).outputs ≡ (cond t (clearing c) (drawing c Nothing)).outputs
    go true = refl
    go false = refl

-- behind a delayed diagnosis
clear_goes : (m n : Ledger) → n.control.noted ≡ m.control.noted → Goes m false [] n
    → Goes m false (clears m) (carried n (clear_noted (busy m) n.control) [])
clear_goes m n e v =
    let o = clear_noted (busy m) n.control in
    let g = deeds_by o.outputs [] in
    let k = carried n o [] in
    alike m k (g ++ []) (clears m)
    (publishes_either g [] ∙ or-false (publishes_in g) ∙ ap (λ (d : OutputsDeed). publishes_in (deeds_by d [])) (noted_alike (busy m) m.control n.control e))
    (then m n k g [] v
    (quiet_goes n o (clear_noted_quiet n.setup n.control (busy m) (λ _. tt)) (noted_follows (occupied n) (waiting_sets n) n.control (busy m))))

-- a delayed diagnosis, then a noted clear
pub settle_goes : (m : Ledger) → Goes m false (clears m) (settle m)
unfolding settle after_reply diagnosed
settle_goes m = go (delayed m.control && not (diagnosis_leaves m))
  where
    go : (t : Bool) → Goes m false (clears m)
        (carried (cond t (diagnosis_changed m (caught_up m.control)) m) (clear_noted (busy m) (cond t (diagnosis_changed m (caught_up m.control)) m).control) [])
    go true =
        clear_goes m (diagnosis_changed m (caught_up m.control)) refl
        (diagnosed_goes m m.control.diagnosis.delayed_count m.control.diagnosis.delayed_flags)
    go false = clear_goes m m refl (quiet m)
