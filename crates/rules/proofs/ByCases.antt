-- The outcomes of the rules by cases: nothing but a reply, WAIT_PRM entered, a set received, something done to the modes, the outputs and
-- the inputs, a set judged. What holds of each of them holds of every outcome.
use Prim.Native.Nat.{ℕ, ◌≤◌}
use native.Mathlib.Omega.{arith}
use mathlib.Core.Path.{◌≡◌, refl, sym, ap, ◌∙◌}
use mathlib.Core.Bool.{Bool, true, false, cond, not, ◌&&◌, ◌||◌}
use lib.Dec.{eqb, leb}
use borrow.Author.Tests.{eqb-true, not-true, not-false}
use Rattle.buffers.specs.declared.events.Events.{Events}
use Rattle.buffers.specs.Events.{bit as eventBit, raised, watchdog_event, control_event, outputs_event, configuration_event, parameters_event}
use Rattle.buffers.proofs.Word.{raised_other}
use Rattle.telegram.proofs.Run.{no_true}
use Rattle.state.specs.declared.setup.Setup.{Setup}
use Rattle.state.specs.declared.control.Flags.{Flags}
use Rattle.state.specs.declared.control.Modes.{Modes}
use Rattle.state.specs.declared.control.Watchdog.{Watchdog}
use Rattle.state.specs.declared.chain.Chain.{Chain}
use Rattle.state.specs.declared.control.Control.{Control}
use Rattle.state.specs.declared.state.Drawn.{Drawn}
use Rattle.state.specs.declared.state.Drawn.TheVariants as drawn
use Rattle.state.specs.Sound.{Within}
use Rattle.state.specs.Well.{within}
use Rattle.state.proofs.Choice.{by_test, either, and_left, and_right}
use Rattle.state.proofs.Tests.{within_true}
use Rattle.rules.specs.declared.request.Request.{Request}
use Rattle.rules.specs.declared.request.Data.{Data}
use Rattle.rules.specs.declared.request.Occupied.{Occupied}
use Rattle.rules.specs.declared.request.Service.{Service}
use Rattle.rules.specs.declared.request.Service.TheVariants.{Nothing, Status, Reject, GlobalControl, DataExchange, SetPrm, ChkCfg, SlaveDiag, GetCfg, ReadInputs, ReadOutputs}
use Rattle.rules.specs.declared.outcome.OutputsDeed.{OutputsDeed}
use Rattle.rules.specs.declared.outcome.OutputsDeed.TheVariants as outputs-deed
use Rattle.rules.specs.declared.outcome.InputsDeed.{InputsDeed}
use Rattle.rules.specs.declared.outcome.SetDeed.TheVariants as set-deed
use Rattle.rules.specs.declared.outcome.Outcome.{Outcome}
use Rattle.rules.specs.Control.{bit, in_exchange, owns, with_flags, with_events, with_modes, with_noted, raise, clear}
use Rattle.rules.specs.Modes.{exchange_outputs, commands_sync, commanded_modes, commanded_outputs, commanded_inputs, announced}
use Rattle.rules.specs.Phases.{drawing, entering_wait_prm, data_exch}
use Rattle.rules.specs.Requests.{master_of, acts, to_station, refilled, service_of}
use Rattle.rules.specs.Retries.{is_repeat, on_chain, chain_after, drew, repeated}
use Rattle.rules.specs.Services.{other_owns, other_ident, good_prm, set_prm, good_cfg, chk_cfg, exchanges, data_exchange, slave_diag, controls, storing, global_control, serve, outcome_by}
use Rattle.rules.specs.Watchdog.{wants_watchdog, bad_factors}
use Rattle.rules.specs.Line.{clear_on, clear_noted, counts, with_remaining, ticked}
use Rattle.rules.specs.User.{changing_sets, judged_parameters, judged_configuration}
use Rattle.rules.proofs.MayDrawOutputs.{is_outputs}
use Rattle.rules.proofs.Headed.{Plain, To, Headed}
use Rattle.rules.proofs.Alike.{Alike, alike, refilled_alike}

-- events 13, 11 and 10 are as they were
pub record Untouched (e f : Events) : Type 0 where
  pub outputs_same : eventBit f.word outputs_event ≡ eventBit e.word outputs_event
  pub parameters_same : eventBit f.word parameters_event ≡ eventBit e.word parameters_event
  pub configuration_same : eventBit f.word configuration_event ≡ eventBit e.word configuration_event

-- where another event is raised
pub another_raised : (e : Events) (n : ℕ) → (n ≡ outputs_event → ⊥) → (n ≡ parameters_event → ⊥) → (n ≡ configuration_event → ⊥) → Untouched e (raised e n)
another_raised e n x y z = record {
  outputs_same = raised_other e n outputs_event x;
  parameters_same = raised_other e n parameters_event y;
  configuration_same = raised_other e n configuration_event z;
}

-- the watchdog is refilled to as many ticks, and no more remain if no more remained
pub record Counts (w v : Watchdog) : Type 0 where
  pub reload_same : v.reload ≡ w.reload
  pub left_within : w.remaining ≤ w.reload → v.remaining ≤ w.reload

-- as it was
pub counts_same : (w : Watchdog) → Counts w w
counts_same w = record { reload_same = refl; left_within = λ h. h }

-- a control part that is alike, with that owner and those modes, a watchdog that counts on or is refilled, and with these events as they were
pub record Akin (c k : Control) : Type 0 where
  pub alike_is : Alike c k
  pub owner_same : k.owner ≡ c.owner
  pub modes_same : k.modes ≡ c.modes
  pub watchdog_counts : Counts c.watchdog k.watchdog
  pub untouched : Untouched c.events k.events

-- no event changes
pub akin : {c k : Control} → Alike c k → k.owner ≡ c.owner → k.modes ≡ c.modes → Counts c.watchdog k.watchdog → k.events ≡ c.events → Akin c k
akin a e m w f = record {
  alike_is = a;
  owner_same = e;
  modes_same = m;
  watchdog_counts = w;
  untouched = record {
    outputs_same = ap (λ (x : Events). eventBit x.word outputs_event) f;
    parameters_same = ap (λ (x : Events). eventBit x.word parameters_event) f;
    configuration_same = ap (λ (x : Events). eventBit x.word configuration_event) f;
  };
}

-- data is published or held back, what is held back is published, and zeros are published only where that may be
abbrev pub Publishes : (Given Held Clear : Type 0) → OutputsDeed → Type 0
Publishes Given Held Clear outputs-deed.Keep = Unit
Publishes Given Held Clear outputs-deed.Publish = Given
Publishes Given Held Clear outputs-deed.HoldBack = Given
Publishes Given Held Clear outputs-deed.Release = Held
Publishes Given Held Clear outputs-deed.Zeros = Clear

-- what an outcome does that changes neither phase nor sets: these modes, outputs and inputs, with the event of what is published
abbrev pub moving : Control → Modes → OutputsDeed → InputsDeed → Drawn → Outcome
moving k m u v d =
    record {
      control = with_modes (with_events k (announced u k.events)) m;
      outputs = u;
      inputs = v;
      parameters = set-deed.Keep;
      configuration = set-deed.Keep;
      drawn = d;
    }

-- what becomes of the modes and of the outputs by a Data_Exchange or a Global_Control. withheld: something is held back
pub data Moved (before : Modes) (withheld : Bool) : Modes → OutputsDeed → Type 0 where
  exchanged : Moved before withheld before (exchange_outputs before)
  commanded : (first : ℕ) → Moved before withheld (commanded_modes before first) (commanded_outputs before withheld first)

module _ (P : Outcome → Type 0) (c : Control)
    (replies : (k : Control) (d : Drawn) → Akin c k → (is_outputs d ≡ true → in_exchange k ≡ true) → P (drawing k d)) where
  -- a reply without the held outputs
  draws : (k : Control) (d : Drawn) → Akin c k → is_outputs d ≡ false → P (drawing k d)
  draws k d s e = replies k d s (λ f. no_true (sym e ∙ f))

  -- the control part stays
  same : Akin c c
  same = akin (alike refl refl refl refl) refl refl (counts_same c.watchdog) refl

  -- with nothing but such a reply
  stays : (d : Drawn) → is_outputs d ≡ false → P (drawing c d)
  stays d = draws c d same

  -- a clear, which is carried out on an idle line
  module _ (busy : Bool) (clears : busy ≡ false → (k : Control) → k.diagnosis ≡ c.diagnosis → k.chain ≡ c.chain → P (entering_wait_prm k drawn.Nothing)) where
    -- on a busy line it is noted
    clear_akin : (k : Control) → Akin c k → P (clear_on busy k)
    clear_akin k s =
        let a = s.alike_is in
        let n : Akin c (with_noted k true) =
        record {
          alike_is = alike a.phase_same a.good_same a.diagnosis_same a.chain_same;
          owner_same = s.owner_same;
          modes_same = s.modes_same;
          watchdog_counts = s.watchdog_counts;
          untouched = s.untouched;
        } in
        by_test P busy _ _ (λ _. draws (with_noted k true) drawn.Nothing n refl) (λ e. clears e _ a.diagnosis_same a.chain_same)

    -- leave master
    pub clear_cases : P (clear_on busy c)
    clear_cases = clear_akin c same

    -- a noted clear
    pub noted_cases : P (clear_noted busy c)
    noted_cases =
        by_test P (c.noted && not busy) _ _ (λ e. clears (not-true busy (and_right c.noted (not busy) e)) _ refl refl) (λ _. stays drawn.Nothing refl)

    -- a Tick
    pub ticked_cases : P (ticked busy c)
    unfolding ticked
    ticked_cases =
        either P (not (counts c)) (stays drawn.Nothing refl)
        (either P (leb c.watchdog.remaining 1)
        (clear_akin (raise (with_remaining c 0) watchdog_event)
        (record {
          alike_is = alike refl refl refl refl;
          owner_same = refl;
          modes_same = refl;
          watchdog_counts = record { reload_same = refl; left_within = λ h. omega arith };
          untouched = another_raised c.events watchdog_event (λ q. omega arith) (λ q. omega arith) (λ q. omega arith);
        }))
        (draws _ drawn.Nothing (akin (alike refl refl refl refl) refl refl (record { reload_same = refl; left_within = λ h. omega arith }) refl) refl))

  -- the others, which may enter WAIT_PRM at any time
  module _ (resets : (k : Control) (d : Drawn) → k.diagnosis ≡ c.diagnosis → k.chain ≡ c.chain → is_outputs d ≡ false → P (entering_wait_prm k d)) where
    -- the judgement of parameters: a newer set that waits is shown instead, or the set is closed
    pub parameters_cases : (waits good : Bool) → (waits ≡ true → P (changing_sets c set-deed.Advance set-deed.Keep))
        → ((f : Flags) → P (changing_sets (with_flags (clear c parameters_event) f) set-deed.Drop set-deed.Keep)) → P (judged_parameters c waits good)
    unfolding judged_parameters
    parameters_cases waits good f g = by_test P waits _ _ f (λ _. either P good (g _) (resets _ drawn.Nothing refl refl refl))

    -- and of configuration
    pub configuration_cases : (waits good : Bool) → (waits ≡ true → P (changing_sets c set-deed.Keep set-deed.Advance))
        → P (changing_sets (data_exch (clear c configuration_event)) set-deed.Keep set-deed.Drop) → P (judged_configuration c waits good)
    unfolding judged_configuration
    configuration_cases waits good f g = by_test P waits _ _ f (λ _. either P good g (resets _ drawn.Nothing refl refl refl))

    -- the services. A set is received, or in DATA_EXCH something is done to the modes, the outputs and the inputs.
    module _ (g : Setup) (r : Request) (opened : Occupied) (octets : Data)
        (receives-prm : To r 61 → Within 7 r.count g.parameter_len → P (good_prm c opened.parameters r octets.prm))
        (receives-cfg : To r 62 → Within 1 r.count g.configuration_len → P (good_cfg c opened.configuration))
        (moves : (k : Control) (m : Modes) (u : OutputsDeed) (v : InputsDeed) (d : Drawn) → Akin c k → is_outputs d ≡ false
        → Publishes (Plain r × (r.count ≡ g.output_len)) (opened.outputs ≡ true) Unit u
        → in_exchange c ≡ true → Moved c.modes opened.outputs m u → P (moving k m u v d)) where
      -- Set_Prm
      set_prm_cases : To r 61 → P (set_prm g c opened.parameters r octets.prm)
      unfolding set_prm
      set_prm_cases h =
          let p = octets.prm in
          either P (other_owns c (master_of r)) (stays drawn.Rejected refl)
          (by_test P (not (within 7 r.count g.parameter_len)) _ _ (λ _. resets _ drawn.Acknowledge refl refl refl)
          (λ w. either P (bit p.status 6) (resets c drawn.Acknowledge refl refl refl)
          (either P (not (bit p.status 7)) (stays drawn.Acknowledge refl)
          (either P (other_ident g p || (wants_watchdog p && bad_factors p)) (resets _ drawn.Acknowledge refl refl refl)
          (receives-prm h (within_true 7 r.count g.parameter_len (not-false _ w)))))))

      -- Chk_Cfg
      chk_cfg_cases : To r 62 → P (chk_cfg g c opened.configuration r)
      unfolding chk_cfg
      chk_cfg_cases h =
          either P (not (owns c (master_of r))) (stays drawn.Rejected refl)
          (by_test P (not (within 1 r.count g.configuration_len)) _ _ (λ _. resets _ drawn.Acknowledge refl refl refl)
          (λ w. receives-cfg h (within_true 1 r.count g.configuration_len (not-false _ w))))

      -- Data_Exchange
      data_exchange_cases : Plain r → P (data_exchange g c r)
      unfolding data_exchange
      data_exchange_cases h =
          by_test P (not (exchanges c r)) _ _ (λ _. stays drawn.Rejected refl)
          (λ e. by_test P (not (eqb r.count g.output_len)) _ _ (λ _. resets _ drawn.Rejected refl refl refl)
          (λ w. moves c c.modes _ _ drawn.Exchange same refl
          (either (Publishes (Plain r × (r.count ≡ g.output_len)) (opened.outputs ≡ true) Unit) c.modes.sync
          (h, eqb-true _ _ (not-false _ w)) (h, eqb-true _ _ (not-false _ w)))
          (and_right (owns c (master_of r)) (in_exchange c) (not-false _ e)) exchanged))

      -- Slave_Diag
      slave_diag_cases : P (slave_diag c r)
      unfolding slave_diag
      slave_diag_cases =
          either P (owns c (master_of r) && not c.flags.stat_diag) (draws _ drawn.Diagnosis (akin (alike refl refl refl refl) refl refl (counts_same c.watchdog) refl) refl)
          (stays drawn.Diagnosis refl)

      -- Global_Control
      global_control_cases : (first second : ℕ) → P (global_control c opened.outputs r first second)
      unfolding global_control
      global_control_cases first second =
          by_test P (controls c r second) _ _
          (λ e. moves (storing c first) (commanded_modes c.modes first) (commanded_outputs c.modes opened.outputs first)
          (commanded_inputs c.modes first) drawn.Nothing stored refl publishes
          (and_right (owns c (master_of r)) (in_exchange c) (and_left (exchanges c r) _ (and_left (exchanges c r && eqb r.count 2) _ e)))
          (commanded first))
          (λ _. stays drawn.Nothing refl)
        where
          stored : Akin c (storing c first)
          stored =
              either (Akin c) (eqb first c.stored) same
              (record {
                alike_is = alike refl refl refl refl;
                owner_same = refl;
                modes_same = refl;
                watchdog_counts = counts_same c.watchdog;
                untouched = another_raised c.events control_event (λ q. omega arith) (λ q. omega arith) (λ q. omega arith);
              })

          -- something is released only where it is held back
          publishes : Publishes (Plain r × (r.count ≡ g.output_len)) (opened.outputs ≡ true) Unit (commanded_outputs c.modes opened.outputs first)
          publishes =
              either (Publishes (Plain r × (r.count ≡ g.output_len)) (opened.outputs ≡ true) Unit) (bit first 1) tt
              (by_test (Publishes (Plain r × (r.count ≡ g.output_len)) (opened.outputs ≡ true) Unit)
              (commands_sync c.modes first && opened.outputs) _ _ (λ e. and_right (commands_sync c.modes first) opened.outputs e) (λ _. tt))

      -- Read_Inputs and Read_Outputs
      reads_cases : (d : Drawn) → P (cond (in_exchange c) (drawing c d) (drawing c drawn.Rejected))
      reads_cases d = by_test P (in_exchange c) _ _ (λ e. replies c d same (λ _. e)) (λ _. stays drawn.Rejected refl)

      -- each of them, with the header that it has
      pub serve_cases : (v : Service) → Headed v r → P (serve v g c opened r octets)
      serve_cases Nothing h = stays drawn.Nothing refl
      serve_cases Status h = stays drawn.Status refl
      serve_cases Reject h = stays drawn.Rejected refl
      serve_cases GlobalControl h = global_control_cases octets.first octets.second
      serve_cases DataExchange h = data_exchange_cases h
      serve_cases SetPrm h = set_prm_cases h
      serve_cases ChkCfg h = chk_cfg_cases h
      serve_cases SlaveDiag h = slave_diag_cases
      serve_cases GetCfg h = stays drawn.Configuration refl
      serve_cases ReadInputs h = reads_cases drawn.Inputs
      serve_cases ReadOutputs h = reads_cases drawn.Outputs

-- refilling the watchdog changes neither owner nor events nor modes
pub refilled_same : (g : Setup) (c : Control) (r : Request)
    → ((refilled g c r).owner ≡ c.owner) × ((refilled g c r).events ≡ c.events) × ((refilled g c r).modes ≡ c.modes)
unfolding refilled
refilled_same g c r =
    either (λ (k : Control). (k.owner ≡ c.owner) × (k.events ≡ c.events) × (k.modes ≡ c.modes)) (acts g r && to_station g r && owns c (master_of r))
    (refl, refl, refl) (refl, refl, refl)

-- then as many remain as it is refilled to
refilled_counts : (g : Setup) (c : Control) (r : Request) → Counts c.watchdog (refilled g c r).watchdog
unfolding refilled
refilled_counts g c r =
    either (λ (k : Control). Counts c.watchdog k.watchdog) (acts g r && to_station g r && owns c (master_of r))
    (record { reload_same = refl; left_within = λ _. omega arith }) (counts_same c.watchdog)

-- so it changes nothing that counts
pub refilled_akin : (g : Setup) (c : Control) (r : Request) → Akin c (refilled g c r)
refilled_akin g c r = let w = refilled_same g c r in akin (refilled_alike g c r) w.0 w.2 (refilled_counts g c r) w.1

-- a telegram: what holds of a reply alone and of every service, whatever the chain is, holds of it
pub telegram_cases : (P : Outcome → Type 0) → ((o : Outcome) (h : Chain) → P o → P (on_chain o h))
    → (g : Setup) (c : Control) (opened : Occupied) (r : Request) (octets : Data)
    → P (repeated g c r) → P (serve (service_of g r) g (refilled g c r) opened r octets) → P (outcome_by g c opened r octets)
telegram_cases P relinks g c opened r octets x y =
    let o = serve (service_of g r) g (refilled g c r) opened r octets in
    either P (is_repeat g c r) x (relinks o (chain_after g o.control.chain r (drew g o)) y)
