-- What every outcome of the rules keeps: the diagnosis counts stay, only data that came for it and fits is published or received, and DATA_EXCH
-- is left only with zeros. Served is the one law of all telegrams, Quiet that of the outcomes without one.
use Prim.Native.Nat.{ℕ, ◌≤◌, ◌<◌}
use native.Mathlib.Omega.{arith}
use native.Mathlib.Nat.{mod-lt}
use mathlib.Core.Path.{◌≡◌, refl, sym, ap, ◌∙◌}
use mathlib.Core.Logic.{◌⊎◌, inl, inr, ⊎_elim}
use mathlib.Core.Bool.{Bool, true, false, cond, ◌&&◌}
use Rattle.telegram.proofs.Run.{no_true}
use Rattle.state.specs.declared.setup.Setup.{Setup}
use Rattle.state.specs.declared.control.Modes.{Modes}
use Rattle.state.specs.declared.chain.Chain.{Chain}
use Rattle.state.specs.declared.control.Control.{Control}
use Rattle.state.specs.declared.state.Drawn.{Drawn}
use Rattle.state.specs.Sound.{Within}
use Rattle.state.specs.Chain.{chain_of, no_chain, drawn_in}
use Rattle.state.proofs.SetCodes.{drawn_in_lem, none_drawn, chain_below}
use Rattle.state.proofs.Choice.{by_test, either, or_first, or_second, or_either}
use Rattle.rules.specs.declared.request.Request.{Request}
use Rattle.rules.specs.declared.request.Data.{Data}
use Rattle.rules.specs.declared.request.Occupied.{Occupied}
use Rattle.rules.specs.declared.request.Prm.{Prm}
use Rattle.rules.specs.declared.outcome.OutputsDeed.{OutputsDeed}
use Rattle.rules.specs.declared.outcome.OutputsDeed.TheVariants as outputs-deed
use Rattle.rules.specs.declared.outcome.InputsDeed.{InputsDeed}
use Rattle.rules.specs.declared.outcome.InputsDeed.TheVariants as inputs-deed
use Rattle.rules.specs.declared.outcome.SetDeed.{SetDeed}
use Rattle.rules.specs.declared.outcome.SetDeed.TheVariants as set-deed
use Rattle.rules.specs.declared.outcome.Outcome.{Outcome}
use Rattle.rules.specs.Control.{in_exchange}
use Rattle.rules.specs.Phases.{drawing, left, wait_prm, entering_wait_prm, wait_cfg, data_exch, zeros_if_left}
use Rattle.rules.specs.Requests.{master_of, refilled, service_of}
use Rattle.rules.specs.Replies.{replies_e5, is_exchange}
use Rattle.rules.specs.Retries.{is_request, fcv_of, fcb_of, on_chain, is_repeat, chain_by, chain_after, drew, chained, repeated}
use Rattle.rules.specs.Services.{parametrized, good_prm, good_cfg, serve, outcome_by}
use Rattle.rules.specs.Line.{clear_on, clear_noted, ticked}
use Rattle.rules.specs.User.{changing_sets, judged_parameters, judged_configuration}
use Rattle.rules.proofs.Headed.{Plain, To, headed}
pub use Rattle.rules.proofs.MayDrawOutputs.{is_outputs, may_draw_outputs}
pub use Rattle.rules.proofs.ByCases.{Publishes}
use Rattle.rules.proofs.ByCases.{Akin, moving, clear_cases, noted_cases, ticked_cases, parameters_cases, configuration_cases, serve_cases}
use Rattle.rules.proofs.Alike.{Alike, exchange_same, may_draw_same, refilled_alike}
use Rattle.rules.proofs.Unasked.{Silent, unasked_silent}

-- ---- every outcome

-- new inputs are brought only where that may be
abbrev pub Brings : Type 0 → InputsDeed → Type 0
Brings Asked inputs-deed.Keep = Unit
Brings Asked inputs-deed.Bring = Asked

-- a set is received only where that may be
abbrev pub Receives : Type 0 → SetDeed → Type 0
Receives Given set-deed.Keep = Unit
Receives Given set-deed.Receive = Given
Receives Given set-deed.Advance = Unit
Receives Given set-deed.Drop = Unit

-- a chain as a request leaves it
abbrev pub ChainIn : Chain → Type 0
ChainIn h = (h.master ≤ 127) × (h.code ≤ 17)

-- what every outcome keeps. There are n data octets; Given: they may be published or held back, Held: what is held back may be published,
-- Asked: a telegram came, so that new inputs may be brought and the chain may change, Clear: zeros may be published, At: the data octets came
-- to that service point.
pub record Lawful (g : Setup) (c : Control) (n : ℕ) (Given Held Asked Clear : Type 0) (At : ℕ → Type 0) (o : Outcome) : Type 0 where
  -- the diagnosis counts stay
  pub counts_stay : o.control.diagnosis ≡ c.diagnosis
  -- what is published or received fits
  pub outputs_come : Publishes (Given × (n ≡ g.output_len)) Held Clear o.outputs
  pub inputs_come : Brings Asked o.inputs
  pub parameters_come : Receives (At 61 × Within 7 n g.parameter_len) o.parameters
  pub configuration_come : Receives (At 62 × Within 1 n g.configuration_len) o.configuration
  -- DATA_EXCH is left only with zeros
  pub leaves : in_exchange c ≡ true → in_exchange o.control ≡ false → o.outputs ≡ outputs-deed.Zeros
  -- only a telegram changes the chain
  pub chain_comes : (o.control.chain ≡ c.chain) ⊎ (Asked × ChainIn o.control.chain)

module _ {g : Setup} {c : Control} {n : ℕ} {Given Held Asked Clear : Type 0} {At : ℕ → Type 0} where
  -- nothing but a reply
  draws : {k : Control} {d : Drawn} → Alike c k → Lawful g c n Given Held Asked Clear At (drawing k d)
  draws s = record {
    counts_stay = s.diagnosis_same;
    outputs_come = tt;
    inputs_come = tt;
    parameters_come = tt;
    configuration_come = tt;
    leaves = λ e h. no_true (sym h ∙ exchange_same s ∙ e);
    chain_comes = inl s.chain_same;
  }

  -- WAIT_PRM, which clears
  enters : (k : Control) {d : Drawn} → k.diagnosis ≡ c.diagnosis → k.chain ≡ c.chain → Clear → Lawful g c n Given Held Asked Clear At (entering_wait_prm k d)
  unfolding wait_prm
  enters k e f z = record {
    counts_stay = e;
    outputs_come = z;
    inputs_come = tt;
    parameters_come = tt;
    configuration_come = tt;
    leaves = λ _ _. refl;
    chain_comes = inl f;
  }

-- ---- the outcomes without data

-- nothing is published, received or brought, and zeros are published only if Clear
abbrev pub Quiet : Setup → Control → Type 0 → Outcome → Type 0
Quiet g c Clear o = Lawful g c 0 ⊥ ⊥ ⊥ Clear (λ _. ⊥) o

module _ (g : Setup) (c : Control) {Clear : Type 0} where
  -- nothing but a reply
  answers : (k : Control) (d : Drawn) → Akin c k → (is_outputs d ≡ true → in_exchange k ≡ true) → Quiet g c Clear (drawing k d)
  answers k d s _ = draws s.alike_is

  -- leave master, and an expired watchdog
  pub clear_quiet : (busy : Bool) → (busy ≡ false → Clear) → Quiet g c Clear (clear_on busy c)
  clear_quiet busy f = clear_cases (Quiet g c Clear) c answers busy (λ e k s h. enters k s h (f e))

  -- a noted clear where the line is idle
  pub clear_noted_quiet : (busy : Bool) → (busy ≡ false → Clear) → Quiet g c Clear (clear_noted busy c)
  clear_noted_quiet busy f = noted_cases (Quiet g c Clear) c answers busy (λ e k s h. enters k s h (f e))

  -- a Tick
  pub ticked_quiet : (busy : Bool) → (busy ≡ false → Clear) → Quiet g c Clear (ticked busy c)
  ticked_quiet busy f = ticked_cases (Quiet g c Clear) c answers busy (λ e k s h. enters k s h (f e))

  -- only sets that were there change
  moves : (k : Control) (p q : SetDeed) → k.diagnosis ≡ c.diagnosis → k.chain ≡ c.chain → (in_exchange c ≡ true → in_exchange k ≡ true)
      → Receives (⊥ × Within 7 0 g.parameter_len) p → Receives (⊥ × Within 1 0 g.configuration_len) q → Quiet g c Clear (changing_sets k p q)
  moves k p q e h f x y = record {
    counts_stay = e;
    outputs_come = tt;
    inputs_come = tt;
    parameters_come = x;
    configuration_come = y;
    leaves = λ i l. no_true (sym l ∙ f i);
    chain_comes = inl h;
  }

  -- the judgement of parameters
  pub parameters_quiet : (waits good : Bool) → Clear → Quiet g c Clear (judged_parameters c waits good)
  parameters_quiet waits good z =
      parameters_cases (Quiet g c Clear) c answers (λ k d s h _. enters k s h z) waits good
      (λ _. moves _ set-deed.Advance set-deed.Keep refl refl (λ i. i) tt tt) (λ _. moves _ set-deed.Drop set-deed.Keep refl refl (λ i. i) tt tt)

  -- and of configuration
  pub configuration_quiet : (waits good : Bool) → Clear → Quiet g c Clear (judged_configuration c waits good)
  unfolding data_exch
  configuration_quiet waits good z =
      configuration_cases (Quiet g c Clear) c answers (λ k d s h _. enters k s h z) waits good
      (λ _. moves _ set-deed.Keep set-deed.Advance refl refl (λ i. i) tt tt) (moves _ set-deed.Keep set-deed.Drop refl refl (λ _. refl) tt tt)

-- ---- the services

-- parameter OK before and after: it stays with the set that is shown, and a new set is not judged
abbrev pub Judges : SetDeed → Bool → Bool → Type 0
Judges set-deed.Keep before after = after ≡ before
Judges set-deed.Receive before after = after ≡ false
Judges set-deed.Advance before after = ⊥
Judges set-deed.Drop before after = Unit

-- what comes of a telegram; withheld: something is held back, reads: the held outputs may be drawn with that control part
pub record ServedBy (reads : Control → Bool) (g : Setup) (c : Control) (withheld : Bool) (r : Request) (o : Outcome) : Type 0 where
  pub lawful : Lawful g c r.count (Plain r) (withheld ≡ true) Unit Unit (To r) o
  -- where they may be drawn after it they might before, and it changes no set
  pub reads_before : reads o.control ≡ true → (reads c ≡ true) × (o.parameters ≡ set-deed.Keep) × (o.configuration ≡ set-deed.Keep)
  -- and only there it draws them
  pub draws_within : is_outputs o.drawn ≡ true → reads o.control ≡ true
  pub judges : Judges o.parameters c.flags.parameters_good o.control.flags.parameters_good

-- every telegram, repeats among them
abbrev pub Served : Setup → Control → Bool → Request → Outcome → Type 0
Served = ServedBy may_draw_outputs

-- a service, which draws them in DATA_EXCH alone
abbrev ServedAnew : Setup → Control → Bool → Request → Outcome → Type 0
ServedAnew = ServedBy in_exchange

-- the control part before may be one that is alike
served_from : {g : Setup} {c d : Control} {withheld : Bool} {r : Request} {o : Outcome} → Alike c d → ServedAnew g d withheld r o → ServedAnew g c withheld r o
served_from s v = record {
  lawful = record {
    counts_stay = v.lawful.counts_stay ∙ s.diagnosis_same;
    outputs_come = v.lawful.outputs_come;
    inputs_come = v.lawful.inputs_come;
    parameters_come = v.lawful.parameters_come;
    configuration_come = v.lawful.configuration_come;
    leaves = λ e. v.lawful.leaves (exchange_same s ∙ e);
    chain_comes = ⊎_elim (λ e. inl (e ∙ s.chain_same)) (λ x. inr x) v.lawful.chain_comes;
  };
  reads_before = λ e. let w = v.reads_before e in (sym (exchange_same s) ∙ w.0, w.1, w.2);
  draws_within = v.draws_within;
  judges = rw (sym s.good_same) v.judges;
}

module _ (g : Setup) (c : Control) (withheld : Bool) (r : Request) where
  -- nothing but a reply
  replies : (k : Control) (d : Drawn) → Akin c k → (is_outputs d ≡ true → in_exchange k ≡ true) → ServedAnew g c withheld r (drawing k d)
  replies k d s f =
      let a = s.alike_is in
      record { lawful = draws a; reads_before = λ e. (sym (exchange_same a) ∙ e, refl, refl); draws_within = f; judges = a.good_same }

  -- WAIT_PRM
  resets : (k : Control) (d : Drawn) → k.diagnosis ≡ c.diagnosis → k.chain ≡ c.chain → is_outputs d ≡ false → ServedAnew g c withheld r (entering_wait_prm k d)
  unfolding wait_prm
  resets k d e h f =
      record { lawful = enters k e h tt; reads_before = λ x. no_true x; draws_within = λ x. no_true (sym f ∙ x); judges = tt }

  -- zeros are published if DATA_EXCH is left
  zeros_come : (Given Held : Type 0) (t : Bool) → Publishes Given Held Unit (cond t outputs-deed.Zeros outputs-deed.Keep)
  zeros_come Given Held true = tt
  zeros_come Given Held false = tt

  zeros_leave : in_exchange c ≡ true → zeros_if_left c ≡ outputs-deed.Zeros
  zeros_leave e = ap (λ (t : Bool). cond t outputs-deed.Zeros outputs-deed.Keep) e

  -- a good Set_Prm
  prm_served : (opened : Bool) (p : Prm) → To r 61 → Within 7 r.count g.parameter_len → ServedAnew g c withheld r (good_prm c opened r p)
  unfolding parametrized wait_cfg
  prm_served opened p h w = record {
    lawful = record {
      counts_stay = refl;
      outputs_come = zeros_come _ _ (in_exchange c);
      inputs_come = tt;
      parameters_come = (h, w);
      configuration_come = tt;
      leaves = λ e _. zeros_leave e;
      chain_comes = inl refl;
    };
    reads_before = λ e. no_true e;
    draws_within = λ e. no_true e;
    judges = refl;
  }

  -- WAIT_CFG entered
  wait_cfg_same : ((wait_cfg c).flags.parameters_good ≡ c.flags.parameters_good) × ((wait_cfg c).diagnosis ≡ c.diagnosis) × ((wait_cfg c).chain ≡ c.chain)
  unfolding wait_cfg
  wait_cfg_same =
      by_test (λ (d : Control). (d.flags.parameters_good ≡ c.flags.parameters_good) × (d.diagnosis ≡ c.diagnosis) × (d.chain ≡ c.chain))
      (in_exchange c) (left c) c (λ _. (refl, refl, refl)) (λ _. (refl, refl, refl))

  -- a good Chk_Cfg
  cfg_served : (opened : Bool) → To r 62 → Within 1 r.count g.configuration_len → ServedAnew g c withheld r (good_cfg c opened)
  unfolding wait_cfg
  cfg_served opened h w = record {
    lawful = record {
      counts_stay = wait_cfg_same.1;
      outputs_come = zeros_come _ _ (in_exchange c);
      inputs_come = tt;
      parameters_come = tt;
      configuration_come = (h, w);
      leaves = λ e _. zeros_leave e;
      chain_comes = inl wait_cfg_same.2;
    };
    reads_before = λ e. no_true e;
    draws_within = λ e. no_true e;
    judges = wait_cfg_same.0;
  }

  -- something done to the outputs and the inputs: the phase and the sets stay
  moves_served : (k : Control) (m : Modes) (u : OutputsDeed) (v : InputsDeed) (x : Drawn) → Akin c k → is_outputs x ≡ false
      → Publishes (Plain r × (r.count ≡ g.output_len)) (withheld ≡ true) Unit u → ServedAnew g c withheld r (moving k m u v x)
  moves_served k m u v x s f p =
      let a = s.alike_is in
      record {
        lawful = record {
          counts_stay = a.diagnosis_same;
          outputs_come = p;
          inputs_come = brought v;
          parameters_come = tt;
          configuration_come = tt;
          leaves = λ e h. no_true (sym h ∙ exchange_same a ∙ e);
          chain_comes = inl a.chain_same;
        };
        reads_before = λ e. (sym (exchange_same a) ∙ e, refl, refl);
        draws_within = λ e. no_true (sym f ∙ e);
        judges = a.good_same;
      }
    where
      brought : (x : InputsDeed) → Brings Unit x
      brought inputs-deed.Keep = tt
      brought inputs-deed.Bring = tt

-- each service
serve_served : (g : Setup) (c : Control) (b : Occupied) (r : Request) (octets : Data) → ServedAnew g c b.outputs r (serve (service_of g r) g c b r octets)
serve_served g c b r octets =
    let w = b.outputs in
    serve_cases (ServedAnew g c w r) c (replies g c w r) (resets g c w r) g r b octets (prm_served g c w r b.parameters octets.prm) (cfg_served g c w r b.configuration)
    (λ k m u v x s f p _ _. moves_served g c w r k m u v x s f p) (service_of g r) (headed r g)

-- and it leaves the chain as it is
pub serve_chain : (g : Setup) (c : Control) (b : Occupied) (r : Request) (octets : Data) → (serve (service_of g r) g c b r octets).control.chain ≡ c.chain
unfolding wait_prm parametrized
serve_chain g c b r octets =
    serve_cases (λ o. o.control.chain ≡ c.chain) c (λ _ _ s _. s.alike_is.chain_same) (λ _ _ _ h _. h) g r b octets (λ _ _. refl)
    (λ _ _. (wait_cfg_same g c b.outputs r).2) (λ _ _ _ _ _ s _ _ _ _. s.alike_is.chain_same) (service_of g r) (headed r g)

-- the held outputs are drawn again only if they were drawn
drew_outputs : (g : Setup) (o : Outcome) → is_outputs (drew g o) ≡ true → is_outputs o.drawn ≡ true
drew_outputs g o =
    by_test (λ (d : Drawn). is_outputs d ≡ true → is_outputs o.drawn ≡ true) (is_exchange o.drawn && replies_e5 g o.control) _ _ (λ _ e. no_true e) (λ _ e. e)

-- the chain then
module _ {g : Setup} {c : Control} {withheld : Bool} {r : Request} {o : Outcome} (v : ServedAnew g c withheld r o) (same : o.control.chain ≡ c.chain)
    (unasked : is_request g r ≡ false → Silent o) where
  abbrev Stays : Type 0
  Stays = (may_draw_outputs c ≡ true) × (o.parameters ≡ set-deed.Keep) × (o.configuration ≡ set-deed.Keep)

  -- in DATA_EXCH
  within : in_exchange o.control ≡ true → Stays
  within e = let w = v.reads_before e in (or_first (in_exchange c) (is_outputs (drawn_in c.chain)) w.0, w.1, w.2)

  -- a repeat may draw the held outputs if the request drew them
  by_request : (t : Bool) → is_outputs (drawn_in (cond t (chain_of (master_of r) (fcb_of r) (drew g o)) no_chain)) ≡ true → Stays
  by_request true e = within (v.draws_within (drew_outputs g o (sym (ap is_outputs (drawn_in_lem (master_of r) (fcb_of r) (drew g o))) ∙ e)))
  by_request false e = no_true (sym (ap is_outputs none_drawn) ∙ e)

  by_chain : is_outputs (drawn_in (chain_after g o.control.chain r (drew g o))) ≡ true → Stays
  by_chain =
      by_test (λ (h : Chain). is_outputs (drawn_in h) ≡ true → Stays) (is_request g r) (chain_by r (drew g o)) o.control.chain
      (λ _. by_request (fcv_of r))
      (λ f e. (or_second (in_exchange c) (is_outputs (drawn_in c.chain)) (ap (λ (h : Chain). is_outputs (drawn_in h)) (sym same) ∙ e), (unasked f).0, (unasked f).1))

  -- a chain is in its ranges
  chain_in : (t : Bool) → ChainIn (cond t (chain_of (master_of r) (fcb_of r) (drew g o)) no_chain)
  chain_in true = let m : master_of r < 128 = mod-lt r.sa (omega arith) in (omega arith, chain_below (master_of r) (fcb_of r) (drew g o))
  chain_in false = (omega arith, omega arith)

  chained_served : Served g c withheld r (chained g r o)
  chained_served = record {
    lawful = record {
      counts_stay = v.lawful.counts_stay;
      outputs_come = v.lawful.outputs_come;
      inputs_come = v.lawful.inputs_come;
      parameters_come = v.lawful.parameters_come;
      configuration_come = v.lawful.configuration_come;
      leaves = v.lawful.leaves;
      chain_comes =
          either (λ (h : Chain). (h ≡ c.chain) ⊎ (Unit × ChainIn h)) (is_request g r) (inr (tt, chain_in (fcv_of r))) (inl same);
    };
    reads_before = λ e. ⊎_elim within by_chain (or_either (in_exchange o.control) _ e);
    draws_within = λ e. or_first (in_exchange o.control) _ (v.draws_within e);
    judges = v.judges;
  }

-- a repeat
repeated_served : (g : Setup) (c : Control) (withheld : Bool) (r : Request) → Served g c withheld r (repeated g c r)
repeated_served g c withheld r =
    let a = refilled_alike g c r in
    record {
      lawful = draws a;
      reads_before = λ e. (sym (may_draw_same a) ∙ e, refl, refl);
      draws_within = λ e. or_second (in_exchange (refilled g c r)) _ (ap (λ (h : Chain). is_outputs (drawn_in h)) a.chain_same ∙ e);
      judges = a.good_same;
    }

-- every telegram
pub served : (g : Setup) (c : Control) (b : Occupied) (r : Request) (octets : Data) → Served g c b.outputs r (outcome_by g c b r octets)
served g c b r octets =
    let k = refilled g c r in
    let a = refilled_alike g c r in
    either (Served g c b.outputs r) (is_repeat g c r) (repeated_served g c b.outputs r)
    (chained_served (served_from a (serve_served g k b r octets)) (serve_chain g k b r octets ∙ a.chain_same) (unasked_silent g k b r octets))

-- ---- the chain

-- an outcome without a telegram leaves the chain, so that one carried out without it is the same
pub chain_stays : {g : Setup} {c : Control} {Clear : Type 0} {o : Outcome} → Quiet g c Clear o → on_chain o c.chain ≡ o
chain_stays {g} {c} {Clear} {o} q = ⊎_elim (λ e. λ i. on_chain o (sym e i)) (λ x. absurd x.0) q.chain_comes
