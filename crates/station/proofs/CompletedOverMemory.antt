-- The last octet of a telegram over the memory, part by part: the memory then holds the state after it.
use Rattle.std.proofs.Common.{◌≡◌, ℕ, true, false, cond, not, ◌&&◌, eqb, List, sym, refl, ap, ◌∙◌, subst}
use Rattle.buffers.specs.declared.events.Events.{Events}
use Rattle.buffers.specs.declared.triple.Triple.{Triple}
use Rattle.buffers.specs.Roles.{held_of}
use Rattle.telegram.proofs.Run.{no_true}
use Rattle.state.specs.declared.setup.Setup.{Setup}
use Rattle.state.specs.declared.chain.Chain.{Chain}
use Rattle.state.specs.declared.control.Modes.{Modes}
use Rattle.state.specs.declared.control.Control.{Control}
use Rattle.state.specs.declared.state.Drawn.{Drawn}
use Rattle.state.specs.declared.state.Drawn.TheVariants as drawn
use Rattle.state.specs.declared.state.Header.{Header}
use Rattle.state.specs.declared.state.Incoming.{Incoming}
use Rattle.state.specs.declared.state.Outputs.{Outputs}
use Rattle.state.specs.declared.state.Reply.{Reply}
use Rattle.state.specs.declared.state.State.{State}
use Rattle.state.specs.Chain.{drawn_in}
use Rattle.state.specs.Memory.{kept, Changes}
use Rattle.state.specs.With.{with_control, with_control_but_chain, with_outputs, with_inputs, with_incoming, with_reply, with_event_word, with_ticks, with_chain}
use Rattle.state.proofs.Choice.{either, and_left, and_right}
use Rattle.state.proofs.Written.{again, onto, then}
use Rattle.rules.specs.declared.outcome.OutputsDeed.{OutputsDeed}
use Rattle.rules.specs.declared.outcome.OutputsDeed.TheVariants as outputs-deed
use Rattle.rules.specs.declared.outcome.InputsDeed.{InputsDeed}
use Rattle.rules.specs.declared.outcome.Outcome.{Outcome}
use Rattle.rules.specs.declared.request.Request.{Request}
use Rattle.rules.specs.declared.request.Service.{Service}
use Rattle.rules.specs.declared.request.Service.TheVariants.{Nothing, Status, Reject, GlobalControl, DataExchange, SetPrm, ChkCfg, SlaveDiag, GetCfg, ReadInputs, ReadOutputs}
use Rattle.rules.specs.Control.{owns, with_events}
use Rattle.rules.specs.Control as part
use Rattle.rules.specs.Diagnosis.{header_of}
use Rattle.rules.specs.Modes.{exchange_outputs, exchange_inputs, announced}
use Rattle.rules.specs.Phases.{drawing}
use Rattle.rules.specs.Replies.{replies_e5, is_exchange}
use Rattle.rules.specs.Requests.{master_of, acts, to_station, refilled, function_service, service_of}
use Rattle.rules.specs.Retries.{asks, is_request, chain_by, chain_after, on_chain, drew, chained, repeated}
use Rattle.rules.specs.Services.{exchanges, good_exchange, slave_diag, serve}
use Rattle.rules.proofs.Alike.{refilled_alike}
use Rattle.rules.proofs.GoodExchange.{refilled_exchanges, exchange_good, others_drawn}
use Rattle.rules.proofs.Served.{serve_chain}
use Rattle.rules.proofs.Unasked.{Unasked, request_asked}
use Rattle.steps.specs.Stepped.{packed_after}
use Rattle.steps.specs.Outcome.{occupied, on_outputs, on_inputs, on_state, on_memory, carried}
use Rattle.steps.specs.Reading.{data_in, outcome_of, answered}
use Rattle.steps.specs.Replies.{exchange_sender, reply_for}
use Rattle.station.specs.Completing.{served, is_repeat_in, is_data_exchange, is_good_exchange, exchange_drew, replied_with}

-- the service of a telegram that acts
pub acting_service : (g : Setup) (r : Request) → acts g r ≡ true → function_service r ≡ service_of g r
unfolding service_of
acting_service g r e = λ j. cond (sym e j) (function_service r) Nothing

-- ---- what comes of a telegram by the chain

module _ (s : State) (m : List ℕ) (r : Request) where
  -- a repeat draws what the earlier request drew
  drawn_again : is_repeat_in s r ≡ true → outcome_of s m r ≡ drawing (refilled s.setup s.control r) (drawn_in s.control.chain)
  unfolding outcome_of
  drawn_again e = λ j. cond (e j) (repeated s.setup s.control r) (chained s.setup r (served s m r))

  module _ (e : is_repeat_in s r ≡ false) where
    -- of any other the service is served, and the chain goes on
    served_once : outcome_of s m r ≡ on_chain (served s m r) (chain_after s.setup s.control.chain r (drew s.setup (served s m r)))
    unfolding outcome_of
    served_once =
        let g = s.setup in
        let c = s.control in
        let stays : (served s m r).control.chain ≡ c.chain = serve_chain g (refilled g c r) (occupied s) r (data_in s m) ∙ (refilled_alike g c r).chain_same in
        (λ j. cond (e j) (repeated g c r) (chained g r (served s m r)))
        ∙ (λ j. on_chain (served s m r) (chain_after g (stays j) r (drew g (served s m r))))

    -- what is not a good Data_Exchange goes into it as it was drawn
    pub others_once : is_good_exchange s r ≡ false
        → outcome_of s m r ≡ on_chain (served s m r) (chain_after s.setup s.control.chain r (served s m r).drawn)
    others_once bad =
        let g = s.setup in
        let o = served s m r in
        let fits = eqb r.count g.output_len in
        let other : is_exchange o.drawn ≡ false =
        others_drawn (service_of g r) g (refilled g s.control r) (occupied s) r (data_in s m)
        (λ v. (λ j. refilled_exchanges g s.control r j && fits) ∙ (λ j. is_data_exchange (sym v j) && exchanges s.control r && fits) ∙ bad)
        in
        served_once ∙ (λ j. on_chain o (chain_after g s.control.chain r (cond (other j && replies_e5 g o.control) drawn.Acknowledge o.drawn)))

    -- by the request itself where it is one
    request_once : (o : Outcome) → served s m r ≡ o → is_request s.setup r ≡ true → outcome_of s m r ≡ on_chain o (chain_by r (drew s.setup o))
    request_once o f asks = served_once ∙ (λ j. on_chain (f j) (cond (asks j) (chain_by r (drew s.setup (f j))) s.control.chain))

-- ---- what comes of a good Data_Exchange

-- no other service is it
is_data_exchange_lem : (x : Service) → is_data_exchange x ≡ true → x ≡ DataExchange
is_data_exchange_lem Nothing e = no_true e
is_data_exchange_lem Status e = no_true e
is_data_exchange_lem Reject e = no_true e
is_data_exchange_lem GlobalControl e = no_true e
is_data_exchange_lem DataExchange e = refl
is_data_exchange_lem SetPrm e = no_true e
is_data_exchange_lem ChkCfg e = no_true e
is_data_exchange_lem SlaveDiag e = no_true e
is_data_exchange_lem GetCfg e = no_true e
is_data_exchange_lem ReadInputs e = no_true e
is_data_exchange_lem ReadOutputs e = no_true e

-- such a telegram has the outcome of a good Data_Exchange
exchange_is_good : (s : State) (m : List ℕ) (r : Request) → is_good_exchange s r ≡ true → is_repeat_in s r ≡ false
    → let k = refilled s.setup s.control r in
    outcome_of s m r ≡ on_chain (good_exchange k) (chain_by r (exchange_drew s.setup k))
exchange_is_good s m r e new =
    let g = s.setup in
    let c = s.control in
    let asked = is_data_exchange (service_of g r) in
    let fits = eqb r.count g.output_len in
    let both = and_left (asked && exchanges c r) fits e in
    let service = is_data_exchange_lem (service_of g r) (and_left asked (exchanges c r) both) in
    request_once s m r new _
    ((λ j. serve (service j) g (refilled g c r) (occupied s) r (data_in s m))
    ∙ exchange_good g (refilled g c r) r (refilled_exchanges g c r ∙ and_right asked (exchanges c r) both) (and_right (asked && exchanges c r) fits e))
    (request_asked g r (subst Unasked service))

-- of the control part only the ticks that remain change by a repeat
ticks_alone : (s : State) (r : Request)
    → let k = refilled s.setup s.control r in
    (with_ticks s k.watchdog.remaining).control ≡ k
unfolding refilled
ticks_alone s r =
    either (λ (k : Control). (with_ticks s k.watchdog.remaining).control ≡ k)
    (acts s.setup r && to_station s.setup r && owns s.control (master_of r)) refl refl

-- and the events too by a good Data_Exchange
only_ticks : (s : State) (r : Request) (e : Events)
    → let k = refilled s.setup s.control r in
    (with_ticks (with_event_word s e) k.watchdog.remaining).control ≡ with_events k e
unfolding refilled
only_ticks s r e =
    either (λ (k : Control). (with_ticks (with_event_word s e) k.watchdog.remaining).control ≡ with_events k e)
    (acts s.setup r && to_station s.setup r && owns s.control (master_of r)) refl refl

-- ---- what comes of Slave_Diag

-- the diagnosis is drawn, and nothing but the control part changes
diagnosis_drawn : (s : State) (m : List ℕ) (r : Request) → service_of s.setup r ≡ SlaveDiag → is_repeat_in s r ≡ false
    → outcome_of s m r ≡ on_chain (drawing (slave_diag (refilled s.setup s.control r) r).control drawn.Diagnosis) (chain_by r drawn.Diagnosis)
unfolding slave_diag
diagnosis_drawn s m r e new =
    let k : Control = refilled s.setup s.control r in
    request_once s m r new _
    ((λ j. serve (e j) s.setup k (occupied s) r (data_in s m))
    ∙ either (λ (o : Outcome). o ≡ drawing o.control drawn.Diagnosis) (owns k (master_of r) && not k.flags.stat_diag) refl refl)
    (request_asked s.setup r (subst Unasked e))

-- ---- the reply

-- a reply drawn by parts of a state: it is that of every state that has them
abbrev Draws : Drawn → Setup → Control → ℕ → ℕ → Reply → Type 0
Draws d setup c held master x =
    (t : State) → t.setup ≡ setup → t.control ≡ c → held_of t.outputs.set.place ≡ held → x ≡ reply_for d t master

-- it does not look at the chain
chain_draw : (d : Drawn) (s : State) (c : Control) (h : Chain) (master : ℕ)
    → reply_for d (with_control s c) master ≡ reply_for d (with_control s (part.with_chain c h)) master
unfolding reply_for header_of
chain_draw drawn.Nothing s c h master = refl
chain_draw drawn.Acknowledge s c h master = refl
chain_draw drawn.Status s c h master = refl
chain_draw drawn.Rejected s c h master = refl
chain_draw drawn.Exchange s c h master = refl
chain_draw drawn.Inputs s c h master = refl
chain_draw drawn.Outputs s c h master = refl
chain_draw drawn.Configuration s c h master = refl
chain_draw drawn.Diagnosis s c h master = refl

-- that to a Data_Exchange, made of its parts, looks at neither the events nor the chain
exchange_drawn : (s : State) (c : Control) (e : Events) (h : Chain) (master : ℕ)
    → replied_with (exchange_sender s.setup c master) (held_of s.outputs.set.place) (header_of c)
    ≡ reply_for drawn.Exchange (with_control s (part.with_chain (with_events c e) h)) master
unfolding reply_for header_of
exchange_drawn s c e h master = refl

-- ---- the memory

-- zeros in a buffer do not depend on the telegram that is coming
zeros_same : (d : OutputsDeed) (s : State) (i : Incoming) (m : List ℕ) → on_memory d s m ≡ on_memory d (with_incoming s i) m
zeros_same outputs-deed.Keep s i m = refl
zeros_same outputs-deed.Publish s i m = refl
zeros_same outputs-deed.HoldBack s i m = refl
zeros_same outputs-deed.Release s i m = refl
zeros_same outputs-deed.Zeros s i m = refl

-- a Data_Exchange writes none
exchange_leaves : (q : Modes) (s : State) (m : List ℕ) → m ≡ on_memory (exchange_outputs q) s m
exchange_leaves q s m = either (λ (d : OutputsDeed). m ≡ on_memory d s m) q.sync refl refl

-- the parts as the code has them: the setup and the output set that it read, that set after the deed, the place of the held outputs, the master
module _ (m : List ℕ) (s : State) (i : Incoming) (r : Request) (setup : Setup) (was outputs : Outputs) (held master : ℕ) (read : setup ≡ s.setup)
    (read-outputs : was ≡ s.outputs) (holds : held ≡ held_of outputs.set.place) (names : master ≡ master_of r) where
  -- the reply is that of a state with these outputs
  drawn_for : (d : Drawn) (c : Control) (x : Reply) → Draws d setup c held master x → (t : State) → t.setup ≡ s.setup → t.control ≡ c
      → outputs ≡ t.outputs → x ≡ reply_for d t (master_of r)
  drawn_for d c x draws t e f g = draws t (e ∙ sym read) f (sym (holds ∙ (λ j. held_of (g j).set.place))) ∙ ap (reply_for d t) names

  -- an outcome carried out, the telegram read to its end, and the reply drawn
  pub answered_over : acts s.setup r ≡ true → (o : Outcome) (x : Reply) → outputs ≡ on_outputs o.outputs was
      → Draws o.drawn setup o.control held master x
      → (n₁ n₂ n₃ n₄ : List ℕ) → n₁ ≡ packed_after (carried s m (on_chain o s.control.chain) r.count) → Changes n₁ n₂ (λ t. with_incoming t i)
      → Changes n₂ n₃ (λ t. with_reply t x) → Changes n₃ n₄ (λ t. with_chain t (cond (asks r) (chain_by r o.drawn) t.control.chain))
      → n₄ ≡ packed_after (answered (with_incoming s i) m (on_chain o (chain_after s.setup s.control.chain r o.drawn)) r)
  unfolding carried answered
  answered_over acting o x done draws n₁ n₂ n₃ n₄ e p₂ p₃ p₄ =
      let l : List ℕ = on_memory o.outputs s m in
      let h : Chain = cond (asks r) (chain_by r o.drawn) s.control.chain in
      let s₁ : State = on_state s (on_chain o s.control.chain) r.count in
      let s₂ : State = with_incoming s₁ i in
      let s₃ : State = with_reply s₂ x in
      let t : State = on_state (with_incoming s i) (on_chain o h) r.count in
      let e₂ : n₂ ≡ kept s₂ l = onto l n₁ n₂ s₁ s₂ e (p₂ s₁ (again l n₁ s₁ e)) in
      let e₃ : n₃ ≡ kept s₃ l = onto l n₂ n₃ s₂ s₃ e₂ (p₃ s₂ (again l n₂ s₂ e₂)) in
      let replies : x ≡ reply_for o.drawn t (master_of r) =
      drawn_for o.drawn o.control x draws (with_control t o.control) refl refl (done ∙ ap (on_outputs o.outputs) read-outputs)
      ∙ chain_draw o.drawn t o.control h (master_of r)
      in
      onto l n₃ n₄ s₃ (with_reply t x) e₃ (p₄ s₃ (again l n₃ s₃ e₃))
      ∙ (λ j. kept (with_reply t (replies j)) (zeros_same o.outputs s i m j))
      ∙ (λ j.
      packed_after
      (answered (with_incoming s i) m (on_chain o (cond (sym acting j && asks r) (chain_by r o.drawn) s.control.chain)) r))

  -- a good Data_Exchange: the telegram, the events, the ticks that remain, both sets, and the chain with the reply
  pub exchanged_over : m ≡ kept s m → is_good_exchange s r ≡ true → is_repeat_in s r ≡ false → (c control : Control) (deed : OutputsDeed) (way : InputsDeed) (inputs brings : Triple)
      (events : Events) (header : Header) → c ≡ s.control → control ≡ refilled setup c r → deed ≡ exchange_outputs control.modes
      → outputs ≡ on_outputs deed was → way ≡ exchange_inputs control.modes → inputs ≡ s.inputs → brings ≡ on_inputs way inputs
      → events ≡ announced deed control.events → header ≡ header_of control
      → (n₁ n₂ n₃ n₄ n₅ n₆ : List ℕ) → Changes m n₁ (λ t. with_incoming t i) → Changes n₁ n₂ (λ t. with_event_word t events)
      → Changes n₂ n₃ (λ t. with_ticks t control.watchdog.remaining) → Changes n₃ n₄ (λ t. with_outputs t outputs)
      → Changes n₄ n₅ (λ t. with_inputs t brings)
      → Changes n₅ n₆ (λ t. with_reply (with_chain t (chain_by r (exchange_drew setup control))) (replied_with (exchange_sender setup control (master_of r)) held header))
      → n₆ ≡ packed_after (answered (with_incoming s i) m (outcome_of s m r) r)
  unfolding carried answered
  exchanged_over front good new c control deed way inputs brings events header ec er ed eo ew ei eb ev eh n₁ n₂ n₃ n₄ n₅ n₆ p₁ p₂ p₃ p₄ p₅ p₆ =
      let k : Control = refilled s.setup s.control r in
      let link : Chain = chain_by r (exchange_drew s.setup k) in
      let t : State = on_state (with_incoming s i) (on_chain (good_exchange k) link) r.count in
      let refills : control ≡ k = er ∙ (λ j. refilled (read j) (ec j) r) in
      let does : deed ≡ exchange_outputs k.modes = ed ∙ (λ j. exchange_outputs (refills j).modes) in
      let goes : way ≡ exchange_inputs k.modes = ew ∙ (λ j. exchange_inputs (refills j).modes) in
      let publishes : outputs ≡ t.outputs = eo ∙ (λ j. on_outputs (does j) (read-outputs j)) in
      let announces : events ≡ t.control.events = ev ∙ (λ j. announced (does j) (refills j).events) in
      let holds-it : held ≡ held_of t.outputs.set.place = holds ∙ (λ j. held_of (publishes j).set.place) in
      let replies : replied_with (exchange_sender setup control (master_of r)) held header ≡ reply_for drawn.Exchange t (master_of r) =
      (λ j. replied_with (exchange_sender (read j) (refills j) (master_of r)) (holds-it j) ((eh ∙ ap header_of refills) j))
      ∙ exchange_drawn t k t.control.events link (master_of r)
      in
      then m n₅ n₆ _ _ (then m n₄ n₅ _ _ (then m n₃ n₄ _ _ (then m n₂ n₃ _ _ (then m n₁ n₂ _ _ p₁ p₂) p₃) p₄) p₅) p₆ s front
      ∙ (λ j.
      kept
      (record {
        setup = s.setup;
        control = (with_chain (with_ticks (with_event_word s (announces j)) (refills j).watchdog.remaining) (chain_by r (exchange_drew (read j) (refills j)))).control;
        outputs = publishes j;
        inputs = (eb ∙ (λ l. on_inputs (goes l) (ei l))) j;
        parameters = s.parameters;
        configuration = s.configuration;
        swapped = s.swapped;
        incoming = i;
        reply = replies j;
      })
      m)
      ∙ (λ j. kept (with_reply (with_control t (part.with_chain (only_ticks s r t.control.events j) link)) (reply_for drawn.Exchange t (master_of r)))
      (exchange_leaves k.modes (with_incoming s i) m j))
      ∙ ap (λ (o : Outcome). packed_after (answered (with_incoming s i) m o r)) (sym (exchange_is_good s m r good new))

  -- Slave_Diag: the telegram, the control part, the chain and the reply
  pub diagnosed_over : m ≡ kept s m → service_of s.setup r ≡ SlaveDiag → is_repeat_in s r ≡ false → (c control : Control) (o : Outcome) (h : Chain) (x : Reply)
      → c ≡ s.control → control ≡ refilled setup c r → o ≡ slave_diag control r → h ≡ chain_by r drawn.Diagnosis → outputs ≡ was
      → Draws drawn.Diagnosis setup o.control held master x → (n₁ n₂ n₃ n₄ : List ℕ) → Changes m n₁ (λ t. with_incoming t i)
      → Changes n₁ n₂ (λ t. with_control_but_chain t o.control) → Changes n₂ n₃ (λ t. with_chain t h) → Changes n₃ n₄ (λ t. with_reply t x)
      → n₄ ≡ packed_after (answered (with_incoming s i) m (outcome_of s m r) r)
  unfolding carried answered
  diagnosed_over front asks new c control o h x ec er eo eh same draws n₁ n₂ n₃ n₄ p₁ p₂ p₃ p₄ =
      let t : State = with_control (with_incoming s i) (part.with_chain o.control h) in
      let refills : control ≡ refilled s.setup s.control r = er ∙ (λ j. refilled (read j) (ec j) r) in
      let serves : o ≡ slave_diag (refilled s.setup s.control r) r = eo ∙ (λ j. slave_diag (refills j) r) in
      then m n₃ n₄ _ _ (then m n₂ n₃ _ _ (then m n₁ n₂ _ _ p₁ p₂) p₃) p₄ s front
      ∙ ap (λ (y : Reply). kept (with_reply t y) m)
      (drawn_for drawn.Diagnosis o.control x draws (with_control t o.control) refl refl (same ∙ read-outputs)
      ∙ chain_draw drawn.Diagnosis t o.control h (master_of r))
      ∙ (λ j. packed_after (answered (with_incoming s i) m (on_chain (drawing (serves j).control drawn.Diagnosis) (eh j)) r))
      ∙ ap (λ (y : Outcome). packed_after (answered (with_incoming s i) m y r)) (sym (diagnosis_drawn s m r asks new))

  -- a repeat: the telegram, the ticks that remain and the reply
  pub repeated_over : m ≡ kept s m → is_repeat_in s r ≡ true → (c control : Control) (d : Drawn) (x : Reply) → c ≡ s.control → control ≡ refilled setup c r
      → d ≡ drawn_in control.chain → outputs ≡ was → Draws d setup control held master x → (n₁ n₂ n₃ : List ℕ) → Changes m n₁ (λ t. with_incoming t i)
      → Changes n₁ n₂ (λ t. with_ticks t control.watchdog.remaining) → Changes n₂ n₃ (λ t. with_reply t x)
      → n₃ ≡ packed_after (answered (with_incoming s i) m (outcome_of s m r) r)
  unfolding carried answered
  repeated_over front repeats c control d x ec er ed same draws n₁ n₂ n₃ p₁ p₂ p₃ =
      let k : Control = refilled s.setup s.control r in
      let t : State = with_control (with_incoming s i) k in
      let refills : control ≡ k = er ∙ (λ j. refilled (read j) (ec j) r) in
      let drew : d ≡ drawn_in s.control.chain =
      ed ∙ (λ j. drawn_in (refills j).chain) ∙ ap drawn_in (refilled_alike s.setup s.control r).chain_same
      in
      then m n₂ n₃ _ _ (then m n₁ n₂ _ _ p₁ p₂) p₃ s front
      ∙ (λ j. kept (with_reply (with_ticks (with_incoming s i) (refills j).watchdog.remaining) x) m)
      ∙ (λ j. kept (with_reply (with_control (with_incoming s i) (ticks_alone s r j)) (drawn_for d control x draws t refl (sym refills) (same ∙ read-outputs) j)) m)
      ∙ (λ j. packed_after (answered (with_incoming s i) m (drawing k (drew j)) r))
      ∙ ap (λ (y : Outcome). packed_after (answered (with_incoming s i) m y r)) (sym (drawn_again s m r repeats))
