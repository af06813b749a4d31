-- Stations without inputs or without outputs (specs/OneWay.antt).
use Prim.Native.Nat.{ℕ, ◌+◌, ◌*◌, ◌%◌, ◌≤◌, ◌<◌}
use native.Mathlib.Omega.{arith}
use mathlib.Core.Path.{◌≡◌, refl, sym, ap, subst, ◌∙◌}
use mathlib.Core.Bool.{Bool, true, false, cond, not, ◌&&◌, ◌||◌}
use mathlib.Core.List.{List, [], ◌∷◌}
use mathlib.Core.Logic.{⊎_elim}
use lib.Dec.{eqb, leb, ltb}
use lib.ListN.{length, drop, get_or}
use borrow.Author.Tests.{eq-eqb, ne_eqb, lt-leb, le-ltb}
use Rattle.buffers.specs.Events.{bit as eventBit, outputs_event}
use Rattle.buffers.proofs.Word.{raised_same}
use Rattle.telegram.specs.declared.Kind.TheVariants.{Sd1}
use Rattle.telegram.specs.Telegram.{Telegram, sd1, sd2, sd3, sd4, kind_of, da_of, data_of, octets_of, payload_of, Valid}
use Rattle.state.specs.declared.setup.Setup.{Setup}
use Rattle.state.specs.declared.control.Control.{Control}
use Rattle.state.specs.declared.control.Modes.{Modes}
use Rattle.state.specs.declared.answer.Refusal.TheVariants.{Range, Absent}
use Rattle.state.specs.declared.state.Drawn.{Drawn}
use Rattle.state.specs.declared.state.Drawn.TheVariants as drawn
use Rattle.state.specs.Layout.{state_length, input_row, row_base}
use Rattle.octets.specs.Part.{rounded_up}
use Rattle.state.proofs.Choice.{either}
use Rattle.rules.specs.declared.outcome.OutputsDeed.{OutputsDeed}
use Rattle.rules.specs.declared.outcome.OutputsDeed.TheVariants.{Keep, Publish, HoldBack, Release, Zeros}
use Rattle.rules.specs.declared.outcome.Outcome.{Outcome}
use Rattle.rules.specs.declared.request.Request.{Request}
use Rattle.rules.specs.declared.request.Service.{Service}
use Rattle.rules.specs.declared.request.Service.TheVariants.{Nothing, Status, Reject, GlobalControl, DataExchange}
use Rattle.rules.specs.Call.{Call}
use Rattle.rules.specs.Control.{owns}
use Rattle.rules.specs.Modes.{commands_sync, announced}
use Rattle.rules.specs.Phases.{drawing, wait_prm, entering_wait_prm}
use Rattle.rules.specs.Kinds.{kind_length}
use Rattle.rules.specs.Replies.{exchange_fc, replies_e5, is_exchange}
use Rattle.rules.specs.Requests.{master_of, acts, to_station, global_form, refilled, point_of, request_of, service_of}
use Rattle.rules.specs.Retries.{fcv_of, fcb_of, same, is_repeat, drew, chained}
use Rattle.rules.specs.Services.{exchanges, cfg_fault, good_exchange, data_exchange, controls, storing, obeyed, global_control, serve}
use Rattle.state.specs.Chain.{fcb_in}
use Rattle.rules.proofs.ByCases.{refilled_same}
use Rattle.rules.proofs.GoodExchange.{refilled_exchanges, exchange_good}
use Rattle.rules.proofs.Headed.{Headed, headed}
use Rattle.rules.proofs.Repeats.{by_repeat}
use Rattle.ledger.specs.Lists.{Outputs, Buffers}
use Rattle.ledger.specs.Ledger.{Ledger, with_buffers, occupied}
use Rattle.ledger.specs.Replies.{acknowledgement, answer, service_telegram, exchange_octets, exchange_reply, reply_octets, reply_of}
use Rattle.ledger.specs.Outcome.{on_outputs, on_buffers, settle}
use Rattle.ledger.specs.Bus.{request_by, data_by, outcome_of, answered, completed}
use Rattle.ledger.specs.User.{Told, told, refusing, absent, octets_of_kind, read_octet, written_octet, write_octet}
use Rattle.ledger.specs.ReadBack.{Fit}
use Rattle.ledger.specs.Repeats.{again, drew_by, SentAgain, after_calls, NoNewBetween}
use Rattle.ledger.specs.OneWay.{AsksBySd1, ComesAsSd1, OwnersExchange, Polled, GivenData, CommandsRelease, Releases, Replied, Remembers, KindsRefused, ReadsNothing, NoRoom, OneWay}
use Rattle.ledger.proofs.FlagKept.{FlagIn, Flagged, refilled_flag, settle_flag, after_flag}
use Rattle.ledger.proofs.Repeats.{setup_stays, drawn_again, e5_again}

-- a list of no octets
length_none : (xs : List ℕ) → length xs ≡ 0 → xs ≡ []
length_none [] e = refl
length_none (x ∷ xs) e = absurd (let z : length (x ∷ xs) ≡ 0 = e in omega arith)

-- a test beside one that fails
and_none : (p : Bool) → p && false ≡ false
and_none true = refl
and_none false = refl

-- ---------------------------------------------------------------------------------------------------
-- Data_Exchange without data is an SD1.

-- by the function of an SD1 that acts
sd1_asks : Request → ℕ → Service
sd1_asks r f =
    cond (eqb f 9) Status
    (cond (eqb f 3 || eqb f 5) Reject
    (cond (eqb f 4 || eqb f 6) (cond (global_form r) GlobalControl Nothing)
    (cond (eqb f 12 || eqb f 13) (request_of r) Nothing)))

asks_by_sd1 : AsksBySd1
unfolding service_of sd1_asks
asks_by_sd1 s da sa fc v a f =
    let r = request_by (sd1 da sa fc) in
    let plain : da < 128 = ⊎_elim (λ x. x.0) (λ x. absurd (let two = x.2 in omega arith)) v in
    let low = lt-leb 128 da plain in
    let asked : request_of r ≡ DataExchange = λ i. cond (not (low i)) DataExchange (cond (not (eqb r.ssap 62)) Reject (point_of r)) in
    let by : sd1_asks r (fc % 16) ≡ request_of r = ⊎_elim (λ e. ap (sd1_asks r) e) (λ e. ap (sd1_asks r) e) f in
    ((λ i. cond (a i) (sd1_asks r (fc % 16)) Nothing) ∙ by ∙ asked, ap (λ (x : Bool). cond x [] []) low)

-- without extension all data octets are the payload
payload_is : (t : Telegram) → da_of t ≤ 127 → payload_of t ≡ data_of t
payload_is t h = ap (λ (x : Bool). cond x (drop 2 (data_of t)) (data_of t)) (lt-leb 128 (da_of t) (omega arith))

-- SD4 asks for nothing
sd4_asks : (s : Setup) (da sa : ℕ) → service_of s (request_by (sd4 da sa)) ≡ Nothing
unfolding service_of
sd4_asks s da sa = either (λ (v : Service). v ≡ Nothing) (acts s (request_by (sd4 da sa))) refl refl

comes_as_sd1 : ComesAsSd1
comes_as_sd1 s t v e n = by_kind t v e (ap length (sym (payload_is t plain)) ∙ ap length n)
  where
    plain : da_of t ≤ 127
    plain = let p = subst (λ (x : Service). Headed x (request_by t)) e (headed (request_by t) s) in omega arith

    by_kind : (u : Telegram) → Valid u → service_of s (request_by u) ≡ DataExchange → length (data_of u) ≡ 0 → kind_of u ≡ Sd1
    by_kind (sd1 da sa fc) w f z = refl
    by_kind (sd2 da sa fc ds) w f z = absurd (let least = w.0 in omega arith)
    by_kind (sd3 da sa fc ds) w f z = absurd (let eight = w.0 in omega arith)
    by_kind (sd4 da sa) w f z = absurd (let q : Nothing ≡ DataExchange = sym (sd4_asks s da sa) ∙ f in let no : ◌≡◌ {A = ℕ} 0 1 = cc in omega arith)

-- ---------------------------------------------------------------------------------------------------
-- What refilling the watchdog leaves.

refilled_controls : (g : Setup) (c : Control) (r : Request) (second : ℕ) → controls (refilled g c r) r second ≡ controls c r second
unfolding refilled
refilled_controls g c r second =
    either (λ (k : Control). controls k r second ≡ controls c r second) (acts g r && to_station g r && owns c (master_of r)) refl refl

-- ---------------------------------------------------------------------------------------------------
-- What comes of a telegram that is no repeat.

module _ (l : Ledger) (t : Telegram) where
  abbrev g : Setup
  g = l.setup

  abbrev r : Request
  r = request_by t

  abbrev k : Control
  k = refilled g l.control r

  -- its service is served
  pub served : {v : Service} → is_repeat g l.control r ≡ false → service_of g r ≡ v
      → outcome_of l r (payload_of t) ≡ chained g r (serve v g k (occupied l) r (data_by (payload_of t)))
  served n e =
      by_repeat g l.control (occupied l) r (data_by (payload_of t)) n
      ∙ ap (λ (v : Service). chained g r (serve v g k (occupied l) r (data_by (payload_of t)))) e

  -- what an outcome leaves
  pub left_by : {o : Outcome} → outcome_of l r (payload_of t) ≡ o → completed l t ≡ answered l o (master_of r) (payload_of t)
  left_by e = ap (λ (x : Outcome). answered l x (master_of r) (payload_of t)) e

  -- ---- Data_Exchange

  module _ (a : OwnersExchange l t) where
    from_owner : exchanges k r ≡ true
    from_owner = refilled_exchanges g l.control r ∙ a.from_owner

    -- with as many octets as there are outputs
    good_outcome : length (payload_of t) ≡ g.output_len → outcome_of l r (payload_of t) ≡ chained g r (good_exchange k)
    good_outcome n = served a.new a.service ∙ ap (chained g r) (exchange_good g k r from_owner (eq-eqb (length (payload_of t)) g.output_len n))

    good : length (payload_of t) ≡ g.output_len → completed l t ≡ answered l (chained g r (good_exchange k)) (master_of r) (payload_of t)
    good n = left_by (good_outcome n)

    -- with another number
    wrong : (length (payload_of t) ≡ g.output_len → ⊥)
        → completed l t ≡ answered l (chained g r (entering_wait_prm (cfg_fault k) drawn.Rejected)) (master_of r) (payload_of t)
    unfolding data_exchange
    wrong n =
        left_by
        (served a.new a.service
        ∙ (λ i.
        chained g r
        (cond (not (from_owner i)) (drawing k drawn.Rejected)
        (cond (not (ne_eqb (length (payload_of t)) g.output_len n i)) (entering_wait_prm (cfg_fault k) drawn.Rejected) (good_exchange k)))))

    -- the mode stays
    sync_is : {x : Bool} → l.control.modes.sync ≡ x → k.modes.sync ≡ x
    sync_is e = ap (λ (m : Modes). m.sync) (refilled_same g l.control r).2 ∙ e

    -- the outputs after one without data, by the mode
    polled_outputs : (e : payload_of t ≡ []) → g.output_len ≡ 0 → {x : Bool} → l.control.modes.sync ≡ x
        → (completed l t).buffers.outputs ≡ on_outputs (cond x HoldBack Publish) l.buffers.outputs g.output_len []
    unfolding answered
    polled_outputs e z q =
        ap (λ (x : Ledger). x.buffers.outputs) (good (ap length e ∙ sym z))
        ∙ (λ i. on_outputs (cond (sync_is q i) HoldBack Publish) l.buffers.outputs g.output_len (e i))

    polled : g.output_len ≡ 0 → payload_of t ≡ [] → Polled l t
    unfolding answered
    polled z e = record {
      good = good (ap length e ∙ sym z) ∙ ap (answered l (chained g r (good_exchange k)) (master_of r)) e;
      publishes = λ q. ap (λ (x : Outputs). x.next) (polled_outputs e z q);
      is_new = λ q. (ap (λ (x : Outputs). x.fresh) (polled_outputs e z q), ap (λ (x : Outputs). x.zeros) (polled_outputs e z q));
      announces = λ q.
          ap (λ (x : Ledger). eventBit x.control.events.word outputs_event) (good (ap length e ∙ sym z))
          ∙ (λ i. eventBit (announced (cond (sync_is q i) HoldBack Publish) k.events).word outputs_event)
          ∙ raised_same k.events outputs_event (omega arith);
      holds_back = λ q. (ap (λ (x : Outputs). x.back) (polled_outputs e z q), ap (λ (x : Outputs). x.withheld) (polled_outputs e z q));
      next_stays = λ q. (ap (λ (x : Outputs). x.next) (polled_outputs e z q), ap (λ (x : Outputs). x.fresh) (polled_outputs e z q));
    }

    given_data : g.output_len ≡ 0 → (payload_of t ≡ [] → ⊥) → GivenData l t
    unfolding answered wait_prm
    given_data z e =
        let w = wrong (λ n. e (length_none (payload_of t) (n ∙ z))) in
        record {
          rejects = ap (λ (x : Ledger). x.line.reply) w;
          faults = ap (λ (x : Ledger). x.control.flags.cfg_fault) w;
          leaves = ap (λ (x : Ledger). x.control.phase) w;
        }

    -- the reply, by the inputs and Diag_Flag
    reply_is : length (payload_of t) ≡ g.output_len
        → (completed l t).line.reply ≡ reply_octets (exchange_reply g k (completed l t).buffers.inputs.sending (master_of r))
    unfolding answered
    reply_is n =
        ap (λ (x : Ledger). x.line.reply) (good n)
        ∙ sym (ap (λ (x : Ledger). reply_octets (exchange_reply g k x.buffers.inputs.sending (master_of r))) (good n))

    -- Diag_Flag is what it was
    flag_is : {x : Bool} → l.control.flags.diag_flag ≡ x → k.flags.diag_flag ≡ x
    flag_is e = refilled_flag g l.control r e

    -- it, by whether there are inputs and whether Diag_Flag is set
    abbrev reply_by_lem : (none flag : Bool) → List ℕ
    reply_by_lem none flag =
        reply_octets
        (cond (none && not flag) acknowledgement
        (answer (sd2 (master_of r) g.address (cond flag 0x0A 0x08) (cond none (0 ∷ []) (completed l t).buffers.inputs.sending))))

    replied : length (payload_of t) ≡ g.output_len → Replied l t
    replied n =
        let len = g.input_len in
        record {
          e5 = λ z f. reply_is n ∙ (λ i. reply_by_lem (eq-eqb len 0 z i) (flag_is f i));
          flagged = λ z f. reply_is n ∙ (λ i. reply_by_lem (eq-eqb len 0 z i) (flag_is f i));
          inputs = λ z. reply_is n ∙ (λ i. reply_by_lem (ne_eqb len 0 z i) (flag_is refl i));
        }

    -- E5 goes into the chain
    drew_e5 : length (payload_of t) ≡ g.output_len → g.input_len ≡ 0 → l.control.flags.diag_flag ≡ false → drew_by l t ≡ drawn.Acknowledge
    drew_e5 n z f =
        ap (drew g) (good_outcome n) ∙ (λ i. cond (eq-eqb g.input_len 0 z i && not (flag_is f i)) drawn.Acknowledge drawn.Exchange)

    -- and the SD2 does while Diag_Flag
    drew_exchange : length (payload_of t) ≡ g.output_len → g.input_len ≡ 0 → l.control.flags.diag_flag ≡ true → drew_by l t ≡ drawn.Exchange
    drew_exchange n z f =
        ap (drew g) (good_outcome n) ∙ (λ i. cond (eq-eqb g.input_len 0 z i && not (flag_is f i)) drawn.Acknowledge drawn.Exchange)

    -- which stays set
    flag_stays : length (payload_of t) ≡ g.output_len → Flagged l → Flagged (completed l t)
    unfolding answered
    flag_stays n f = ap (λ (x : Ledger). x.control.flags.diag_flag) (good n) ∙ flag_is f

  -- ---- Global_Control

  module _ (a : CommandsRelease l t) where
    abbrev first : ℕ
    first = (data_by (payload_of t)).first

    -- it repeats nothing
    new : is_repeat g l.control r ≡ false
    new =
        (λ i. acts g r && (a.function i && fcv_of r && eqb (master_of r) l.control.chain.master && same (fcb_of r) (fcb_in l.control.chain)))
        ∙ and_none (acts g r)

    -- it is obeyed
    commanded : completed l t ≡ answered l (chained g r (obeyed k l.buffers.outputs.withheld first)) (master_of r) (payload_of t)
    unfolding global_control
    commanded =
        left_by
        (served new a.service
        ∙ (λ i.
        chained g r
        (cond ((refilled_controls g l.control r (data_by (payload_of t)).second ∙ a.obeyed) i) (obeyed k l.buffers.outputs.withheld first)
        (drawing k drawn.Nothing))))

    -- what is held back is published
    releasing : (obeyed k l.buffers.outputs.withheld first).outputs ≡ Release
    releasing =
        λ i.
        cond (a.no_clear i) Zeros
        (cond ((ap (λ (m : Modes). commands_sync m first) (refilled_same g l.control r).2 ∙ a.commands) i && a.held_back i) Release Keep)

    released_outputs : (completed l t).buffers.outputs ≡ on_outputs Release l.buffers.outputs g.output_len (payload_of t)
    unfolding answered
    released_outputs =
        ap (λ (x : Ledger). x.buffers.outputs) commanded
        ∙ ap (λ (d : OutputsDeed). on_outputs d l.buffers.outputs g.output_len (payload_of t)) releasing

    releases : Releases l t
    unfolding answered
    releases = record {
      publishes = ap (λ (x : Outputs). x.next) released_outputs;
      is_new = (ap (λ (x : Outputs). x.fresh) released_outputs, ap (λ (x : Outputs). x.zeros) released_outputs);
      announces =
          ap (λ (x : Ledger). eventBit x.control.events.word outputs_event) commanded
          ∙ ap (λ (d : OutputsDeed). eventBit (announced d (storing k first).events).word outputs_event) releasing
          ∙ raised_same (storing k first).events outputs_event (omega arith);
      nothing_left = ap (λ (x : Outputs). x.withheld) released_outputs;
    }

-- ---------------------------------------------------------------------------------------------------
-- What the chain remembers.

module _ (g : Setup) (slice : List ℕ) (c : Control) (b : Buffers) (master : ℕ) where
  -- what is remembered of d
  abbrev remembered : Drawn → Drawn
  remembered d = cond (is_exchange d && replies_e5 g c) drawn.Acknowledge d

  -- a reply that begins with another octet is not E5
  not_e5 : {A : Type 0} (x : ℕ) (xs : List ℕ) → (x ≡ 0xE5 → ⊥) → x ∷ xs ≡ 0xE5 ∷ [] → A
  not_e5 x xs n e = absurd (n (ap (λ (ys : List ℕ). get_or ys 0 0) e))

  e5_remembered : (d : Drawn) → reply_of d g slice c b master ≡ 0xE5 ∷ [] → remembered d ≡ drawn.Acknowledge
  e5_remembered drawn.Nothing e = absurd (let z : length (reply_of drawn.Nothing g slice c b master) ≡ 1 = ap length e in omega arith)
  e5_remembered drawn.Acknowledge e = refl
  e5_remembered drawn.Status e = not_e5 _ _ (λ z. omega arith) e
  e5_remembered drawn.Rejected e = not_e5 _ _ (λ z. omega arith) e
  e5_remembered drawn.Exchange e = go (replies_e5 g c) e
    where
      go : (e5 : Bool) → reply_octets (cond e5 acknowledgement (answer (sd2 master g.address (exchange_fc c) (exchange_octets g b.inputs.sending)))) ≡ 0xE5 ∷ []
          → cond e5 drawn.Acknowledge drawn.Exchange ≡ drawn.Acknowledge
      go true f = refl
      go false f = not_e5 _ _ (λ z. omega arith) f
  e5_remembered drawn.Inputs e = not_e5 _ _ (λ z. omega arith) e
  e5_remembered drawn.Outputs e = not_e5 _ _ (λ z. omega arith) e
  e5_remembered drawn.Configuration e = not_e5 _ _ (λ z. omega arith) e
  e5_remembered drawn.Diagnosis e = not_e5 _ _ (λ z. omega arith) e

  other_remembered : (d : Drawn) → (reply_of d g slice c b master ≡ 0xE5 ∷ [] → ⊥) → remembered d ≡ d
  other_remembered drawn.Nothing n = refl
  other_remembered drawn.Acknowledge n = refl
  other_remembered drawn.Status n = refl
  other_remembered drawn.Rejected n = refl
  other_remembered drawn.Exchange n = go (replies_e5 g c) n
    where
      go : (e5 : Bool)
          → (reply_octets (cond e5 acknowledgement (answer (sd2 master g.address (exchange_fc c) (exchange_octets g b.inputs.sending)))) ≡ 0xE5 ∷ [] → ⊥)
          → cond e5 drawn.Acknowledge drawn.Exchange ≡ drawn.Exchange
      go true f = absurd (f refl)
      go false f = refl
  other_remembered drawn.Inputs n = refl
  other_remembered drawn.Outputs n = refl
  other_remembered drawn.Configuration n = refl
  other_remembered drawn.Diagnosis n = refl

remembers : (l : Ledger) (t : Telegram) → Remembers l t
unfolding answered
remembers l t =
    let o = outcome_of l (request_by t) (payload_of t) in
    let b = on_buffers o l.setup (payload_of t) l.buffers in
    record {
      e5 = e5_remembered l.setup l.slice o.control b (master_of (request_by t)) o.drawn;
      other = other_remembered l.setup l.slice o.control b (master_of (request_by t)) o.drawn;
    }

-- ---------------------------------------------------------------------------------------------------
-- The SD2 is drawn again.

-- the reply to a Data_Exchange without inputs while Diag_Flag
flagged_reply : (g : Setup) (slice : List ℕ) (c : Control) (b : Buffers) (master : ℕ) → g.input_len ≡ 0 → FlagIn c
    → reply_of drawn.Exchange g slice c b master ≡ octets_of (sd2 master g.address 0x0A (0x00 ∷ []))
flagged_reply g slice c b master z f =
    let none = eq-eqb g.input_len 0 z in
    λ i.
    reply_octets
    (cond (none i && not (f i)) acknowledgement
    (answer (sd2 master g.address (cond (f i) 0x0A 0x08) (cond (none i) (0 ∷ []) b.inputs.sending))))

-- the repeat draws it, since Diag_Flag is set still and the setup is the same
flagged_again : (l : Ledger) (t u : Telegram) (cs : List Call) → OwnersExchange l t → length (payload_of t) ≡ l.setup.output_len
    → l.setup.input_len ≡ 0 → Flagged l → SentAgain l t u → NoNewBetween l t cs
    → (completed (after_calls l t cs) u).line.reply ≡ octets_of (sd2 (master_of (request_by u)) l.setup.address 0x0A (0x00 ∷ []))
flagged_again l t u cs a n z f s b =
    let p = after_calls l t cs in
    let q = request_by u in
    let same = setup_stays l t cs in
    let flag = after_flag (settle (completed l t)) cs b (settle_flag (completed l t) (flag_stays l t a n f)) in
    ap (λ (m : Ledger). m.line.reply) (drawn_again l t u cs s b ∙ ap (λ (d : Drawn). again d p u) (drew_exchange l t a n z f))
    ∙ flagged_reply p.setup p.slice (refilled p.setup p.control q) p.buffers (master_of q)
    (ap (λ (x : Setup). x.input_len) same ∙ z) (refilled_flag p.setup p.control q flag)
    ∙ ap (λ (x : Setup). octets_of (sd2 (master_of q) x.address 0x0A (0x00 ∷ []))) same

-- ---------------------------------------------------------------------------------------------------
-- Lists without an octet.

-- no index is below 0
none_in : (s : Setup) (kind index : ℕ) (low : ℕ) → kind_length s kind ≡ 0 → (leb low index && ltb index (kind_length s kind)) ≡ false
none_in s kind index low z = (λ i. leb low index && (ap (ltb index) z ∙ le-ltb index 0 (omega arith)) i) ∙ and_none (leb low index)

-- what is out of range is refused first
range_first : (l : Ledger) (t : Told) {p : Bool} → p ≡ false → cond (not p) (refusing Range l) t ≡ refusing Range l
range_first l t e = ap (λ (p : Bool). cond (not p) (refusing Range l) t) e

kinds_refused : (l : Ledger) (index : ℕ) → KindsRefused l index
unfolding read_octet write_octet
kinds_refused l index =
    let reading : ℕ → Told = λ kind. cond (absent l kind index) (refusing Absent l) (told (get_or (octets_of_kind l.buffers kind) index 0) l) in
    let writing : ℕ → Told = λ x. cond (absent l 4 index) (refusing Absent l) (told 0 (with_buffers l (written_octet l.buffers 4 index x))) in
    record {
      outputs = λ z. range_first l (reading 1) (none_in l.setup 1 index 0 z);
      inputs = λ z. range_first l (reading 4) (none_in l.setup 4 index 0 z);
      written = λ x z. range_first l (writing x) (none_in l.setup 4 index 0 z);
    }

reads_nothing : (l : Ledger) → Fit l → (c : Control) (master : ℕ) → ReadsNothing l c master
reads_nothing l f c master = record {
  inputs = λ z. ap (λ (xs : List ℕ). answer (service_telegram l.setup master 56 xs)) (length_none l.buffers.inputs.sending (f.lists.inputs.sending ∙ z));
  outputs = λ z. ap (λ (xs : List ℕ). answer (service_telegram l.setup master 57 xs)) (length_none l.buffers.outputs.held (f.lists.outputs.held ∙ z));
}

no_room : (s : Setup) → NoRoom s
unfolding row_base rounded_up
no_room s = record {
  outputs = λ z. ap (λ (n : ℕ). state_length + rounded_up n * 4) z;
  inputs = λ z. ap (λ (n : ℕ). row_base s input_row + rounded_up n * 3) z ∙ omega arith;
}

pub one_way : OneWay
one_way = record {
  asks_by_sd1 = asks_by_sd1;
  comes_as_sd1 = comes_as_sd1;
  polled = polled;
  given_data = given_data;
  releases = releases;
  replied = replied;
  remembers = remembers;
  e5_again = λ l t u cs a n z f s b. e5_again l t u cs s (drew_e5 l t a n z f) b;
  flagged_again = flagged_again;
  kinds_refused = kinds_refused;
  reads_nothing = reads_nothing;
  no_room = no_room;
}
