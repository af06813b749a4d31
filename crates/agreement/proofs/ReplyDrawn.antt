-- The reply drawn: the sender sends the ledger's reply, and each of its data octets is read where the station says.
use Prim.Native.Nat.{ℕ, suc, zero, ◌+◌, ◌-◌, ◌%◌, ◌≤◌, ◌<◌}
use native.Mathlib.Nat.{mod-eq_of_lt}
use native.Mathlib.Omega.{arith}
use mathlib.Core.Path.{◌≡◌, refl, sym, ap, ◌∙◌}
use mathlib.Core.Bool.{Bool, true, false, cond}
use mathlib.Core.List.{List, [], ◌∷◌, ◌++◌}
use mathlib.Core.Logic.{inl, inr}
use lib.Dec.{eqb, ltb}
use lib.ListN.{length, get_or, take, drop, length-append, length-take, length-drop}
use lib.Seq.{get_or-take, get_or-drop, get_or-append-add}
use borrow.Author.Tests.{ltb-true, ltb-false, ne_eqb, eqb-true, eqb-false}
use Rattle.buffers.specs.Roles.{fill_of, held_of}
use Rattle.buffers.specs.Roles as role
use Rattle.octets.specs.Part.{part}
use Rattle.octets.proofs.Parts.{part_length}
use Rattle.telegram.specs.declared.Kind.TheVariants.{Sd2}
use Rattle.telegram.specs.Telegram.{sd1, sd2, octets_of}
use Rattle.telegram.specs.Sending.{empty, single, sending}
use Rattle.telegram.specs.ToSend.{to_send}
use Rattle.telegram.proofs.Sends.{none, begins, single_octet}
use Rattle.state.specs.declared.setup.Setup.{Setup}
use Rattle.state.specs.declared.control.Control.{Control}
use Rattle.state.specs.declared.state.Drawn.{Drawn}
use Rattle.state.specs.declared.state.Drawn.TheVariants.{Nothing, Acknowledge, Status, Rejected, Exchange, Inputs, Outputs, Configuration, Diagnosis}
use Rattle.state.specs.declared.state.Header.{Header}
use Rattle.state.specs.declared.state.State.{State}
use Rattle.state.specs.Layout.{output_row, input_row, diagnosis_row, outputs_at, inputs_at, diagnosis_at, get_cfg_at, row_count, row_length, start_of}
use Rattle.state.proofs.Places.{inside, get_cfg_inside}
use Rattle.rules.specs.Diagnosis.{header_of}
use Rattle.ledger.specs.Lists.{Buffers}
use Rattle.ledger.specs.Ledger.{Line}
use Rattle.ledger.specs.Replies.{header_octets, diagnosis_octets, acknowledgement, answer, service_telegram, reply_octets, reply_of}
use Rattle.rules.specs.Replies.{diagnoses, exchange_fc, without_inputs, replies_e5}
use Rattle.steps.specs.Safe.{Safe}
use Rattle.state.specs.With.{with_reply}
use Rattle.steps.specs.Replies.{servicing, reply_for, own_place, header_at, content_at, datum_at}
use Rattle.agreement.proofs.Relation.{ReplyAgrees}
use Rattle.steps.proofs.KeepsSafe.{own_in}
use Rattle.state.specs.Sound.{Ranged}

-- ---- the octets of a service's reply

-- 3E and the service point stand before the data
service_octets : (f : ℕ → ℕ) (point : ℕ) (xs : List ℕ) → ((i : ℕ) → i < length xs → f i ≡ get_or xs i 0) → (k : ℕ) → k < suc (suc (length xs))
    → cond (eqb k 0) 0x3E (cond (eqb k 1) point (f (k - 2))) ≡ get_or (0x3E ∷ point ∷ xs) k 0
service_octets f point xs h zero g = refl
service_octets f point xs h (suc zero) g = refl
service_octets f point xs h (suc (suc i)) g =
    let e : suc (suc i) - 2 ≡ i = omega arith in
    rw (ne_eqb (suc (suc i)) 0 (λ z. omega arith), ne_eqb (suc (suc i)) 1 (λ z. omega arith), e) (h i (omega arith))

-- and the sender sends them, with bit 7 in both addresses
service_left : (s : Setup) (master point n : ℕ) (xs : List ℕ) → s.address ≤ 126 → master < 128 → length xs ≡ n → n ≤ 244
    → to_send (servicing s master n) (0x3E ∷ point ∷ xs) ≡ octets_of (service_telegram s master point xs)
service_left s master point n xs a h e l =
    let p : master + 128 < 256 = omega arith in
    let q : s.address + 128 < 256 = omega arith in
    let u : n + 2 < 256 = omega arith in
    let v : n + 2 ≡ length (0x3E ∷ point ∷ xs) = omega arith in
    rw (mod-eq_of_lt p, mod-eq_of_lt q, mod-eq_of_lt u, v)
    (begins (service_telegram s master point xs) (omega arith, omega arith, inr (omega arith, omega arith, omega arith)))

service_count : (n : ℕ) (xs : List ℕ) (point : ℕ) → length xs ≡ n → n ≤ 244 → length (0x3E ∷ point ∷ xs) ≡ (n + 2) % 256
service_count n xs point e l =
    let u : n + 2 < 256 = omega arith in
    let v : length (0x3E ∷ point ∷ xs) ≡ n + 2 = omega arith in
    v ∙ sym (mod-eq_of_lt u)

-- ---- the diagnosis octets

header_at_lem : (h : Header) (ident : ℕ) (xs : List ℕ) (i : ℕ) → i < 6 → header_at h ident i ≡ get_or (header_octets h ident ++ xs) i 0
header_at_lem h ident xs zero g = refl
header_at_lem h ident xs (suc zero) g = refl
header_at_lem h ident xs (suc (suc zero)) g = refl
header_at_lem h ident xs (suc (suc (suc zero))) g = refl
header_at_lem h ident xs (suc (suc (suc (suc zero)))) g = refl
header_at_lem h ident xs (suc (suc (suc (suc (suc zero))))) g = refl
header_at_lem h ident xs (suc (suc (suc (suc (suc (suc i)))))) g = absurd (omega arith)

module _ (h : Header) (ident count : ℕ) (own : List ℕ) (low : 6 ≤ count) (high : count ≤ length own) where
  diagnosis_length : length (header_octets h ident ++ drop 6 (take count own)) ≡ count
  diagnosis_length = length-append (header_octets h ident) (drop 6 (take count own)) ∙ simp (length-drop, length-take) (omega arith)

  diagnosis_at_lem : (i : ℕ) → i < count → cond (ltb i 6) (header_at h ident i) (get_or own i 0) ≡ get_or (header_octets h ident ++ drop 6 (take count own)) i 0
  diagnosis_at_lem i g = go (ltb i 6) refl
    where
      go : (t : Bool) → ltb i 6 ≡ t → cond t (header_at h ident i) (get_or own i 0) ≡ get_or (header_octets h ident ++ drop 6 (take count own)) i 0
      go true e = header_at_lem h ident (drop 6 (take count own)) i (ltb-true i 6 e)
      go false e =
          let u : 6 ≤ i = ltb-false i 6 e in
          let v : 6 + (i - 6) ≡ i = omega arith in
          sym (ap (λ (k : ℕ). get_or (header_octets h ident ++ drop 6 (take count own)) k 0) (sym v)
          ∙ get_or-append-add (header_octets h ident) (drop 6 (take count own)) (i - 6) 0
          ∙ get_or-drop 6 (take count own) (i - 6) 0
          ∙ ap (λ (k : ℕ). get_or (take count own) k 0) v
          ∙ get_or-take count own i 0 g)

-- ---- each reply

-- the line that is left when a telegram is complete
abbrev pub reply_line : Setup → List ℕ → Control → Buffers → ℕ → Drawn → Line
reply_line g slice c b master d = record { ignored = true; telegram = []; reply = reply_of d g slice c b master; diagnosing = diagnoses d }

abbrev pub Replies : State → List ℕ → List ℕ → Buffers → ℕ → Drawn → Type 0
Replies s m slice b master d =
    (ds : List ℕ) × ReplyAgrees (with_reply s (reply_for d s master)) m (reply_line s.setup slice s.control b master d) ds

module _ (s : State) (m : List ℕ) (slice : List ℕ) (b : Buffers) (master : ℕ) (f : Safe s m) (w : Ranged s.setup) (to : master < 128)
    (low : 6 ≤ s.control.diagnosis.count) (high : s.control.diagnosis.count ≤ s.setup.diagnosis_len)
    (held : part m (outputs_at s.setup (held_of s.outputs.set.place)) s.setup.output_len ≡ b.outputs.held)
    (sent : part m (inputs_at s.setup (fill_of s.inputs.place)) s.setup.input_len ≡ b.inputs.sending)
    (own : part m (diagnosis_at s.setup (own_place s.swapped)) s.setup.diagnosis_len ≡ b.diagnosis.own)
    (slices : part m (get_cfg_at s.setup) s.setup.get_cfg_len ≡ slice) where
  -- a buffer's list has its length
  fills : (a i : ℕ) (xs : List ℕ) → i < row_count a → part m (start_of s.setup a i) (row_length s.setup a) ≡ xs → length xs ≡ row_length s.setup a
  fills a i xs h e =
      let u = inside s.setup a i (row_length s.setup a) h (omega arith) in
      let v = f.room in
      ap length (sym e) ∙ part_length m (start_of s.setup a i) (row_length s.setup a) (omega arith)

  draw_nothing : Replies s m slice b master Nothing
  unfolding reply_for
  draw_nothing = ([], record { count = refl; octets = λ k g. absurd (omega arith); unsent = none empty [] refl; diagnosis = refl })

  draw_acknowledge : Replies s m slice b master Acknowledge
  unfolding reply_for
  draw_acknowledge = ([], record { count = refl; octets = λ k g. absurd (omega arith); unsent = single_octet []; diagnosis = refl })

  draw_status : Replies s m slice b master Status
  unfolding reply_for
  draw_status =
      ([], record { count = refl; octets = λ k g. absurd (omega arith); unsent = begins (sd1 master s.setup.address 0x00) (inl (omega arith, omega arith)); diagnosis = refl })

  draw_rejected : Replies s m slice b master Rejected
  unfolding reply_for
  draw_rejected =
      ([], record { count = refl; octets = λ k g. absurd (omega arith); unsent = begins (sd1 master s.setup.address 0x03) (inl (omega arith, omega arith)); diagnosis = refl })

  -- the reply to Data_Exchange: e5: it is E5, lacks: there are no inputs
  abbrev Exchanged : (e5 lacks : Bool) → Type 0
  Exchanged e5 lacks =
      let fc = exchange_fc s.control in
      let sender = cond e5 single (sending Sd2 master s.setup.address fc (cond lacks 1 s.setup.input_len)) in
      let reply = cond e5 acknowledgement (answer (sd2 master s.setup.address fc (cond lacks (0 ∷ []) b.inputs.sending))) in
      (ds : List ℕ)
      × ReplyAgrees (with_reply s (record { drawn = Exchange; sender = sender; place = held_of s.outputs.set.place; header = header_of s.control })) m
      (record { ignored = true; telegram = []; reply = reply_octets reply; diagnosing = false }) ds

  draw_exchange : Replies s m slice b master Exchange
  unfolding reply_for datum_at
  draw_exchange = go (replies_e5 s.setup s.control) (without_inputs s.setup) refl
    where
      a : ℕ
      a = inputs_at s.setup (fill_of s.inputs.place)

      e : length b.inputs.sending ≡ s.setup.input_len
      e = fills input_row (fill_of s.inputs.place) b.inputs.sending (f.inputs.within role.fill (omega arith)) sent

      -- a buffer of no octets is read as 0
      none_read : s.setup.input_len ≡ 0 → (k : ℕ) → k < 1 → get_or (part m a s.setup.input_len) k 0 ≡ get_or (0 ∷ []) k 0
      none_read z zero g = ap (λ (n : ℕ). get_or (part m a n) 0 0) z
      none_read z (suc k) g = absurd (omega arith)

      go : (e5 lacks : Bool) → without_inputs s.setup ≡ lacks → Exchanged e5 lacks
      go true lacks q = ([], record { count = refl; octets = λ k g. absurd (omega arith); unsent = single_octet []; diagnosis = refl })
      go false true q = (
        0 ∷ [],
        record {
          count = refl;
          octets = none_read (eqb-true s.setup.input_len 0 q);
          unsent = begins (sd2 master s.setup.address (exchange_fc s.control) (0 ∷ [])) (omega arith, omega arith, inl (omega arith, omega arith));
          diagnosis = refl;
        },
      )
      go false false q =
          let some = eqb-false s.setup.input_len 0 q in
          let n = e in (
            b.inputs.sending,
            record {
              count = e;
              octets = λ k g. ap (λ (l : List ℕ). get_or l k 0) sent;
              unsent =
                  ap (λ (n : ℕ). to_send (sending Sd2 master s.setup.address (exchange_fc s.control) n) b.inputs.sending) (sym e)
                  ∙ begins (sd2 master s.setup.address (exchange_fc s.control) b.inputs.sending) (omega arith, omega arith, inl (omega arith, omega arith));
              diagnosis = refl;
            },
          )

  draw_inputs : Replies s m slice b master Inputs
  unfolding reply_for datum_at
  draw_inputs =
      let xs = b.inputs.sending in
      let e : length xs ≡ s.setup.input_len = fills input_row (fill_of s.inputs.place) xs (f.inputs.within role.fill (omega arith)) sent in (
        0x3E ∷ 56 ∷ xs,
        record {
          count = service_count s.setup.input_len xs 56 e w.input_len;
          octets = service_octets (content_at Inputs s m) 56 xs (λ i g. ap (λ (l : List ℕ). get_or l i 0) sent);
          unsent = service_left s.setup master 56 s.setup.input_len xs w.address to e w.input_len;
          diagnosis = refl;
        },
      )

  draw_outputs : Replies s m slice b master Outputs
  unfolding reply_for datum_at
  draw_outputs =
      let xs = b.outputs.held in
      let n = s.setup.output_len in
      let e : length xs ≡ s.setup.output_len = fills output_row (held_of s.outputs.set.place) xs (f.outputs.within role.held (omega arith)) held in (
        0x3E ∷ 57 ∷ xs,
        record {
          count = service_count n xs 57 e w.output_len;
          octets = service_octets (λ i. get_or (part m (outputs_at s.setup (held_of s.outputs.set.place)) n) i 0) 57 xs (λ i g. ap (λ (l : List ℕ). get_or l i 0) held);
          unsent = service_left s.setup master 57 n xs w.address to e w.output_len;
          diagnosis = refl;
        },
      )

  draw_configuration : Replies s m slice b master Configuration
  unfolding reply_for datum_at
  draw_configuration =
      let n = s.setup.get_cfg_len in
      let u = get_cfg_inside s.setup s.setup.get_cfg_len (omega arith) in
      let v = f.room in
      let e : length slice ≡ s.setup.get_cfg_len = ap length (sym slices) ∙ part_length m (get_cfg_at s.setup) n (omega arith) in (
        0x3E ∷ 59 ∷ slice,
        record {
          count = service_count n slice 59 e w.get_cfg_len.1;
          octets = service_octets (content_at Configuration s m) 59 slice (λ i g. ap (λ (l : List ℕ). get_or l i 0) slices);
          unsent = service_left s.setup master 59 n slice w.address to e w.get_cfg_len.1;
          diagnosis = refl;
        },
      )

  draw_diagnosis : Replies s m slice b master Diagnosis
  unfolding reply_for datum_at
  draw_diagnosis =
      let n = s.control.diagnosis.count in
      let h = header_of s.control in
      let ident = s.setup.ident in
      let ys = b.diagnosis.own in
      let xs = diagnosis_octets s.setup s.control ys in
      let u : length ys ≡ s.setup.diagnosis_len = fills diagnosis_row (own_place s.swapped) ys (own_in s.swapped) own in
      let v : s.control.diagnosis.count ≤ length ys = omega arith in
      let e : length xs ≡ s.control.diagnosis.count = diagnosis_length h ident n ys low v in (
        0x3E ∷ 60 ∷ xs,
        record {
          count = service_count n xs 60 e (omega arith);
          octets =
              service_octets (λ i. cond (ltb i 6) (header_at h ident i) (get_or (part m (diagnosis_at s.setup (own_place s.swapped)) s.setup.diagnosis_len) i 0)) 60 xs
              (λ i g. ap (λ (l : List ℕ). cond (ltb i 6) (header_at h ident i) (get_or l i 0)) own ∙ diagnosis_at_lem h ident n ys low v i (omega arith));
          unsent = service_left s.setup master 60 n xs w.address to e (omega arith);
          diagnosis = refl;
        },
      )

  pub draws : (d : Drawn) → Replies s m slice b master d
  draws Nothing = draw_nothing
  draws Acknowledge = draw_acknowledge
  draws Status = draw_status
  draws Rejected = draw_rejected
  draws Exchange = draw_exchange
  draws Inputs = draw_inputs
  draws Outputs = draw_outputs
  draws Configuration = draw_configuration
  draws Diagnosis = draw_diagnosis
