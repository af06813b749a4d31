-- The reply that is drawn has octets alone, where the lists that it is made of do.
use Prim.Native.Nat.{ℕ, ◌≤◌, ◌<◌}
use native.Mathlib.Nat.{mod-lt}
use native.Mathlib.Omega.{arith}
use mathlib.Core.Bool.{Bool, true, false, cond, not}
use mathlib.Core.List.{List, [], ◌∷◌}
use lib.Dec.{eqb}
use lib.ListN.{take, drop}
use Rattle.telegram.specs.Telegram.{Telegram, sd2, octets_of, Valid, Octets}
use Rattle.state.specs.declared.setup.Setup.{Setup}
use Rattle.state.specs.declared.control.Control.{Control}
use Rattle.state.specs.declared.state.Drawn.{Drawn}
use Rattle.state.specs.declared.state.Drawn.TheVariants.{Nothing, Acknowledge, Status, Rejected, Exchange, Inputs, Outputs, Configuration, Diagnosis}
use Rattle.state.proofs.Choice.{by_test}
use Rattle.rules.specs.Control.{in_wait_prm, in_exchange}
use Rattle.rules.specs.Diagnosis.{one, header_of}
use Rattle.rules.specs.Replies.{exchange_fc, without_inputs, replies_e5}
use Rattle.ledger.specs.Lists.{Outputs as OutputLists, Inputs as InputLists, Sets, Diagnoses, Buffers}
use Rattle.ledger.specs.Replies.{header_octets, diagnosis_octets, acknowledgement, answer, short_telegram, service_telegram, exchange_octets, reply_by, reply_octets}
use Rattle.ledger.proofs.ReadBack.{ValidReply}
use Rattle.telegram.proofs.OctetLists.{both_octets, take_octets, drop_octets, telegram_octets}

-- ---------------------------------------------------------------------------------------------------
-- The lists in place of buffers.

-- the outputs are octets
pub record OutputOctets (o : OutputLists) : Type 0 where
  pub held : Octets o.held
  pub next : Octets o.next
  pub back : Octets o.back

-- so are the inputs
pub record InputOctets (i : InputLists) : Type 0 where
  pub sending : Octets i.sending
  pub next : Octets i.next
  pub held : Octets i.held

-- the sets of a kind
pub record SetOctets (x : Sets) : Type 0 where
  pub shown : Octets x.shown
  pub waiting : Octets x.waiting

-- and the diagnosis
pub record DiagnosisOctets (d : Diagnoses) : Type 0 where
  pub own : Octets d.own
  pub user : Octets d.user

-- all of them
pub record ListOctets (b : Buffers) : Type 0 where
  pub outputs : OutputOctets b.outputs
  pub inputs : InputOctets b.inputs
  pub parameters : SetOctets b.parameters
  pub configuration : SetOctets b.configuration
  pub diagnosis : DiagnosisOctets b.diagnosis

-- ---------------------------------------------------------------------------------------------------
-- The reply.

-- a flag is one bit
pub one_low : (t : Bool) → one t ≤ 1
one_low true = omega arith
one_low false = omega arith

-- the six octets that the station makes
header_octets_lem : (c : Control) (ident : ℕ) → c.owner < 256 → ident < 65536 → Octets (header_octets (header_of c) ident)
unfolding header_of
header_octets_lem c ident h i =
    let a = one_low (not (in_exchange c)) in
    let b = one_low c.flags.cfg_fault in
    let d = one_low c.flags.ext_diag in
    let f = one_low c.flags.prm_fault in
    let j = one_low (in_wait_prm c.phase) in
    let k = one_low c.flags.stat_diag in
    let m = one_low (not (eqb c.watchdog.reload 0)) in
    let n = one_low c.flags.overflow in
    let p = one_low c.modes.freeze in
    let q = one_low c.modes.sync in
    (omega arith, (omega arith, (omega arith, (h, (omega arith, (mod-lt ident (omega arith), tt))))))

module _ (s : Setup) (slice : List ℕ) (c : Control) (b : Buffers) (master : ℕ) (m : master < 128) (a : s.address ≤ 126) (i : s.ident < 65536)
    (h : c.owner < 256) (x : Octets slice) (f : ListOctets b) where
  -- a short one
  short_octets : (fc : ℕ) → fc < 256 → Valid (short_telegram s master fc) → Octets (octets_of (short_telegram s master fc))
  short_octets fc q v = telegram_octets (short_telegram s master fc) v (record { da = omega arith; sa = omega arith; fc = q; ds = tt })

  -- a service's
  service_octets : (point : ℕ) (ds : List ℕ) → point < 256 → Octets ds → Valid (service_telegram s master point ds) → Octets (octets_of (service_telegram s master point ds))
  service_octets point ds p o v =
      telegram_octets (service_telegram s master point ds) v (record { da = omega arith; sa = omega arith; fc = omega arith; ds = (omega arith, (p, o)) })

  -- whatever is drawn
  pub reply_octets_lem : (d : Drawn) → ValidReply (reply_by d s slice c b master) → Octets (reply_octets (reply_by d s slice c b master))
  reply_octets_lem Nothing v = tt
  reply_octets_lem Acknowledge v = (omega arith, tt)
  reply_octets_lem Status v = short_octets 0x00 (omega arith) v
  reply_octets_lem Rejected v = short_octets 0x03 (omega arith) v
  reply_octets_lem Exchange v = go (replies_e5 s c) v
    where
      t : Telegram
      t = sd2 master s.address (exchange_fc c) (exchange_octets s b.inputs.sending)

      go : (e5 : Bool) → ValidReply (cond e5 acknowledgement (answer t)) → Octets (reply_octets (cond e5 acknowledgement (answer t)))
      go true _ = (omega arith, tt)
      go false w =
          let low = by_test (λ (n : ℕ). n < 256) c.flags.diag_flag 0x0A 0x08 (λ _. omega arith) (λ _. omega arith) in
          telegram_octets t w
          (record { da = omega arith; sa = omega arith; fc = low; ds = by_test Octets (without_inputs s) (0 ∷ []) b.inputs.sending (λ _. (omega arith, tt)) (λ _. f.inputs.sending) })
  reply_octets_lem Inputs v = service_octets 56 b.inputs.sending (omega arith) f.inputs.sending v
  reply_octets_lem Outputs v = service_octets 57 b.outputs.held (omega arith) f.outputs.held v
  reply_octets_lem Configuration v = service_octets 59 slice (omega arith) x v
  reply_octets_lem Diagnosis v =
      let own = b.diagnosis.own in
      let n = c.diagnosis.count in
      service_octets 60 (diagnosis_octets s c own) (omega arith)
      (both_octets (header_octets (header_of c) s.ident) (drop 6 (take n own)) (header_octets_lem c s.ident h i) (drop_octets 6 (take n own) (take_octets n own f.diagnosis.own))) v
