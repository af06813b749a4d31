-- Every reply but E5 is a telegram with the fields that the rules gave (specs/ReadBack.antt), by the ranges that each ledger keeps.
use Prim.Native.Nat.{ℕ, ◌≤◌, ◌<◌}
use native.Mathlib.Omega.{arith}
use mathlib.Core.Path.{◌≡◌, refl, subst, ◌∙◌}
use mathlib.Core.List.{List, []}
use mathlib.Core.Logic.{inl, inr}
use lib.ListN.{length, take, drop, length-append, length-take, length-drop}
use borrow.Author.Tests.{eqb-false}
use Rattle.telegram.specs.Telegram.{Telegram, sd2, octets_of, Valid}
use Rattle.telegram.proofs.Framing.{framing}
use Rattle.state.specs.declared.setup.Setup.{Setup}
use Rattle.state.specs.declared.control.Control.{Control}
use Rattle.state.specs.declared.state.Drawn.{Drawn}
use Rattle.state.specs.declared.state.Drawn.TheVariants.{Nothing, Acknowledge, Status, Rejected, Exchange, Inputs, Outputs, Configuration, Diagnosis}
use Rattle.state.specs.Sound.{DiagnosisCounted}
use Rattle.state.proofs.Choice.{by_test, either}
use Rattle.rules.specs.Diagnosis.{header_of}
use Rattle.rules.specs.Replies.{exchange_fc, without_inputs, replies_e5}
use Rattle.ledger.specs.Lists.{Buffers}
use Rattle.ledger.specs.Replies.{header_octets, diagnosis_octets, WholeReply, silence, acknowledgement, answer, service_telegram, reply_by, reply_octets}
use Rattle.ledger.specs.ReadBack.{StartTakes, ListsFit, Left, ReadsBack}

-- as many diagnosis octets as the count says
diagnosis_length : (s : Setup) (c : Control) (own : List ℕ) → length own ≡ s.diagnosis_len → DiagnosisCounted s.diagnosis_len c.diagnosis
    → length (diagnosis_octets s c own) ≡ c.diagnosis.count
diagnosis_length s c own e f =
    let n = c.diagnosis.count in
    length-append (header_octets (header_of c) s.ident) (drop 6 (take n own))
    ∙ simp (length-drop, length-take) (omega arith)

-- a service's reply with at most 244 octets of data is a telegram
service_valid : (s : Setup) (master point : ℕ) (ds : List ℕ) → length ds ≤ 244 → Valid (service_telegram s master point ds)
service_valid s master point ds h = (omega arith, omega arith, inr (omega arith, omega arith, omega arith))

-- a telegram that is drawn is one of the grammar
abbrev pub ValidReply : WholeReply → Type 0
ValidReply silence = Unit
ValidReply acknowledgement = Unit
ValidReply (answer t) = Valid t

module _ (s : Setup) (slice : List ℕ) (c : Control) (b : Buffers) (master : ℕ)
    (a : StartTakes s slice) (f : ListsFit s b) (k : DiagnosisCounted s.diagnosis_len c.diagnosis) (m : master < 128) where
  -- what is drawn is valid
  pub reply_valid : (d : Drawn) → ValidReply (reply_by d s slice c b master)
  reply_valid Nothing = tt
  reply_valid Acknowledge = tt
  reply_valid Status = inl (omega arith, omega arith)
  reply_valid Rejected = inl (omega arith, omega arith)
  reply_valid Exchange =
      either ValidReply (replies_e5 s c) tt
      (by_test (λ (ds : List ℕ). Valid (sd2 master s.address (exchange_fc c) ds)) (without_inputs s) _ _
      (λ _. (omega arith, omega arith, inl (omega arith, omega arith)))
      (λ e. let some = eqb-false s.input_len 0 e in (omega arith, omega arith, inl (omega arith, omega arith))))
  reply_valid Inputs = service_valid s master 56 b.inputs.sending (omega arith)
  reply_valid Outputs = service_valid s master 57 b.outputs.held (omega arith)
  reply_valid Configuration = service_valid s master 59 slice (omega arith)
  reply_valid Diagnosis =
      let h = diagnosis_length s c b.diagnosis.own f.diagnosis.own k in
      service_valid s master 60 (diagnosis_octets s c b.diagnosis.own) (omega arith)

-- and reads back
telegram_reads : (t : Telegram) → Valid t → ReadsBack (octets_of t) t
telegram_reads t v =
    let f = framing (octets_of t) in
    record { octets_are = refl; valid = v; fields_are = (f.fields t v refl).0; data_are = (f.fields t v refl).1; telegram_is = f.told t v refl }

pub reply_reads : (r : WholeReply) → ValidReply r → (u : Telegram) → r ≡ answer u → ReadsBack (reply_octets r) u
reply_reads silence v u e = let z : ◌≡◌ {A = ℕ} 0 1 = cc in absurd (omega arith)
reply_reads acknowledgement v u e = let z : ◌≡◌ {A = ℕ} 0 1 = cc in absurd (omega arith)
reply_reads (answer t) v u e = let same : t ≡ u = cc in subst (ReadsBack (octets_of t)) same (telegram_reads t v)

pub reply_left : (r : WholeReply) → ValidReply r → Left (reply_octets r)
reply_left silence v = inl refl
reply_left acknowledgement v = inr ([], inl refl)
reply_left (answer t) v = inr ([], inr (t, v, refl))
