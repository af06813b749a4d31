-- The reply to a good Data_Exchange and what it is for the chain, by the inputs and Diag_Flag.
use Rattle.std.proofs.Common.{◌≡◌, ℕ, Bool, true, false, cond, not, ◌&&◌, eqb, List, sym, ap, ◌∙◌, subst, eq-eqb, ne_eqb}
use Rattle.telegram.specs.declared.Kind.TheVariants.{Sd2}
use Rattle.telegram.specs.declared.sender.Sender.{Sender}
use Rattle.telegram.specs.Sending.{single, sending}
use Rattle.state.specs.declared.setup.Setup.{Setup}
use Rattle.state.specs.declared.chain.Chain.{Chain}
use Rattle.state.specs.declared.control.Control.{Control}
use Rattle.state.specs.declared.state.Drawn.{Drawn}
use Rattle.state.specs.declared.state.Drawn.TheVariants as drawn
use Rattle.state.specs.declared.state.Header.{Header}
use Rattle.state.specs.declared.state.Reply.{Reply}
use Rattle.state.specs.Memory.{Changes}
use Rattle.state.specs.With.{with_reply, with_chain}
use Rattle.state.proofs.Written.{then}
use Rattle.rules.specs.declared.request.Request.{Request}
use Rattle.rules.specs.Replies.{exchange_fc}
use Rattle.rules.specs.Requests.{master_of}
use Rattle.rules.specs.Retries.{chain_by}
use Rattle.steps.specs.Replies.{exchange_sender}
use Rattle.station.specs.Completing.{exchange_drew, replied_with}

module _ (g : Setup) (c : Control) where
  -- what is drawn, by whether there are inputs and whether Diag_Flag is set
  abbrev drawn_by_lem : (lacks flag : Bool) → Drawn
  drawn_by_lem lacks flag = cond (lacks && not flag) drawn.Acknowledge drawn.Exchange

  -- and what is sent, with n inputs
  abbrev sent_by_lem : (lacks flag : Bool) (master fc n : ℕ) → Sender
  sent_by_lem lacks flag master fc n = cond (lacks && not flag) single (sending Sd2 master g.address fc (cond lacks 1 n))

  -- with inputs
  module _ (z : g.input_len ≡ 0 → ⊥) where
    pub drew_inputs : drawn.Exchange ≡ exchange_drew g c
    drew_inputs = λ i. drawn_by_lem (sym (ne_eqb g.input_len 0 z) i) c.flags.diag_flag

    pub sends_inputs : {x : Sender} {master fc : ℕ} → fc ≡ exchange_fc c → x ≡ sending Sd2 master g.address fc g.input_len
        → x ≡ exchange_sender g c master
    sends_inputs {x} {master} e f =
        f ∙ (λ i. sent_by_lem (sym (ne_eqb g.input_len 0 z) i) c.flags.diag_flag master (e i) g.input_len)

  -- without them
  module _ (z : g.input_len ≡ 0) where
    none : eqb g.input_len 0 ≡ true
    none = eq-eqb g.input_len 0 z

    -- while Diag_Flag
    pub drew_flag : c.flags.diag_flag ≡ true → drawn.Exchange ≡ exchange_drew g c
    drew_flag f = λ i. drawn_by_lem (sym none i) (sym f i)

    pub sends_flag : c.flags.diag_flag ≡ true → {x : Sender} {master fc : ℕ} → fc ≡ exchange_fc c → x ≡ sending Sd2 master g.address fc 1
        → x ≡ exchange_sender g c master
    sends_flag f {x} {master} e h = h ∙ (λ i. sent_by_lem (sym none i) (sym f i) master (e i) g.input_len)

    -- and else
    pub drew_e5 : c.flags.diag_flag ≡ false → drawn.Acknowledge ≡ exchange_drew g c
    drew_e5 f = λ i. drawn_by_lem (sym none i) (sym f i)

    pub sends_e5 : c.flags.diag_flag ≡ false → {x : Sender} (master : ℕ) → x ≡ single → x ≡ exchange_sender g c master
    sends_e5 f master h = h ∙ (λ i. sent_by_lem (sym none i) (sym f i) master (exchange_fc c) g.input_len)

-- the chain and the reply written one after the other
pub replied_over : (r : Request) (g : Setup) (c : Control) (held master : ℕ) (header : Header) (m n l : List ℕ) (h : Chain) (d : Drawn) (x : Sender) (y : Reply)
    → master ≡ master_of r → h ≡ chain_by r d → d ≡ exchange_drew g c → x ≡ exchange_sender g c master → y ≡ replied_with x held header
    → Changes m n (λ s. with_chain s h) → Changes n l (λ s. with_reply s y)
    → Changes m l (λ s. with_reply (with_chain s (chain_by r (exchange_drew g c))) (replied_with (exchange_sender g c (master_of r)) held header))
replied_over r g c held master header m n l h d x y em eh ed ex ey p q =
    subst (λ (z : Reply). Changes m l (λ s. with_reply (with_chain s (chain_by r (exchange_drew g c))) z))
    (ey ∙ ap (λ (z : Sender). replied_with z held header) (ex ∙ ap (exchange_sender g c) em))
    (subst (λ (k : Chain). Changes m l (λ s. with_reply (with_chain s k) y)) (eh ∙ ap (chain_by r) ed) (then m n l _ _ p q))
