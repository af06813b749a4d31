-- A telegram that does not act: nothing comes of it but that it was read and that no reply is left.
use Rattle.std.proofs.Common.{◌≡◌, ℕ, Bool, false, cond, ◌&&◌, List, sym, ap, ◌∙◌}
use Rattle.buffers.specs.Roles.{held_of}
use Rattle.telegram.specs.Sending.{empty}
use Rattle.state.specs.declared.state.Drawn.TheVariants as drawn
use Rattle.state.specs.declared.state.Incoming.{Incoming}
use Rattle.state.specs.declared.state.Reply.{Reply}
use Rattle.state.specs.declared.state.State.{State}
use Rattle.state.specs.declared.control.Control.{Control}
use Rattle.state.specs.Chain.{drawn_in}
use Rattle.state.specs.Memory.{kept, Holds, Changes}
use Rattle.state.specs.With.{with_incoming, with_reply}
use Rattle.state.proofs.Damage.{fronted_same}
use Rattle.state.proofs.Written.{then}
use Rattle.rules.specs.declared.outcome.Outcome.{Outcome}
use Rattle.rules.specs.declared.request.Request.{Request}
use Rattle.rules.specs.declared.request.Service.TheVariants.{Nothing}
use Rattle.rules.specs.Control.{owns, with_watchdog}
use Rattle.rules.specs.Diagnosis.{header_of}
use Rattle.rules.specs.Phases.{drawing}
use Rattle.rules.specs.Requests.{master_of, acts, to_station, refilled, function_service, service_of}
use Rattle.rules.specs.Retries.{asks, repeats, chain_by, on_chain, drew}
use Rattle.rules.specs.Services.{serve}
use Rattle.steps.specs.Stepped.{packed_after}
use Rattle.steps.specs.Outcome.{occupied, carried}
use Rattle.steps.specs.Replies.{reply_for}
use Rattle.steps.specs.Reading.{data_in, outcome_of, answered}

module _ (s : State) (m : List ℕ) (r : Request) (e : acts s.setup r ≡ false) where
  -- nothing is drawn, and the control part stays
  passed : outcome_of s m r ≡ drawing s.control drawn.Nothing
  unfolding outcome_of service_of refilled
  passed =
      let c = s.control in
      let g = s.setup in
      let refill : Bool → Control =
      λ t. cond (t && to_station g r && owns c (master_of r)) (with_watchdog c (record { reload = c.watchdog.reload; remaining = c.watchdog.reload })) c
      in
      let o : Bool → Outcome = λ t. serve (cond t (function_service r) Nothing) g (refill t) (occupied s) r (data_in s m) in
      λ j.
      cond (e j && repeats c.chain r) (drawing (refill (e j)) (drawn_in c.chain))
      (on_chain (o (e j)) (cond (e j && asks r) (chain_by r (drew g (o (e j)))) (o (e j)).control.chain))

  -- so only the telegram and the reply change
  pub passed_by : Holds m s → (i : Incoming) (reply : Reply) (n l : List ℕ)
      → reply ≡ record { drawn = drawn.Nothing; sender = empty; place = held_of s.outputs.set.place; header = header_of s.control }
      → Changes m n (λ t. with_incoming t i) → Changes n l (λ t. with_reply t reply)
      → l ≡ packed_after (answered (with_incoming s i) m (outcome_of s m r) r)
  unfolding answered carried reply_for
  passed_by h i reply n l f a b =
      then m n l (λ t. with_incoming t i) (λ t. with_reply t reply) a b s (fronted_same m s h)
      ∙ ap (λ (x : Reply). kept (with_reply (with_incoming s i) x) m) f
      ∙ ap (λ (o : Outcome). packed_after (answered (with_incoming s i) m o r)) (sym passed)
