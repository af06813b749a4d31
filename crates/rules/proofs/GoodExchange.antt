-- When a Data_Exchange is good, that refilling the watchdog does not matter for it, and that nothing else draws the reply to one.
use mathlib.Core.Path.{◌≡◌, refl, sym, ◌∙◌}
use mathlib.Core.Bool.{true, false, cond, not, ◌&&◌, ◌||◌}
use lib.Dec.{eqb}
use borrow.Author.Tests.{not-false}
use Rattle.telegram.proofs.Run.{no_true}
use Rattle.state.specs.declared.setup.Setup.{Setup}
use Rattle.state.specs.declared.control.Control.{Control}
use Rattle.state.specs.declared.state.Drawn.TheVariants as drawn
use Rattle.state.specs.Well.{within}
use Rattle.state.proofs.Choice.{by_test, either}
use Rattle.rules.specs.declared.request.Request.{Request}
use Rattle.rules.specs.declared.request.Data.{Data}
use Rattle.rules.specs.declared.request.Occupied.{Occupied}
use Rattle.rules.specs.declared.request.Service.{Service}
use Rattle.rules.specs.declared.request.Service.TheVariants.{Nothing, Status, Reject, GlobalControl, DataExchange, SetPrm, ChkCfg, SlaveDiag, GetCfg, ReadInputs, ReadOutputs}
use Rattle.rules.specs.declared.outcome.Outcome.{Outcome}
use Rattle.rules.specs.Control.{bit, owns, exchanging, in_exchange}
use Rattle.rules.specs.Phases.{drawing, entering_wait_prm}
use Rattle.rules.specs.Replies.{is_exchange}
use Rattle.rules.specs.Requests.{master_of, refilled}
use Rattle.rules.specs.Services.{other_owns, other_ident, set_prm, chk_cfg, cfg_fault, exchanges, good_exchange, data_exchange, slave_diag, controls, global_control, serve}
use Rattle.rules.specs.Watchdog.{wants_watchdog, bad_factors}
use Rattle.rules.proofs.Alike.{refilled_alike}
use Rattle.rules.proofs.ByCases.{refilled_same}

module _ (g : Setup) (c : Control) (r : Request) where
  -- the watchdog refilled, the same telegrams are from the owner in DATA_EXCH
  pub refilled_exchanges : exchanges (refilled g c r) r ≡ exchanges c r
  refilled_exchanges = λ j. eqb ((refilled_same g c r).0 j) (master_of r) && exchanging ((refilled_alike g c r).phase_same j)

  -- such a telegram with as many octets as there are outputs is good
  pub exchange_good : exchanges c r ≡ true → eqb r.count g.output_len ≡ true → data_exchange g c r ≡ good_exchange c
  unfolding data_exchange
  exchange_good e f = λ j. cond (not (e j)) (drawing c drawn.Rejected) (cond (not (f j)) (entering_wait_prm (cfg_fault c) drawn.Rejected) (good_exchange c))

-- what does not draw the reply to a Data_Exchange
abbrev Others : Outcome → Type 0
Others o = is_exchange o.drawn ≡ false

-- a good one alone draws it
pub others_drawn : (v : Service) (g : Setup) (c : Control) (b : Occupied) (r : Request) (octets : Data)
    → (v ≡ DataExchange → exchanges c r && eqb r.count g.output_len ≡ false) → Others (serve v g c b r octets)
unfolding set_prm chk_cfg data_exchange slave_diag global_control
others_drawn Nothing g c b r octets h = refl
others_drawn Status g c b r octets h = refl
others_drawn Reject g c b r octets h = refl
others_drawn GlobalControl g c b r octets h = either Others (controls c r octets.second) refl refl
others_drawn DataExchange g c b r octets h =
    by_test Others (not (exchanges c r)) _ _ (λ _. refl)
    (λ e. by_test Others (not (eqb r.count g.output_len)) _ _ (λ _. refl)
    (λ w. no_true (sym (h refl) ∙ (λ i. not-false (exchanges c r) e i && not-false (eqb r.count g.output_len) w i))))
others_drawn SetPrm g c b r octets h =
    let p = octets.prm in
    either Others (other_owns c (master_of r)) refl
    (either Others (not (within 7 r.count g.parameter_len)) refl
    (either Others (bit p.status 6) refl
    (either Others (not (bit p.status 7)) refl
    (either Others (other_ident g p || (wants_watchdog p && bad_factors p)) refl refl))))
others_drawn ChkCfg g c b r octets h =
    either Others (not (owns c (master_of r))) refl (either Others (not (within 1 r.count g.configuration_len)) refl refl)
others_drawn SlaveDiag g c b r octets h = either Others (owns c (master_of r) && not c.flags.stat_diag) refl refl
others_drawn GetCfg g c b r octets h = refl
others_drawn ReadInputs g c b r octets h = either Others (in_exchange c) refl refl
others_drawn ReadOutputs g c b r octets h = either Others (in_exchange c) refl refl
