-- Control parts that differ in nothing that decides about sets, diagnosis and repeats: the phase, parameter OK, the diagnosis counts and
-- the chain.
use mathlib.Core.Path.{◌≡◌, refl, ap}
use mathlib.Core.Bool.{◌&&◌, ◌||◌}
use Rattle.state.specs.declared.setup.Setup.{Setup}
use Rattle.state.specs.declared.control.Control.{Control}
use Rattle.state.specs.Chain.{drawn_in}
use Rattle.state.proofs.Choice.{by_test}
use Rattle.rules.specs.declared.request.Request.{Request}
use Rattle.rules.specs.Control.{owns, exchanging, in_exchange, with_watchdog}
use Rattle.rules.specs.Requests.{master_of, acts, to_station, refilled}
use Rattle.rules.proofs.MayDrawOutputs.{is_outputs, may_draw_outputs}

pub record Alike (c d : Control) : Type 0 where
  pub phase_same : d.phase ≡ c.phase
  pub good_same : d.flags.parameters_good ≡ c.flags.parameters_good
  pub diagnosis_same : d.diagnosis ≡ c.diagnosis
  pub chain_same : d.chain ≡ c.chain

pub alike : {c d : Control} → d.phase ≡ c.phase → d.flags.parameters_good ≡ c.flags.parameters_good → d.diagnosis ≡ c.diagnosis → d.chain ≡ c.chain → Alike c d
alike e f g h = record { phase_same = e; good_same = f; diagnosis_same = g; chain_same = h }

-- both are in DATA_EXCH, or neither
pub exchange_same : {c d : Control} → Alike c d → in_exchange d ≡ in_exchange c
exchange_same s = ap exchanging s.phase_same

-- the held outputs may be drawn with both, or with neither
pub may_draw_same : {c d : Control} → Alike c d → may_draw_outputs d ≡ may_draw_outputs c
may_draw_same s = λ i. exchanging (s.phase_same i) || is_outputs (drawn_in (s.chain_same i))

-- the watchdog refilled
pub refilled_alike : (g : Setup) (c : Control) (r : Request) → Alike c (refilled g c r)
unfolding refilled
refilled_alike g c r =
    by_test (Alike c) (acts g r && to_station g r && owns c (master_of r)) (with_watchdog c (record { reload = c.watchdog.reload; remaining = c.watchdog.reload })) c
    (λ _. alike refl refl refl refl) (λ _. alike refl refl refl refl)
