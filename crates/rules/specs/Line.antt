-- The clear, the watchdog and the Tick (document 01, User calls, last paragraph); since document 02, Req 07, a Tick is 1 ms.
use Rattle.std.specs.Prelude.{ℕ, ◌-◌, Bool, true, false, cond, not, ◌&&◌, eqb, leb}
use Rattle.buffers.specs.Events.{watchdog_event}
use Rattle.state.specs.declared.control.Control.{Control}
use Rattle.state.specs.declared.state.Drawn.TheVariants.{Nothing}
use Rattle.rules.specs.declared.outcome.Outcome.{Outcome}
use Rattle.rules.specs.Control.{with_noted, with_watchdog, raise, in_wait_prm}
use Rattle.rules.specs.Phases.{drawing, entering_wait_prm}

-- a clear enters WAIT_PRM, and none is noted any more
abbrev pub clearing : Control → Outcome
clearing c = entering_wait_prm (with_noted c false) Nothing

-- on a busy line it is noted
abbrev pub clear_on : Bool → Control → Outcome
clear_on busy c = cond busy (drawing (with_noted c true) Nothing) (clearing c)

-- a noted clear is carried out when the line is idle
abbrev pub clear_noted : Bool → Control → Outcome
clear_noted busy c = cond (c.noted && not busy) (clearing c) (drawing c Nothing)

-- in WAIT_CFG or DATA_EXCH with the watchdog on
abbrev pub counts : Control → Bool
counts c = not (in_wait_prm c.phase) && not (eqb c.watchdog.reload 0)

-- the watchdog with n ticks left
abbrev pub with_remaining : Control → ℕ → Control
with_remaining c n = with_watchdog c (record { reload = c.watchdog.reload; remaining = n })

-- a Tick where no clear is noted: the watchdog counts down; at 0, event 3 and a clear
unfoldable pub ticked : Bool → Control → Outcome
ticked busy c =
    cond (not (counts c)) (drawing c Nothing)
    (cond (leb c.watchdog.remaining 1) (clear_on busy (raise (with_remaining c 0) watchdog_event))
    (drawing (with_remaining c (c.watchdog.remaining - 1)) Nothing))
