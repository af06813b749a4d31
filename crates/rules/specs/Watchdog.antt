-- The watchdog that Set_Prm asks for (document 01, Services, Set_Prm; document 02, Req 07). "A Tick becomes 1 ms."
use Rattle.std.specs.Prelude.{ℕ, ◌*◌, ◌≤◌, Bool, cond, ◌&&◌, ◌||◌, eqb, leb}
use Rattle.state.specs.declared.control.Watchdog.{Watchdog}
use Rattle.rules.specs.declared.request.Prm.{Prm}
use Rattle.rules.specs.Control.{bit}

-- bit 3 of octet 0 switches the watchdog on
abbrev pub wants_watchdog : Prm → Bool
wants_watchdog p = bit p.status 3

-- "octet 1 or 2 zero or both 1", on either base
abbrev pub bad_factors : Prm → Bool
bad_factors p = eqb p.factor1 0 || eqb p.factor2 0 || (eqb p.factor1 1 && eqb p.factor2 1)

-- "octet 7 of Set_Prm, bit 2 set for a 1 ms base"; it is there with 8 or more data octets, and "without octet 7 the base is 10 ms"
abbrev pub fast_base : ℕ → Prm → Bool
fast_base count p = leb 8 count && bit p.base 2

-- the ticks of a base of 1 ms or of 10 ms: "1 or 10 times their product"
abbrev pub ticks_by : Bool → ℕ → ℕ → ℕ
ticks_by fast factor1 factor2 = cond fast 1 10 * (factor1 * factor2)

-- those of a Set_Prm with so many data octets, 0 where it does not switch the watchdog on
abbrev pub ticks_of : ℕ → Prm → ℕ
ticks_of count p = cond (wants_watchdog p) (ticks_by (fast_base count p) p.factor1 p.factor2) 0

-- the most that factors which are octets give: 650,250
abbrev pub most_ticks : ℕ
most_ticks = 10 * (255 * 255)

-- no more ticks remain than the watchdog is refilled to, and these are no more than that
pub record TicksWithin (w : Watchdog) : Type 0 where
  pub left : w.remaining ≤ w.reload
  pub most : w.reload ≤ most_ticks
