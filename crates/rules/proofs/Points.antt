-- What is asked at each point, by the definition on the DSAP.
use Prim.Native.Nat.{ℕ}
use mathlib.Core.Path.{◌≡◌, refl, sym}
use mathlib.Core.Bool.{Bool, true, false, cond, not}
use lib.Dec.{eqb}
use borrow.Author.Tests.{ne_eqb}
use Rattle.points.specs.declared.Point.{Point}
use Rattle.points.specs.declared.Point.TheVariants as point
use Rattle.points.specs.Points.{number_of}
use Rattle.rules.specs.declared.request.Request.{Request}
use Rattle.rules.specs.declared.request.Service.{Service}
use Rattle.rules.specs.declared.request.Service.TheVariants.{Reject, SetPrm, ChkCfg, SlaveDiag, GetCfg, ReadInputs, ReadOutputs}
use Rattle.rules.specs.Requests.{point_of}

-- a service that expects no data
abbrev without_data : ℕ → Service → Service
without_data count s = cond (not (eqb count 0)) Reject s

-- by the point and the count of data octets
abbrev pub asked : Point → ℕ → Service
asked point.SetPrm count = SetPrm
asked point.ChkCfg count = ChkCfg
asked point.SlaveDiag count = without_data count SlaveDiag
asked point.GetCfg count = without_data count GetCfg
asked point.ReadInputs count = without_data count ReadInputs
asked point.ReadOutputs count = without_data count ReadOutputs
asked point.GlobalControl count = Reject

rejected_anyway : (wrong : Bool) → Reject ≡ cond wrong Reject Reject
rejected_anyway true = refl
rejected_anyway false = refl

pub asked_at_point : (p : Point) (r : Request) → number_of p ≡ r.dsap → asked p r.count ≡ point_of r
asked_at_point point.SetPrm r e = rw (sym e)
asked_at_point point.ChkCfg r e = rw (sym e)
asked_at_point point.SlaveDiag r e = rw (sym e)
asked_at_point point.GetCfg r e = rw (sym e)
asked_at_point point.ReadInputs r e = rw (sym e)
asked_at_point point.ReadOutputs r e = rw (sym e)
asked_at_point point.GlobalControl r e = rw (sym e) (rejected_anyway (not (eqb r.count 0)))

pub asked_nowhere : (r : Request) → ((p : Point) → ¬ (number_of p ≡ r.dsap)) → Reject ≡ point_of r
asked_nowhere r none =
    let differs : (p : Point) → eqb r.dsap (number_of p) ≡ false = λ p. ne_eqb _ _ (λ e. none p (sym e)) in
    rw (
      differs point.SetPrm,
      differs point.ChkCfg,
      differs point.SlaveDiag,
      differs point.GetCfg,
      differs point.ReadInputs,
      differs point.ReadOutputs,
    )
    (rejected_anyway (not (eqb r.count 0)))
