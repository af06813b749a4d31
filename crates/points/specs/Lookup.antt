-- What the lookup of a point promises (document 02, Req 03).
use Rattle.std.specs.Prelude.{ℕ, ◌≡◌, ◌↔◌, length, Some, None}
use Rattle.points.specs.declared.Point.{Point}
use Rattle.points.specs.declared.Lookup.{Lookup}
use Rattle.points.specs.Points.{table, Stands}

-- what the lookup promises of its answer: what it found, and at how many entries it looked
pub record Promised (dsap : ℕ) (l : Lookup) : Type 0 where
  -- a point is found and k entries are looked at exactly if the k-th entry, counted from 1, is the point with this number
  pub hit : (p : Point) (k : ℕ) → (l ≡ record { found = Some p; looked_at = k }) ↔ Stands dsap p k
  -- "exactly if the point is not there, it finds none and has looked at all"
  pub none : (l ≡ record { found = None; looked_at = length table }) ↔ ((p : Point) (k : ℕ) → ¬ Stands dsap p k)

-- for every DSAP one answer alone keeps the promise
abbrev pub OneAnswer : Type 0
OneAnswer = (dsap : ℕ) (l m : Lookup) → Promised dsap l → Promised dsap m → l ≡ m
