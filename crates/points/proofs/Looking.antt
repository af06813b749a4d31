-- The lookup after it has looked at n entries and found none.
use Prim.Native.Nat.{ℕ, ◌+◌, ◌≤◌, ◌<◌}
use mathlib.Core.Path.{◌≡◌, subst⁻¹}
use mathlib.Core.List.{List}
use lib.ListN.{length, get_or}
use Rattle.points.specs.declared.Point.{Point}
use Rattle.points.specs.Points.{table, Kth, Stands}
use Rattle.points.proofs.Places.{standing}

-- none of the first n entries has this number
abbrev pub Absent : ℕ → ℕ → Type 0
Absent dsap n = (p : Point) (k : ℕ) → k ≤ n → ¬ Stands dsap p k

-- what the code reads at n, of a table that is this one, is the entry after the first n
pub next_entry : (entries : List Point) → entries ≡ table → (blank : Point) (n : ℕ) → n < length table → Kth table (n + 1) (get_or entries n blank)
next_entry entries e blank n h = subst⁻¹ (λ ps. Kth table (n + 1) (get_or ps n blank)) e (standing table blank n h)
