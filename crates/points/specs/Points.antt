-- The service access points of document 01 (Services), and the table that they are looked up in.
use Rattle.std.specs.Prelude.{ℕ, zero, suc, ◌≤◌, ◌≡◌, ◌↔◌, List, [], ◌∷◌, length}
use Rattle.points.specs.declared.Point.{Point}
use Rattle.points.specs.declared.Point.TheVariants.{ReadInputs, ReadOutputs, GlobalControl, GetCfg, SlaveDiag, SetPrm, ChkCfg}

-- the number of each point
abbrev pub number_of : Point → ℕ
number_of ReadInputs = 56
number_of ReadOutputs = 57
number_of GlobalControl = 58
number_of GetCfg = 59
number_of SlaveDiag = 60
number_of SetPrm = 61
number_of ChkCfg = 62

-- the entries of the table, in the order in which a lookup looks at them
abbrev pub table : List Point
table = SlaveDiag ∷ SetPrm ∷ ChkCfg ∷ ReadInputs ∷ ReadOutputs ∷ GetCfg ∷ GlobalControl ∷ []

-- p is the k-th of some entries, counted from 1
abbrev pub Kth : List Point → ℕ → Point → Type 0
Kth [] k p = ⊥
Kth (q ∷ qs) zero p = ⊥
Kth (q ∷ qs) (suc zero) p = q ≡ p
Kth (q ∷ qs) (suc (suc k)) p = Kth qs (suc k) p

-- the k-th entry of the table is p, which has this number
abbrev pub Stands : ℕ → Point → ℕ → Type 0
Stands number p k = Kth table k p × (number_of p ≡ number)

-- "a table with each point of document 01 once"
pub record EachOnce : Type 0 where
  -- the numbers of the entries are 56 to 62
  pub these : (number : ℕ) → ((p : Point) × (k : ℕ) × Stands number p k) ↔ ((56 ≤ number) × (number ≤ 62))
  -- each stands at one place alone
  pub once : (number : ℕ) (p q : Point) (j k : ℕ) → Stands number p j → Stands number q k → (p ≡ q) × (j ≡ k)
  -- and there is no entry more
  pub seven : length table ≡ 7

-- a lookup looks at Slave_Diag first
abbrev pub SlaveDiagFirst : Type 0
SlaveDiagFirst = Kth table 1 SlaveDiag
