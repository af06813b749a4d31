-- The table has each point of document 01 once.
use Prim.Native.Nat.{ℕ, zero, suc, ◌+◌, ◌-◌, ◌≤◌}
use mathlib.Core.Path.{◌≡◌, refl, sym, ap, subst, ◌∙◌}
use native.Mathlib.Omega.{arith}
use Rattle.points.specs.declared.Point.{Point}
use Rattle.points.specs.declared.Point.TheVariants.{ReadInputs, ReadOutputs, GlobalControl, GetCfg, SlaveDiag, SetPrm, ChkCfg}
use Rattle.points.specs.Points.{number_of, table, Kth, EachOnce, SlaveDiagFirst}

-- where each point stands
abbrev pub place_of : Point → ℕ
place_of SlaveDiag = 1
place_of SetPrm = 2
place_of ChkCfg = 3
place_of ReadInputs = 4
place_of ReadOutputs = 5
place_of GetCfg = 6
place_of GlobalControl = 7

pub stands : (p : Point) → Kth table (place_of p) p
stands SlaveDiag = refl
stands SetPrm = refl
stands ChkCfg = refl
stands ReadInputs = refl
stands ReadOutputs = refl
stands GetCfg = refl
stands GlobalControl = refl

-- and nowhere else
stands_there : (k : ℕ) (p : Point) → Kth table k p → k ≡ place_of p
stands_there zero p a = absurd a
stands_there (suc zero) p a = ap place_of a
stands_there (suc (suc zero)) p a = ap place_of a
stands_there (suc (suc (suc zero))) p a = ap place_of a
stands_there (suc (suc (suc (suc zero)))) p a = ap place_of a
stands_there (suc (suc (suc (suc (suc zero))))) p a = ap place_of a
stands_there (suc (suc (suc (suc (suc (suc zero)))))) p a = ap place_of a
stands_there (suc (suc (suc (suc (suc (suc (suc zero))))))) p a = ap place_of a
stands_there (suc (suc (suc (suc (suc (suc (suc (suc k)))))))) p a = absurd a

-- the point with the number 56 + n, for n up to 6
abbrev named : ℕ → Point
named zero = ReadInputs
named (suc zero) = ReadOutputs
named (suc (suc zero)) = GlobalControl
named (suc (suc (suc zero))) = GetCfg
named (suc (suc (suc (suc zero)))) = SlaveDiag
named (suc (suc (suc (suc (suc zero))))) = SetPrm
named (suc (suc (suc (suc (suc (suc n)))))) = ChkCfg

-- a point has a number of 56 to 62, by which it is named
named_by : (p : Point) → (named (number_of p - 56) ≡ p) × (56 ≤ number_of p) × (number_of p ≤ 62)
named_by ReadInputs = (refl, omega arith, omega arith)
named_by ReadOutputs = (refl, omega arith, omega arith)
named_by GlobalControl = (refl, omega arith, omega arith)
named_by GetCfg = (refl, omega arith, omega arith)
named_by SlaveDiag = (refl, omega arith, omega arith)
named_by SetPrm = (refl, omega arith, omega arith)
named_by ChkCfg = (refl, omega arith, omega arith)

-- each of these numbers names a point
has_number : (n : ℕ) → n ≤ 6 → number_of (named n) ≡ 56 + n
has_number zero h = refl
has_number (suc zero) h = refl
has_number (suc (suc zero)) h = refl
has_number (suc (suc (suc zero))) h = refl
has_number (suc (suc (suc (suc zero)))) h = refl
has_number (suc (suc (suc (suc (suc zero))))) h = refl
has_number (suc (suc (suc (suc (suc (suc zero)))))) h = refl
has_number (suc (suc (suc (suc (suc (suc (suc n))))))) h = absurd (omega arith)

-- one number, one point
same_point : (p q : Point) → number_of p ≡ number_of q → p ≡ q
same_point p q e = sym (named_by p).0 ∙ ap (λ n. named (n - 56)) e ∙ (named_by q).0

pub each_once : EachOnce
each_once =
    record {
      these = λ number. (
        λ (p, k, s). subst (λ n. (56 ≤ n) × (n ≤ 62)) s.1 ((named_by p).1, (named_by p).2),
        λ (low, high).
            let p = named (number - 56) in
            (p, place_of p, (stands p, has_number (number - 56) (omega arith) ∙ omega arith)),
      );
      once = λ number p q j k a b.
          let e = same_point p q (a.1 ∙ sym b.1) in
          (e, stands_there j p a.0 ∙ ap place_of e ∙ sym (stands_there k q b.0));
      seven = refl;
    }

pub slave_diag_first : SlaveDiagFirst
slave_diag_first = stands SlaveDiag
