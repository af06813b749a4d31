-- Answers that keep the lookup's promise, and what the promise says to a caller.
use Prim.Native.Nat.{ℕ}
use mathlib.Core.Path.{◌≡◌, refl, sym, ap, subst, ◌∙◌}
use Rattle.std.specs.Prelude.{Option, Some, None}
use Rattle.points.specs.declared.Point.{Point}
use Rattle.points.specs.declared.Lookup.{Lookup}
use Rattle.points.specs.Points.{number_of, Stands}
use Rattle.points.specs.Lookup.{Promised, OneAnswer}
use Rattle.points.proofs.EachOnce.{place_of, stands, each_once}

-- found: this point, at this place
abbrev pub found_at : Point → ℕ → Lookup
found_at p k = record { found = Some p; looked_at = k }

-- none found among n
abbrev pub none_after : ℕ → Lookup
none_after n = record { found = None; looked_at = n }

-- what tells a hit from none, and which point is hit
abbrev IsHit : Option Point → Type 0
IsHit (Some p) = Unit
IsHit None = ⊥

abbrev point_in : Option Point → Point → Point
point_in (Some p) otherwise = p
point_in None otherwise = otherwise

hit_is_not_none : (p : Point) (j k : ℕ) → ¬ (found_at p j ≡ none_after k)
hit_is_not_none p j k e = subst (λ l. IsHit l.found) e tt

pub promised_hit : (dsap : ℕ) (p : Point) (k : ℕ) → Stands dsap p k → Promised dsap (found_at p k)
promised_hit dsap p k s =
    record {
      hit = λ q j. (
        λ e. subst (λ r. Stands dsap r j) (ap (λ l. point_in l.found p) e) (subst (Stands dsap p) (ap (λ l. l.looked_at) e) s),
        λ t. let same = each_once.once dsap p q k j s t in ap (λ r. found_at r k) same.0 ∙ ap (found_at q) same.1,
      );
      none = (λ e. absurd (hit_is_not_none p k _ e), λ absent. absurd (absent p k s));
    }

-- the point found has the number that was looked for
pub found_number : {dsap : ℕ} {l : Lookup} {p : Point} → Promised dsap l → l.found ≡ Some p → number_of p ≡ dsap
found_number {dsap} {l} {p} r e = ((r.hit p l.looked_at).0 (ap (λ f. record { found = f; looked_at = l.looked_at }) e)).1

-- where none is found, no point has the number that was looked for
pub none_found : {dsap : ℕ} {l : Lookup} → Promised dsap l → l.found ≡ None → (p : Point) → ¬ (number_of p ≡ dsap)
none_found r e p same = subst IsHit (sym (ap (λ m. m.found) ((r.hit p (place_of p)).1 (stands p, same))) ∙ e) tt

pub one_answer : OneAnswer
one_answer dsap l m r s = go l.found refl
  where
    go : (f : Option Point) → l.found ≡ f → l ≡ m
    go (Some p) e =
        let k = l.looked_at in
        let hit : l ≡ found_at p k = ap (λ f. record { found = f; looked_at = k }) e in
        hit ∙ sym ((s.hit p k).1 ((r.hit p k).0 hit))
    go None e =
        let absent : (p : Point) (k : ℕ) → ¬ Stands dsap p k = λ p k t. none_found r e p t.1 in
        r.none.1 absent ∙ sym (s.none.1 absent)
