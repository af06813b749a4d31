-- What is chosen by a test, and two tests in one.
use mathlib.Core.Path.{◌≡◌, refl, sym, ◌∙◌}
use mathlib.Core.Bool.{Bool, true, false, cond, ◌&&◌, ◌||◌}
use mathlib.Core.Logic.{◌⊎◌, inl, inr}
use Rattle.telegram.proofs.Run.{no_true}

-- two tests that agree choose alike
module _ {A B : Type 0} (P : A → B → Type 0) where
  pub both : (t u : Bool) (x y : A) (v w : B) → t ≡ u → (t ≡ true → P x v) → (t ≡ false → P y w) → P (cond t x y) (cond u v w)
  both true true x y v w e f g = f refl
  both true false x y v w e f g = no_true (sym e)
  both false true x y v w e f g = no_true e
  both false false x y v w e f g = g refl

-- what holds of both holds of the one that is chosen
pub by_test : {A : Type 0} (P : A → Type 0) (t : Bool) (x y : A) → (t ≡ true → P x) → (t ≡ false → P y) → P (cond t x y)
by_test P true x y f g = f refl
by_test P false x y f g = g refl

pub either : {A : Type 0} (P : A → Type 0) (t : Bool) {x y : A} → P x → P y → P (cond t x y)
either P t {x} {y} p q = by_test P t x y (λ _. p) (λ _. q)

-- two tests in one
pub and_right : (p q : Bool) → p && q ≡ true → q ≡ true
and_right true q e = e
and_right false q e = no_true e

pub and_left : (p q : Bool) → p && q ≡ true → p ≡ true
and_left true q e = refl
and_left false q e = no_true e

pub or_left : (p q : Bool) → p || q ≡ false → p ≡ false
or_left true q e = no_true (sym e)
or_left false q e = refl

pub or_right : (p q : Bool) → p || q ≡ false → q ≡ false
or_right true q e = no_true (sym e)
or_right false q e = e

-- one of two tests holds where the second does if the first fails
pub or_holds : (p q : Bool) → (p ≡ false → q ≡ true) → p || q ≡ true
or_holds true q f = refl
or_holds false q f = f refl

-- or where one of them does
pub or_first : (p q : Bool) → p ≡ true → p || q ≡ true
or_first p q e = or_holds p q (λ f. no_true (sym f ∙ e))

pub or_second : (p q : Bool) → q ≡ true → p || q ≡ true
or_second p q e = or_holds p q (λ _. e)

-- and then one of them does
pub or_either : (p q : Bool) → p || q ≡ true → (p ≡ true) ⊎ (q ≡ true)
or_either true q e = inl refl
or_either false q e = inr e

-- where the first of two tests holds and not both, the second fails
pub and_second : (p q : Bool) → p && q ≡ false → p ≡ true → q ≡ false
and_second true q e f = e
and_second false q e f = no_true f
