-- The octets of each kind that the vat program reads and writes lie in the memory, behind the state.
use Rattle.std.proofs.Common.{◌≡◌, ℕ, ◌+◌, ◌<◌, ◌≤◌, Bool, true, false, cond, not, ◌&&◌, List, [], ◌∷◌, length, take, set, refl, arith}
use lib.Seq.{take-set-le}
use Rattle.state.specs.declared.answer.Refusal.TheVariants.{Range, Absent}
use Rattle.state.specs.declared.state.State.{State}
use Rattle.state.specs.Layout.{image_length}
use Rattle.state.proofs.Tests.{all_at}
use Rattle.rules.specs.Kinds.{in_range, writable}
use Rattle.steps.specs.Safe.{Safe}
use Rattle.steps.specs.Stepped.{told, refusing}
use Rattle.steps.specs.User.{absent, kind_at, write_octet}
use Rattle.steps.proofs.KindsInside.{kind_inside}

-- an octet lies behind the state and in the memory
abbrev pub Lies : List ℕ → ℕ → Type 0
Lies m a = (image_length ≤ a) × (a < length m)

module _ (s : State) (m : List ℕ) (kind index : ℕ) (safe : Safe s m) where
  pub reached : in_range s.setup kind index ≡ true → Lies m (kind_at s kind + index)
  reached e =
      let u = kind_inside s m kind index safe e in
      let r = safe.room in
      (omega arith, omega arith)

  -- a write leaves the state's octets
  pub written_front : (x : ℕ) → take image_length (write_octet s m kind index x).memory ≡ take image_length m
  unfolding write_octet
  written_front x = go (writable kind && in_range s.setup kind index) refl (absent s kind index)
    where
      go : (r : Bool) → (writable kind && in_range s.setup kind index) ≡ r → (a : Bool)
          → take image_length
          (cond (not r) (refusing Range s m) (cond a (refusing Absent s m) (told 0 s (set m (kind_at s kind + index) x)))).memory
          ≡ take image_length m
      go false e a = refl
      go true e true = refl
      go true e false =
          take-set-le image_length m (kind_at s kind + index) x
          (reached (all_at (writable kind ∷ in_range s.setup kind index ∷ []) 1 e)).0
