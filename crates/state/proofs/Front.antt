-- A memory with a state in front: what lies behind the state is the memory's.
use Prim.Native.Nat.{ℕ, ◌+◌, ◌-◌, ◌≤◌}
use native.Mathlib.Omega.{arith}
use mathlib.Core.Path.{◌≡◌, sym, ap, ◌∙◌}
use mathlib.Core.List.{List, ◌++◌}
use lib.ListN.{length, take, drop, length-append, length-drop}
use lib.Seq.{take_at, drop_at, drop-drop}
use Rattle.octets.specs.Part.{part}
use Rattle.state.specs.declared.state.State.{State}
use Rattle.state.specs.Image.{image}
use Rattle.state.specs.Layout.{image_length}
use Rattle.state.specs.Memory.{kept}
use Rattle.state.proofs.Round.{image_length_lem}

-- the state in front
pub kept_take : (s : State) (m : List ℕ) → take image_length (kept s m) ≡ image s
kept_take s m = take_at (image s) (drop image_length m) image_length (image_length_lem s)

-- what lies behind it
pub kept_drop : (s : State) (m : List ℕ) (n : ℕ) → image_length ≤ n → drop n (kept s m) ≡ drop n m
kept_drop s m n h =
    let j : ℕ = n - image_length in
    let e : image_length + j ≡ n = omega arith in
    ap (λ (k : ℕ). drop k (kept s m)) (sym e)
    ∙ sym (drop-drop j image_length (kept s m))
    ∙ ap (drop j) (drop_at (image s) (drop image_length m) image_length (image_length_lem s))
    ∙ drop-drop j image_length m
    ∙ ap (λ (k : ℕ). drop k m) e

pub kept_part : (s : State) (m : List ℕ) (a n : ℕ) → image_length ≤ a → part (kept s m) a n ≡ part m a n
kept_part s m a n h = ap (take n) (kept_drop s m a h)

-- the length stays
pub kept_length : (s : State) (m : List ℕ) → image_length ≤ length m → length (kept s m) ≡ length m
kept_length s m h = simp (length-append, length-drop, image_length_lem s) (omega arith)

-- the last state counts
pub kept_kept : (s t : State) (m : List ℕ) → kept s (kept t m) ≡ kept s m
kept_kept s t m = ap (λ (l : List ℕ). image s ++ l) (drop_at (image t) (drop image_length m) image_length (image_length_lem t))
