-- A data octet in a fill buffer: the buffer begins with one more, and every other buffer stays.
use Prim.Native.Nat.{ℕ, suc, ◌+◌, ◌≤◌, ◌<◌}
use native.Mathlib.Omega.{arith}
use mathlib.Core.Path.{◌≡◌, refl, sym, ap, ◌∙◌}
use mathlib.Core.Bool.{Bool, true, false, cond}
use mathlib.Core.Logic.{inl, inr}
use mathlib.Core.List.{List, [], ◌∷◌, ◌++◌}
use lib.Dec.{ltb, eqb}
use lib.ListN.{length, get_or, take, length-append, get_or-append}
use lib.Seq.{take_all, take-append-le, get_or-append_seam}
use borrow.Author.Tests.{ltb-true, ltb-false, eq-eqb, ne_eqb}
use Rattle.octets.specs.Part.{part, stored_in}
use Rattle.octets.proofs.Parts.{stored_next, stored_length, stored_apart, stored_past}
use Rattle.state.specs.declared.setup.Setup.{Setup}
use Rattle.state.specs.Layout.{row_count, row_length, start_of}
use Rattle.channels.specs.Image.{channels_at, rows_length}
use Rattle.state.proofs.Places.{in_front, beyond, apart}
use Rattle.agreement.proofs.Relation.{BeginsWith}
use Rattle.agreement.proofs.OtherBuffersStay.{Elsewhere}

-- one octet more, while the buffer goes, and past its end none
pub begins_more : (m : List ℕ) (a n : ℕ) (ds : List ℕ) (b : ℕ) → a + n ≤ length m → BeginsWith m a n ds
    → BeginsWith (stored_in m a n (length ds) b) a n (ds ++ b ∷ [])
begins_more m a n ds b room h = go (ltb (length ds) n) refl
  where
    long : length (ds ++ b ∷ []) ≡ length ds + 1
    long = length-append ds (b ∷ [])

    go : (t : Bool) → ltb (length ds) n ≡ t → BeginsWith (stored_in m a n (length ds) b) a n (ds ++ b ∷ [])
    go true e =
        let u : length ds < n = ltb-true _ _ e in
        let w = long in
        let whole : take n (ds ++ b ∷ []) ≡ ds ++ b ∷ [] = take_all n (ds ++ b ∷ []) (omega arith) in
        let all : take n ds ≡ ds = take_all n ds (omega arith) in
        let before : part m a (length ds) ≡ ds = rw all at h in
        rw (whole, long) (stored_next m a n (length ds) b room u ∙ ap (λ (l : List ℕ). l ++ b ∷ []) before)
    go false e =
        let u : n ≤ length ds = ltb-false _ _ e in
        rw (stored_past m a n (length ds) b u, take-append-le n ds (b ∷ []) u) h

-- a data octet that is kept apart: number i of those gathered
pub kept_octet : (ds : List ℕ) (b i x : ℕ) → (suc i ≤ length ds → x ≡ get_or ds i 0) → suc i ≤ length (ds ++ b ∷ [])
    → cond (eqb (length ds) i) b x ≡ get_or (ds ++ b ∷ []) i 0
kept_octet ds b i x h g = go (ltb i (length ds)) refl
  where
    go : (t : Bool) → ltb i (length ds) ≡ t → cond (eqb (length ds) i) b x ≡ get_or (ds ++ b ∷ []) i 0
    go true e =
        let u : i < length ds = ltb-true _ _ e in
        rw (ne_eqb (length ds) i (λ z. omega arith)) (h u ∙ sym (get_or-append ds (b ∷ []) 0 i u))
    go false e =
        let u : length ds ≤ i = ltb-false _ _ e in
        let w = length-append ds (b ∷ []) in
        let v : length ds ≡ i = omega arith in
        rw (eq-eqb (length ds) i v) (sym (ap (λ (j : ℕ). get_or (ds ++ b ∷ []) j 0) (sym v) ∙ get_or-append_seam ds b [] 0))

-- a store in a buffer changes the memory there alone
pub stored_elsewhere : (g : Setup) (m : List ℕ) (a i k octet : ℕ) → i < row_count a
    → Elsewhere g a i m (stored_in m (start_of g a i) (row_length g a) k octet)
unfolding start_of
stored_elsewhere g m a i k octet h = record {
  long = stored_length m (start_of g a i) (row_length g a) k octet;
  other = λ b j n hj hn d.
      stored_apart m (start_of g a i) (row_length g a) k octet (start_of g b j) n (apart g a i (row_length g a) b j n h hj (omega arith) hn d);
  later = λ b j n o.
      let u = in_front g a b i (row_length g a) o h (omega arith) in
      stored_apart m (start_of g a i) (row_length g a) k octet (start_of g b j) n (inr (omega arith));
  rows = stored_apart m (start_of g a i) (row_length g a) k octet channels_at rows_length (inl (let v = beyond g a i in omega arith));
}
