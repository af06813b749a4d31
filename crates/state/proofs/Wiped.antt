-- The buffers after Start wiped them: zeros, the slice in the last, and nothing past them changed.
use Prim.Native.Nat.{ℕ, ◌+◌, ◌-◌, ◌≤◌}
use native.Mathlib.Omega.{arith}
use mathlib.Core.Path.{◌≡◌, sym, ap, ◌∙◌}
use mathlib.Core.Logic.{inl, inr}
use mathlib.Core.List.{List, ◌++◌}
use lib.ListN.{length, take, drop, length-replicate, replicate-append-replicate}
use lib.Seq.{take_at, drop_at}
use Rattle.octets.specs.Part.{part, pasted}
use Rattle.octets.proofs.Parts.{part_part, pasted_length, pasted_part, pasted_behind, pasted_apart}
use Rattle.state.specs.declared.setup.Setup.{Setup}
use Rattle.state.specs.Layout.{image_length, get_cfg_at, end_of}
use Rattle.state.specs.Start.{zeros, wiped}
use Rattle.state.proofs.Places.{get_cfg_inside}

-- ---- zeros

zeros_length : (n : ℕ) → length (zeros n) ≡ n
zeros_length n = length-replicate {A = ℕ} n 0

-- the front of zeros, and what lies behind it
zeros_split : (j k n : ℕ) → j + k ≤ n → zeros n ≡ zeros j ++ (zeros k ++ zeros (n - (j + k)))
zeros_split j k n h =
    let e : j + (k + (n - (j + k))) ≡ n = omega arith in
    ap (λ (i : ℕ). zeros i) (sym e)
    ∙ sym (replicate-append-replicate {A = ℕ} j (k + (n - (j + k))) 0)
    ∙ ap (λ (l : List ℕ). zeros j ++ l) (sym (replicate-append-replicate {A = ℕ} k (n - (j + k)) 0))

-- a part of zeros
zeros_part : (n j k : ℕ) → j + k ≤ n → part (zeros n) j k ≡ zeros k
zeros_part n j k h =
    ap (λ (l : List ℕ). part l j k) (zeros_split j k n h)
    ∙ ap (take k) (drop_at (zeros j) _ j (zeros_length j))
    ∙ take_at (zeros k) _ k (zeros_length k)

-- ---- the buffers that were wiped

module _ (m : List ℕ) (s : Setup) (slice : List ℕ) (end : ℕ) (long : s.get_cfg_len ≡ length slice) (far : end_of s ≤ end) (room : end ≤ length m) where
  -- the memory with zeros in all the buffers
  abbrev cleared : List ℕ
  cleared = pasted m image_length (zeros (end - image_length))

  -- the slice lies in its buffer
  slice_in : (image_length ≤ get_cfg_at s) × (get_cfg_at s + length slice ≤ end)
  slice_in = let u = get_cfg_inside s (length slice) (omega arith) in (omega arith, omega arith)

  cleared_length : length cleared ≡ length m
  cleared_length = pasted_length m image_length _ (rw (zeros_length (end - image_length)) (let h = slice_in in omega arith))

  -- zeros behind the state
  cleared_part : (a n : ℕ) → image_length ≤ a → a + n ≤ end → part cleared a n ≡ zeros n
  cleared_part a n h g =
      let k : ℕ = end - image_length in
      let z = zeros_length k in
      let whole : part cleared image_length k ≡ zeros k =
      ap (part cleared image_length) (sym z) ∙ pasted_part m image_length (zeros k) (omega arith)
      in
      let e : image_length + (a - image_length) ≡ a = omega arith in
      let l = cleared_length in
      ap (λ (i : ℕ). part cleared i n) (sym e)
      ∙ sym (part_part cleared image_length k (a - image_length) n (omega arith) (omega arith))
      ∙ ap (λ (x : List ℕ). part x (a - image_length) n) whole
      ∙ zeros_part k (a - image_length) n (omega arith)

  -- the memory keeps its length
  pub wiped_length : length (wiped m s slice end) ≡ length m
  unfolding wiped
  wiped_length =
      let h = slice_in in
      pasted_length cleared (get_cfg_at s) slice (rw cleared_length (omega arith)) ∙ cleared_length

  -- zeros from the state up to the slice
  pub wiped_zeros : (a n : ℕ) → image_length ≤ a → a + n ≤ get_cfg_at s → part (wiped m s slice end) a n ≡ zeros n
  unfolding wiped
  wiped_zeros a n h g =
      let f = slice_in in
      pasted_apart cleared (get_cfg_at s) slice a n (rw cleared_length (omega arith)) (inl g) ∙ cleared_part a n h (omega arith)

  -- and behind it
  pub wiped_after : (a n : ℕ) → get_cfg_at s + length slice ≤ a → a + n ≤ end → part (wiped m s slice end) a n ≡ zeros n
  unfolding wiped
  wiped_after a n h g =
      let f = slice_in in
      pasted_apart cleared (get_cfg_at s) slice a n (rw cleared_length (omega arith)) (inr h) ∙ cleared_part a n (omega arith) g

  -- the slice
  pub wiped_slice : part (wiped m s slice end) (get_cfg_at s) (length slice) ≡ slice
  unfolding wiped
  wiped_slice = let f = slice_in in pasted_part cleared (get_cfg_at s) slice (rw cleared_length (omega arith))

  -- nothing past the buffers is changed
  pub wiped_behind : drop (end) (wiped m s slice end) ≡ drop (end) m
  unfolding wiped
  wiped_behind =
      let f = slice_in in
      let z = zeros_length (end - image_length) in
      pasted_behind cleared (get_cfg_at s) slice (end) (rw cleared_length (omega arith)) f.1
      ∙ pasted_behind m image_length (zeros (end - image_length)) (end) (omega arith) (omega arith)
