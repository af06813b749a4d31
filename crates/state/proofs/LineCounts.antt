-- Whether a phase or a stage is before the data, by its number, and the test of the data octets that are read or sent.
use Prim.Native.Nat.{ℕ, ◌≤◌, ◌<◌}
use native.Mathlib.Omega.{arith}
use mathlib.Core.Path.{◌≡◌, refl, sym, ap, ◌∙◌}
use mathlib.Core.Bool.{Bool, true, false, not, ◌&&◌, ◌||◌}
use lib.Dec.{leb, eqb}
use borrow.Author.Tests.{leb-true, leb-false, le-leb, eqb-true, eqb-false, ne_eqb}
use Rattle.telegram.specs.declared.reader.Phase.{Phase}
use Rattle.telegram.specs.declared.reader.Phase.TheVariants as reading
use Rattle.telegram.specs.declared.sender.Stage.{Stage}
use Rattle.telegram.specs.declared.sender.Stage.TheVariants as stage
use Rattle.telegram.specs.Reading.{in_body}
use Rattle.telegram.specs.Counts.{before_data, stage_before_data}
use Rattle.telegram.proofs.Run.{no_true}
use Rattle.state.specs.Number.{reading_number, reading_cases, reading_numbered, stage_number, stage_numbered}
use Rattle.state.specs.Well.{part_done}
use Rattle.state.proofs.Count.{past}
use Rattle.state.proofs.Choice.{and_left, and_right, or_holds}
use Rattle.state.proofs.Numbers.{reading_counted, stage_counted}

-- a reader's phase is before the data exactly if its number is below 9
pub reading_before : (p : Phase) → leb 9 (reading_number p) ≡ not (before_data p)
reading_before reading.Start = refl
reading_before reading.Le = refl
reading_before reading.LeAgain = refl
reading_before reading.SdAgain = refl
reading_before reading.Da = refl
reading_before reading.Sa = refl
reading_before reading.Fc = refl
reading_before reading.Dsap = refl
reading_before reading.Ssap = refl
reading_before reading.Body = refl
reading_before reading.End = refl
reading_before reading.Done = refl
reading_before reading.Off = refl

-- the same from the number
pub reading_numbered_lem : (n : ℕ) → n ≤ 12 → leb 9 n ≡ not (before_data (reading_numbered n))
reading_numbered_lem n h = ap (leb 9) (sym (reading_counted n h)) ∙ reading_before (reading_numbered n)

-- it is at the data exactly if its number is 9
body_number : (p : Phase) → eqb (reading_number p) 9 ≡ in_body p
body_number reading.Start = refl
body_number reading.Le = refl
body_number reading.LeAgain = refl
body_number reading.SdAgain = refl
body_number reading.Da = refl
body_number reading.Sa = refl
body_number reading.Fc = refl
body_number reading.Dsap = refl
body_number reading.Ssap = refl
body_number reading.Body = refl
body_number reading.End = refl
body_number reading.Done = refl
body_number reading.Off = refl

-- the same from the number, whatever it is
pub body_numbered : (n : ℕ) → eqb n 9 ≡ in_body (reading_numbered n)
unfolding reading_numbered
body_numbered n = go (leb n 12) refl
  where
    go : (t : Bool) → leb n 12 ≡ t → eqb n 9 ≡ in_body (reading_numbered n)
    go true e = ap (λ (k : ℕ). eqb k 9) (sym (reading_counted n (leb-true n 12 e))) ∙ body_number (reading_numbered n)
    go false e =
        let h : 12 < n = leb-false n 12 e in
        ne_eqb n 9 (λ f. omega arith) ∙ ap in_body (past reading_cases n (omega arith))

-- a sender's stage is before the data exactly if its number is below 7
pub stage_before : (g : Stage) → leb 7 (stage_number g) ≡ not (stage_before_data g)
stage_before stage.Start = refl
stage_before stage.Le = refl
stage_before stage.LeAgain = refl
stage_before stage.SdAgain = refl
stage_before stage.Da = refl
stage_before stage.Sa = refl
stage_before stage.Fc = refl
stage_before stage.Body = refl
stage_before stage.End = refl
stage_before stage.Single = refl
stage_before stage.Empty = refl

-- the same from the number
pub stage_numbered_lem : (n : ℕ) → n ≤ 10 → leb 7 n ≡ not (stage_before_data (stage_numbered n))
stage_numbered_lem n h = ap (leb 7) (sym (stage_counted n h)) ∙ stage_before (stage_numbered n)

-- n is the number of a phase, which is before the data exactly if it is below first; of c data octets k are done
module _ (first n c k : ℕ) {before : Bool} (e : leb first n ≡ not before) where
  -- what the test says of them
  pub part_true : part_done first n c k ≡ true → (k ≤ c) × (before ≡ true → k ≡ 0)
  part_true h = go (eqb k 0) refl h
    where
      go : (t : Bool) → eqb k 0 ≡ t → t || (leb first n && leb k c) ≡ true → (k ≤ c) × (before ≡ true → k ≡ 0)
      go true f g = let z = eqb-true k 0 f in (omega arith, λ _. z)
      go false f g =
          (leb-true k c (and_right (leb first n) (leb k c) g), λ b. no_true (sym (e ∙ ap not b) ∙ and_left (leb first n) (leb k c) g))

  -- and back
  pub part_holds : k ≤ c → (before ≡ true → k ≡ 0) → part_done first n c k ≡ true
  part_holds l z = or_holds (eqb k 0) (leb first n && leb k c) (λ f. λ i. reached before e z f i && le-leb k c l i)
    where
      reached : (b : Bool) → leb first n ≡ not b → (b ≡ true → k ≡ 0) → eqb k 0 ≡ false → leb first n ≡ true
      reached true e z f = absurd (eqb-false k 0 f (z refl))
      reached false e z f = e
