-- Every number up to the last comes back from its case.
use Prim.Native.Nat.{ℕ, ◌≤◌}
use mathlib.Core.Path.{◌≡◌, refl}
use Rattle.state.proofs.Count.{Counts, counted, count_le}
use Rattle.telegram.specs.declared.reader.Phase.{Phase as Reading}
use Rattle.telegram.specs.declared.reader.Phase.TheVariants as reading
use Rattle.telegram.specs.declared.Kind.{Kind}
use Rattle.telegram.specs.declared.Kind.TheVariants as kind
use Rattle.telegram.specs.declared.sender.Stage.{Stage}
use Rattle.telegram.specs.declared.sender.Stage.TheVariants as stage
use Rattle.state.specs.declared.control.Phase.{Phase}
use Rattle.state.specs.declared.control.Phase.TheVariants as phase
use Rattle.state.specs.declared.state.Drawn.{Drawn}
use Rattle.state.specs.declared.state.Drawn.TheVariants as drawn
use Rattle.state.specs.NumberLaws.{reading_back, kind_back, stage_back, phase_back, drawn_back}
use Rattle.state.specs.Number.{reading_number, reading_cases, reading_numbered, kind_number, kind_cases, kind_numbered, stage_number, stage_cases, stage_numbered, phase_number, phase_cases, phase_numbered, drawn_number, drawn_cases, drawn_numbered}

-- its numbers count the cases
reading_counts : Counts reading_cases reading.Off reading_number
unfolding reading_numbered
reading_counts = record { back = reading_back; in_order = refl; behind = refl }

-- a number up to the last comes back from its case
pub reading_counted : (n : ℕ) → n ≤ 12 → reading_number (reading_numbered n) ≡ n
unfolding reading_numbered
reading_counted = counted reading_counts

-- and none is greater
pub reading_le : (a : Reading) → reading_number a ≤ 12
reading_le = count_le reading_counts

-- its numbers count the cases
kind_counts : Counts kind_cases kind.Sd4 kind_number
unfolding kind_numbered
kind_counts = record { back = kind_back; in_order = refl; behind = refl }

-- a number up to the last comes back from its case
pub kind_counted : (n : ℕ) → n ≤ 3 → kind_number (kind_numbered n) ≡ n
unfolding kind_numbered
kind_counted = counted kind_counts

-- and none is greater
pub kind_le : (a : Kind) → kind_number a ≤ 3
kind_le = count_le kind_counts

-- its numbers count the cases
stage_counts : Counts stage_cases stage.Empty stage_number
unfolding stage_numbered
stage_counts = record { back = stage_back; in_order = refl; behind = refl }

-- a number up to the last comes back from its case
pub stage_counted : (n : ℕ) → n ≤ 10 → stage_number (stage_numbered n) ≡ n
unfolding stage_numbered
stage_counted = counted stage_counts

-- and none is greater
pub stage_le : (a : Stage) → stage_number a ≤ 10
stage_le = count_le stage_counts

-- its numbers count the cases
phase_counts : Counts phase_cases phase.DataExch phase_number
unfolding phase_numbered
phase_counts = record { back = phase_back; in_order = refl; behind = refl }

-- a number up to the last comes back from its case
pub phase_counted : (n : ℕ) → n ≤ 2 → phase_number (phase_numbered n) ≡ n
unfolding phase_numbered
phase_counted = counted phase_counts

-- and none is greater
pub phase_le : (a : Phase) → phase_number a ≤ 2
phase_le = count_le phase_counts

-- its numbers count the cases
drawn_counts : Counts drawn_cases drawn.Diagnosis drawn_number
unfolding drawn_numbered
drawn_counts = record { back = drawn_back; in_order = refl; behind = refl }

-- a number up to the last comes back from its case
pub drawn_counted : (n : ℕ) → n ≤ 8 → drawn_number (drawn_numbered n) ≡ n
unfolding drawn_numbered
drawn_counted = counted drawn_counts

-- and none is greater
pub drawn_le : (a : Drawn) → drawn_number a ≤ 8
drawn_le = count_le drawn_counts
