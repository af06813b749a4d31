-- `state::well::well_counts` meets its contract.
use Prim.Native.Nat.{ℕ, ◌≤◌}
use native.Mathlib.Omega.{arith}
use mathlib.Core.Path.{◌≡◌, sym, ap, ◌∙◌}
use mathlib.Core.Bool.{false, not}
use mathlib.Core.List.{List}
use lib.ListN.{get_or, replicate}
use Rattle.state.specs.Well.{count_tests}
use Rattle.state.proofs.ByWords.{limits_all, nothing_open}
use Rattle.state.proofs.Tests.{all_fails, others_decide, within_holds, within_below, within_above}
use Rattle.state.proofs.well.well_counts.Goals as goal

-- the count of the diagnosis passes
counted : (m : List ℕ) → 6 ≤ get_or m 56 0 → get_or m 56 0 ≤ get_or m 52 0 → not (get_or (count_tests m) 0 false) ≡ false
counted m h k = ap not (within_holds 6 (get_or m 56 0) (get_or m 52 0) (h, k))

pub returns-then-image-lt6 : goal.returns-then-image-lt6
returns-then-image-lt6 c =
    let m = c.args.image.octets.now in
    all_fails (count_tests m) 0 (within_below 6 (get_or m 56 0) (get_or m 52 0) c.if-image-lt6.true)

pub returns-then-image : goal.returns-then-image
returns-then-image c =
    let m = c.args.image.octets.now in
    all_fails (count_tests m) 0 (within_above 6 (get_or m 56 0) (get_or m 52 0) c.if-image-lt6.false c.if-image.true)

pub returns-then-nothing_behind : goal.returns-then-nothing_behind
returns-then-nothing_behind c =
    let m = c.args.image.octets.now in
    let none = sym (limits_all m 57 (replicate 7 0) (omega arith)) ∙ sym c.nothing_behind.ensures ∙ c.if-nothing_behind.true in
    sym (nothing_open m none) ∙ others_decide 1 (count_tests m) (counted m c.if-image-lt6.false c.if-image.false, tt)

pub returns : goal.returns
returns c =
    let m = c.args.image.octets.now in
    c.well_sets.ensures ∙ others_decide 1 (count_tests m) (counted m c.if-image-lt6.false c.if-image.false, tt)
