-- `state::memory::has_room` meets its contract.
use Prim.Native.Nat.{ℕ}
use mathlib.Core.Path.{◌≡◌, sym, ap, ◌∙◌}
use mathlib.Core.Bool.{Bool, true, false, not, ◌&&◌}
use mathlib.Core.List.{List, [], ◌∷◌, ◌++◌}
use lib.Dec.{leb}
use lib.ListN.{length, take}
use borrow.Author.Tests.{leb-true, not-false}
use Rattle.state.specs.Layout.{end_of}
use Rattle.state.specs.Short.{short_end}
use Rattle.state.specs.Unpack.{unpacked, setup_in}
use Rattle.state.specs.Well.{all, exchanges_nothing, range_tests, chain_tests, lengths_tests}
use Rattle.state.proofs.Choice.{and_left, and_right}
use Rattle.state.proofs.ShortLengths.{short_lengths_are, short_inputs_are, short_room, long_room}
use Rattle.state.proofs.Tests.{all_fails, Passed, others_decide, test_first}
use Rattle.state.proofs.memory.has_room.Goals as goal

-- the tests: outputs or inputs, the lengths by themselves, and the room
abbrev tests : List ℕ → List Bool
tests m = not (exchanges_nothing (setup_in m 0)) ∷ all (chain_tests m ++ range_tests (setup_in m 0)) ∷ leb (end_of (unpacked m).setup) (length m) ∷ []

-- the first two are the test of lengths
lengths_are : (m : List ℕ) → (not (exchanges_nothing (setup_in m 0)) && all (chain_tests m ++ range_tests (setup_in m 0))) ≡ all (lengths_tests m)
lengths_are m = test_first (not (exchanges_nothing (setup_in m 0))) (chain_tests m) (range_tests (setup_in m 0))

tests_are : (m : List ℕ) → all (tests m) ≡ (all (lengths_tests m) && leb (end_of (unpacked m).setup) (length m))
tests_are m = ap (λ (t : Bool). t && leb (end_of (unpacked m).setup) (length m)) (lengths_are m)

-- where these pass the lengths do
lengths_pass : (m : List ℕ) → Passed (take 2 (tests m)) → all (lengths_tests m) ≡ true
lengths_pass m p =
    let some = not-false (not (exchanges_nothing (setup_in m 0))) p.0 in
    let ranged = not-false (all (chain_tests m ++ range_tests (setup_in m 0))) p.1.0 in
    sym (lengths_are m) ∙ (λ i. some i && ranged i)

-- the first two passed
passed : (m : List ℕ) (nothing well : Bool) → nothing ≡ exchanges_nothing (setup_in m 0) → well ≡ all (chain_tests m ++ range_tests (setup_in m 0)) → nothing ≡ false → not well ≡ false
    → Passed (take 2 (tests m))
passed m nothing well e f n w = (ap (λ (t : Bool). not (not t)) (sym e ∙ n), (ap not (sym f) ∙ w, tt))

pub returns-then-short_lengths-image : goal.returns-then-short_lengths-image
returns-then-short_lengths-image c =
    let m = c.args.image.octets.now in
    let short = c.short_lengths in
    let fits = leb short_end (length m) in
    short_room m
    (short_lengths_are m (sym short.ensures ∙ and_left short.result fits c.if-short_lengths-image.true))
    (leb-true short_end (length m) (and_right short.result fits c.if-short_lengths-image.true))

pub returns-then-short_inputs-image : goal.returns-then-short_inputs-image
returns-then-short_inputs-image c =
    let m = c.args.image.octets.now in
    let short = c.short_inputs in
    let fits = leb short_end (length m) in
    short_room m
    (short_inputs_are m (sym short.ensures ∙ and_left short.result fits c.if-short_inputs-image.true))
    (leb-true short_end (length m) (and_right short.result fits c.if-short_inputs-image.true))

pub returns-then-exchanges_nothing : goal.returns-then-exchanges_nothing
returns-then-exchanges_nothing c =
    let m = c.args.image.octets.now in
    all_fails (tests m) 0 (ap not (sym c.exchanges_nothing.ensures ∙ c.if-exchanges_nothing.true)) ∙ tests_are m

pub returns-then-not-well_lengths : goal.returns-then-not-well_lengths
returns-then-not-well_lengths c =
    let m = c.args.image.octets.now in
    all_fails (tests m) 1 (sym c.well_lengths.ensures ∙ c.if-not-well_lengths.true) ∙ tests_are m

pub returns-then-image-ge-LONG_END : goal.returns-then-image-ge-LONG_END
returns-then-image-ge-LONG_END c =
    let m = c.args.image.octets.now in
    let p = passed m _ _ c.exchanges_nothing.ensures c.well_lengths.ensures c.if-exchanges_nothing.false (ap not c.if-not-well_lengths.false) in
    long_room m (lengths_pass m p) c.if-image-ge-LONG_END.true

pub returns : goal.returns
returns c =
    let m = c.args.image.octets.now in
    let p = passed m _ _ c.exchanges_nothing.ensures c.well_lengths.ensures c.if-exchanges_nothing.false (ap not c.if-not-well_lengths.false) in
    ap (λ (n : ℕ). leb n (length m)) (c.end_of.ensures.0 ∙ ap end_of c.setup.ensures)
    ∙ others_decide 2 (tests m) p ∙ tests_are m
