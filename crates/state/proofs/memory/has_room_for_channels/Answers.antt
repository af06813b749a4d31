-- `state::memory::has_room_for_channels` meets its contract.
use Prim.Native.Nat.{ℕ}
use native.Mathlib.Omega.{arith}
use mathlib.Core.Path.{◌≡◌, sym, ◌∙◌}
use mathlib.Core.Bool.{Bool, true, false, not, ◌&&◌}
use mathlib.Core.List.{List, ◌++◌}
use lib.Dec.{leb}
use lib.ListN.{length}
use Rattle.channels.specs.Rules.{well_channels}
use Rattle.channels.specs.Places.{lengths_in}
use Rattle.state.specs.Layout.{last_end}
use Rattle.state.specs.Unpack.{unpacked, setup_in}
use Rattle.state.specs.Well.{all, exchanges_nothing, range_tests, chain_tests, lengths_tests}
use Rattle.state.proofs.ShortLengths.{short_lengths_are, long_end_lem}
use Rattle.state.proofs.Tests.{test_first}
use Rattle.state.proofs.memory.has_room_for_channels.Goals as goal

-- the channels, and that the last buffer ends in the memory
abbrev rest : List ℕ → Bool
rest m = well_channels m && leb (last_end (lengths_in m) (unpacked m).setup) (length m)

-- the test of lengths is that of outputs or inputs and of each by itself
lengths_by : (m : List ℕ) (nothing well : Bool) → nothing ≡ exchanges_nothing (setup_in m 0) → well ≡ all (chain_tests m ++ range_tests (setup_in m 0))
    → (not nothing && well) ≡ all (lengths_tests m)
lengths_by m nothing well e f = (λ i. not (e i) && f i) ∙ test_first (not (exchanges_nothing (setup_in m 0))) (chain_tests m) (range_tests (setup_in m 0))

-- the lengths passed
pass : (m : List ℕ) (nothing well : Bool) → nothing ≡ exchanges_nothing (setup_in m 0) → well ≡ all (chain_tests m ++ range_tests (setup_in m 0)) → nothing ≡ false → well ≡ true
    → all (lengths_tests m) ≡ true
pass m nothing well e f some good = sym (lengths_by m nothing well e f) ∙ (λ i. not (some i) && good i)

pub channels_fit-requires : goal.channels_fit-requires
channels_fit-requires c =
    let m = c.args.mem.now in
    (c.requires, (short_lengths_are m (sym c.short_lengths.ensures ∙ c.if-short_lengths.true)).ends, omega arith)

pub returns-then-short_lengths : goal.returns-then-short_lengths
returns-then-short_lengths c =
    let m = c.args.mem.now in
    let pass = (short_lengths_are m (sym c.short_lengths.ensures ∙ c.if-short_lengths.true)).pass in
    c.channels_fit.ensures ∙ (λ i. sym pass i && rest m)

pub returns-then-exchanges_nothing : goal.returns-then-exchanges_nothing
returns-then-exchanges_nothing c =
    let m = c.args.mem.now in
    let fails = sym (λ i. not ((sym c.exchanges_nothing.ensures ∙ c.if-exchanges_nothing.true) i) && all (chain_tests m ++ range_tests (setup_in m 0))) ∙ test_first (not (exchanges_nothing (setup_in m 0))) (chain_tests m) (range_tests (setup_in m 0)) in
    λ i. fails i && rest m

pub returns-then-not-well_lengths : goal.returns-then-not-well_lengths
returns-then-not-well_lengths c =
    let m = c.args.mem.now in
    let some = c.if-exchanges_nothing.false in
    let bad = c.if-not-well_lengths.true in
    let fails = sym (λ i. not (some i) && bad i) ∙ lengths_by m _ _ c.exchanges_nothing.ensures c.well_lengths.ensures in
    λ i. fails i && rest m

pub channels_fit-requires-2 : goal.channels_fit-requires-2
channels_fit-requires-2 c = (c.requires, long_end_lem c.args.mem.now (pass c.args.mem.now _ _ c.exchanges_nothing.ensures c.well_lengths.ensures c.if-exchanges_nothing.false c.if-not-well_lengths.false), omega arith)

pub returns : goal.returns
returns c =
    let m = c.args.mem.now in
    c.channels_fit-2.ensures ∙ (λ i. sym (pass c.args.mem.now _ _ c.exchanges_nothing.ensures c.well_lengths.ensures c.if-exchanges_nothing.false c.if-not-well_lengths.false) i && rest m)
