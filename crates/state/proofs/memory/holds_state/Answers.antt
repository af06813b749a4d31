-- `state::memory::holds_state` meets its contract.
use Prim.Native.Nat.{ℕ, ◌+◌}
use native.Mathlib.Omega.{arith}
use mathlib.Core.Path.{◌≡◌, refl, sym, ap, ◌∙◌}
use mathlib.Core.Bool.{Bool, true, false, not, ◌&&◌}
use mathlib.Core.List.{List, [], ◌∷◌, ◌++◌}
use lib.Dec.{leb}
use lib.ListN.{length, get_or}
use Rattle.channels.specs.Rules.{well_channels}
use Rattle.channels.specs.Places.{lengths_in, room_of}
use Rattle.channels.proofs.Found.{rows_nothing}
use Rattle.state.specs.Layout.{end_of, last_end}
use Rattle.state.specs.Memory.{holds_state}
use Rattle.state.specs.Unpack.{unpacked}
use Rattle.state.specs.Well.{all, lengths_tests, image_tests, well_image}
use Rattle.state.proofs.Damage.{short_fails}
use Rattle.state.proofs.Tests.{all_fails, others_decide}
use Rattle.state.proofs.memory.holds_state.Goals as goal

-- the tests of the image, and that the buffers end in the memory
abbrev tests : List ℕ → List Bool
tests m = image_tests m ++ leb (last_end (lengths_in m) (unpacked m).setup) (length m) ∷ []

-- where the second of two tests fails both do
second_fails : (a b : Bool) → false ≡ b → false ≡ (a && b)
second_fails true b e = e
second_fails false b e = refl

-- one of the tests fails
fails : (m : List ℕ) (k : ℕ) → get_or (tests m) k true ≡ false → false ≡ holds_state m
unfolding holds_state well_image
fails m k e = second_fails (well_channels m) _ (all_fails (tests m) k e)

-- of three tests the second may come first
second_first : (a b c : Bool) → (a && (b && c)) ≡ (b && (a && c))
second_first true b c = refl
second_first false true c = refl
second_first false false c = refl

pub returns-then-mem-lt-STATE_LENGTH : goal.returns-then-mem-lt-STATE_LENGTH
returns-then-mem-lt-STATE_LENGTH c = short_fails _ c.if-mem-lt-STATE_LENGTH.true

pub returns-then-not-well_counts : goal.returns-then-not-well_counts
returns-then-not-well_counts c = fails _ 0 (sym c.well_counts.ensures ∙ c.if-not-well_counts.true)

pub returns-then-not-well_line : goal.returns-then-not-well_line
returns-then-not-well_line c = fails _ 1 (sym c.well_line.ensures ∙ c.if-not-well_line.true)

pub returns-then-not-well_codes : goal.returns-then-not-well_codes
returns-then-not-well_codes c = fails _ 2 (sym c.well_codes.ensures ∙ c.if-not-well_codes.true)

pub returns-then-nothing_in : goal.returns-then-nothing_in
unfolding holds_state well_image well_channels last_end
returns-then-nothing_in c =
    let m = c.args.mem.now in
    let counts = ap not (sym c.well_counts.ensures ∙ c.if-not-well_counts.false) in
    let line = ap not (sym c.well_line.ensures ∙ c.if-not-well_line.false) in
    let codes = ap not (sym c.well_codes.ensures ∙ c.if-not-well_codes.false) in
    let found = rows_nothing m (sym c.nothing_in.ensures ∙ c.if-nothing_in.true) in
    let room = found.1 in
    let end : end_of (unpacked m).setup ≡ end_of (unpacked m).setup + room_of (lengths_in m) = omega arith in
    c.has_room.ensures
    ∙ (λ i. all (lengths_tests m) && leb (end i) (length m))
    ∙ others_decide 3 (tests m) (counts, (line, (codes, tt)))
    ∙ (λ i. sym found.0 i && all (tests m))

pub returns : goal.returns
unfolding holds_state well_image
returns c =
    let m = c.args.mem.now in
    let counts = ap not (sym c.well_counts.ensures ∙ c.if-not-well_counts.false) in
    let line = ap not (sym c.well_line.ensures ∙ c.if-not-well_line.false) in
    let codes = ap not (sym c.well_codes.ensures ∙ c.if-not-well_codes.false) in
    c.has_room_for_channels.ensures
    ∙ second_first (all (lengths_tests m)) (well_channels m) _
    ∙ (λ i. well_channels m && others_decide 3 (tests m) (counts, (line, (codes, tt))) i)
