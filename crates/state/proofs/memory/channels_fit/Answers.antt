-- `state::memory::channels_fit` meets its contract.
use Prim.Native.Nat.{◌+◌}
use native.Mathlib.Omega.{arith}
use mathlib.Core.Path.{sym, ap, ◌∙◌}
use mathlib.Core.Bool.{◌&&◌}
use lib.Dec.{leb}
use lib.ListN.{length}
use borrow.Author.Tests.{le-leb}
use Rattle.channels.specs.Places.{lengths_in, room_of}
use Rattle.channels.proofs.Found.{survey_well, survey_small, survey_broken}
use Rattle.state.specs.Layout.{end_of, last_end}
use Rattle.state.specs.Unpack.{unpacked}
use Rattle.state.proofs.memory.channels_fit.Goals as goal

pub overflow_add-bound : goal.overflow_add-bound
overflow_add-bound c =
    let room = survey_small c.args.mem.now _ (λ i. (c.type_inv.mem i).fits) (sym c.survey_of.ensures ∙ c.in-Some.is) in
    omega arith

pub returns-then-bound-room : goal.returns-then-bound-room
unfolding last_end
returns-then-bound-room c =
    let m = c.args.mem.now in
    let found = survey_well m _ (sym c.survey_of.ensures ∙ c.in-Some.is) in
    let room = found.1 in
    let ends = c.requires.1 in
    let fits = le-leb (end_of (unpacked m).setup + room_of (lengths_in m)) (length m) (omega arith) in
    sym (λ i. found.0 i && fits i)

pub overflow_add-result : goal.overflow_add-result
overflow_add-result c =
    let room = survey_small c.args.mem.now _ (λ i. (c.type_inv.mem i).fits) (sym c.survey_of.ensures ∙ c.in-Some.is) in
    let e = c.end_of.ensures.1 in
    omega arith

pub returns : goal.returns
unfolding last_end
returns c =
    let m = c.args.mem.now in
    let found = survey_well m _ (sym c.survey_of.ensures ∙ c.in-Some.is) in
    let end = c.end_of.ensures.0 ∙ ap end_of c.setup.ensures in
    λ i. sym found.0 i && leb (end i + found.1 i) (length m)

pub returns-in_default : goal.returns-in_default
returns-in_default c =
    let m = c.args.mem.now in
    let e = survey_broken m (sym c.survey_of.ensures ∙ c.in_default.is) in
    λ i. sym e i && leb (last_end (lengths_in m) (unpacked m).setup) (length m)
