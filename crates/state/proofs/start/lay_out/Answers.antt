-- `state::start::lay_out` meets its contract.
use Prim.Native.Nat.{ℕ}
use native.Mathlib.Omega.{arith}
use mathlib.Core.Path.{ap, ◌∙◌}
use Rattle.channels.specs.Image.{channels}
use Rattle.channels.specs.Setting.{lengths_given, set_up}
use Rattle.state.specs.Memory.{kept}
use Rattle.state.specs.Start.{initial_state, wiped, laid_out}
use Rattle.state.proofs.Places.{end_behind, last_behind}
use Rattle.state.proofs.start.lay_out.Goals as goal

pub wipe-requires : goal.wipe-requires
wipe-requires c =
    let u = last_behind (lengths_given c.args.channels.now) c.args.setup in
    let e = c.requires.0 in
    (omega arith, c.requires.1, c.requires.3)

pub set_up-requires : goal.set_up-requires
set_up-requires c =
    let u = last_behind (lengths_given c.args.channels.now) c.args.setup in
    let v = end_behind c.args.setup in
    let e = c.requires.0 in
    let h = c.requires.1 in
    let k = c.wipe.auto.mem in
    (c.requires.2, omega arith)

pub save-requires : goal.save-requires
save-requires c =
    let u = last_behind (lengths_given c.args.channels.now) c.args.setup in
    let v = end_behind c.args.setup in
    let e = c.requires.0 in
    let h = c.requires.1 in
    let k = c.wipe.auto.mem in
    let l = c.set_up.auto.mem in
    omega arith

pub returns : goal.returns
unfolding laid_out
returns c =
    let m = c.args.mem.now in
    let slice = c.args.get_cfg.now in
    let lengths = c.args.channels.now in
    let w = c.wipe.ensures in
    c.save.ensures
    ∙ simp (c.initial.ensures, c.set_up.ensures, w)
    (ap (λ (end : ℕ). kept (initial_state c.args.setup) (set_up (wiped m c.args.setup slice end) lengths channels)) c.requires.0)
