-- `channels::survey::all_eighths` meets its contract.
use native.Mathlib.Omega.{arith}
use Rattle.channels.specs.Rules.{well_at}
use Rattle.channels.specs.Places.{lengths_in}
use Rattle.channels.proofs.Fours.{group_keeps, groups_room}
use Rattle.channels.proofs.survey.all_eighths.Goals as goal

pub eighths_at-requires : goal.eighths_at-requires
eighths_at-requires c = (omega arith, (group_keeps (well_at c.args.rows.octets.now) c.requires).0)

pub eighths_at-requires-2 : goal.eighths_at-requires-2
eighths_at-requires-2 c = (omega arith, (group_keeps (well_at c.args.rows.octets.now) c.requires).1)

pub eighths_at-requires-3 : goal.eighths_at-requires-3
eighths_at-requires-3 c = (omega arith, (group_keeps (well_at c.args.rows.octets.now) c.requires).2)

pub eighths_at-requires-4 : goal.eighths_at-requires-4
eighths_at-requires-4 c = (omega arith, (group_keeps (well_at c.args.rows.octets.now) c.requires).3)

pub returns : goal.returns
returns c =
    let e = c.eighths_at.ensures in
    let f = c.eighths_at-2.ensures in
    let g = c.eighths_at-3.ensures in
    let h = c.eighths_at-4.ensures in
    (groups_room (lengths_in c.args.rows.octets.now) _ _ _ _ e.0 f.0 g.0 h.0, omega arith)
