-- `channels::survey::all_broken` meets its contract.
use Rattle.channels.specs.Rules.{well_at}
use Rattle.channels.proofs.Fours.{groups_keep}
use Rattle.channels.proofs.survey.all_broken.Goals as goal

pub returns : goal.returns
returns c =
    let x = c.broken_at in
    let x2 = c.broken_at-2 in
    let x3 = c.broken_at-3 in
    let x4 = c.broken_at-4 in
    groups_keep (well_at c.args.rows.octets.now) x.result x2.result x3.result x4.result x.ensures x2.ensures x3.ensures x4.ensures
