-- `channels::survey::survey_of` meets its contract.
use mathlib.Core.Path.{sym, ◌∙◌}
use Rattle.std.proofs.lemmas.Bool.{and_parts}
use Rattle.channels.proofs.Found.{columns_nothing}
use Rattle.channels.proofs.Fours.{first_found}
use Rattle.channels.proofs.survey.survey_of.Goals as goal

pub returns : goal.returns
returns c =
    let m = c.args.mem.now in
    let x = c.nothing_across in
    let y = c.nothing_across-2 in
    let z = c.nothing_across-3 in
    let (q, r) = and_parts y.result z.result (c.if-not-nothing_across-2.false) in
    c.first_four.ensures
    ∙ first_found m
    (columns_nothing m 4 (sym x.ensures ∙ c.if-not-nothing_across.false))
    (columns_nothing m 8 (sym y.ensures ∙ q))
    (columns_nothing m 12 (sym z.ensures ∙ r))
