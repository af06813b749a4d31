-- `station::start::start` meets its contract.
use Rattle.std.proofs.Common.{Err, length, sym, refl, ap, ◌∙◌}
use Rattle.std.proofs.lemmas.Result.{err_from_is_err_and}
use Rattle.channels.proofs.Exact.{lengths_say}
use Rattle.state.specs.declared.setup.Setup.{Setup}
use Rattle.state.specs.Start.{given_by}
use Rattle.state.proofs.Asking.{accepts}
use Rattle.steps.proofs.Guarded.{started_short, started_declined, started_accepted}
use Rattle.station.proofs.start.start.Goals as goal

pub returns-then-not-length_ok : goal.returns-then-not-length_ok
returns-then-not-length_ok c =
    let a = c.args in
    let setup = given_by a.given (length a.get_cfg.now) in
    rw (started_short a.mem.now setup a.get_cfg.now a.channels.now (sym c.length_ok.ensures ∙ c.if-not-length_ok.true))
    (record { answers = refl; leaves = refl })

pub start_in-requires : goal.start_in-requires
start_in-requires c =
    let a = accepts _ _ _ (sym c.setup_of.ensures ∙ c.in_ok-setup.was) in
    (ap (λ (s : Setup). s.get_cfg_len) a.same, (lengths_say _ a.channels).0)

pub returns-in_err-setup : goal.returns-in_err-setup
returns-in_err-setup c =
    let a = c.args in
    let setup = given_by a.given (length a.get_cfg.now) in
    let found = sym c.setup_of.ensures ∙ c.in_err-setup.was in
    let p = err_from_is_err_and c.from_residual.result c.from_residual.ensures.1 in
    rw (started_declined a.mem.now setup a.get_cfg.now a.channels.now _ (sym c.length_ok.ensures ∙ c.if-not-length_ok.false) found)
    (record { answers = p.1 ∙ ap Err p.2; leaves = refl })

pub returns : goal.returns
returns c =
    let a = c.args in
    let setup = given_by a.given (length a.get_cfg.now) in
    let found = sym c.setup_of.ensures ∙ c.in_ok-setup.was in
    rw (started_accepted a.mem.now setup a.get_cfg.now a.channels.now _ (sym c.length_ok.ensures ∙ c.if-not-length_ok.false) found)
    c.start_in.ensures
