use Rattle.steps.proofs.KeepsSafe.{safe_steps, safe_paused}
use Rattle.lent.specs.Run.{well_received}
use Rattle.lent.proofs.Turns.{safe_after}
use Rattle.lent.proofs.bench.take_turn.Goals as goal

pub wait-requires : goal.wait-requires
wait-requires c =
    safe_after _ _ (well_received c.args.telegram.now) _ _ (safe_steps _ _ _ c.pause-paused.ensures (safe_paused _ _ c.requires)) c.listen-listened.ensures
