use Rattle.steps.proofs.KeepsSafe.{safe_after_reply}
use Rattle.outcomes.proofs.carry.settle_waiting.Goals as goal

pub carry_out-requires : goal.carry_out-requires
carry_out-requires c = rw c.after_reply-t.ensures
    (safe_after_reply _ _ c.requires)
