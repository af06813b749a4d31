-- `state::saving::keep_octet` meets its contract.
use Rattle.state.proofs.Written.{octet_kept, octet_past}
use Rattle.state.proofs.saving.keep_octet.Goals as goal

pub returns-then-k-lt2 : goal.returns-then-k-lt2
returns-then-k-lt2 c = λ s e. octet_kept _ s e _ _ c.if-k-lt2.true

pub returns-else-k-lt2 : goal.returns-else-k-lt2
returns-else-k-lt2 c = λ s e. octet_past _ s e _ _ c.if-k-lt2.false
