-- `channels::deeds::channel_in` meets its contract.
use mathlib.Core.Path.{◌∙◌}
use borrow.Author.Tests.{lt-ltb, le-ltb}
use Rattle.channels.specs.Deeds.{channel_in}
use Rattle.channels.proofs.deeds.channel_in.Goals as goal

pub returns-then-n-lt16 : goal.returns-then-n-lt16
unfolding channel_in
returns-then-n-lt16 c = simp (lt-ltb _ _ c.if-n-lt16.true, c.load.ensures)

pub returns-else-n-lt16 : goal.returns-else-n-lt16
unfolding channel_in
returns-else-n-lt16 c =
    let (a, (b, (d, e))) = c.default.ensures in
    (λ i. record { indication_len = a i; response_len = b i; indication_count = d i; response_count = e i })
    ∙ simp (le-ltb c.args.n 16 c.if-n-lt16.false)
