-- What a deed leaves of a memory.
use Prim.Native.Nat.{ℕ, ◌<◌}
use mathlib.Core.Path.{◌≡◌, ◌∙◌}
use mathlib.Core.Bool.{cond}
use mathlib.Core.List.{List}
use lib.Dec.{ltb}
use borrow.Author.Tests.{lt-ltb}
use Rattle.channels.specs.declared.channel.Channel.{Channel}
use Rattle.channels.specs.Image.{channels, loaded, saved}

-- channel n loaded, changed by f, and saved
pub saved_by : (f : Channel → Channel) (m m' : List ℕ) (n : ℕ) (c d : Channel) → n < channels → c ≡ loaded m n → d ≡ f c → m' ≡ saved m n d
    → m' ≡ cond (ltb n channels) (saved m n (f (loaded m n))) m
saved_by f m m' n c d h e g s = s ∙ (λ i. saved m n (g i)) ∙ (λ i. saved m n (f (e i))) ∙ simp (lt-ltb n channels h)
