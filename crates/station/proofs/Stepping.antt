-- A call's step as the code makes it: one that only answers, and one that writes an octet.
use Rattle.std.specs.Prelude.{Ok, Err}
use Rattle.std.proofs.Common.{◌≡◌, ℕ, List, take, refl, ap, ◌∙◌, subst}
use Rattle.state.specs.Answer.{Answer, Meets}
use Rattle.state.specs.Layout.{image_length}
use Rattle.state.specs.Memory.{kept, Holds}
use Rattle.state.specs.Unpack.{unpacked}
use Rattle.rules.specs.Call as calls
use Rattle.steps.specs.Stepped.{Told, Tells}
use Rattle.steps.specs.User.{write_octet}
use Rattle.steps.specs.Step.{step_over, packed, packed_as}
use Rattle.steps.proofs.Holding.{holds_safe, step_whole}
use Rattle.state.proofs.Damage.{fronted, fronted_same}
use Rattle.station.proofs.KindsInMemory.{written_front}

-- the state stands in front of the memory as it is
pub still : {m : List ℕ} → Holds m (unpacked m) → m ≡ kept (unpacked m) m
still {m} h = fronted_same m (unpacked m) h

-- a call that only answers
pub answered : {m : List ℕ} {t : Told} {a : Answer} → Holds m (unpacked m) → Tells t a (unpacked m) m → Meets (packed m t) a m
answered {m} {t} {a} h r = subst (λ (x : Answer). Meets (packed_as x m t) a m) r.answers (go a)
  where
    go : (x : Answer) → Meets (packed_as x m t) x m
    go (Ok n) = record { answers = refl; leaves = still h ∙ (λ i. kept (r.states i) (r.leaves i)) }
    go (Err why) = record { answers = refl; leaves = refl }

-- a write leaves the state in front
pub wrote : (m n : List ℕ) (kind index x : ℕ) (a : Answer) → Holds m (unpacked m) → Tells (write_octet (unpacked m) m kind index x) a (unpacked m) n
    → Meets (packed m (write_octet (unpacked m) m kind index x)) a n
unfolding step_over
wrote m n kind index x a h r =
    let s = unpacked m in
    let front = ap (take image_length) r.leaves ∙ written_front s m kind index (holds_safe m s h) x in
    rw (step_whole m s (calls.write kind index x) h)
    (record { answers = r.answers; leaves = fronted m n s h front ∙ (λ i. kept (r.states i) (r.leaves i)) })
