-- The operations of a set of three leave a permutation.
use native.Mathlib.Omega.{arith}
use mathlib.Core.Path.{refl}
use Rattle.buffers.specs.declared.triple.Triple.{Triple}
use Rattle.buffers.specs.Roles.{fill, next, held, Permutation}
use Rattle.buffers.specs.Triple.{initial, published, taken, handed_over, brought, shown}
use Rattle.buffers.proofs.Roles.{exchanged_permutes, tested}

pub initial_permutation : Permutation 3 initial.place
initial_permutation = tested 3 initial.place refl refl

pub published_permutes : (t : Triple) → Permutation 3 t.place → Permutation 3 (published t).place
published_permutes t p = exchanged_permutes 3 fill next t.place (omega arith) (omega arith) p

pub taken_permutes : (t : Triple) → Permutation 3 t.place → Permutation 3 (taken t).place
taken_permutes t p = exchanged_permutes 3 next held t.place (omega arith) (omega arith) p

pub handed_over_permutes : (t : Triple) → Permutation 3 t.place → Permutation 3 (handed_over t).place
handed_over_permutes t p = exchanged_permutes 3 next held t.place (omega arith) (omega arith) p

pub brought_permutes : (t : Triple) → Permutation 3 t.place → Permutation 3 (brought t).place
brought_permutes t p = exchanged_permutes 3 fill next t.place (omega arith) (omega arith) p

pub shown_permutes : (t : Triple) → Permutation 3 t.place → Permutation 3 (shown t).place
shown_permutes t p = exchanged_permutes 3 fill held t.place (omega arith) (omega arith) p
