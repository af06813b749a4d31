-- The operations of a set of four leave a permutation.
use native.Mathlib.Omega.{arith}
use mathlib.Core.Path.{refl}
use Rattle.buffers.specs.declared.quad.Quad.{Quad}
use Rattle.buffers.specs.Roles.{fill, next, held, back, Permutation}
use Rattle.buffers.specs.Quad.{initial, published, taken, held_back, released}
use Rattle.buffers.proofs.Roles.{exchanged_permutes, tested}

pub initial_permutation : Permutation 4 initial.place
initial_permutation = tested 4 initial.place refl refl

pub published_permutes : (q : Quad) → Permutation 4 q.place → Permutation 4 (published q).place
published_permutes q p = exchanged_permutes 4 fill next q.place (omega arith) (omega arith) p

pub taken_permutes : (q : Quad) → Permutation 4 q.place → Permutation 4 (taken q).place
taken_permutes q p = exchanged_permutes 4 next held q.place (omega arith) (omega arith) p

pub held_back_permutes : (q : Quad) → Permutation 4 q.place → Permutation 4 (held_back q).place
held_back_permutes q p = exchanged_permutes 4 fill back q.place (omega arith) (omega arith) p

pub released_permutes : (q : Quad) → Permutation 4 q.place → Permutation 4 (released q).place
released_permutes q p = exchanged_permutes 4 next back q.place (omega arith) (omega arith) p
