-- Octets of a memory that are tested by words.
use Prim.Native.Nat.{ℕ, suc, ◌+◌, ◌*◌, ◌≤◌, ◌<◌}
use native.Mathlib.Omega.{arith}
use mathlib.Core.Path.{◌≡◌, refl, sym, ap, ◌∙◌}
use mathlib.Core.Bool.{Bool, true, false, ◌&&◌}
use mathlib.Core.List.{List, [], ◌∷◌}
use lib.Dec.{leb, eqb}
use lib.ListN.{length, get_or, take, replicate}
use lib.Seq.{drop-cons}
use borrow.Author.Tests.{leb-true}
use Rattle.octets.specs.Part.{part}
use Rattle.ranges.specs.Octets.{number, at_most}
use Rattle.ranges.proofs.Words.{quarter}
use Rattle.state.specs.Short.{between_tests}
use Rattle.state.specs.Unpack.{double_at}
use Rattle.state.specs.Well.{all, within, none_or, set_counts, limit_tests, set_tests}
use Rattle.state.proofs.Tests.{from_and, all_at}

-- ---- octets held to limits

-- the first octet of a part and the rest
part_first : (m : List ℕ) (i n : ℕ) → i < length m → part m i (suc n) ≡ get_or m i 0 ∷ part m (suc i) n
part_first m i n h = ap (take (suc n)) (drop-cons m i 0 h)

-- octets tested together are tested one by one
pub limits_all : (m : List ℕ) (i : ℕ) (limits : List ℕ) → i + length limits ≤ length m
    → at_most (part m i (length limits)) limits ≡ all (limit_tests m i limits)
unfolding at_most
limits_all m i [] h = refl
limits_all m i (limit ∷ limits) h =
    ap (λ (l : List ℕ). at_most l (limit ∷ limits)) (part_first m i (length limits) (omega arith))
    ∙ ap (λ (t : Bool). leb (get_or m i 0) limit && t) (limits_all m (suc i) limits (omega arith))
    ∙ sym (from_and (leb (get_or m i 0) limit) (limit_tests m (suc i) limits))

-- one octet's two limits and the others'
beside : (a b c d : Bool) → ((a && b) && (c && d)) ≡ ((c && a) && (b && d))
beside true b true d = refl
beside true true false d = refl
beside true false false d = refl
beside false b true d = refl
beside false b false d = refl

-- the same with least octets too
pub ranges_all : (m : List ℕ) (i : ℕ) (leasts mosts : List ℕ) → length leasts ≡ length mosts → i + length leasts ≤ length m
    → (at_most (part m i (length leasts)) mosts && at_most leasts (part m i (length leasts))) ≡ all (between_tests m i leasts mosts)
unfolding at_most
ranges_all m i [] mosts e h = refl
ranges_all m i (least ∷ leasts) [] e h = absurd (let z : suc (length leasts) ≡ 0 = e in omega arith)
ranges_all m i (least ∷ leasts) (most ∷ mosts) e h =
    let x = get_or m i 0 in
    let rest = part m (suc i) (length leasts) in
    let z : suc (length leasts) ≡ suc (length mosts) = e in
    ap (λ (l : List ℕ). at_most l (most ∷ mosts) && at_most (least ∷ leasts) l) (part_first m i (length leasts) (omega arith))
    ∙ beside (leb x most) (at_most rest mosts) (leb least x) (at_most leasts rest)
    ∙ ap (λ (t : Bool). within least x most && t) (ranges_all m (suc i) leasts mosts (omega arith) (omega arith))
    ∙ sym (from_and (within least x most) (between_tests m (suc i) leasts mosts))

-- ---- a double word

-- four octets read at once are the double word that they hold
pub double_read : (m : List ℕ) (i : ℕ) → i + 4 ≤ length m → number (part m i 4) ≡ double_at m i
unfolding number
double_read m i h =
    let last : i + 3 ≡ i + 2 + 1 = omega arith in
    let parts : number (part m i 4) ≡ get_or m i 0 + 256 * get_or m (i + 1) 0 + 65536 * (get_or m (i + 2) 0 + 256 * get_or m (i + 3) 0) =
    sym (quarter m i _ h refl) ∙ omega arith in
    parts ∙ ap (λ (k : ℕ). get_or m i 0 + 256 * get_or m (i + 1) 0 + 65536 * (get_or m (i + 2) 0 + 256 * get_or m k 0)) last

-- ---- no set open and no diagnosis delayed

-- an octet that is at most 0
none : (x : ℕ) → leb x 0 ≡ true → x ≡ 0
none x e = let h = leb-true x 0 e in omega arith

-- octets 57 to 63 that are 0 pass the tests of the sets
pub nothing_open : (m : List ℕ) → all (limit_tests m 57 (replicate 7 0)) ≡ true → all (set_tests m) ≡ true
nothing_open m h =
    let tests = limit_tests m 57 (replicate 7 0) in
    λ i.
    all
    (none_or 6 (none (get_or m 57 0) (all_at tests 0 h) i) (get_or m 52 0)
    ∷ set_counts 7 (none (get_or m 58 0) (all_at tests 1 h) i) (none (get_or m 59 0) (all_at tests 2 h) i) (get_or m 50 0)
    ∷ set_counts 1 (none (get_or m 60 0) (all_at tests 3 h) i) (none (get_or m 61 0) (all_at tests 4 h) i) (get_or m 51 0)
    ∷ eqb (none (get_or m 62 0) (all_at tests 5 h) i) 0
    ∷ eqb (none (get_or m 63 0) (all_at tests 6 h) i) 0
    ∷ [])
