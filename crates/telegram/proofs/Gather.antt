-- What is gathered over a list and over its parts, and how a reader counts it, phase by phase.
use Rattle.std.proofs.Common.{◌≡◌, ℕ, ◌+◌, Bool, true, false, cond, ◌&&◌, ltb, List, [], ◌∷◌, ◌++◌, length, sym, refl, add-zero, arith}
use Rattle.telegram.specs.declared.reader.Phase.{Phase}
use Rattle.telegram.specs.declared.reader.Reader.{Reader}
use Rattle.telegram.specs.declared.reader.Status.TheVariants.{Broken}
use Rattle.telegram.specs.Reading.{off, ok_at, next_at, reader_step, run_from, status, in_body, takes_data, gathered}
use Rattle.telegram.proofs.Run.{stays_broken}
use Rattle.telegram.specs.Counts.{before_data, ReadCounts}
use Rattle.telegram.proofs.Counts.{step_counts}

-- over two lists, the second from where the first led
pub gather_append : (r : Reader) (xs ys : List ℕ) → gathered r (xs ++ ys) ≡ gathered r xs ++ gathered (run_from r xs) ys
gather_append r [] ys = refl
gather_append r (x ∷ xs) ys = let e = gather_append (reader_step r x) xs ys in grind (arith, e)

abbrev one : Bool → ℕ
one true = 1
one false = 0

-- a step counts its octet if that is data
next_at_lem : (p : Phase) (r : Reader) (b : ℕ) → (before_data p ≡ true → r.at ≡ 0) → ok_at p r b ≡ true
    → (next_at p r b).at ≡ r.at + one (in_body p && ltb r.at r.count)
next_at_lem p r b f e = grind (arith, f, e)

length_cond : (c : Bool) (x : ℕ) (l : List ℕ) → length (cond c (x ∷ l) l) ≡ one c + length l
length_cond c x l = grind arith

-- as many data octets are gathered as the reader has counted
pub counts_from : (r : Reader) (xs : List ℕ) → ReadCounts r → ¬ (status (run_from r xs) ≡ Broken)
    → (run_from r xs).at ≡ r.at + length (gathered r xs)
unfolding reader_step takes_data
counts_from r [] f n = sym (add-zero r.at)
counts_from r (x ∷ xs) f n = go (ok_at r.phase r x) refl n (counts_from (reader_step r x) xs (step_counts r x f))
  where
    go : (c : Bool) → ok_at r.phase r x ≡ c
        → ¬ (status (run_from (cond c (next_at r.phase r x) off) xs) ≡ Broken)
        → (¬ (status (run_from (cond c (next_at r.phase r x) off) xs) ≡ Broken)
        → (run_from (cond c (next_at r.phase r x) off) xs).at
        ≡ (cond c (next_at r.phase r x) off).at + length (gathered (cond c (next_at r.phase r x) off) xs))
        → (run_from (cond c (next_at r.phase r x) off) xs).at
        ≡ r.at + length (cond (takes_data r) (x ∷ gathered (cond c (next_at r.phase r x) off) xs) (gathered (cond c (next_at r.phase r x) off) xs))
    go true e m ih =
        let a = ih m in
        let s = next_at_lem r.phase r x f.none_yet e in
        let l = length_cond (takes_data r) x (gathered (next_at r.phase r x) xs) in
        omega arith
    go false e m ih = absurd (m (stays_broken xs))
