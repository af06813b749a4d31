-- What a layer above may use of the reader besides Framing and Run: laws that ask about no phase.
use Rattle.std.proofs.Common.{◌≡◌, ℕ, ◌+◌, ◌%◌, Bool, true, false, ◌⊎◌, List, [], ◌∷◌, ◌++◌, length, sym, refl, ap, ◌∙◌, subst, inl, inr, append-nil, zero-add, arith, Option, Some, None}
use Rattle.telegram.specs.declared.reader.Reader.{Reader}
use Rattle.telegram.specs.declared.reader.Status.TheVariants.{Inside, Complete, Broken}
use Rattle.telegram.specs.Telegram.{Telegram, sd1, sd2, sd3, sd4, octets_of}
use Rattle.telegram.specs.Reading.{start, moved, read_to, reader_step, run, status, status_at, takes_data, datum_of, gathered}
use Rattle.telegram.proofs.Run.{inside_broken}
use Rattle.telegram.proofs.Steps.{data_body, data_step}
use Rattle.telegram.proofs.Counts.{start_counts}
use Rattle.telegram.proofs.Framing.{framing}
use Rattle.telegram.specs.Counts.{before_data}
use Rattle.telegram.proofs.Onward.{step_onward, none_from}
use Rattle.telegram.proofs.Gather.{gather_append, counts_from}

-- ---- the first octet

longer : (t : Telegram) (b : ℕ) → octets_of t ≡ b ∷ [] → ⊥
longer (sd1 da sa fc) b e = let l = ap length e in omega arith
longer (sd2 da sa fc ds) b e = let l = ap length e in omega arith
longer (sd3 da sa fc ds) b e = let l = ap length e in omega arith
longer (sd4 da sa) b e = let l = ap length e in omega arith

-- a first octet never completes: no telegram has one octet
pub first_never : (b : ℕ) → status (reader_step start b) ≡ Complete → ⊥
first_never b e = let w = (framing (b ∷ [])).whole.0 e in longer w.0 b w.2

-- nor is it data
pub first_plain : (b : ℕ) → gathered start (b ∷ []) ≡ []
unfolding takes_data
first_plain b = refl

-- ---- which data octet the next octet is

module _ (r : Reader) where
  -- number r .at if it is one
  pub datum_number : takes_data r ≡ true → datum_of r ≡ Some r.at
  unfolding datum_of
  datum_number e = rw e

  -- none if not
  pub datum_nothing : takes_data r ≡ false → datum_of r ≡ None
  unfolding datum_of
  datum_nothing e = rw e

  -- both cases
  pub datum_case : (P : Option ℕ → Type 0) → (takes_data r ≡ true → P (Some r.at)) → (takes_data r ≡ false → P None) → P (datum_of r)
  datum_case P f g = go (takes_data r) refl
    where
      go : (c : Bool) → takes_data r ≡ c → P (datum_of r)
      go true e = subst P (sym (datum_number e)) (f e)
      go false e = subst P (sym (datum_nothing e)) (g e)

-- ---- what an octet leaves of the reader

-- from r on to q DA and DSAP stay
pub record Onward (r q : Reader) : Type 0 where
  pub da : q.da ≡ r.da
  pub dsap : q.dsap ≡ r.dsap

-- data comes inside a telegram
pub data_inside : (r : Reader) → takes_data r ≡ true → status r ≡ Inside
unfolding status
data_inside r e = ap status_at (data_body r e)

module _ (r : Reader) (b : ℕ) (e : takes_data r ≡ true) where
  -- a data octet leaves it inside
  pub data_goes_on : status (reader_step r b) ≡ Inside
  unfolding status
  data_goes_on = ap status (sym (data_step r e b))

  -- it changes how many were read and the checksum, and nothing else
  pub data_changes : read_to r (reader_step r b).at (reader_step r b).sum ≡ reader_step r b
  data_changes =
      let s = data_step r e b in
      (λ i. read_to r (sym s i).at (sym s i).sum) ∙ ap (moved (read_to r (r.at + 1) ((r.sum + b) % 256))) (data_body r e) ∙ s

  -- so DA and DSAP stay
  pub data_onward : Onward r (reader_step r b)
  data_onward =
      record { da = sym (ap (λ (x : Reader). x.da) data_changes); dsap = sym (ap (λ (x : Reader). x.dsap) data_changes) }

-- an octet that does not break off: nothing was gathered so far, or DA and DSAP stay
pub empty_or_onward : (xs : List ℕ) (b : ℕ) → ¬ (status (reader_step (run xs) b) ≡ Broken)
    → (gathered start xs ≡ []) ⊎ Onward (run xs) (reader_step (run xs) b)
empty_or_onward xs b n = go (before_data (run xs).phase) refl
  where
    go : (c : Bool) → before_data (run xs).phase ≡ c → (gathered start xs ≡ []) ⊎ Onward (run xs) (reader_step (run xs) b)
    go true h = inl (none_from start xs h)
    go false h = let o = step_onward (run xs) b h n in inr (record { da = o.0; dsap = o.1 })

-- ---- what is gathered

module _ (xs : List ℕ) (b : ℕ) where
  -- a data octet comes behind those gathered
  pub gather_data : takes_data (run xs) ≡ true → gathered start (xs ++ b ∷ []) ≡ gathered start xs ++ b ∷ []
  gather_data e = gather_append start xs (b ∷ []) ∙ rw e

  -- any other adds nothing
  pub gather_plain : takes_data (run xs) ≡ false → gathered start (xs ++ b ∷ []) ≡ gathered start xs
  gather_plain e = gather_append start xs (b ∷ []) ∙ rw e (append-nil (gathered start xs))

-- the number of a data octet is how many came before it
pub counts : (xs : List ℕ) → takes_data (run xs) ≡ true → (run xs).at ≡ length (gathered start xs)
counts xs e =
    counts_from start xs start_counts (λ n. inside_broken (sym (data_inside (run xs) e) ∙ n)) ∙ zero-add (length (gathered start xs))
