-- Phase by phase: before its data a reader has gathered nothing, and behind its header the header stays.
use Rattle.std.proofs.Common.{◌≡◌, ℕ, Bool, true, false, List, [], ◌∷◌, sym, refl, ◌∙◌, arith}
use Rattle.telegram.specs.declared.reader.Reader.{Reader}
use Rattle.telegram.specs.declared.reader.Status.TheVariants.{Broken}
use Rattle.telegram.specs.Reading.{reader_step, step_at, run_from, status, takes_data, gathered}
use Rattle.telegram.specs.Counts.{before_data}
use Rattle.telegram.proofs.Run.{no_true}

module _ (r : Reader) (b : ℕ) (h : before_data r.phase ≡ false) where
  -- a step from behind the header leaves DA and DSAP, unless it breaks off
  pub step_onward : ¬ (status (reader_step r b) ≡ Broken) → ((reader_step r b).da ≡ r.da) × ((reader_step r b).dsap ≡ r.dsap)
  unfolding reader_step step_at status
  step_onward n = (grind (arith, h, n), grind (arith, h, n))

  -- and never leads back
  never_back : before_data (reader_step r b).phase ≡ false
  unfolding reader_step step_at
  never_back = grind (arith, h)

stays_behind : (r : Reader) (xs : List ℕ) → before_data r.phase ≡ false → before_data (run_from r xs).phase ≡ false
stays_behind r [] h = h
stays_behind r (x ∷ xs) h = stays_behind (reader_step r x) xs (never_back r x h)

-- in the header no data comes
head_takes : (r : Reader) → before_data r.phase ≡ true → takes_data r ≡ false
unfolding takes_data
head_takes r h = grind (arith, h)

-- and nothing was gathered
pub none_from : (r : Reader) (xs : List ℕ) → before_data (run_from r xs).phase ≡ true → gathered r xs ≡ []
none_from r [] h = refl
none_from r (x ∷ xs) h = go (before_data r.phase) refl (none_from (reader_step r x) xs h)
  where
    go : (c : Bool) → before_data r.phase ≡ c → gathered (reader_step r x) xs ≡ [] → gathered r (x ∷ xs) ≡ []
    go true e ih = rw (head_takes r e) ih
    go false e ih = no_true (sym (stays_behind (reader_step r x) xs (never_back r x e)) ∙ h)
