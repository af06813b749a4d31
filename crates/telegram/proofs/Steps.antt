-- What a step leads to: at a data octet, and at an octet that may come.
use Rattle.std.proofs.Common.{◌≡◌, ℕ, ◌+◌, ◌%◌, ◌<◌, Bool, true, false, cond, List, sym, refl, ◌∙◌, lt-ltb, arith}
use Rattle.telegram.specs.declared.reader.Phase.TheVariants.{Body}
use Rattle.telegram.specs.declared.reader.Reader.{Reader}
use Rattle.telegram.specs.declared.reader.Status.TheVariants.{Complete}
use Rattle.telegram.specs.Reading.{rd, off, ok_at, next_at, step_at, reader_step, run_from, status, takes_data}
use Rattle.telegram.proofs.Run.{broken_complete, stays_broken}

module _ (r : Reader) (e : takes_data r ≡ true) where
  pub data_body : r.phase ≡ Body
  unfolding takes_data
  data_body = grind (arith, e)

  pub data_room : r.at < r.count
  unfolding takes_data
  data_room = grind (arith, e)

  pub data_step : (b : ℕ) → rd Body r.kind r.count (r.at + 1) r.da r.sa r.fc r.dsap r.ssap ((r.sum + b) % 256) ≡ reader_step r b
  unfolding reader_step step_at
  data_step b = rw (data_body, lt-ltb r.at r.count data_room)

-- the octet may come: the step leads on
pub goes : (r : Reader) (b : ℕ) → ok_at r.phase r b ≡ true → reader_step r b ≡ next_at r.phase r b
unfolding reader_step
goes r b h = rw h

-- after an octet a reader completes only if the octet may come, from where the octet leads
pub passed : (r : Reader) (b : ℕ) (ys : List ℕ) → status (run_from (reader_step r b) ys) ≡ Complete
    → (ok_at r.phase r b ≡ true) × (status (run_from (next_at r.phase r b) ys) ≡ Complete)
unfolding reader_step
passed r b ys = go (ok_at r.phase r b)
  where
    go : (t : Bool) → status (run_from (cond t (next_at r.phase r b) off) ys) ≡ Complete
        → (t ≡ true) × (status (run_from (next_at r.phase r b) ys) ≡ Complete)
    go true h = (refl, h)
    go false h = absurd (broken_complete (sym (stays_broken ys) ∙ h))
