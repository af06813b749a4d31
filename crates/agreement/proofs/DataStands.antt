-- The data octets that came stand where the header says, octet by octet.
use Prim.Native.Nat.{ℕ, ◌+◌, ◌≤◌, ◌<◌}
use native.Mathlib.Omega.{arith}
use mathlib.Core.Path.{◌≡◌, sym, subst}
use mathlib.Core.Bool.{false}
use mathlib.Core.List.{List, [], ◌∷◌, ◌++◌}
use mathlib.Core.Logic.{◌⊎◌, inl, inr}
use lib.ListN.{length}
use lib.Seq.{take-nil}
use borrow.Author.Tests.{lt-ltb, le-ltb, eq-eqb}
use Rattle.buffers.specs.Roles.{fill_of}
use Rattle.buffers.specs.Roles as role
use Rattle.telegram.specs.declared.reader.Reader.{Reader}
use Rattle.telegram.specs.declared.reader.Status.TheVariants.{Broken}
use Rattle.telegram.specs.Reading.{start, reader_step, run, status, takes_data, gathered}
use Rattle.telegram.proofs.Above.{Onward, empty_or_onward, gather_plain}
use Rattle.state.specs.declared.state.State.{State}
use Rattle.state.specs.Layout.{output_row, parameter_row, configuration_row, row_count, row_length, start_of}
use Rattle.state.proofs.Places.{inside}
use Rattle.steps.specs.Safe.{Safe}
use Rattle.state.specs.With.{with_incoming}
use Rattle.steps.specs.Reading.{stored_data, kept_octets, read_by}
use Rattle.agreement.proofs.Relation.{Gathered}
use Rattle.agreement.proofs.DataOctetStored.{begins_more, kept_octet}

-- none came
pub gathered_none : (s : State) (m : List ℕ) → Gathered s m []
gathered_none s m = record {
  outputs = λ _. rw (take-nil {A = ℕ} s.setup.output_len);
  parameters = λ _ _. rw (take-nil {A = ℕ} s.setup.parameter_len);
  configuration = λ _ _. rw (take-nil {A = ℕ} s.setup.configuration_len);
  first = λ h. absurd (omega arith);
  second = λ h. absurd (omega arith);
}

-- the reader went on
pub gathered_onward : (s : State) (m : List ℕ) (q : Reader) (ds : List ℕ) → Onward s.incoming.reader q → Gathered s m ds → Gathered (read_by s q) m ds
gathered_onward s m q ds o g =
    let da = o.da in
    let dsap = o.dsap in
    record {
      outputs = λ h. g.outputs (omega arith);
      parameters = λ h e. g.parameters (omega arith) (omega arith);
      configuration = λ h e. g.configuration (omega arith) (omega arith);
      first = g.first;
      second = g.second;
    }

-- a data octet came
pub gathered_more : (s : State) (m : List ℕ) (q : Reader) (ds : List ℕ) (b : ℕ) → Safe s m → Onward s.incoming.reader q → Gathered s m ds
    → Gathered (with_incoming s (kept_octets s.incoming q (length ds) b)) (stored_data s m (length ds) b) (ds ++ b ∷ [])
gathered_more s m q ds b f o g =
    let da = o.da in
    let dsap = o.dsap in
    record {
      outputs = λ h.
          let plain : r.da < 128 = omega arith in
          rw (lt-ltb r.da 128 plain) (begins_more m _ _ ds b (fits output_row (fill_of s.outputs.set.place) (f.outputs.within role.fill (omega arith))) (g.outputs plain));
      parameters = λ h e.
          let marked : 128 ≤ r.da = omega arith in
          let point : r.dsap ≡ 61 = omega arith in
          rw (le-ltb r.da 128 marked, eq-eqb r.dsap 61 point)
          (begins_more m _ _ ds b (fits parameter_row (fill_of s.parameters.set.place) (f.parameters.within role.fill (omega arith))) (g.parameters marked point));
      configuration = λ h e.
          let marked : 128 ≤ r.da = omega arith in
          let point : r.dsap ≡ 62 = omega arith in
          rw (le-ltb r.da 128 marked, point)
          (begins_more m _ _ ds b (fits configuration_row (fill_of s.configuration.set.place) (f.configuration.within role.fill (omega arith))) (g.configuration marked point));
      first = kept_octet ds b 0 s.incoming.first g.first;
      second = kept_octet ds b 1 s.incoming.second g.second;
    }
  where
    r : Reader
    r = s.incoming.reader

    fits : (a i : ℕ) → i < row_count a → start_of s.setup a i + row_length s.setup a ≤ length m
    fits a i h = let u = inside s.setup a i (row_length s.setup a) h (omega arith) in let v = f.room in omega arith

-- an octet that is no data came, and did not break off
pub gathered_on : (s : State) (m : List ℕ) (xs : List ℕ) (b : ℕ) → s.incoming.reader ≡ run xs → takes_data (run xs) ≡ false
    → ¬ (status (reader_step (run xs) b) ≡ Broken) → Gathered s m (gathered start xs)
    → Gathered (read_by s (reader_step (run xs) b)) m (gathered start (xs ++ b ∷ []))
gathered_on s m xs b e t n g =
    let q = reader_step (run xs) b in
    subst (λ (ds : List ℕ). Gathered (read_by s q) m ds) (sym (gather_plain xs b t)) (go (empty_or_onward xs b n))
  where
    go : (gathered start xs ≡ []) ⊎ Onward (run xs) (reader_step (run xs) b) → Gathered (read_by s (reader_step (run xs) b)) m (gathered start xs)
    go (inl none) = rw none (gathered_none (read_by s (reader_step (run xs) b)) m)
    go (inr o) = gathered_onward s m (reader_step (run xs) b) (gathered start xs) (rw e o) g
