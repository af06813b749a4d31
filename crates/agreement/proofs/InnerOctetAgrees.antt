-- An inner octet only lengthens the telegram, on both sides.
use Rattle.std.proofs.Common.{Option}
use Prim.Native.Nat.{ℕ}
use mathlib.Core.Path.{◌≡◌, refl, sym, ap, ◌∙◌, subst}
use mathlib.Core.Bool.{true, false}
use mathlib.Core.List.{List, [], ◌∷◌, ◌++◌}
use lib.ListN.{length}
use Rattle.telegram.specs.declared.reader.Reader.{Reader}
use Rattle.telegram.specs.declared.reader.Status.TheVariants.{Inside}
use Rattle.telegram.specs.Reading.{start, reader_step, run, status, takes_data, datum_of, gathered}
use Rattle.telegram.proofs.Run.{no_true, inside_broken, run_snoc}
use Rattle.telegram.proofs.Above.{datum_case, data_onward, gather_data, counts}
use Rattle.state.specs.declared.state.Incoming.{Incoming}
use Rattle.state.specs.declared.state.State.{State}
use Rattle.ledger.specs.Ledger.{Ledger, with_line, begun}
use Rattle.ledger.specs.Bus.{lengthened}
use Rattle.state.specs.With.{with_incoming}
use Rattle.steps.specs.Reading.{is_ignored, stored_data, kept_octets, read_by, stored_as}
use Rattle.agreement.proofs.Relation.{Gathered, Agrees, After}
use Rattle.agreement.proofs.Steady.{Steady}
use Rattle.agreement.proofs.LineStays.{reply_stays, reply_line_lem}
use Rattle.agreement.proofs.ReadingChanges.{Beside, nowhere, data_beside, reread}
use Rattle.agreement.proofs.SameLine.{nothing_left}
use Rattle.agreement.proofs.DataStands.{gathered_more, gathered_on}

module _ (s : State) (m : List ℕ) (l : Ledger) (b : ℕ) (d : Steady l) (a : Agrees s m l)
    (ignoring : l.line.ignored ≡ false) (coming : begun l ≡ true) (inside : status (reader_step s.incoming.reader b) ≡ Inside) where
  abbrev xs : List ℕ
  xs = l.line.telegram

  abbrev r : Reader
  r = s.incoming.reader

  read : r ≡ run xs
  read = a.reading.reading ignoring

  -- the reader went on, and the data is as the relation wants it
  longer : (i : Incoming) (m' : List ℕ) → i.reader ≡ reader_step r b → Beside s m m' → Gathered (with_incoming s i) m' (gathered start (xs ++ b ∷ []))
      → Agrees (with_incoming s i) m' (with_line l (lengthened l.line b))
  longer i m' e u g =
      reread i (lengthened l.line b) d u a
      (record {
        ignoring = ap (λ (x : Reader). is_ignored (status x)) e ∙ ap is_ignored inside;
        empty = λ z. no_true z;
        reading = λ _. e ∙ ap (λ (x : Reader). reader_step x b) read ∙ sym (run_snoc xs b);
        stored = λ _. g;
      })
      (reply_stays s (with_incoming s i) m m' refl (lengthened l.line b) (λ h. no_true (sym (nothing_left a.reply (d.quiet coming)) ∙ h))
      (reply_line_lem a.reply (lengthened l.line b) refl refl))

  -- it is no data octet
  inner_plain : takes_data r ≡ false → Agrees (read_by s (reader_step r b)) m (with_line l (lengthened l.line b))
  inner_plain t =
      longer (record { reader = reader_step r b; first = s.incoming.first; second = s.incoming.second }) m refl (nowhere s m)
      (rw read (gathered_on s m xs b read (rw read at t) (λ z. inside_broken (sym (rw read at inside) ∙ z)) (a.reading.stored ignoring)))

  -- it is data octet number r .at
  inner_data : takes_data r ≡ true → Agrees (with_incoming s (kept_octets s.incoming (reader_step r b) r.at b)) (stored_data s m r.at b) (with_line l (lengthened l.line b))
  inner_data t =
      let t' : takes_data (run xs) ≡ true = rw read at t in
      let count : r.at ≡ length (gathered start xs) = ap (λ (x : Reader). x.at) read ∙ counts xs t' in
      longer (kept_octets s.incoming (reader_step r b) r.at b) (stored_data s m r.at b) refl (data_beside s m r.at b a.safe)
      (subst (λ (k : ℕ). Gathered (with_incoming s (kept_octets s.incoming (reader_step r b) k b)) (stored_data s m k b) (gathered start (xs ++ b ∷ []))) (sym count)
      (rw (gather_data xs b t')
      (gathered_more s m (reader_step r b) (gathered start xs) b a.safe (data_onward r b t) (a.reading.stored ignoring))))

  pub inner_octet : After (stored_as (datum_of r) s m (reader_step r b) b) (with_line l (lengthened l.line b))
  inner_octet =
      datum_case r (λ (d : Option ℕ). After (stored_as d s m (reader_step r b) b) (with_line l (lengthened l.line b))) inner_data inner_plain
