-- An octet heard over the memory that holds the state: the step changes no more than the code writes.
use Rattle.std.proofs.Common.{◌≡◌, ℕ, ◌+◌, ◌<◌, ◌≤◌, Bool, true, false, cond, not, ◌&&◌, eqb, ltb, List, take, set, sym, refl, ap, ◌∙◌, arith, Option, Some}
use lib.Seq.{take-set-le}
use borrow.Author.Tests.{not-true}
use Rattle.buffers.specs.Roles.{fill_of}
use Rattle.buffers.specs.Roles as role
use Rattle.octets.specs.Part.{stored_in}
use Rattle.telegram.specs.declared.reader.Reader.{Reader}
use Rattle.telegram.specs.declared.reader.Status.{Status}
use Rattle.telegram.specs.declared.reader.Status.TheVariants.{Fresh, Inside, Complete, Broken}
use Rattle.telegram.specs.Reading.{reader_step, reader_after, status, takes_data, datum_of}
use Rattle.telegram.proofs.Run.{no_true}
use Rattle.telegram.proofs.Above.{datum_number, datum_nothing, data_inside, data_goes_on, data_changes}
use Rattle.state.specs.declared.state.Incoming.{Incoming}
use Rattle.state.specs.declared.state.State.{State}
use Rattle.state.specs.Layout.{image_length, row_count, start_of, output_row, parameter_row, configuration_row, outputs_at, parameters_at, configuration_at}
use Rattle.state.specs.Memory.{kept, Holds, Changes}
use Rattle.state.specs.With.{with_incoming, with_read, with_kept}
use Rattle.state.proofs.Choice.{and_left, and_right}
use Rattle.state.proofs.Damage.{fronted, fronted_same}
use Rattle.state.proofs.Places.{inside}
use Rattle.state.proofs.Written.{then}
use Rattle.steps.specs.Stepped.{unchanged, packed_after}
use Rattle.steps.specs.Line.{is_inside}
use Rattle.steps.specs.Outcome.{settle}
use Rattle.steps.specs.Reading.{stored_data, kept_octets, stored_as, read_on, read_by, beginning, heard_as, is_ignored, heard}
use Rattle.steps.proofs.Holding.{holds_safe}
use Rattle.station.specs.Hearing.{is_plain}

is_inside_lem : (x : Status) → is_inside x ≡ true → x ≡ Inside
is_inside_lem Fresh e = no_true e
is_inside_lem Inside e = refl
is_inside_lem Complete e = no_true e
is_inside_lem Broken e = no_true e

-- ---- what an octet does, by the reader before it and after it

module _ (s : State) (m : List ℕ) (b : ℕ) where
  abbrev old : Reader
  old = s.incoming.reader

  -- inside a telegram it is stored if it is data
  heard_inner : (bad : Bool) → status old ≡ Inside → status (reader_after old b bad) ≡ Inside
      → heard s m b bad ≡ stored_as (datum_of old) s m (reader_after old b bad) b
  unfolding heard
  heard_inner bad e f =
      let next = reader_after old b bad in
      (λ i. cond (is_ignored (e i)) (unchanged s m) (heard_as (f i) s m next b))
      ∙ (λ i. cond (is_inside (e i)) (stored_as (datum_of old) s m next b) (settle (beginning s next) m))

  -- data
  pub heard_data : takes_data old ≡ true → heard s m b false ≡ stored_as (Some old.at) s m (reader_step old b) b
  heard_data e =
      heard_inner false (data_inside old e) (data_goes_on old b e)
      ∙ ap (λ (d : Option ℕ). stored_as d s m (reader_step old b) b) (datum_number old e)

  -- no data
  heard_plain : (bad : Bool) → is_plain old (reader_after old b bad) ≡ true
      → heard s m b bad ≡ record { state = read_by s (reader_after old b bad); memory = m }
  heard_plain bad e =
      let next = reader_after old b bad in
      let both = and_left (is_inside (status old) && is_inside (status next)) (not (takes_data old)) e in
      let none = not-true (takes_data old) (and_right (is_inside (status old) && is_inside (status next)) (not (takes_data old)) e) in
      heard_inner bad
      (is_inside_lem (status old) (and_left (is_inside (status old)) (is_inside (status next)) both))
      (is_inside_lem (status next) (and_right (is_inside (status old)) (is_inside (status next)) both))
      ∙ ap (λ (d : Option ℕ). stored_as d s m next b) (datum_nothing old none)

  -- the others
  heard_other : (bad : Bool) → is_ignored (status old) ≡ false
      → heard s m b bad ≡ heard_as (status (reader_after old b bad)) s m (reader_after old b bad) b
  unfolding heard
  heard_other bad e =
      ap (λ (t : Bool). cond t (unchanged s m) (heard_as (status (reader_after old b bad)) s m (reader_after old b bad) b)) e

  heard_ignored : (bad : Bool) → is_ignored (status old) ≡ true → heard s m b bad ≡ unchanged s m
  unfolding heard
  heard_ignored bad e =
      ap (λ (t : Bool). cond t (unchanged s m) (heard_as (status (reader_after old b bad)) s m (reader_after old b bad) b)) e

-- ---- a store leaves the state part

stored_behind : (m : List ℕ) (a n k b : ℕ) → image_length ≤ a → take image_length (stored_in m a n k b) ≡ take image_length m
unfolding stored_in
stored_behind m a n k b h = go (ltb k n)
  where
    go : (t : Bool) → take image_length (cond t (set m (a + k) b) m) ≡ take image_length m
    go true = take-set-le image_length m (a + k) b (omega arith)
    go false = refl

one_of : (t : Bool) (x y z : List ℕ) → take image_length x ≡ z → take image_length y ≡ z → take image_length (cond t x y) ≡ z
one_of true x y z e f = e
one_of false x y z e f = f

module _ (m : List ℕ) (s : State) (h : Holds m s) where
  behind : (row i : ℕ) → i < row_count row → image_length ≤ start_of s.setup row i
  behind row i lt = (inside s.setup row i 0 lt (omega arith)).0

  stored_front : (k b : ℕ) → take image_length (stored_data s m k b) ≡ take image_length m
  stored_front k b =
      let safe = holds_safe m s h in
      one_of (ltb s.incoming.reader.da 128) _ _ _
      (stored_behind m (outputs_at s.setup (fill_of s.outputs.set.place)) s.setup.output_len k b
      (behind output_row (fill_of s.outputs.set.place) (safe.outputs.within role.fill (omega arith))))
      (one_of (eqb s.incoming.reader.dsap 61) _ _ _
      (stored_behind m (parameters_at s.setup (fill_of s.parameters.set.place)) s.setup.parameter_len k b
      (behind parameter_row (fill_of s.parameters.set.place) (safe.parameters.within role.fill (omega arith))))
      (one_of (eqb s.incoming.reader.dsap 62) _ _ _
      (stored_behind m (configuration_at s.setup (fill_of s.configuration.set.place)) s.setup.configuration_len k b
      (behind configuration_row (fill_of s.configuration.set.place) (safe.configuration.within role.fill (omega arith))))
      refl))

  -- ---- what the code leaves

  -- of a data octet
  data_octet : (b : ℕ) (e : takes_data s.incoming.reader ≡ true)
      → let r = s.incoming.reader in
      kept (with_kept (with_read s (reader_step r b).at (reader_step r b).sum) r.at b) (stored_data s m r.at b)
      ≡ packed_after (heard s m b false)
  data_octet b e =
      let r = s.incoming.reader in
      (λ i. kept (with_incoming s (kept_octets s.incoming (data_changes r b e i) r.at b)) (stored_data s m r.at b))
      ∙ sym (ap packed_after (heard_data s m b e))

  -- of an inner one that is no data
  plain_octet : (b : ℕ) (bad : Bool) → is_plain s.incoming.reader (reader_after s.incoming.reader b bad) ≡ true
      → kept (read_by s (reader_after s.incoming.reader b bad)) m ≡ packed_after (heard s m b bad)
  plain_octet b bad e = sym (ap packed_after (heard_plain s m b bad e))

  -- of one that is ignored
  ignored_octet : (b : ℕ) (bad : Bool) → is_ignored (status s.incoming.reader) ≡ true → m ≡ packed_after (heard s m b bad)
  ignored_octet b bad e = fronted_same m s h ∙ sym (ap packed_after (heard_ignored s m b bad e))

  -- ---- the same of the values that the code has

  module _ (b : ℕ) (i : Incoming) (same : i ≡ s.incoming) where
    -- a data octet: n₀ after it was stored, n₁ after it was counted
    pub leaves_data : takes_data s.incoming.reader ≡ true → (n₀ n₁ : List ℕ) (x : Reader) (out : List ℕ)
        → n₀ ≡ stored_data s m i.reader.at b → x ≡ reader_step i.reader b
        → Changes n₀ n₁ (λ u. with_read u x.at x.sum) → Changes n₁ out (λ u. with_kept u i.reader.at b)
        → out ≡ packed_after (heard s m b false)
    leaves_data e n₀ n₁ x out en ex k₁ k₂ =
        let stored : n₀ ≡ stored_data s m s.incoming.reader.at b = en ∙ (λ t. stored_data s m (same t).reader.at b) in
        let read : x ≡ reader_step s.incoming.reader b = ex ∙ (λ t. reader_step (same t).reader b) in
        then n₀ n₁ out _ _ k₁ k₂ s (fronted m n₀ s h (ap (take image_length) stored ∙ stored_front s.incoming.reader.at b))
        ∙ (λ t. kept (with_kept (with_read s (read t).at (read t).sum) (same t).reader.at b) (stored t))
        ∙ data_octet b e

    module _ (bad : Bool) where
      -- one that is ignored
      pub leaves_ignored : (x : Status) (p : Bool) → x ≡ status i.reader → p ≡ is_ignored x → p ≡ true → m ≡ packed_after (heard s m b bad)
      leaves_ignored x p ex ep e =
          ignored_octet b bad (sym (ep ∙ ap is_ignored ex ∙ (λ t. is_ignored (status (same t).reader))) ∙ e)

      -- next is the reader after the octet
      module _ (next : Reader) (goes : next ≡ reader_after i.reader b bad) where
        after : next ≡ reader_after s.incoming.reader b bad
        after = goes ∙ (λ t. reader_after (same t).reader b bad)

        -- an inner one that is no data
        pub leaves_plain : (p : Bool) (j : Incoming) (out : List ℕ) → p ≡ is_plain i.reader next → p ≡ true → j ≡ read_on i next
            → Changes m out (λ u. with_incoming u j) → out ≡ packed_after (heard s m b bad)
        leaves_plain p j out ep e ej k =
            k s (fronted_same m s h)
            ∙ (λ t. kept (with_incoming s (ej t)) m)
            ∙ (λ t. kept (with_incoming s (read_on (same t) (after t))) m)
            ∙ plain_octet b bad (sym (ep ∙ (λ t. is_plain (same t).reader (after t))) ∙ e)

        -- the octet is not ignored; y: what the octets are with it
        module _ (x : Status) (p : Bool) (ex : x ≡ status i.reader) (ep : p ≡ is_ignored x) (e : p ≡ false) (y : Status) (ey : y ≡ status next) where
          -- that decides
          heard_so : heard_as y s m next b ≡ heard s m b bad
          heard_so =
              (λ r. heard_as ((ey ∙ ap status after) r) s m (after r) b)
              ∙ sym (heard_other s m b bad (sym (ep ∙ ap is_ignored ex ∙ (λ r. is_ignored (status (same r).reader))) ∙ e))

          -- what becomes of it
          pub leaves_turn : (out : List ℕ) → ((b : ℕ) → out ≡ packed_after (heard_as y s m next b)) → out ≡ packed_after (heard s m b bad)
          leaves_turn out k = k b ∙ ap packed_after heard_so
