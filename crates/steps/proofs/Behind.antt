-- A step reads and writes only behind the image of the state: what it makes of two memories that agree there agrees.
use Rattle.std.proofs.Common.{Option, Some, None}
use Prim.Native.Nat.{ℕ, ◌+◌, ◌-◌, ◌≤◌, ◌<◌}
use native.Mathlib.Omega.{arith}
use mathlib.Core.Path.{◌≡◌, refl, sym, ap, subst, ◌∙◌}
use mathlib.Core.Bool.{Bool, true, false, cond}
use mathlib.Core.List.{List, ◌++◌}
use lib.Dec.{eqb, ltb}
use lib.ListN.{length, get_or, take, drop, replicate, take-append-drop}
use lib.Seq.{length-take-le, drop_at, get_or-drop}
use Rattle.buffers.specs.Roles.{fill_of, next_of}
use Rattle.buffers.specs.Roles as role
use Rattle.octets.specs.Part.{pasted, stored_in}
use Rattle.octets.proofs.Parts.{stored_append, pasted_append}
use Rattle.telegram.specs.declared.reader.Reader.{Reader}
use Rattle.telegram.specs.declared.reader.Status.{Status}
use Rattle.telegram.specs.declared.reader.Status.TheVariants.{Fresh, Inside, Complete, Broken}
use Rattle.telegram.specs.Reading.{start, off, reader_after, status, datum_of}
use Rattle.state.specs.declared.state.State.{State}
use Rattle.state.specs.Image.{image}
use Rattle.state.specs.Layout.{image_length, output_row, parameter_row, configuration_row, row_count, start_of, outputs_at, parameters_at}
use Rattle.state.proofs.Places.{inside}
use Rattle.rules.specs.declared.outcome.OutputsDeed.{OutputsDeed}
use Rattle.rules.specs.declared.outcome.OutputsDeed.TheVariants as outputs-deed
use Rattle.rules.specs.declared.outcome.Outcome.{Outcome}
use Rattle.rules.specs.declared.request.Request.{Request}
use Rattle.rules.specs.declared.request.Prm.{Prm}
use Rattle.rules.specs.Services.{outcome_by}
use Rattle.rules.specs.Line.{clear_noted, ticked}
use Rattle.steps.specs.Safe.{Safe}
use Rattle.steps.specs.Stepped.{Stepped, packed_after}
use Rattle.steps.specs.Line.{begun, busy}
use Rattle.steps.specs.Outcome.{occupied, on_memory, carried, after_reply, settle}
use Rattle.steps.specs.Reading.{stored_data, stored_as, read_by, request_by, prm_at, prm_in, outcome_of, answered, completed, beginning, is_ignored, heard_as, heard}
use Rattle.steps.specs.Bus.{paused, silenced_reader, elapsed}
use Rattle.steps.proofs.KeepsSafe.{safe_after_reply, safe_read_by, safe_beginning, safe_completed}

-- what lies behind the image
abbrev pub behind : List ℕ → List ℕ
behind m = drop image_length m

-- two outcomes of a step agree but for what stands in front
pub record Alike (r q : Stepped) : Type 0 where
  pub states : r.state ≡ q.state
  pub bodies : behind r.memory ≡ behind q.memory

-- so they are packed alike
pub alike_packs : {r q : Stepped} → Alike r q → packed_after r ≡ packed_after q
alike_packs a = λ i. image (a.states i) ++ a.bodies i

-- ---- stores and reads behind the image

-- a memory that has room for the buffers has room for the state
pub safe_long : (s : State) (m : List ℕ) → Safe s m → image_length ≤ length m
safe_long s m h =
    let u = inside s.setup output_row 0 0 (omega arith) (omega arith) in
    let r = h.room in
    omega arith

-- a buffer begins behind it
starts : (s : State) (row k : ℕ) → k < row_count row → image_length ≤ start_of s.setup row k
starts s row k h = (inside s.setup row k 0 h (omega arith)).0

module _ (m : List ℕ) (long : image_length ≤ length m) (a : ℕ) (far : image_length ≤ a) where
  place : a ≡ image_length + (a - image_length)
  place = omega arith

  parts : m ≡ take image_length m ++ behind m
  parts = sym (take-append-drop image_length m)

  front : length (take image_length m) ≡ image_length
  front = length-take-le image_length m long

  behind_stored : (n i x : ℕ) → behind (stored_in m a n i x) ≡ stored_in (behind m) (a - image_length) n i x
  behind_stored n i x =
      (λ j. behind (stored_in (parts j) (place j) n i x))
      ∙ ap behind (stored_append (take image_length m) (behind m) image_length (a - image_length) n i x front)
      ∙ drop_at (take image_length m) (stored_in (behind m) (a - image_length) n i x) image_length front

  behind_pasted : (xs : List ℕ) → behind (pasted m a xs) ≡ pasted (behind m) (a - image_length) xs
  behind_pasted xs =
      (λ j. behind (pasted (parts j) (place j) xs))
      ∙ ap behind (pasted_append (take image_length m) (behind m) image_length (a - image_length) xs front)
      ∙ drop_at (take image_length m) (pasted (behind m) (a - image_length) xs) image_length front

behind_at : (m : List ℕ) (a : ℕ) → image_length ≤ a → get_or m a 0 ≡ get_or (behind m) (a - image_length) 0
behind_at m a far =
    let e : image_length + (a - image_length) ≡ a = omega arith in
    ap (λ (k : ℕ). get_or m k 0) (sym e) ∙ sym (get_or-drop image_length m (a - image_length) 0)

-- ---- the steps, on one state and two memories that agree behind it

module _ (s : State) (m n : List ℕ) (h : Safe s m) (g : Safe s n) (e : behind m ≡ behind n) where
  same_stored : (a : ℕ) → image_length ≤ a → (k i x : ℕ) → behind (stored_in m a k i x) ≡ behind (stored_in n a k i x)
  same_stored a far k i x =
      behind_stored m (safe_long s m h) a far k i x
      ∙ ap (λ (l : List ℕ). stored_in l (a - image_length) k i x) e
      ∙ sym (behind_stored n (safe_long s n g) a far k i x)

  same_at : (a : ℕ) → image_length ≤ a → get_or m a 0 ≡ get_or n a 0
  same_at a far = behind_at m a far ∙ ap (λ (l : List ℕ). get_or l (a - image_length) 0) e ∙ sym (behind_at n a far)

  on_memory_lem : (d : OutputsDeed) → behind (on_memory d s m) ≡ behind (on_memory d s n)
  on_memory_lem outputs-deed.Keep = e
  on_memory_lem outputs-deed.Publish = e
  on_memory_lem outputs-deed.HoldBack = e
  on_memory_lem outputs-deed.Release = e
  on_memory_lem outputs-deed.Zeros =
      let a = outputs_at s.setup (next_of s.outputs.set.place) in
      let far = starts s output_row (next_of s.outputs.set.place) (h.outputs.within role.next (omega arith)) in
      let xs = replicate {A = ℕ} s.setup.output_len 0 in
      behind_pasted m (safe_long s m h) a far xs
      ∙ ap (λ (l : List ℕ). pasted l (a - image_length) xs) e
      ∙ sym (behind_pasted n (safe_long s n g) a far xs)

  pub alike_carried : (o : Outcome) (count : ℕ) → Alike (carried s m o count) (carried s n o count)
  unfolding carried
  alike_carried o count = record { states = refl; bodies = on_memory_lem o.outputs }

  same_data : (k b : ℕ) → behind (stored_data s m k b) ≡ behind (stored_data s n k b)
  same_data k b = go (ltb s.incoming.reader.da 128) (eqb s.incoming.reader.dsap 61) (eqb s.incoming.reader.dsap 62)
    where
      into : (row p size : ℕ) → p < row_count row
          → behind (stored_in m (start_of s.setup row p) size k b) ≡ behind (stored_in n (start_of s.setup row p) size k b)
      into row p size z = same_stored (start_of s.setup row p) (starts s row p z) size k b

      go : (x y z : Bool)
          → behind
          (cond x (stored_in m (start_of s.setup output_row (fill_of s.outputs.set.place)) s.setup.output_len k b)
          (cond y (stored_in m (start_of s.setup parameter_row (fill_of s.parameters.set.place)) s.setup.parameter_len k b)
          (cond z (stored_in m (start_of s.setup configuration_row (fill_of s.configuration.set.place)) s.setup.configuration_len k b) m)))
          ≡ behind
          (cond x (stored_in n (start_of s.setup output_row (fill_of s.outputs.set.place)) s.setup.output_len k b)
          (cond y (stored_in n (start_of s.setup parameter_row (fill_of s.parameters.set.place)) s.setup.parameter_len k b)
          (cond z (stored_in n (start_of s.setup configuration_row (fill_of s.configuration.set.place)) s.setup.configuration_len k b) n)))
      go true y z = into output_row (fill_of s.outputs.set.place) s.setup.output_len (h.outputs.within role.fill (omega arith))
      go false true z = into parameter_row (fill_of s.parameters.set.place) s.setup.parameter_len (h.parameters.within role.fill (omega arith))
      go false false true = into configuration_row (fill_of s.configuration.set.place) s.setup.configuration_len (h.configuration.within role.fill (omega arith))
      go false false false = e

  alike_stored : (d : Option ℕ) (r : Reader) (b : ℕ) → Alike (stored_as d s m r b) (stored_as d s n r b)
  alike_stored None r b = record { states = refl; bodies = e }
  alike_stored (Some k) r b = record { states = refl; bodies = same_data k b }

  same_prm_at : (a : ℕ) → image_length ≤ a → prm_at m a ≡ prm_at n a
  same_prm_at a far = λ j. record {
    status = same_at a far j;
    factor1 = same_at (a + 1) (omega arith) j;
    factor2 = same_at (a + 2) (omega arith) j;
    ident_high = same_at (a + 4) (omega arith) j;
    ident_low = same_at (a + 5) (omega arith) j;
    group = same_at (a + 6) (omega arith) j;
    base = same_at (a + 7) (omega arith) j;
  }

  same_prm : prm_in s m ≡ prm_in s n
  same_prm =
      same_prm_at (parameters_at s.setup (fill_of s.parameters.set.place))
      (starts s parameter_row (fill_of s.parameters.set.place) (h.parameters.within role.fill (omega arith)))

  same_outcome : (r : Request) → outcome_of s m r ≡ outcome_of s n r
  unfolding outcome_of
  same_outcome r =
      ap (λ (p : Prm). outcome_by s.setup s.control (occupied s) r (record { prm = p; first = s.incoming.first; second = s.incoming.second })) same_prm

  alike_answered : (o : Outcome) (r : Request) → Alike (answered s m o r) (answered s n o r)
  unfolding answered carried
  alike_answered o r = record { states = refl; bodies = on_memory_lem o.outputs }

pub alike_settle : (s : State) (m n : List ℕ) → Safe s m → Safe s n → behind m ≡ behind n → Alike (settle s m) (settle s n)
unfolding settle
alike_settle s m n h g e =
    alike_carried (after_reply s) m n (safe_after_reply s m h) (safe_after_reply s n g) e (clear_noted (busy s) (after_reply s).control) 0

-- the line is settled after two steps that agree
alike_settled : (r q : Stepped) → Safe r.state r.memory → Safe q.state q.memory → Alike r q
    → Alike (settle r.state r.memory) (settle q.state q.memory)
alike_settled r q h g a =
    subst (λ (x : State). Alike (settle r.state r.memory) (settle x q.memory)) a.states
    (alike_settle r.state r.memory q.memory h (subst (λ (x : State). Safe x q.memory) (sym a.states) g) a.bodies)

-- one of two
chosen : (t : Bool) {x y z w : Stepped} → Alike x z → Alike y w → Alike (cond t x y) (cond t z w)
chosen true a b = a
chosen false a b = b

module _ (s : State) (m n : List ℕ) (h : Safe s m) (g : Safe s n) (e : behind m ≡ behind n) where
  alike_completed : (r : Reader) → Alike (completed s m r) (completed s n r)
  alike_completed r =
      let x = read_by s r in
      let hx = safe_read_by s m r h in
      let gx = safe_read_by s n r g in
      subst (λ (o : Outcome). Alike (completed s m r) (answered x n o (request_by r))) (same_outcome x m n hx gx e (request_by r))
      (alike_answered x m n hx gx e (outcome_of x m (request_by r)) (request_by r))

  alike_heard_as : (x : Status) (r : Reader) (b : ℕ) → Alike (heard_as x s m r b) (heard_as x s n r b)
  alike_heard_as Fresh r b = record { states = refl; bodies = e }
  alike_heard_as Inside r b =
      chosen (begun s) (alike_stored s m n h g e (datum_of s.incoming.reader) r b)
      (alike_settle (beginning s r) m n (safe_beginning s m r h) (safe_beginning s n r g) e)
  alike_heard_as Complete r b =
      alike_settled (completed s m r) (completed s n r) (safe_completed s m r h) (safe_completed s n r g) (alike_completed r)
  alike_heard_as Broken r b = alike_settle (read_by s off) m n (safe_read_by s m off h) (safe_read_by s n off g) e

  -- an octet
  pub alike_heard : (b : ℕ) (bad : Bool) → Alike (heard s m b bad) (heard s n b bad)
  unfolding heard
  alike_heard b bad =
      chosen (is_ignored (status s.incoming.reader)) (record { states = refl; bodies = e })
      (alike_heard_as (status (reader_after s.incoming.reader b bad)) (reader_after s.incoming.reader b bad) b)

  -- a gap
  pub alike_paused : Alike (paused s m) (paused s n)
  unfolding paused
  alike_paused = alike_settle (read_by s start) m n (safe_read_by s m start h) (safe_read_by s n start g) e

  -- a Tick
  pub alike_elapsed : Alike (elapsed s m) (elapsed s n)
  unfolding elapsed
  alike_elapsed =
      let r : Reader = silenced_reader (begun s) s.incoming.reader in
      chosen s.control.noted (alike_settle (beginning s r) m n (safe_beginning s m r h) (safe_beginning s n r g) e)
      (alike_carried s m n h g e (ticked (busy s) s.control) 0)
