-- Octets that begin, end or break off a telegram, over the memory: the parts are written, and then the line is settled.
use Rattle.std.proofs.Common.{◌≡◌, ℕ, Bool, true, false, cond, not, ◌&&◌, List, sym, refl, ap, ◌∙◌}
use Rattle.telegram.specs.declared.reader.Reader.{Reader}
use Rattle.telegram.specs.declared.reader.Status.{Status}
use Rattle.telegram.specs.declared.reader.Status.TheVariants.{Fresh, Inside}
use Rattle.telegram.specs.Reading.{off, reader_after, status, takes_data, datum_of}
use Rattle.telegram.proofs.Run.{no_true}
use Rattle.telegram.proofs.Counts.{off_counts, after_counts}
use Rattle.state.specs.declared.state.Incoming.{Incoming}
use Rattle.state.specs.declared.state.State.{State}
use Rattle.state.specs.Memory.{kept, Holds, Changes}
use Rattle.state.specs.Start.{no_reply}
use Rattle.state.specs.Unpack.{unpacked}
use Rattle.state.specs.With.{with_incoming, with_reply}
use Rattle.state.proofs.Damage.{fronted_same}
use Rattle.outcomes.proofs.Settled.{Fronts}
use Rattle.steps.specs.Stepped.{packed_after}
use Rattle.steps.specs.Line.{is_inside, begun}
use Rattle.steps.specs.Outcome.{settle}
use Rattle.steps.specs.Reading.{read_on, read_by, stored_as, request_by, outcome_of, answered, completed, beginning, heard_as}
use Rattle.steps.proofs.Holding.{holds_safe}
use Rattle.steps.proofs.KeepsSafe.{safe_completed}
use Rattle.steps.proofs.KeepsSound.{sound_completed}
use Rattle.steps.proofs.SoundWith.{sound_read_by, sound_beginning}
use Rattle.station.specs.Hearing.{is_plain, Turns}

-- ---- what the code leaves

-- i: the telegram that was coming, next: the reader after the octet
module _ (m : List ℕ) (i : Incoming) (next : Reader) (y : Status) (turns : Turns m i next y) where
  abbrev s : State
  s = unpacked m

  -- the state stands in front
  front : m ≡ kept s m
  front = fronted_same m s turns.holds

  read : {x : Reader} {j : Incoming} → j ≡ read_on i x → j ≡ read_on s.incoming x
  read {x} e = e ∙ (λ r. read_on (turns.was r) x)

  -- no octet at all
  pub leaves_fresh : (b : ℕ) → m ≡ packed_after (heard_as Fresh s m next b)
  leaves_fresh b = front

  -- j: what is written of the telegram, n: the memory before the line is settled
  module _ {j : Incoming} {n : List ℕ} where
    -- a beginning
    pub begun_fronts : j ≡ read_on i next → Changes m n (λ u. with_reply (with_incoming u j) no_reply) → Fronts (beginning s next) m n
    begun_fronts e k = record {
      sound = sound_beginning s next turns.holds.sound turns.counts;
      room = turns.holds.room;
      front = k s front ∙ (λ r. kept (with_reply (with_incoming s (read e r)) no_reply) m);
    }

    -- a last octet
    pub completed_fronts : j ≡ read_on i next
        → n ≡ packed_after (answered (with_incoming s j) m (outcome_of s m (request_by j.reader)) (request_by j.reader))
        → Fronts (completed s m next).state (completed s m next).memory n
    unfolding outcome_of
    completed_fronts e k = record {
      sound = sound_completed s m next turns.holds.sound turns.counts;
      room = (safe_completed s m next (holds_safe m s turns.holds)).channels;
      front = k ∙ (λ r. let x = read e r in packed_after (answered (with_incoming s x) m (outcome_of s m (request_by x.reader)) (request_by x.reader)));
    }

    -- one that breaks it off
    pub broken_fronts : {x : Reader} → x ≡ off → j ≡ read_on i x → Changes m n (λ u. with_incoming u j) → Fronts (read_by s off) m n
    broken_fronts ex e k = record {
      sound = sound_read_by s turns.holds.sound off off_counts;
      room = turns.holds.room;
      front = k s front ∙ (λ r. kept (with_incoming s (read (e ∙ (λ q. read_on i (ex q))) r)) m);
    }

  -- a beginning settled
  pub leaves_begun : y ≡ Inside → {out : List ℕ} → out ≡ packed_after (settle (beginning s next) m) → (b : ℕ) → out ≡ packed_after (heard_as Inside s m next b)
  leaves_begun e f b =
      f ∙ ap (λ (t : Bool). packed_after (cond t (stored_as (datum_of s.incoming.reader) s m next b) (settle (beginning s next) m))) (sym (turns.begins e))

-- ---- which octets these are

-- a telegram begins with an octet that is inner, but neither plain nor data
not_begun : (was inner takes : Bool) → was && inner && not takes ≡ false → inner ≡ true → takes ≡ false → was ≡ false
not_begun true inner takes e f g = sym (λ j. f j && not (g j)) ∙ e
not_begun false inner takes e f g = refl

-- a data octet that is flagged bad breaks the telegram off
unflagged : (r : Reader) (b : ℕ) (bad : Bool) → (takes_data r ≡ true → bad ≡ true) → is_inside (status (reader_after r b bad)) ≡ true → takes_data r ≡ false
unfolding status
unflagged r b bad g e = go (takes_data r) refl
  where
    go : (t : Bool) → takes_data r ≡ t → takes_data r ≡ false
    go true f = no_true (ap (λ (x : Bool). is_inside (status (reader_after r b x))) (sym (g f)) ∙ e)
    go false f = f

and_not : (x y t : Bool) → (y ≡ true → t ≡ false) → (x && y) ≡ (x && y && not t)
and_not true true t h = sym (ap not (h refl))
and_not true false t h = refl
and_not false y t h = refl

-- what is no good data is plain if it is inner
pub inner_plain : (m : List ℕ) (i : Incoming) (b : ℕ) (bad : Bool) (next : Reader) → (takes_data (unpacked m).incoming.reader ≡ true → bad ≡ true)
    → i ≡ (unpacked m).incoming → next ≡ reader_after i.reader b bad → (is_inside (status i.reader) && is_inside (status next)) ≡ is_plain i.reader next
inner_plain m i b bad next flagged same goes =
    and_not (is_inside (status i.reader)) (is_inside (status next)) (takes_data i.reader)
    (λ inner.
    unflagged i.reader b bad (λ t. flagged ((λ j. takes_data (sym same j).reader) ∙ t))
    (ap (λ (x : Reader). is_inside (status x)) (sym goes) ∙ inner))

-- by the tests as the code makes them: neither plain nor good data
pub turning : (m : List ℕ) (i : Incoming) (b : ℕ) (bad : Bool) (next : Reader) (y : Status) → Holds m (unpacked m)
    → (takes_data (unpacked m).incoming.reader ≡ true → bad ≡ true) → i ≡ (unpacked m).incoming → next ≡ reader_after i.reader b bad → (plain : Bool)
    → plain ≡ is_plain i.reader next → plain ≡ false → y ≡ status next → Turns m i next y
turning m i b bad next y h flagged same goes plain ep e ey =
    let after : next ≡ reader_after (unpacked m).incoming.reader b bad = goes ∙ (λ r. reader_after (same r).reader b bad) in
    record {
      holds = h;
      was = same;
      counts = rw after (after_counts (unpacked m).incoming.reader b bad h.sound.reading);
      begins = λ inside.
          let inner : is_inside (status next) ≡ true = ap is_inside (sym ey ∙ inside) in
          not_begun (begun (unpacked m)) (is_inside (status next)) (takes_data (unpacked m).incoming.reader)
          ((λ r. is_plain (sym same r).reader next) ∙ sym ep ∙ e) inner
          (unflagged (unpacked m).incoming.reader b bad flagged (ap (λ (x : Reader). is_inside (status x)) (sym after) ∙ inner));
    }
