-- Every step keeps what the steps need of a state and a memory, and every buffer that they name lies in the memory.
use Rattle.std.proofs.Common.{Option, Some, None}
use Prim.Native.Nat.{ℕ, ◌+◌, ◌≤◌, ◌<◌}
use native.Mathlib.Omega.{arith}
use mathlib.Core.Path.{◌≡◌, refl}
use mathlib.Core.Logic.{◌⊎◌, inl, inr}
use mathlib.Core.Bool.{Bool, true, false, cond, not, ◌&&◌}
use mathlib.Core.List.{List}
use lib.Dec.{eqb, ltb}
use lib.ListN.{length, replicate, length-replicate}
use Rattle.buffers.specs.declared.triple.Triple.{Triple}
use Rattle.buffers.specs.Roles.{Permutation, fill_of, next_of}
use Rattle.buffers.specs.Roles as role
use Rattle.buffers.specs.Triple.{brought}
use Rattle.buffers.proofs.Triples.{published_permutes, taken_permutes, brought_permutes, shown_permutes}
use Rattle.buffers.proofs.Quads as quads
use Rattle.octets.specs.Part.{part, stored_in, rounded_up}
use Rattle.octets.proofs.Parts.{pasted_length, pasted_apart, stored_length, stored_apart}
use Rattle.channels.specs.Image.{channels_at, rows_length}
use Rattle.telegram.specs.declared.reader.Reader.{Reader}
use Rattle.telegram.specs.declared.reader.Status.{Status}
use Rattle.telegram.specs.declared.reader.Status.TheVariants.{Fresh, Inside, Complete, Broken}
use Rattle.telegram.specs.Reading.{start, off, reader_after, status, datum_of}
use Rattle.telegram.specs.Sending.{left, sent}
use Rattle.state.specs.declared.setup.Setup.{Setup}
use Rattle.state.specs.declared.control.Control.{Control}
use Rattle.state.specs.declared.state.Drawn.{Drawn}
use Rattle.state.specs.declared.state.Incoming.{Incoming}
use Rattle.state.specs.declared.state.Outputs.{Outputs}
use Rattle.state.specs.declared.state.Reply.{Reply}
use Rattle.state.specs.declared.state.Sets.{Sets}
use Rattle.state.specs.declared.state.State.{State}
use Rattle.state.specs.Layout.{state_length, output_row, parameter_row, configuration_row, row_count, row_length, start_of, outputs_at, parameters_at, get_cfg_at, end_of}
use Rattle.state.proofs.Choice.{either}
use Rattle.state.proofs.Channelled.{rows_of, channelled_same}
use Rattle.state.proofs.Places.{inside, beyond, rounded_inside, get_cfg_inside}
use Rattle.rules.specs.declared.outcome.OutputsDeed.{OutputsDeed}
use Rattle.rules.specs.declared.outcome.OutputsDeed.TheVariants as outputs-deed
use Rattle.rules.specs.declared.outcome.InputsDeed.{InputsDeed}
use Rattle.rules.specs.declared.outcome.InputsDeed.TheVariants as inputs-deed
use Rattle.rules.specs.declared.outcome.SetDeed.{SetDeed}
use Rattle.rules.specs.declared.outcome.SetDeed.TheVariants as set-deed
use Rattle.rules.specs.declared.outcome.Outcome.{Outcome}
use Rattle.rules.specs.declared.request.Request.{Request}
use Rattle.rules.specs.Requests.{master_of}
use Rattle.rules.specs.Line.{clear_noted, ticked}
use Rattle.rules.specs.Diagnosis.{delayed, caught_up}
use Rattle.steps.specs.Safe.{Safe}
use Rattle.steps.specs.Stepped.{Stepped, Steps}
use Rattle.state.specs.With.{with_outputs, with_inputs, with_incoming, with_reply}
use Rattle.state.specs.Start.{no_reply}
use Rattle.steps.specs.Replies.{own_place, user_place, reply_for, asked_for}
use Rattle.steps.specs.Reading.{stored_data, kept_octets, read_by, stored_as, request_by, outcome_of, answered, completed, beginning, heard_as, is_ignored, heard}
use Rattle.steps.specs.Bus.{paused, sent_by, send_left, silenced_reader, elapsed}
use Rattle.steps.specs.Line.{begun, busy, diagnosis_leaves}
use Rattle.steps.specs.Outcome.{is_open, on_outputs, on_inputs, received_set, on_sets, on_memory, carried, diagnosis_changed, after_reply, settle}

-- ---- the buffers lie in the memory

-- the diagnosis buffers are two
pub own_in : (swapped : Bool) → own_place swapped < 2
own_in true = omega arith
own_in false = omega arith

pub user_in : (swapped : Bool) → user_place swapped < 2
user_in true = omega arith
user_in false = omega arith

-- buffer k of a row
pub buffer_room : (s : State) (m : List ℕ) (row k : ℕ) → Safe s m → k < row_count row
    → start_of s.setup row k + row_length s.setup row ≤ length m
buffer_room s m row k h g =
    let u = inside s.setup row k (row_length s.setup row) g (omega arith) in
    let v = h.room in
    omega arith

-- the one for Get_Cfg
pub get_cfg_room : (s : State) (m : List ℕ) → Safe s m → get_cfg_at s.setup + s.setup.get_cfg_len ≤ length m
get_cfg_room s m h =
    let u = get_cfg_inside s.setup s.setup.get_cfg_len (omega arith) in
    let v = h.room in
    omega arith

-- the octets of Set_Prm: a buffer of 7 has room for 8
pub prm_room : (s : State) (m : List ℕ) → Safe s m → parameters_at s.setup (fill_of s.parameters.set.place) + 8 ≤ length m
unfolding rounded_up
prm_room s m h =
    let long = h.long in
    let u = rounded_inside s.setup parameter_row (fill_of s.parameters.set.place) 8 (h.parameters.within role.fill (omega arith)) (omega arith) in
    let v = h.room in
    omega arith

-- ---- what a step makes

abbrev pub Safely : Stepped → Type 0
Safely r = Safe r.state r.memory

-- a step's promise carries it to the code's state and memory
pub safe_steps : (r : Stepped) (s : State) (m : List ℕ) → Steps r s m → Safely r → Safe s m
safe_steps r s m e h = rw (e.states, e.leaves) h

-- ---- what lies beside the buffers

-- k octets from a on lie in the state part, or behind the buffers, where the channels' are
abbrev pub Beside : Setup → ℕ → ℕ → Type 0
Beside g a k = (a + k ≤ state_length) ⊎ (end_of g ≤ a)

-- n is m but for the buffers
abbrev pub BesideStays : State → List ℕ → List ℕ → Type 0
BesideStays s m n = (a k : ℕ) → Beside s.setup a k → part n a k ≡ part m a k

-- such octets lie apart from every buffer
beside_buffer : (s : State) (row i n a k : ℕ) → i < row_count row → n ≤ row_length s.setup row → Beside s.setup a k
    → (a + k ≤ start_of s.setup row i) ⊎ (start_of s.setup row i + n ≤ a)
beside_buffer s row i n a k h g (inl b) = let u = beyond s.setup row i in inl (omega arith)
beside_buffer s row i n a k h g (inr b) = let u = inside s.setup row i n h g in inr (omega arith)

-- and the rows of the channels are such
pub beside_rows : (s : State) (m n : List ℕ) → BesideStays s m n → rows_of n ≡ rows_of m
beside_rows s m n f = f channels_at rows_length (inl (omega arith))

-- ---- a memory of the same length, with the channels' rows as they were

pub safe_same : (s : State) (m n : List ℕ) → length n ≡ length m → rows_of n ≡ rows_of m → Safe s m → Safe s n
safe_same s m n e rows h =
    record {
      outputs = h.outputs;
      inputs = h.inputs;
      parameters = h.parameters;
      configuration = h.configuration;
      reply = h.reply;
      long = h.long;
      room = rw e h.room;
      channels = channelled_same m n e rows h.channels;
    }

-- ---- other parts of the state

-- all but the setup and the sets of parameters and of configuration
safe_others : (s : State) (m : List ℕ) (c : Control) (o : Outputs) (t : Triple) (swapped : Bool) (i : Incoming) (r : Reply)
    → Permutation 4 o.set.place → Permutation 3 t.place → r.place ≤ 3 → Safe s m
    → Safe (record { setup = s.setup; control = c; outputs = o; inputs = t; parameters = s.parameters; configuration = s.configuration; swapped = swapped; incoming = i; reply = r }) m
safe_others s m c o t swapped i r p q g h =
    record {
      outputs = p;
      inputs = q;
      parameters = h.parameters;
      configuration = h.configuration;
      reply = g;
      long = h.long;
      room = h.room;
      channels = h.channels;
    }

-- another control part, and which diagnosis buffer is whose
pub safe_control : (s : State) (m : List ℕ) (c : Control) (swapped : Bool) → Safe s m
    → Safe (record { setup = s.setup; control = c; outputs = s.outputs; inputs = s.inputs; parameters = s.parameters; configuration = s.configuration; swapped = swapped; incoming = s.incoming; reply = s.reply }) m
safe_control s m c swapped h = safe_others s m c s.outputs s.inputs swapped s.incoming s.reply h.outputs h.inputs h.reply h

-- other roles of the outputs
pub safe_outputs : (s : State) (m : List ℕ) (o : Outputs) → Permutation 4 o.set.place → Safe s m → Safe (with_outputs s o) m
safe_outputs s m o p h = safe_others s m s.control o s.inputs s.swapped s.incoming s.reply p h.inputs h.reply h

-- and of the inputs
pub safe_inputs : (s : State) (m : List ℕ) (t : Triple) → Permutation 3 t.place → Safe s m → Safe (with_inputs s t) m
safe_inputs s m t p h = safe_others s m s.control s.outputs t s.swapped s.incoming s.reply h.outputs p h.reply h

-- another reading
pub safe_incoming : (s : State) (m : List ℕ) (i : Incoming) → Safe s m → Safe (with_incoming s i) m
safe_incoming s m i h = safe_others s m s.control s.outputs s.inputs s.swapped i s.reply h.outputs h.inputs h.reply h

pub safe_read_by : (s : State) (m : List ℕ) (r : Reader) → Safe s m → Safe (read_by s r) m
safe_read_by s m r h = safe_incoming s m (record { reader = r; first = s.incoming.first; second = s.incoming.second }) h

-- another reply
pub safe_reply : (s : State) (m : List ℕ) (r : Reply) → r.place ≤ 3 → Safe s m → Safe (with_reply s r) m
safe_reply s m r g h = safe_others s m s.control s.outputs s.inputs s.swapped s.incoming r h.outputs h.inputs g h

pub safe_no_reply : (s : State) (m : List ℕ) → Safe s m → Safe (with_reply s no_reply) m
safe_no_reply s m h = safe_reply s m no_reply (omega arith) h

pub safe_beginning : (s : State) (m : List ℕ) (r : Reader) → Safe s m → Safe (beginning s r) m
safe_beginning s m r h = safe_no_reply (read_by s r) m (safe_read_by s m r h)

-- ---- an outcome carried out

pub outputs_permute : (d : OutputsDeed) (o : Outputs) → Permutation 4 o.set.place → Permutation 4 (on_outputs d o).set.place
outputs_permute outputs-deed.Keep o p = p
outputs_permute outputs-deed.Publish o p = quads.published_permutes o.set p
outputs_permute outputs-deed.HoldBack o p = quads.held_back_permutes o.set p
outputs_permute outputs-deed.Release o p = quads.released_permutes o.set p
outputs_permute outputs-deed.Zeros o p = p

pub inputs_permute : (d : InputsDeed) (t : Triple) → Permutation 3 t.place → Permutation 3 (on_inputs d t).place
inputs_permute inputs-deed.Keep t p = p
inputs_permute inputs-deed.Bring t p = go t.fresh
  where
    go : (b : Bool) → Permutation 3 (cond b (brought t) t).place
    go true = brought_permutes t p
    go false = p

received_permutes : (s : Sets) (count : ℕ) → Permutation 3 s.set.place → Permutation 3 (received_set s count).set.place
received_permutes s count p = go (is_open s) _ _ (published_permutes s.set p) (shown_permutes s.set p)
  where
    go : (b : Bool) (x y : Sets) → Permutation 3 x.set.place → Permutation 3 y.set.place → Permutation 3 (cond b x y).set.place
    go true x y g h = g
    go false x y g h = h

pub sets_permute : (d : SetDeed) (s : Sets) (count : ℕ) → Permutation 3 s.set.place → Permutation 3 (on_sets d s count).set.place
sets_permute set-deed.Keep s count p = p
sets_permute set-deed.Receive s count p = received_permutes s count p
sets_permute set-deed.Advance s count p = taken_permutes s.set p
sets_permute set-deed.Drop s count p = p

-- the memory keeps its length
pub on_memory_length : (d : OutputsDeed) (s : State) (m : List ℕ) → Safe s m → length (on_memory d s m) ≡ length m
on_memory_length outputs-deed.Keep s m h = refl
on_memory_length outputs-deed.Publish s m h = refl
on_memory_length outputs-deed.HoldBack s m h = refl
on_memory_length outputs-deed.Release s m h = refl
on_memory_length outputs-deed.Zeros s m h =
    pasted_length m (outputs_at s.setup (next_of s.outputs.set.place)) (replicate s.setup.output_len 0)
    (rw (length-replicate {A = ℕ} s.setup.output_len 0)
    (buffer_room s m output_row (next_of s.outputs.set.place) h (h.outputs.within role.next (omega arith))))

-- and nothing but the buffers changes
pub on_memory_beside : (d : OutputsDeed) (s : State) (m : List ℕ) → Safe s m → BesideStays s m (on_memory d s m)
on_memory_beside outputs-deed.Keep s m h a k b = refl
on_memory_beside outputs-deed.Publish s m h a k b = refl
on_memory_beside outputs-deed.HoldBack s m h a k b = refl
on_memory_beside outputs-deed.Release s m h a k b = refl
on_memory_beside outputs-deed.Zeros s m h a k b =
    let there = h.outputs.within role.next (omega arith) in
    let u = buffer_room s m output_row (next_of s.outputs.set.place) h there in
    pasted_apart m (outputs_at s.setup (next_of s.outputs.set.place)) (replicate s.setup.output_len 0) a k (omega arith)
    (rw (length-replicate {A = ℕ} s.setup.output_len 0) (beside_buffer s output_row (next_of s.outputs.set.place) s.setup.output_len a k there (omega arith) b))

pub safe_carried : (s : State) (m : List ℕ) (o : Outcome) (count : ℕ) → Safe s m → Safely (carried s m o count)
unfolding carried
safe_carried s m o count h =
    record {
      outputs = outputs_permute o.outputs s.outputs h.outputs;
      inputs = inputs_permute o.inputs s.inputs h.inputs;
      parameters = sets_permute o.parameters s.parameters count h.parameters;
      configuration = sets_permute o.configuration s.configuration count h.configuration;
      reply = h.reply;
      long = h.long;
      room = rw (on_memory_length o.outputs s m h) h.room;
      channels = channelled_same m (on_memory o.outputs s m) (on_memory_length o.outputs s m h) (beside_rows s m (on_memory o.outputs s m) (on_memory_beside o.outputs s m h)) h.channels;
    }

-- ---- the line settled

pub safe_after_reply : (s : State) (m : List ℕ) → Safe s m → Safe (after_reply s) m
unfolding after_reply
safe_after_reply s m h = go (delayed s.control && not (diagnosis_leaves s))
  where
    go : (b : Bool) → Safe (cond b (diagnosis_changed s (caught_up s.control)) s) m
    go true = safe_control s m (caught_up s.control) (not s.swapped) h
    go false = h

pub safe_settle : (s : State) (m : List ℕ) → Safe s m → Safely (settle s m)
unfolding settle
safe_settle s m h = safe_carried (after_reply s) m (clear_noted (busy s) (after_reply s).control) 0 (safe_after_reply s m h)

-- ---- a reply drawn

pub safe_reply_for : (s : State) (m : List ℕ) (d : Drawn) (master : ℕ) → Safe s m → Safe (with_reply s (reply_for d s master)) m
unfolding reply_for
safe_reply_for s m d master h = let u = h.outputs.within role.held (omega arith) in safe_reply s m (reply_for d s master) (omega arith) h

-- ---- an octet heard

cond_length : (t : Bool) (a b : List ℕ) (n : ℕ) → length a ≡ n → length b ≡ n → length (cond t a b) ≡ n
cond_length true a b n e f = e
cond_length false a b n e f = f

pub stored_data_length : (s : State) (m : List ℕ) (k b : ℕ) → length (stored_data s m k b) ≡ length m
stored_data_length s m k b =
    cond_length (ltb s.incoming.reader.da 128) _ _ (length m) (stored_length m _ _ k b)
    (cond_length (eqb s.incoming.reader.dsap 61) _ _ (length m) (stored_length m _ _ k b)
    (cond_length (eqb s.incoming.reader.dsap 62) _ _ (length m) (stored_length m _ _ k b) refl))

cond_part : (t : Bool) (x y m : List ℕ) (a k : ℕ) → part x a k ≡ part m a k → part y a k ≡ part m a k → part (cond t x y) a k ≡ part m a k
cond_part true x y m a k e f = e
cond_part false x y m a k e f = f

pub stored_data_beside : (s : State) (m : List ℕ) (k b : ℕ) → Safe s m → BesideStays s m (stored_data s m k b)
stored_data_beside s m k b h a n beside =
    cond_part (ltb s.incoming.reader.da 128) _ _ m a n (into output_row (fill_of s.outputs.set.place) (h.outputs.within role.fill (omega arith)))
    (cond_part (eqb s.incoming.reader.dsap 61) _ _ m a n (into parameter_row (fill_of s.parameters.set.place) (h.parameters.within role.fill (omega arith)))
    (cond_part (eqb s.incoming.reader.dsap 62) _ _ m a n
    (into configuration_row (fill_of s.configuration.set.place) (h.configuration.within role.fill (omega arith))) refl))
  where
    into : (row i : ℕ) → i < row_count row → part (stored_in m (start_of s.setup row i) (row_length s.setup row) k b) a n ≡ part m a n
    into row i there =
        stored_apart m (start_of s.setup row i) (row_length s.setup row) k b a n (beside_buffer s row i (row_length s.setup row) a n there (omega arith) beside)

pub safe_stored_as : (d : Option ℕ) (s : State) (m : List ℕ) (r : Reader) (b : ℕ) → Safe s m → Safely (stored_as d s m r b)
safe_stored_as None s m r b h = safe_read_by s m r h
safe_stored_as (Some k) s m r b h =
    safe_same (with_incoming s (kept_octets s.incoming r k b)) m (stored_data s m k b) (stored_data_length s m k b) (beside_rows s m (stored_data s m k b) (stored_data_beside s m k b h))
    (safe_incoming s m (kept_octets s.incoming r k b) h)

pub safe_answered : (s : State) (m : List ℕ) (o : Outcome) (r : Request) → Safe s m → Safely (answered s m o r)
unfolding answered
safe_answered s m o r h =
    safe_reply_for (carried s m o r.count).state (carried s m o r.count).memory o.drawn (master_of r)
    (safe_carried s m o r.count h)

pub safe_completed : (s : State) (m : List ℕ) (r : Reader) → Safe s m → Safely (completed s m r)
safe_completed s m r h =
    safe_answered (read_by s r) m (outcome_of (read_by s r) m (request_by r)) (request_by r) (safe_read_by s m r h)

pub safe_heard_as : (x : Status) (s : State) (m : List ℕ) (r : Reader) (b : ℕ) → Safe s m → Safely (heard_as x s m r b)
safe_heard_as Fresh s m r b h = h
safe_heard_as Inside s m r b h =
    either Safely (begun s)
    (safe_stored_as (datum_of s.incoming.reader) s m r b h)
    (safe_settle (beginning s r) m (safe_beginning s m r h))
safe_heard_as Complete s m r b h = safe_settle (completed s m r).state (completed s m r).memory (safe_completed s m r h)
safe_heard_as Broken s m r b h = safe_settle (read_by s off) m (safe_read_by s m off h)

pub safe_heard : (s : State) (m : List ℕ) (b : ℕ) (bad : Bool) → Safe s m → Safely (heard s m b bad)
unfolding heard
safe_heard s m b bad h =
    either Safely (is_ignored (status s.incoming.reader)) h
    (safe_heard_as (status (reader_after s.incoming.reader b bad)) s m (reader_after s.incoming.reader b bad) b h)

-- ---- a gap, an octet sent and a Tick

pub safe_paused : (s : State) (m : List ℕ) → Safe s m → Safely (paused s m)
unfolding paused
safe_paused s m h = safe_settle (read_by s start) m (safe_read_by s m start h)

pub safe_send_left : (s : State) (m : List ℕ) → Safe s m → Safely (send_left s m)
unfolding send_left
safe_send_left s m h =
    let r : Reply = sent_by s.reply (sent s.reply.sender (asked_for s m)).sender in
    either Safely (left s.reply.sender)
    (safe_settle (with_reply s r) m (safe_reply s m r h.reply h))
    h

pub safe_elapsed : (s : State) (m : List ℕ) → Safe s m → Safely (elapsed s m)
unfolding elapsed
safe_elapsed s m h =
    let r : Reader = silenced_reader (begun s) s.incoming.reader in
    either Safely s.control.noted
    (safe_settle (beginning s r) m (safe_beginning s m r h))
    (safe_carried s m (ticked (busy s) s.control) 0 h)
