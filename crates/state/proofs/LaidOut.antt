-- The memory that Start lays out: the first state in front, zeros in every buffer but the last, the slice there, and nothing past
-- the buffers changed.
use Prim.Native.Nat.{ℕ, ◌+◌, ◌≤◌, ◌<◌}
use native.Mathlib.Omega.{arith}
use mathlib.Core.Path.{◌≡◌, refl, sym, ap, subst, ◌∙◌}
use mathlib.Core.Bool.{true}
use mathlib.Core.Logic.{◌⊎◌, inl, inr}
use mathlib.Core.List.{List}
use lib.ListN.{length, drop, get_or}
use Rattle.buffers.proofs.Triples.{initial_permutation}
use Rattle.buffers.proofs.Quads as quads
use Rattle.octets.specs.Part.{part}
use Rattle.octets.proofs.Parts.{part_at}
use Rattle.telegram.proofs.Counts.{off_counts, empty_counts}
use Rattle.channels.specs.Image.{channels, channels_at, rows_end, rows_length, loaded}
use Rattle.channels.specs.Rules as channel
use Rattle.channels.specs.Setting.{lengths_given, lengths_ok, free, set_up}
use Rattle.channels.proofs.Exact.{lengths_say}
use Rattle.channels.proofs.Same.{loaded_same}
use Rattle.channels.proofs.Set.{set_up_loaded, set_up_length, set_up_front, set_up_behind, set_up_drop, set_up_room, free_sound}
use Rattle.state.specs.declared.setup.Setup.{Setup}
use Rattle.state.specs.Layout.{state_length, image_length, get_cfg_row, row_count, row_length, start_of, get_cfg_at, end_of, last_end}
use Rattle.state.specs.Memory.{kept, Channelled, Holds}
use Rattle.state.specs.Sound.{Ranged, Sound}
use Rattle.state.specs.Start.{initial_state, zeros, wiped, laid_out}
use Rattle.state.proofs.Damage.{kept_holds}
use Rattle.state.proofs.Front.{kept_drop, kept_part, kept_length}
use Rattle.state.proofs.Places.{in_front, beyond, first_start, end_behind, last_behind}
use Rattle.state.proofs.Wiped.{wiped_length, wiped_zeros, wiped_after, wiped_slice, wiped_behind}

-- ---- the first state

-- is sound for every setup in its ranges
pub initial_sound : (s : Setup) → Ranged s → Sound (initial_state s)
unfolding initial_state
initial_sound s r =
    record {
      setup = r;
      outputs = quads.initial_permutation;
      inputs = initial_permutation;
      parameters = initial_permutation;
      configuration = initial_permutation;
      parameter_counts = record { shown = inl refl; waiting = inl refl; fresh = refl; behind = λ _. refl };
      configuration_counts = record { shown = inl refl; waiting = inl refl; fresh = refl; behind = λ _. refl };
      diagnosis_counts = record { count = (omega arith, r.diagnosis_len.0); delayed = inl refl; flags = omega arith };
      chain_master = omega arith;
      chain_code = omega arith;
      reading = off_counts;
      sending = empty_counts;
      place = omega arith;
    }

-- ---- the memory

-- an octet is a part of one octet
octet_of_lem : (m : List ℕ) (i : ℕ) → get_or m i 0 ≡ get_or (part m i 1) 0 0
octet_of_lem m i = sym (part_at m i 1 0 (omega arith) ∙ ap (λ (j : ℕ). get_or m j 0) (let e : i + 0 ≡ i = omega arith in e))

-- the channels set up behind a state that is packed in front
module _ (m : List ℕ) (s : Setup) (slice lengths : List ℕ) (long : s.get_cfg_len ≡ length slice)
    (room : last_end (lengths_given lengths) s ≤ length m) where
  -- the buffers wiped, and the channels set up
  abbrev cleared : List ℕ
  cleared = wiped m s slice (last_end (lengths_given lengths) s)

  abbrev channelled : List ℕ
  channelled = set_up cleared lengths channels

  far : end_of s ≤ last_end (lengths_given lengths) s
  far = last_behind (lengths_given lengths) s

  cleared_length : length cleared ≡ length m
  cleared_length = wiped_length m s slice (last_end (lengths_given lengths) s) long far room

  rows_in : rows_end ≤ length cleared
  rows_in = let e = cleared_length in let u = end_behind s in let v = far in omega arith

  same_length : length channelled ≡ length m
  same_length = set_up_length cleared lengths channels ∙ cleared_length

  -- a part behind the rows is as it was wiped
  behind_rows : (a n : ℕ) → state_length ≤ a → part (laid_out m s slice lengths) a n ≡ part cleared a n
  unfolding laid_out
  behind_rows a n h =
      kept_part (initial_state s) channelled a n (omega arith) ∙ set_up_behind cleared lengths channels a n (omega arith) (omega arith)

  -- the channels are free, and their buffers end in the memory
  set_up_sound : lengths_ok lengths ≡ true → Channelled channelled s
  unfolding last_end
  set_up_sound ok = record {
    each = λ n h. subst channel.Sound (sym (set_up_loaded cleared lengths n rows_in h)) (free_sound lengths n ((lengths_say lengths ok).1 n h));
    ends = rw (same_length, ap (λ (x : ℕ). end_of s + x) (set_up_room cleared lengths rows_in)) room;
  }

  -- the first state in front
  pub laid_holds : Ranged s → lengths_ok lengths ≡ true → Holds (laid_out m s slice lengths) (initial_state s)
  unfolding laid_out initial_state
  laid_holds r ok = kept_holds (initial_state s) channelled (initial_sound s r) (set_up_sound ok)

  -- every channel has its lengths and is free
  pub laid_channels : (n : ℕ) → n < channels → loaded (laid_out m s slice lengths) n ≡ free lengths n
  unfolding laid_out
  laid_channels n h =
      loaded_same (kept (initial_state s) channelled) channelled (kept_part (initial_state s) channelled channels_at rows_length (omega arith)) n h
      ∙ set_up_loaded cleared lengths n rows_in h

  -- the length as before
  pub laid_length : length (laid_out m s slice lengths) ≡ length m
  unfolding laid_out
  laid_length =
      let e = same_length in
      let f = end_behind s in
      let u = far in
      kept_length (initial_state s) channelled (omega arith) ∙ e

  -- zeros in every buffer but the last
  pub laid_zeros : (a i : ℕ) → a < get_cfg_row → i < row_count a → part (laid_out m s slice lengths) (start_of s a i) (row_length s a) ≡ zeros (row_length s a)
  laid_zeros a i h g =
      let n = row_length s a in
      let f = beyond s a i in
      behind_rows (start_of s a i) n f
      ∙ wiped_zeros m s slice (last_end (lengths_given lengths) s) long far room (start_of s a i) n (omega arith) (in_front s a get_cfg_row i n h g (omega arith))

  -- so in every octet that is none of the image, of the rows or of the slice
  pub laid_zero : (i : ℕ) → image_length ≤ i → i < last_end (lengths_given lengths) s → (i < channels_at) ⊎ (rows_end ≤ i)
      → (i < get_cfg_at s) ⊎ (get_cfg_at s + length slice ≤ i) → get_or (laid_out m s slice lengths) i 0 ≡ 0
  unfolding laid_out
  laid_zero i h g beside apart =
      octet_of_lem (laid_out m s slice lengths) i
      ∙ ap (λ (l : List ℕ). get_or l 0 0) (kept_part (initial_state s) channelled i 1 h ∙ set_up_lem beside ∙ wiped_out apart)
    where
      set_up_lem : (i < channels_at) ⊎ (rows_end ≤ i) → part channelled i 1 ≡ part cleared i 1
      set_up_lem (inl f) = set_up_front cleared lengths channels i 1 (omega arith)
      set_up_lem (inr f) = set_up_behind cleared lengths channels i 1 (omega arith) f

      wiped_out : (i < get_cfg_at s) ⊎ (get_cfg_at s + length slice ≤ i) → part cleared i 1 ≡ zeros 1
      wiped_out (inl f) = wiped_zeros m s slice (last_end (lengths_given lengths) s) long far room i 1 h (omega arith)
      wiped_out (inr f) = wiped_after m s slice (last_end (lengths_given lengths) s) long far room i 1 f (omega arith)

  -- the slice in the last
  pub laid_slice : part (laid_out m s slice lengths) (get_cfg_at s) (length slice) ≡ slice
  laid_slice =
      let f = beyond s get_cfg_row 0 in
      let e = first_start s get_cfg_row in
      behind_rows (get_cfg_at s) (length slice) (omega arith)
      ∙ wiped_slice m s slice (last_end (lengths_given lengths) s) long far room

  -- nothing past the buffers is changed
  pub laid_behind : drop (last_end (lengths_given lengths) s) (laid_out m s slice lengths) ≡ drop (last_end (lengths_given lengths) s) m
  unfolding laid_out
  laid_behind =
      let u = end_behind s in
      let v = far in
      kept_drop (initial_state s) channelled (last_end (lengths_given lengths) s) (omega arith)
      ∙ set_up_drop cleared lengths channels (last_end (lengths_given lengths) s) (omega arith) (omega arith)
      ∙ wiped_behind m s slice (last_end (lengths_given lengths) s) long far room
