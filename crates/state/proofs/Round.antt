-- A sound state and its image are each other's: the octets that pass the tests are the images of the sound states.
use Prim.Native.Nat.{ℕ, zero, suc, ◌+◌, ◌*◌, ◌/◌, ◌%◌, ◌≤◌, ◌<◌}
use native.Mathlib.Omega.{arith}
use native.Mathlib.Nat.{mod-add-div}
use mathlib.Core.Path.{◌≡◌, refl, sym, ap, subst, ◌∙◌}
use mathlib.Core.Bool.{Bool, true}
use mathlib.Core.List.{List, [], ◌∷◌, ◌++◌}
use lib.ListN.{length, get_or, take, drop, take-append-drop}
use lib.Dec.{leb, eqb}
use lib.Seq.{drop-cons}
use borrow.Author.Tests.{leb-true, le-leb, eqb-true}
use Rattle.buffers.specs.Number.{number_of, places_of, number_of4, places_of4}
use Rattle.buffers.proofs.Numbers.{number_below, number_places, places_permutation, places_number, number4_below, number4_places, places4_permutation}
use Rattle.state.specs.declared.control.Flags.{Flags}
use Rattle.state.specs.declared.state.State.{State}
use Rattle.state.specs.Number.{reading_number, kind_number, stage_number, phase_number, drawn_number}
use Rattle.state.specs.Layout.{image_length}
use Rattle.state.specs.Image.{bit_of, low_word, high_word, double_octets, flags_of, modes_of, marks_of, inputs_code, image}
use Rattle.state.specs.Unpack.{word_at, double_at, setup_in, flags_in, reader_in, sender_in, unpacked}
use Rattle.state.specs.Sound.{Sound}
use Rattle.state.specs.Well.{all, length_tests, lengths_tests, count_tests, line_tests, code_tests, image_tests, well_image}
use Rattle.state.specs.NumberLaws.{reading_back, kind_back, stage_back, phase_back, drawn_back}
use Rattle.state.proofs.Numbers.{reading_counted, reading_le, kind_counted, kind_le, stage_counted, stage_le, phase_counted, phase_le, drawn_counted, drawn_le}
use Rattle.state.proofs.Asking.{tests_ranged, lengths_hold}
use Rattle.state.proofs.Tests.{all_at, all_behind, within_true, within_holds, none_or_true, none_or_holds, set_counts_true, set_counts_holds}
use Rattle.state.proofs.LineCounts.{reading_before, reading_numbered_lem, stage_before, stage_numbered_lem, part_true, part_holds}
use Rattle.state.proofs.Bits.{bit_le, bit_in, mark_coded, Marked, marked, sum_marks}
use Rattle.state.proofs.SetCodes.{outputs_back, marks_coded, marks_below, modes_back, modes_coded, modes_below, inputs_back, inputs_coded, inputs_below}

-- the image has its length
pub image_length_lem : (s : State) → length (image s) ≡ image_length
unfolding image
image_length_lem s = refl

-- the flags come back from their octet, and so does the note of a clear
flags_marked : (f : Flags) (noted : Bool)
    → Marked (flags_of f noted) f.prm_fault f.cfg_fault noted f.ext_diag f.stat_diag f.overflow f.diag_flag f.parameters_good
flags_marked f noted = marked (flags_of f noted) _ _ _ _ _ _ _ _ refl

flags_back : (f : Flags) (noted : Bool) → flags_in (flags_of f noted) ≡ f
flags_back f noted =
    let b = flags_marked f noted in
    λ i.
    record {
      prm_fault = b.bit₀ i;
      cfg_fault = b.bit₁ i;
      ext_diag = b.bit₃ i;
      stat_diag = b.bit₄ i;
      overflow = b.bit₅ i;
      diag_flag = b.bit₆ i;
      parameters_good = b.bit₇ i;
    }

-- a double word comes back from its octets
double_back : (x : ℕ) → low_word x % 256 + 256 * (low_word x / 256) + 65536 * (high_word x % 256 + 256 * (high_word x / 256)) ≡ x
double_back x = (λ i. mod-add-div (low_word x) 256 i + 65536 * mod-add-div (high_word x) 256 i) ∙ mod-add-div x 65536

-- a sound state comes back from its image, whatever lies behind it
pub round : (s : State) → Sound s → (r : List ℕ) → unpacked (image s ++ r) ≡ s
unfolding image unpacked
round s h r =
    let l = image s ++ r in
    let c = s.control in
    let reader = s.incoming.reader in
    let sender = s.reply.sender in
    λ i.
    record {
      setup = setup_in l (mod-add-div s.setup.ident 256 i);
      control =
          record {
            phase = phase_back c.phase i;
            owner = c.owner;
            group = c.group;
            stored = c.stored;
            watchdog = record { reload = double_back c.watchdog.reload i; remaining = double_back c.watchdog.remaining i };
            flags = flags_back c.flags c.noted i;
            events = record { word = mod-add-div c.events.word 256 i };
            noted = (flags_marked c.flags c.noted).bit₂ i;
            diagnosis = c.diagnosis;
            modes = modes_back c.modes i;
            chain = c.chain;
          };
      outputs = outputs_back s.outputs h.outputs i;
      inputs = inputs_back s.inputs h.inputs i;
      parameters =
          record {
            set = record { place = places_number s.parameters.set.place h.parameters i; fresh = sym h.parameter_counts.fresh i };
            shown = s.parameters.shown;
            waiting = s.parameters.waiting;
          };
      configuration =
          record {
            set =
                record {
                  place = places_number s.configuration.set.place h.configuration i;
                  fresh = sym h.configuration_counts.fresh i;
                };
            shown = s.configuration.shown;
            waiting = s.configuration.waiting;
          };
      swapped = bit_in s.swapped (bit_of s.swapped) refl i;
      incoming =
          record {
            reader = reader_in l (reading_back reader.phase i) (kind_back reader.kind i);
            first = s.incoming.first;
            second = s.incoming.second;
          };
      reply =
          record {
            drawn = drawn_back s.reply.drawn i;
            sender = sender_in l (stage_back sender.stage i) (kind_back sender.kind i);
            place = s.reply.place;
            header = s.reply.header;
          };
    }

-- no two sound states have one image
pub image_injective : (s t : State) → Sound s → Sound t → image s ≡ image t → s ≡ t
image_injective s t hs ht e = sym (round s hs []) ∙ ap (λ (l : List ℕ). unpacked (l ++ [])) e ∙ round t ht []

-- the number of roles passes
roles_pass : (l : List ℕ) → leb (number_of l) 5 ≡ true
roles_pass l = let n = number_below l in le-leb (number_of l) 5 (omega arith)

roles4_pass : (l : List ℕ) → leb (number_of4 l) 23 ≡ true
roles4_pass l = let n = number4_below l in le-leb (number_of4 l) 23 (omega arith)

-- a mark passes
mark_passes : (b : Bool) → leb (bit_of b) 1 ≡ true
mark_passes b = le-leb (bit_of b) 1 (bit_le b)

-- the image of a sound state, whatever lies behind it
module _ (s : State) (h : Sound s) (r : List ℕ) where
  -- the lengths pass
  lengths_well : all (lengths_tests (image s ++ r)) ≡ true
  unfolding image
  lengths_well =
      let chain = s.control.chain in
      (λ i. all (le-leb chain.code 17 h.chain_code i ∷ le-leb chain.master 127 h.chain_master i ∷ length_tests s.setup))
      ∙ lengths_hold s.setup h.setup

  -- the codes pass
  codes_well : all (code_tests (image s ++ r)) ≡ true
  unfolding image
  codes_well =
      λ i.
      all
      (le-leb (kind_number s.reply.sender.kind) 3 (kind_le s.reply.sender.kind) i
      ∷ le-leb (stage_number s.reply.sender.stage) 10 (stage_le s.reply.sender.stage) i
      ∷ le-leb (drawn_number s.reply.drawn) 8 (drawn_le s.reply.drawn) i
      ∷ le-leb s.reply.place 3 h.place i
      ∷ le-leb s.setup.address 126 h.setup.address i
      ∷ le-leb (phase_number s.control.phase) 2 (phase_le s.control.phase) i
      ∷ roles4_pass s.outputs.set.place i
      ∷ le-leb (inputs_code s.inputs) 11 (inputs_below s.inputs) i
      ∷ roles_pass s.parameters.set.place i
      ∷ roles_pass s.configuration.set.place i
      ∷ le-leb s.control.diagnosis.delayed_flags 7 h.diagnosis_counts.flags i
      ∷ le-leb (modes_of s.control.modes) 15 (modes_below s.control.modes) i
      ∷ mark_passes s.swapped i
      ∷ le-leb (marks_of s.outputs) 7 (marks_below s.outputs) i
      ∷ le-leb (kind_number s.incoming.reader.kind) 3 (kind_le s.incoming.reader.kind) i
      ∷ le-leb (reading_number s.incoming.reader.phase) 12 (reading_le s.incoming.reader.phase) i
      ∷ [])

  -- the counts of diagnosis and of the sets pass
  counts_well : all (count_tests (image s ++ r)) ≡ true
  unfolding image
  counts_well =
      let d = s.control.diagnosis in
      λ i.
      all
      (within_holds 6 d.count s.setup.diagnosis_len h.diagnosis_counts.count i
      ∷ none_or_holds 6 d.delayed_count s.setup.diagnosis_len h.diagnosis_counts.delayed i
      ∷ set_counts_holds 7 s.setup.parameter_len s.parameters h.parameter_counts i
      ∷ set_counts_holds 1 s.setup.configuration_len s.configuration h.configuration_counts i
      ∷ true
      ∷ true
      ∷ [])

  -- the counts of the telegram and of the reply pass
  line_well : all (line_tests (image s ++ r)) ≡ true
  unfolding image
  line_well =
      let a = s.incoming.reader in
      let b = s.reply.sender in
      λ i.
      all
      (le-leb a.count 246 h.reading.count i
      ∷ part_holds 9 (reading_number a.phase) a.count a.at (reading_before a.phase) h.reading.read h.reading.none_yet i
      ∷ le-leb b.count 246 h.sending.count i
      ∷ part_holds 7 (stage_number b.stage) b.count b.at (stage_before b.stage) h.sending.sent h.sending.none_yet i
      ∷ [])

  -- it passes the tests
  pub image_well : well_image (image s ++ r) ≡ true
  unfolding image well_image
  image_well = λ i. all (counts_well i ∷ line_well i ∷ codes_well i ∷ lengths_well i ∷ [])

-- a memory whose first octets are the image of a sound state passes the tests
pub front_well : (m : List ℕ) (s : State) → Sound s → image s ≡ take image_length m → well_image m ≡ true
front_well m s h e =
    let rest = drop image_length m in
    subst (λ (l : List ℕ). well_image l ≡ true) (ap (λ (l : List ℕ). l ++ rest) e ∙ take-append-drop image_length m) (image_well s h rest)

-- the octets at their limits, from the test of the codes
code_at : (m : List ℕ) → all (code_tests m) ≡ true → (k : ℕ) → get_or (code_tests m) k true ≡ true
code_at m h k = all_at (code_tests m) k h

-- the lengths, from the test of their word
pub lengths_in_lem : (m : List ℕ) → all (lengths_tests m) ≡ true → all (length_tests (setup_in m 0)) ≡ true
lengths_in_lem m h = all_behind (leb (get_or m 55 0) 127) (length_tests (setup_in m 0)) (all_behind (leb (get_or m 54 0) 17) (leb (get_or m 55 0) 127 ∷ length_tests (setup_in m 0)) h)

-- octets that pass the tests hold a sound state
pub image_sound : (m : List ℕ) → well_image m ≡ true → Sound (unpacked m)
unfolding well_image unpacked
image_sound m h =
    let counts = all_at (image_tests m) 0 h in
    let line = all_at (image_tests m) 1 h in
    let codes = all_at (image_tests m) 2 h in
    let reading =
    part_true 9 (get_or m 31 0) (get_or m 32 0) (get_or m 33 0) (reading_numbered_lem (get_or m 31 0) (leb-true (get_or m 31 0) 12 (code_at m codes 15)))
    (all_at (line_tests m) 1 line)
    in
    let sending =
    part_true 7 (get_or m 17 0) (get_or m 14 0) (get_or m 15 0) (stage_numbered_lem (get_or m 17 0) (leb-true (get_or m 17 0) 10 (code_at m codes 1)))
    (all_at (line_tests m) 3 line)
    in
    record {
      setup = tests_ranged (setup_in m (word_at m 42)) (leb-true (get_or m 20 0) 126 (code_at m codes 4)) (lengths_in_lem m (all_at (image_tests m) 3 h));
      outputs = places4_permutation (get_or m 22 0);
      inputs = places_permutation (get_or m 23 0 / 2);
      parameters = places_permutation (get_or m 24 0);
      configuration = places_permutation (get_or m 25 0);
      parameter_counts = set_counts_true 7 (get_or m 50 0) _ (all_at (count_tests m) 2 counts) refl;
      configuration_counts = set_counts_true 1 (get_or m 51 0) _ (all_at (count_tests m) 3 counts) refl;
      diagnosis_counts = record {
        count = within_true 6 (get_or m 56 0) (get_or m 52 0) (all_at (count_tests m) 0 counts);
        delayed = none_or_true 6 (get_or m 57 0) (get_or m 52 0) (all_at (count_tests m) 1 counts);
        flags = leb-true (get_or m 26 0) 7 (code_at m codes 10);
      };
      chain_code = leb-true (get_or m 54 0) 17 (all_at (lengths_tests m) 0 (all_at (image_tests m) 3 h));
      chain_master = leb-true (get_or m 55 0) 127 (all_at (lengths_tests m) 1 (all_at (image_tests m) 3 h));
      reading = record { count = leb-true (get_or m 32 0) 246 (all_at (line_tests m) 0 line); read = reading.0; none_yet = reading.1 };
      sending = record { count = leb-true (get_or m 14 0) 246 (all_at (line_tests m) 2 line); sent = sending.0; none_yet = sending.1 };
      place = leb-true (get_or m 19 0) 3 (code_at m codes 3);
    }

-- n octets from i on, one by one
abbrev spread : List ℕ → ℕ → ℕ → List ℕ
spread m i zero = []
spread m i (suc n) = get_or m i 0 ∷ spread m (suc i) n

-- they are what `take` gives
take_spread : (m : List ℕ) (i n : ℕ) → i + n ≤ length m → take n (drop i m) ≡ spread m i n
take_spread m i zero h = refl
take_spread m i (suc n) h =
    ap (take (suc n)) (drop-cons m i 0 (omega arith)) ∙ ap (λ (l : List ℕ). get_or m i 0 ∷ l) (take_spread m (suc i) n (omega arith))

-- the low octet of a word
low_at : (m : List ℕ) (i : ℕ) → get_or m i 0 < 256 → word_at m i % 256 ≡ get_or m i 0
low_at m i h = omega arith

-- the high octet of a word
high_at : (m : List ℕ) (i : ℕ) → get_or m i 0 < 256 → word_at m i / 256 ≡ get_or m (i + 1) 0
high_at m i h = omega arith

-- the octets of a double word
double_at_lem : (m : List ℕ) → ((i : ℕ) → get_or m i 0 < 256) → (i : ℕ)
    → double_octets (double_at m i) ≡ get_or m i 0 ∷ get_or m (i + 1) 0 ∷ get_or m (i + 2) 0 ∷ get_or m (i + 2 + 1) 0 ∷ []
double_at_lem m small i =
    let a = small i in
    let b = small (i + 1) in
    let c = small (i + 2) in
    let low : low_word (double_at m i) ≡ word_at m i = omega arith in
    let high : high_word (double_at m i) ≡ word_at m (i + 2) = omega arith in
    (λ j. low j % 256 ∷ low j / 256 ∷ high j % 256 ∷ high j / 256 ∷ [])
    ∙ (λ j. low_at m i a j ∷ high_at m i a j ∷ low_at m (i + 2) c j ∷ high_at m (i + 2) c j ∷ [])

-- a mark
mark_at : (m : List ℕ) (i : ℕ) → leb (get_or m i 0) 1 ≡ true → bit_of (eqb (get_or m i 0) 1) ≡ get_or m i 0
mark_at m i e = mark_coded (get_or m i 0) (leb-true (get_or m i 0) 1 e)

-- the roles of a set of four
role4_at : (m : List ℕ) (i : ℕ) → leb (get_or m i 0) 23 ≡ true → number_of4 (places_of4 (get_or m i 0)) ≡ get_or m i 0
role4_at m i e = let h = leb-true (get_or m i 0) 23 e in number4_places (get_or m i 0) (omega arith)

-- the roles of a set of three
role_at : (m : List ℕ) (i : ℕ) → leb (get_or m i 0) 5 ≡ true → number_of (places_of (get_or m i 0)) ≡ get_or m i 0
role_at m i e = let h = leb-true (get_or m i 0) 5 e in number_places (get_or m i 0) (omega arith)

-- an octet that is not used
zero_at : (m : List ℕ) (i : ℕ) → eqb (get_or m i 0) 0 ≡ true → 0 ≡ get_or m i 0
zero_at m i e = sym (eqb-true (get_or m i 0) 0 e)

-- the image of the state that they hold, octet by octet
image_spread : (m : List ℕ) → ((i : ℕ) → get_or m i 0 < 256) → well_image m ≡ true → image (unpacked m) ≡ spread m 0 image_length
unfolding image well_image unpacked
image_spread m small h =
    let counts = all_at (image_tests m) 0 h in
    let codes = code_at m (all_at (image_tests m) 2 h) in
    λ i.
    spread m 0 3
    ++ sum_marks (get_or m 3 0) (small 3) i
    ∷ low_at m 4 (small 4) i
    ∷ high_at m 4 (small 4) i
    ∷ spread m 6 10
    ++ kind_counted (get_or m 16 0) (leb-true (get_or m 16 0) 3 (codes 0)) i
    ∷ stage_counted (get_or m 17 0) (leb-true (get_or m 17 0) 10 (codes 1)) i
    ∷ drawn_counted (get_or m 18 0) (leb-true (get_or m 18 0) 8 (codes 2)) i
    ∷ spread m 19 2
    ++ phase_counted (get_or m 21 0) (leb-true (get_or m 21 0) 2 (codes 5)) i
    ∷ role4_at m 22 (codes 6) i
    ∷ inputs_coded (get_or m 23 0) (leb-true (get_or m 23 0) 11 (codes 7)) i
    ∷ role_at m 24 (codes 8) i
    ∷ role_at m 25 (codes 9) i
    ∷ get_or m 26 0
    ∷ modes_coded (get_or m 27 0) (leb-true (get_or m 27 0) 15 (codes 11)) i
    ∷ mark_at m 28 (codes 12) i
    ∷ marks_coded (get_or m 22 0) (get_or m 29 0) (leb-true (get_or m 29 0) 7 (codes 13)) i
    ∷ kind_counted (get_or m 30 0) (leb-true (get_or m 30 0) 3 (codes 14)) i
    ∷ reading_counted (get_or m 31 0) (leb-true (get_or m 31 0) 12 (codes 15)) i
    ∷ spread m 32 10
    ++ low_at m 42 (small 42) i
    ∷ high_at m 42 (small 42) i
    ∷ double_at_lem m small 44 i
    ++ spread m 48 14
    ++ zero_at m 62 (all_at (count_tests m) 4 counts) i
    ∷ zero_at m 63 (all_at (count_tests m) 5 counts) i
    ∷ double_at_lem m small 64 i

-- octets that pass the tests are the image of the state that they hold
pub well_image_lem : (m : List ℕ) → image_length ≤ length m → ((i : ℕ) → get_or m i 0 < 256) → well_image m ≡ true → image (unpacked m) ≡ take image_length m
well_image_lem m long small h = image_spread m small h ∙ sym (take_spread m 0 image_length long)
