-- Demand 1: what is promised of every call and of Start on any memory, well or damaged. That each call has an answer, and which, and
-- that the exported functions give it with no condition on the caller, are their contracts (card/src/lib.rt), which cite `called`
-- and `started`.
use Rattle.std.specs.Prelude.{ℕ, ◌+◌, ◌-◌, ◌%◌, ◌≤◌, ◌<◌, ◌≡◌, List, ◌↔◌, ◌⊎◌, length, drop, get_or, Ok, Err}
use Rattle.octets.specs.Part.{part}
use Rattle.telegram.specs.Telegram.{Octets}
use Rattle.channels.specs.Image.{channels, channels_at, rows_end, loaded}
use Rattle.channels.specs.Rules.{LengthsOk}
use Rattle.channels.specs.Places.{indication, response}
use Rattle.channels.specs.Setting.{length_octets, lengths_given, free}
use Rattle.buffers.specs.Events.{SmallestSet}
use Rattle.state.specs.declared.answer.Refusal.{Refusal}
use Rattle.state.specs.declared.answer.Refusal.TheVariants.{Damaged}
use Rattle.state.specs.declared.setup.Setup.{Setup}
use Rattle.state.specs.declared.state.State.{State}
use Rattle.state.specs.Answer.{Answer, answer_number}
use Rattle.state.specs.Image.{image}
use Rattle.state.specs.Layout.{state_length, image_length, get_cfg_at, end_of, last_end}
use Rattle.state.specs.Start.{initial_state}
use Rattle.state.specs.Memory.{Holds}
use Rattle.state.specs.Sound.{Within, Ranged, Sound}
use Rattle.rules.specs.Call.{Call, events, pending}
use Rattle.steps.specs.Step.{step}
use Rattle.steps.specs.Calls.{started, called}

-- "1,536 to 4,096 octets, a multiple of 8", since document 02, Req 08, "up to 16,384 octets"
pub record LengthIn (n : ℕ) : Type 0 where
  pub within : Within 1536 n 16384
  pub by_8 : n % 8 ≡ 0

-- a memory that nobody damaged: it has such a length, and holds a state whose roles, lengths and counts keep the rules
pub record Undamaged (m : List ℕ) : Type 0 where
  pub length_in : LengthIn (length m)
  pub state : State
  pub holds : Holds m state

-- the lengths of the channels: two octets for each of sixteen, 0 and 0 or both 4 to 240
pub record ChannelLengths (lengths : List ℕ) : Type 0 where
  pub octets : length lengths ≡ length_octets
  pub pairs : (n : ℕ) → n < channels → LengthsOk (lengths_given lengths n indication) (lengths_given lengths n response)

-- what Start is given keeps the rules: the memory's length, address and lengths in their ranges, the buffers end in the memory
pub record Begins (m : List ℕ) (s : Setup) (lengths : List ℕ) : Type 0 where
  pub length_in : LengthIn (length m)
  pub ranged : Ranged s
  pub channel_lengths : ChannelLengths lengths
  pub room : last_end (lengths_given lengths) s ≤ length m

-- the damage check: a call on a memory of octets answers 5 exactly if the memory is damaged, and Start never does
pub record DamageCheck : Type 0 where
  pub exactly : (m : List ℕ) (c : Call) → Octets m → ((called m c).answer ≡ Err Damaged) ↔ ¬ Undamaged m
  pub not_by_start : (m : List ℕ) (s : Setup) (slice lengths : List ℕ) → ¬ ((started m s slice lengths).answer ≡ Err Damaged)

-- "each leaves memory unchanged": a refusal of a call, and of Start
pub record RefusalsLeave : Type 0 where
  pub of_call : (m : List ℕ) (c : Call) (why : Refusal) → (called m c).answer ≡ Err why → (called m c).memory ≡ m
  pub of_start : (m : List ℕ) (s : Setup) (slice lengths : List ℕ) (why : Refusal) → (started m s slice lengths).answer ≡ Err why
      → (started m s slice lengths).memory ≡ m

-- every call leads from every state whose roles, lengths and counts keep the rules to such a state, reached or not
abbrev pub SoundKept : Type 0
SoundKept = (s : State) (m : List ℕ) (c : Call) → Sound s → Sound (step s m c).state

-- so no call damages a memory, whatever led to it
abbrev pub StaysUndamaged : Type 0
StaysUndamaged = (m : List ℕ) (c : Call) → Undamaged m → Undamaged (called m c).memory

-- what a call leaves as it was, from m with the state s to n: of the state part all but the image, so the channels and the octets that belong to
-- no field; and everything behind the buffers, those of the channels among it
pub record LeavesRest (m : List ℕ) (s : State) (n : List ℕ) : Type 0 where
  pub state_part : part n image_length (state_length - image_length) ≡ part m image_length (state_length - image_length)
  pub behind : (a k : ℕ) → end_of s.setup ≤ a → part n a k ≡ part m a k

-- so does every call
abbrev pub RestStays : Type 0
RestStays = (m : List ℕ) (c : Call) (u : Undamaged m) → LeavesRest m u.state (called m c).memory

-- what Start leaves of m: the first state; channel k with the lengths that it was given, and free; the slice; zeros in every other octet up to the
-- end of the last buffer; and behind it nothing changes
pub record Laid (m n : List ℕ) (s : Setup) (slice lengths : List ℕ) : Type 0 where
  pub holds : Holds n (initial_state s)
  pub channels_are : (k : ℕ) → k < channels → loaded n k ≡ free lengths k
  pub slice_is : part n (get_cfg_at s) (length slice) ≡ slice
  pub zeros_are : (i : ℕ) → image_length ≤ i → i < last_end (lengths_given lengths) s → (i < channels_at) ⊎ (rows_end ≤ i)
      → (i < get_cfg_at s) ⊎ (get_cfg_at s + length slice ≤ i) → get_or n i 0 ≡ 0
  pub behind_is : drop (last_end (lengths_given lengths) s) n ≡ drop (last_end (lengths_given lengths) s) m

-- so it is of every Start that answers 0
abbrev pub StartLays : Type 0
StartLays =
    (m : List ℕ) (s : Setup) (slice lengths : List ℕ) → s.get_cfg_len ≡ length slice → (started m s slice lengths).answer ≡ Ok 0
    → Laid m (started m s slice lengths).memory s slice lengths

-- Start answers 0 exactly if what it is given keeps the rules
abbrev pub StartAnswersZero : Type 0
StartAnswersZero = (m : List ℕ) (s : Setup) (slice lengths : List ℕ) → ((started m s slice lengths).answer ≡ Ok 0) ↔ Begins m s lengths

-- "one image per state": no two states that keep the rules have one image
abbrev pub OneImage : Type 0
OneImage = (s t : State) → Sound s → Sound t → image s ≡ image t → s ≡ t

-- "told apart from every answer": no two answers have one number
abbrev pub NumbersApart : Type 0
NumbersApart = (a b : Answer) → answer_number a ≡ answer_number b → a ≡ b

-- what Events and Pending do on a memory that holds the state s (document 02, Req 06)
pub record EventsTold (m : List ℕ) (s : State) : Type 0 where
  -- Events answers the event word
  pub word : (called m events).answer ≡ Ok s.control.events.word
  -- Pending answers the smallest number of an event that is set in it, or 16 if none is, and nothing else
  pub smallest : (n : ℕ) → ((called m pending).answer ≡ Ok n) ↔ SmallestSet s.control.events.word n
  -- neither changes anything
  pub events_leaves : (called m events).memory ≡ m
  pub pending_leaves : (called m pending).memory ≡ m

-- all of it
pub record Demand1 : Type 0 where
  pub damage_check : DamageCheck
  pub refusals_leave : RefusalsLeave
  pub start_answers : StartAnswersZero
  pub start_lays : StartLays
  pub one_image : OneImage
  pub numbers_apart : NumbersApart
  pub sound_kept : SoundKept
  pub stays_undamaged : StaysUndamaged
  pub rest_stays : RestStays
  pub events_told : (m : List ℕ) (u : Undamaged m) → EventsTold m u.state
