-- Where the buffers lie behind the state part. What a channel has in the state part is the crate channels'.
use Rattle.std.specs.Prelude.{ℕ, zero, suc, ◌+◌, ◌*◌, ◌≡◌, List, [], ◌∷◌, length, get_or}
use Rattle.octets.specs.Part.{rounded_up}
use Rattle.channels.specs.Places.{indication, response, Lengths, room_of}
use Rattle.state.specs.declared.setup.Setup.{Setup}

-- "the state part 512" (document 02, Req 08)
abbrev pub state_length : ℕ
state_length = 512

-- so many of its octets are the image of the state but for the channels, whose rows lie behind it (crate channels, Image.antt). The octets
-- that belong to no field are no part of an image: no call but Start, which zeroes them, reads or changes them
abbrev pub image_length : ℕ
image_length = 68

-- the rows of buffers, in their order: the buffers of one use, one after the other
abbrev pub output_row : ℕ
output_row = 0

abbrev pub input_row : ℕ
input_row = 1

abbrev pub parameter_row : ℕ
parameter_row = 2

abbrev pub configuration_row : ℕ
configuration_row = 3

abbrev pub diagnosis_row : ℕ
diagnosis_row = 4

abbrev pub get_cfg_row : ℕ
get_cfg_row = 5

-- "three output buffers, three input, three parameter, three configuration, two diagnosis, one Get_Cfg", and "The output set gets a
-- fourth buffer" (document 02, Req 01)
abbrev pub row_counts : List ℕ
row_counts = 4 ∷ 3 ∷ 3 ∷ 3 ∷ 2 ∷ 1 ∷ []

-- how many buffers there are of a row
abbrev pub row_count : ℕ → ℕ
row_count row = get_or row_counts row 0

-- how long a buffer of a row is
abbrev pub row_length : Setup → ℕ → ℕ
row_length s row =
    get_or (s.output_len ∷ s.input_len ∷ s.parameter_len ∷ s.configuration_len ∷ s.diagnosis_len ∷ s.get_cfg_len ∷ [])
    row 0

-- the buffers of a row lie one after the other from a base on
abbrev pub place_at : ℕ → ℕ → ℕ → ℕ
place_at base n k = base + rounded_up n * k

-- the first row begins behind the state, every other behind the one before it
unfoldable pub row_base : Setup → ℕ → ℕ
row_base s zero = state_length
row_base s (suc row) = place_at (row_base s row) (row_length s row) (row_count row)

-- where buffer k of a row begins
unfoldable pub start_of : Setup → ℕ → ℕ → ℕ
start_of s row k = place_at (row_base s row) (row_length s row) k

-- by the names of the rows
abbrev pub outputs_at : Setup → ℕ → ℕ
outputs_at s k = start_of s output_row k

abbrev pub inputs_at : Setup → ℕ → ℕ
inputs_at s k = start_of s input_row k

abbrev pub parameters_at : Setup → ℕ → ℕ
parameters_at s k = start_of s parameter_row k

abbrev pub configuration_at : Setup → ℕ → ℕ
configuration_at s k = start_of s configuration_row k

abbrev pub diagnosis_at : Setup → ℕ → ℕ
diagnosis_at s k = start_of s diagnosis_row k

-- the one buffer for Get_Cfg
abbrev pub get_cfg_at : Setup → ℕ
get_cfg_at s = row_base s get_cfg_row

-- where the last one ends, and the channels' buffers begin
abbrev pub end_of : Setup → ℕ
end_of s = row_base s (length row_counts)

-- where those end: "an indication and a response buffer .. beside the present ones" (document 02, Req 08)
unfoldable pub last_end : Lengths → Setup → ℕ
last_end z s = end_of s + room_of z

-- all six lengths n
abbrev pub all_lengths : ℕ → Setup
all_lengths n =
    record {
      address = 0;
      ident = 0;
      output_len = n;
      input_len = n;
      parameter_len = n;
      configuration_len = n;
      diagnosis_len = n;
      get_cfg_len = n;
    }

-- sixteen channels with both buffers of n octets
abbrev pub all_channels : ℕ → Lengths
all_channels n k side = n

-- one channel, with buffers of a and b octets
abbrev pub one_channel : ℕ → ℕ → Lengths
one_channel a b zero indication = a
one_channel a b zero response = b
one_channel a b (suc n) side = 0

-- where document 01 and Req 01 name the ends, those grow by the longer state part; 64 are the most that fit in 1,536
pub record BuffersEnd : Type 0 where
  pub all_64 : end_of (all_lengths 64) ≡ 1536
  pub all_96 : end_of (all_lengths 96) ≡ 2048
  pub all_97 : end_of (all_lengths 97) ≡ 2176
  pub all_244 : end_of (all_lengths 244) ≡ 4480
  pub with_channels : last_end (all_channels 240) (all_lengths 244) ≡ 12160
  pub with_one : last_end (one_channel 4 9) (all_lengths 64) ≡ 1560
