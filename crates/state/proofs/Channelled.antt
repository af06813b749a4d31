-- The channels of a memory stay sound where their rows stay as they are.
use Prim.Native.Nat.{ℕ, ◌+◌, ◌≤◌}
use native.Mathlib.Omega.{arith}
use mathlib.Core.Path.{◌≡◌, sym, subst, ap}
use mathlib.Core.List.{List}
use lib.ListN.{length}
use Rattle.octets.specs.Part.{part}
use Rattle.channels.specs.Image.{channels_at, rows_length}
use Rattle.channels.specs.Rules.{Sound}
use Rattle.channels.specs.Places.{lengths_in}
use Rattle.channels.proofs.Same.{loaded_same, room_same}
use Rattle.state.specs.declared.setup.Setup.{Setup}
use Rattle.state.specs.declared.state.State.{State}
use Rattle.state.specs.Layout.{state_length, end_of, last_end}
use Rattle.state.specs.Memory.{kept, Channelled}
use Rattle.state.proofs.Front.{kept_part, kept_length}
use Rattle.state.proofs.Places.{end_behind, last_behind}

-- the other buffers end in the memory
pub channelled_room : {m : List ℕ} {s : Setup} → Channelled m s → end_of s ≤ length m
channelled_room {m} {s} h = let u = last_behind (lengths_in m) s in let v = h.ends in omega arith

-- so it has room for the state part
pub channelled_long : {m : List ℕ} {s : Setup} → Channelled m s → state_length ≤ length m
channelled_long {m} {s} h = let u = channelled_room h in let v = end_behind s in omega arith

-- the rows of the channels
abbrev pub rows_of : List ℕ → List ℕ
rows_of m = part m channels_at rows_length

-- a memory as long with the same rows
pub channelled_same : {s : Setup} (m n : List ℕ) → length n ≡ length m → rows_of n ≡ rows_of m → Channelled m s → Channelled n s
unfolding last_end
channelled_same {s} m n long same h = record {
  each = λ k b. subst Sound (sym (loaded_same n m same k b)) (h.each k b);
  ends = rw (long, ap (λ (x : ℕ). end_of s + x) (room_same n m same)) h.ends;
}

-- packing the state in front leaves them
pub kept_channelled : (t : State) (m : List ℕ) (s : Setup) → Channelled m s → Channelled (kept t m) s
kept_channelled t m s h =
    let long = channelled_long h in
    channelled_same m (kept t m) (kept_length t m (omega arith)) (kept_part t m channels_at rows_length (omega arith)) h
