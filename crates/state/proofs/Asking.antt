-- The ranges of a setup as tests and as facts, and that Start accepts a setup exactly if it is in them.
use Rattle.std.specs.Prelude.{Ok, Err}
use Prim.Native.Nat.{ℕ, ◌≤◌}
use native.Mathlib.Omega.{arith}
use mathlib.Core.Path.{◌≡◌, refl}
use mathlib.Core.Bool.{Bool, true, false, not, cond, ◌&&◌}
use mathlib.Core.List.{List, [], ◌∷◌}
use lib.Dec.{ltb}
use borrow.Author.Tests.{leb-true, le-leb, ltb-false, le-ltb}
use Rattle.channels.specs.Setting as channel
use Rattle.state.specs.declared.answer.Refusal.TheVariants.{Address, Length}
use Rattle.state.specs.declared.setup.Setup.{Setup}
use Rattle.state.specs.Sound.{Ranged}
use Rattle.state.specs.Start.{lengths_ok, asked}
use Rattle.state.specs.Well.{all, length_tests}
use Rattle.state.proofs.Choice.{and_left, and_right}
use Rattle.state.proofs.Tests.{all_at, within_true, within_holds, not_both_true, not_both_holds}

pub tests_ranged : (s : Setup) → s.address ≤ 126 → all (length_tests s) ≡ true → Ranged s
tests_ranged s a e =
    record {
      address = a;
      output_len = leb-true s.output_len 244 (all_at (length_tests s) 1 e);
      input_len = leb-true s.input_len 244 (all_at (length_tests s) 2 e);
      not_both_none = not_both_true s.output_len s.input_len (all_at (length_tests s) 0 e);
      parameter_len = within_true 7 s.parameter_len 244 (all_at (length_tests s) 3 e);
      configuration_len = within_true 1 s.configuration_len 244 (all_at (length_tests s) 4 e);
      diagnosis_len = within_true 6 s.diagnosis_len 244 (all_at (length_tests s) 5 e);
      get_cfg_len = within_true 1 s.get_cfg_len 244 (all_at (length_tests s) 6 e);
    }

pub lengths_ranged : (s : Setup) → s.address ≤ 126 → lengths_ok s ≡ true → Ranged s
unfolding lengths_ok
lengths_ranged s a e = tests_ranged s a e

-- and back
pub lengths_hold : (s : Setup) → Ranged s → all (length_tests s) ≡ true
lengths_hold s r =
    λ i.
    all
    (not_both_holds s.output_len s.input_len r.not_both_none i
    ∷ le-leb s.output_len 244 r.output_len i
    ∷ le-leb s.input_len 244 r.input_len i
    ∷ within_holds 7 s.parameter_len 244 r.parameter_len i
    ∷ within_holds 1 s.configuration_len 244 r.configuration_len i
    ∷ within_holds 6 s.diagnosis_len 244 r.diagnosis_len i
    ∷ within_holds 1 s.get_cfg_len 244 r.get_cfg_len i
    ∷ [])

-- what is accepted is what was given, in its ranges
pub record Accepts (s t : Setup) (lengths : List ℕ) : Type 0 where
  pub same : t ≡ s
  pub ranged : Ranged s
  pub channels : channel.lengths_ok lengths ≡ true

pub accepts : (s t : Setup) (lengths : List ℕ) → asked s lengths ≡ Ok t → Accepts s t lengths
unfolding asked
accepts s t lengths h = go (ltb 126 s.address) refl (lengths_ok s && channel.lengths_ok lengths) refl h
  where
    go : (p : Bool) → ltb 126 s.address ≡ p → (q : Bool) → (lengths_ok s && channel.lengths_ok lengths) ≡ q
        → cond p (Err Address) (cond (not q) (Err Length) (Ok s)) ≡ Ok t → Accepts s t lengths
    go true e q f g = absurd (let z : ◌≡◌ {A = ℕ} 0 1 = cc in omega arith)
    go false e false f g = absurd (let z : ◌≡◌ {A = ℕ} 0 1 = cc in omega arith)
    go false e true f g = record {
      same = cc;
      ranged = lengths_ranged s (ltb-false 126 s.address e) (and_left (lengths_ok s) (channel.lengths_ok lengths) f);
      channels = and_right (lengths_ok s) (channel.lengths_ok lengths) f;
    }

-- and what is in its ranges is accepted
pub ranged_asked : (s : Setup) (lengths : List ℕ) → Ranged s → channel.lengths_ok lengths ≡ true → asked s lengths ≡ Ok s
unfolding asked lengths_ok
ranged_asked s lengths r c = simp (le-ltb 126 s.address r.address, lengths_hold s r, c)
