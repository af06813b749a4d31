-- Behind a setup that is laid out station and ledger agree.
use Prim.Native.Nat.{ℕ, ◌≤◌}
use native.Mathlib.Omega.{arith}
use mathlib.Core.Path.{◌≡◌, refl, ap, ◌∙◌}
use mathlib.Core.Bool.{true}
use mathlib.Core.List.{List, []}
use lib.ListN.{length}
use Rattle.buffers.proofs.Triples.{initial_permutation}
use Rattle.buffers.proofs.Quads as quads
use Rattle.octets.specs.Part.{part}
use Rattle.telegram.specs.Sending.{empty}
use Rattle.telegram.proofs.Run.{no_true, off_broken}
use Rattle.telegram.proofs.Sends.{none}
use Rattle.state.specs.declared.setup.Setup.{Setup}
use Rattle.state.specs.Layout.{output_row, input_row, diagnosis_row, get_cfg_at, last_end}
use Rattle.channels.specs.Setting.{lengths_given, lengths_ok}
use Rattle.state.specs.Sound.{Ranged}
use Rattle.state.specs.Start.{initial_state, laid_out}
use Rattle.state.proofs.LaidOut.{laid_holds, laid_zeros, laid_slice}
use Rattle.state.proofs.Channelled.{channelled_room}
use Rattle.steps.specs.Reading.{is_ignored}
use Rattle.ledger.specs.Ledger.{fresh}
use Rattle.agreement.proofs.Relation.{Agrees}
use Rattle.agreement.proofs.Steady.{ReplySteady, Related}
use Rattle.agreement.proofs.CallsKeepSteady.{fresh_steady}
use Rattle.agreement.proofs.LineStays.{ignored_agrees}

module _ (m : List ℕ) (s : Setup) (slice lengths : List ℕ) (long : s.get_cfg_len ≡ length slice)
    (room : last_end (lengths_given lengths) s ≤ length m) (ranged : Ranged s) (ok : lengths_ok lengths ≡ true) where
  pub start_agrees : Agrees (initial_state s) (laid_out m s slice lengths) (fresh s slice)
  unfolding initial_state
  start_agrees =
      let zeros = laid_zeros m s slice lengths long room in
      record {
        setup = refl;
        control = refl;
        outputs = record { held = zeros output_row 2 (omega arith) (omega arith); next = zeros output_row 1 (omega arith) (omega arith); back = λ e. no_true e; fresh = refl; zeros = refl; withheld = refl };
        inputs = record {
          sending = zeros input_row 0 (omega arith) (omega arith);
          next = zeros input_row 1 (omega arith) (omega arith);
          held = zeros input_row 2 (omega arith) (omega arith);
          fresh = refl;
        };
        parameters = record { shown = refl; waiting = refl; shown_count = refl; waiting_count = refl; fresh = refl };
        configuration = record { shown = refl; waiting = refl; shown_count = refl; waiting_count = refl; fresh = refl };
        diagnosis = record { own = zeros diagnosis_row 0 (omega arith) (omega arith); user = zeros diagnosis_row 1 (omega arith) (omega arith) };
        slice = ap (λ (n : ℕ). part (laid_out m s slice lengths) (get_cfg_at s) n) long ∙ laid_slice m s slice lengths long room;
        reading = ignored_agrees (ap is_ignored off_broken) refl refl;
        reply = ([], record { count = refl; octets = λ k g. absurd (omega arith); unsent = none empty [] refl; diagnosis = refl });
        safe = record {
          outputs = quads.initial_permutation;
          inputs = initial_permutation;
          parameters = initial_permutation;
          configuration = initial_permutation;
          reply = omega arith;
          long = ranged.parameter_len.0;
          room = channelled_room (laid_holds m s slice lengths long room ranged ok).room;
          channels = (laid_holds m s slice lengths long room ranged ok).room;
        };
      }

  no_reply_lem : ReplySteady (initial_state s)
  unfolding initial_state
  no_reply_lem w h = no_true h

  -- and all that is known between two calls holds
  pub start_related : Related (initial_state s) (laid_out m s slice lengths) (fresh s slice)
  start_related = record { agrees = start_agrees; steady = fresh_steady s slice ranged.diagnosis_len.0; reply_steady = no_reply_lem }
