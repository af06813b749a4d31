-- One step over a memory that holds a state does what the ledger does, and the memory holds the state after it.
use Prim.Native.Nat.{ℕ, ◌≤◌}
use mathlib.Core.Path.{◌≡◌, ap, subst, ◌∙◌}
use mathlib.Core.List.{List}
use lib.ListN.{length}
use Rattle.state.specs.Answer.{Answer}
use Rattle.state.specs.declared.state.State.{State}
use Rattle.state.specs.Memory.{Holds, kept}
use Rattle.state.specs.Layout.{image_length}
use Rattle.state.specs.Sound.{Ranged}
use Rattle.state.proofs.Damage.{kept_holds}
use Rattle.state.proofs.Front.{kept_length}
use Rattle.ledger.specs.Ledger.{Ledger}
use Rattle.ledger.specs.Calls as ledger
use Rattle.rules.specs.Call.{Call}
use Rattle.steps.specs.Stepped.{Told}
use Rattle.steps.specs.Step.{step, step_over}
use Rattle.agreement.proofs.Steady.{Related}
use Rattle.agreement.proofs.EveryCallAgrees.{Follows, all_follow}
use Rattle.agreement.proofs.PackedAgrees.{kept_agrees}
use Rattle.steps.proofs.Holding.{step_whole}
use Rattle.steps.proofs.KeepsSetup.{step_keeps}
use Rattle.steps.proofs.KeepsSound.{step_sound}

-- the memory m holds the state s, which the ledger l is about
pub record On (m : List ℕ) (s : State) (l : Ledger) : Type 0 where
  pub holds : Holds m s
  pub related : Related s m l

-- what a call's step over the memory does
pub record Does (m : List ℕ) (l : Ledger) (c : Call) : Type 0 where
  pub memory_after_lem : List ℕ
  pub state_after : State
  pub tells : step_over m c ≡ record { answer = (ledger.step l c).answer; memory = memory_after_lem }
  pub same_length : length memory_after_lem ≡ length m
  pub again : On memory_after_lem state_after (ledger.step l c).ledger

module _ (m : List ℕ) (s : State) (l : Ledger) (o : On m s l) (c : Call) where
  t : Told
  t = step s m c

  follow : Follows s m l c
  follow = all_follow o.related (subst Ranged o.related.agrees.setup o.holds.sound.setup) c

  after_length : length t.memory ≡ length m
  unfolding t
  after_length = (step_keeps s m o.related.agrees.safe c).length_is

  long : image_length ≤ length t.memory
  long = rw after_length o.holds.long

  -- the state is packed in front again
  packs : On (kept t.state t.memory) t.state (ledger.step l c).ledger
  unfolding t
  packs =
      let r = follow.again in
      record {
        holds = kept_holds t.state t.memory (step_sound s m c o.holds.sound) r.agrees.safe.channels;
        related = record { agrees = kept_agrees long r.agrees; steady = r.steady; reply_steady = r.reply_steady };
      }

  pub does : Does m l c
  unfolding t
  does = record {
    memory_after_lem = kept t.state t.memory;
    state_after = t.state;
    tells = step_whole m s c o.holds ∙ ap (λ (a : Answer). record { answer = a; memory = kept t.state t.memory }) follow.matches.answers;
    same_length = kept_length t.state t.memory long ∙ after_length;
    again = packs;
  }
