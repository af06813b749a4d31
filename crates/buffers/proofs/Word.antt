-- The event word after its operations, event by event.
use Prim.Native.Nat.{ℕ, ◌^◌, ◌<◌}
use mathlib.Core.Path.{◌≡◌, refl, ap, ◌∙◌}
use mathlib.Core.Bool.{Bool, true, false, not, cond, ◌&&◌, ◌||◌, and-true, and-false, or-true, or-false}
use lib.Dec.{eqb, ltb}
use borrow.Author.Tests.{eq-eqb, ne_eqb, lt-ltb}
use Rattle.buffers.specs.declared.events.Events.{Events}
use Rattle.buffers.specs.Events.{width, configuration_event, parameters_event, kept_events, bit, without, no_events, only, raised, cleared, acknowledged, AcknowledgeClears}
use Rattle.buffers.proofs.Bits.{bit_or_lem, bit_without, bit_zero, bit_power}

-- ---- event by event

-- no event is set
pub none_bit : (n : ℕ) → bit no_events.word n ≡ false
none_bit n = bit_zero n

-- whether k is the number n and the word has a bit for it
abbrev pub names : ℕ → ℕ → Bool
names k n = ltb k width && eqb k n

-- that event alone is set
pub only_bit : (k n : ℕ) → bit (only k).word n ≡ names k n
only_bit k n = go (ltb k width)
  where
    go : (t : Bool) → bit (cond t (2 ^ k) 0) n ≡ (t && eqb k n)
    go true = bit_power k n
    go false = bit_zero n

-- the event raised, and those that were set
pub raised_bit : (e : Events) (k n : ℕ) → bit (raised e k).word n ≡ (bit e.word n || names k n)
raised_bit e k n = bit_or_lem e.word (only k).word n ∙ ap (λ t. bit e.word n || t) (only_bit k n)

-- those that were set, without the event cleared
pub cleared_bit : (e : Events) (k n : ℕ) → bit (cleared e k).word n ≡ (bit e.word n && not (names k n))
cleared_bit e k n = bit_without e.word (only k).word n ∙ ap (λ t. bit e.word n && not t) (only_bit k n)

-- a number names itself
names_same : (n : ℕ) → n < width → names n n ≡ true
names_same n h = ap (λ t. t && eqb n n) (lt-ltb n width h) ∙ eq-eqb n n refl

-- and no other
names_other : (k n : ℕ) → (k ≡ n → ⊥) → names k n ≡ false
names_other k n d = ap (λ t. ltb k width && t) (ne_eqb k n d) ∙ and-false (ltb k width)

-- the event that was raised is set
pub raised_same : (e : Events) (n : ℕ) → n < width → bit (raised e n).word n ≡ true
raised_same e n h = raised_bit e n n ∙ ap (λ t. bit e.word n || t) (names_same n h) ∙ or-true (bit e.word n)

-- every other is as it was
pub raised_other : (e : Events) (k n : ℕ) → (k ≡ n → ⊥) → bit (raised e k).word n ≡ bit e.word n
raised_other e k n d = raised_bit e k n ∙ ap (λ t. bit e.word n || t) (names_other k n d) ∙ or-false (bit e.word n)

-- the event that was cleared is not set
pub cleared_same : (e : Events) (n : ℕ) → n < width → bit (cleared e n).word n ≡ false
cleared_same e n h = cleared_bit e n n ∙ ap (λ t. bit e.word n && not t) (names_same n h) ∙ and-false (bit e.word n)

-- every other is as it was
pub cleared_other : (e : Events) (k n : ℕ) → (k ≡ n → ⊥) → bit (cleared e k).word n ≡ bit e.word n
cleared_other e k n d = cleared_bit e k n ∙ ap (λ t. bit e.word n && not t) (names_other k n d) ∙ and-true (bit e.word n)

-- ---- acknowledged

-- the bits that are kept are those of two events
pub kept_bit : (n : ℕ) → bit kept_events n ≡ (eqb configuration_event n || eqb parameters_event n)
kept_bit n =
    bit_or_lem (2 ^ configuration_event) (2 ^ parameters_event) n
    ∙ ap (λ t. t || bit (2 ^ parameters_event) n) (bit_power configuration_event n)
    ∙ ap (λ t. eqb configuration_event n || t) (bit_power parameters_event n)

-- those that were set, without those of the mask that are not kept
pub acknowledged_bit : (e : Events) (mask n : ℕ) → bit (acknowledged e mask).word n ≡ (bit e.word n && not (bit mask n && not (bit kept_events n)))
acknowledged_bit e mask n =
    bit_without e.word (without mask kept_events) n ∙ ap (λ t. bit e.word n && not t) (bit_without mask kept_events n)

-- an open set's event stays
pub acknowledged_keeps : (e : Events) (mask n : ℕ) → bit kept_events n ≡ true → bit (acknowledged e mask).word n ≡ bit e.word n
acknowledged_keeps e mask n h =
    acknowledged_bit e mask n ∙ ap (λ t. bit e.word n && not (bit mask n && not t)) h ∙ go (bit e.word n) (bit mask n)
  where
    go : (s t : Bool) → (s && not (t && false)) ≡ s
    go s true = and-true s
    go s false = and-true s

-- every other ends exactly if the mask has it
pub acknowledged_clears : (e : Events) (mask n : ℕ) → bit kept_events n ≡ false → bit (acknowledged e mask).word n ≡ (bit e.word n && not (bit mask n))
acknowledged_clears e mask n h =
    acknowledged_bit e mask n ∙ ap (λ t. bit e.word n && not (bit mask n && not t)) h
    ∙ ap (λ t. bit e.word n && not t) (and-true (bit mask n))

-- ---- what the specs claim

pub acknowledge_clears : AcknowledgeClears
acknowledge_clears e mask n = acknowledged_bit e mask n ∙ ap (λ t. bit e.word n && not (bit mask n && not t)) (kept_bit n)
