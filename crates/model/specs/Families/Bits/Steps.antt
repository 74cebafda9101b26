-- What a step of a call of the bit sets writes down.
use Rattle.std.specs.Prelude.{ℕ, ◌==◌, List, [], ◌∷◌, map, if◌then◌else◌}
use Rattle.steps.specs.Bits.BitSet.{place_after}
use Rattle.steps.specs.Bits.Places.{places_in}
use Rattle.steps.specs.declared.bits.bit_set.SetStage.{SetStage}
use Rattle.steps.specs.declared.bits.bit_set.SetStage.TheVariants as sets
use Rattle.steps.specs.declared.bits.bit_set.ResetNextStage.{ResetNextStage}
use Rattle.steps.specs.declared.bits.bit_set.ResetNextStage.TheVariants as resets
use Rattle.model.specs.declared.event.Event.{Event}
use Rattle.model.specs.declared.event.Event.TheVariants as events
use Rattle.model.specs.declared.families.bits.calls.BitsFlight.{BitsFlight}
use Rattle.model.specs.declared.families.bits.calls.BitsFlight.TheVariants.{Set, ResetNext, ResetAll, Count, TakeAll, IsSet, CountOf}
use Rattle.model.specs.Families.Bits.Calls.{after, goes_back}
use Rattle.model.specs.Step.{Step}

module _ {T : Type 0} where
  -- What a set's step writes down: an exchange that found the element (the word of the bit) unchanged
  -- since its load sets the bit.
  abbrev pub set_events : (p bit : ℕ) → SetStage → ℕ → List (Event T)
  set_events p bit sets.LoadsElement old = []
  set_events p bit (sets.ExchangesElement found) old =
      if old == found then events.Set p bit ∷ [] else []

  -- What the step of a reset of the next bit writes down: an exchange that found the element unchanged
  -- since its load clears the bit.
  abbrev pub reset_events : (p capacity : ℕ) → ResetNextStage → ℕ → List (Event T)
  reset_events p capacity (resets.ExchangesElement start passed found) old =
      if old == found
      then events.Cleared p (place_after capacity start passed) ∷ []
      else []
  reset_events p capacity stage old = []

  -- A swap of an element for 0 clears each bit that stood in it. The bits are written down
  -- in ascending order.
  abbrev pub clear_events : (p word old : ℕ) → List (Event T)
  clear_events p word old = map (λ bit. events.Cleared p bit) (places_in word old)

  -- a swap of a count above 0 takes it out
  abbrev pub take_events : (p place old : ℕ) → List (Event T)
  take_events p place old = if old == 0 then [] else events.TakenOut p place old ∷ []

  -- what the step writes that is handed this old value of its word
  abbrev pub effects_of : ℕ → BitsFlight → ℕ → List (Event T)
  effects_of p (Set run) old = set_events p run.given run.call.stage old
  effects_of p (ResetNext run) old = reset_events p run.call.capacity run.call.stage old
  effects_of p (ResetAll run) old = clear_events p run.call.word old
  effects_of p (Count run) old = events.Counted p run.given ∷ []
  effects_of p (TakeAll run) old = take_events p run.call.word old
  effects_of p (IsSet run) old = []
  effects_of p (CountOf run) old = []

  -- ---- all that a step comes to

  -- all that a step of a bit set's call comes to, where its word has this old value
  abbrev pub step : ℕ → BitsFlight → ℕ → Step BitsFlight (Unit {0}) T
  step p flight old =
      record {
        after = after flight old;
        back = goes_back flight old;
        wrote = effects_of p flight old;
        kept = tt;
      }
