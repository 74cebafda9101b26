-- How the events of the bit sets are read.
use Rattle.std.specs.Prelude.{ℕ, ◌-◌, ◌==◌, Bool, false, List, fold, if◌then◌else◌}
use Rattle.std.specs.List.{count_by, sum_by}
use Rattle.steps.specs.Queues.Ring.{after_position}
use Rattle.model.specs.declared.event.Answer.TheVariants.{Reset}
use Rattle.model.specs.declared.event.Event.{Event}
use Rattle.model.specs.declared.event.Event.TheVariants.{Set, Cleared, Counted, TakenOut, Finished}
use Rattle.model.specs.declared.event.Start.TheVariants.{Bits}
use Rattle.model.specs.declared.families.bits.BitsStart.TheVariants.{ResetNext}

module _ {T : Type 0} where
  -- whether the event sets the bit
  abbrev pub is_set_of : ℕ → Event T → Bool
  is_set_of bit (Set p b) = b == bit
  is_set_of bit e = false

  -- whether the event clears the bit
  abbrev pub is_clear_of : ℕ → Event T → Bool
  is_clear_of bit (Cleared p b) = b == bit
  is_clear_of bit e = false

  -- whether the event counts the place
  abbrev pub is_count_of : ℕ → Event T → Bool
  is_count_of place (Counted p b) = b == place
  is_count_of place e = false

  -- how much the event takes out of the place
  abbrev pub take_of : ℕ → Event T → ℕ
  take_of place (TakenOut p b number) = if b == place then number else 0
  take_of place e = 0

  -- how often the bit was set
  abbrev pub sets : ℕ → List (Event T) → ℕ
  sets bit events = count_by (is_set_of bit) events

  -- how often the bit was cleared
  abbrev pub clears : ℕ → List (Event T) → ℕ
  clears bit events = count_by (is_clear_of bit) events

  -- how often the place was counted
  abbrev pub counts : ℕ → List (Event T) → ℕ
  counts place events = count_by (is_count_of place) events

  -- how much was taken out of the place in all
  abbrev pub takes : ℕ → List (Event T) → ℕ
  takes place events = sum_by (take_of place) events

  -- 1 where the bit stands after these events, else 0
  abbrev pub standing : ℕ → List (Event T) → ℕ
  standing bit events = sets bit events - clears bit events

  -- the reset position: the place after the one that the latest reset of the next bit answered
  abbrev pub position_after : ℕ → Event T → ℕ
  position_after position (Finished p (Bits ResetNext) (Reset bit)) = after_position bit
  position_after position e = position

  -- where the next search begins, after these events
  abbrev pub position_of : List (Event T) → ℕ
  position_of events = fold position_after 0 events

  -- the count of the place after these events
  abbrev pub count_at : ℕ → List (Event T) → ℕ
  count_at place events = counts place events - takes place events
