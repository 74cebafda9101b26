-- What the calls on bit sets add to the history, and what they answer.
use Rattle.std.specs.Prelude.{◌≡◌, ℕ, ◌<◌, Bool, false, IsFalse, Option, Some, None, List, [], ◌∷◌, ◌++◌, map}
use Rattle.std.specs.List.{FoldsTo}
use Rattle.model.specs.declared.event.Answer.TheVariants.{Truth, Reset, ResetNone, Done}
use Rattle.model.specs.declared.event.Event.{Event}
use Rattle.model.specs.declared.event.Event.TheVariants.{Cleared, Finished}
use Rattle.model.specs.declared.event.Start.TheVariants.{Bits}
use Rattle.model.specs.declared.families.bits.BitsStart.TheVariants.{Set, ResetNext, ResetAll}
use Rattle.model.specs.Families.Bits.Calls.{reset_answer}
use Rattle.model.specs.Families.Bits.Promises.{HasCleared, CameTo}
use Rattle.model.specs.Families.Bits.Reading.{standing}
use Rattle.model.specs.Moments.{HeldSometime, SinceBegin}
use Rattle.history.specs.declared.view.View.{View}
use Rattle.lock_free_sets.specs.Driven.{HasMade}
use Rattle.lock_free_sets.specs.Bits.Callable.{Ascends}
use Rattle.lock_free_sets.specs.Bits.Stages.{set_wrote, reset_wrote}

-- a call `set` of the history: it set the place if it answered true, and wrote nothing else
abbrev pub HasSet : ℕ → Bool → View ℕ → View ℕ → Type 0
HasSet place answer =
    HasMade (Bits (Set place)) (Truth answer) (λ by. set_wrote by place answer)

-- the last event that the pass has seen is the end of a `set` that answered false; at a moment of that
-- call the flag of the place was set
pub record StoodOnce (place : ℕ) (new : View ℕ) : Type 0 where
  pub by : ℕ
  pub before : List (Event ℕ)
  pub is : new.seen ≡ before ++ Finished by (Bits (Set place)) (Truth false) ∷ []
  pub stood : HeldSometime by (λ part. standing place part ≡ 1) before

-- a call `reset_next` of the history: it cleared the place that it answers, if any, and wrote nothing else
abbrev pub HasReset : Option ℕ → View ℕ → View ℕ → Type 0
HasReset answer = HasMade (Bits ResetNext) (reset_answer answer) (λ by. reset_wrote by answer)

-- the last event that the pass has seen is the end of a `reset_next` that found nothing; each place was
-- clear at some moment of that call
pub record AllClearOnce (capacity : ℕ) (new : View ℕ) : Type 0 where
  pub by : ℕ
  pub before : List (Event ℕ)
  pub is : new.seen ≡ before ++ Finished by (Bits ResetNext) ResetNone ∷ []
  pub clear : (place : ℕ) → place < capacity
      → HeldSometime by (λ part. standing place part ≡ 0) before

-- The last event that the pass has seen is the end of a `reset_next` that answered this place. The call
-- looked from where the reset position stood at a moment of it, and each place that it passed on the
-- way was clear at some moment of it. Behind the last place comes the first one.
pub record CameFromPosition (capacity place : ℕ) (new : View ℕ) : Type 0 where
  pub by : ℕ
  pub before : List (Event ℕ)
  pub is : new.seen ≡ before ++ Finished by (Bits ResetNext) (Reset place) ∷ []
  pub came : CameTo by capacity place before

-- the event in which party `p` clears the place
abbrev pub cleared_by : (p place : ℕ) → Event ℕ
cleared_by p place = Cleared p place

-- A call `reset_all` of the history: it cleared just these places, ascending, and the closure was
-- called with each of them, and became `visited`.
pub record HasCleanedOut {F : Type 0} (step : F → ℕ → F → Type 0) (capacity : ℕ) (visit visited : F)
    (old new : View ℕ) : Type 0 where
  pub places : List ℕ
  pub ascend : Ascends capacity places
  pub calls : FoldsTo step visit places visited
  pub made : HasMade (Bits ResetAll) Done (λ by. map (cleared_by by) places) old new

-- the last event that the pass has seen is the end of a `reset_all`; each place that was set as that
-- call began was cleared since, by it or by another
pub record MissedNoPlace (capacity : ℕ) (new : View ℕ) : Type 0 where
  pub by : ℕ
  pub before : List (Event ℕ)
  pub is : new.seen ≡ before ++ Finished by (Bits ResetAll) Done ∷ []
  pub cleared : SinceBegin by (HasCleared capacity) before

-- ---- what each answer means

-- a `set`, and if it answered false, that the flag of the place was set at a moment of the call
pub record SetDone (place : ℕ) (answer : Bool) (old new : View ℕ) : Type 0 where
  pub added : HasSet place answer old new
  pub stood : IsFalse answer → StoodOnce place new

-- a `reset_next` that found a place
pub record ResetDone (capacity found : ℕ) (old new : View ℕ) : Type 0 where
  pub place : found < capacity
  pub cleared : HasReset (Some found) old new
  pub came : CameFromPosition capacity found new

-- a `reset_next` that found no place
pub record ResetNothing (capacity : ℕ) (old new : View ℕ) : Type 0 where
  pub cleared : HasReset None old new
  pub clear : AllClearOnce capacity new

-- a `reset_all`: which places it cleared, and that it missed none that was set as it began
pub record ResetAllDone {F : Type 0} (step : F → ℕ → F → Type 0) (capacity : ℕ) (visit visited : F) (old new : View ℕ) : Type 0 where
  pub cleared : HasCleanedOut step capacity visit visited old new
  pub stood : MissedNoPlace capacity new
