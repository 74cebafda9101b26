-- What the calls on counting bit sets add to the history, and what they answer.
use Rattle.std.specs.Prelude.{◌≡◌, ℕ, ◌%◌, ◌^◌, List, [], ◌∷◌, ◌++◌, map}
use Rattle.std.specs.List.{FoldsTo}
use Rattle.steps.specs.declared.bits.counting_bit_set.BitState.{BitState}
use Rattle.model.specs.declared.event.Answer.TheVariants.{Number, Done}
use Rattle.model.specs.declared.event.Event.{Event}
use Rattle.model.specs.declared.event.Event.TheVariants.{Counted, TakenOut, Finished}
use Rattle.model.specs.declared.event.Start.TheVariants.{Bits}
use Rattle.model.specs.declared.families.bits.BitsStart.TheVariants.{Set, ResetAll}
use Rattle.model.specs.Families.Bits.Promises.{HasTakenOn}
use Rattle.model.specs.Families.Bits.Reading.{count_at}
use Rattle.model.specs.Moments.{SinceBegin}
use Rattle.history.specs.declared.view.View.{View}
use Rattle.lock_free_sets.specs.Driven.{HasMade}
use Rattle.lock_free_sets.specs.Counts.Callable.{CountsAscend}

-- a call `set` of the history: it counted the place, and answered this number
abbrev pub HasCounted : (place number : ℕ) → View ℕ → View ℕ → Type 0
HasCounted place number =
    HasMade (Bits (Set place)) (Number number) (λ by. Counted by place ∷ [])

-- The last two events that the pass has seen are those of a `set`, which counted the place and ended.
-- Its answer is the count of the place right before that, modulo 2^64.
pub record AnswersCount (place number : ℕ) (new : View ℕ) : Type 0 where
  pub by : ℕ
  pub before : List (Event ℕ)
  pub is : new.seen
      ≡ (before ++ Counted by place ∷ []) ++ Finished by (Bits (Set place)) (Number number) ∷ []
  pub count : number ≡ count_at place before % 2 ^ 64

-- the event in which party `p` takes this count out of its place
abbrev pub taken_by : ℕ → BitState → Event ℕ
taken_by p state = TakenOut p state.bit state.count

-- A call `reset_all` of the history: it took just these counts out, by ascending place, and the closure
-- was called with each of them, and became `visited`.
pub record HasTakenOut {F : Type 0} (step : F → BitState → F → Type 0) (capacity : ℕ) (visit visited : F)
    (old new : View ℕ) : Type 0 where
  pub states : List BitState
  pub ascend : CountsAscend capacity states
  pub calls : FoldsTo step visit states visited
  pub made : HasMade (Bits ResetAll) Done (λ by. map (taken_by by) states) old new

-- The last event that the pass has seen is the end of a `reset_all`. Of each place that counted above 0
-- as that call began something was taken out since, by it or by another, unless the place was counted
-- 2^64 times in all.
pub record MissedNoCount (capacity : ℕ) (new : View ℕ) : Type 0 where
  pub by : ℕ
  pub before : List (Event ℕ)
  pub is : new.seen ≡ before ++ Finished by (Bits ResetAll) Done ∷ []
  pub taken : SinceBegin by (HasTakenOn capacity) before

-- ---- what each answer means

-- a `set`, and that its answer is the count before it
pub record SetDone (place number : ℕ) (old new : View ℕ) : Type 0 where
  pub counted : HasCounted place number old new
  pub answers : AnswersCount place number new

-- a `reset_all`: which counts it took out, and that it missed none
pub record ResetAllDone {F : Type 0} (step : F → BitState → F → Type 0) (capacity : ℕ) (visit visited : F) (old new : View ℕ) : Type 0 where
  pub taken : HasTakenOut step capacity visit visited old new
  pub stood : MissedNoCount capacity new
