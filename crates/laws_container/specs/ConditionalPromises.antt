-- What a turn of a container tells of finds, looks, questions and states. Some of it holds only
-- in a well-formed run, which is the parameter `well_formed` (in an open run: well-formed,
-- faithful and of few turns).
use Rattle.std.specs.Prelude.{◌≡◌, ◌≢◌, ℕ, ◌+◌, false, Some, List, ◌∷◌, [], ◌++◌}
use Rattle.steps.specs.declared.container.state.ContainerState.{ContainerState}
use Rattle.model.specs.declared.event.Answer.{Answer}
use Rattle.model.specs.declared.event.Answer.TheVariants.{Number}
use Rattle.model.specs.declared.event.Event.{Event}
use Rattle.model.specs.declared.event.Event.TheVariants.{Finished}
use Rattle.model.specs.declared.event.Start.TheVariants.{Container}
use Rattle.model.specs.declared.families.container.ContainerStart.{ContainerStart}
use Rattle.model.specs.declared.families.container.ContainerStart.TheVariants.{Find}
use Rattle.model.specs.declared.turn.Turn.{Turn}
use Rattle.model.specs.declared.turn.Turn.TheVariants.{Decide}
use Rattle.model.specs.Families.Container.Keeping.{KeepsStates}
use Rattle.model.specs.Families.Container.Looks.{state_in, IsCurrent, AnswersOfState, MomentsOfState, EndsLook}
use Rattle.model.specs.Families.Container.Promises.{IsFoundWhole, LeavesState}
use Rattle.model.specs.Families.Container.Questions.{question_at, QuestionsRight, EndsFind}
use Rattle.model.specs.Families.Container.Recoveries.{VisitsUnlocked}
use Rattle.model.specs.Families.Indices.Robust.Promises.{IsFilledWith, IsCount, IsIn}
use Rattle.model.specs.World.{Trace}

module _ {T : Type 0} (well_formed : Type 0) where
  -- what a find has counted below the bound; and in a well-formed run, that it has copied what
  -- stood at each counted index
  abbrev pub CountsIf : (p owner bound number : ℕ) → List (Event T) → Type 0
  CountsIf p owner bound number events =
      IsCount p (IsFilledWith owner) bound number events
      × (well_formed → IsFoundWhole p owner bound number events)

  -- a find that ends in a turn, other than a no to its party, has counted the indices of the whole container
  abbrev pub FindsAllIf : Trace T → Turn T → Trace T → Type 0
  FindsAllIf old turn new =
      (p owner number : ℕ) (ends : EndsFind p owner number old new)
      → turn ≢ Decide p false
      → CountsIf p owner old.world.capacity number (old.events ++ ends.wrote)

  -- a find that its caller has ended with the decision no came to the indices up to the one that it asked about
  pub record StoppedIf (p owner : ℕ) (old new : Trace T) : Type 0 where
    -- the index that it asked about
    pub index : ℕ
    pub value : T
    pub number : ℕ
    pub asked : question_at old p ≡ Some (index, value)
    pub ends : new.events
        ≡ old.events ++ Finished p (Container (Find owner)) (Number number) ∷ []
    -- it has counted the indices up to that one
    pub counts : CountsIf p owner (index + 1) number old.events

  -- a find that its caller ends with the decision no has counted the indices up to the one that it asked about
  abbrev pub FindsUpToIf : Trace T → Turn T → Trace T → Type 0
  FindsUpToIf old turn new =
      (p owner : ℕ) → turn ≡ Decide p false → IsIn p (Container (Find owner)) old
      → StoppedIf p owner old new

  -- what holds of the state that a look leaves: by its answer, and in a well-formed run by what stands
  abbrev pub LooksRightIf : Trace T → Turn T → Trace T → Type 0
  LooksRightIf old turn new =
      (p : ℕ) (start : ContainerStart T) (answer : Answer T) (state : ContainerState T)
      → EndsLook p start answer old new
      → state_in new.world.kept p ≡ Some state
      → AnswersOfState start answer (state_in old.world.kept p) state
      × (well_formed
      → IsCurrent p old.world.capacity state new.events
      × MomentsOfState p old.world.capacity start answer state new.events)

  -- What a turn of a container tells: of finds and looks that end, of questions, of the parties' states, and of the
  -- indices that a recovery visits. Some parts hold only where the run is well-formed.
  pub record TellsIf (old : Trace T) (turn : Turn T) (new : Trace T) : Type 0 where
    -- a find that ends in a turn other than the decision no has counted the whole container
    pub finds : FindsAllIf old turn new
    -- a find that the decision no ends has counted the indices up to the one that it asked about
    pub finds_up_to : FindsUpToIf old turn new
    -- each question comes once, with the copy of its value, and is answered by the next decision
    pub questions : QuestionsRight old turn new
    -- a look that ends leaves the state that its answer says; in a well-formed run that
    -- state shows what stands
    pub looks : LooksRightIf old turn new
    -- a look that ends leaves its party a state
    pub leaves : LeavesState old turn new
    -- only a look of a party changes its state
    pub states : KeepsStates old turn new
    -- a recovery that began after the lock copies no value, is shown none and frees no index
    pub visits : VisitsUnlocked old new
