-- What a find of a container adds to the history, and what it answers.
use Rattle.std.specs.Prelude.{◌≡◌, ◌⊎◌, ℕ, ◌+◌, Option, Some, List, ◌∷◌, ◌++◌, [], map}
use Rattle.steps.specs.declared.container.find.FindStage.{FindStage}
use Rattle.steps.specs.declared.container.find.FindStage.TheVariants as finds
use Rattle.steps.specs.declared.container.handle.ContainerHandle.{ContainerHandle}
use Rattle.steps.specs.declared.enums.CallbackProgression.{CallbackProgression}
use Rattle.model.specs.declared.event.Answer.{Answer}
use Rattle.model.specs.declared.event.Answer.TheVariants.{Number}
use Rattle.model.specs.declared.event.Event.{Event}
use Rattle.model.specs.declared.event.Event.TheVariants.{Begun, Copied}
use Rattle.model.specs.declared.event.Start.{Start}
use Rattle.model.specs.declared.event.Start.TheVariants.{Container}
use Rattle.model.specs.declared.families.Flight.{Flight}
use Rattle.model.specs.declared.families.Flight.TheVariants as flights
use Rattle.model.specs.declared.families.container.calls.ContainerFlight.TheVariants as calls
use Rattle.model.specs.declared.families.container.ContainerStart.TheVariants.{Find}
use Rattle.model.specs.Coding.{Coding}
use Rattle.model.specs.Families.Container.Promises.{IsFound}
use Rattle.model.specs.Families.Indices.Robust.Promises.{IsFilledWith, IsCount}
use Rattle.threaded.specs.Shares.{IsAll}
use Rattle.history.specs.declared.view.View.{View}
use Rattle.history.specs.History.{Called}
use Rattle.history.specs.Known.{events_by}
use Rattle.lock_free_owners.specs.Container.Resting.{IsResting, SettledFrom}
use Rattle.lock_free_owners.specs.Container.Callable.{Visit, HasFound}
use Rattle.lock_free_owners.specs.Container.Contracts.{Answered}
use Rattle.lock_free_owners.specs.Container.FindTurns.{IsLeft}
use Rattle.lock_free_owners.specs.Container.Steps.{FindTakes}
use Rattle.lock_free_owners.specs.Container.Visits.{IsNamed}

-- the events of a party that has copied the values of these visits
abbrev pub copied : {T : Type 0} → ℕ → List (Visit T) → List (Event T)
copied p visits = map (λ x. Copied p x.handle.index x.value) visits

-- how many indices are below the question of a find, with the index that it asks about; 0 where it
-- stands at no question
abbrev pub below_question : FindStage → ℕ
below_question (finds.Asks index found) = index + 1
below_question stage = 0

-- `below_question` of the call that a pass has under way, and 0 where that is no find of a container
abbrev pub asked_below : {T : Type 0} → Option (Start T × Flight T) → ℕ
asked_below (Some (start, flights.Container (calls.Find run))) = below_question run.call.stage
asked_below going = 0

module _ {T : Type 0} where
  -- A call of party `p` that has begun and written `wrote` rests. It will end with this answer, before
  -- anything else that its party does, by the first step of the pass's next call, or of the join that
  -- takes the pass in.
  pub record Rests (p : ℕ) (start : Start T) (answer : Answer T) (wrote : List (Event T))
      (old new : View T) : Type 0 where
    -- what others did before the call began, and what happened since, with what the call wrote
    pub others : List (Event T)
    pub during : List (Event T)
    pub is : new.seen ≡ (old.seen ++ others) ++ Begun p start ∷ during
    -- with the whole share nobody else did anything before, and the party itself did nothing before
    pub alone : IsAll old.share → others ≡ []
    pub others_own : events_by p others ≡ []
    -- since it began its party wrote just `wrote`, and the pass made the begin and these events
    pub during_own : events_by p during ≡ wrote
    pub made : new.made ≡ old.made ++ Begun p start ∷ wrote
    -- the call that rests is of this party, began by this start, and ends with this answer
    pub resting : IsResting new
    pub party : resting.party ≡ p
    pub of : resting.start ≡ start
    pub ends : resting.answer ≡ answer

  -- A find of a container: one call of the history, by a party of the pass, which answers `number`.
  pub record HasSearched (capacity owner number bound : ℕ) (visits : List (Visit T)) (old new : View T) : Type 0 where
    -- if the last call of the pass rested, it had ended first, in the view `from`
    pub from : View T
    pub settled : SettledFrom old from
    -- the party that makes the find
    pub by : ℕ
    pub mine : new.party ≡ Some by
    -- Of the indices below the bound it counted each that was the owner's through the whole call, and none
    -- that was his at no moment. `HasFound` has as many indices; no clause says that they are the same ones.
    pub counts : IsCount by (IsFilledWith owner) bound number new.seen
    -- It copied just the values of these visits, in turn. Either it has ended, with the capacity as the
    -- bound; or an answer has ended it, and it rests where it asked about the last index below the bound.
    pub over : (Called by (Container (Find owner)) (Number number) (copied by visits) from new
        × Answered (Find owner) (Number number) (λ p before. IsFound p owner old.capacity number before) old new
        × (bound ≡ capacity))
        ⊎ (Rests by (Container (Find owner)) (Number number) (copied by visits) from new
        × (bound ≡ asked_below new.going))

module _ {T : Type 0} (code : Coding T) where
  -- A whole find that answers `number`, of the container with this id, by a closure with these steps.
  -- It says how the find leaves the pass, what it copied and counted, what the closure became, and how
  -- many operations it took.
  pub record IsSearched {F : Type 0} (step : F → T → ContainerHandle → CallbackProgression → F → Type 0)
      (capacity owner id number : ℕ) (f : F) (old new : View T) (g : F) : Type 0 where
    pub left : IsLeft code old new
    pub bound : ℕ
    pub visits : List (Visit T)
    pub did : HasSearched capacity owner number bound visits old new
    pub found : HasFound step capacity (IsNamed capacity owner id) f number bound visits g
    pub steps : FindTakes code.size capacity old new
