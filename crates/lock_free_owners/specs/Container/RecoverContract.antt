-- What a recovery of a container did, what it asked its closure, and what it adds to the history.
use Rattle.std.specs.Prelude.{◌≡◌, ℕ, ◌<◌, ◌≤◌, Bool, true, false, Option, Some, None, List, [], ◌∷◌, ◌++◌, length}
use Rattle.std.specs.List.{FoldsTo}
use Rattle.steps.specs.declared.container.recover.DeadOwner.{DeadOwner}
use Rattle.steps.specs.declared.indices.enums.ReleaseMode.{ReleaseMode}
use Rattle.steps.specs.declared.indices.enums.ReleaseState.{ReleaseState}
use Rattle.model.specs.declared.event.Answer.TheVariants.{State}
use Rattle.model.specs.declared.event.Start.TheVariants.{Container}
use Rattle.model.specs.declared.families.container.ContainerStart.TheVariants.{Recover}
use Rattle.model.specs.Families.Indices.Reading.{is_locked}
use Rattle.history.specs.declared.view.View.{View}
use Rattle.history_owners.specs.ContainerRecovery.{Came, HasAsked, HasFound, HasFreed, MayCome, wrote_visits}
use Rattle.history.specs.History.{Called}
use Rattle.lock_free_owners.specs.Container.Resting.{SettledFrom}
use Rattle.lock_free_owners.specs.Container.Questions.{Answered, AnswersAscend, asks}

module _ {T : Type 0} where
  -- the question about an index with the answer yes, if a value stood there
  abbrev pub yes_about : ℕ → Option T → List (Answered T)
  yes_about index None = []
  yes_about index (Some value) = record { index = index; value = value; yes = true } ∷ []

  -- the question that was asked about an index at this visit, if one was; the answer is a no where the
  -- recovery was told nothing more
  abbrev pub question_at : ℕ → Came T → List (Answered T)
  question_at index (HasAsked value) = record { index = index; value = value; yes = false } ∷ []
  question_at index (HasFound found) = yes_about index found
  question_at index (HasFreed found hid locked) = yes_about index found

  -- the questions at these visits, of which the last comes first; the questions ascend
  abbrev pub questions_of : List (ℕ × Came T) → List (Answered T)
  questions_of [] = []
  questions_of (visit ∷ before) = questions_of before ++ question_at visit.0 visit.1

  -- the indices of these visits, the last one first, descend from below `high`, and at each the
  -- recovery did what the mode lets it
  abbrev pub AreVisits : ReleaseMode → ℕ → List (ℕ × Came T) → Type 0
  AreVisits mode high [] = Unit {0}
  AreVisits mode high (visit ∷ before) =
      (visit.0 < high) × MayCome mode visit.1 × AreVisits mode visit.0 before

-- A recovery of a container: one call of the history, by a party of the pass.
pub record HasRecovered {T F : Type 0} (step : F → T → Bool → F → Type 0) (given : DeadOwner)
    (state : ReleaseState) (capacity : ℕ) (f last : F) (old new : View T) : Type 0 where
  -- if the last call of the pass rested, it had ended first, in the view `from`
  pub from : View T
  pub settled : SettledFrom old from
  -- the party that makes the recovery
  pub by : ℕ
  pub mine : new.party ≡ Some by
  -- what it did at the indices that it came to, the last one first, and that it wrote just this
  pub visits : List (ℕ × Came T)
  pub are : AreVisits given.mode capacity visits
  pub called : Called by (Container (Recover given.owner given.mode)) (State state)
      (wrote_visits by given.owner visits) from new
  -- it asked just the questions at these visits, at most one for each index, and they made the closure `last`
  pub questions : FoldsTo (asks step) f (questions_of visits) last
  pub ascend : AnswersAscend capacity (questions_of visits)
  pub few : length (questions_of visits) ≤ capacity
  -- a recovery that begins where the lock was seen asks nothing
  pub nothing : is_locked old.seen ≡ true → questions_of visits ≡ []
