-- A find that an answer of its closure has ended rests: it takes no step, and in the history it stands
-- at its question until the pass takes a step again. That step is a load, with which the find ends.
use Rattle.std.specs.Prelude.{◌≡◌, ◌⊎◌, ℕ, ◌<◌, ◌≤◌, ◌+◌, None, Some, List, [], ◌∷◌, ◌++◌, sum_by}
use Rattle.steps.specs.declared.container.find.FindStage.{FindStage}
use Rattle.steps.specs.declared.container.find.FindStage.TheVariants as finds
use Rattle.model.specs.declared.event.Answer.{Answer}
use Rattle.model.specs.declared.event.Answer.TheVariants.{Number}
use Rattle.model.specs.declared.event.Event.{Event}
use Rattle.model.specs.declared.event.Event.TheVariants.{Finished}
use Rattle.model.specs.declared.event.Start.{Start}
use Rattle.model.specs.declared.families.Flight.{Flight}
use Rattle.model.specs.declared.families.Flight.TheVariants as flights
use Rattle.model.specs.declared.families.container.calls.ContainerFlight.TheVariants as calls
use Rattle.threaded.specs.Shares.{IsAll}
use Rattle.history.specs.declared.view.View.{View}
use Rattle.history.specs.Known.{events_by}
use Rattle.history.specs.History.{AreFirst, IsOfParties}

module _ {T : Type 0} where
  -- a find that stands at its question ends with the number of indices that it has come to
  abbrev pub FindEndsAs : FindStage → Answer T → Type 0
  FindEndsAs (finds.LoadsCell index found) answer = ⊥
  FindEndsAs (finds.LoadsCount index found) answer = ⊥
  FindEndsAs (finds.LoadsWord index found count at) answer = ⊥
  FindEndsAs (finds.ChecksCount index found count) answer = ⊥
  FindEndsAs (finds.Asks index found) answer = answer ≡ Number found

  -- the call ends with this answer; of calls that are no find nothing is said, since by a clause of the
  -- pass's `history` only a find rests
  abbrev pub EndsAs : Flight T → Answer T → Type 0
  EndsAs (flights.Container (calls.Find run)) answer = FindEndsAs run.call.stage answer
  EndsAs flight answer = Unit {0}

  -- the pass's last call rests: its party, the call, where it stands, and the answer with which it
  -- ends; the pass knows one history and has a share
  pub record IsResting (v : View T) : Type 0 where
    pub party : ℕ
    pub mine : v.party ≡ Some party
    pub start : Start T
    pub flight : Flight T
    pub going : v.going ≡ Some (start, flight)
    pub answer : Answer T
    pub ends : EndsAs flight answer
    pub alone : v.other ≡ []
    pub some : 0 < v.share.part

  -- the call that rested in `old` has ended since, and the pass did nothing else
  pub record Settles (old new : View T) : Type 0 where
    pub resting : IsResting old
    -- capacity, party, share and state are as they were, and no call is under way
    pub capacity : new.capacity ≡ old.capacity
    pub party : new.party ≡ old.party
    pub share : new.share ≡ old.share
    pub state : new.state ≡ old.state
    pub idle : new.going ≡ None
    -- at most one operation was asked for
    pub asked : new.asked ≤ old.asked + 1
    -- what was asked for since is no step of a call
    pub aside : new.asked + old.aside ≡ old.asked + new.aside
    pub fresh : new.other ≡ []
    -- what was seen since: what others did, and then the end of the call
    pub others : List (Event T)
    pub seen : new.seen
        ≡ (old.seen ++ others) ++ Finished resting.party resting.start resting.answer ∷ []
    -- with the whole share nobody else did anything, and the party itself did nothing before the end
    pub alone : IsAll old.share → others ≡ []
    pub others_own : events_by resting.party others ≡ []
    -- the pass made the end, and its run goes on
    pub made : new.made ≡ old.made ++ Finished resting.party resting.start resting.answer ∷ []
    pub first : AreFirst old.turns new.turns
    -- who has the whole has made all of it
    pub all : IsAll old.share → (f : Event T → ℕ) → sum_by f new.seen ≡ sum_by f new.made
    -- it made just the events of its parties
    pub parties : IsOfParties new

  -- `new` is the view with which a call of the pass began: `old`, or, if the last call rested, the view
  -- once that had ended
  abbrev pub SettledFrom : (old new : View T) → Type 0
  SettledFrom old new = ((new ≡ old) × (old.going ≡ None)) ⊎ Settles old new
