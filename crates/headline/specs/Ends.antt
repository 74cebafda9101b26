-- What a find, and a look at a container (`get_state`, `update_state`), has done when it ends.
use Rattle.std.specs.Prelude.{◌≡◌, ◌≢◌, ◌<◌, ℕ, ◌+◌, true, false, Some, is_some, List, [], ◌∷◌, ◌++◌}
use Rattle.steps.specs.Container.State.{shown_number}
use Rattle.steps.specs.declared.container.state.ContainerState.{ContainerState}
use Rattle.model.specs.declared.event.Answer.{Answer}
use Rattle.model.specs.declared.event.Answer.TheVariants.{Truth, Number}
use Rattle.model.specs.declared.event.Event.{Event}
use Rattle.model.specs.declared.event.Event.TheVariants.{Finished}
use Rattle.model.specs.declared.event.Start.{Start}
use Rattle.model.specs.declared.event.Start.TheVariants.{Robust, Container}
use Rattle.model.specs.declared.families.container.ContainerStart.{ContainerStart}
use Rattle.model.specs.declared.families.container.ContainerStart.TheVariants as containers
use Rattle.model.specs.declared.families.container.ContainerStart.TheVariants.{GetState, UpdateState}
use Rattle.model.specs.declared.families.indices.robust.RobustStart.TheVariants as robust
use Rattle.model.specs.declared.turn.Turn.{Turn}
use Rattle.model.specs.declared.turn.Turn.TheVariants.{Decide}
use Rattle.model.specs.Families.Container.Keeping.{steps_of}
use Rattle.model.specs.Families.Container.Looks.{state_in, shows, IsLook, WasAnnounced, StoodThrough, WasAlone}
use Rattle.model.specs.Families.Container.Promises.{IsWellFormedRun, IsFoundWhole}
use Rattle.model.specs.Families.Container.Questions.{question_at}
use Rattle.model.specs.Families.Container.Reading.{contents_of, Copies, acts_of}
use Rattle.model.specs.Families.Indices.Robust.Promises.{IsCount, IsFilledWith, IsIn, asked_of}
use Rattle.model.specs.Families.Indices.Robust.Reading.{IsOneOf}
use Rattle.model.specs.Moments.{HeldSometime}
use Rattle.model.specs.World.{Trace, flight_in, progress_in}

module _ {T : Type 0} where
  -- the turn ends this call of the party with this answer
  abbrev pub EndsWith : ℕ → Start T → Answer T → (old new : Trace T) → Type 0
  EndsWith p start answer old new =
      (wrote : List (Event T)) × (new.events ≡ old.events ++ (wrote ++ Finished p start answer ∷ []))

  -- ---- a look: a call that makes a state of its party, or one that brings that state up to date

  -- What a look at a container has done in the turn in which it ends: what its answer says, and what the
  -- state shows that its party then has.
  pub record Looks (old new : Trace T) : Type 0 where
    -- When a look ends, its party has a state.
    pub leaves : (p : ℕ) (start : ContainerStart T) (answer : Answer T)
        → IsLook start
        → EndsWith p (Container start) answer old new
        → is_some (state_in new.world.kept p) ≡ true
    -- In a well-formed run the state shows each value that stood during the whole look and that a call had placed which
    -- ended before the look began.
    pub stood : IsWellFormedRun new
        → (p index : ℕ) (value : T) (start : ContainerStart T) (answer : Answer T) (state : ContainerState T)
        → IsLook start
        → EndsWith p (Container start) answer old new
        → state_in new.world.kept p ≡ Some state
        → WasAnnounced p index new.events
        → StoodThrough p index value new.events
        → shows state index ≡ Some value
    -- In a well-formed run, if no other call was under way during the look, the state shows at each index
    -- what the container has there.
    pub alone : IsWellFormedRun new
        → (p index : ℕ) (start : ContainerStart T) (answer : Answer T) (state : ContainerState T)
        → IsLook start
        → EndsWith p (Container start) answer old new
        → state_in new.world.kept p ≡ Some state
        → WasAlone p new.events
        → index < old.world.capacity
        → shows state index ≡ contents_of index new.events
    -- In a well-formed run a look that answers true leaves a state that shows at each index what stood there at a
    -- moment of the look.
    pub moments : IsWellFormedRun new
        → (p index : ℕ) (state : ContainerState T)
        → EndsWith p (Container UpdateState) (Truth true) old new
        → state_in new.world.kept p ≡ Some state
        → index < old.world.capacity
        → HeldSometime p (λ past. shows state index ≡ contents_of index past) new.events
    -- A state that `get_state` has made shows only values that this call has copied.
    pub own : (p index : ℕ) (value : T) (answer : Answer T) (state : ContainerState T)
        → EndsWith p (Container GetState) answer old new
        → state_in new.world.kept p ≡ Some state
        → shows state index ≡ Some value
        → IsOneOf (Copies index value) (acts_of p new.events)
    -- The answer to the call that makes a state is how many values the state shows.
    pub number : (p number : ℕ) (state : ContainerState T)
        → EndsWith p (Container GetState) (Number number) old new
        → state_in new.world.kept p ≡ Some state
        → number ≡ shown_number state.shown.elements
    -- An update that answers false has taken one step, and the turn has left the state as it was.
    pub at_once : (p : ℕ)
        → EndsWith p (Container UpdateState) (Truth false) old new
        → (steps_of (progress_in new.world p) ≡ 1)
        × (state_in new.world.kept p ≡ state_in old.world.kept p)

  -- ---- a find

  -- What a find of a robust set has counted when it ends: each index that its owner filled during the whole call, and
  -- none that the owner filled at no moment of it.
  pub record RobustFinds (old : Trace T) (turn : Turn T) (new : Trace T) : Type 0 where
    -- A find that ends in another turn than a decision to stop has counted all indices of the set.
    pub all : (p owner number : ℕ)
        → new.events ≡ old.events ++ Finished p (Robust (robust.Find owner)) (Number number) ∷ []
        → turn ≢ Decide p false
        → IsCount p (IsFilledWith owner) old.world.capacity number old.events
    -- A decision to stop ends the find in that turn, and it has counted the indices up to the one that it asked about.
    pub up_to : (p owner index : ℕ)
        → turn ≡ Decide p false
        → IsIn p (Robust (robust.Find owner)) old
        → asked_of old.world.coding (flight_in old.world p) ≡ Some index
        → (number : ℕ)
        × (new.events ≡ old.events ++ Finished p (Robust (robust.Find owner)) (Number number) ∷ [])
        × IsCount p (IsFilledWith owner) (index + 1) number old.events

  -- What a find of a container has counted when it ends, and, in a well-formed run,
  -- copied: a value of each index that it has counted, if one stood there during
  -- the whole call. (That it is the one that stood is `copied` of `ContainerRuns`.)
  pub record ContainerFinds (old : Trace T) (turn : Turn T) (new : Trace T) : Type 0 where
    -- A find that ends in another turn than a decision to stop has counted all indices of the container.
    pub all : (p owner number : ℕ) (wrote : List (Event T))
        → new.events ≡ old.events ++ (wrote ++ Finished p (Container (containers.Find owner)) (Number number) ∷ [])
        → turn ≢ Decide p false
        → IsCount p (IsFilledWith owner) old.world.capacity number (old.events ++ wrote)
    -- In a well-formed run it has also copied a value of each index that it counted, if one stood at it
    -- during the whole call.
    pub all_copied : IsWellFormedRun new → (p owner number : ℕ) (wrote : List (Event T))
        → new.events ≡ old.events ++ (wrote ++ Finished p (Container (containers.Find owner)) (Number number) ∷ [])
        → turn ≢ Decide p false
        → IsFoundWhole p owner old.world.capacity number (old.events ++ wrote)
    -- A decision to stop ends the find in that turn, and it has counted the indices up to the one that it asked about.
    pub up_to : (p owner index : ℕ) (value : T)
        → turn ≡ Decide p false
        → IsIn p (Container (containers.Find owner)) old
        → question_at old p ≡ Some (index, value)
        → (number : ℕ)
        × (new.events ≡ old.events ++ Finished p (Container (containers.Find owner)) (Number number) ∷ [])
        × IsCount p (IsFilledWith owner) (index + 1) number old.events
        × (IsWellFormedRun new → IsFoundWhole p owner (index + 1) number old.events)
