-- What a party's state of a container shows: what its party has copied, and after a look what
-- stood in the container.
use Rattle.std.specs.Prelude.{◌≡◌, ◌≢◌, ℕ, ◌<◌, Bool, true, false, Option, Some, None, List, [], ◌∷◌, ◌++◌}
use Rattle.std.specs.List.{AllByRecursion}
use Rattle.steps.specs.Container.State.{shown_at, shown_number}
use Rattle.steps.specs.declared.container.state.ContainerState.{ContainerState}
use Rattle.model.specs.declared.event.Answer.{Answer}
use Rattle.model.specs.declared.event.Answer.TheVariants.{Number, Truth}
use Rattle.model.specs.declared.event.Event.{Event}
use Rattle.model.specs.declared.event.Event.TheVariants.{Died, Copied, Finished}
use Rattle.model.specs.declared.event.Start.TheVariants.{Container}
use Rattle.model.specs.declared.families.Flight.{Flight}
use Rattle.model.specs.declared.families.Flight.TheVariants as flights
use Rattle.model.specs.declared.families.Registry.{Registry}
use Rattle.model.specs.declared.families.Registry.TheVariants as registries
use Rattle.model.specs.declared.families.container.ContainerStart.{ContainerStart}
use Rattle.model.specs.declared.families.container.ContainerStart.TheVariants.{GetState, UpdateState}
use Rattle.model.specs.declared.families.container.calls.ContainerFlight.TheVariants as calls
use Rattle.model.specs.Families.Container.Reading.{contents_of, announced_of}
use Rattle.model.specs.Families.Container.States as states
use Rattle.model.specs.Families.Indices.Robust.Promises.{HeldThroughout}
use Rattle.model.specs.Moments.{HeldSometime, SinceBegin}
use Rattle.model.specs.Reading.{whose, is_party, span_of}
use Rattle.model.specs.Shape.{IsShut}
use Rattle.model.specs.World.{World, Trace, flight_in}

module _ {T : Type 0} where
  -- The state that the machine keeps for the party, if the party has one.
  abbrev pub state_in : Registry T → ℕ → Option (ContainerState T)
  state_in (registries.Container dead all) p = states.state_of p all
  state_in kept p = None

  -- The value that a state shows at an index, if it shows one.
  abbrev pub shows : ContainerState T → ℕ → Option T
  shows state i = shown_at state.shown.elements i

  -- whether the party's call under way is a look
  abbrev pub is_looking : Option (Flight T) → Bool
  is_looking (Some (flights.Container (calls.Look which call))) = true
  is_looking flight = false

  -- the party has copied this value, from this index
  pub record WasCopied (p i : ℕ) (value : T) (events : List (Event T)) : Type 0 where
    pub before : List (Event T)
    pub after : List (Event T)
    pub is : events ≡ before ++ Copied p i value ∷ after

  -- ---- a state at rest

  -- where no look is under way, each value that a state shows was copied by its party, from its index
  abbrev pub ShowsCopies : World T → List (Event T) → Type 0
  ShowsCopies w events =
      (p i : ℕ) (state : ContainerState T) (value : T)
      → is_looking (flight_in w p) ≡ false
      → state_in w.kept p ≡ Some state
      → shows state i ≡ Some value
      → WasCopied p i value events

  -- ---- the end of a look

  -- when the party's call began, what stood at the index had been placed by a call that had finished
  abbrev pub WasAnnounced : ℕ → ℕ → List (Event T) → Type 0
  WasAnnounced p i events = SinceBegin p (λ part since. announced_of i part ≡ true) events

  -- the value stood at the index through the party's call
  abbrev pub StoodThrough : ℕ → ℕ → T → List (Event T) → Type 0
  StoodThrough p i value events = HeldThroughout p (λ part. contents_of i part ≡ Some value) events

  -- the event is the party's own, or a death
  abbrev pub IsOwnOrDeath : ℕ → Event T → Type 0
  IsOwnOrDeath p (Died o) = Unit {0}
  IsOwnOrDeath p e = is_party p (whose e) ≡ true

  -- No other call was under way while the party's was. One that has stopped for good still is.
  abbrev pub WasAlone : ℕ → List (Event T) → Type 0
  WasAlone p events =
      SinceBegin p
      (λ part since. ((q : ℕ) → q ≢ p → IsShut (span_of q part))
      × AllByRecursion (IsOwnOrDeath p) since)
      events

  -- What the state shows after a look. Each value that was placed by a call finished before the look began, and stood
  -- through it, is shown. Where no other call was under way, the state is the contents.
  pub record IsCurrent (p capacity : ℕ) (state : ContainerState T) (events : List (Event T))
      : Type 0 where
    pub stood : (i : ℕ) (value : T) → WasAnnounced p i events → StoodThrough p i value events
        → shows state i ≡ Some value
    pub alone : WasAlone p events → (i : ℕ) → i < capacity
        → shows state i ≡ contents_of i events

  -- each index shows what stood there at a moment of the look, or that nothing did
  abbrev pub ShowsMoments : (p capacity : ℕ) → ContainerState T → List (Event T) → Type 0
  ShowsMoments p capacity state events =
      (i : ℕ) → i < capacity → HeldSometime p (λ part. shows state i ≡ contents_of i part) events

  -- What the answer of a look says of the state that it leaves. An update that answers false has left the
  -- state as it was, and a new state shows as many values as the answer says.
  abbrev pub AnswersOfState : ContainerStart T → Answer T → Option (ContainerState T)
      → ContainerState T → Type 0
  AnswersOfState UpdateState (Truth false) before state = before ≡ Some state
  AnswersOfState GetState (Number number) before state =
      number ≡ shown_number state.shown.elements
  AnswersOfState start answer before state = Unit {0}

  -- An update that answers true leaves a state that shows at each index what stood there at
  -- a moment of the call.
  abbrev pub MomentsOfState : (p capacity : ℕ) → ContainerStart T → Answer T → ContainerState T → List (Event T)
      → Type 0
  MomentsOfState p capacity UpdateState (Truth true) state events =
      ShowsMoments p capacity state events
  MomentsOfState p capacity start answer state events = Unit {0}

  -- The call is a look: it makes a state of its party, or brings that state up to date.
  abbrev pub IsLook : ContainerStart T → Type 0
  IsLook GetState = Unit {0}
  IsLook UpdateState = Unit {0}
  IsLook start = ⊥

  -- the turn in which a party's look ends
  pub record EndsLook (p : ℕ) (start : ContainerStart T) (answer : Answer T) (old new : Trace T)
      : Type 0 where
    pub is_look : IsLook start
    pub wrote : List (Event T)
    pub is : new.events ≡ old.events ++ (wrote ++ Finished p (Container start) answer ∷ [])
