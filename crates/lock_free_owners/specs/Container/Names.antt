-- The words of the contracts of a container: what names it, which pass, handle and state are for it,
-- and what a pass knows. T is the type of its values.
use Rattle.std.specs.Prelude.{◌≡◌, ℕ, ◌-◌, ◌^◌, ◌<◌, Option, Some, None, List}
use Rattle.steps.specs.Enums.{capacity_refusal}
use Rattle.steps.specs.declared.enums.UniqueIndexCreationError.{UniqueIndexCreationError}
use Rattle.steps.specs.declared.words.Words.{Ghosts}
use Rattle.steps.specs.declared.container.handle.ContainerHandle.{ContainerHandle}
use Rattle.steps.specs.declared.container.state.ContainerState.{ContainerState}
use Rattle.model.specs.declared.event.Event.{Event}
use Rattle.model.specs.declared.turn.Kind.TheVariants as kinds
use Rattle.model.specs.Coding.{Coding, coding_by}
use Rattle.threaded.specs.Seats.{home_id}
use Rattle.threaded.specs.Sets.{SetId}
use Rattle.threaded.specs.declared.share.Share.{Share}
use Rattle.history.specs.declared.view.View.{View}
use Rattle.history.specs.History.{IsHistory}
use Rattle.history.specs.Passes as passes
use Rattle.history_owners.specs.ContainerLooks.{KeepsState}
use Rattle.lock_free_owners.specs.Container.Contracts.{HasJoined}
use Rattle.lock_free_owners.specs.Container.Steps.{FewAside}
use Rattle.lock_free_owners.specs.declared.mpmc.container.Container.{Container}
use Rattle.lock_free_owners.specs.declared.mpmc.container.FixedSizeContainer.{FixedSizeContainer}
use Rattle.lock_free_owners.specs.declared.mpmc.container.Pass.{Pass}

-- a capacity from 1 to 2^32 - 1 is admitted
abbrev pub container_refusal : ℕ → Option UniqueIndexCreationError
container_refusal capacity = capacity_refusal 1 (2 ^ 32 - 1) capacity

module _ {T : Type 0} where
  -- what names a container
  abbrev pub container_id : Container T → SetId
  container_id s = record { table = home_id s.home; capacity = s.capacity }

  -- the capacity of a container
  abbrev pub capacity_of : Container T → ℕ
  capacity_of s = s.capacity

  -- the number that it was made with, which its handles and states carry
  abbrev pub number_of : Container T → ℕ
  number_of s = s.id

  -- the handle has this container's number, and an index below its capacity
  abbrev pub IsOwn : Container T → ContainerHandle → Type 0
  IsOwn s h = (h.container ≡ number_of s) × (h.index < capacity_of s)

  -- the handle is the container's own, and names this owner
  abbrev pub IsHandleFor : Container T → ℕ → ContainerHandle → Type 0
  IsHandleFor s owner h = IsOwn s h × (h.owner ≡ owner)

  -- the state has this container's number and capacity
  abbrev pub IsStateOf : Container T → ContainerState T → Type 0
  IsStateOf s state = (state.container ≡ number_of s) × (state.capacity ≡ capacity_of s)

  -- the state as a history has it, where no container has a number
  abbrev pub unnumbered : ContainerState T → ContainerState T
  unnumbered state = record state { container = 0 }

  -- the state shows what it showed, and has seen what it had seen
  abbrev pub IsLeft : (old new : ContainerState T) → Type 0
  IsLeft old new = (new.shown.elements ≡ old.shown.elements) × (new.seen ≡ old.seen)

module _ {T : Type 0} {words : Ghosts T} where
  -- how the values of a pass's container are written in words
  abbrev pub code_of : Pass T words → Coding T
  code_of p = coding_by words

  -- all that a pass knows
  abbrev pub view : Pass T words → View T
  view p = p.token.seated.seat.me.0

  -- the beginning of the history that it has seen
  abbrev pub history : Pass T words → List (Event T)
  history p = (view p).seen

  -- the events of its own calls, and of those of the passes that it took in
  abbrev pub made : Pass T words → List (Event T)
  made p = (view p).made

  -- its share of the right to know the whole
  abbrev pub share : Pass T words → Share
  share p = (view p).share

  -- which container it is for
  abbrev pub container_of : Pass T words → SetId
  container_of p = record { table = p.token.seated.seat.table_id; capacity = p.token.capacity }

  -- the pass is for this container
  abbrev pub IsPassOf : Container T → Pass T words → Type 0
  IsPassOf s p = container_of p ≡ container_id s

  -- the state is the one that the pass has: as it was left by the latest look that the pass made of the state that it had
  -- got last
  abbrev pub IsLatestState : Pass T words → ContainerState T → Type 0
  IsLatestState p state =
      (by : ℕ) × ((view p).party ≡ Some by) × ((view p).state ≡ Some (unnumbered state))

  -- it has seen a history of its container
  abbrev pub HasHistory : Pass T words → Type 0
  HasHistory p = IsHistory (code_of p) kinds.Container (container_of p).capacity (history p)

  -- with the whole share, the history is what it made
  abbrev pub MissesNothing : Pass T words → Type 0
  MissesNothing p = passes.MissesNothing (view p)

  -- what each call leaves of a pass, and what the pass knows from then on
  pub record SamePass (old new : Pass T words) : Type 0 where
    pub container : container_of new ≡ container_of old
    pub idle : (view new).going ≡ None
    pub goes : passes.Goes (view old) (view new)
    pub aside : FewAside (view old) (view new)

  -- what a join leaves of a pass, which has what both had, and keeps its own state
  pub record PassJoins (old other new : Pass T words) : Type 0 where
    pub container : container_of new ≡ container_of old
    pub joined : HasJoined (view old) (view other) (view new)
    pub keeps : KeepsState (view old) (view new)
    pub all : MissesNothing new

module _ {T : Type 0} {CAPACITY : ℕ} where
  -- the container of one whose capacity is part of its type
  abbrev pub container_in : FixedSizeContainer T CAPACITY → Container T
  container_in s = s.container
