-- The words of the contracts of a unique index set: what names it, which pass is for it, and
-- what a pass or a held index knows of the set's history.
use Rattle.std.specs.Prelude.{◌≡◌, ◌≤◌, ℕ, ◌+◌, ◌-◌, ◌^◌, ◌||◌, Option, Some, List, if◌then◌else◌, nat_lt}
use Rattle.steps.specs.Enums.{capacity_refusal}
use Rattle.steps.specs.declared.enums.UniqueIndexCreationError.{UniqueIndexCreationError}
use Rattle.steps.specs.declared.enums.UniqueIndexCreationError.TheVariants.{ProvidedCapacityGreaterThanMaxCapacity}
use Rattle.model.specs.declared.event.Event.{Event}
use Rattle.model.specs.declared.turn.Kind.TheVariants as kinds
use Rattle.model.specs.Coding.{one_word}
use Rattle.threaded.specs.declared.share.Share.{Share}
use Rattle.threaded.specs.Seats.{home_id}
pub use Rattle.threaded.specs.Sets.{SetId}
use Rattle.history.specs.declared.view.View.{View}
use Rattle.history.specs.History.{IsHistory, AreFirst}
use Rattle.history.specs.Passes as passes
use Rattle.lock_free_sets.specs.Unique.Held.{IsSound}
use Rattle.lock_free_sets.specs.declared.mpmc.unique_index_set.UniqueIndexSet.{UniqueIndexSet}
use Rattle.lock_free_sets.specs.declared.mpmc.unique_index_set.FixedSizeUniqueIndexSet.{FixedSizeUniqueIndexSet}
use Rattle.lock_free_sets.specs.declared.mpmc.unique_index_set.Pass.{Pass}
use Rattle.lock_free_sets.specs.declared.mpmc.unique_index_set.UniqueIndex.{UniqueIndex}

-- what names a set
abbrev pub set_id : UniqueIndexSet → SetId
set_id s = record { table = home_id s.home; capacity = s.capacity }

-- the capacity of a set
abbrev pub capacity_of : UniqueIndexSet → ℕ
capacity_of s = s.capacity

-- which set a pass is for
abbrev pub set_of : Pass → SetId
set_of p = record { table = p.seated.seat.table_id; capacity = p.capacity }

-- the pass is for this set
abbrev pub IsPassOf : UniqueIndexSet → Pass → Type 0
IsPassOf s p = set_of p ≡ set_id s

-- all that a pass knows
abbrev pub view : Pass → View ℕ
view p = p.seated.seat.me.0

-- the beginning of the history that it has seen
abbrev pub history : Pass → List (Event ℕ)
history p = p.seated.seat.me.0.seen

-- the events of its own calls, and of those of the passes that it took in
abbrev pub made : Pass → List (Event ℕ)
made p = p.seated.seat.me.0.made

-- its share of the right to know the whole
abbrev pub share : Pass → Share
share p = p.seated.seat.me.0.share

-- it has seen a history of its set
abbrev pub HasHistory : Pass → Type 0
HasHistory p = IsHistory one_word kinds.Indices (set_of p).capacity (history p)

-- with the whole share, the history is what it made
abbrev pub MissesNothing : Pass → Type 0
MissesNothing p = passes.MissesNothing (view p)

-- What each call leaves of a pass: its set and share, that what it holds is sound, and a run that goes
-- on. With the whole share it misses nothing.
pub record SamePass (old new : Pass) : Type 0 where
  pub set : set_of new ≡ set_of old
  pub share : share new ≡ share old
  pub sound : IsSound (view new)
  pub first : AreFirst (view old).turns (view new).turns
  -- at most one operation was no step of a call
  pub aside : (view new).aside ≤ (view old).aside + 1
  pub all : MissesNothing new

-- what a join leaves of a pass: its set, a view that has what both views had, and that what it holds is sound
pub record PassJoins (old other new : Pass) : Type 0 where
  pub set : set_of new ≡ set_of old
  pub joined : passes.HasJoined (view old) (view other) (view new)
  pub sound : IsSound (view new)
  pub all : MissesNothing new

-- the number of a held index
abbrev pub value_of : UniqueIndex → ℕ
value_of i = i.index

-- the pass that an index owns
abbrev pub index_pass : UniqueIndex → Pass
index_pass i = i.pass

-- all that the pass of an index knows
abbrev pub index_view : UniqueIndex → View ℕ
index_view i = view i.pass

-- which set an index is of
abbrev pub index_set : UniqueIndex → SetId
index_set i = set_of i.pass

-- a capacity from 1 to 2^24 - 2 is admitted
abbrev pub set_refusal : ℕ → Option UniqueIndexCreationError
set_refusal capacity = capacity_refusal 1 (2 ^ 24 - 2) capacity

-- what a set whose type names its greatest capacity refuses, by that capacity and the one that it is given
abbrev pub reduced_refusal : (greatest capacity : ℕ) → Option UniqueIndexCreationError
reduced_refusal greatest capacity =
    if nat_lt (2 ^ 24 - 2) greatest || nat_lt greatest capacity
    then Some ProvidedCapacityGreaterThanMaxCapacity
    else set_refusal capacity

-- a set whose type names its greatest capacity is a set, which it holds as a field
module _ {CAPACITY : ℕ} where
  -- the set of one whose greatest capacity is part of its type
  abbrev pub set_in : FixedSizeUniqueIndexSet CAPACITY → UniqueIndexSet
  set_in s = s.set
