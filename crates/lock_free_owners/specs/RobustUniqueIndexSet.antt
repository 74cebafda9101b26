-- The words of the contracts of a robust unique index set: what names it, which pass is for it, and
-- what a pass knows of the set's history.
use Rattle.std.specs.Prelude.{◌≡◌, ◌≤◌, ℕ, ◌+◌, ◌-◌, ◌^◌, ◌||◌, Option, Some, List, if◌then◌else◌, nat_lt}
use Rattle.steps.specs.Enums.{capacity_refusal}
use Rattle.steps.specs.declared.enums.UniqueIndexCreationError.{UniqueIndexCreationError}
use Rattle.steps.specs.declared.enums.UniqueIndexCreationError.TheVariants.{ProvidedCapacityGreaterThanMaxCapacity}
use Rattle.model.specs.declared.event.Event.{Event}
use Rattle.model.specs.declared.turn.Kind.TheVariants as kinds
use Rattle.model.specs.Coding.{one_word}
use Rattle.threaded.specs.Seats.{home_id}
use Rattle.threaded.specs.Sets.{SetId}
use Rattle.threaded.specs.declared.share.Share.{Share}
use Rattle.history.specs.declared.view.View.{View}
use Rattle.history.specs.History.{IsHistory}
use Rattle.history.specs.Passes as passes
use Rattle.lock_free_owners.specs.declared.mpmc.robust_unique_index_set.RobustUniqueIndexSet.{RobustUniqueIndexSet}
use Rattle.lock_free_owners.specs.declared.mpmc.robust_unique_index_set.StaticRobustUniqueIndexSet.{StaticRobustUniqueIndexSet}
use Rattle.lock_free_owners.specs.declared.mpmc.robust_unique_index_set.Pass.{Pass}

-- what names a set
abbrev pub set_id : RobustUniqueIndexSet → SetId
set_id s = record { table = home_id s.home; capacity = s.capacity }

-- the capacity of a set
abbrev pub capacity_of : RobustUniqueIndexSet → ℕ
capacity_of s = s.capacity

-- which set a pass is for
abbrev pub set_of : Pass → SetId
set_of p = record { table = p.seated.seat.table_id; capacity = p.capacity }

-- the pass is for this set
abbrev pub IsPassOf : RobustUniqueIndexSet → Pass → Type 0
IsPassOf s p = set_of p ≡ set_id s

-- all that a pass knows
abbrev pub view : Pass → View ℕ
view p = p.seated.seat.me.0

-- the beginning of the history that it has seen
abbrev pub history : Pass → List (Event ℕ)
history p = p.seated.seat.me.0.seen

-- the events of its own calls, and of those of the passes that it took in
abbrev pub made : Pass → List (Event ℕ)
made p = p.seated.seat.me.0.made

-- its share of the right to know the whole
abbrev pub share : Pass → Share
share p = p.seated.seat.me.0.share

-- it has seen a history of its set
abbrev pub HasHistory : Pass → Type 0
HasHistory p = IsHistory one_word kinds.Robust (set_of p).capacity (history p)

-- with the whole share, the history is what it made
abbrev pub MissesNothing : Pass → Type 0
MissesNothing p = passes.MissesNothing (view p)

-- What a call leaves of a pass: the same set, and a view that goes on from the old one. At most `most`
-- operations of the call were no steps of a call of the history.
pub record LeavesPass (most : ℕ) (old new : Pass) : Type 0 where
  pub set : set_of new ≡ set_of old
  pub goes : passes.Goes (view old) (view new)
  pub aside : (view new).aside ≤ (view old).aside + most

-- What each call but a find leaves of a pass: at most one operation was no step of a call. A find looks
-- once at each cell, beside the one call with which it begins.
abbrev pub SamePass : (old new : Pass) → Type 0
SamePass old new = LeavesPass 1 old new

-- what a join leaves of a pass, which has what both had
pub record PassJoins (old other new : Pass) : Type 0 where
  pub set : set_of new ≡ set_of old
  pub joined : passes.HasJoined (view old) (view other) (view new)
  pub all : MissesNothing new

-- a capacity from 1 to 2^32 - 1 is admitted
abbrev pub set_refusal : ℕ → Option UniqueIndexCreationError
set_refusal capacity = capacity_refusal 1 (2 ^ 32 - 1) capacity

-- what a set whose type names its greatest capacity refuses, by that capacity and the one that it is given
abbrev pub reduced_refusal : (greatest capacity : ℕ) → Option UniqueIndexCreationError
reduced_refusal greatest capacity =
    if nat_lt (2 ^ 32 - 1) greatest || nat_lt greatest capacity
    then Some ProvidedCapacityGreaterThanMaxCapacity
    else set_refusal capacity

-- a set whose type names its greatest capacity is a set, which it holds as a field
module _ {CAPACITY : ℕ} where
  -- the set of one whose capacity is part of its type
  abbrev pub set_in : StaticRobustUniqueIndexSet CAPACITY → RobustUniqueIndexSet
  set_in s = s.set
