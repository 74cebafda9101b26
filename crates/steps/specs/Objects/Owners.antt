-- The map from index to owner that a robust set of indices is.
use Rattle.std.specs.Prelude.{ℕ, ◌+◌, ◌-◌, ◌^◌, ◌==◌, ◌&&◌, Bool, false, not, Option, Some, None, Result, Ok}
use Rattle.std.specs.Prelude.{Err, List, [], ◌∷◌, length, map, fold, filter, position, replicate, slice_set}
use Rattle.std.specs.Prelude.{slice_index_or, is_none, ok_or, nat_lt, if◌then◌else◌}
use Rattle.steps.specs.declared.indices.enums.ReleaseMode.{ReleaseMode}
use Rattle.steps.specs.declared.indices.enums.ReleaseMode.TheVariants.{LockIfLastIndex, Default}
use Rattle.steps.specs.declared.indices.enums.ReleaseState.{ReleaseState}
use Rattle.steps.specs.declared.indices.enums.ReleaseState.TheVariants.{Locked, Unlocked}
use Rattle.steps.specs.declared.indices.enums.RobustUniqueIndexSetReleaseError.{RobustUniqueIndexSetReleaseError}
use Rattle.steps.specs.declared.indices.enums.RobustUniqueIndexSetReleaseError.TheVariants.{IndexIsNotOwnedByProvidedOwner}
use Rattle.steps.specs.declared.indices.enums.UniqueIndexSetAcquireFailure.{UniqueIndexSetAcquireFailure}
use Rattle.steps.specs.declared.indices.enums.UniqueIndexSetAcquireFailure.TheVariants as failures

-- the map from index to owner, with the number of its changes
pub record Owners : Type 0 where
  -- the owner of each index, from 0 on, if it has one
  pub owners : List (Option ℕ)
  -- Goes up with each change, and with each count. From its end it goes up no more;
  -- the number after it says that the set is locked.
  pub generation : ℕ

-- an index with its owner
pub record Owned : Type 0 where
  pub owner : ℕ
  pub index : ℕ

-- a map of `capacity` indices, none of which has an owner
abbrev pub opened_at : (capacity generation : ℕ) → Owners
opened_at capacity generation =
    record { owners = replicate capacity None; generation = generation }

-- how many indices it has
abbrev pub capacity : Owners → ℕ
capacity s = length s.owners

-- ---- the generation

-- the greatest generation: from there it goes up no more
abbrev pub the_end : ℕ
the_end = 2 ^ 64 - 2

-- the generation that says that the set is locked
abbrev pub the_lock : ℕ
the_lock = 2 ^ 64 - 1

-- whether the set is locked
abbrev pub is_locked : Owners → Bool
is_locked s = s.generation == the_lock

-- the state that calls answer
abbrev pub state_of : Owners → ReleaseState
state_of s = if is_locked s then Locked else Unlocked

-- the generation after a change
abbrev pub next_generation : ℕ → ℕ
next_generation generation = if nat_lt generation the_end then generation + 1 else generation

-- the map with a generation more
abbrev pub raised : Owners → Owners
raised s = record s { generation = next_generation s.generation }

-- ---- the indices that have an owner

-- the indices of this list that have an owner, ascending, each with its owner; the first index
-- of the list is this one
abbrev pub taken_from : ℕ → List (Option ℕ) → List Owned
taken_from index [] = []
taken_from index (None ∷ owners) = taken_from (index + 1) owners
taken_from index (Some owner ∷ owners) =
    record { owner = owner; index = index } ∷ taken_from (index + 1) owners

-- the indices that have an owner, ascending, each with its owner
abbrev pub taken : Owners → List Owned
taken s = taken_from 0 s.owners

-- the indices of one owner, ascending
abbrev pub indices_of : Owners → ℕ → List ℕ
indices_of s owner =
    map (λ (o : Owned). o.index) (filter (λ (o : Owned). o.owner == owner) (taken s))

-- how many indices have an owner; 0 once the set is locked
abbrev pub borrowed : Owners → ℕ
borrowed s = if is_locked s then 0 else length (taken s)

-- ---- acquire

-- the lowest index without an owner, or why none is handed out: the set is locked, the generation is at its end, or each
-- index has an owner
abbrev pub acquired : Owners → Result ℕ UniqueIndexSetAcquireFailure
acquired s =
    if is_locked s
    then Err failures.IsLocked
    else if s.generation == the_end
    then Err failures.OutOfIndices
    else ok_or (position is_none s.owners) failures.OutOfIndices

-- the map after an acquire for this owner that ended so
abbrev pub granted : Owners → ℕ → Result ℕ UniqueIndexSetAcquireFailure → Owners
granted s owner (Ok index) = raised (record s { owners = slice_set s.owners index (Some owner) })
granted s owner (Err failure) = s

-- the map after an acquire for this owner
abbrev pub after_acquire : Owners → ℕ → Owners
after_acquire s owner = granted s owner (acquired s)

-- ---- release

-- whether this is the owner
abbrev pub owns : Option ℕ → ℕ → Bool
owns None owner = false
owns (Some other) owner = other == owner

-- whether this index is that owner's
abbrev pub has : Owners → (index owner : ℕ) → Bool
has s index owner = owns (slice_index_or s.owners index None) owner

-- The map after a count that may lock: it is locked where no index has an owner. The count raises the generation too,
-- and from its end there is no lock.
abbrev pub locked_if_none : Owners → Owners
locked_if_none s =
    if (length (taken s) == 0) && not ((raised s).generation == the_end)
    then record s { generation = the_lock }
    else raised s

-- the map once the index has no owner any more
abbrev pub without : Owners → ℕ → Owners
without s index = raised (record s { owners = slice_set s.owners index None })

-- the map once an index was given back in this mode: the mode `LockIfLastIndex` then locks the set where no
-- index has an owner
abbrev pub given_back : ReleaseMode → Owners → ℕ → Owners
given_back Default s index = without s index
given_back LockIfLastIndex s index = locked_if_none (without s index)

-- the state that a release answers which leaves this map; in the default mode always `Unlocked`
abbrev pub release_state : ReleaseMode → Owners → ReleaseState
release_state Default s = Unlocked
release_state LockIfLastIndex s = state_of s

-- what a release of an index for an owner answers: the state of the set, or an error where the
-- index is not the owner's
abbrev pub released : Owners → (index owner : ℕ) → ReleaseMode → Result ReleaseState RobustUniqueIndexSetReleaseError
released s index owner mode =
    if has s index owner
    then Ok (release_state mode (given_back mode s index))
    else Err IndexIsNotOwnedByProvidedOwner

-- the map after a release, which changes nothing where the index is not the owner's
abbrev pub after_release : Owners → (index owner : ℕ) → ReleaseMode → Owners
after_release s index owner mode =
    if has s index owner then given_back mode s index else s

-- ---- recover

-- what a recovery asks about: the indices that have an owner, none once the set is locked
abbrev pub to_recover : Owners → List Owned
to_recover s = if is_locked s then [] else taken s

-- the map after a recovery that gives these indices back
abbrev pub recovered : ReleaseMode → Owners → List Owned → Owners
recovered mode s freed = fold (λ t (o : Owned). given_back mode t o.index) s freed
