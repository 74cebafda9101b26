-- Worked rows of the map from index to owner: what acquires, releases and recoveries of small
-- maps answer, computed.
use Rattle.std.proofs.Common.{◌≡◌, ℕ, ◌-◌, ◌^◌, true, false, [], ◌∷◌, Ok, Err, refl}
use Rattle.plain.proofs.Names.{LockIfLastIndex, Default, Locked, Unlocked}
use Rattle.steps.specs.declared.indices.enums.RobustUniqueIndexSetReleaseError.TheVariants.{IndexIsNotOwnedByProvidedOwner}
use Rattle.steps.specs.declared.indices.enums.UniqueIndexSetAcquireFailure.TheVariants as failures
use Rattle.steps.specs.Objects.Owners.{Owners, Owned, opened_at, is_locked, state_of, indices_of, borrowed, acquired}
use Rattle.steps.specs.Objects.Owners.{after_acquire, released, after_release, to_recover, recovered}

-- ---- the end of the generation

-- a set of two indices whose generation is at its end
abbrev at_end : Owners
at_end = opened_at 2 (2 ^ 64 - 2)

-- at the end of the generation an acquire answers `OutOfIndices`
at_end_is_full : acquired at_end ≡ Err failures.OutOfIndices
at_end_is_full = refl

-- although no index is borrowed, and the set is not locked
at_end_is_empty : (borrowed at_end ≡ 0) × (is_locked at_end ≡ false)
at_end_is_empty = (refl, refl)

-- a set of two indices one generation before the end
abbrev before_end : Owners
before_end = opened_at 2 (2 ^ 64 - 3)

-- one generation before the end an acquire still answers index 0
last_index : acquired before_end ≡ Ok 0
last_index = refl

-- after that the generation is at its end, and the next acquire answers `OutOfIndices`
no_other : acquired (after_acquire before_end 1) ≡ Err failures.OutOfIndices
no_other = refl

-- a release of the only index in mode LockIfLastIndex then answers `Unlocked`, and the set is not locked
no_lock : (released (after_acquire before_end 1) 0 1 LockIfLastIndex ≡ Ok Unlocked)
    × (is_locked (after_release (after_acquire before_end 1) 0 1 LockIfLastIndex) ≡ false)
no_lock = (refl, refl)

-- a set that opens with the generation after the end is locked
locked_at_once : (is_locked (opened_at 2 (2 ^ 64 - 1)) ≡ true)
    × (acquired (opened_at 2 (2 ^ 64 - 1)) ≡ Err failures.IsLocked)
locked_at_once = (refl, refl)

-- ---- a set that is locked by its last release

-- a set of three indices of which owner 313 has index 0
abbrev one_out : Owners
one_out = after_acquire (opened_at 3 0) 313

-- a release for another owner is refused
of_another : released one_out 0 7 Default ≡ Err IndexIsNotOwnedByProvidedOwner
of_another = refl

-- a release of the only index in mode LockIfLastIndex locks the set
the_last : (released one_out 0 313 LockIfLastIndex ≡ Ok Locked)
    × (acquired (after_release one_out 0 313 LockIfLastIndex) ≡ Err failures.IsLocked)
the_last = (refl, refl)

-- ---- a recovery that is answered yes, no, yes

-- a set of three indices, all of which owner 1 has
abbrev three_out : Owners
three_out = after_acquire (after_acquire (after_acquire (opened_at 3 0) 1) 1) 1

-- the index, with owner 1
abbrev of_one : ℕ → Owned
of_one index = record { owner = 1; index = index }

-- a recovery asks about all three
asked_about_all : to_recover three_out ≡ of_one 0 ∷ of_one 1 ∷ of_one 2 ∷ []
asked_about_all = refl

-- after yes, no, yes the owner has index 1, and the set is not locked
one_is_left : (indices_of (recovered Default three_out (of_one 0 ∷ of_one 2 ∷ [])) 1 ≡ 1 ∷ [])
    × (state_of (recovered Default three_out (of_one 0 ∷ of_one 2 ∷ [])) ≡ Unlocked)
one_is_left = (refl, refl)

-- after three times yes in mode LockIfLastIndex the set is locked
all_are_freed : state_of (recovered LockIfLastIndex three_out (of_one 0 ∷ of_one 1 ∷ of_one 2 ∷ [])) ≡ Locked
all_are_freed = refl
