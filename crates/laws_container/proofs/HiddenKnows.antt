-- What a call knows of an index that it will free: its number is the one that was loaded, or is even.
-- And of one that it has freed: what stood there stands under that number still, or nothing has stood
-- there at a moment since.
use Rattle.laws_container.proofs.Names.{◌≡◌, ◌⊎◌, ℕ, ◌%◌, false, true, Some, is_some, List, Event, Finished}
use Rattle.laws_container.proofs.Names.{Container, Index, State, Coding, contents_of, EmptySinceFreed, HidesRight}
use Rattle.laws_container.proofs.Names.{PlacesRight, Frees, filled_of, settled_of, set_acts_of, IsOneOf, SinceBegin}
use Rattle.laws_container.proofs.Names.{is_gone}
use Rattle.model.specs.declared.event.Answer.TheVariants.{Done}
use Rattle.model.specs.declared.families.container.ContainerStart.TheVariants.{Add, Remove, Replace, Recover}
use Rattle.laws_container.proofs.Turns.{Now, WellFormed, count_in}

module _ {T : Type 0} (code : Coding T) (c : ℕ) where
  -- the number at the index is the one that was loaded, or somebody has hidden what stood there
  abbrev pub Covered : ℕ → ℕ → Now T → Type 0
  Covered index count m =
      (count_in code c m index ≡ count) ⊎ (count_in code c m index % 2 ≡ 0)

  -- what a remove knows before it frees its index: in a well-formed run, if its owner is not gone and had the
  -- index settled when the remove began, the loaded number covers what stands there
  abbrev pub RemoveCovers : ℕ → ℕ → ℕ → ℕ → Now T → Type 0
  RemoveCovers p owner index count m =
      WellFormed m → is_gone m.terms.by owner m.events ≡ false
      → SinceBegin p (λ part since. settled_of index part ≡ Some owner) m.events
      → Covered index count m

  -- what a recovery knows before it frees an index: in a well-formed run, while its owner fills the index,
  -- the loaded number covers what stands there
  abbrev pub RecoverCovers : ℕ → ℕ → ℕ → Now T → Type 0
  RecoverCovers owner index count m =
      WellFormed m → filled_of index m.events ≡ Some owner → Covered index count m

  -- the index `i` is `index`, and a value stands there under the number that was loaded
  abbrev pub StillStands : ℕ → ℕ → Now T → ℕ → Type 0
  StillStands index count m i =
      (i ≡ index) × (count_in code c m index ≡ count) × (is_some (contents_of index m.events) ≡ true)

  -- in a well-formed run, at each index that the call has freed for the owner nothing stood at a moment
  -- since, except where `But` says
  abbrev pub HasHidden : ℕ → ℕ → (ℕ → Type 0) → Now T → Type 0
  HasHidden p owner But m =
      WellFormed m → (i : ℕ) → IsOneOf (Frees i owner) (set_acts_of p m.events)
      → EmptySinceFreed p owner i m.events ⊎ But i

-- no index is exempt
abbrev pub no_index : ℕ → Type 0
no_index i = ⊥

-- ---- what a finished call has done to elements

module _ {T : Type 0} where
  -- an add and a replace that succeeded have placed their value, and a remove and a recovery have
  -- hidden what they freed
  abbrev pub EndsRight : List (Event T) → Event T → Type 0
  EndsRight before (Finished p (Container (Add value owner)) (Index index)) =
      PlacesRight before (Finished p (Container (Add value owner)) (Index index))
  EndsRight before (Finished p (Container (Replace index value owner)) Done) =
      PlacesRight before (Finished p (Container (Replace index value owner)) Done)
  EndsRight before (Finished p (Container (Remove index owner mode)) (State state)) =
      HidesRight before (Finished p (Container (Remove index owner mode)) (State state))
  EndsRight before (Finished p (Container (Recover owner mode)) (State state)) =
      HidesRight before (Finished p (Container (Recover owner mode)) (State state))
  EndsRight before e = Unit {0}
