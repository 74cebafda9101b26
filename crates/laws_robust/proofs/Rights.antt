-- The right to an index: which party may give it back, or will be granted it. The party whose acquire or
-- add has filled the index has the right until that call has ended. Then nobody has it, until a release or
-- a remove of the index begins for its owner; then the party of that call has it.
use Rattle.laws_robust.proofs.Names.{◌≡◌, ℕ, ◌==◌, if◌then◌else◌, Some, List, fold, Index, Event, Begun, Filled}
use Rattle.laws_robust.proofs.Names.{FreedOf, Finished, Robust, Container, filled_of, holder_of, settled_of}
use Rattle.model.specs.declared.families.container.ContainerStart.TheVariants.{Add, Remove}
use Rattle.model.specs.declared.families.indices.robust.RobustStart.TheVariants.{Acquire, Release}

pub data Right : Type 0 where
  Nobody : Right
  Settled : (owner : ℕ) → Right
  By : (party : ℕ) → Right

-- a release of an index for the owner begins, and takes the right if the index is settled for him
abbrev pub taken_by : ℕ → ℕ → Right → Right
taken_by p owner Nobody = Nobody
taken_by p owner (Settled other) = if other == owner then By p else Settled other
taken_by p owner (By q) = By q

module _ {T : Type 0} where
  -- A fill gives the right to its party. The end of that call settles the index for its owner. A release
  -- for that owner, or a remove, gives the right to its party as it begins. A free takes the right away.
  abbrev pub right_after : ℕ → Right → Event T → Right
  right_after i right (Filled p index owner) = if index == i then By p else right
  right_after i right (Finished p (Robust (Acquire owner)) (Index index)) =
      if index == i then Settled owner else right
  right_after i right (Finished p (Container (Add value owner)) (Index index)) =
      if index == i then Settled owner else right
  right_after i right (Begun p (Robust (Release index owner mode))) =
      if index == i then taken_by p owner right else right
  right_after i right (Begun p (Container (Remove index owner mode))) =
      if index == i then taken_by p owner right else right
  right_after i right (FreedOf p index owner) = if index == i then Nobody else right
  right_after i right e = right

  -- the right to the index `i` after these events
  abbrev pub right_of : ℕ → List (Event T) → Right
  right_of i events = fold (right_after i) Nobody events

  -- the party has the right to an index that is filled with this owner
  pub record IsBy (p i owner : ℕ) (events : List (Event T)) : Type 0 where
    pub right : right_of i events ≡ By p
    pub filled : filled_of i events ≡ Some owner

  -- In a well-formed run each index that is held is filled with its owner, and so is each
  -- that may be given back.
  pub record AreOwned (events : List (Event T)) : Type 0 where
    pub held : (i owner : ℕ) → holder_of i events ≡ Some owner → filled_of i events ≡ Some owner
    pub settled : (i owner : ℕ) → settled_of i events ≡ Some owner
        → (filled_of i events ≡ Some owner) × (right_of i events ≡ Settled owner)
