-- What an acquire of an index for an owner has done.
use Rattle.std.specs.Prelude.{ℕ, Ok, Err}
use Rattle.steps.specs.declared.indices.enums.UniqueIndexSetAcquireFailure.{UniqueIndexSetAcquireFailure}
use Rattle.history.specs.declared.view.View.{View}
use Rattle.lock_free_owners.specs.Robust.Contracts.{HasTaken, WasFilled, WasGranted, WasRefused}
use Rattle.lock_free_guards.specs.Held.{HoldsFor}

-- An acquire took this index for the owner: it had no owner, it was granted to this one, and by what
-- the pass made he holds it.
pub record HasAcquired (owner index : ℕ) (old new : View ℕ) : Type 0 where
  pub taken : HasTaken owner (Ok index) old new
  -- the index had no owner before
  pub filled : WasFilled index owner old new
  -- it was granted to this owner
  pub granted : WasGranted index owner old new
  -- by the events that the pass has made, this owner holds the index
  pub holds : HoldsFor owner index new.made

-- the acquire took no index, for this cause
pub record HasFailed (owner : ℕ) (failure : UniqueIndexSetAcquireFailure) (old new : View ℕ) : Type 0 where
  pub taken : HasTaken owner (Err failure) old new
  pub refused : WasRefused owner failure old new
