-- What each answer of an acquire, a release, a recovery, a count and a look at the lock
-- of a robust set means.
use Rattle.lock_free_owners.proofs.Names.{◌≡◌, ℕ, None, Ok, Err, IfOk, IfErr, Acquired, Released, ReleaseMode, View}
use Rattle.lock_free_owners.proofs.Names.{one_word, takes_owned, gives_owned, Ends}
use Rattle.model.specs.declared.turn.Kind.TheVariants as kinds
use Rattle.lock_free_owners.specs.Robust.Calls.{AcquireDone, AcquireRefused, ReleaseDone, ReleaseRefused}
use Rattle.lock_free_owners.proofs.RobustSet.Facts.{taken, within, filled, granted, refused, given_of, given, given_right, freed, released}

module _ (base w : View ℕ) (idle : base.going ≡ None) where
  module _ (owner capacity : ℕ) (size : base.capacity ≡ capacity) where
    -- an acquire that answers an index took it: it had no owner, was granted to this one, and lies
    -- below the capacity
    pub acquire_done : (answer : Acquired) → Ends one_word kinds.Robust (takes_owned owner) base answer tt w
        → IfOk answer (λ index. AcquireDone capacity owner index base w)
    acquire_done (Err failure) ends = tt
    acquire_done (Ok index) ends =
        record {
          taken = taken base w tt idle owner (Ok index) ends;
          within = within base w tt idle owner (Ok index) ends capacity size;
          filled = filled base w tt idle owner (Ok index) ends;
          granted = granted base w tt idle owner (Ok index) ends;
        }

  -- an acquire that was refused answers right of what it found
  pub acquire_refused : (owner : ℕ) (answer : Acquired) → Ends one_word kinds.Robust (takes_owned owner) base answer tt w
      → IfErr answer (λ failure. AcquireRefused owner failure base w)
  acquire_refused owner (Ok index) ends = tt
  acquire_refused owner (Err failure) ends =
      record {
        taken = taken base w tt idle owner (Err failure) ends;
        refused = refused base w tt idle owner (Err failure) ends;
      }

  module _ (index owner : ℕ) (mode : ReleaseMode) where
    -- a release that answers a state has freed its index, and answers right
    pub release_done : (answer : Released) → Ends one_word kinds.Robust (gives_owned (given_of base w tt idle index owner mode)) base answer tt w
        → IfOk answer (λ state. ReleaseDone index owner mode state base w)
    release_done (Err failure) ends = tt
    release_done (Ok state) ends =
        record {
          given = given base w tt idle index owner mode (Ok state) ends;
          freed = freed base w tt idle index owner mode (Ok state) ends;
          answered = given_right base w tt idle index owner mode (Ok state) ends;
          released = released base w tt idle index owner mode (Ok state) ends;
        }

    -- a release that was refused answers right of what it found
    pub release_refused : (answer : Released) → Ends one_word kinds.Robust (gives_owned (given_of base w tt idle index owner mode)) base answer tt w
        → IfErr answer (λ failure. ReleaseRefused index owner mode failure base w)
    release_refused (Ok state) ends = tt
    release_refused (Err failure) ends =
        record {
          given = given base w tt idle index owner mode (Err failure) ends;
          answered = given_right base w tt idle index owner mode (Err failure) ends;
        }
