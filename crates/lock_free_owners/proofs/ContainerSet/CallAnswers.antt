-- What each answer of an add, a remove, a replace and a recovery of a container means.
use Rattle.lock_free_owners.proofs.Names.{Coding, ContainerHandle, Err, IfErr, IfOk, Ok, OnOk, ReleaseMode, Removed, Replaced, View}
use Rattle.lock_free_owners.specs.declared.mpmc.container.Container.{Container}
use Rattle.lock_free_owners.specs.Container.Calls.{given_back, put_at, RemoveDone, RemoveRefused, ReplaceDone, ReplaceRefused}
use Rattle.lock_free_owners.specs.Container.Names.{IsOwn}
use Rattle.lock_free_owners.specs.Container.Turns.{RemoveEnds, ReplaceEnds}
use Rattle.lock_free_owners.proofs.ContainerSet.Facts.{has_removed, removed_right, freed, released, has_replaced, replaced_answered}

-- A call for the index and the owner of this handle leads a pass of the container from the view `base` to w.
module _ {T : Type 0} (code : Coding T) (s : Container T) (base w : View T) (key : ContainerHandle) where
  -- a remove by the container's own handle that answers a state has freed its index, and answers
  -- right
  pub remove_done : IsOwn s key → (mode : ReleaseMode) (answer : Removed) → RemoveEnds code (given_back key mode) base answer tt w
      → IfOk answer (λ state. RemoveDone s key mode state base w)
  remove_done own mode (Err failure) ends = tt
  remove_done own mode (Ok state) ends =
      record {
        own = own;
        removed = has_removed code base w (given_back key mode) (Ok state) ends;
        freed = freed code base w (given_back key mode) (Ok state) ends;
        answered = removed_right code base w (given_back key mode) (Ok state) ends;
        released = released code base w key.index key.owner mode (Ok state) ends;
      }

  -- a remove that was refused answers right of what it found
  pub remove_refused : (mode : ReleaseMode) (answer : Removed) → RemoveEnds code (given_back key mode) base answer tt w
      → IfErr answer (λ failure. RemoveRefused s key mode failure base w)
  remove_refused mode (Ok state) ends = tt
  remove_refused mode (Err failure) ends =
      record {
        removed = λ own. has_removed code base w (given_back key mode) (Err failure) ends;
        answered = λ own. removed_right code base w (given_back key mode) (Err failure) ends;
      }

  -- a replace by the container's own handle that succeeded has placed its value, and answers right
  pub replace_done : IsOwn s key → (value : T) (answer : Replaced) → ReplaceEnds code (put_at key value) base answer tt w
      → OnOk answer (ReplaceDone s key value base w)
  replace_done own value (Err failure) ends = tt
  replace_done own value (Ok nothing) ends =
      record {
        own = own;
        replaced = has_replaced code base w (put_at key value) (Ok nothing) ends;
        answered = replaced_answered code base w (put_at key value) (Ok nothing) ends;
      }

  -- a replace that was refused answers right of what it found
  pub replace_refused : (value : T) (answer : Replaced) → ReplaceEnds code (put_at key value) base answer tt w
      → IfErr answer (λ failure. ReplaceRefused s key value failure base w)
  replace_refused value (Ok nothing) ends = tt
  replace_refused value (Err failure) ends =
      record {
        replaced = λ own. has_replaced code base w (put_at key value) (Err failure) ends;
        answered = λ own. replaced_answered code base w (put_at key value) (Err failure) ends;
      }
