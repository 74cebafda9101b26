-- What is known between two turns of a call on a container: for each call a relation `..At` for the
-- time that it is under way, and a relation `..Ends` for its end.
use Rattle.std.specs.Prelude.{◌≡◌, ℕ, ◌+◌, ◌<◌, Bool}
use Rattle.steps.specs.Container.Add.{Added, first_add}
use Rattle.steps.specs.Container.Layout.{total_words}
use Rattle.steps.specs.Container.Remove.{Removed, first_remove}
use Rattle.steps.specs.Container.Replace.{Replaced, first_replace}
use Rattle.steps.specs.Indices.Robust.Looks.{first_borrowed}
use Rattle.steps.specs.Indices.Robust.Parts.{empty}
use Rattle.steps.specs.declared.ask.After.{After}
use Rattle.steps.specs.declared.container.add.Add.{Add}
use Rattle.steps.specs.declared.container.add.Owned.{Owned}
use Rattle.steps.specs.declared.container.remove.Remove.{Remove}
use Rattle.steps.specs.declared.container.replace.Replace.{Replace}
use Rattle.steps.specs.declared.container.replace.Replacement.{Replacement}
use Rattle.steps.specs.declared.indices.robust.looks.BorrowedIndices.{BorrowedIndices}
use Rattle.steps.specs.declared.indices.robust.looks.IsLocked.{IsLocked}
use Rattle.steps.specs.declared.indices.robust.release.GiveBack.{GiveBack}
use Rattle.model.specs.declared.families.container.calls.CountOf.{CountOf}
use Rattle.model.specs.declared.turn.Kind.TheVariants as kinds
use Rattle.model.specs.Coding.{Coding}
use Rattle.threaded.specs.Seats.{seen, table_of, key_of, IsSame}
use Rattle.threaded.specs.declared.driver.seated.Seated.{Seated}
use Rattle.history.specs.declared.view.View.{View}
use Rattle.history_owners.specs.Container.{adds_value, removes_value, replaces_value, counts_values, sees_lock}
use Rattle.history_owners.specs.Settled.{AtRested, EndsRested}
use Rattle.history.specs.Stages.{Calling, At, Ends}
use Rattle.lock_free_owners.specs.Robust.Turns.{Stands, Goes}

-- the seat is at the table of a container whose capacity its view has, and whose values have `size` words
abbrev pub IsBoard : {T Q : Type 0} → ℕ → Seated (View T) ℕ Q → Type 0
IsBoard size s =
    ((table_of s).words ≡ total_words (seen s).capacity size + 1) × (key_of s ≡ (seen s).capacity)

module _ {T Q : Type 0} (size : ℕ) where
  -- the seat is at its table, and knows this capacity
  pub record IsReady (capacity : ℕ) (s : Seated (View T) ℕ Q) : Type 0 where
    pub board : IsBoard size s
    pub known : (seen s).capacity ≡ capacity

  -- steps have left the seat what it was, at its table
  pub record StaysAtBoard (old new : Seated (View T) ℕ Q) : Type 0 where
    pub same : IsSame old new
    pub board : IsBoard size new

-- a call on a pass whose last call may rest: `begins` holds of its first stage, and all is counted from the
-- view in which that last call had ended
module _ {T C E : Type 0} (code : Coding T) (begins : ℕ → C → Type 0)
    (call : Calling T C (Unit {0}) E) where
  -- the call is about to begin or under way
  abbrev pub CallAt : View T → View T → C → Unit {0} → Type 0
  CallAt = AtRested code kinds.Container (λ capacity c m. begins capacity c)
      (At code kinds.Container call) (Ends code kinds.Container call)

  -- the call has ended with this answer
  abbrev pub CallEnds : View T → E → Unit {0} → View T → Type 0
  CallEnds = EndsRested code kinds.Container (λ capacity c m. begins capacity c)
      (At code kinds.Container call) (Ends code kinds.Container call)

-- ---- at which stage each call begins, and what is true of what it was given

-- an add at its first stage, for an owner that there may be
abbrev pub BeginsAdd : {T : Type 0} → Owned T → ℕ → Add T → Type 0
BeginsAdd given capacity c = (c ≡ first_add capacity) × (given.owner < empty)

abbrev pub BeginsRemove : GiveBack → ℕ → Remove → Type 0
BeginsRemove given capacity c =
    (c ≡ first_remove capacity given.index) × (given.index < capacity) × (given.owner < empty)

abbrev pub BeginsReplace : {T : Type 0} → Replacement T → ℕ → Replace T → Type 0
BeginsReplace given capacity c =
    (c ≡ first_replace capacity given.index) × (given.index < capacity) × (given.owner < empty)

-- a count at its first stage
abbrev pub BeginsCount : ℕ → BorrowedIndices → Type 0
BeginsCount capacity c = c ≡ first_borrowed capacity

-- `is_locked` at its first stage, which is its only one
abbrev pub BeginsLock : ℕ → IsLocked → Type 0
BeginsLock capacity c = Unit {0}

module _ {T : Type 0} (code : Coding T) where
  -- the add is about to begin or under way
  abbrev pub AddAt : Owned T → View T → View T → Add T → Unit {0} → Type 0
  AddAt given = CallAt code (BeginsAdd given) (adds_value code.size given)

  -- the add has ended with this answer
  abbrev pub AddEnds : Owned T → View T → Added → Unit {0} → View T → Type 0
  AddEnds given = CallEnds code (BeginsAdd given) (adds_value code.size given)

  -- the remove is about to begin or under way
  abbrev pub RemoveAt : GiveBack → View T → View T → Remove → Unit {0} → Type 0
  RemoveAt given = CallAt code (BeginsRemove given) (removes_value given)

  -- the remove has ended with this answer
  abbrev pub RemoveEnds : GiveBack → View T → Removed → Unit {0} → View T → Type 0
  RemoveEnds given = CallEnds code (BeginsRemove given) (removes_value given)

  -- the replace is about to begin or under way
  abbrev pub ReplaceAt : Replacement T → View T → View T → Replace T → Unit {0} → Type 0
  ReplaceAt given = CallAt code (BeginsReplace given) (replaces_value code.size given)

  -- the replace has ended with this answer
  abbrev pub ReplaceEnds : Replacement T → View T → Replaced → Unit {0} → View T → Type 0
  ReplaceEnds given = CallEnds code (BeginsReplace given) (replaces_value code.size given)

  -- the count is about to begin or under way
  abbrev pub CountAt : CountOf → View T → View T → BorrowedIndices → Unit {0} → Type 0
  CountAt which = CallAt code BeginsCount (counts_values which)

  -- the count has ended with this number
  abbrev pub CountEnds : CountOf → View T → ℕ → Unit {0} → View T → Type 0
  CountEnds which = CallEnds code BeginsCount (counts_values which)

  -- the call `is_locked` is about to begin or under way
  abbrev pub LockAt : View T → View T → IsLocked → Unit {0} → Type 0
  LockAt = CallAt code BeginsLock sees_lock

  -- the call `is_locked` has ended with this answer
  abbrev pub LockEnds : View T → Bool → Unit {0} → View T → Type 0
  LockEnds = CallEnds code BeginsLock sees_lock

-- ---- a count, for its loop of cells

module _ {T : Type 0} (code : Coding T) (which : CountOf) where
  -- the count is about to begin or under way in this view, whatever the view with which it began
  abbrev pub CountStands : View T → BorrowedIndices → Type 0
  CountStands = Stands (CountAt code which) (CountEnds code which)

  -- wherever the count was under way in the first view, it has gone on or ended in the second
  abbrev pub CountGoes : View T → BorrowedIndices → After BorrowedIndices ℕ → View T → Type 0
  CountGoes = Goes (CountAt code which) (CountEnds code which)
