-- What is known between two turns of a call on a robust unique index set: the relations `..At` and `..Ends`
-- of a view with which it began and the view now, and `..Stands` and `..Goes` of any such view.
use Rattle.std.specs.Prelude.{◌≡◌, ℕ, ◌+◌, ◌<◌, None, List, []}
use Rattle.steps.specs.Indices.Robust.Acquire.{Acquired}
use Rattle.steps.specs.Indices.Robust.Recover.{first_recover, recover_after}
use Rattle.steps.specs.declared.ask.After.{After}
use Rattle.steps.specs.declared.indices.enums.ReleaseMode.{ReleaseMode}
use Rattle.steps.specs.declared.indices.enums.ReleaseState.{ReleaseState}
use Rattle.steps.specs.declared.indices.robust.acquire.Acquire.{Acquire}
use Rattle.steps.specs.declared.indices.robust.looks.BorrowedIndices.{BorrowedIndices}
use Rattle.steps.specs.declared.indices.robust.recover.Recover.{Recover}
use Rattle.model.specs.declared.turn.Kind.TheVariants as kinds
use Rattle.model.specs.Coding.{one_word}
use Rattle.threaded.specs.Driver.{Next}
use Rattle.threaded.specs.Seats.{seen, table_of, key_of, IsSame}
use Rattle.threaded.specs.declared.driver.seated.Seated.{Seated}
use Rattle.history.specs.declared.view.View.{View}
use Rattle.history_owners.specs.Robust.{takes_owned, counts_owned, recovers_owned, Visit, visits_after}
use Rattle.history.specs.Stages.{At, AtAsked, Ends}

-- how many words the machine of a set has: the counter, and a cell for each index
abbrev pub size : ℕ → ℕ
size capacity = capacity + 1

-- the seat is at the table of a set whose capacity its view has
abbrev pub IsBoard : {Q : Type 0} → Seated (View ℕ) ℕ Q → Type 0
IsBoard s =
    ((table_of s).words ≡ size (seen s).capacity + 1) × (key_of s ≡ (seen s).capacity)

module _ {Q : Type 0} where
  -- the seat may take a step: it is at its table, it knows this capacity, and it has some of the share
  pub record IsReady (capacity : ℕ) (s : Seated (View ℕ) ℕ Q) : Type 0 where
    pub board : IsBoard s
    pub known : (seen s).capacity ≡ capacity
    pub may_step : 0 < (seen s).share.part

  -- steps have left the seat what it was, at its table
  pub record StaysAtBoard (old new : Seated (View ℕ) ℕ Q) : Type 0 where
    pub same : IsSame old new
    pub board : IsBoard new

-- of a call of which `at` says what holds while it is under way, and `ends` what holds once it has ended
module _ {T C E : Type 0} (at : View T → View T → C → Unit {0} → Type 0)
    (ends : View T → E → Unit {0} → View T → Type 0) where
  -- it is under way in this view, whatever the view with which it began
  abbrev pub Stands : View T → C → Type 0
  Stands v call = (base : View T) × at base v call tt

  -- wherever it was under way in the view `v`, it has gone on or ended in the view `w`
  abbrev pub Goes : View T → C → After C E → View T → Type 0
  Goes v call after w =
      (base : View T) → at base v call tt → Next (λ (z : View T). z.capacity) at ends base after tt w

-- ---- acquire

-- the acquire is about to begin or under way
abbrev pub AcquireAt : ℕ → View ℕ → View ℕ → Acquire → Unit {0} → Type 0
AcquireAt owner = At one_word kinds.Robust (takes_owned owner)

-- the acquire has ended with this answer
abbrev pub AcquireEnds : ℕ → View ℕ → Acquired → Unit {0} → View ℕ → Type 0
AcquireEnds owner = Ends one_word kinds.Robust (takes_owned owner)

-- the acquire is about to begin or under way in this view, whatever the view with which it began
abbrev pub AcquireStands : ℕ → View ℕ → Acquire → Type 0
AcquireStands owner = Stands (AcquireAt owner) (AcquireEnds owner)

-- wherever the acquire was under way in the first view, it has gone on or ended in the second
abbrev pub AcquireGoes : ℕ → View ℕ → Acquire → After Acquire Acquired → View ℕ → Type 0
AcquireGoes owner = Goes (AcquireAt owner) (AcquireEnds owner)

-- ---- count

-- the count is about to begin or under way
abbrev pub CountAt : View ℕ → View ℕ → BorrowedIndices → Unit {0} → Type 0
CountAt = At one_word kinds.Robust counts_owned

-- the count has ended with this number
abbrev pub CountEnds : View ℕ → ℕ → Unit {0} → View ℕ → Type 0
CountEnds = Ends one_word kinds.Robust counts_owned

-- the count is about to begin or under way in this view, whatever the view with which it began
abbrev pub BorrowedStands : View ℕ → BorrowedIndices → Type 0
BorrowedStands = Stands CountAt CountEnds

-- wherever the count was under way in the first view, it has gone on or ended in the second
abbrev pub BorrowedGoes : View ℕ → BorrowedIndices → After BorrowedIndices ℕ → View ℕ → Type 0
BorrowedGoes = Goes CountAt CountEnds

-- ---- recover

-- the recovery is about to begin or under way, with these visits
abbrev pub RecoverAt : ReleaseMode → View ℕ → View ℕ → Recover → List Visit → Type 0
RecoverAt mode =
    AtAsked one_word kinds.Robust (λ c n. recover_after c mode n) visits_after (recovers_owned mode)

-- the recovery has ended with this state and these visits
abbrev pub RecoverEnds : ReleaseMode → View ℕ → ReleaseState → List Visit → View ℕ → Type 0
RecoverEnds mode = Ends one_word kinds.Robust (recovers_owned mode)

-- a recovery begins at the seat, which is at its table, knows this capacity and has no call under way
pub record BeginsRecover {Q : Type 0} (capacity : ℕ) (mode : ReleaseMode) (s : Seated (View ℕ) ℕ Q) : Type 0 where
  pub board : IsBoard s
  pub known : (seen s).capacity ≡ capacity
  pub idle : (seen s).going ≡ None
  pub at : RecoverAt mode (seen s) (seen s) (first_recover capacity) []

-- the recovery is under way in this view, whatever the view with which it began and its visits so far
abbrev pub RecoverStands : ReleaseMode → View ℕ → Recover → Type 0
RecoverStands mode v call =
    (base : View ℕ) × (visits : List Visit) × (base.going ≡ None) × RecoverAt mode base v call visits

-- wherever the recovery was under way in `v`, it has gone on or ended in `w`, and `grown` is what its
-- visits have become
abbrev pub RecoverGoes : ReleaseMode → View ℕ → Recover → (List Visit → List Visit)
    → After Recover ReleaseState → View ℕ → Type 0
RecoverGoes mode v call grown after w =
    (base : View ℕ) (visits : List Visit) → base.going ≡ None → RecoverAt mode base v call visits
    → Next (λ (z : View ℕ). z.capacity) (RecoverAt mode) (RecoverEnds mode) base after (grown visits) w

-- the recovery has gone on by one step at which it has heard `k`
abbrev pub RecoverSteps : ReleaseMode → View ℕ → Recover → ℕ → After Recover ReleaseState → View ℕ
    → Type 0
RecoverSteps mode v call k = RecoverGoes mode v call (λ visits. visits_after call visits k)

-- what one step of the recovery tells of the view before it, the number that it hears, and the view after it
abbrev pub RecoverTells : ReleaseMode → Recover → View ℕ → ℕ → View ℕ → Type 0
RecoverTells mode call v n w =
    (w.capacity ≡ v.capacity) × RecoverSteps mode v call n (recover_after call mode n) w
