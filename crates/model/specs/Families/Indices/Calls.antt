-- The calls of the unique index set: how each begins, and how one under way goes on.
use Rattle.std.specs.Prelude.{ℕ, Bool, true, false, Ok, Err, []}
use Rattle.steps.specs.declared.ask.Want.{Want}
use Rattle.steps.specs.declared.ask.After.{After}
use Rattle.steps.specs.declared.indices.enums.ReleaseMode.{ReleaseMode}
use Rattle.steps.specs.declared.indices.enums.ReleaseMode.TheVariants.{LockIfLastIndex, Default}
use Rattle.steps.specs.Indices.Unique.{Acquired, first_acquire, acquire_want, acquire_after, acquire_goes_back}
use Rattle.steps.specs.Indices.Unique.{first_release, release_want, release_after, release_goes_back, borrowed_after}
use Rattle.steps.specs.Indices.Unique.{locked_after}
use Rattle.steps.specs.Queues.Ring.{load}
use Rattle.steps.specs.Routine.{went_on}
use Rattle.model.specs.declared.event.Answer.{Answer}
use Rattle.model.specs.declared.event.Answer.TheVariants as answers
use Rattle.model.specs.declared.families.Flight.{Flight}
use Rattle.model.specs.declared.families.Flight.TheVariants as flights
use Rattle.model.specs.declared.families.indices.IndexStart.{IndexStart}
use Rattle.model.specs.declared.families.indices.IndexStart.TheVariants as starts
use Rattle.model.specs.declared.families.indices.calls.IndexFlight.{IndexFlight}
use Rattle.model.specs.declared.families.indices.calls.IndexFlight.TheVariants.{Acquire, ReleaseDefault, ReleaseLock, BorrowedIndices, IsLocked}
use Rattle.model.specs.Families.Queues.Calls.{as_it_is}
use Rattle.model.specs.Step.{Going, as_call}

-- ---- the calls that begin

-- an acquire as it begins, on a set of this capacity
abbrev pub acquire_of : ℕ → IndexFlight
acquire_of capacity =
    Acquire (record { call = first_acquire capacity; given = tt; room = tt })

-- a release of an index as it begins, in this mode
abbrev pub release_of : (capacity index : ℕ) → ReleaseMode → IndexFlight
release_of capacity index Default =
    ReleaseDefault (record { call = first_release capacity; given = index; room = tt })
release_of capacity index LockIfLastIndex =
    ReleaseLock (record { call = first_release capacity; given = index; room = tt })

-- a count as it begins
abbrev pub borrowed_of : IndexFlight
borrowed_of = BorrowedIndices (record { call = record {}; given = tt; room = tt })

-- a look at the lock as it begins
abbrev pub locked_of : IndexFlight
locked_of = IsLocked (record { call = record {}; given = tt; room = tt })

-- a call of the unique index set as it begins
abbrev pub first : ℕ → IndexStart → IndexFlight
first capacity starts.Acquire = acquire_of capacity
first capacity (starts.Release index mode) = release_of capacity index mode
first capacity starts.BorrowedIndices = borrowed_of
first capacity starts.IsLocked = locked_of

-- ---- the calls under way

-- what a call under way wants next
abbrev pub want : IndexFlight → Want (Unit {0})
want (Acquire run) = acquire_want run.call
want (ReleaseDefault run) = release_want false run.call run.given
want (ReleaseLock run) = release_want true run.call run.given
want (BorrowedIndices run) = load 0
want (IsLocked run) = load 0

-- whether the call begins a turn of its loop again once it is handed this old value
abbrev pub goes_back : IndexFlight → ℕ → Bool
goes_back (Acquire run) old = acquire_goes_back run.call.capacity run.call.stage old
goes_back (ReleaseDefault run) old = release_goes_back false run.call.stage old
goes_back (ReleaseLock run) old = release_goes_back true run.call.stage old
goes_back (BorrowedIndices run) old = false
goes_back (IsLocked run) old = false

module _ {T : Type 0} where
  -- what an acquire answers
  abbrev pub acquire_answer : Acquired → Answer T
  acquire_answer (Ok index) = answers.Index index
  acquire_answer (Err failure) = answers.NoIndex failure

  -- how a call under way goes on from the old value of its word
  abbrev pub after : IndexFlight → ℕ → After IndexFlight (Answer T)
  after (Acquire run) old =
      as_call Acquire acquire_answer
      (went_on as_it_is run.given run.room (acquire_after run.call old))
  after (ReleaseDefault run) old =
      as_call ReleaseDefault answers.State
      (went_on as_it_is run.given run.room (release_after false run.call old))
  after (ReleaseLock run) old =
      as_call ReleaseLock answers.State
      (went_on as_it_is run.given run.room (release_after true run.call old))
  after (BorrowedIndices run) old =
      as_call BorrowedIndices answers.Number
      (went_on as_it_is run.given run.room (borrowed_after run.call old))
  after (IsLocked run) old =
      as_call IsLocked answers.Truth
      (went_on as_it_is run.given run.room (locked_after run.call old))

  -- the family's call under way, as one of a machine
  abbrev pub going : IndexFlight → Going (Flight T) T
  going flight =
      record {
        want = want flight;
        after = λ old. as_call flights.Indices (λ answer. answer) (after flight old);
        rows = λ kept said. [];
        most = 1;
      }
