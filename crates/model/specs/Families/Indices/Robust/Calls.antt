-- The calls of the robust index set: how each begins, and how one under way goes on.
use Rattle.std.specs.Prelude.{ℕ, Bool, false, Ok, Err}
use Rattle.steps.specs.declared.ask.Want.{Want}
use Rattle.steps.specs.declared.ask.After.{After}
use Rattle.steps.specs.declared.indices.enums.ReleaseMode.{ReleaseMode}
use Rattle.steps.specs.Indices.Robust.Acquire.{Acquired, first_acquire, acquire_want, acquire_after, acquire_goes_back}
use Rattle.steps.specs.Indices.Robust.Find.{first_find, find_want, find_after}
use Rattle.steps.specs.Indices.Robust.Looks.{first_borrowed, borrowed_want, borrowed_after, borrowed_goes_back, locked_after}
use Rattle.steps.specs.Indices.Robust.Recover.{first_recover, recover_want, recover_after, recover_goes_back}
use Rattle.steps.specs.Indices.Robust.Release.{Released, first_release, release_want, release_after, release_goes_back}
use Rattle.steps.specs.Queues.Ring.{load}
use Rattle.steps.specs.Routine.{went_on}
use Rattle.model.specs.declared.event.Answer.{Answer}
use Rattle.model.specs.declared.event.Answer.TheVariants as answers
use Rattle.model.specs.declared.families.Flight.{Flight}
use Rattle.model.specs.declared.families.Flight.TheVariants as flights
use Rattle.model.specs.declared.families.indices.robust.RobustStart.{RobustStart}
use Rattle.model.specs.declared.families.indices.robust.RobustStart.TheVariants as starts
use Rattle.model.specs.declared.families.indices.robust.calls.RobustFlight.{RobustFlight}
use Rattle.model.specs.declared.families.indices.robust.calls.RobustFlight.TheVariants.{Acquire, Release, Find, Recover, BorrowedIndices, IsLocked}
use Rattle.model.specs.Families.Indices.Robust.Dead.{kept_going_rows}
use Rattle.model.specs.Families.Queues.Calls.{as_it_is}
use Rattle.model.specs.Step.{Going, as_call}

-- ---- the calls that begin

-- an acquire for this owner as it begins, on a set of this capacity
abbrev pub acquire_of : (capacity owner : ℕ) → RobustFlight
acquire_of capacity owner =
    Acquire (record { call = first_acquire capacity; given = owner; room = tt })

-- a release of an index for its owner as it begins, in this mode
abbrev pub release_of : (capacity index owner : ℕ) → ReleaseMode → RobustFlight
release_of capacity index owner mode =
    Release
    (record {
      call = first_release capacity;
      given = record { index = index; owner = owner; mode = mode };
      room = tt;
    })

-- a find of an owner's indices as it begins
abbrev pub find_of : (capacity owner : ℕ) → RobustFlight
find_of capacity owner =
    Find (record { call = first_find capacity; given = owner; room = tt })

-- a recovery as it begins
abbrev pub recover_of : ℕ → ReleaseMode → RobustFlight
recover_of capacity mode =
    Recover (record { call = first_recover capacity; given = mode; room = tt })

-- a count as it begins
abbrev pub borrowed_of : ℕ → RobustFlight
borrowed_of capacity =
    BorrowedIndices (record { call = first_borrowed capacity; given = tt; room = tt })

-- a look at the lock as it begins
abbrev pub locked_of : RobustFlight
locked_of = IsLocked (record { call = record {}; given = tt; room = tt })

-- a call of the robust set as it begins
abbrev pub first : ℕ → RobustStart → RobustFlight
first capacity (starts.Acquire owner) = acquire_of capacity owner
first capacity (starts.Release index owner mode) =
    release_of capacity index owner mode
first capacity (starts.Find owner) = find_of capacity owner
first capacity (starts.Recover mode) = recover_of capacity mode
first capacity starts.BorrowedIndices = borrowed_of capacity
first capacity starts.IsLocked = locked_of

-- ---- the calls under way

-- what a call under way wants next
abbrev pub want : RobustFlight → Want (Unit {0})
want (Acquire run) = acquire_want run.call run.given
want (Release run) = release_want run.call run.given
want (Find run) = find_want run.call
want (Recover run) = recover_want run.call
want (BorrowedIndices run) = borrowed_want run.call
want (IsLocked run) = load 0

-- whether the call begins a turn of its loop again once it is handed this old value
abbrev pub goes_back : RobustFlight → ℕ → Bool
goes_back (Acquire run) old = acquire_goes_back run.call.stage old
goes_back (Release run) old = release_goes_back run.call.stage old
goes_back (Find run) old = false
goes_back (Recover run) old = recover_goes_back run.call.stage old
goes_back (BorrowedIndices run) old = borrowed_goes_back run.call old
goes_back (IsLocked run) old = false

module _ {T : Type 0} where
  -- what an acquire answers
  abbrev pub acquire_answer : Acquired → Answer T
  acquire_answer (Ok index) = answers.Index index
  acquire_answer (Err failure) = answers.NoIndex failure

  -- what a release answers
  abbrev pub release_answer : Released → Answer T
  release_answer (Ok state) = answers.State state
  release_answer (Err failure) = answers.NotOwned failure

  -- how a call under way goes on from the old value of its word
  abbrev pub after : RobustFlight → ℕ → After RobustFlight (Answer T)
  after (Acquire run) old =
      as_call Acquire acquire_answer
      (went_on as_it_is run.given run.room (acquire_after run.call old))
  after (Release run) old =
      as_call Release release_answer
      (went_on as_it_is run.given run.room (release_after run.call run.given old))
  after (Find run) old =
      as_call Find answers.Number
      (went_on as_it_is run.given run.room (find_after run.call run.given old))
  after (Recover run) old =
      as_call Recover answers.State
      (went_on as_it_is run.given run.room (recover_after run.call run.given old))
  after (BorrowedIndices run) old =
      as_call BorrowedIndices answers.Number
      (went_on as_it_is run.given run.room (borrowed_after run.call old))
  after (IsLocked run) old =
      as_call IsLocked answers.Truth
      (went_on as_it_is run.given run.room (locked_after run.call old))

  -- the kind's call under way, as one of a machine
  abbrev pub going : RobustFlight → Going (Flight T) T
  going flight =
      record {
        want = want flight;
        after = λ old. as_call flights.Robust (λ answer. answer) (after flight old);
        rows = kept_going_rows flight;
        most = 1;
      }
