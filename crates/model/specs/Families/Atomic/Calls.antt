-- The calls of the single value: how each begins, and how one under way goes on.
use Rattle.std.specs.Prelude.{ℕ, Bool, false, replicate, []}
use Rattle.steps.specs.declared.ask.Want.{Want}
use Rattle.steps.specs.declared.ask.After.{After}
use Rattle.steps.specs.declared.copied.Buffer as buffers
use Rattle.steps.specs.Atomic as steps
use Rattle.steps.specs.declared.atomic.version.Version as looks
use Rattle.steps.specs.Atomic.{first_store, store_want, store_after, first_load, load_want, load_after, load_kept, version_want, version_after}
use Rattle.steps.specs.Queues.Roles.{acquire_want, acquire_after, release_want, release_after, look_want, look_after}
use Rattle.steps.specs.Routine.{went_on}
use Rattle.model.specs.declared.event.Answer.{Answer}
use Rattle.model.specs.declared.event.Answer.TheVariants as answers
use Rattle.model.specs.declared.families.Flight.{Flight}
use Rattle.model.specs.declared.families.Flight.TheVariants as flights
use Rattle.model.specs.declared.families.atomic.AtomicStart.{AtomicStart}
use Rattle.model.specs.declared.families.atomic.AtomicStart.TheVariants as starts
use Rattle.model.specs.declared.families.atomic.calls.AtomicFlight.{AtomicFlight}
use Rattle.model.specs.declared.families.atomic.calls.AtomicFlight.TheVariants.{Acquire, Release, Store, Load, Look, Version}
use Rattle.model.specs.Coding.{Coding}
use Rattle.model.specs.Families.Queues.Calls.{as_it_is, kept_at, read_in}
use Rattle.model.specs.Step.{Going, as_call}

-- ---- the words

-- the word of the version
abbrev pub version_word : ℕ
version_word = 0

-- the word of the producer's role
abbrev pub producer_word : ℕ
producer_word = 1

-- ---- the calls that begin

-- a room in which nothing was put
abbrev pub fresh : buffers.Buffer 128
fresh = record { words = replicate 128 0 }

-- a call for the version as it begins
abbrev pub look_version : looks.Version
look_version = record {}

module _ {T : Type 0} where
  -- a call of the single value as it begins
  abbrev pub first : AtomicStart T → AtomicFlight T
  first starts.AcquireProducer =
      Acquire (record { call = record { word = producer_word }; given = tt; room = tt })
  first starts.ReleaseProducer =
      Release (record { call = record { word = producer_word }; given = tt; room = tt })
  first (starts.Store value) =
      Store (record { call = first_store; given = value; room = tt })
  first starts.Load = Load (record { call = first_load; given = tt; room = fresh })
  first starts.HasProducer =
      Look (record { call = record { word = producer_word }; given = tt; room = tt })
  first starts.Version = Version (record { call = look_version; given = tt; room = tt })

  -- ---- the calls under way

  -- what a call under way wants next
  abbrev pub want : Coding T → AtomicFlight T → Want (Unit {0})
  want code (Acquire run) = acquire_want run.call
  want code (Release run) = release_want run.call
  want code (Store run) = store_want code.words_of run.call run.given
  want code (Load run) = load_want run.call
  want code (Look run) = look_want run.call
  want code (Version run) = version_want run.call

  -- whether the call begins a turn of its loop again once it is handed this old value
  abbrev pub goes_back : AtomicFlight T → ℕ → Bool
  goes_back (Acquire run) old = false
  goes_back (Release run) old = false
  goes_back (Store run) old = false
  goes_back (Load run) old = steps.goes_back run.call.stage old
  goes_back (Look run) old = false
  goes_back (Version run) old = false

  -- how a call under way goes on from the old value of its word
  abbrev pub after : Coding T → AtomicFlight T → ℕ → After (AtomicFlight T) (Answer T)
  after code (Acquire run) old =
      as_call Acquire answers.Truth
      (went_on as_it_is run.given run.room (acquire_after run.call old))
  after code (Release run) old =
      as_call Release (λ _. answers.Done)
      (went_on as_it_is run.given run.room (release_after run.call old))
  after code (Store run) old =
      as_call Store answers.Truth
      (went_on as_it_is run.given run.room (store_after code.size run.call old))
  after code (Load run) old =
      as_call Load answers.Loaded
      (went_on (λ end given room. read_in code room) run.given
      (load_kept kept_at run.call run.room old) (load_after code.size run.call old))
  after code (Look run) old =
      as_call Look answers.Truth
      (went_on as_it_is run.given run.room (look_after run.call old))
  after code (Version run) old =
      as_call Version answers.Number
      (went_on as_it_is run.given run.room (version_after run.call old))

  -- the family's call under way, as one of a machine
  abbrev pub going : Coding T → AtomicFlight T → Going (Flight T) T
  going code flight =
      record {
        want = want code flight;
        after = λ old.
            as_call flights.Atomic (λ answer. answer) (after code flight old);
        rows = λ kept said. [];
        most = 1;
      }
