-- What the page of the unique index set has to do with the code and with machines.
use Rattle.std.specs.Prelude.{◌≡◌, ℕ, ◌-◌, ◌<◌, ◌^◌, Bool, true, false, Some, List, [], length, map, fold}
use Rattle.steps.specs.declared.ask.After.{After}
use Rattle.steps.specs.declared.ask.After.TheVariants.{GoOn, Done}
use Rattle.steps.specs.declared.indices.enums.ReleaseMode.{ReleaseMode}
use Rattle.steps.specs.declared.indices.enums.ReleaseMode.TheVariants.{LockIfLastIndex, Default}
use Rattle.steps.specs.declared.indices.enums.ReleaseState.TheVariants as states
use Rattle.steps.specs.declared.indices.enums.UniqueIndexSetAcquireFailure.TheVariants as failures
use Rattle.steps.specs.declared.indices.unique.AcquireStage.{AcquireStage}
use Rattle.steps.specs.declared.indices.unique.AcquireStage.TheVariants as acquires
use Rattle.steps.specs.declared.indices.unique.ReleaseStage.{ReleaseStage}
use Rattle.steps.specs.declared.indices.unique.ReleaseStage.TheVariants as releases
use Rattle.steps.specs.Indices.Unique.{acquire_asks, acquire_takes, at_acquire, at_release, first_acquire, first_release}
use Rattle.steps.specs.Indices.Unique.{release_asks, release_takes}
use Rattle.steps.specs.Routine.{went_on}
use Rattle.model.specs.declared.event.Answer.{Answer}
use Rattle.model.specs.declared.event.Answer.TheVariants as answers
use Rattle.model.specs.declared.event.Start.{Start}
use Rattle.model.specs.declared.event.Start.TheVariants.{Indices}
use Rattle.model.specs.declared.families.indices.IndexStart.{IndexStart}
use Rattle.model.specs.declared.families.indices.IndexStart.TheVariants as starts
use Rattle.model.specs.declared.families.indices.calls.IndexFlight.{IndexFlight}
use Rattle.model.specs.declared.families.indices.calls.IndexFlight.TheVariants as flights
use Rattle.model.specs.declared.turn.Kind.TheVariants as kinds
use Rattle.model.specs.declared.turn.Turn.{Turn}
use Rattle.model.specs.declared.turn.Turn.TheVariants.{Begin, Next}
use Rattle.model.specs.Coding.{one_word}
use Rattle.model.specs.Families.{ask_of}
use Rattle.model.specs.Families.Indices.Calls.{acquire_answer, after, want}
use Rattle.model.specs.Families.Queues.Calls.{as_it_is}
use Rattle.model.specs.Step.{as_call}
use Rattle.model.specs.Turns.{run}
use Rattle.model.specs.World.{Trace, opening}
use Rattle.pages.specs.BitSetBridge.{AreWithin}
use Rattle.pages.specs.Machine as machine
use Rattle.pages.specs.Reading.{IsSame, Reading, asked}
use Rattle.pages.specs.UniqueIndexSet as page

-- ---- stage by stage

-- the mode of a release that may lock or not
abbrev pub mode : Bool → ReleaseMode
mode true = LockIfLastIndex
mode false = Default

-- a call of the page as one of the model
abbrev pub index_start : page.Call → IndexStart
index_start page.Acquire = starts.Acquire
index_start (page.Release index may_lock) = starts.Release index (mode may_lock)

-- an acquire at this stage, as a call of the model
abbrev pub acquiring : ℕ → AcquireStage → IndexFlight
acquiring c stage = flights.Acquire (record { call = at_acquire (first_acquire c) stage; given = tt; room = tt })

-- a release of this index at this stage, as a call of the model
abbrev pub releasing : (c index : ℕ) → Bool → ReleaseStage → IndexFlight
releasing c index true stage = flights.ReleaseLock (record { call = at_release (first_release c) stage; given = index; room = tt })
releasing c index false stage = flights.ReleaseDefault (record { call = at_release (first_release c) stage; given = index; room = tt })

-- a stage of the page as a call under way of the model, in a set of capacity c
abbrev pub flight : ℕ → page.Stage → IndexFlight
flight c page.AcquireLoadsHead = acquiring c acquires.LoadsHead
flight c (page.AcquireLoadsNext head) = acquiring c (acquires.LoadsNext head)
flight c (page.AcquireExchangesHead head next) = acquiring c (acquires.ExchangesHead head next)
flight c (page.AcquireClaims index) = acquiring c (acquires.Claims index)
flight c (page.AcquireScans index) = acquiring c (acquires.Scans index)
flight c (page.ReleaseClearsFlag index may_lock) = releasing c index may_lock releases.ClearsFlag
flight c (page.ReleaseLoadsHead index may_lock) = releasing c index may_lock releases.LoadsHead
flight c (page.ReleaseStoresNext index may_lock head) = releasing c index may_lock (releases.StoresNext head)
flight c (page.ReleaseExchangesHead index may_lock head) = releasing c index may_lock (releases.ExchangesHead head)
flight c (page.ReleaseSubtracts index) = releasing c index false releases.Subtracts

-- an answer of the page as one of the model
abbrev pub answered : page.Answer → Answer ℕ
answered (page.Acquired index) = answers.Index index
answered page.OutOfIndices = answers.NoIndex failures.OutOfIndices
answered page.IsLocked = answers.NoIndex failures.IsLocked
answered (page.Released true) = answers.State states.Locked
answered (page.Released false) = answers.State states.Unlocked

-- how a call of the page goes on, as a call of the model
abbrev pub went : ℕ → (machine.After page.Stage page.Answer) → After IndexFlight (Answer ℕ)
went c (machine.GoOn stage) = GoOn (flight c stage)
went c (machine.Done answer) = Done (answered answer)

-- At each stage a call of the page asks for what the code asks for, and goes on from each old word as the code does.
abbrev pub UniqueDoesAsTheCode : Type 0
UniqueDoesAsTheCode =
    (c : ℕ) (stage : page.Stage)
    → (ask_of (want (flight c stage)) ≡ Some (asked (page.does c stage).0 (page.does c stage).1))
    × ((old : ℕ) → after (flight c stage) old ≡ went c ((page.does c stage).2 old))

-- what `want` and `after` are for these calls: the tables of the crate `steps`, to which the code's functions are proved equal
abbrev pub AcquiresByTable : Type 0
AcquiresByTable =
    (c : ℕ) (stage : AcquireStage) (old : ℕ)
    → (want (acquiring c stage) ≡ acquire_asks c stage)
    × (after {T = ℕ} (acquiring c stage) old
    ≡ as_call flights.Acquire acquire_answer
    (went_on as_it_is tt tt (acquire_takes (at_acquire (first_acquire c) stage) stage old)))

-- what `want` and `after` are, by the tables of `steps`, for a release in the default mode
abbrev pub ReleasesByTable : Type 0
ReleasesByTable =
    (c index : ℕ) (stage : ReleaseStage) (old : ℕ)
    → (want (releasing c index false stage) ≡ release_asks false c index stage)
    × (after {T = ℕ} (releasing c index false stage) old
    ≡ as_call flights.ReleaseDefault answers.State
    (went_on as_it_is index tt (release_takes false (at_release (first_release c) stage) stage old)))

-- what `want` and `after` are, by the tables of `steps`, for a release in the mode that locks
abbrev pub LockingReleasesByTable : Type 0
LockingReleasesByTable =
    (c index : ℕ) (stage : ReleaseStage) (old : ℕ)
    → (want (releasing c index true stage) ≡ release_asks true c index stage)
    × (after {T = ℕ} (releasing c index true stage) old
    ≡ as_call flights.ReleaseLock answers.State
    (went_on as_it_is index tt (release_takes true (at_release (first_release c) stage) stage old)))

-- ---- turn by turn

-- a call of the model as one of the page
abbrev pub call_seen : Start ℕ → page.Call
call_seen (Indices (starts.Release index LockIfLastIndex)) = page.Release index true
call_seen (Indices (starts.Release index Default)) = page.Release index false
call_seen other = page.Acquire

-- an answer of the model as one of the page
abbrev pub answer_seen : Answer ℕ → page.Answer
answer_seen (answers.Index index) = page.Acquired index
answer_seen (answers.NoIndex failures.OutOfIndices) = page.OutOfIndices
answer_seen (answers.NoIndex failures.IsLocked) = page.IsLocked
answer_seen (answers.State states.Locked) = page.Released true
answer_seen other = page.Released false

-- the set's calls and answers, as the page names them
abbrev pub reading : Reading page.Call page.Answer
reading = record { call = call_seen; answer = answer_seen }

-- a turn of the page as one of the model
abbrev pub as_turn : (machine.Turn page.Call) → Turn ℕ
as_turn (machine.Begin p call) = Begin p (Indices (index_start call))
as_turn (machine.Next p) = Next p

-- The same turns lead the page's machine and the model's machine, for 1 to 2^24 -
-- 2 indices and up to 2^63 - 1 turns, to the same words and the same history,
-- where each index is released by its holder; the model refuses any other release.
abbrev pub UniqueRunsAsTheMachine : Type 0
UniqueRunsAsTheMachine =
    (c parties : ℕ) (turns : List (machine.Turn page.Call)) → 0 < c → c < 2 ^ 24 - 1 → AreWithin parties turns → length turns < 2 ^ 63
    → (let w = fold (machine.turned (page.unique_index_set c)) (machine.opening (page.unique_index_set c)) turns in
    page.Each page.ReleasesOwn w.history
    → IsSame reading [] (run (map as_turn turns) (opening one_word kinds.Indices c parties)) w)

-- what `UniqueRunsAsTheMachine` says, of a trace that is a run of such turns
abbrev pub UniqueIsRun : Trace ℕ → Type 0
UniqueIsRun t =
    (c parties : ℕ) (turns : List (machine.Turn page.Call)) → 0 < c → c < 2 ^ 24 - 1 → AreWithin parties turns → length turns < 2 ^ 63
    → page.Each page.ReleasesOwn (fold (machine.turned (page.unique_index_set c)) (machine.opening (page.unique_index_set c)) turns).history
    → t ≡ run (map as_turn turns) (opening one_word kinds.Indices c parties)
    → (let w = fold (machine.turned (page.unique_index_set c)) (machine.opening (page.unique_index_set c)) turns in
    IsSame reading [] t w)
