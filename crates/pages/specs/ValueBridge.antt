-- What the page of the single value has to do with the code and with machines.
use Rattle.std.specs.Prelude.{◌≡◌, ◌≤◌, ℕ, ◌+◌, ◌<◌, ◌^◌, true, false, Some, List, [], ◌∷◌, length, map, fold, replicate}
use Rattle.steps.specs.declared.ask.After.{After}
use Rattle.steps.specs.declared.ask.After.TheVariants.{GoOn, Done}
use Rattle.steps.specs.declared.atomic.StoreStage.{StoreStage}
use Rattle.steps.specs.declared.atomic.StoreStage.TheVariants as stores
use Rattle.steps.specs.declared.atomic.LoadStage.{LoadStage}
use Rattle.steps.specs.declared.atomic.LoadStage.TheVariants as loads
use Rattle.steps.specs.Atomic.{before_version, cell_word, load_asks, load_keeps, load_takes, store_asks, store_takes}
use Rattle.steps.specs.Routine.{went_on}
use Rattle.model.specs.declared.event.Answer.{Answer}
use Rattle.model.specs.declared.event.Answer.TheVariants as answers
use Rattle.model.specs.declared.event.Event.{Event}
use Rattle.model.specs.declared.event.Event.TheVariants.{Begun, Finished}
use Rattle.model.specs.declared.event.Start.{Start}
use Rattle.model.specs.declared.event.Start.TheVariants.{Atomic}
use Rattle.model.specs.declared.families.atomic.AtomicStart.{AtomicStart}
use Rattle.model.specs.declared.families.atomic.AtomicStart.TheVariants as starts
use Rattle.model.specs.declared.families.atomic.calls.AtomicFlight.{AtomicFlight}
use Rattle.model.specs.declared.families.atomic.calls.AtomicFlight.TheVariants as flights
use Rattle.model.specs.declared.turn.Kind.TheVariants as kinds
use Rattle.model.specs.declared.turn.Turn.{Turn}
use Rattle.model.specs.declared.turn.Turn.TheVariants.{Begin, Next}
use Rattle.model.specs.Coding.{one_word}
use Rattle.model.specs.Families.{ask_of}
use Rattle.model.specs.Families.Atomic.Calls.{after, want}
use Rattle.model.specs.Families.Queues.Calls.{as_it_is, kept_at, read_in}
use Rattle.model.specs.Linearized.{is_store_or_load}
use Rattle.model.specs.Step.{as_call}
use Rattle.model.specs.Turns.{run}
use Rattle.model.specs.World.{Trace, opening}
use Rattle.pages.specs.RolesBridge.{Naming}
use Rattle.pages.specs.Value as page
use Rattle.pages.specs.Machine as machine
use Rattle.pages.specs.Reading.{IsSame, Reading, asked}

-- ---- stage by stage

-- a call of the page as one of the model
abbrev pub value_start : page.Call → AtomicStart ℕ
value_start (page.StoreValue value) = starts.Store value
value_start page.LoadValue = starts.Load

-- a store of this value at this stage, as a call of the model
abbrev pub storing : ℕ → StoreStage → AtomicFlight ℕ
storing value stage = flights.Store (record { call = record { stage = stage; of = record {} }; given = value; room = tt })

-- a load has read this word last, or none yet
abbrev pub loading : ℕ → LoadStage → AtomicFlight ℕ
loading word stage =
    flights.Load (record { call = record { stage = stage; of = record {} }; given = tt; room = record { words = word ∷ replicate 127 0 } })

-- the page does not name what a load read before it went back
abbrev pub flight : ℕ → page.Stage → AtomicFlight ℕ
flight before (page.StoreLoadsVersion value) = storing value stores.LoadsVersion
flight before (page.StoreStoresCell value version) = storing value (stores.StoresCell (cell_word 1 version) 0)
flight before (page.StoreAddsVersion value) = storing value stores.AddsVersion
flight before page.LoadLoadsVersion = loading before loads.LoadsVersion
flight before (page.LoadLoadsCell version) =
    loading before (loads.LoadsCell version (cell_word 1 (before_version version)) 0)
flight before (page.LoadChecksVersion version value) = loading value (loads.ChecksVersion version)

-- an answer of the page as one of the model
abbrev pub answered : page.Answer → Answer ℕ
answered (page.Stored b) = answers.Truth b
answered (page.Loaded value) = answers.Loaded value

-- how a call of the page goes on, as a call of the model
abbrev pub went : ℕ → (machine.After page.Stage page.Answer) → After (AtomicFlight ℕ) (Answer ℕ)
went before (machine.GoOn stage) = GoOn (flight before stage)
went before (machine.Done answer) = Done (answered answer)

-- what a load has read once it is past this stage
abbrev pub read_then : ℕ → page.Stage → ℕ
read_then before (page.LoadChecksVersion version value) = value
read_then before stage = before

-- At each stage a call of the page asks for what the code asks for, and goes on from each old word as the code does.
abbrev pub ValueDoesAsTheCode : Type 0
ValueDoesAsTheCode =
    (before : ℕ) (stage : page.Stage)
    → (ask_of (want one_word (flight before stage)) ≡ Some (asked (page.does stage).0 (page.does stage).1))
    × ((old : ℕ) → after one_word (flight before stage) old ≡ went (read_then before stage) ((page.does stage).2 old))

-- what `want` and `after` are for these calls: the tables of the crate `steps`, to which the code's functions are proved equal
abbrev pub StoresByTable : Type 0
StoresByTable =
    (value : ℕ) (stage : StoreStage) (old : ℕ)
    → (want one_word (storing value stage) ≡ store_asks one_word.words_of stage value)
    × (after one_word (storing value stage) old
    ≡ as_call flights.Store answers.Truth
    (went_on as_it_is value tt (store_takes 1 (record { stage = stage; of = record {} }) stage old)))

abbrev pub LoadsByTable : Type 0  -- what `want` and `after` are, by the tables of `steps`, for a load
LoadsByTable =
    (word : ℕ) (stage : LoadStage) (old : ℕ)
    → (want one_word (loading word stage) ≡ load_asks stage)
    × (after one_word (loading word stage) old
    ≡ as_call flights.Load answers.Loaded
    (went_on (λ end given room. read_in one_word room) tt
    (load_keeps kept_at (record { words = word ∷ replicate 127 0 }) stage old)
    (load_takes 1 (record { stage = stage; of = record {} }) stage old)))

-- ---- turn by turn

-- a call of the model as one of the page
abbrev pub call_seen : Start ℕ → page.Call
call_seen (Atomic (starts.Store value)) = page.StoreValue value
call_seen other = page.LoadValue

-- an answer of the model as one of the page
abbrev pub answer_seen : Answer ℕ → page.Answer
answer_seen (answers.Truth b) = page.Stored b
answer_seen (answers.Loaded value) = page.Loaded value
answer_seen other = page.Stored false

-- the value's calls and answers, as the page names them
abbrev pub reading : Reading page.Call page.Answer
reading = record { call = call_seen; answer = answer_seen }

-- a turn of the page as one of the model
abbrev pub as_turn : (machine.Turn page.Call) → Turn ℕ
as_turn (machine.Begin p call) = Begin p (Atomic (value_start call))
as_turn (machine.Next p) = Next p

-- the turns in which party 0 acquires the role
abbrev pub acquires : List (Turn ℕ)
acquires = Begin 0 (Atomic starts.AcquireProducer) ∷ Next 0 ∷ []

abbrev pub acquired : ℕ → Trace ℕ  -- the model's machine of `parties` parties once party 0 has acquired the role
acquired parties = run acquires (opening one_word kinds.Atomic 1 parties)

-- the history of the model's machine in which party 0 has acquired the role
abbrev pub role_told : List (Event ℕ)
role_told = Begun 0 (Atomic starts.AcquireProducer) ∷ Finished 0 (Atomic starts.AcquireProducer) (answers.Truth true) ∷ []

-- a number above each party that begins a call in these turns
abbrev pub parties_of : List (machine.Turn page.Call) → ℕ
parties_of [] = 1
parties_of (machine.Begin p call ∷ turns) = p + parties_of turns + 1
parties_of (machine.Next p ∷ turns) = parties_of turns

-- The same turns, once party 0 has acquired the role, lead the page's machine and the model's machine, for up to 2^63 -
-- 1 turns, to the same words and the same history of invocations and responses.
abbrev pub ValueRunsAsTheMachine : Type 0
ValueRunsAsTheMachine =
    (turns : List (machine.Turn page.Call)) (parties : ℕ) → parties_of turns ≤ parties → length turns < 2 ^ 63
    → IsSame reading role_told (run (map as_turn turns) (acquired parties))
    (fold (machine.turned page.value) (machine.opening page.value) turns)

-- ---- where the role changes hands

-- whoever holds the role is party 0 of the page as he stores, and each has a number of his own as he loads
abbrev pub number : ℕ → page.Call → ℕ
number p (page.StoreValue value) = 0
number p page.LoadValue = p + 1

-- how the page reads calls and answers, which calls are its own, and by which number a party goes there
abbrev pub by_role : Naming ℕ page.Call page.Answer
by_role = record { reading = reading; is_call = is_store_or_load; number = number }
