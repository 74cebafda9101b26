-- What the page of the overflowing queue has to do with the code and with machines.
use Rattle.std.specs.Prelude.{◌≡◌, ℕ, ◌<◌, ◌^◌, Option, Some, None, List, length, map, fold}
use Rattle.steps.specs.declared.ask.After.{After}
use Rattle.steps.specs.declared.ask.After.TheVariants.{GoOn, Done}
use Rattle.steps.specs.declared.queues.overflow.PushStage.{PushStage}
use Rattle.steps.specs.declared.queues.overflow.PushStage.TheVariants as pushes
use Rattle.steps.specs.declared.queues.overflow.PopStage.{PopStage}
use Rattle.steps.specs.declared.queues.overflow.PopStage.TheVariants as pops
use Rattle.steps.specs.Queues.Overflow.{pop_answer, pop_asks, pop_keeps, pop_takes, push_answer, push_asks, push_keeps, push_takes}
use Rattle.steps.specs.Routine.{went_on}
use Rattle.model.specs.declared.event.Answer.{Answer}
use Rattle.model.specs.declared.event.Answer.TheVariants.{PoppedNone, PoppedIndex, Popped}
use Rattle.model.specs.declared.event.Start.{Start}
use Rattle.model.specs.declared.event.Start.TheVariants.{Queues}
use Rattle.model.specs.declared.families.queues.QueueStart.{QueueStart}
use Rattle.model.specs.declared.families.queues.QueueStart.TheVariants as starts
use Rattle.model.specs.declared.families.queues.calls.QueueFlight.{QueueFlight}
use Rattle.model.specs.declared.families.queues.calls.QueueFlight.TheVariants.{Overflow}
use Rattle.model.specs.declared.families.queues.calls.OverflowCall.TheVariants as overflows
use Rattle.model.specs.declared.turn.Kind.TheVariants as kinds
use Rattle.model.specs.declared.turn.Turn.{Turn}
use Rattle.model.specs.declared.turn.Turn.TheVariants.{Begin, Next}
use Rattle.model.specs.Coding.{one_word}
use Rattle.model.specs.Families.{ask_of}
use Rattle.model.specs.Families.Queues.Calls.{after, popped, want}
use Rattle.model.specs.Linearized.{is_push_or_pop}
use Rattle.model.specs.Step.{as_call}
use Rattle.model.specs.Turns.{run}
use Rattle.model.specs.World.{Trace, opening}
use Rattle.pages.specs.RolesBridge.{Naming}
use Rattle.pages.specs.OverflowingQueue as page
use Rattle.pages.specs.Machine as machine
use Rattle.pages.specs.Reading.{IsSame, Reading, asked}
use Rattle.pages.specs.IndexQueueBridge.{acquires, roles_told}

-- ---- stage by stage

-- a call of the page as one of the model
abbrev pub queue_start : page.Call → QueueStart ℕ
queue_start (page.Push value) = starts.PushIndex value
queue_start page.Pop = starts.Pop

-- a push of this value at this stage, as a call of the model
abbrev pub pushing : (capacity value : ℕ) → PushStage → QueueFlight ℕ
pushing capacity value stage =
    Overflow (overflows.Push (record { call = record { capacity = capacity; stage = stage }; given = value; room = record { 0 = 0 } }))

-- a pop has read this value last, or none yet
abbrev pub popping : (capacity value : ℕ) → PopStage → QueueFlight ℕ
popping capacity value stage =
    Overflow (overflows.Pop (record { call = record { capacity = capacity; stage = stage }; given = tt; room = record { 0 = value } }))

-- A stage of the page as a call under way of the model; `before` is what a pop had loaded before it began again, which
-- the page does not keep.
abbrev pub flight : (c before : ℕ) → page.Stage → QueueFlight ℕ
flight c before (page.PushLoadsWrite value) = pushing c value pushes.LoadsWrite
flight c before (page.PushLoadsRead value write) = pushing c value (pushes.LoadsRead write)
flight c before (page.PushStoresCell value write read) = pushing c value (pushes.StoresCell write read)
flight c before (page.PushStoresWrite value write read) = pushing c value (pushes.StoresWrite write read)
flight c before (page.PushMovesRead value read) = pushing c value (pushes.MovesRead read)
flight c before (page.PushLoadsOldest value read) = pushing c value (pushes.LoadsCell read)
flight c before page.PopLoadsRead = popping c before pops.LoadsRead
flight c before (page.PopLoadsWrite read) = popping c before (pops.LoadsWrite read)
flight c before (page.PopLoadsCell read) = popping c before (pops.LoadsCell read)
flight c before (page.PopMovesRead read value) = popping c value (pops.MovesRead read)

-- an answer of the page as one of the model
abbrev pub answered : Option ℕ → Answer ℕ
answered None = PoppedNone
answered (Some value) = PoppedIndex value

-- how a call of the page goes on, as a call of the model
abbrev pub went : (c before : ℕ) → (machine.After page.Stage (Option ℕ)) → After (QueueFlight ℕ) (Answer ℕ)
went c before (machine.GoOn stage) = GoOn (flight c before stage)
went c before (machine.Done answer) = Done (answered answer)

-- what a pop has read once it is past this stage
abbrev pub read_then : ℕ → page.Stage → ℕ
read_then before (page.PopMovesRead read value) = value
read_then before stage = before

-- At each stage a call of the page asks for what the code asks for, and goes on from each old word as the code does.
abbrev pub OverflowingDoesAsTheCode : Type 0
OverflowingDoesAsTheCode =
    (c before : ℕ) (stage : page.Stage)
    → (ask_of (want one_word (flight c before stage)) ≡ Some (asked (page.does c stage).0 (page.does c stage).1))
    × ((old : ℕ) → after one_word (flight c before stage) old ≡ went c (read_then before stage) ((page.does c stage).2 old))

-- what `want` and `after` are for these calls: the tables of the crate `steps`, to which the code's functions are proved equal
abbrev pub OverflowingPushesByTable : Type 0
OverflowingPushesByTable =
    (c value : ℕ) (stage : PushStage) (old : ℕ)
    → (want one_word (pushing c value stage) ≡ push_asks c stage value)
    × (after one_word (pushing c value stage) old
    ≡ as_call (λ r. Overflow (overflows.Push r)) popped
    (went_on (λ end given room. push_answer given room.0 end) value
    (push_keeps (record { 0 = 0 }) stage old)
    (push_takes (record { capacity = c; stage = stage }) stage old)))

abbrev pub OverflowingPopsByTable : Type 0  -- what `want` and `after` are, by the tables of `steps`, for a pop
OverflowingPopsByTable =
    (c value : ℕ) (stage : PopStage) (old : ℕ)
    → (want one_word (popping c value stage) ≡ pop_asks c stage)
    × (after one_word (popping c value stage) old
    ≡ as_call (λ r. Overflow (overflows.Pop r)) popped
    (went_on (λ end given room. pop_answer room.0 end) tt
    (pop_keeps (record { 0 = value }) stage old)
    (pop_takes (record { capacity = c; stage = stage }) stage old)))

-- ---- turn by turn

-- a call of the model as one of the page
abbrev pub call_seen : Start ℕ → page.Call
call_seen (Queues (starts.PushIndex value)) = page.Push value
call_seen (Queues (starts.Push value)) = page.Push value
call_seen other = page.Pop

-- an answer of the model as one of the page: the index that was handed out, if one was
abbrev pub answer_seen : Answer ℕ → Option ℕ
answer_seen (PoppedIndex value) = Some value
answer_seen (Popped value) = Some value
answer_seen other = None

-- the queue's calls and answers, as the page names them
abbrev pub reading : Reading page.Call (Option ℕ)
reading = record { call = call_seen; answer = answer_seen }

-- a turn of the page as one of the model
abbrev pub as_turn : (machine.Turn page.Call) → Turn ℕ
as_turn (machine.Begin p call) = Begin p (Queues (queue_start call))
as_turn (machine.Next p) = Next p

-- the model's machine once parties 0 and 1 have acquired the roles
abbrev pub acquired : ℕ → Trace ℕ
acquired c = run acquires (opening one_word kinds.Overflow c 2)

-- The same turns, once the roles are acquired, lead the page's machine and the model's machine, for a capacity from 1
-- to 2^32 - 1 and up to 2^63 - 1 turns, to the same words and the same history of invocations and responses.
abbrev pub OverflowingRunsAsTheMachine : Type 0
OverflowingRunsAsTheMachine =
    (c : ℕ) (turns : List (machine.Turn page.Call)) → 0 < c → c < 2 ^ 32 → length turns < 2 ^ 63
    → IsSame reading roles_told (run (map as_turn turns) (acquired c))
    (fold (machine.turned (page.overflowing_queue c)) (machine.opening (page.overflowing_queue c)) turns)

-- ---- where roles change hands

-- whoever holds a role is its party of the page
abbrev pub number : ℕ → page.Call → ℕ
number p (page.Push value) = 0
number p page.Pop = 1

-- how the page reads calls and answers, which calls are its own, and by which number a party goes there
abbrev pub by_role : Naming ℕ page.Call (Option ℕ)
by_role = record { reading = reading; is_call = is_push_or_pop; number = number }
