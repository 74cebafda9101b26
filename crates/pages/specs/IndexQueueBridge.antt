-- What the page of the index queue has to do with the code and with machines.
use Rattle.std.specs.Prelude.{◌≡◌, ℕ, ◌<◌, ◌^◌, ◌==◌, true, false, Some, None, List, [], ◌∷◌, length, map, fold}
use Rattle.steps.specs.declared.ask.After.{After}
use Rattle.steps.specs.declared.ask.After.TheVariants.{GoOn, Done}
use Rattle.steps.specs.declared.queues.ring.PushStage.{PushStage}
use Rattle.steps.specs.declared.queues.ring.PushStage.TheVariants as pushes
use Rattle.steps.specs.declared.queues.ring.PopStage.{PopStage}
use Rattle.steps.specs.declared.queues.ring.PopStage.TheVariants as pops
use Rattle.steps.specs.Copied.{kept_in_one}
use Rattle.steps.specs.Queues.Ring.{cell_word, pop_answer, pop_asks, pop_keeps, pop_takes, push_asks, push_takes}
use Rattle.steps.specs.Routine.{went_on}
use Rattle.model.specs.declared.event.Answer.{Answer}
use Rattle.model.specs.declared.event.Answer.TheVariants.{Truth, PoppedNone, PoppedIndex, Popped}
use Rattle.model.specs.declared.event.Event.{Event}
use Rattle.model.specs.declared.event.Event.TheVariants.{Begun, Finished}
use Rattle.model.specs.declared.event.Start.{Start}
use Rattle.model.specs.declared.event.Start.TheVariants.{Queues}
use Rattle.model.specs.declared.families.queues.QueueStart.{QueueStart}
use Rattle.model.specs.declared.families.queues.QueueStart.TheVariants as starts
use Rattle.model.specs.declared.families.queues.QueueStart.TheVariants.{PushIndex, Push}
use Rattle.model.specs.declared.families.queues.calls.QueueFlight.{QueueFlight}
use Rattle.model.specs.declared.families.queues.calls.QueueFlight.TheVariants.{Indices}
use Rattle.model.specs.declared.families.queues.calls.RingCall.TheVariants as rings
use Rattle.model.specs.declared.turn.Kind.TheVariants as kinds
use Rattle.model.specs.declared.turn.Turn.{Turn}
use Rattle.model.specs.declared.turn.Turn.TheVariants.{Begin, Next}
use Rattle.model.specs.Coding.{one_word}
use Rattle.model.specs.Families.{ask_of}
use Rattle.model.specs.Families.Queues.Calls.{after, as_it_is, popped, want, words_of_index}
use Rattle.model.specs.Linearized.{is_push_or_pop}
use Rattle.model.specs.Step.{as_call}
use Rattle.model.specs.Turns.{run}
use Rattle.model.specs.World.{Trace, opening}
use Rattle.pages.specs.RolesBridge.{Naming}
use Rattle.pages.specs.IndexQueue as page
use Rattle.pages.specs.Machine as machine
use Rattle.pages.specs.Reading.{IsSame, Reading, asked}

-- ---- stage by stage

-- a call of the page as one of the model
abbrev pub queue_start : page.Call → QueueStart ℕ
queue_start (page.Push value) = starts.PushIndex value
queue_start page.Pop = starts.Pop

-- a push of this value at this stage, as a call of the model
abbrev pub pushing : (capacity value : ℕ) → PushStage → QueueFlight ℕ
pushing capacity value stage =
    Indices (rings.Push (record { call = record { capacity = capacity; stage = stage; of = record {} }; given = value; room = tt }))

-- a pop at this stage, with what it has loaded, as a call of the model
abbrev pub popping : (capacity value : ℕ) → PopStage → QueueFlight ℕ
popping capacity value stage =
    Indices (rings.Pop (record { call = record { capacity = capacity; stage = stage; of = record {} }; given = tt; room = record { 0 = value } }))

-- a stage of the page as a call under way of the model, in a queue of capacity c
abbrev pub flight : ℕ → page.Stage → QueueFlight ℕ
flight c (page.PushLoadsWrite value) = pushing c value pushes.LoadsWrite
flight c (page.PushLoadsRead value write) = pushing c value (pushes.LoadsRead write)
flight c (page.PushStoresCell value write) = pushing c value (pushes.StoresCell write (cell_word c 1 write) 0)
flight c (page.PushStoresWrite value write) = pushing c value (pushes.StoresWrite write)
flight c page.PopLoadsRead = popping c 0 pops.LoadsRead
flight c (page.PopLoadsWrite read) = popping c 0 (pops.LoadsWrite read)
flight c (page.PopLoadsCell read) = popping c 0 (pops.LoadsCell read (cell_word c 1 read) 0)
flight c (page.PopStoresRead read value) = popping c value (pops.StoresRead read)

-- an answer of the page as one of the model
abbrev pub answered : page.Answer → Answer ℕ
answered (page.Pushed b) = Truth b
answered (page.Popped None) = PoppedNone
answered (page.Popped (Some value)) = PoppedIndex value

-- how a call of the page goes on, as a call of the model
abbrev pub went : ℕ → (machine.After page.Stage page.Answer) → After (QueueFlight ℕ) (Answer ℕ)
went c (machine.GoOn stage) = GoOn (flight c stage)
went c (machine.Done answer) = Done (answered answer)

-- a stage that a call comes to: at a cell it has found that there is one
abbrev pub Fits : ℕ → page.Stage → Type 0
Fits c (page.PushStoresCell value write) = (c == 0) ≡ false
Fits c (page.PopLoadsCell read) = (c == 0) ≡ false
Fits c stage = Unit {0}

-- At each stage a call of the page asks for what the code asks for, and goes on from each old word as the code does.
abbrev pub DoesAsTheCode : Type 0
DoesAsTheCode =
    (c : ℕ) (stage : page.Stage) → c < 2 ^ 32 → Fits c stage
    → (ask_of (want one_word (flight c stage)) ≡ Some (asked (page.does c stage).0 (page.does c stage).1))
    × ((old : ℕ) → after one_word (flight c stage) old ≡ went c ((page.does c stage).2 old))

-- what `want` and `after` are for these calls: the tables of the crate `steps`, to which the code's functions are proved equal
abbrev pub PushesByTable : Type 0
PushesByTable =
    (c value : ℕ) (stage : PushStage) (old : ℕ)
    → (want one_word (pushing c value stage) ≡ push_asks words_of_index stage value)
    × (after one_word (pushing c value stage) old
    ≡ as_call (λ r. Indices (rings.Push r)) Truth
    (went_on as_it_is value tt (push_takes 1 (record { capacity = c; stage = stage; of = record {} }) stage old)))

abbrev pub PopsByTable : Type 0  -- what `want` and `after` are, by the tables of `steps`, for a pop
PopsByTable =
    (c value : ℕ) (stage : PopStage) (old : ℕ)
    → (want one_word (popping c value stage) ≡ pop_asks stage)
    × (after one_word (popping c value stage) old
    ≡ as_call (λ r. Indices (rings.Pop r)) popped
    (went_on (λ end given room. pop_answer room.0 end) tt (pop_keeps kept_in_one (record { 0 = value }) stage old)
    (pop_takes 1 (record { capacity = c; stage = stage; of = record {} }) stage old)))

-- ---- turn by turn

-- a call of the model as one of the page
abbrev pub call_seen : Start ℕ → page.Call
call_seen (Queues (PushIndex value)) = page.Push value
call_seen (Queues (Push value)) = page.Push value
call_seen other = page.Pop

-- an answer of the model as one of the page
abbrev pub answer_seen : Answer ℕ → page.Answer
answer_seen (Truth b) = page.Pushed b
answer_seen (PoppedIndex value) = page.Popped (Some value)
answer_seen (Popped value) = page.Popped (Some value)
answer_seen other = page.Popped None

-- the queue's calls and answers, as the page names them
abbrev pub reading : Reading page.Call page.Answer
reading = record { call = call_seen; answer = answer_seen }

-- a turn of the page as one of the model
abbrev pub as_turn : (machine.Turn page.Call) → Turn ℕ
as_turn (machine.Begin p call) = Begin p (Queues (queue_start call))
as_turn (machine.Next p) = Next p

-- the turns in which parties 0 and 1 acquire the roles
abbrev pub acquires : {T : Type 0} → List (Turn T)
acquires = Begin 0 (Queues starts.AcquireProducer) ∷ Next 0 ∷ Begin 1 (Queues starts.AcquireConsumer) ∷ Next 1 ∷ []

-- the model's machine once parties 0 and 1 have acquired the roles
abbrev pub acquired : ℕ → Trace ℕ
acquired c = run acquires (opening one_word kinds.IndexQueue c 2)

-- the history of the model's machine in which party 0 has acquired the producer's role and party 1 the consumer's
abbrev pub roles_told : {T : Type 0} → List (Event T)
roles_told =
    Begun 0 (Queues starts.AcquireProducer)
    ∷ Finished 0 (Queues starts.AcquireProducer) (Truth true)
    ∷ Begun 1 (Queues starts.AcquireConsumer)
    ∷ Finished 1 (Queues starts.AcquireConsumer) (Truth true)
    ∷ []

-- The same turns, once the roles are acquired, lead the page's machine and the model's machine, for a capacity of up to
-- 2^32 - 1 and up to 2^63 - 1 turns, to the same words and the same history of invocations and responses.
abbrev pub RunsAsTheMachine : Type 0
RunsAsTheMachine =
    (c : ℕ) (turns : List (machine.Turn page.Call)) → c < 2 ^ 32 → length turns < 2 ^ 63
    → IsSame reading roles_told (run (map as_turn turns) (acquired c)) (fold (machine.turned (page.index_queue c)) (machine.opening (page.index_queue c)) turns)

-- ---- where roles change hands

-- whoever holds a role is its party of the page
abbrev pub number : ℕ → page.Call → ℕ
number p (page.Push value) = 0
number p page.Pop = 1

-- how the page reads calls and answers, which calls are its own, and by which number a party goes there
abbrev pub by_role : Naming ℕ page.Call page.Answer
by_role = record { reading = reading; is_call = is_push_or_pop; number = number }
