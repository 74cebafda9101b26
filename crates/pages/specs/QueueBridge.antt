-- What the page of the queue of values has to do with the code and with machines.
use Rattle.std.specs.Prelude.{◌≡◌, ℕ, ◌-◌, ◌<◌, ◌^◌, ◌==◌, ◌++◌, false, Some, None, List, [], length, map, fold, replicate}
use Rattle.steps.specs.declared.ask.After.{After}
use Rattle.steps.specs.declared.ask.After.TheVariants.{GoOn, Done}
use Rattle.steps.specs.declared.copied.Buffer.{Buffer}
use Rattle.steps.specs.declared.queues.ring.PushStage.{PushStage}
use Rattle.steps.specs.declared.queues.ring.PushStage.TheVariants as pushes
use Rattle.steps.specs.declared.queues.ring.PopStage.{PopStage}
use Rattle.steps.specs.declared.queues.ring.PopStage.TheVariants as pops
use Rattle.steps.specs.Queues.Ring.{cell_word, pop_answer, pop_asks, pop_keeps, pop_takes, push_asks, push_takes}
use Rattle.steps.specs.Routine.{went_on}
use Rattle.model.specs.declared.event.Answer.{Answer}
use Rattle.model.specs.declared.event.Answer.TheVariants.{Truth, PoppedNone, PoppedIndex, Popped}
use Rattle.model.specs.declared.event.Start.{Start}
use Rattle.model.specs.declared.event.Start.TheVariants.{Queues}
use Rattle.model.specs.declared.families.queues.QueueStart.{QueueStart}
use Rattle.model.specs.declared.families.queues.QueueStart.TheVariants as starts
use Rattle.model.specs.declared.families.queues.calls.QueueFlight.{QueueFlight}
use Rattle.model.specs.declared.families.queues.calls.QueueFlight.TheVariants.{Values}
use Rattle.model.specs.declared.families.queues.calls.RingCall.TheVariants as rings
use Rattle.model.specs.declared.turn.Kind.TheVariants as kinds
use Rattle.model.specs.declared.turn.Turn.{Turn}
use Rattle.model.specs.declared.turn.Turn.TheVariants.{Begin, Next}
use Rattle.model.specs.Coding.{Coding, coding_of}
use Rattle.model.specs.Families.{ask_of}
use Rattle.model.specs.Families.Queues.Calls.{after, as_it_is, kept_at, popped_value, read_in, want}
use Rattle.model.specs.Linearized.{is_push_or_pop}
use Rattle.model.specs.Step.{as_call}
use Rattle.model.specs.Turns.{run}
use Rattle.model.specs.World.{Trace, opening}
use Rattle.pages.specs.RolesBridge.{Naming}
use Rattle.pages.specs.Queue as page
use Rattle.pages.specs.Machine as machine
use Rattle.pages.specs.Reading.{IsSame, ReadingOf, asked}
use Rattle.pages.specs.IndexQueueBridge.{acquires, roles_told}

-- the model's coding of the same values
abbrev pub code_of : {T : Type 0} → page.Written T → Coding T
code_of how = coding_of how.size how.words_of how.value_of

-- ---- stage by stage

-- the room of a pop that has loaded these words
abbrev pub room_of : List ℕ → Buffer 128
room_of loaded = record { words = loaded ++ replicate (128 - length loaded) 0 }

module _ {T : Type 0} where
  -- a call of the page as one of the model
  abbrev pub queue_start : page.Call T → QueueStart T
  queue_start (page.Push value) = starts.Push value
  queue_start page.Pop = starts.Pop

  -- a push of this value at this stage, as a call of the model
  abbrev pub pushing : ℕ → T → PushStage → QueueFlight T
  pushing capacity value stage =
      Values (rings.Push (record { call = record { capacity = capacity; stage = stage; of = record {} }; given = value; room = tt }))

  -- a pop at this stage, with what it has loaded, as a call of the model
  abbrev pub popping : ℕ → Buffer 128 → PopStage → QueueFlight T
  popping capacity room stage =
      Values (rings.Pop (record { call = record { capacity = capacity; stage = stage; of = record {} }; given = tt; room = room }))

  -- an answer of the page as one of the model
  abbrev pub answered : page.Answer T → Answer T
  answered (page.Pushed b) = Truth b
  answered (page.Popped None) = PoppedNone
  answered (page.Popped (Some value)) = Popped value

module _ {T : Type 0} (how : page.Written T) (c : ℕ) where
  -- a stage of the page as a call under way of the model, in a queue of capacity c
  abbrev pub flight : page.Stage T → QueueFlight T
  flight (page.PushLoadsWrite value) = pushing c value pushes.LoadsWrite
  flight (page.PushLoadsRead value write) = pushing c value (pushes.LoadsRead write)
  flight (page.PushStoresCell value write stored) = pushing c value (pushes.StoresCell write (cell_word c how.size write) stored)
  flight (page.PushStoresWrite value write) = pushing c value (pushes.StoresWrite write)
  flight page.PopLoadsRead = popping c (room_of []) pops.LoadsRead
  flight (page.PopLoadsWrite read) = popping c (room_of []) (pops.LoadsWrite read)
  flight (page.PopLoadsCell read loaded) =
      popping c (room_of loaded) (pops.LoadsCell read (cell_word c how.size read) (length loaded))
  flight (page.PopStoresRead read loaded) = popping c (room_of loaded) (pops.StoresRead read)

  -- how a call of the page goes on, as a call of the model
  abbrev pub went : machine.After (page.Stage T) (page.Answer T) → After (QueueFlight T) (Answer T)
  went (machine.GoOn stage) = GoOn (flight stage)
  went (machine.Done answer) = Done (answered answer)

  -- A call that goes to a cell has found that there is one, and has still a word to copy. One that is past it has all.
  abbrev pub Fits : page.Stage T → Type 0
  Fits (page.PushStoresCell value write stored) = ((c == 0) ≡ false) × (stored < how.size)
  Fits (page.PopLoadsCell read loaded) = ((c == 0) ≡ false) × (length loaded < how.size)
  Fits (page.PopStoresRead read loaded) = length loaded ≡ how.size
  Fits stage = Unit {0}

-- At each stage a call of the page asks for what the code asks for, and goes on from each old word as the code does.
abbrev pub QueueDoesAsTheCode : Type 0 → Type 0
QueueDoesAsTheCode T =
    (how : page.Written T) (c : ℕ) (stage : page.Stage T) → c < 2 ^ 32 → Fits how c stage
    → (ask_of (want (code_of how) (flight how c stage)) ≡ Some (asked (page.does how c stage).0 (page.does how c stage).1))
    × ((old : ℕ) → after (code_of how) (flight how c stage) old ≡ went how c ((page.does how c stage).2 old))

-- what `want` and `after` are for these calls: the tables of the crate `steps`, to which the code's functions are proved equal
abbrev pub QueuePushesByTable : Type 0 → Type 0
QueuePushesByTable T =
    (code : Coding T) (c : ℕ) (value : T) (stage : PushStage) (old : ℕ)
    → (want code (pushing c value stage) ≡ push_asks code.words_of stage value)
    × (after code (pushing c value stage) old
    ≡ as_call (λ r. Values (rings.Push r)) Truth
    (went_on as_it_is value tt (push_takes code.size (record { capacity = c; stage = stage; of = record {} }) stage old)))

abbrev pub QueuePopsByTable : Type 0 → Type 0  -- what `want` and `after` are, by the tables of `steps`, for a pop
QueuePopsByTable T =
    (code : Coding T) (c : ℕ) (room : Buffer 128) (stage : PopStage) (old : ℕ)
    → (want code (popping {T = T} c room stage) ≡ pop_asks stage)
    × (after code (popping c room stage) old
    ≡ as_call (λ r. Values (rings.Pop r)) popped_value
    (went_on (λ end given room. pop_answer (read_in code room) end) tt (pop_keeps kept_at room stage old)
    (pop_takes code.size (record { capacity = c; stage = stage; of = record {} }) stage old)))

-- ---- turn by turn

module _ {T : Type 0} where
  -- a queue of values has no calls of indices
  abbrev pub call_seen : page.Written T → Start T → page.Call T
  call_seen how (Queues (starts.PushIndex value)) = page.Push (how.value_of (replicate how.size 0))
  call_seen how (Queues (starts.Push value)) = page.Push value
  call_seen how other = page.Pop

  -- an answer of the model as one of the page; a queue of values answers no index
  abbrev pub answer_seen : page.Written T → Answer T → page.Answer T
  answer_seen how (Truth b) = page.Pushed b
  answer_seen how (PoppedIndex value) = page.Popped (Some (how.value_of (replicate how.size 0)))
  answer_seen how (Popped value) = page.Popped (Some value)
  answer_seen how other = page.Popped None

  -- the queue's calls and answers, as the page names them
  abbrev pub reading : page.Written T → ReadingOf T (page.Call T) (page.Answer T)
  reading how = record { call = call_seen how; answer = answer_seen how }

  -- a turn of the page as one of the model
  abbrev pub as_turn : machine.Turn (page.Call T) → Turn T
  as_turn (machine.Begin p call) = Begin p (Queues (queue_start call))
  as_turn (machine.Next p) = Next p

  -- the model's machine once parties 0 and 1 have acquired the roles
  abbrev pub acquired : page.Written T → ℕ → Trace T
  acquired how c = run acquires (opening (code_of how) kinds.Queue c 2)

-- The same turns, once the roles are acquired, lead the page's machine and the model's machine, for a capacity of up to
-- 2^32 - 1 and up to 2^63 - 1 turns, to the same words and the same history of invocations and responses.
abbrev pub QueueRunsAsTheMachine : Type 0 → Type 0
QueueRunsAsTheMachine T =
    (how : page.Written T) (c : ℕ) (turns : List (machine.Turn (page.Call T))) → c < 2 ^ 32 → length turns < 2 ^ 63
    → IsSame (reading how) roles_told (run (map as_turn turns) (acquired how c))
    (fold (machine.turned (page.queue how c)) (machine.opening (page.queue how c)) turns)

-- ---- where roles change hands

module _ {T : Type 0} where
  -- whoever holds a role is its party of the page
  abbrev pub number : ℕ → page.Call T → ℕ
  number p (page.Push value) = 0
  number p page.Pop = 1

  -- how the page reads calls and answers, which calls are its own, and by which number a party goes there
  abbrev pub by_role : page.Written T → Naming T (page.Call T) (page.Answer T)
  by_role how = record { reading = reading how; is_call = is_push_or_pop; number = number }
