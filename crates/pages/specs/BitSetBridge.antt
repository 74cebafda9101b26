-- What the page of the bit set has to do with the code and with machines.
use Rattle.std.specs.Prelude.{◌≡◌, ℕ, ◌+◌, ◌<◌, ◌^◌, Option, Some, None, List, ◌++◌, length, map, fold}
use Rattle.std.specs.List.{AllByRecursion}
use Rattle.steps.specs.declared.ask.After.{After}
use Rattle.steps.specs.declared.ask.After.TheVariants.{GoOn, Done}
use Rattle.steps.specs.declared.bits.bit_set.SetStage.{SetStage}
use Rattle.steps.specs.declared.bits.bit_set.SetStage.TheVariants as sets
use Rattle.steps.specs.declared.bits.bit_set.ResetNextStage.{ResetNextStage}
use Rattle.steps.specs.declared.bits.bit_set.ResetNextStage.TheVariants as resets
use Rattle.steps.specs.Bits.BitSet.{at_reset, at_set, first_reset, reset_asks, reset_takes, set_asks, set_takes}
use Rattle.steps.specs.Bits.Places.{places_in}
use Rattle.steps.specs.Bits.ResetAll.{reset_all_after, reset_all_kept, reset_all_want}
use Rattle.steps.specs.Bits.Words.{elements}
use Rattle.steps.specs.Routine.{went_on}
use Rattle.model.specs.declared.event.Answer.{Answer}
use Rattle.model.specs.declared.event.Answer.TheVariants as answers
use Rattle.model.specs.declared.event.Event.{Event}
use Rattle.model.specs.declared.event.Event.TheVariants.{Cleared}
use Rattle.model.specs.declared.event.Start.{Start}
use Rattle.model.specs.declared.event.Start.TheVariants.{Bits}
use Rattle.model.specs.declared.families.bits.BitsStart.{BitsStart}
use Rattle.model.specs.declared.families.bits.BitsStart.TheVariants as starts
use Rattle.model.specs.declared.families.bits.calls.BitsFlight.{BitsFlight}
use Rattle.model.specs.declared.families.bits.calls.BitsFlight.TheVariants as flights
use Rattle.model.specs.declared.turn.Kind.TheVariants as kinds
use Rattle.model.specs.declared.turn.Turn.{Turn}
use Rattle.model.specs.declared.turn.Turn.TheVariants.{Begin, Next}
use Rattle.model.specs.Coding.{one_word}
use Rattle.model.specs.Families.{ask_of}
use Rattle.model.specs.Families.Bits.Calls.{after, reset_answer, want}
use Rattle.model.specs.Families.Bits.Steps.{effects_of}
use Rattle.model.specs.Families.Queues.Calls.{as_it_is}
use Rattle.model.specs.Step.{as_call}
use Rattle.model.specs.Turns.{run}
use Rattle.model.specs.World.{Trace, opening}
use Rattle.pages.specs.BitSet as page
use Rattle.pages.specs.Machine as machine
use Rattle.pages.specs.Handed.{HandedReading, IsTold}
use Rattle.pages.specs.Reading.{asked}

-- ---- stage by stage

-- a call of the page as one of the model
abbrev pub bits_start : page.Call → BitsStart
bits_start (page.Set place) = starts.Set place
bits_start page.ResetNext = starts.ResetNext
bits_start page.ResetAll = starts.ResetAll

-- a set of this place at this stage, as a call of the model
abbrev pub setting : ℕ → SetStage → BitsFlight
setting place stage = flights.Set (record { call = at_set stage; given = place; room = tt })

-- a reset of the next place at this stage, as a call of the model
abbrev pub nexting : ℕ → ResetNextStage → BitsFlight
nexting c stage = flights.ResetNext (record { call = at_reset (first_reset c) stage; given = tt; room = tt })

-- a reset of all has found this in the element that it swapped last
abbrev pub emptying : (c found word : ℕ) → BitsFlight
emptying c found word =
    flights.ResetAll (record { call = record { word = word; end = 1 + elements c }; given = tt; room = record { 0 = found } })

-- a stage of the page as a call under way of the model; `found` is what a reset of all found in the element before
abbrev pub flight : (c found : ℕ) → page.Stage → BitsFlight
flight c found (page.SetLoadsElement place) = setting place sets.LoadsElement
flight c found (page.SetExchangesElement place element) = setting place (sets.ExchangesElement element)
flight c found page.NextLoadsPosition = nexting c resets.LoadsPosition
flight c found (page.NextLoadsElement start passed) = nexting c (resets.LoadsElement start passed)
flight c found (page.NextExchangesElement start passed element) = nexting c (resets.ExchangesElement start passed element)
flight c found (page.NextStoresPosition place) = nexting c (resets.StoresPosition place)
flight c found (page.AllSwapsElement word places) = emptying c found word

-- what a reset of all handed out is no part of a machine's answer
abbrev pub answered : page.Answer → Answer ℕ
answered (page.WasSet new) = answers.Truth new
answered (page.WasReset place) = reset_answer place
answered (page.WereReset places) = answers.Done

-- how a call of the page goes on, as a call of the model: `found` is the old word
abbrev pub went : (c found : ℕ) → (machine.After page.Stage page.Answer) → After BitsFlight (Answer ℕ)
went c found (machine.GoOn stage) = GoOn (flight c found stage)
went c found (machine.Done answer) = Done (answered answer)

-- a stage that a call comes to: a reset of all has an element left
abbrev pub Fits : ℕ → page.Stage → Type 0
Fits c (page.AllSwapsElement word places) = word < 1 + elements c
Fits c stage = Unit {0}

-- At each stage a call of the page asks for what the code asks for, and goes on from each old word as the code does.
abbrev pub BitSetDoesAsTheCode : Type 0
BitSetDoesAsTheCode =
    (c found : ℕ) (stage : page.Stage) → Fits c stage
    → (ask_of (want (flight c found stage)) ≡ Some (asked (page.does c stage).0 (page.does c stage).1))
    × ((old : ℕ) → after (flight c found stage) old ≡ went c old ((page.does c stage).2 old))

-- a reset of all hands out the places of the bits that stand in the element that it has swapped, as the machine's events say
abbrev pub HandsOutAsTheMachine : Type 0
HandsOutAsTheMachine =
    (p c found word old : ℕ) (places : List ℕ)
    → ((page.does c (page.AllSwapsElement word places)).2 old ≡ page.all_goes_on c word (places ++ places_in word old))
    × (effects_of {T = ℕ} p (flight c found (page.AllSwapsElement word places)) old ≡ map (λ place. Cleared p place) (places_in word old))

-- what `want` and `after` are for these calls: the tables of the crate `steps`, to which the code's functions are proved equal
abbrev pub SetsByTable : Type 0
SetsByTable =
    (place : ℕ) (stage : SetStage) (old : ℕ)
    → (want (setting place stage) ≡ set_asks stage place)
    × (after {T = ℕ} (setting place stage) old
    ≡ as_call flights.Set answers.Truth (went_on as_it_is place tt (set_takes stage place old)))

-- what `want` and `after` are, by the tables of `steps`, for a reset of the next place
abbrev pub NextsByTable : Type 0
NextsByTable =
    (c : ℕ) (stage : ResetNextStage) (old : ℕ)
    → (want (nexting c stage) ≡ reset_asks c stage)
    × (after {T = ℕ} (nexting c stage) old
    ≡ as_call flights.ResetNext reset_answer
    (went_on as_it_is tt tt (reset_takes (at_reset (first_reset c) stage) stage old)))

abbrev pub AllsByTable : Type 0  -- what `want` and `after` are, by the tables of `steps`, for a reset of all places
AllsByTable =
    (c found word old : ℕ)
    → (want (emptying c found word) ≡ reset_all_want (record { word = word; end = 1 + elements c }))
    × (after {T = ℕ} (emptying c found word) old
    ≡ as_call flights.ResetAll (λ _. answers.Done)
    (went_on as_it_is tt (reset_all_kept (record { 0 = found }) old) (reset_all_after (record { word = word; end = 1 + elements c }) old)))

-- ---- turn by turn

-- a call of the model as one of the page
abbrev pub call_seen : Start ℕ → page.Call
call_seen (Bits (starts.Set place)) = page.Set place
call_seen (Bits starts.ResetNext) = page.ResetNext
call_seen other = page.ResetAll

-- an answer of the model as one of the page, for a call that handed out these places
abbrev pub answer_seen : List ℕ → Answer ℕ → page.Answer
answer_seen places (answers.Truth new) = page.WasSet new
answer_seen places (answers.Reset place) = page.WasReset (Some place)
answer_seen places answers.ResetNone = page.WasReset None
answer_seen places other = page.WereReset places

-- what the event hands out, and to whom, if it hands anything out
abbrev pub item_seen : Event ℕ → Option (ℕ × ℕ)
item_seen (Cleared p place) = Some (p, place)
item_seen e = None

-- the response of a reset of all says what its steps handed out
abbrev pub reading : HandedReading page.Call page.Answer ℕ
reading = record { call = call_seen; item = item_seen; answer = answer_seen }

-- a turn of the page as one of the model
abbrev pub as_turn : (machine.Turn page.Call) → Turn ℕ
as_turn (machine.Begin p call) = Begin p (Bits (bits_start call))
as_turn (machine.Next p) = Next p

-- the party of a turn that begins a call is below this number
abbrev pub IsWithin : {Call : Type 0} → ℕ → machine.Turn Call → Type 0
IsWithin parties (machine.Begin p call) = p < parties
IsWithin parties (machine.Next p) = Unit {0}

-- the parties of all these turns are below this number
abbrev pub AreWithin : {Call : Type 0} → ℕ → List (machine.Turn Call) → Type 0
AreWithin parties turns = AllByRecursion (IsWithin parties) turns

-- The same turns lead the page's machine and the model's machine, for 1 to 2^32 - 1 places and up to 2^63 - 1 turns, to
-- the same words and the same history of invocations and responses.
abbrev pub BitSetRunsAsTheMachine : Type 0
BitSetRunsAsTheMachine =
    (c parties : ℕ) (turns : List (machine.Turn page.Call)) → 0 < c → c < 2 ^ 32 → AreWithin parties turns → length turns < 2 ^ 63
    → IsTold reading (run (map as_turn turns) (opening one_word kinds.Bits c parties))
    (fold (machine.turned (page.bit_set c)) (machine.opening (page.bit_set c)) turns)

-- what `BitSetRunsAsTheMachine` says, of a trace that is a run of such turns
abbrev pub BitSetIsRun : Trace ℕ → Type 0
BitSetIsRun t =
    (c parties : ℕ) (turns : List (machine.Turn page.Call)) → 0 < c → c < 2 ^ 32 → AreWithin parties turns → length turns < 2 ^ 63
    → t ≡ run (map as_turn turns) (opening one_word kinds.Bits c parties)
    → IsTold reading t (fold (machine.turned (page.bit_set c)) (machine.opening (page.bit_set c)) turns)
