-- What the page of the counting bit set has to do with the code and with machines.
use Rattle.std.specs.Prelude.{◌≡◌, ℕ, ◌<◌, ◌^◌, ◌==◌, Option, Some, None, List, [], ◌∷◌, ◌++◌, length, map, fold, if◌then◌else◌}
use Rattle.steps.specs.declared.ask.After.{After}
use Rattle.steps.specs.declared.ask.After.TheVariants.{GoOn, Done}
use Rattle.steps.specs.Bits.Counts.{set_after, set_want}
use Rattle.steps.specs.Bits.ResetAll.{reset_all_after, reset_all_kept, reset_all_want}
use Rattle.steps.specs.Routine.{went_on}
use Rattle.model.specs.declared.event.Answer.{Answer}
use Rattle.model.specs.declared.event.Answer.TheVariants as answers
use Rattle.model.specs.declared.event.Event.{Event}
use Rattle.model.specs.declared.event.Event.TheVariants.{TakenOut}
use Rattle.model.specs.declared.event.Start.{Start}
use Rattle.model.specs.declared.event.Start.TheVariants.{Bits}
use Rattle.model.specs.declared.families.bits.BitsStart.{BitsStart}
use Rattle.model.specs.declared.families.bits.BitsStart.TheVariants as starts
use Rattle.model.specs.declared.families.bits.calls.BitsFlight.{BitsFlight}
use Rattle.model.specs.declared.families.bits.calls.BitsFlight.TheVariants as flights
use Rattle.model.specs.declared.turn.Kind.TheVariants as kinds
use Rattle.model.specs.declared.turn.Turn.{Turn}
use Rattle.model.specs.declared.turn.Turn.TheVariants.{Begin, Next}
use Rattle.model.specs.Coding.{one_word}
use Rattle.model.specs.Families.{ask_of}
use Rattle.model.specs.Families.Bits.Calls.{add_one, after, want}
use Rattle.model.specs.Families.Bits.Steps.{effects_of}
use Rattle.model.specs.Families.Queues.Calls.{as_it_is}
use Rattle.model.specs.Step.{as_call}
use Rattle.model.specs.Turns.{run}
use Rattle.model.specs.World.{Trace, opening}
use Rattle.pages.specs.BitSetBridge.{AreWithin}
use Rattle.pages.specs.CountingBitSet as page
use Rattle.pages.specs.Machine as machine
use Rattle.pages.specs.Handed.{HandedReading, IsTold}
use Rattle.pages.specs.Reading.{asked}

-- ---- stage by stage

-- a call of the page as one of the model
abbrev pub counts_start : page.Call → BitsStart
counts_start (page.Set place) = starts.Set place
counts_start page.ResetAll = starts.ResetAll

-- a count of this place, as a call of the model
abbrev pub counting : ℕ → BitsFlight
counting place = flights.Count (record { call = add_one; given = place; room = tt })

-- a reset of all has found this in the word that it swapped last
abbrev pub emptying : (c found place : ℕ) → BitsFlight
emptying c found place =
    flights.TakeAll (record { call = record { word = place; end = c }; given = tt; room = record { 0 = found } })

-- a stage of the page as a call under way of the model; `found` is what a reset of all found in the word before
abbrev pub flight : (c found : ℕ) → page.Stage → BitsFlight
flight c found (page.SetAdds place) = counting place
flight c found (page.AllSwaps place counts) = emptying c found place

-- what a reset of all handed out is no part of a machine's answer
abbrev pub answered : page.Answer → Answer ℕ
answered (page.Counted before) = answers.Number before
answered (page.WereReset counts) = answers.Done

-- how a call of the page goes on, as a call of the model
abbrev pub went : (c found : ℕ) → (machine.After page.Stage page.Answer) → After BitsFlight (Answer ℕ)
went c found (machine.GoOn stage) = GoOn (flight c found stage)
went c found (machine.Done answer) = Done (answered answer)

-- a stage that a call comes to: a reset of all has a place left
abbrev pub Fits : ℕ → page.Stage → Type 0
Fits c (page.AllSwaps place counts) = place < c
Fits c stage = Unit {0}

-- At each stage a call of the page asks for what the code asks for, and goes on from each old word as the code does.
abbrev pub CountingDoesAsTheCode : Type 0
CountingDoesAsTheCode =
    (c found : ℕ) (stage : page.Stage) → Fits c stage
    → (ask_of (want (flight c found stage)) ≡ Some (asked (page.does c stage).0 (page.does c stage).1))
    × ((old : ℕ) → after (flight c found stage) old ≡ went c old ((page.does c stage).2 old))

-- the place that was swapped, with what it counted, unless that is 0
abbrev pub counts_in : (place old : ℕ) → List (ℕ × ℕ)
counts_in place old = if old == 0 then [] else (place, old) ∷ []

-- a reset of all hands out the place that it has swapped, with its count, as the machine's events say
abbrev pub HandsOutAsTheMachine : Type 0
HandsOutAsTheMachine =
    (p c found place old : ℕ) (counts : List (ℕ × ℕ))
    → ((page.does c (page.AllSwaps place counts)).2 old ≡ page.all_goes_on c place (counts ++ counts_in place old))
    × (effects_of {T = ℕ} p (flight c found (page.AllSwaps place counts)) old ≡ map (λ x. TakenOut p x.0 x.1) (counts_in place old))

-- what `want` and `after` are for these calls: the tables of the crate `steps`, to which the code's functions are proved equal
abbrev pub CountsByTable : Type 0
CountsByTable =
    (place old : ℕ)
    → (want (counting place) ≡ set_want add_one place)
    × (after {T = ℕ} (counting place) old ≡ as_call flights.Count answers.Number (went_on as_it_is place tt (set_after add_one old)))

abbrev pub TakesByTable : Type 0  -- what `want` and `after` are, by the tables of `steps`, for a reset of all places
TakesByTable =
    (c found place old : ℕ)
    → (want (emptying c found place) ≡ reset_all_want (record { word = place; end = c }))
    × (after {T = ℕ} (emptying c found place) old
    ≡ as_call flights.TakeAll (λ _. answers.Done)
    (went_on as_it_is tt (reset_all_kept (record { 0 = found }) old) (reset_all_after (record { word = place; end = c }) old)))

-- ---- turn by turn

-- a call of the model as one of the page
abbrev pub call_seen : Start ℕ → page.Call
call_seen (Bits (starts.Set place)) = page.Set place
call_seen other = page.ResetAll

-- an answer of the model as one of the page
abbrev pub answer_seen : List (ℕ × ℕ) → Answer ℕ → page.Answer
answer_seen counts (answers.Number before) = page.Counted before
answer_seen counts other = page.WereReset counts

-- what the event hands out, and to whom, if it hands anything out
abbrev pub item_seen : Event ℕ → Option (ℕ × (ℕ × ℕ))
item_seen (TakenOut p place number) = Some (p, (place, number))
item_seen e = None

-- the response of a reset of all says what its steps handed out
abbrev pub reading : HandedReading page.Call page.Answer (ℕ × ℕ)
reading = record { call = call_seen; item = item_seen; answer = answer_seen }

-- a turn of the page as one of the model
abbrev pub as_turn : (machine.Turn page.Call) → Turn ℕ
as_turn (machine.Begin p call) = Begin p (Bits (counts_start call))
as_turn (machine.Next p) = Next p

-- The same turns lead the page's machine and the model's machine, for 1 to 2^32 - 1 places and up to 2^63 - 1 turns, to
-- the same words and the same history of invocations and responses.
abbrev pub CountingRunsAsTheMachine : Type 0
CountingRunsAsTheMachine =
    (c parties : ℕ) (turns : List (machine.Turn page.Call)) → 0 < c → c < 2 ^ 32 → AreWithin parties turns → length turns < 2 ^ 63
    → IsTold reading (run (map as_turn turns) (opening one_word kinds.Counts c parties))
    (fold (machine.turned (page.counting_bit_set c)) (machine.opening (page.counting_bit_set c)) turns)

-- what `CountingRunsAsTheMachine` says, of a trace that is a run of such turns
abbrev pub CountingIsRun : Trace ℕ → Type 0
CountingIsRun t =
    (c parties : ℕ) (turns : List (machine.Turn page.Call)) → 0 < c → c < 2 ^ 32 → AreWithin parties turns → length turns < 2 ^ 63
    → t ≡ run (map as_turn turns) (opening one_word kinds.Counts c parties)
    → IsTold reading t (fold (machine.turned (page.counting_bit_set c)) (machine.opening (page.counting_bit_set c)) turns)
