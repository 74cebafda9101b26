-- In how many turns a party's call goes on, and how many of its calls have ended, at small runs: one that meets the premise of the
-- law that it ends, one in which the call does not end, and one of a party with no call under way.
use Rattle.std.proofs.Common.{◌≡◌, ◌<◌, ◌+◌, ◌&&◌, ℕ, Bool, true, false, Option, Some, None, is_some, List, [], ◌∷◌, ◌++◌, refl, arith}
use Rattle.model.specs.declared.event.Start.TheVariants.{Queues}
use Rattle.model.specs.declared.families.queues.QueueStart.TheVariants.{AcquireProducer, PushIndex, Len}
use Rattle.model.specs.declared.turn.Kind.TheVariants.{IndexQueue}
use Rattle.model.specs.declared.turn.Refusal.{Refusal}
use Rattle.model.specs.declared.turn.Turn.{Turn}
use Rattle.model.specs.declared.turn.Turn.TheVariants.{Begin, Next, Decide, Die}
use Rattle.model.specs.Coding.{one_word}
use Rattle.model.specs.Loads.{begins_in, load, pending}
use Rattle.model.specs.LockFree.{ends, parties_below, steps_in, stretch}
use Rattle.model.specs.Refusals.{refusal_of}
use Rattle.model.specs.Turns.{AreAllowed, IsReached, after_turn, after_turns, run}
use Rattle.model.specs.World.{Trace, flight_in, opened}
use Rattle.model.proofs.Runs.{begins, nexts}
use Rattle.model.proofs.WorkedLockFree.{one_word_codes}
use Rattle.headline.specs.Nexts.{begins_of_others, nexts_in, own_ends}
use Rattle.headline.proofs.Nexts.{ends_by_turns}

-- One turn of each sort. Of a party only the turns `Next` in which its own call goes on
-- count, and no decision.
abbrev each : List (Turn ℕ)
each = Begin 0 (Queues Len) ∷ Next 0 ∷ Next 1 ∷ Next 0 ∷ Decide 0 true ∷ Die 0 ∷ []

-- In these turns the call of party 0 goes on twice, that of party 1 once, and that of party 2 never.
of_each : (nexts_in 0 each ≡ 2) × ((nexts_in 1 each ≡ 1) × (nexts_in 2 each ≡ 0))
of_each = (refl, (refl, refl))

-- only the calls count that others begin
others_of_each : (begins_of_others 0 each ≡ 0) × ((begins_of_others 1 each ≡ 1) × (begins_in each ≡ 1))
others_of_each = (refl, (refl, refl))

-- Party 0 has acquired the role, and has a push under way. Party 1 asks for the length.
abbrev first_turns : List (Turn ℕ)
first_turns = begins 0 (Queues AcquireProducer) 1 ++ (Begin 0 (Queues (PushIndex 7)) ∷ Begin 1 (Queues Len) ∷ [])

-- The machine with both calls under way.
abbrev started : Trace ℕ
started = run first_turns (opened one_word IndexQueue 1 1 2)

-- the push goes on to its end, and the length does not
abbrev pushed : List (Turn ℕ)
pushed = nexts 0 4 ++ nexts 1 2

-- The push goes on four times and the length twice, and each of these turns takes a step.
of_pushed : (nexts_in 0 pushed ≡ 4) × ((nexts_in 1 pushed ≡ 2) × (steps_in started pushed ≡ 6))
of_pushed = (refl, (refl, refl))

-- one call more of party 0 has ended, and none of party 1
own_before : (own_ends 0 started.events ≡ 1) × (own_ends 1 started.events ≡ 0)
own_before = (refl, refl)

-- After these turns two calls of party 0 have ended, and none of party 1.
own_after : (own_ends 0 (after_turns started pushed).events ≡ 2) × (own_ends 1 (after_turns started pushed).events ≡ 0)
own_after = (refl, refl)

-- More calls of party 0 have ended than before.
one_more : own_ends 0 started.events < own_ends 0 (after_turns started pushed).events
one_more = omega arith

-- More calls have ended than before.
some_call : ends started.events < ends (after_turns started pushed).events
some_call = omega arith

-- No call of party 1 has ended, though some call has.
none_more : own_ends 1 started.events < own_ends 1 (after_turns started pushed).events → ⊥
none_more less = absurd (omega (less, arith))

-- Both have a call under way, so the load is of two calls: in 2 turns party 1 need not have ended its own.
not_many : (is_some (flight_in started.world 1) ≡ true)
    × ((load (stretch 2 0 5) (pending (parties_below 2) started.world + begins_of_others 1 pushed) ≡ 22) × (nexts_in 1 pushed ≡ 2))
not_many = (refl, (refl, refl))

-- The turns of party 1 are not more than the load, so the law does not say that its call has ended.
few_turns : load (stretch 2 0 5) (pending (parties_below 2) started.world + begins_of_others 1 pushed) < nexts_in 1 pushed → ⊥
few_turns less = absurd (omega (less, arith))

-- ---- the premise is met: the push goes on to its end, and then party 0 asks for five lengths, while party 1 does nothing

-- Party 0 asks for the length and comes to its end.
abbrev length_asked : List (Turn ℕ)
length_asked = begins 0 (Queues Len) 4

-- The push goes on to its end, and then party 0 asks for the length five times.
abbrev alone : List (Turn ℕ)
alone = nexts 0 4 ++ (length_asked ++ (length_asked ++ (length_asked ++ (length_asked ++ length_asked))))

-- The five lengths that party 0 asks for count in the load of all calls, and not in the load
-- of the calls of others.
of_alone : (begins_of_others 0 alone ≡ 0) × ((begins_in alone ≡ 5) × (nexts_in 0 alone ≡ 24))
of_alone = (refl, (refl, refl))

-- The load of the calls of others is 22, and the load of all calls is 77.
loads_of_alone : (load (stretch 2 0 5) (pending (parties_below 2) started.world + begins_of_others 0 alone) ≡ 22)
    × (load (stretch 2 0 5) (pending (parties_below 2) started.world + begins_in alone) ≡ 77)
loads_of_alone = (refl, refl)

-- Party 0 takes more turns than the load of the calls of others.
many_turns : load (stretch 2 0 5) (pending (parties_below 2) started.world + begins_of_others 0 alone) < nexts_in 0 alone
many_turns = omega arith

reached : IsReached started
reached = record { coded = one_word_codes; admitted = refl; queue = 1; queued = refl; turns = first_turns; is = refl }

abbrev may : Option Refusal → Bool
may None = true
may (Some refusal) = false

-- Whether none of the turns is refused.
abbrev are_taken : Trace ℕ → List (Turn ℕ) → Bool
are_taken t [] = true
are_taken t (turn ∷ turns) = may (refusal_of t.world turn) && are_taken (after_turn t turn) turns

may_is : (o : Option Refusal) → may o ≡ true → o ≡ None
may_is None allowed = refl
may_is (Some refusal) allowed = absurd (cc)

both : (a b : Bool) → (a && b) ≡ true → (a ≡ true) × (b ≡ true)
both true b both_true = (refl, both_true)
both false b both_true = absurd (cc)

all_allowed : (t : Trace ℕ) (turns : List (Turn ℕ)) → are_taken t turns ≡ true → AreAllowed t turns
all_allowed t [] taken = tt
all_allowed t (turn ∷ turns) taken =
    let here = both (may (refusal_of t.world turn)) (are_taken (after_turn t turn) turns) taken in
    (may_is (refusal_of t.world turn) here.0, all_allowed (after_turn t turn) turns here.1)

-- By the law party 0 has ended a call in these turns.
by_law : own_ends 0 started.events < own_ends 0 (after_turns started alone).events
by_law = ends_by_turns ℕ IndexQueue started refl reached 0 refl alone (all_allowed started alone refl) many_turns

-- Party 0 has ended six calls in these turns, and one before.
six_more : own_ends 0 (after_turns started alone).events ≡ 7
six_more = refl

-- ---- a party with no call under way: in more turns than the load of no call it has ended none

-- A machine as it opens, in which no call is under way.
abbrev idle : Trace ℕ
idle = opened one_word IndexQueue 1 1 2

abbrev first_turn : List (Turn ℕ)
first_turn = begins 0 (Queues Len) 1

-- Party 0 has no call under way, and the begin and the step of its length are not refused.
none_under_way : (is_some (flight_in idle.world 0) ≡ false) × (are_taken idle first_turn ≡ true)
none_under_way = (refl, refl)

-- Party 0 goes on in more turns than the load, which is 0.
more_than_none : load (stretch 2 0 5) (pending (parties_below 2) idle.world + begins_of_others 0 first_turn) < nexts_in 0 first_turn
more_than_none = omega arith

-- Party 0, which had no call under way, has ended none.
not_ended : own_ends 0 idle.events < own_ends 0 (after_turns idle first_turn).events → ⊥
not_ended less = absurd (omega (less, arith))
