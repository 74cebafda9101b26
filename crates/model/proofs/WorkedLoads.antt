-- Loads at small sizes, and the calls that are under way in a small machine.
use Rattle.std.proofs.Common.{◌≡◌, ◌<◌, ◌≤◌, ℕ, ◌+◌, ◌*◌, Option, Some, None, List, [], ◌∷◌, ◌++◌, refl, arith}
use Rattle.model.specs.declared.event.Start.TheVariants as starts
use Rattle.model.specs.declared.families.queues.QueueStart.TheVariants as queues
use Rattle.model.specs.declared.turn.Kind.TheVariants.{IndexQueue, Overflow, Queue, Atomic, Bits, Counts, Indices}
use Rattle.model.specs.declared.turn.Turn.{Turn}
use Rattle.model.specs.declared.turn.Turn.TheVariants.{Begin}
use Rattle.model.specs.Coding.{one_word}
use Rattle.model.specs.LockFree.{Bound, lock_free_bound, default_bound, default_container_bound, ends, parties_below, steps_in}
use Rattle.model.specs.Turns.{run_on, after_turns}
use Rattle.model.specs.World.{Trace, opening}
use Rattle.model.proofs.Runs.{nexts, begins}
use Rattle.model.proofs.WorkedLockFree.{from, full, one_word_codes, all_allowed, all_below}
use Rattle.model.specs.Loads.{EndsLoad, begins_in, pending, load}
use Rattle.model.specs.Fair.{own_steps}

-- The load of a number of calls, by a bound at these numbers, if there is one.
abbrev at : Option Bound → ℕ → ℕ → ℕ → ℕ → Option ℕ
at None n capacity size calls = None
at (Some bound) n capacity size calls = Some (load (bound n capacity size) calls)

-- The loads of two parties that have one call each under way and begin no other, by kind.
two_calls : (at (lock_free_bound IndexQueue) 2 8 1 2 ≡ Some 22) × ((at (lock_free_bound Overflow) 2 8 1 2 ≡ Some 62)
    × ((at (lock_free_bound Queue) 2 8 4 2 ≡ Some 26) × ((at (lock_free_bound Atomic) 2 1 1 2 ≡ Some 14)
    × ((at (lock_free_bound Bits) 2 64 1 2 ≡ Some 530) × ((at (lock_free_bound Counts) 2 8 1 2 ≡ Some 30)
    × (at (lock_free_bound Indices) 2 8 1 2 ≡ Some 98))))))
two_calls = (refl, (refl, (refl, (refl, (refl, (refl, refl))))))

-- The load of two parties that have one call each under way and begin a thousand others.
thousand : at (lock_free_bound IndexQueue) 2 8 1 1002 ≡ Some 11022
thousand = refl

-- these are the loads of a robust set and of a container in which no call may lock
owners : (load (default_bound 2 8 1) 2 ≡ 1190) × (load (default_container_bound 2 8 1) 2 ≡ 2378)
owners = (refl, refl)

-- two parties have a push and a length under way, and both end in eight steps, where the load is 22
abbrev started : Trace ℕ
started =
    run_on (begins 0 (starts.Queues queues.AcquireProducer) 1
    ++ (Begin 0 (starts.Queues (queues.PushIndex 7))
    ∷ Begin 1 (starts.Queues queues.Len) ∷ [])) (opening one_word IndexQueue 1 2)

-- Both parties take four steps each.
abbrev both : List (Turn ℕ)
both = nexts 0 4 ++ nexts 1 4

-- Before these steps two calls are under way.
pending_before : pending (parties_below 2) started.world ≡ 2
pending_before = refl

-- After these steps no call is under way.
pending_after : pending (parties_below 2) (after_turns started both).world ≡ 0
pending_after = refl

-- None of these turns begins a call.
none_begins : begins_in both ≡ 0
none_begins = refl

-- Each of the eight turns takes a step.
steps_taken : steps_in started both ≡ 8
steps_taken = refl

-- One call had ended before these turns, and three have ended after them.
both_end : (ends started.events ≡ 1) × (ends (after_turns started both).events ≡ 3)
both_end = (refl, refl)

-- Each party takes four steps of its own.
own_four : (own_steps 0 started both ≡ 4) × (own_steps 1 started both ≡ 4)
own_four = (refl, refl)

-- ---- a load that is met: the push of one party on a full overflowing queue takes six steps

-- The push takes six steps, which is the load of one call of one party.
push_met : (steps_in (from Overflow 1 1 full) (nexts 0 6) ≡ 6) × (at (lock_free_bound Overflow) 1 1 1 1 ≡ Some 6)
push_met = (refl, refl)

-- After these six steps no call is under way.
push_ends : pending (parties_below 1) (after_turns (from Overflow 1 1 full) (nexts 0 6)).world ≡ 0
push_ends = refl

-- no bound below 5 holds there
no_less : (bound : Bound) → bound 1 1 1 < 5 → EndsLoad ℕ Overflow bound → ⊥
no_less bound few loads =
    let most : 6 ≤ 1 * (bound 1 1 1 + 1) =
    loads (from Overflow 1 1 full) refl (record { coded = one_word_codes; admitted = refl; turns = full; is = refl }) (parties_below 1) (nexts 0 6)
    (all_allowed (from Overflow 1 1 full) (nexts 0 6) refl) (all_below 1 (nexts 0 6) refl) in
    absurd (omega arith)
