-- Worked runs in which no call ends. For six kinds they take as many steps as the bound says, so that none is less at that
-- number of parties and that capacity.
use Rattle.model.proofs.Names.{AllByRecursion, AreAllowedOn, Begin, Bool, Bound, Decide, Die, IsAmong, IsCoding}
use Rattle.model.proofs.Names.{Kind, List, Next, None, Option, QueueStart, Refusal, Some, Trace, Turn, []}
use Rattle.model.proofs.Names.{after_turn, after_turns, arith, call_refusal, capacity_error, ends, false, length, nat_lt, nat_tests}
use Rattle.model.proofs.Names.{one_word, opening, refl, run_on, steps_in, true, ℕ, ◌&&◌, ◌++◌, ◌<◌, ◌∷◌, ◌≡◌}
use Rattle.model.specs.declared.event.Start.TheVariants as starts
use Rattle.model.specs.declared.families.atomic.AtomicStart.TheVariants as atomics
use Rattle.model.specs.declared.families.bits.BitsStart.TheVariants as bits
use Rattle.model.specs.declared.families.queues.QueueStart.TheVariants as queues
use Rattle.model.specs.declared.turn.Kind.TheVariants.{IndexQueue, Overflow, Queue, Atomic, Bits, Counts}
use Rattle.model.specs.LockFree.{IsLockFree, parties_below}
use Rattle.model.proofs.LockFree.Apart.{below_in}
use Rattle.model.proofs.LockFree.Machines.{length_below}
use Rattle.model.proofs.Reached.{run_making, run_reached, reached_on_opening}
use Rattle.model.proofs.Runs.{nexts, begins}

pub one_word_codes : IsCoding one_word
one_word_codes = record { some = omega arith; few = omega arith; sized = λ n. refl; given_back = λ n. refl }

-- ---- none of the turns is refused, and each is of a party below n

abbrev may : Option Refusal → Bool
may None = true
may (Some refusal) = false

-- Whether none of the turns is refused.
abbrev are_taken : Trace ℕ → List (Turn ℕ) → Bool
are_taken t [] = true
are_taken t (turn ∷ turns) = may (call_refusal t.world turn) && are_taken (after_turn t turn) turns

-- Whether the turn is of a party below n.
abbrev is_below : ℕ → Turn ℕ → Bool
is_below n (Begin p start) = nat_lt p n
is_below n (Next p) = nat_lt p n
is_below n (Decide p said) = nat_lt p n
is_below n (Die owner) = true

-- Whether each turn is of a party below n.
abbrev are_below : ℕ → List (Turn ℕ) → Bool
are_below n [] = true
are_below n (turn ∷ turns) = is_below n turn && are_below n turns

may_is : (o : Option Refusal) → may o ≡ true → o ≡ None
may_is None may_true = refl
may_is (Some refusal) may_true = absurd (cc)

both : (a b : Bool) → (a && b) ≡ true → (a ≡ true) × (b ≡ true)
both true b both_true = (refl, both_true)
both false b both_true = absurd (cc)

-- If the test `are_taken` says that turns are taken, then none of them is refused.
pub all_allowed : (t : Trace ℕ) (turns : List (Turn ℕ)) → are_taken t turns ≡ true → AreAllowedOn t turns
all_allowed t [] are_taken_true = tt
all_allowed t (turn ∷ turns) are_taken_true =
    let here = both (may (call_refusal t.world turn)) (are_taken (after_turn t turn) turns) are_taken_true in
    (may_is (call_refusal t.world turn) here.0, all_allowed (after_turn t turn) turns here.1)

low : (p n : ℕ) → nat_lt p n ≡ true → p < n
low = grind (arith, nat_tests)

-- If the test `is_below` says so of a turn, then it is of a party below n.
one_below : (n : ℕ) (turn : Turn ℕ) → is_below n turn ≡ true → IsAmong (parties_below n) turn
one_below n (Begin p start) is = below_in n p (low p n is)
one_below n (Next p) is = below_in n p (low p n is)
one_below n (Decide p said) is = below_in n p (low p n is)
one_below n (Die owner) is = tt

-- If the test `are_below` says so of turns, then each is of a party below n.
pub all_below : (n : ℕ) (turns : List (Turn ℕ)) → are_below n turns ≡ true → AllByRecursion (IsAmong (parties_below n)) turns
all_below n [] are_below_true = tt
all_below n (turn ∷ turns) are_below_true =
    let here = both (is_below n turn) (are_below n turns) are_below_true in
    (one_below n turn here.0, all_below n turns here.1)

-- ---- a run of n steps in which no call ends leaves no bound below n

abbrev pub from : Kind → ℕ → ℕ → List (Turn ℕ) → Trace ℕ
from kind capacity parties before = run_on before (opening one_word kind capacity parties)

-- What a run is to be, as `IsEndless` checks: a machine of values of one word with this kind, capacity and number of parties takes
-- the turns `before`, by which `ended` calls end, and then `turns`, of parties below `n`, which are this number of steps.
record Run : Type 0 where
  pub kind : Kind
  pub capacity : ℕ
  pub parties : ℕ
  pub before : List (Turn ℕ)
  pub n : ℕ
  pub turns : List (Turn ℕ)
  pub steps : ℕ
  pub ended : ℕ

-- the machine before the turns
abbrev first : Run → Trace ℕ
first r = from r.kind r.capacity r.parties r.before

-- No call ends in these turns. None of them is refused, all are of parties below `n`, and their steps are as many as the run says.
record IsEndless (r : Run) : Type 0 where
  pub admitted : capacity_error r.kind r.capacity ≡ None
  pub taken : are_taken (first r) r.turns ≡ true
  pub below : are_below r.n r.turns ≡ true
  pub many : steps_in (first r) r.turns ≡ r.steps
  pub before : ends (first r).events ≡ r.ended
  pub after : ends (after_turns (first r) r.turns).events ≡ r.ended

none_more : (before after ended : ℕ) → before ≡ ended → after ≡ ended → before < after → ⊥
none_more before after ended was leads less = absurd (omega arith)

more_steps : (most steps here : ℕ) → steps ≡ here → most < here → most < steps
more_steps = omega arith

-- these turns are more steps than the bound allows, so the bound is too small for the kind
no_less : (r : Run) → IsEndless r → (bound : Bound) → bound r.n r.capacity 1 < r.steps → IsLockFree ℕ r.kind bound → ⊥
no_less r endless bound few free =
    let made = run_making r.before (opening one_word r.kind r.capacity r.parties) in
    let reached = run_reached r.before (reached_on_opening one_word r.kind r.capacity r.parties one_word_codes endless.admitted) in
    let low : bound (length (parties_below r.n)) (first r).world.capacity (first r).world.coding.size < r.steps =
    rw (length_below r.n, made.capacity, made.coding) few in
    none_more (ends (first r).events) (ends (after_turns (first r) r.turns).events) r.ended endless.before endless.after
    (free (first r) made.kind reached (parties_below r.n) r.turns (all_allowed (first r) r.turns endless.taken) (all_below r.n r.turns endless.below)
    (more_steps (bound (length (parties_below r.n)) (first r).world.capacity (first r).world.coding.size)
    (steps_in (first r) r.turns) r.steps endless.many low))

-- ---- two lengths of an index queue, and of a queue, whose write position has moved

abbrev measured : QueueStart ℕ → List (Turn ℕ)
measured push =
    begins 2 (starts.Queues queues.AcquireProducer) 1
    ++ (begins 0 (starts.Queues queues.Len) 1
    ++ (begins 1 (starts.Queues queues.Len) 1 ++ begins 2 (starts.Queues push) 4))

-- The run in which two parties take five steps each in a length of this kind of queue.
abbrev lengths : Kind → QueueStart ℕ → Run
lengths kind push =
    record { kind = kind; capacity = 1; parties = 3; before = measured push; n = 2; turns = nexts 0 5 ++ nexts 1 5; steps = 10; ended = 2 }

-- no bound below 10 holds for two lengths of an index queue of capacity 1
pub index_queue : (bound : Bound) → bound 2 1 1 < 10 → IsLockFree ℕ IndexQueue bound → ⊥
index_queue =
    no_less (lengths IndexQueue (queues.PushIndex 7))
    (record { admitted = refl; taken = refl; below = refl; many = refl; before = refl; after = refl })

-- no bound below 10 holds for two lengths of a queue of capacity 1
pub queue : (bound : Bound) → bound 2 1 1 < 10 → IsLockFree ℕ Queue bound → ⊥
queue =
    no_less (lengths Queue (queues.Push 7))
    (record { admitted = refl; taken = refl; below = refl; many = refl; before = refl; after = refl })

-- ---- a push of an overflowing queue that is full

abbrev pub full : List (Turn ℕ)
full =
    begins 0 (starts.Queues queues.AcquireProducer) 1
    ++ (begins 0 (starts.Queues (queues.PushIndex 7)) 4
    ++ (Begin 0 (starts.Queues (queues.PushIndex 8)) ∷ []))

-- no bound below 5 holds for one push of a full overflowing queue
pub overflow : (bound : Bound) → bound 1 1 1 < 5 → IsLockFree ℕ Overflow bound → ⊥
overflow =
    no_less (record { kind = Overflow; capacity = 1; parties = 1; before = full; n = 1; turns = nexts 0 5; steps = 5; ended = 2 })
    (record { admitted = refl; taken = refl; below = refl; many = refl; before = refl; after = refl })

-- ---- two loads of a value whose version has moved

-- both loads have read the version before the store
abbrev stale : List (Turn ℕ)
stale =
    begins 2 (starts.Atomic atomics.AcquireProducer) 1
    ++ (begins 0 (starts.Atomic atomics.Load) 1
    ++ (begins 1 (starts.Atomic atomics.Load) 1
    ++ begins 2 (starts.Atomic (atomics.Store 7)) 3))

-- no bound below 6 holds for two loads of a value of one word
pub value : (bound : Bound) → bound 2 1 1 < 6 → IsLockFree ℕ Atomic bound → ⊥
value =
    no_less (record { kind = Atomic; capacity = 1; parties = 3; before = stale; n = 2; turns = nexts 0 3 ++ nexts 1 3; steps = 6; ended = 2 })
    (record { admitted = refl; taken = refl; below = refl; many = refl; before = refl; after = refl })

-- ---- a reset of the next bit that stands in the last place, and two resets of all counts

abbrev last_set : List (Turn ℕ)
last_set =
    begins 1 (starts.Bits (bits.Set 2)) 2 ++ (Begin 0 (starts.Bits bits.ResetNext) ∷ [])

-- no bound below 5 holds for one reset of the next bit
pub bit_set : (bound : Bound) → bound 1 3 1 < 5 → IsLockFree ℕ Bits bound → ⊥
bit_set =
    no_less (record { kind = Bits; capacity = 3; parties = 2; before = last_set; n = 1; turns = nexts 0 5; steps = 5; ended = 1 })
    (record { admitted = refl; taken = refl; below = refl; many = refl; before = refl; after = refl })

abbrev resets : List (Turn ℕ)
resets =
    Begin 0 (starts.Bits bits.ResetAll) ∷ Begin 1 (starts.Bits bits.ResetAll) ∷ []

-- no bound below 4 holds for two resets of all counts
pub counts : (bound : Bound) → bound 2 3 1 < 4 → IsLockFree ℕ Counts bound → ⊥
counts =
    no_less (record { kind = Counts; capacity = 3; parties = 2; before = resets; n = 2; turns = nexts 0 2 ++ nexts 1 2; steps = 4; ended = 0 })
    (record { admitted = refl; taken = refl; below = refl; many = refl; before = refl; after = refl })
