-- The bounds of lock-freedom at small sizes, the calls that may not lock, and a recovery of a robust set and one of a container
-- in which no call ends for as many steps as their bounds say.
use Rattle.std.proofs.Common.{◌≡◌, ◌<◌, inl, ℕ, true, Option, Some, None, List, [], ◌∷◌, ◌++◌, refl, arith}
use Rattle.std.specs.List.{AllByRecursion}
use Rattle.steps.specs.declared.indices.enums.ReleaseMode.TheVariants.{Default, LockIfLastIndex}
use Rattle.model.specs.declared.event.Answer.TheVariants.{Index}
use Rattle.model.specs.declared.event.Event.TheVariants as events
use Rattle.model.specs.declared.event.Item.TheVariants as items
use Rattle.model.specs.declared.event.Start.{Start}
use Rattle.model.specs.declared.event.Start.TheVariants as starts
use Rattle.model.specs.declared.families.container.ContainerStart.TheVariants as containers
use Rattle.model.specs.declared.families.indices.robust.RobustStart.TheVariants as robusts
use Rattle.model.specs.declared.turn.Kind.{Kind}
use Rattle.model.specs.declared.turn.Kind.TheVariants.{IndexQueue, Overflow, Queue, Atomic, Bits, Counts, Indices, Robust, Container, Loan}
use Rattle.model.specs.declared.turn.Turn.{Turn}
use Rattle.model.specs.declared.turn.Turn.TheVariants.{Die, Decide}
use Rattle.model.specs.Coding.{one_word, IsCoding}
use Rattle.model.specs.LockFree.{Bound, IsAmong, IsOneIn, BeginsSuch, IsLockFreeOf, IsDefault, ends, steps_in}
use Rattle.model.specs.LockFree.{lock_free_bound, default_bound, default_container_bound}
use Rattle.model.specs.Turns.{run_on, after_turns, AreAllowedOn, IsReachedOn}
use Rattle.model.specs.World.{Trace, opening}
use Rattle.model.proofs.Runs.{nexts, begins}
use Rattle.laws_loan.specs.LockFree.{channel_bound}

-- ---- bounds, by parties, capacity and words of a value: first the sizes of the worked runs in which no call ends

-- A bound at these numbers, if there is one.
abbrev at : Option Bound → ℕ → ℕ → ℕ → Option ℕ
at None n capacity size = None
at (Some bound) n capacity size = Some (bound n capacity size)

index_queue_bound : (at (lock_free_bound IndexQueue) 2 1 1 ≡ Some 10) × (at (lock_free_bound IndexQueue) 3 7 2 ≡ Some 15)
index_queue_bound = (refl, refl)

overflow_bound : (at (lock_free_bound Overflow) 1 1 1 ≡ Some 5) × (at (lock_free_bound Overflow) 2 7 1 ≡ Some 30)
overflow_bound = (refl, refl)

queue_bound : (at (lock_free_bound Queue) 2 1 1 ≡ Some 10) × (at (lock_free_bound Queue) 3 1 4 ≡ Some 18)
queue_bound = (refl, refl)

value_bound : (at (lock_free_bound Atomic) 2 1 1 ≡ Some 6) × (at (lock_free_bound Atomic) 3 1 2 ≡ Some 15)
value_bound = (refl, refl)

-- the bounds of three bits in one word, and of 130 bits in three words
bits_bound : (at (lock_free_bound Bits) 1 3 1 ≡ Some 5) × (at (lock_free_bound Bits) 2 130 1 ≡ Some 792)
bits_bound = (refl, refl)

counts_bound : (at (lock_free_bound Counts) 2 3 1 ≡ Some 4) × (at (lock_free_bound Counts) 3 5 1 ≡ Some 12)
counts_bound = (refl, refl)

indices_bound : (at (lock_free_bound Indices) 1 1 1 ≡ Some 5) × (at (lock_free_bound Indices) 3 2 1 ≡ Some 54)
indices_bound = (refl, refl)

-- The robust set, the container and the loan channel have no bound that holds in all runs.
no_bound : (lock_free_bound Robust ≡ None) × ((lock_free_bound Container ≡ None) × (lock_free_bound Loan ≡ None))
no_bound = (refl, (refl, refl))

robust_bound : (default_bound 1 1 1 ≡ 5) × (default_bound 3 2 1 ≡ 135)
robust_bound = (refl, refl)

-- of the smallest container, of values of two words, and of three indices
container_bound : (default_container_bound 1 1 1 ≡ 10)
    × ((default_container_bound 1 1 2 ≡ 11) × (default_container_bound 2 3 4 ≡ 296))
container_bound = (refl, (refl, refl))

loan_bound : (channel_bound 2 1 1 ≡ 24) × (channel_bound 3 4 2 ≡ 63)
loan_bound = (refl, refl)

-- ---- calls that may not lock, and calls that may

-- these calls of a robust set may not lock
robust_may_not : (index owner : ℕ)
    → AllByRecursion (IsDefault {T = ℕ}) (starts.Robust (robusts.Acquire owner)
    ∷ starts.Robust (robusts.Release index owner Default)
    ∷ starts.Robust (robusts.Find owner)
    ∷ starts.Robust (robusts.Recover Default)
    ∷ starts.Robust robusts.BorrowedIndices
    ∷ starts.Robust robusts.IsLocked
    ∷ [])
robust_may_not index owner = (tt, (tt, (tt, (tt, (tt, (tt, tt))))))

-- these calls of a container may not lock
container_may_not : (index value owner : ℕ)
    → AllByRecursion (IsDefault {T = ℕ}) (starts.Container (containers.Add value owner)
    ∷ starts.Container (containers.Remove index owner Default)
    ∷ starts.Container (containers.Replace index value owner)
    ∷ starts.Container (containers.Find owner)
    ∷ starts.Container (containers.Recover owner Default)
    ∷ starts.Container containers.GetState
    ∷ starts.Container containers.UpdateState
    ∷ starts.Container containers.Len
    ∷ starts.Container containers.IsEmpty
    ∷ starts.Container containers.IsLocked
    ∷ [])
container_may_not index value owner = (tt, (tt, (tt, (tt, (tt, (tt, (tt, (tt, (tt, (tt, tt))))))))))

-- A release in the mode LockIfLastIndex is not one of the calls that may not lock.
release_may : (index owner : ℕ) → IsDefault {T = ℕ} (starts.Robust (robusts.Release index owner LockIfLastIndex)) → ⊥
release_may index owner default_mode = default_mode

recovery_may : IsDefault {T = ℕ} (starts.Robust (robusts.Recover LockIfLastIndex)) → ⊥
recovery_may default_mode = default_mode

-- A remove in the mode LockIfLastIndex is not one of the calls that may not lock.
remove_may : (index owner : ℕ) → IsDefault {T = ℕ} (starts.Container (containers.Remove index owner LockIfLastIndex)) → ⊥
remove_may index owner default_mode = default_mode

-- A recovery in the mode LockIfLastIndex is not one of the calls that may not lock.
container_recovery_may : (owner : ℕ) → IsDefault {T = ℕ} (starts.Container (containers.Recover owner LockIfLastIndex)) → ⊥
container_recovery_may owner default_mode = default_mode

-- ---- of all events only the last one is an end

abbrev acquire : Start ℕ
acquire = starts.Robust (robusts.Acquire 1)

abbrev recover : Start ℕ
recover = starts.Robust (robusts.Recover Default)

-- of one event of each kind the last alone is an end
one_ends : ends (events.Begun 0 acquire
    ∷ events.Published 0 (items.Index 7)
    ∷ events.HandedOut 0 (items.Index 7)
    ∷ events.Set 0 3
    ∷ events.Cleared 0 3
    ∷ events.Counted 0 3
    ∷ events.TakenOut 0 3 1
    ∷ events.Claimed 0 0
    ∷ events.Freed 0 0
    ∷ events.Locked 0
    ∷ events.Filled 0 0 1
    ∷ events.Granted 0 0 1
    ∷ events.FreedOf 0 0 1
    ∷ events.Asked 0 0 1
    ∷ events.Told 0 0 1
    ∷ events.Placed 0 0 5
    ∷ events.Hidden 0 0
    ∷ events.Copied 0 0 5
    ∷ events.Shown 0 0
    ∷ events.Returned 0 0
    ∷ events.TakenBack 0 0
    ∷ events.Died 1
    ∷ events.Acted 0 acquire (Index 0)
    ∷ events.Finished 0 acquire (Index 0)
    ∷ [])
    ≡ 1
one_ends = refl

-- ---- a recovery of an index whose owner has died

one_word_codes : IsCoding one_word
one_word_codes = record { some = omega arith; few = omega arith; sized = λ n. refl; given_back = λ n. refl }

-- of capacity 1, with values of one word, and for two parties
abbrev after : Kind → List (Turn ℕ) → Trace ℕ
after kind before = run_on before (opening one_word kind 1 2)

-- These turns of party 0 take the number of steps that the bound has. One call has ended before them, and
-- none ends in them.
record IsEndless (t : Trace ℕ) (kind : Kind) (turns : List (Turn ℕ)) (steps : ℕ) : Type 0 where
  -- the machine: turns reach it that begin no call which may lock, and its numbers
  pub reached : IsReachedOn t
  pub such_before : AllByRecursion (BeginsSuch IsDefault) reached.turns
  pub is : t.world.kind ≡ kind
  pub capacity : t.world.capacity ≡ 1
  pub size : t.world.coding.size ≡ 1
  -- the turns: none is refused, all are of party 0, and none begins a call that may lock
  pub allowed : AreAllowedOn t turns
  pub below : AllByRecursion (IsAmong (0 ∷ [])) turns
  pub such : AllByRecursion (BeginsSuch IsDefault) turns
  -- the steps of these turns, and that one call had ended before them and after
  pub many : steps_in t turns ≡ steps
  pub ended_before : ends t.events ≡ 1
  pub ended_after : ends (after_turns t turns).events ≡ 1

low : IsOneIn (0 ∷ []) 0
low = inl refl

none_more : (before after ended : ℕ) → before ≡ ended → after ≡ ended → before < after → ⊥
none_more before after ended was leads less = absurd (omega arith)

more_steps : (most steps here : ℕ) → here ≡ steps → most < steps → most < here
more_steps most steps here all_taken most_below = omega arith

-- A run in which no call ends for n steps refuses each bound below n.
no_less : (t : Trace ℕ) (kind : Kind) (turns : List (Turn ℕ)) (steps : ℕ) → IsEndless t kind turns steps
    → (bound : Bound) → bound 1 1 1 < steps → IsLockFreeOf ℕ kind IsDefault bound → ⊥
no_less t kind turns steps endless bound few free =
    none_more (ends t.events) (ends (after_turns t turns).events) 1 endless.ended_before endless.ended_after
    (free t endless.is endless.reached endless.such_before (0 ∷ []) turns endless.allowed endless.below endless.such
    (more_steps (bound 1 t.world.capacity t.world.coding.size) steps (steps_in t turns) endless.many (rw (endless.capacity, endless.size) few)))

-- an index of the robust set is acquired for owner 1, who dies
abbrev acquired : List (Turn ℕ)
acquired = begins 1 acquire 4 ++ (Die 1 ∷ [])

-- the recovery is told yes, and stops before its last step
abbrev recovered : List (Turn ℕ)
recovered = begins 0 recover 2 ++ (Decide 0 true ∷ nexts 0 3)

-- a bound of less than 5 steps, at the smallest sizes, is refused of a robust set
robust : (bound : Bound) → bound 1 1 1 < 5 → IsLockFreeOf ℕ Robust IsDefault bound → ⊥
robust =
    no_less (after Robust acquired) Robust recovered 5
    (record {
      reached = record { coded = one_word_codes; admitted = refl; turns = acquired; is = refl };
      such_before = (tt, (tt, (tt, (tt, (tt, (tt, tt))))));
      is = refl;
      capacity = refl;
      size = refl;
      allowed = (refl, (refl, (refl, (refl, (refl, (refl, (refl, tt)))))));
      below = (low, (low, (low, (low, (low, (low, (low, tt)))))));
      such = (tt, (tt, (tt, (tt, (tt, (tt, (tt, tt)))))));
      many = refl;
      ended_before = refl;
      ended_after = refl;
    })

-- a value is added to the container for owner 1, who dies
abbrev added : List (Turn ℕ)
added = begins 1 (starts.Container (containers.Add 5 1)) 8 ++ (Die 1 ∷ [])

-- the recovery copies it, is told yes, and stops before its last step
abbrev emptied : List (Turn ℕ)
emptied = begins 0 (starts.Container (containers.Recover 1 Default)) 5 ++ (Decide 0 true ∷ nexts 0 5)

-- a bound of less than 10 steps, at the smallest sizes, is refused of a container
container : (bound : Bound) → bound 1 1 1 < 10 → IsLockFreeOf ℕ Container IsDefault bound → ⊥
container =
    no_less (after Container added) Container emptied 10
    (record {
      reached = record { coded = one_word_codes; admitted = refl; turns = added; is = refl };
      such_before = (tt, (tt, (tt, (tt, (tt, (tt, (tt, (tt, (tt, (tt, tt))))))))));
      is = refl;
      capacity = refl;
      size = refl;
      allowed = (refl, (refl, (refl, (refl, (refl, (refl, (refl, (refl, (refl, (refl, (refl, (refl, tt))))))))))));
      below = (low, (low, (low, (low, (low, (low, (low, (low, (low, (low, (low, (low, tt))))))))))));
      such = (tt, (tt, (tt, (tt, (tt, (tt, (tt, (tt, (tt, (tt, (tt, (tt, tt))))))))))));
      many = refl;
      ended_before = refl;
      ended_after = refl;
    })

-- what it writes
container_writes : (after_turns (after Container added) emptied).events
    ≡ events.Begun 1 (starts.Container (containers.Add 5 1))
    ∷ events.Filled 1 0 1
    ∷ events.Granted 1 0 1
    ∷ events.Placed 1 0 5
    ∷ events.Finished 1 (starts.Container (containers.Add 5 1)) (Index 0)
    ∷ events.Died 1
    ∷ events.Begun 0 (starts.Container (containers.Recover 1 Default))
    ∷ events.Copied 0 0 5
    ∷ events.Asked 0 0 1
    ∷ events.Told 0 0 1
    ∷ events.FreedOf 0 0 1
    ∷ events.Hidden 0 0
    ∷ []
container_writes = refl
