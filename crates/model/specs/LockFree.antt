-- Lock-freedom, as a statement about lists of turns: whichever turns some parties take, in more
-- steps than a bound for that many parties a call ends.
use Rattle.std.specs.Prelude.{◌≡◌, ◌<◌, ◌≤◌, ◌⊎◌, ℕ, zero, suc, ◌+◌, ◌-◌, ◌*◌, max, Option, Some, None, List, [], ◌∷◌, length}
use Rattle.std.specs.List.{AllByRecursion, sum_by}
use Rattle.steps.specs.Bits.Words.{elements}
use Rattle.steps.specs.declared.indices.enums.ReleaseMode.TheVariants.{LockIfLastIndex}
use Rattle.model.specs.declared.event.Event.{Event}
use Rattle.model.specs.declared.event.Event.TheVariants.{Finished}
use Rattle.model.specs.declared.event.Start.{Start}
use Rattle.model.specs.declared.event.Start.TheVariants.{Robust, Container}
use Rattle.model.specs.declared.families.container.ContainerStart.TheVariants as containers
use Rattle.model.specs.declared.families.indices.robust.RobustStart.TheVariants.{Release, Recover}
use Rattle.model.specs.declared.turn.Kind.{Kind}
use Rattle.model.specs.declared.turn.Kind.TheVariants.{IndexQueue, Overflow, Queue, Atomic, Bits, Counts, Indices}
use Rattle.model.specs.declared.turn.Turn.{Turn}
use Rattle.model.specs.declared.turn.Turn.TheVariants.{Begin, Next, Decide, Die}
use Rattle.model.specs.Promises.Turns.{ask_in}
use Rattle.model.specs.Turns.{step_count, after_turn, after_turns, AreAllowed, AreAllowedOn, IsReached, IsReachedOn}
use Rattle.model.specs.World.{World, Trace}

-- the party is one of these
abbrev pub IsOneIn : List ℕ → ℕ → Type 0
IsOneIn [] p = ⊥
IsOneIn (q ∷ parties) p = (p ≡ q) ⊎ IsOneIn parties p

-- the parties with the numbers below n
abbrev pub parties_below : ℕ → List ℕ
parties_below zero = []
parties_below (suc n) = n ∷ parties_below n

module _ {T : Type 0} where
  -- ---- a stretch of a run: turns from a machine that turns have reached, of which none is refused

  -- 1 for an event that ends a call
  abbrev pub end_of : Event T → ℕ
  end_of (Finished p start answer) = 1
  end_of e = 0

  -- how many calls have ended
  abbrev pub ends : List (Event T) → ℕ
  ends events = sum_by end_of events

  -- 1 for a turn that does an operation on a word
  abbrev pub steps_of : World T → Turn T → ℕ
  steps_of w turn = step_count (ask_in w turn)

  -- how many steps the turns take
  abbrev pub steps_in : Trace T → List (Turn T) → ℕ
  steps_in t [] = 0
  steps_in t (turn ∷ turns) = steps_of t.world turn + steps_in (after_turn t turn) turns

  -- the turn is of one of these parties; a death is of none
  abbrev pub IsAmong : List ℕ → Turn T → Type 0
  IsAmong parties (Begin p start) = IsOneIn parties p
  IsAmong parties (Next p) = IsOneIn parties p
  IsAmong parties (Decide p said) = IsOneIn parties p
  IsAmong parties (Die owner) = Unit {0}

  -- if the turn begins a call, then `Such` holds of it
  abbrev pub BeginsSuch : (Start T → Type 0) → Turn T → Type 0
  BeginsSuch Such (Begin p start) = Such start
  BeginsSuch Such turn = Unit {0}

-- ---- the law

-- a number of steps, by how many parties take turns, the capacity, and the words of a value
abbrev pub Bound : Type 0
Bound = ℕ → ℕ → ℕ → ℕ

-- Lock-freedom with a bound: from any state that turns reach, whatever turns these parties take while
-- the others stand still, in more steps than the bound (for that many parties, the capacity and the
-- words of a value) a call ends. A party that stands in the list twice counts twice.
abbrev pub IsLockFree : Type 0 → Kind → Bound → Type 0
IsLockFree T kind bound =
    (t : Trace T) → t.world.kind ≡ kind → IsReachedOn t → (parties : List ℕ) (turns : List (Turn T))
    → AreAllowedOn t turns → AllByRecursion (IsAmong parties) turns
    → bound (length parties) t.world.capacity t.world.coding.size < steps_in t turns
    → ends t.events < ends (after_turns t turns).events

-- If k calls have ended between `before` and `after`, then at most (k + 1) * bound + k steps were taken.
abbrev pub AreWithinEnds : ℕ → ℕ → (before after : ℕ) → Type 0
AreWithinEnds bound steps before after = steps + before * (bound + 1) ≤ bound + after * (bound + 1)

-- Lock-freedom over a whole stretch of turns: of these parties' steps at most the bound are taken
-- between two ends of calls, so k ends allow at most (k + 1) * bound + k steps.
abbrev pub KeepsEnding : Type 0 → Kind → Bound → Type 0
KeepsEnding T kind bound =
    (t : Trace T) → t.world.kind ≡ kind → IsReachedOn t → (parties : List ℕ) (turns : List (Turn T))
    → AreAllowedOn t turns → AllByRecursion (IsAmong parties) turns
    → AreWithinEnds (bound (length parties) t.world.capacity t.world.coding.size) (steps_in t turns) (ends t.events)
    (ends (after_turns t turns).events)

-- ---- of runs in which `Such` holds for each call that begins

-- As `IsLockFree`, of runs in which `Such` holds for each call that begins:
-- in more steps than the bound says, a call ends.
abbrev pub IsLockFreeOf : (T : Type 0) → Kind → (Start T → Type 0) → Bound → Type 0
IsLockFreeOf T kind Such bound =
    (t : Trace T) → t.world.kind ≡ kind → (r : IsReachedOn t) → AllByRecursion (BeginsSuch Such) r.turns
    → (parties : List ℕ) (turns : List (Turn T))
    → AreAllowedOn t turns → AllByRecursion (IsAmong parties) turns → AllByRecursion (BeginsSuch Such) turns
    → bound (length parties) t.world.capacity t.world.coding.size < steps_in t turns
    → ends t.events < ends (after_turns t turns).events

-- As `KeepsEnding`, of runs in which `Such` holds for each call that begins:
-- calls end as often as the steps have that bound.
abbrev pub KeepsEndingOf : (T : Type 0) → Kind → (Start T → Type 0) → Bound → Type 0
KeepsEndingOf T kind Such bound =
    (t : Trace T) → t.world.kind ≡ kind → (r : IsReachedOn t) → AllByRecursion (BeginsSuch Such) r.turns
    → (parties : List ℕ) (turns : List (Turn T))
    → AreAllowedOn t turns → AllByRecursion (IsAmong parties) turns → AllByRecursion (BeginsSuch Such) turns
    → AreWithinEnds (bound (length parties) t.world.capacity t.world.coding.size) (steps_in t turns) (ends t.events)
    (ends (after_turns t turns).events)

-- ---- of machines as they run

-- `IsLockFree` for a machine as it runs: in more steps than the bound for its number of parties, a call ends.
abbrev pub HasLockFreeRuns : Type 0 → Kind → Bound → Type 0
HasLockFreeRuns T kind bound =
    (t : Trace T) → t.world.kind ≡ kind → IsReached t → (turns : List (Turn T)) → AreAllowed t turns
    → bound t.world.parties t.world.capacity t.world.coding.size < steps_in t turns
    → ends t.events < ends (after_turns t turns).events

-- ---- the bounds

-- How many steps n parties take at most before one of their calls ends. Each call takes at most `alone`
-- steps before its last one, unless another call makes a change of a word that costs it up to `alone`
-- steps more, and each call makes at most `changes` of those.
abbrev pub stretch : (n changes alone : ℕ) → ℕ
stretch n changes alone = n * changes * ((n - 1) * alone) + n * alone

-- The bound of lock-freedom of a kind, or None where this table has none. If no change of a call
-- costs another party a step, the bound is n times one number.
abbrev pub lock_free_bound : Kind → Option Bound
lock_free_bound IndexQueue = Some (λ n capacity size. stretch n 0 5)
lock_free_bound Overflow = Some (λ n capacity size. stretch n 2 5)
lock_free_bound Queue = Some (λ n capacity size. stretch n 0 (max 5 (size + 2)))
lock_free_bound Atomic = Some (λ n capacity size. stretch n 0 (2 * size + 1))
lock_free_bound Bits = Some (λ n capacity size. stretch n (max 1 (elements capacity - 1)) (capacity + 2))
lock_free_bound Counts = Some (λ n capacity size. stretch n 0 (capacity - 1))
lock_free_bound Indices = Some (λ n capacity size. stretch n 1 (capacity + 4))
lock_free_bound kind = None

-- the bound of a robust index set in which no call may lock
abbrev pub default_bound : Bound
default_bound n capacity size = stretch n capacity (4 * capacity + 1)

-- the bound of a container in which no call may lock
abbrev pub default_container_bound : Bound
default_container_bound n capacity size = stretch n (max 2 capacity) (capacity * (size + 7) + max 2 size)

-- the call does not lock: it is no release, remove or recovery in the mode that locks
abbrev pub IsDefault : {T : Type 0} → Start T → Type 0
IsDefault (Robust (Release index owner LockIfLastIndex)) = ⊥
IsDefault (Robust (Recover LockIfLastIndex)) = ⊥
IsDefault (Container (containers.Remove index owner LockIfLastIndex)) = ⊥
IsDefault (Container (containers.Recover owner LockIfLastIndex)) = ⊥
IsDefault start = Unit {0}
