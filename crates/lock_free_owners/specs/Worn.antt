-- How often the generation counter of a robust set or a container can have gone up, by the changes that
-- its history shows.
use Rattle.std.specs.Prelude.{◌≡◌, ◌-◌, ◌*◌, ◌^◌, ◌≤◌, ℕ, Bool, true, false, List, sum_by, if◌then◌else◌}
use Rattle.steps.specs.declared.indices.enums.ReleaseMode.TheVariants.{LockIfLastIndex}
use Rattle.model.specs.declared.event.Event.{Event}
use Rattle.model.specs.declared.event.Event.TheVariants.{Begun, Filled, FreedOf}
use Rattle.model.specs.declared.event.Start.{Start}
use Rattle.model.specs.declared.event.Start.TheVariants.{Robust, Container}
use Rattle.model.specs.declared.families.container.ContainerStart.TheVariants as containers
use Rattle.model.specs.declared.families.indices.robust.RobustStart.TheVariants.{Release, Recover, BorrowedIndices}
use Rattle.model.specs.Reading.{Each, Span, Open, span_of}

module _ {T : Type 0} where
  -- ---- changes

  -- an index is filled or freed, or a call that counts the indices begins
  abbrev pub change : Event T → ℕ
  change (Filled p index owner) = 1
  change (FreedOf p index owner) = 1
  change (Begun p (Robust BorrowedIndices)) = 1
  change (Begun p (Container containers.Len)) = 1
  change (Begun p (Container containers.IsEmpty)) = 1
  change e = 0

  -- how many changes these events have
  abbrev pub changes : List (Event T) → ℕ
  changes events = sum_by change events

  -- ---- calls that may lock

  -- a release, a remove or a recovery in the mode that locks
  abbrev pub may_lock : Start T → Bool
  may_lock (Robust (Release index owner LockIfLastIndex)) = true
  may_lock (Robust (Recover LockIfLastIndex)) = true
  may_lock (Container (containers.Remove index owner LockIfLastIndex)) = true
  may_lock (Container (containers.Recover owner LockIfLastIndex)) = true
  may_lock start = false

  -- a call of this span may lock and is under way
  abbrev pub is_locking : Span T → Bool
  is_locking (Open start wrote) = may_lock start
  is_locking span = false

  -- a call that may lock begins only where no other such call is under way
  abbrev pub BeginsAlone : List (Event T) → Event T → Type 0
  BeginsAlone before (Begun p start) = may_lock start ≡ true → (q : ℕ) → is_locking (span_of q before) ≡ false
  BeginsAlone before e = Unit {0}

  -- no two calls that may lock overlap
  abbrev pub LocksApart : List (Event T) → Type 0
  LocksApart events = Each BeginsAlone events

  -- how many calls that may lock were begun
  abbrev pub lock_call : Event T → ℕ
  lock_call (Begun p start) = if may_lock start then 1 else 0
  lock_call e = 0

  -- how many calls that may lock were begun in these events
  abbrev pub lock_calls : List (Event T) → ℕ
  lock_calls events = sum_by lock_call events

  -- ---- the end of the counter

  -- The counter may be at its end. If no two calls that may lock overlap, this takes at least a third
  -- of 2^64 - 2 changes.
  abbrev pub MayBeWorn : List (Event T) → Type 0
  MayBeWorn events = LocksApart events → 2 ^ 64 - 2 ≤ 3 * changes events
