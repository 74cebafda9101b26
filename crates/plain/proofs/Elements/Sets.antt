-- The calls of the robust set over the first words of a container: their steps ask for no word behind those
-- of the set, so their walks over the set's words are walks over the container's.
use Rattle.std.proofs.Common.{◌≡◌, ℕ, suc, ◌+◌, ◌^◌, ◌<◌, ◌≤◌, List, [], ◌∷◌, length, arith}
use Rattle.std.proofs.Common.{length-set, slice_set}
use Rattle.plain.proofs.Names.{nat_tests, by_test, by_eq, After, ReleaseMode, ReleaseState, GiveBack}
use Rattle.steps.specs.Indices.Robust.Parts.{empty, locked, greatest, one_more, raise_want, count_want}
use Rattle.steps.specs.Indices.Robust.Parts.{count_after, count_comes_to, lock_want, lock_after, lock_counted}
use Rattle.steps.specs.Indices.Robust.Acquire.{Acquired, first_acquire, acquire_asks, acquire_tries}
use Rattle.steps.specs.Indices.Robust.Acquire.{acquire_sees, acquire_raised, acquire_takes, acquire_want, acquire_after}
use Rattle.steps.specs.Indices.Robust.Release.{Released, first_release, release_asks, release_raised, release_locked}
use Rattle.steps.specs.Indices.Robust.Release.{release_takes, release_want, release_after}
use Rattle.steps.specs.declared.indices.robust.parts.Raise as raises
use Rattle.steps.specs.declared.indices.robust.parts.Count.{Count}
use Rattle.steps.specs.declared.indices.robust.parts.Count.TheVariants as counts
use Rattle.steps.specs.declared.indices.robust.parts.Counted as ends
use Rattle.steps.specs.declared.indices.robust.parts.Lock.{Lock}
use Rattle.steps.specs.declared.indices.robust.parts.Lock.TheVariants as locks
use Rattle.steps.specs.declared.indices.robust.acquire.Acquire.{Acquire}
use Rattle.steps.specs.declared.indices.robust.acquire.AcquireStage.{AcquireStage}
use Rattle.steps.specs.declared.indices.robust.acquire.AcquireStage.TheVariants as acquires
use Rattle.steps.specs.declared.indices.robust.release.Release.{Release}
use Rattle.steps.specs.declared.indices.robust.release.ReleaseStage.{ReleaseStage}
use Rattle.steps.specs.declared.indices.robust.release.ReleaseStage.TheVariants as releases
use Rattle.steps.specs.Objects.Owners.{acquired, after_acquire, released, after_release}
use Rattle.plain_queues.specs.Alone.{BehavesAs}
use Rattle.plain.specs.Robust.{owners_in, Represents}
use Rattle.plain.proofs.Walks.{plus, plus_sum, Walks, OnEnd, LowThen}
use Rattle.plain.proofs.Fronts.{AsksBelow}
use Rattle.plain.proofs.Robust.Acquires.{take_walks}
use Rattle.plain.proofs.Robust.Releases.{give_walks}

module _ (capacity : ℕ) where
  -- a raise asks only for words of the set
  pub raise_below : (r : raises.Raise) → AsksBelow (1 + capacity) (raise_want r)
  raise_below = grind arith

  -- ---- acquire

  -- an acquire at this stage is at an index of the set
  abbrev StageLow : AcquireStage → Type 0
  StageLow acquires.LoadsCounter = Unit {0}
  StageLow (acquires.FillsCell counter index) = index < capacity
  StageLow (acquires.ChecksCounter counter) = Unit {0}
  StageLow (acquires.Raises index raise) = Unit {0}

  -- an acquire on a set of this capacity, at an index of the set
  abbrev pub AcquireLow : Acquire → Type 0
  AcquireLow call = (call.capacity ≡ capacity) × StageLow call.stage

  -- an acquire that goes on to the next cell keeps `AcquireLow`
  tries_low : (call : Acquire) (counter index : ℕ) → call.capacity ≡ capacity
      → LowThen {E = Acquired} AcquireLow (acquire_tries call counter index)
  tries_low = grind (arith, by_test, nat_tests)

  -- an acquire that goes on from a counter keeps `AcquireLow`
  sees_low : (call : Acquire) (counter : ℕ) → call.capacity ≡ capacity
      → LowThen {E = Acquired} AcquireLow (acquire_sees call counter)
  sees_low = grind (arith, by_eq, locked, greatest, tries_low)

  -- an acquire that goes on after its raise keeps `AcquireLow`
  raised_low : (call : Acquire) (index : ℕ) → call.capacity ≡ capacity
      → (a : After raises.Raise ReleaseState) → LowThen {E = Acquired} AcquireLow (acquire_raised call index a)
  raised_low = grind arith

  -- each step of an acquire keeps `AcquireLow`, whatever its stage is
  acquire_takes_low : (call : Acquire) (stage : AcquireStage) (old : ℕ) → call.capacity ≡ capacity
      → LowThen {E = Acquired} AcquireLow (acquire_takes call stage old)
  acquire_takes_low = grind (arith, sees_low, by_eq, empty, tries_low, raised_low)

  -- each step of an acquire keeps `AcquireLow`
  pub acquire_goes_low : (call : Acquire) (old : ℕ) → AcquireLow call
      → LowThen {E = Acquired} AcquireLow (acquire_after call old)
  acquire_goes_low call old low = acquire_takes_low call call.stage old low.0

  -- an acquire at an index of the set asks only for words of the set
  stage_below : (owner : ℕ) (stage : AcquireStage) → StageLow stage
      → AsksBelow (1 + capacity) (acquire_asks stage owner)
  stage_below = grind (arith, raise_below)

  -- an acquire of which `AcquireLow` holds asks only for words of the set
  pub acquire_below : (owner : ℕ) (call : Acquire) → AcquireLow call
      → AsksBelow (1 + capacity) (acquire_want call owner)
  acquire_below owner call low = stage_below owner call.stage low.1

  -- ---- count and lock

  -- a count at this stage is at an index of the set
  abbrev pub CountLow : Count → Type 0
  CountLow counts.LoadsCounter = Unit {0}
  CountLow (counts.LoadsCell counter index filled) = index < capacity
  CountLow (counts.ExchangesCounter counter filled) = Unit {0}

  -- a count that goes on to the next cell keeps `CountLow`
  comes_low : (counter index filled : ℕ)
      → LowThen {E = ends.Counted} CountLow (count_comes_to capacity counter index filled)
  comes_low = grind (arith, by_test, by_eq, greatest, nat_tests)

  -- each step of a count keeps `CountLow`
  pub count_goes_low : (count : Count) (old : ℕ)
      → LowThen {E = ends.Counted} CountLow (count_after capacity count old)
  count_goes_low = grind (arith, by_eq, locked, comes_low, empty, one_more)

  -- a count of which `CountLow` holds asks only for words of the set
  pub count_below : (count : Count) → CountLow count → AsksBelow (1 + capacity) (count_want count)
  count_below = grind arith

  -- the count of a lock is at an index of the set
  abbrev pub LockLow : Lock → Type 0
  LockLow (locks.Counts count) = CountLow count
  LockLow (locks.ExchangesCounter counter) = Unit {0}

  -- a lock that goes on after a step of its count keeps `LockLow`
  counted_low : (a : After Count ends.Counted) → LowThen {E = ends.Counted} CountLow a
      → LowThen {E = ReleaseState} LockLow (lock_counted a)
  counted_low = grind (arith, by_test, greatest)

  -- each step of a lock keeps `LockLow`
  pub lock_goes_low : (lock : Lock) (old : ℕ) → LowThen {E = ReleaseState} LockLow (lock_after capacity lock old)
  lock_goes_low = grind (arith, counted_low, count_after, count_goes_low, by_eq)

  -- a lock of which `LockLow` holds asks only for words of the set
  pub lock_below : (lock : Lock) → LockLow lock → AsksBelow (1 + capacity) (lock_want lock)
  lock_below = grind (arith, count_below)

  -- ---- release

  -- the lock of a release at this stage is at an index of the set
  abbrev GivesLow : ReleaseStage → Type 0
  GivesLow releases.EmptiesCell = Unit {0}
  GivesLow (releases.Raises raise) = Unit {0}
  GivesLow (releases.Locks lock) = LockLow lock

  -- a release on a set of this capacity, whose lock is at an index of the set
  abbrev pub ReleaseLow : Release → Type 0
  ReleaseLow call = (call.capacity ≡ capacity) × GivesLow call.stage

  -- a release that goes on after its raise keeps `ReleaseLow`
  given_raised_low : (call : Release) (mode : ReleaseMode) → call.capacity ≡ capacity
      → (a : After raises.Raise ReleaseState) → LowThen {E = Released} ReleaseLow (release_raised call mode a)
  given_raised_low = grind arith

  -- a release that goes on after a step of its lock keeps `ReleaseLow`
  given_locked_low : (call : Release) → call.capacity ≡ capacity → (a : After Lock ReleaseState)
      → LowThen {E = ReleaseState} LockLow a → LowThen {E = Released} ReleaseLow (release_locked call a)
  given_locked_low = grind arith

  -- each step of a release keeps `ReleaseLow`, whatever its stage is
  release_takes_low : (call : Release) (stage : ReleaseStage) (given : GiveBack) (old : ℕ) → call.capacity ≡ capacity
      → LowThen {E = Released} ReleaseLow (release_takes call stage given old)
  release_takes_low = grind (arith, by_eq, given_raised_low, given_locked_low, lock_goes_low)

  -- each step of a release keeps `ReleaseLow`
  pub release_goes_low : (given : GiveBack) (call : Release) (old : ℕ) → ReleaseLow call
      → LowThen {E = Released} ReleaseLow (release_after call given old)
  release_goes_low given call old low = release_takes_low call call.stage given old low.0

  -- a release of an index of the set asks only for words of the set, at each stage
  gives_below : (given : GiveBack) → given.index < capacity → (stage : ReleaseStage) → GivesLow stage
      → AsksBelow (1 + capacity) (release_asks stage given)
  gives_below = grind (arith, raise_below, lock_below)

  -- a release of which `ReleaseLow` holds asks only for words of the set
  pub release_below : (given : GiveBack) → given.index < capacity → (call : Release) → ReleaseLow call
      → AsksBelow (1 + capacity) (release_want call given)
  release_below given near call low = gives_below given near call.stage low.1

-- ---- the walks over any words that fit

-- an acquire of the set is walked over any words of a robust set, and does what an acquire does to the map
pub acquire_front : (capacity owner : ℕ) → owner < empty → (words : List ℕ) → Represents capacity words
    → (n : ℕ) × (n ≤ 2 ^ 40) × Walks (λ c. acquire_want c owner) (λ c old. acquire_after c old) n
    (OnEnd (λ e last. BehavesAs (Represents capacity) owners_in acquired (λ s. after_acquire s owner) words e last)) (first_acquire capacity) words
acquire_front capacity owner lives [] fits = let e : 0 ≡ 1 + capacity = fits.long in absurd (omega arith)
acquire_front capacity owner lives (g ∷ cells) fits =
    let long : suc (length cells) ≡ 1 + capacity = fits.long in
    let few = fits.few in (
      suc (suc (suc (suc (suc (length cells))))),
      omega arith,
      take_walks capacity owner g cells fits.small (omega arith) fits.few lives fits.some,
    )

-- a release of an index below the capacity is walked over any words of a robust set, and does what a release
-- does to the map
pub release_front : (capacity index owner : ℕ) (mode : ReleaseMode) → owner < empty → (words : List ℕ) → Represents capacity words → index < capacity
    → (n : ℕ) × (n ≤ 2 ^ 40) × Walks (λ c. release_want c (record { index = index; owner = owner; mode = mode }))
    (λ c old. release_after c (record { index = index; owner = owner; mode = mode }) old) n
    (OnEnd (λ e last. BehavesAs (Represents capacity) owners_in (λ s. released s index owner mode)
    (λ s. after_release s index owner mode) words e last))
    (first_release capacity) words
release_front capacity index owner mode lives [] fits near = let e : 0 ≡ 1 + capacity = fits.long in absurd (omega arith)
release_front capacity index owner mode lives (g ∷ cells) fits near =
    let long : suc (length cells) ≡ 1 + capacity = fits.long in
    let few = fits.few in
    let l = length-set cells index empty in
    let a = plus_sum (plus (suc (suc (suc (length (slice_set cells index empty))))) 1) 0 in
    let b = plus_sum (suc (suc (suc (length (slice_set cells index empty))))) 1 in (
      suc (suc (suc (plus (plus (suc (suc (suc (length (slice_set cells index empty))))) 1) 0))),
      omega arith,
      give_walks capacity index owner g cells fits.small (omega arith) fits.few lives near mode fits.some,
    )
