-- The calls on a unique index set are calls of the model: an acquire, a release, and a release that may lock,
-- each step of which keeps the rule of the table.
use Rattle.history.proofs.Names.{◌≡◌, inl, ℕ, ◌+◌, ◌<◌, Bool, true, false, None, List, [], ◌∷◌}
use Rattle.history.proofs.Names.{◌++◌, refl, arith, went_on}
use Rattle.steps.specs.declared.ask.Ask.{Ask}
use Rattle.steps.specs.declared.ask.After.{After}
use Rattle.history.proofs.Names.{load, Coding}
use Rattle.steps.specs.declared.ask.After.TheVariants.{GoOn}
use Rattle.steps.specs.declared.indices.enums.ReleaseState.{ReleaseState}
use Rattle.model.specs.declared.event.Answer.{Answer}
use Rattle.model.specs.declared.event.Event.{Event}
use Rattle.model.specs.declared.event.Event.TheVariants.{Freed}
use Rattle.model.specs.declared.families.Flight.{Flight}
use Rattle.history.proofs.Names.{as_it_is, as_call, answer_in, answered}
use Rattle.steps.specs.Indices.Head.{flag_word, proposed}
use Rattle.steps.specs.Indices.Unique.{borrowed_after, locked_after, Acquired, first_acquire, acquire_asks}
use Rattle.steps.specs.Indices.Unique.{acquire_want, acquire_takes}
use Rattle.steps.specs.Indices.Unique.{acquire_after, at_release, first_release, release_asks}
use Rattle.steps.specs.Indices.Unique.{release_want, release_takes, release_after}
use Rattle.steps.specs.declared.ask.After.TheVariants.{Done}
use Rattle.steps.specs.declared.ask.Want.TheVariants as wants
use Rattle.steps.specs.declared.indices.unique.Acquire.{Acquire as Acquiring}
use Rattle.steps.specs.declared.indices.unique.AcquireStage.{AcquireStage}
use Rattle.steps.specs.declared.indices.unique.AcquireStage.TheVariants as acquires
use Rattle.steps.specs.declared.indices.unique.Release.{Release as Releasing}
use Rattle.steps.specs.declared.indices.unique.ReleaseStage.{ReleaseStage}
use Rattle.steps.specs.declared.indices.unique.ReleaseStage.TheVariants as releases
use Rattle.steps.specs.declared.indices.unique.DefaultMode.{DefaultMode}
use Rattle.steps.specs.declared.indices.unique.LockMode.{LockMode}
use Rattle.steps.specs.declared.indices.looks.BorrowedIndices.{BorrowedIndices as Counting}
use Rattle.steps.specs.declared.indices.looks.IsLocked.{IsLocked as Looking}
use Rattle.steps.specs.declared.indices.enums.ReleaseMode.TheVariants as modes
use Rattle.model.specs.declared.event.Answer.TheVariants.{State}
use Rattle.model.specs.declared.families.Flight.TheVariants as flights
use Rattle.model.specs.declared.families.indices.calls.IndexFlight.TheVariants as calls
use Rattle.model.specs.declared.turn.Kind.TheVariants as kinds
use Rattle.model.specs.Families.Indices.Calls.{acquire_answer}
use Rattle.model.specs.Families.Indices.Steps.{ended}
use Rattle.laws_indices.proofs.Core as core
use Rattle.history.specs.declared.view.View.{View}
use Rattle.history.specs.Held.{Holds}
use Rattle.history_indices.specs.Indices.{StandsIn, claimed_by, takes_index, freed_at, gives_index, given_by, gives_or_locks, counts_out, looks_locked}
use Rattle.history.specs.Stages.{At}
use Rattle.history.proofs.Beginning.{at_begin}
use Rattle.history.proofs.Drives.{goes, keeps_to_end}
use Rattle.history_indices.proofs.Indices.{index_effects, plain_starts, release_starts}
use Rattle.history.proofs.CallsIn.{Driven, IsCallBy, KeepsEnds}
use Rattle.history_indices.proofs.Indices.{index_machines}

-- ---- acquire

-- an acquire that goes on stands within the set
abbrev Standing : ℕ → After Acquiring Acquired → Type 0
Standing n (GoOn d) = (takes_index {T = ℕ}).stands n d
Standing n (Done e) = Unit {0}

module _ (n : ℕ) (c : Acquiring) (same : c.capacity ≡ n) (some : 0 < n) where
  -- after a step an acquire stands within the set, or has ended
  takes_on : (stage : AcquireStage) (k : ℕ) → StandsIn n stage → Standing n (acquire_takes c stage k)
  takes_on = grind arith

  -- at each stage an acquire asks for one word of the set
  asks_one : (stage : AcquireStage) → StandsIn n stage → (a : Ask) × (a.word < core.size n) × (acquire_asks c.capacity stage ≡ wants.Ask a)
  asks_one acquires.LoadsHead stands_in = (_, omega arith, refl)
  asks_one (acquires.LoadsNext head) stands_in = (_, (let low : 1 + proposed head < core.size n = omega arith in low), refl)
  asks_one (acquires.ExchangesHead head next) stands_in = (_, omega arith, refl)
  asks_one (acquires.Claims index) stands_in = (_, (let low : flag_word c.capacity index < core.size n = omega arith in low), refl)
  asks_one (acquires.Scans index) stands_in = (_, (let low : flag_word c.capacity index < core.size n = omega arith in low), refl)

-- what an acquire hears of an operation is what the word was before it
hears_at : (c : Acquiring) (stage : AcquireStage) (a : Ask) (n : ℕ)
    → acquire_asks c.capacity stage ≡ wants.Ask a → acquire_after c (answered a.op n) ≡ acquire_after c n
hears_at = grind arith

module _ {T : Type 0} (code : Coding T) where
  -- the model's acquire goes on as the driver's does
  as_told : (r : After Acquiring Acquired) → as_call flights.Indices (λ (answer : Answer T). answer)
      (as_call calls.Acquire acquire_answer (went_on as_it_is tt tt r)) ≡ goes takes_index r tt
  as_told (GoOn d) = refl
  as_told (Done e) = refl

  -- what a step of an acquire writes: the claim of the index, where it ends with one
  abbrev claimed_in : ℕ → After Acquiring Acquired → List (Event T)
  claimed_in p (GoOn d) = []
  claimed_in p (Done e) = claimed_by p e

  -- the step with which an acquire ends writes what `claimed_in` says
  writes_so : (p : ℕ) (r : After Acquiring Acquired)
      → ended p (answer_in (as_call calls.Acquire acquire_answer (went_on as_it_is tt tt r))) ≡ claimed_in p r
  writes_so = grind arith

  -- an acquire, as the driver makes it
  abbrev pub acquire_driven : Driven T Acquiring (Unit {0}) Acquired
  acquire_driven = record { want = acquire_want; after = acquire_after; kept = λ c m n. m; call = takes_index }

  -- an acquire is a call of the model
  pub acquire_call : IsCallBy code index_effects core.size acquire_driven
  acquire_call = grind (arith, as_told, hears_at, takes_on, asks_one, writes_so)

  -- each step of an acquire keeps the rule of the table
  pub acquire_keeps : KeepsEnds code kinds.Indices core.size acquire_driven
  acquire_keeps = keeps_to_end (index_machines code) acquire_driven acquire_call (λ c n. refl)

  -- an acquire begins on a pass with no call under way, in a set with a capacity
  pub acquire_first : (v : View T) (m : Unit {0}) → v.going ≡ None → v.other ≡ [] → 0 < v.share.part
      → 0 < v.capacity → At code kinds.Indices takes_index v v (first_acquire v.capacity) m
  acquire_first = grind (arith, inl, plain_starts)

-- ---- release

-- a release that goes on is in the set, of an index of the set
abbrev StandsBelow : {M : Type 0} → ℕ → ℕ → After (Releasing M) ReleaseState → Type 0
StandsBelow n index (GoOn d) = (d.capacity ≡ n) × (index < n)
StandsBelow n index (Done e) = Unit {0}

-- whether or not it may lock
module _ {M : Type 0} (may : Bool) (c : Releasing M) (index : ℕ) where
  -- after a step a release is in the set, of an index of the set, or has ended
  gives_on : (n : ℕ) → c.capacity ≡ n → index < n → (stage : ReleaseStage) (k : ℕ) → StandsBelow n index (release_takes may c stage k)
  gives_on = grind arith

  -- at each stage a release asks for one word of the set
  asks_for : (n : ℕ) → c.capacity ≡ n → index < n → (stage : ReleaseStage)
      → (a : Ask) × (a.word < core.size n) × (release_asks may c.capacity index stage ≡ wants.Ask a)
  asks_for n same low releases.ClearsFlag = (_, (let l : flag_word c.capacity index < core.size n = omega arith in l), refl)
  asks_for n same low releases.LoadsHead = (_, omega arith, refl)
  asks_for n same low (releases.StoresNext head) = (_, (let l : 1 + index < core.size n = omega arith in l), refl)
  asks_for n same low (releases.ExchangesHead head) = (_, omega arith, refl)
  asks_for n same low releases.Subtracts = (_, omega arith, refl)

  -- what a release hears of an operation is what the word was before it
  gives_heard : (stage : ReleaseStage) (a : Ask) (n : ℕ) → release_asks may c.capacity index stage ≡ wants.Ask a
      → release_takes may c stage (answered a.op n) ≡ release_takes may c stage n
  gives_heard = grind arith

-- a release in the mode that does not lock
abbrev Giving : Type 0
Giving = Releasing DefaultMode

module _ {T : Type 0} (code : Coding T) (index : ℕ) where
  -- the model's release goes on as the driver's does
  as_given : (r : After Giving ReleaseState) → as_call flights.Indices (λ (answer : Answer T). answer)
      (as_call calls.ReleaseDefault State (went_on as_it_is index tt r)) ≡ goes (gives_index index) r tt
  as_given (GoOn d) = refl
  as_given (Done e) = refl

  -- what a release has written after a step: that its index is free
  abbrev freed_in : ℕ → After Giving ReleaseState → List (Event T)
  freed_in p (GoOn d) = freed_at p index d.stage
  freed_in p (Done e) = Freed p index ∷ []

  -- the model's release at this stage
  abbrev at_stage : Giving → ReleaseStage → Flight T
  at_stage c stage = (gives_index {T = T} index).flight (at_release c stage) tt

  -- with the effects of its step a release has written what `freed_in` says
  writes_at : (p : ℕ) (c : Giving) (stage : ReleaseStage) (n : ℕ)
      → freed_at p index stage ++ index_effects p (at_stage c stage) n ≡ freed_in p (release_takes false c stage n)
  writes_at = grind arith

  -- a release, as the driver makes it
  abbrev pub release_driven : Driven T Giving (Unit {0}) ReleaseState
  release_driven = record { want = λ c. release_want false c index; after = λ c n. release_after false c n; kept = λ c m n. m; call = gives_index index }

  -- a release is a call of the model
  pub release_call : IsCallBy code index_effects core.size release_driven
  release_call = grind (arith, as_given, false, gives_heard, gives_on, asks_for, writes_at)

  -- each step of a release keeps the rule of the table
  pub release_keeps : KeepsEnds code kinds.Indices core.size release_driven
  release_keeps = keeps_to_end (index_machines code) release_driven release_call (λ c n. refl)

  -- a release begins on a pass that holds the index and has no call under way
  pub release_first : (v : View T) (m : Unit {0}) → v.going ≡ None → v.other ≡ [] → 0 < v.share.part
      → index < v.capacity → Holds index v.made
      → At code kinds.Indices (gives_index index) v v (first_release v.capacity) m
  release_first v m idle alone any low held =
      at_begin idle alone any (refl, low) refl
      (release_starts modes.Default refl (λ o p. tt) (λ kept. refl) low held) (λ p new. refl)

-- ---- release that may lock

-- a release in the mode that may lock
abbrev Locking : Type 0
Locking = Releasing LockMode

module _ {T : Type 0} (code : Coding T) (index : ℕ) where
  -- the model's release in the mode that may lock goes on as the driver's does
  as_locked : (r : After Locking ReleaseState) → as_call flights.Indices (λ (answer : Answer T). answer)
      (as_call calls.ReleaseLock State (went_on as_it_is index tt r)) ≡ goes (gives_or_locks index) r tt
  as_locked (GoOn d) = refl
  as_locked (Done e) = refl

  -- what a release that may lock has written after a step: that its index is free, and where it locked the
  -- set, that too
  abbrev locked_in : ℕ → After Locking ReleaseState → List (Event T)
  locked_in p (GoOn d) = freed_at p index d.stage
  locked_in p (Done e) = given_by p index e

  -- the model's release that may lock, at this stage
  abbrev lock_stage : Locking → ReleaseStage → Flight T
  lock_stage c stage = (gives_or_locks {T = T} index).flight (at_release c stage) tt

  -- with the effects of its step a release that may lock has written what `locked_in` says
  locks_at : (p : ℕ) (c : Locking) (stage : ReleaseStage) (n : ℕ)
      → freed_at p index stage ++ index_effects p (lock_stage c stage) n ≡ locked_in p (release_takes true c stage n)
  locks_at = grind arith

  -- a release that may lock, as the driver makes it
  abbrev pub lock_driven : Driven T Locking (Unit {0}) ReleaseState
  lock_driven = record { want = λ c. release_want true c index; after = λ c n. release_after true c n; kept = λ c m n. m; call = gives_or_locks index }

  -- a release that may lock is a call of the model
  pub lock_call : IsCallBy code index_effects core.size lock_driven
  lock_call = grind (arith, as_locked, gives_heard, gives_on, asks_for, locks_at)

  -- each step of a release that may lock keeps the rule of the table
  pub lock_keeps : KeepsEnds code kinds.Indices core.size lock_driven
  lock_keeps = keeps_to_end (index_machines code) lock_driven lock_call (λ c n. refl)

  -- a release that may lock begins on a pass that holds the index and has no call under way
  pub lock_first : (v : View T) (m : Unit {0}) → v.going ≡ None → v.other ≡ [] → 0 < v.share.part
      → index < v.capacity → Holds index v.made
      → At code kinds.Indices (gives_or_locks index) v v (first_release v.capacity) m
  lock_first v m idle alone any low held =
      at_begin idle alone any (refl, low) refl
      (release_starts modes.LockIfLastIndex refl (λ o p. tt) (λ kept. refl) low held) (λ p new. refl)

-- ---- looks at the head

module _ {T : Type 0} (code : Coding T) where
  -- a count, as the driver makes it
  abbrev pub count_driven : Driven T Counting (Unit {0}) ℕ
  count_driven = record { want = λ c. load 0; after = borrowed_after; kept = λ c m n. m; call = counts_out }

  -- a count is a call of the model
  pub count_call : IsCallBy code index_effects core.size count_driven
  count_call = grind arith

  -- each step of a count keeps the rule of the table
  pub count_keeps : KeepsEnds code kinds.Indices core.size count_driven
  count_keeps = keeps_to_end (index_machines code) count_driven count_call (λ c n. refl)

  -- a count begins on a pass with no call under way
  pub count_first : (v : View T) (c : Counting) (m : Unit {0}) → v.going ≡ None → v.other ≡ [] → 0 < v.share.part → At code kinds.Indices counts_out v v c m
  count_first = grind (arith, inl, plain_starts)

  -- a look, as the driver makes it
  abbrev pub look_driven : Driven T Looking (Unit {0}) Bool
  look_driven = record { want = λ c. load 0; after = locked_after; kept = λ c m n. m; call = looks_locked }

  -- a look is a call of the model
  pub look_call : IsCallBy code index_effects core.size look_driven
  look_call = grind arith

  -- each step of a look keeps the rule of the table
  pub look_keeps : KeepsEnds code kinds.Indices core.size look_driven
  look_keeps = keeps_to_end (index_machines code) look_driven look_call (λ c n. refl)

  -- a look at the lock begins on a pass with no call under way
  pub look_first : (v : View T) (c : Looking) (m : Unit {0}) → v.going ≡ None → v.other ≡ [] → 0 < v.share.part → At code kinds.Indices looks_locked v v c m
  look_first = grind (arith, inl, plain_starts)
