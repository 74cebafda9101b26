-- The acquires, releases and looks of robust index sets are calls of the model, each step of which keeps the
-- rule of the table.
use Rattle.history.proofs.Names.{Bool, ◌≡◌, inl, ℕ, ◌+◌, ◌<◌, nat_lt, nat_le, true, false, None, List, []}
use Rattle.history.proofs.Names.{◌++◌, refl, arith, nat_tests, first_borrowed}
use Rattle.history.proofs.Names.{borrowed_want, borrowed_counted, empty, count_after}
use Rattle.history.proofs.Names.{Released, load, went_on}
use Rattle.steps.specs.declared.ask.Ask.{Ask}
use Rattle.steps.specs.declared.ask.After.{After}
use Rattle.steps.specs.declared.ask.After.TheVariants.{GoOn}
use Rattle.steps.specs.declared.indices.robust.acquire.AcquireStage.{AcquireStage}
use Rattle.steps.specs.declared.indices.robust.parts.Count.{Count}
use Rattle.steps.specs.declared.indices.robust.release.GiveBack.{GiveBack}
use Rattle.steps.specs.declared.indices.robust.release.ReleaseStage.{ReleaseStage}
use Rattle.model.specs.declared.event.Answer.{Answer}
use Rattle.model.specs.declared.event.Answer.TheVariants.{Number}
use Rattle.model.specs.declared.event.Event.{Event}
use Rattle.history.proofs.Names.{Coding, acquire_effects, release_effects, as_it_is, as_call, answered}
use Rattle.steps.specs.Indices.Robust.Acquire.{Acquired, first_acquire, acquire_asks, acquire_want}
use Rattle.steps.specs.Indices.Robust.Acquire.{acquire_after}
use Rattle.steps.specs.Indices.Robust.Looks.{borrowed_after, locked_after}
use Rattle.steps.specs.Indices.Robust.Release.{first_release, release_asks, release_want}
use Rattle.steps.specs.Indices.Robust.Release.{release_takes, release_after}
use Rattle.steps.specs.declared.ask.After.TheVariants.{Done}
use Rattle.steps.specs.declared.ask.Want.TheVariants as wants
use Rattle.steps.specs.declared.indices.robust.acquire.Acquire.{Acquire as Acquiring}
use Rattle.steps.specs.declared.indices.robust.acquire.AcquireStage.TheVariants as acquires
use Rattle.steps.specs.declared.indices.robust.looks.BorrowedIndices.{BorrowedIndices as Counting}
use Rattle.steps.specs.declared.indices.robust.looks.IsLocked.{IsLocked as Looking}
use Rattle.steps.specs.declared.indices.robust.parts.Counted.{Counted}
use Rattle.steps.specs.declared.indices.robust.release.Release.{Release as Releasing}
use Rattle.steps.specs.declared.indices.robust.release.ReleaseStage.TheVariants as releases
use Rattle.model.specs.declared.families.Flight.TheVariants as flights
use Rattle.model.specs.declared.families.indices.robust.RobustStart.TheVariants.{Acquire, Release}
use Rattle.model.specs.declared.families.indices.robust.calls.RobustFlight.TheVariants as calls
use Rattle.model.specs.declared.turn.Kind.TheVariants as kinds
use Rattle.model.specs.Families.Indices.Robust.Calls.{acquire_answer, release_answer}
use Rattle.history.specs.declared.view.View.{View}
use Rattle.history_owners.specs.Robust.{AcquireIn, ReleaseIn, filled_at, AcquireWrote, takes_owned, freed_at}
use Rattle.history_owners.specs.Robust.{ReleaseWrote, gives_owned, counts_owned, looks_owned}
use Rattle.history.specs.Stages.{At}
use Rattle.history.proofs.Beginning.{at_begin}
use Rattle.history.proofs.CallsIn.{AsksFor, Driven, IsCallBy, KeepsEnds}
use Rattle.history.proofs.Drives.{goes, keeps_to_end}
use Rattle.history_owners.proofs.RobustParts.{count_found, raise_asks, count_asks, lock_asks, count_on, CountOn}
use Rattle.history_owners.proofs.Robusts.{robust_effects, cells_and_counter, robust_starts, robust_machines}

-- ---- acquire

-- what an acquire hears of an operation is what the word was before it
pub acquire_found : (stage : AcquireStage) (owner : ℕ) (a : Ask) (n : ℕ) → acquire_asks stage owner ≡ wants.Ask a → answered a.op n ≡ n
acquire_found = grind arith

-- at each stage an acquire asks for a word of the set
pub acquire_words : (capacity : ℕ) (stage : AcquireStage) (owner : ℕ) → AcquireIn capacity stage → AsksFor (capacity + 1) (acquire_asks stage owner)
acquire_words capacity acquires.LoadsCounter owner acquire_in = (_, omega arith, refl)
acquire_words capacity (acquires.FillsCell counter index) owner acquire_in = (_, (let low : 1 + index < capacity + 1 = omega arith in low), refl)
acquire_words capacity (acquires.ChecksCounter counter) owner acquire_in = (_, omega arith, refl)
acquire_words capacity (acquires.Raises index raise) owner acquire_in = raise_asks capacity raise

-- where an acquire goes on after a step, and what it has written then
module _ (T : Type 0) (capacity : ℕ) (c : Acquiring) (same : c.capacity ≡ capacity) (p owner : ℕ) where
  -- after a step an acquire is at an index of the set, or has ended, with what it has written
  abbrev pub AcquireGoes : List (Event T) → After Acquiring Acquired → Type 0
  AcquireGoes es (GoOn d) = (takes_owned {T = T} owner).stands capacity d × (es ≡ filled_at p owner d.stage)
  AcquireGoes es (Done e) = AcquireWrote capacity p owner e es

module _ {T : Type 0} (code : Coding T) (owner : ℕ) where
  -- the model's acquire goes on as the driver's does
  as_taken : (r : After Acquiring Acquired) → as_call flights.Robust (λ answer. answer)
      (as_call calls.Acquire acquire_answer (went_on as_it_is owner tt r)) ≡ goes (takes_owned {T = T} owner) r tt
  as_taken (GoOn d) = refl
  as_taken (Done e) = refl

  takes_on : (capacity p : ℕ) (c : Acquiring) (n : ℕ) (r : After Acquiring Acquired) → (h : (takes_owned {T = T} owner).stands capacity c)
      → acquire_after c n ≡ r
      → AcquireGoes T capacity c h.0 p owner (filled_at p owner c.stage ++ acquire_effects p owner c.stage n) r
  takes_on = grind arith

  -- an acquire, as the driver makes it
  abbrev pub acquire_driven : Driven T Acquiring (Unit {0}) Acquired
  acquire_driven = record { want = λ c. acquire_want c owner; after = acquire_after; kept = λ c m n. m; call = takes_owned owner }

  -- an acquire is a call of the model
  pub acquire_call : IsCallBy code robust_effects cells_and_counter acquire_driven
  acquire_call = grind (arith, as_taken, acquire_found, takes_on, acquire_words)

  -- each step of an acquire keeps the rule of the table
  pub acquire_keeps : KeepsEnds code kinds.Robust cells_and_counter acquire_driven
  acquire_keeps = keeps_to_end (robust_machines code) acquire_driven acquire_call (λ c n. refl)

  -- an acquire begins on a pass with no call under way, for an owner
  pub acquire_first : (v : View T) (m : Unit {0}) → v.going ≡ None → v.other ≡ [] → 0 < v.share.part → owner < empty
      → At code kinds.Robust (takes_owned owner) v v (first_acquire v.capacity) m
  acquire_first v m idle alone any fits =
      let named : nat_lt owner empty ≡ true = grind (arith, nat_tests) in
      at_begin idle alone any (refl, tt) (rw named refl)
      (robust_starts (Acquire owner) refl (λ o p h. h) (λ kept. rw named refl) (λ dead none. rw (none owner) refl)) (λ p new. refl)

-- ---- release

-- what a release hears of an operation is what the word was before it
pub release_found : (stage : ReleaseStage) (given : GiveBack) (a : Ask) (n : ℕ) → release_asks stage given ≡ wants.Ask a → answered a.op n ≡ n
release_found = grind arith

-- at each stage a release asks for a word of the set
pub release_words : (capacity : ℕ) (stage : ReleaseStage) (given : GiveBack) → given.index < capacity → ReleaseIn capacity given.mode stage
    → AsksFor (capacity + 1) (release_asks stage given)
release_words capacity releases.EmptiesCell given low release_in = (_, (let l : 1 + given.index < capacity + 1 = omega arith in l), refl)
release_words capacity (releases.Raises raise) given low release_in = raise_asks capacity raise
release_words capacity (releases.Locks lock) given low release_in = lock_asks capacity lock release_in.1

-- c is where the release stands, p its party
module _ (T : Type 0) (capacity : ℕ) (c : Releasing) (same : c.capacity ≡ capacity) (p : ℕ) (given : GiveBack) (low : given.index < capacity) where
  -- after a step a release stands within the set, or has ended, with what it has written
  abbrev pub ReleaseGoes : List (Event T) → After Releasing Released → Type 0
  ReleaseGoes es (GoOn d) = (gives_owned {T = T} given).stands capacity d × (es ≡ freed_at p given d.stage)
  ReleaseGoes es (Done e) = ReleaseWrote p given e es

  -- after each step a release has written what its stage or its end tells
  pub gives_so : (stage : ReleaseStage) (k : ℕ) → ReleaseIn capacity given.mode stage
      → ReleaseGoes (freed_at p given stage ++ release_effects p given stage k) (release_takes c stage given k)
  gives_so = grind arith

module _ {T : Type 0} (code : Coding T) (given : GiveBack) where
  -- the model's release goes on as the driver's does
  as_given : (r : After Releasing Released) → as_call flights.Robust (λ answer. answer)
      (as_call calls.Release release_answer (went_on as_it_is given tt r)) ≡ goes (gives_owned {T = T} given) r tt
  as_given (GoOn d) = refl
  as_given (Done e) = refl

  gives_on : (capacity p : ℕ) (c : Releasing) (n : ℕ) (r : After Releasing Released) → (h : (gives_owned {T = T} given).stands capacity c)
      → release_after c given n ≡ r
      → ReleaseGoes T capacity c h.0 p given h.1 (freed_at p given c.stage ++ release_effects p given c.stage n) r
  gives_on = grind arith

  -- a release, as the driver makes it
  abbrev pub release_driven : Driven T Releasing (Unit {0}) Released
  release_driven = record { want = λ c. release_want c given; after = λ c n. release_after c given n; kept = λ c m n. m; call = gives_owned given }

  -- a release is a call of the model
  pub release_call : IsCallBy code robust_effects cells_and_counter release_driven
  release_call = grind (arith, as_given, release_found, gives_on, release_words)

  -- each step of a release keeps the rule of the table
  pub release_keeps : KeepsEnds code kinds.Robust cells_and_counter release_driven
  release_keeps = keeps_to_end (robust_machines code) release_driven release_call (λ c n. refl)

  -- a release begins on a pass with no call under way, of an index below the capacity, for an owner
  pub release_first : (v : View T) (m : Unit {0}) → v.going ≡ None → v.other ≡ [] → 0 < v.share.part → given.index < v.capacity → given.owner < empty
      → At code kinds.Robust (gives_owned given) v v (first_release v.capacity) m
  release_first v m idle alone any low fits =
      let named : nat_lt given.owner empty ≡ true = grind (arith, nat_tests) in
      let past : nat_le v.capacity given.index ≡ false = grind (arith, nat_tests) in
      at_begin idle alone any (refl, low, tt) (rw named refl)
      (robust_starts (Release given.index given.owner given.mode) refl (λ o p h. h) (λ kept. rw named refl)
      (λ dead none. rw (past, none given.owner) refl)) (λ p new. refl)

-- ---- looks

-- after a step a count is at an index of the set, or has ended
abbrev pub CountGoes : ℕ → After Counting ℕ → Type 0
CountGoes capacity (GoOn d) = (counts_owned {T = ℕ}).stands capacity d
CountGoes capacity (Done n) = Unit {0}

-- a count that goes on is at an index of the set
pub counts_so : (capacity : ℕ) (c : Counting) → c.capacity ≡ capacity → (r : After Count Counted)
    → CountOn capacity r → CountGoes capacity (borrowed_counted c r)
counts_so = grind arith

module _ {T : Type 0} (code : Coding T) where
  -- the model's count goes on as the driver's does
  as_counted : (r : After Counting ℕ) → as_call flights.Robust (λ (answer : Answer T). answer)
      (as_call calls.BorrowedIndices Number (went_on as_it_is tt tt r)) ≡ goes (counts_owned {T = T}) r tt
  as_counted (GoOn d) = refl
  as_counted (Done n) = refl

  -- a count, as the driver makes it
  abbrev pub count_driven : Driven T Counting (Unit {0}) ℕ
  count_driven = record { want = borrowed_want; after = borrowed_after; kept = λ c m n. m; call = counts_owned }

  -- a count is a call of the model
  pub count_call : IsCallBy code robust_effects cells_and_counter count_driven
  count_call = grind (arith, as_counted, count_found, counts_so, count_after, count_on, count_asks)

  -- each step of a count keeps the rule of the table
  pub count_keeps : KeepsEnds code kinds.Robust cells_and_counter count_driven
  count_keeps = keeps_to_end (robust_machines code) count_driven count_call (λ c n. refl)

  -- a count begins on a pass with no call under way
  pub count_first : (v : View T) (m : Unit {0}) → v.going ≡ None → v.other ≡ [] → 0 < v.share.part
      → At code kinds.Robust counts_owned v v (first_borrowed v.capacity) m
  count_first = grind (arith, inl, robust_starts)

  -- a look, as the driver makes it
  abbrev pub look_driven : Driven T Looking (Unit {0}) Bool
  look_driven = record { want = λ c. load 0; after = locked_after; kept = λ c m n. m; call = looks_owned }

  -- a look is a call of the model
  pub look_call : IsCallBy code robust_effects cells_and_counter look_driven
  look_call = grind arith

  -- each step of a look keeps the rule of the table
  pub look_keeps : KeepsEnds code kinds.Robust cells_and_counter look_driven
  look_keeps = keeps_to_end (robust_machines code) look_driven look_call (λ c n. refl)

  -- a look at the lock begins on a pass with no call under way
  pub look_first : (v : View T) (c : Looking) (m : Unit {0}) → v.going ≡ None → v.other ≡ [] → 0 < v.share.part → At code kinds.Robust looks_owned v v c m
  look_first = grind (arith, inl, robust_starts)
