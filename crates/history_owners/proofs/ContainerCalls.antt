-- The lengths, the look at the lock and the removes of containers are calls of the model, each step of which
-- keeps the rule of the table.
use Rattle.history.proofs.Names.{Bool, ◌≡◌, inl, ℕ, ◌+◌, ◌<◌, ◌≤◌, ◌==◌, nat_lt, true, None, List, [], ◌++◌}
use Rattle.history.proofs.Names.{append-nil, refl, sym, ap, subst, arith, nat_tests, change_word, count_word}
use Rattle.history.proofs.Names.{total_words, first_borrowed, borrowed_want, empty, count_after, Released}
use Rattle.history.proofs.Names.{load, went_on}
use Rattle.steps.specs.declared.ask.Ask.{Ask}
use Rattle.steps.specs.declared.ask.After.{After}
use Rattle.steps.specs.declared.ask.After.TheVariants.{GoOn}
use Rattle.steps.specs.declared.indices.robust.release.GiveBack.{GiveBack}
use Rattle.steps.specs.declared.indices.robust.release.ReleaseStage.{ReleaseStage}
use Rattle.model.specs.declared.event.Answer.{Answer}
use Rattle.model.specs.declared.event.Event.{Event}
use Rattle.model.specs.declared.families.container.ContainerStart.TheVariants.{Remove}
use Rattle.history.proofs.Names.{Coding, first_call, place_of, remove_of, removed, counted, Some, names_owner}
use Rattle.history.proofs.Names.{remove_effects, release_effects, as_it_is, as_call, answered}
use Rattle.steps.specs.Container.Remove.{Removed, first_remove, inner_release, remove_asks, remove_want}
use Rattle.steps.specs.Container.Remove.{remove_released, remove_takes, remove_after}
use Rattle.steps.specs.Indices.Robust.Looks.{borrowed_after, locked_after}
use Rattle.steps.specs.Indices.Robust.Release.{release_takes}
use Rattle.steps.specs.declared.ask.After.TheVariants.{Done}
use Rattle.steps.specs.declared.ask.Want.TheVariants as wants
use Rattle.steps.specs.declared.container.remove.Remove.{Remove as Removing}
use Rattle.steps.specs.declared.container.remove.RemoveStage.{RemoveStage}
use Rattle.steps.specs.declared.container.remove.RemoveStage.TheVariants as removes
use Rattle.steps.specs.declared.indices.robust.looks.BorrowedIndices.{BorrowedIndices as Counting}
use Rattle.steps.specs.declared.indices.robust.looks.IsLocked.{IsLocked as Looking}
use Rattle.steps.specs.declared.indices.robust.release.Release.{Release as Releasing}
use Rattle.model.specs.declared.families.Flight.TheVariants as flights
use Rattle.model.specs.declared.families.container.ContainerStart.TheVariants.{IsLocked}
use Rattle.model.specs.declared.families.container.calls.ContainerFlight.TheVariants as calls
use Rattle.model.specs.declared.families.container.calls.CountOf.{CountOf}
use Rattle.model.specs.declared.families.container.calls.CountOf.TheVariants as counts
use Rattle.model.specs.declared.turn.Kind.TheVariants as kinds
use Rattle.history.specs.declared.view.View.{View}
use Rattle.history_owners.specs.Container.{RemoveIn, HasRemovedIt, RemovedAt, HasRemoved, removes_value, count_start, counts_values, sees_lock}
use Rattle.history.specs.Stages.{At}
use Rattle.history.proofs.Beginning.{at_begin}
use Rattle.history.proofs.CallsIn.{AsksFor, Driven, IsCallBy, KeepsEnds, each_tells, last_tells}
use Rattle.history_owners.proofs.Containers.{plain_effects, container_words, container_keeps, container_first, container_starts, fewer}
use Rattle.history.proofs.Drives.{goes}
use Rattle.history_owners.proofs.RobustCalls.{release_words, ReleaseGoes, gives_so, counts_so}
use Rattle.history_owners.proofs.RobustParts.{count_found, count_asks, count_on}

-- the words of the set are some of the container's
pub set_words : (capacity size : ℕ) → capacity + 1 ≤ total_words capacity size
set_words capacity size = omega arith

-- the word of the number of changes is one of the container's
pub change_low : (capacity size : ℕ) → change_word capacity < total_words capacity size
change_low capacity size = omega arith

-- the word of an element's number is one of the container's
pub count_low : (capacity size index : ℕ) → index < capacity → count_word capacity index < total_words capacity size
count_low capacity size index low = omega arith

-- an index below the capacity has its own place
pub place_is : (capacity index : ℕ) → index < capacity → place_of capacity index ≡ index
place_is = grind arith

-- ---- looks at the set

module _ {T : Type 0} (code : Coding T) (which : CountOf) where
  -- the model's count goes on as the driver's does
  as_counted : (r : After Counting ℕ) → as_call flights.Container (λ (answer : Answer T). answer)
      (as_call (λ run. calls.Count which run) (counted which) (went_on as_it_is tt tt r)) ≡ goes (counts_values {T = T} which) r tt
  as_counted (GoOn d) = refl
  as_counted (Done n) = refl

  -- a count, as the driver makes it
  abbrev pub count_driven : Driven T Counting (Unit {0}) ℕ
  count_driven = record { want = borrowed_want; after = borrowed_after; kept = λ c m n. m; call = counts_values which }

  -- a count is a call of the model
  count_call : IsCallBy code (plain_effects code) (container_words code) count_driven
  count_call = grind (arith, as_counted, count_found, counts_so, count_after, count_on, fewer, set_words, count_asks)

  -- each step of a count keeps the rule of the table
  pub container_count_keeps : KeepsEnds code kinds.Container (container_words code) count_driven
  container_count_keeps = container_keeps code count_driven (λ c m. tt) count_call (λ c n. refl)

  count_named : (w : CountOf) → names_owner {T = T} (count_start w) ≡ true
  count_named counts.Len = refl
  count_named counts.IsEmpty = refl

  -- the first stage of a count is that of the model's call
  count_flies : (w : CountOf) (capacity : ℕ) (m : Unit {0})
      → flights.Container (first_call capacity (count_start {T = T} w)) ≡ (counts_values w).flight (first_borrowed capacity) m
  count_flies counts.Len capacity m = refl
  count_flies counts.IsEmpty capacity m = refl

  -- a count begins on a pass with no call under way
  pub container_count_first : (v : View T) (m : Unit {0}) → v.going ≡ None → v.other ≡ [] → 0 < v.share.part
      → At code kinds.Container (counts_values which) v v (first_borrowed v.capacity) m
  container_count_first = grind (arith, count_named, count_flies, inl, container_first, container_starts)

module _ {T : Type 0} (code : Coding T) where
  -- a look at the lock, as the driver makes it
  abbrev pub lock_driven : Driven T Looking (Unit {0}) Bool
  lock_driven = record { want = λ c. load 0; after = locked_after; kept = λ c m n. m; call = sees_lock }

  -- a look at the lock is a call of the model
  lock_call : IsCallBy code (plain_effects code) (container_words code) lock_driven
  lock_call = grind arith

  -- each step of a look at the lock keeps the rule of the table
  pub container_lock_keeps : KeepsEnds code kinds.Container (container_words code) lock_driven
  container_lock_keeps = container_keeps code lock_driven (λ c m. tt) lock_call (λ c n. refl)

  -- a look at the lock begins on a pass with no call under way
  pub container_lock_first : (v : View T) (c : Looking) (m : Unit {0}) → v.going ≡ None → v.other ≡ [] → 0 < v.share.part
      → At code kinds.Container sees_lock v v c m
  container_lock_first v c m idle alone any =
      at_begin idle alone any tt refl
      (container_starts IsLocked refl (λ o p h. h) refl refl) (λ p. refl)

-- ---- remove

-- what a remove hears of an operation is what the word was before it
remove_found : (capacity : ℕ) (stage : RemoveStage) (given : GiveBack) (a : Ask) (n : ℕ) → remove_asks capacity stage given ≡ wants.Ask a → answered a.op n ≡ n
remove_found = grind arith

-- at each stage a remove asks for a word of the container
remove_words : (capacity size : ℕ) (stage : RemoveStage) (given : GiveBack) → given.index < capacity → RemoveIn capacity given.mode stage
    → AsksFor (total_words capacity size) (remove_asks capacity stage given)
remove_words capacity size removes.Refuses given low remove_in = absurd remove_in
remove_words capacity size removes.LoadsCount given low remove_in = (_, count_low capacity size given.index low, refl)
remove_words capacity size (removes.Releases count stage) given low remove_in = grind (arith, fewer, set_words, release_words)
remove_words capacity size (removes.Hides count state) given low remove_in = (_, count_low capacity size given.index low, refl)
remove_words capacity size (removes.AddsChange state) given low remove_in = (_, change_low capacity size, refl)

-- where a remove goes on after a step, and what it has written then
module _ (T : Type 0) (capacity : ℕ) (c : Removing) (same : c.capacity ≡ capacity) (p : ℕ) (given : GiveBack) (low : given.index < capacity) where
  -- after a step a remove stands within the container, or has ended, with what it has written
  abbrev RemoveGoes : List (Event T) → After Removing Removed → Type 0
  RemoveGoes es (GoOn d) = (removes_value {T = T} given).stands capacity d × RemovedAt p given d.stage es
  RemoveGoes es (Done e) = HasRemoved p given e es

  -- after a step of its release a remove has written what the release has
  released : (count : ℕ) (stage : ReleaseStage) (es : List (Event T)) (r : After Releasing Released)
      → ReleaseGoes T capacity (inner_release c.capacity stage) same p given low es r → RemoveGoes es (remove_released c count r)
  released = grind arith

  -- after each step a remove has written what its stage or its end tells
  removes_so : (stage : RemoveStage) (k : ℕ) (es : List (Event T)) → RemoveIn capacity given.mode stage → RemovedAt p given stage es
      → RemoveGoes (es ++ remove_effects p given stage k) (remove_takes c stage given k)
  removes_so removes.Refuses k es remove_in removed_at = absurd remove_in
  removes_so removes.LoadsCount k es remove_in removed_at = ((same, low, tt), ap (λ zs. zs ++ []) removed_at)
  removes_so (removes.Releases count stage) k es remove_in removed_at =
      let gives = gives_so T capacity (inner_release c.capacity stage) same p given low in
      released count stage _ (release_takes (inner_release c.capacity stage) stage given k)
      (subst (λ zs. ReleaseGoes T capacity (inner_release c.capacity stage) same p given low
      (zs ++ release_effects p given stage k)
      (release_takes (inner_release c.capacity stage) stage given k)) (sym removed_at)
      (gives stage k remove_in))
  removes_so (removes.Hides count state) k es remove_in removed_at = ((same, low, tt), (es, removed_at, (k == count, refl)))
  removes_so (removes.AddsChange state) k es remove_in removed_at = subst (HasRemovedIt p given state) (sym (append-nil es)) removed_at

module _ {T : Type 0} (code : Coding T) (given : GiveBack) where
  abbrev after : Removing → ℕ → After Removing Removed
  after c n = remove_after c given n

  -- the model's remove goes on as the driver's does
  as_removed : (r : After Removing Removed) → as_call flights.Container (λ (answer : Answer T). answer)
      (as_call calls.Remove removed (went_on as_it_is given tt r)) ≡ goes (removes_value {T = T} given) r tt
  as_removed (GoOn d) = refl
  as_removed (Done e) = refl

  -- with the effects of its step, what a remove has written; a remove puts no question
  abbrev written : ℕ → Removing → ℕ → List (Event T)
  written p c n = remove_effects p given c.stage n ++ []

  goes_so : {capacity : ℕ} (p : ℕ) (c : Removing) (n : ℕ) (es : List (Event T)) {r : After Removing Removed}
      → (h : (removes_value {T = T} given).stands capacity c)
      → RemovedAt p given c.stage es → after c n ≡ r → RemoveGoes T capacity c h.0 p given h.1 (es ++ written p c n) r
  goes_so = grind (arith, append-nil, removes_so)

  stands_so : (capacity : ℕ) (c d : Removing) (n : ℕ) → (removes_value {T = T} given).stands capacity c → after c n ≡ GoOn d
      → (removes_value {T = T} given).stands capacity d
  stands_so = grind arith

  -- a remove, as the driver makes it
  abbrev pub remove_driven : Driven T Removing (Unit {0}) Removed
  remove_driven = record { want = λ c. remove_want c given; after = after; kept = λ c m n. m; call = removes_value given }

  -- a remove is a call of the model
  pub remove_call : IsCallBy code (plain_effects code) (container_words code) remove_driven
  remove_call =
      record {
        same_want = λ c m. refl;
        same_after = λ capacity c m n h. as_removed (after c n);
        hears = λ c m a n e. (ap (after c) (remove_found c.capacity c.stage given a n e), refl);
        stays = λ capacity c d n h e. stands_so capacity c d n h e;
        asks = λ capacity c h. subst (λ k. AsksFor (container_words code capacity) (remove_asks k c.stage given)) (sym h.0)
            (remove_words capacity code.size c.stage given h.1 h.2);
        past = λ capacity c d n k h e. refl;
        finds = λ c m n small t. tt;
        leaves = λ c a n t e. absurd (cc);
        tells = each_tells (plain_effects code) remove_driven
            (λ step d leads new. (goes_so step.p step.c step.n step.es step.stands (step.wrote new) leads).1);
        tells_all = last_tells (plain_effects code) remove_driven
            (λ step end skip leads new. goes_so step.p step.c step.n step.es step.stands (step.wrote new) leads);
      }

  -- each step of a remove keeps the rule of the table
  pub container_remove_keeps : KeepsEnds code kinds.Container (container_words code) remove_driven
  container_remove_keeps = container_keeps code remove_driven (λ c m. tt) remove_call (λ c n. refl)

  -- a remove begins on a pass with no call under way, of an index below the capacity, for an owner
  pub container_remove_first : (v : View T) (m : Unit {0}) → v.going ≡ None → v.other ≡ [] → 0 < v.share.part → given.index < v.capacity → given.owner < empty
      → At code kinds.Container (removes_value given) v v (first_remove v.capacity given.index) m
  container_remove_first v m idle alone any low fits =
      -- the owner has a number below the mark of an empty cell, and the index is one of the container
      let named : nat_lt given.owner empty ≡ true = grind (arith, nat_tests) in
      let below : nat_lt given.index v.capacity ≡ true = grind (arith, nat_tests) in
      -- the model's call at its first stage is this one
      let flies : flights.Container (remove_of v.capacity given.index given.owner given.mode)
      ≡ (removes_value {T = T} given).flight (first_remove v.capacity given.index) m =
      ap (λ (i : ℕ). flights.Container (calls.Remove
      (record { call = first_remove v.capacity i; given = record { index = i; owner = given.owner; mode = given.mode }; room = tt })))
      (place_is v.capacity given.index low)
      in
      at_begin idle alone any (refl, low, rw below tt) (rw named (ap Some flies))
      (container_starts (Remove given.index given.owner given.mode) refl (λ o p h. h) named flies) (λ p new. rw below refl)
