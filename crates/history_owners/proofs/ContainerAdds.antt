-- The adds and replaces of containers are calls of the model, each step of which keeps the rule of the table.
use Rattle.history.proofs.Names.{◌≡◌, ℕ, ◌+◌, ◌<◌, nat_lt, true, false, None, List, [], ◌++◌}
use Rattle.history.proofs.Names.{refl, sym, ap, subst, arith, nat_tests}
use Rattle.history.proofs.Names.{total_words, Replaced, first_replace, replace_asks, replace_want, replace_takes}
use Rattle.history.proofs.Names.{replace_after, empty, went_on}
use Rattle.steps.specs.declared.ask.Ask.{Ask}
use Rattle.steps.specs.declared.ask.After.{After}
use Rattle.steps.specs.declared.ask.After.TheVariants.{GoOn}
use Rattle.steps.specs.declared.container.replace.ReplaceStage.{ReplaceStage}
use Rattle.history.proofs.Names.{Coding, IsCoding, Some, replace_of, added}
use Rattle.model.specs.declared.event.Answer.{Answer}
use Rattle.model.specs.declared.event.Event.{Event}
use Rattle.model.specs.declared.families.container.ContainerStart.TheVariants.{Add, Replace}
use Rattle.history.proofs.Names.{replaced, add_effects, replace_effects, as_it_is}
use Rattle.history.proofs.Names.{as_call, answered}
use Rattle.laws_container.proofs.Core.{data_within}
use Rattle.steps.specs.Container.Add.{Added, first_add, add_asks, add_want, add_takes}
use Rattle.steps.specs.Container.Add.{add_after}
use Rattle.steps.specs.declared.ask.After.TheVariants.{Done}
use Rattle.steps.specs.declared.ask.Want.TheVariants as wants
use Rattle.steps.specs.declared.container.add.Add.{Add as Adding}
use Rattle.steps.specs.declared.container.add.AddStage.{AddStage}
use Rattle.steps.specs.declared.container.add.AddStage.TheVariants as adds
use Rattle.steps.specs.declared.container.add.Owned.{Owned}
use Rattle.steps.specs.declared.container.replace.Replace.{Replace as Replacing}
use Rattle.steps.specs.declared.container.replace.ReplaceStage.TheVariants as replaces
use Rattle.steps.specs.declared.container.replace.Replacement.{Replacement}
use Rattle.model.specs.declared.families.Flight.TheVariants as flights
use Rattle.model.specs.declared.families.container.calls.ContainerFlight.TheVariants as calls
use Rattle.model.specs.declared.turn.Kind.TheVariants as kinds
use Rattle.history.specs.declared.view.View.{View}
use Rattle.history_owners.specs.Container.{AddIn, AddedAt, HasAdded, adds_value, ReplaceIn, ReplacedAt, HasReplaced, replaces_value}
use Rattle.history.specs.Stages.{Calling, At}
use Rattle.history.proofs.Beginning.{at_begin}
use Rattle.history.proofs.CallsIn.{AsksFor, Driven, IsCallBy, KeepsEnds, each_tells, last_tells}
use Rattle.history_owners.proofs.ContainerCalls.{set_words, change_low, count_low, place_is}
use Rattle.history_owners.proofs.Containers.{plain_effects, container_words, container_keeps, container_starts, fewer}
use Rattle.history.proofs.Drives.{goes}
use Rattle.history_owners.proofs.RobustCalls.{acquire_words}

-- ---- add

module _ {T : Type 0} (words_of : T → List ℕ) (size : ℕ) where
  -- what an add hears of an operation is what the word was before it
  add_found : (c : Adding T) (stage : AddStage) (given : Owned T) (a : Ask) (n : ℕ) → add_asks words_of size c.capacity stage given ≡ wants.Ask a
      → add_takes size c stage (answered a.op n) ≡ add_takes size c stage n
  add_found = grind arith

  -- at each stage an add asks for a word of the container
  add_words : (capacity : ℕ) (stage : AddStage) (given : Owned T) → AddIn size capacity stage
      → AsksFor (total_words capacity size) (add_asks words_of size capacity stage given)
  add_words capacity (adds.Acquires stage) given add_in =
      fewer (capacity + 1) (total_words capacity size) _ (set_words capacity size) (acquire_words capacity stage given.owner add_in)
  add_words capacity (adds.LoadsCount index) given add_in = (_, count_low capacity size index add_in, refl)
  add_words capacity (adds.Hides index count) given add_in = (_, count_low capacity size index add_in, refl)
  add_words capacity (adds.Stores index at) given add_in = (_, data_within capacity size index at add_in.0 add_in.1, refl)
  add_words capacity (adds.AddsCount index) given add_in = (_, count_low capacity size index add_in, refl)
  add_words capacity (adds.AddsChange index) given add_in = (_, change_low capacity size, refl)

-- where an add goes on after a step, and what it has written then
module _ {T : Type 0} (capacity size : ℕ) (some : 0 < size) (c : Adding T) (same : c.capacity ≡ capacity) (p : ℕ) (given : Owned T) where
  -- after a step an add stands within the container, or has ended, with what it has written
  abbrev AddGoes : List (Event T) → After (Adding T) Added → Type 0
  AddGoes es (GoOn d) = (adds_value size given).stands capacity d × AddedAt p given d.stage es
  AddGoes es (Done e) = HasAdded capacity p given e es

  -- at each stage there are events that an add may have written
  some_added : (stage : AddStage) → (es : List (Event T)) × AddedAt p given stage es
  some_added (adds.Acquires stage) = (_, refl)
  some_added (adds.LoadsCount index) = (_, refl)
  some_added (adds.Hides index count) = (_, refl)
  some_added (adds.Stores index at) = (_, (false, refl))
  some_added (adds.AddsCount index) = (_, (false, refl))
  some_added (adds.AddsChange index) = (_, (false, false, refl))

module _ {T : Type 0} (code : Coding T) (law : IsCoding code) (given : Owned T) where
  -- an add of this value, as a call of the model
  abbrev adding : Calling T (Adding T) (Unit {0}) Added
  adding = adds_value code.size given

  -- where an add goes on after a step
  abbrev add_then : Adding T → ℕ → After (Adding T) Added
  add_then c n = add_after code.size c n

  -- a value has a word, at least
  has_words : 0 < code.size
  has_words = omega (arith, law.some)

  -- the model's add goes on as the driver's does
  as_added : (r : After (Adding T) Added) → as_call flights.Container (λ (answer : Answer T). answer)
      (as_call calls.Add added (went_on as_it_is given tt r)) ≡ goes adding r tt
  as_added (GoOn d) = refl
  as_added (Done e) = refl

  -- after a step an add goes on or ends, and has written what its stage or its end tells
  add_goes : {capacity : ℕ} (p : ℕ) (c : Adding T) (n : ℕ) (es : List (Event T)) {r : After (Adding T) Added} → (h : adding.stands capacity c)
      → AddedAt p given c.stage es → add_then c n ≡ r
      → AddGoes capacity code.size has_words c h.0 p given (es ++ (add_effects p given c.stage n ++ [])) r
  add_goes = grind arith

  -- an add, as the driver makes it
  abbrev pub add_driven : Driven T (Adding T) (Unit {0}) Added
  add_driven = record { want = λ c. add_want code.words_of code.size c given; after = add_then; kept = λ c m n. m; call = adding }

  -- an add is a call of the model
  add_call : IsCallBy code (plain_effects code) (container_words code) add_driven
  add_call =
      record {
        same_want = λ c m. refl;
        same_after = λ capacity c m n h. as_added (add_then c n);
        hears = λ c m a n e. (add_found code.words_of code.size c c.stage given a n e, refl);
        stays = λ capacity c d n h e. (
            let written = some_added capacity code.size has_words c h.0 0 given c.stage in
            (add_goes 0 c n written.0 h written.1 e).0);
        asks = λ capacity c h. subst (λ k. AsksFor (container_words code capacity) (add_asks code.words_of code.size k c.stage given)) (sym h.0)
            (add_words code.words_of code.size capacity c.stage given h.1);
        past = λ capacity c d n k h e. refl;
        finds = λ c m n small t. tt;
        leaves = λ c a n t e. absurd (cc);
        tells = each_tells (plain_effects code) add_driven
            (λ step d leads new. (add_goes step.p step.c step.n step.es step.stands (step.wrote new) leads).1);
        tells_all = last_tells (plain_effects code) add_driven
            (λ step end skip leads new. add_goes step.p step.c step.n step.es step.stands (step.wrote new) leads);
      }

  -- each step of an add keeps the rule of the table
  pub container_add_keeps : KeepsEnds code kinds.Container (container_words code) add_driven
  container_add_keeps = container_keeps code add_driven (λ c m. tt) add_call (λ c n. refl)

  -- an add begins on a pass with no call under way, for an owner
  pub container_add_first : (v : View T) (m : Unit {0}) → v.going ≡ None → v.other ≡ [] → 0 < v.share.part → given.owner < empty
      → At code kinds.Container adding v v (first_add v.capacity) m
  container_add_first v m idle alone any fits =
      let named : nat_lt given.owner empty ≡ true = grind (arith, nat_tests) in
      at_begin idle alone any (refl, tt) (rw named refl)
      (container_starts (Add given.value given.owner) refl (λ o p h. h) named refl) (λ p new. refl)

-- ---- replace

module _ {T : Type 0} (words_of : T → List ℕ) (size : ℕ) where
  -- what a replace hears of an operation is what the word was before it
  replace_found : (c : Replacing T) (stage : ReplaceStage) (given : Replacement T) (a : Ask) (n : ℕ)
      → replace_asks words_of size c.capacity stage given ≡ wants.Ask a
      → replace_takes size c stage given (answered a.op n) ≡ replace_takes size c stage given n
  replace_found = grind arith

  -- at each stage a replace asks for a word of the container
  replace_words : (capacity : ℕ) (stage : ReplaceStage) (given : Replacement T) → given.index < capacity → ReplaceIn size stage
      → AsksFor (total_words capacity size) (replace_asks words_of size capacity stage given)
  replace_words capacity replaces.Refuses given low replace_in = absurd replace_in
  replace_words capacity replaces.LoadsCell given low replace_in = grind (arith, set_words)
  replace_words capacity replaces.LoadsCount given low replace_in = (_, count_low capacity size given.index low, refl)
  replace_words capacity (replaces.Hides count) given low replace_in = (_, count_low capacity size given.index low, refl)
  replace_words capacity (replaces.Stores at) given low replace_in = (_, data_within capacity size given.index at low replace_in, refl)
  replace_words capacity replaces.AddsCount given low replace_in = (_, count_low capacity size given.index low, refl)
  replace_words capacity replaces.AddsChange given low replace_in = (_, change_low capacity size, refl)

-- party p makes a replace, which stands at a stage, on a container of this capacity, whose values have `size` words
module _ {T : Type 0} (capacity size : ℕ) (some : 0 < size) (c : Replacing T) (same : c.capacity ≡ capacity) (p : ℕ) (given : Replacement T)
    (low : given.index < capacity) where
  -- after a step a replace stands within the value, or has ended, with what it has written
  abbrev ReplaceGoes : List (Event T) → After (Replacing T) Replaced → Type 0
  ReplaceGoes es (GoOn d) = (replaces_value size given).stands capacity d × ReplacedAt p given d.stage es
  ReplaceGoes es (Done e) = HasReplaced p given e es

  -- at each stage there are events that a replace may have written
  some_replaced : (stage : ReplaceStage) → (es : List (Event T)) × ReplacedAt p given stage es
  some_replaced = grind arith

module _ {T : Type 0} (code : Coding T) (law : IsCoding code) (given : Replacement T) where
  -- a replace by this value, as a call of the model
  abbrev replacing : Calling T (Replacing T) (Unit {0}) Replaced
  replacing = replaces_value code.size given

  -- where a replace goes on after a step
  abbrev replace_then : Replacing T → ℕ → After (Replacing T) Replaced
  replace_then c n = replace_after code.size c given n

  -- a value has a word, at least
  has_some : 0 < code.size
  has_some = omega (arith, law.some)

  -- the model's replace goes on as the driver's does
  as_replaced : (r : After (Replacing T) Replaced) → as_call flights.Container (λ (answer : Answer T). answer)
      (as_call calls.Replace replaced (went_on as_it_is given tt r)) ≡ goes replacing r tt
  as_replaced (GoOn d) = refl
  as_replaced (Done e) = refl

  -- after a step a replace goes on or ends, and has written what its stage or its end tells
  replace_goes : {capacity : ℕ} (p : ℕ) (c : Replacing T) (n : ℕ) (es : List (Event T)) {r : After (Replacing T) Replaced} → (h : replacing.stands capacity c)
      → ReplacedAt p given c.stage es → replace_then c n ≡ r
      → ReplaceGoes capacity code.size has_some c h.0 p given h.1 (es ++ (replace_effects p given c.stage n ++ [])) r
  replace_goes = grind arith

  -- a replace, as the driver makes it
  abbrev pub replace_driven : Driven T (Replacing T) (Unit {0}) Replaced
  replace_driven = record { want = λ c. replace_want code.words_of code.size c given; after = replace_then; kept = λ c m n. m; call = replacing }

  -- a replace is a call of the model
  replace_call : IsCallBy code (plain_effects code) (container_words code) replace_driven
  replace_call =
      record {
        same_want = λ c m. refl;
        same_after = λ capacity c m n h. as_replaced (replace_then c n);
        hears = λ c m a n e. (replace_found code.words_of code.size c c.stage given a n e, refl);
        stays = λ capacity c d n h e. (
            let written = some_replaced capacity code.size has_some c h.0 0 given h.1 c.stage in
            (replace_goes 0 c n written.0 h written.1 e).0);
        asks = λ capacity c h. subst (λ k. AsksFor (container_words code capacity) (replace_asks code.words_of code.size k c.stage given)) (sym h.0)
            (replace_words code.words_of code.size capacity c.stage given h.1 h.2);
        past = λ capacity c d n k h e. refl;
        finds = λ c m n small t. tt;
        leaves = λ c a n t e. absurd (cc);
        tells = each_tells (plain_effects code) replace_driven
            (λ step d leads new. (replace_goes step.p step.c step.n step.es step.stands (step.wrote new) leads).1);
        tells_all = last_tells (plain_effects code) replace_driven
            (λ step end skip leads new. replace_goes step.p step.c step.n step.es step.stands (step.wrote new) leads);
      }

  -- each step of a replace keeps the rule of the table
  pub container_replace_keeps : KeepsEnds code kinds.Container (container_words code) replace_driven
  container_replace_keeps = container_keeps code replace_driven (λ c m. tt) replace_call (λ c n. refl)

  -- a replace begins on a pass with no call under way, for an owner
  pub container_replace_first : (v : View T) (m : Unit {0}) → v.going ≡ None → v.other ≡ [] → 0 < v.share.part → given.index < v.capacity
      → given.owner < empty → At code kinds.Container replacing v v (first_replace v.capacity given.index) m
  container_replace_first v m idle alone any low fits =
      -- the owner has a number below the mark of an empty cell, and the index is one of the container
      let named : nat_lt given.owner empty ≡ true = grind (arith, nat_tests) in
      let below : nat_lt given.index v.capacity ≡ true = grind (arith, nat_tests) in
      -- the model's call at its first stage is this one
      let flies : flights.Container (replace_of v.capacity given.index given.value given.owner) ≡ replacing.flight (first_replace v.capacity given.index) m =
      ap (λ (i : ℕ). flights.Container (calls.Replace
      (record { call = first_replace v.capacity i; given = record { index = i; owner = given.owner; value = given.value }; room = tt })))
      (place_is v.capacity given.index low)
      in
      at_begin idle alone any (refl, low, rw below tt) (rw named (ap Some flies))
      (container_starts (Replace given.index given.value given.owner) refl (λ o p h. h) named flies) (λ p new. rw below refl)
