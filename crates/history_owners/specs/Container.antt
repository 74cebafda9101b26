-- The calls on containers as calls of the model: which indices and words each may be at, by its stage, and
-- which events it has written there (`Calling`, in `Stages`).
use Rattle.std.specs.Prelude.{◌≡◌, ◌⊎◌, ℕ, ◌<◌, Bool, false, None, IfSome, Ok, Err, List, [], ◌∷◌, ◌++◌, if◌then◌else◌}
use Rattle.steps.specs.Container.Add.{Added}
use Rattle.steps.specs.Container.Remove.{Removed}
use Rattle.steps.specs.Container.Replace.{Replaced}
use Rattle.steps.specs.declared.container.add.Add.{Add as Adding}
use Rattle.steps.specs.declared.container.add.AddStage.{AddStage}
use Rattle.steps.specs.declared.container.add.AddStage.TheVariants as adds
use Rattle.steps.specs.declared.container.add.Owned.{Owned}
use Rattle.steps.specs.declared.container.enums.ContainerAddFailure.TheVariants as failures
use Rattle.steps.specs.declared.container.remove.Remove.{Remove as Removing}
use Rattle.steps.specs.declared.container.remove.RemoveStage.{RemoveStage}
use Rattle.steps.specs.declared.container.remove.RemoveStage.TheVariants as removes
use Rattle.steps.specs.declared.container.replace.Replace.{Replace as Replacing}
use Rattle.steps.specs.declared.container.replace.ReplaceStage.{ReplaceStage}
use Rattle.steps.specs.declared.container.replace.ReplaceStage.TheVariants as replaces
use Rattle.steps.specs.declared.container.replace.Replacement.{Replacement}
use Rattle.steps.specs.declared.indices.enums.ReleaseMode.{ReleaseMode}
use Rattle.steps.specs.declared.indices.enums.ReleaseState.{ReleaseState}
use Rattle.steps.specs.declared.indices.robust.looks.BorrowedIndices.{BorrowedIndices as Counting}
use Rattle.steps.specs.declared.indices.robust.looks.IsLocked.{IsLocked as Looking}
use Rattle.steps.specs.declared.indices.robust.release.GiveBack.{GiveBack}
use Rattle.model.specs.declared.event.Answer.TheVariants.{Truth}
use Rattle.model.specs.declared.event.Event.{Event}
use Rattle.model.specs.declared.event.Event.TheVariants.{Filled, Granted, Placed, Hidden}
use Rattle.model.specs.declared.event.Start.TheVariants.{Container}
use Rattle.model.specs.declared.families.Flight.TheVariants as flights
use Rattle.model.specs.declared.families.container.ContainerStart.{ContainerStart}
use Rattle.model.specs.declared.families.container.ContainerStart.TheVariants.{Add, Remove, Replace, Len, IsEmpty, IsLocked}
use Rattle.model.specs.declared.families.container.calls.ContainerFlight.TheVariants as calls
use Rattle.model.specs.declared.families.container.calls.CountOf.{CountOf}
use Rattle.model.specs.declared.families.container.calls.CountOf.TheVariants as counts
use Rattle.model.specs.Families.Container.Calls.{added, removed, replaced, counted}
use Rattle.history_owners.specs.Robust.{AcquireIn, ReleaseIn, CountIn, filled_at, freed_at, ReleaseWrote}
use Rattle.history.specs.Stages.{Calling}

-- ---- what a call does to the element at an index

module _ {T : Type 0} where
  -- this event alone, where it came, else no event
  abbrev pub when : Bool → Event T → List (Event T)
  when did e = if did then e ∷ [] else []

  -- the events are `before`, and then that the call has hidden what stood at the index, unless it found
  -- nothing to hide
  abbrev pub HasCleared : (p index : ℕ) → List (Event T) → List (Event T) → Type 0
  HasCleared p index before es = (hid : Bool) × (es ≡ before ++ when hid (Hidden p index))

  -- The events are `before`, then that the call has hidden what still showed at the index, if it did, and
  -- then that it placed its value, unless something stood there by then.
  abbrev pub HasPut : (p index : ℕ) → T → List (Event T) → List (Event T) → Type 0
  HasPut p index value before es =
      (hid : Bool) × (put : Bool)
      × (es ≡ before ++ (when hid (Hidden p index) ++ when put (Placed p index value)))

-- ---- add

-- where an add stands: its index is one of the container, and a word that it stores is one of the value's
abbrev pub AddIn : (size capacity : ℕ) → AddStage → Type 0
AddIn size capacity (adds.Acquires stage) = AcquireIn capacity stage
AddIn size capacity (adds.LoadsCount index) = index < capacity
AddIn size capacity (adds.Hides index count) = index < capacity
AddIn size capacity (adds.Stores index at) = (index < capacity) × (at < size)
AddIn size capacity (adds.AddsCount index) = index < capacity
AddIn size capacity (adds.AddsChange index) = index < capacity

module _ {T : Type 0} where
  -- what an add has written once it has acquired the index for the owner
  abbrev pub taken : (p index owner : ℕ) → List (Event T)
  taken p index owner = Filled p index owner ∷ Granted p index owner ∷ []

  -- which events an add has written, at each stage, since its begin
  abbrev pub AddedAt : ℕ → Owned T → AddStage → List (Event T) → Type 0
  AddedAt p given (adds.Acquires stage) es = es ≡ filled_at p given.owner stage
  AddedAt p given (adds.LoadsCount index) es = es ≡ taken p index given.owner
  AddedAt p given (adds.Hides index count) es = es ≡ taken p index given.owner
  AddedAt p given (adds.Stores index at) es =
      HasCleared p index (taken p index given.owner) es
  AddedAt p given (adds.AddsCount index) es =
      HasCleared p index (taken p index given.owner) es
  AddedAt p given (adds.AddsChange index) es =
      HasPut p index given.value (taken p index given.owner) es

  -- What an add with this answer has written in all. One that answers that the container is locked may have
  -- filled an index, which keeps its owner.
  abbrev pub HasAdded : (capacity p : ℕ) → Owned T → Added → List (Event T) → Type 0
  HasAdded capacity p given (Ok index) es =
      (index < capacity) × HasPut p index given.value (taken p index given.owner) es
  HasAdded capacity p given (Err failures.IsLocked) es =
      (es ≡ []) ⊎ ((index : ℕ) × (index < capacity) × (es ≡ Filled p index given.owner ∷ []))
  HasAdded capacity p given (Err failures.OutOfSpace) es = es ≡ []

  -- An add of a value of `size` words for an owner, by the party that the pass has been, if it has been one. It ends
  -- with the index or why there is none, and writes what each stage has done.
  abbrev pub adds_value : ℕ → Owned T → Calling T (Adding T) (Unit {0}) Added
  adds_value size given =
      record {
        start = Container (Add given.value given.owner);
        -- the party that the pass was last makes the call, if the pass has been a party
        by = λ was p. IfSome was (λ q. q ≡ p);
        -- what holds of the call between two steps, and which call of the model is then under way
        stands = λ capacity c. (c.capacity ≡ capacity) × AddIn size capacity c.stage;
        flight = λ c m.
            flights.Container
            (calls.Add (record { call = c; given = given; room = m }));
        answer = λ e m. added e;
        -- no word that it loads ends it outside the history
        skips = λ c n. false;
        left = λ e. ⊥;
        -- what was written is known only where the pass has seen the call begin
        wrote = λ capacity p from c m es. from ≡ None → AddedAt p given c.stage es;
        wrote_all = λ capacity p from e m es. from ≡ None → HasAdded capacity p given e es;
      }

-- ---- remove

-- where a remove stands: it does not refuse, and its release is of an index of the container
abbrev pub RemoveIn : ℕ → ReleaseMode → RemoveStage → Type 0
RemoveIn capacity mode removes.Refuses = ⊥
RemoveIn capacity mode removes.LoadsCount = Unit {0}
RemoveIn capacity mode (removes.Releases count stage) = ReleaseIn capacity mode stage
RemoveIn capacity mode (removes.Hides count state) = Unit {0}
RemoveIn capacity mode (removes.AddsChange state) = Unit {0}

module _ {T : Type 0} where
  -- the remove has released the index, and hidden what stood there, or found nothing to hide
  abbrev pub HasRemovedIt : ℕ → GiveBack → ReleaseState → List (Event T) → Type 0
  HasRemovedIt p given state es =
      (before : List (Event T)) × ReleaseWrote p given (Ok state) before
      × HasCleared p given.index before es

  -- which events a remove has written, at each stage, since its begin
  abbrev pub RemovedAt : ℕ → GiveBack → RemoveStage → List (Event T) → Type 0
  RemovedAt p given removes.Refuses es = es ≡ []
  RemovedAt p given removes.LoadsCount es = es ≡ []
  RemovedAt p given (removes.Releases count stage) es = es ≡ freed_at p given stage
  RemovedAt p given (removes.Hides count state) es = ReleaseWrote p given (Ok state) es
  RemovedAt p given (removes.AddsChange state) es = HasRemovedIt p given state es

  -- what a remove with this answer has written in all: nothing where another owner had the index, or none
  abbrev pub HasRemoved : ℕ → GiveBack → Removed → List (Event T) → Type 0
  HasRemoved p given (Ok state) es = HasRemovedIt p given state es
  HasRemoved p given (Err failure) es = es ≡ []

  -- A remove of the value at an index for its owner, by the party that the pass has been, if it has been one. It ends
  -- with the state of the container or why nothing was removed.
  abbrev pub removes_value : GiveBack → Calling T Removing (Unit {0}) Removed
  removes_value given =
      record {
        start = Container (Remove given.index given.owner given.mode);
        -- the party that the pass was last makes the call, if the pass has been a party
        by = λ was p. IfSome was (λ q. q ≡ p);
        -- what holds of the call between two steps, and which call of the model is then under way
        stands = λ capacity c.
            (c.capacity ≡ capacity) × (given.index < capacity) × RemoveIn capacity given.mode c.stage;
        flight = λ c m.
            flights.Container
            (calls.Remove (record { call = c; given = given; room = m }));
        answer = λ e m. removed e;
        -- no word that it loads ends it outside the history
        skips = λ c n. false;
        left = λ e. ⊥;
        -- what was written is known only where the pass has seen the call begin
        wrote = λ capacity p from c m es. from ≡ None → RemovedAt p given c.stage es;
        wrote_all = λ capacity p from e m es. from ≡ None → HasRemoved p given e es;
      }

-- ---- replace

-- where a replace stands: it does not refuse, and a word that it stores is one of the value's
abbrev pub ReplaceIn : ℕ → ReplaceStage → Type 0
ReplaceIn size replaces.Refuses = ⊥
ReplaceIn size replaces.LoadsCell = Unit {0}
ReplaceIn size replaces.LoadsCount = Unit {0}
ReplaceIn size (replaces.Hides count) = Unit {0}
ReplaceIn size (replaces.Stores at) = at < size
ReplaceIn size replaces.AddsCount = Unit {0}
ReplaceIn size replaces.AddsChange = Unit {0}

module _ {T : Type 0} where
  -- which events a replace has written, at each stage, since its begin
  abbrev pub ReplacedAt : ℕ → Replacement T → ReplaceStage → List (Event T) → Type 0
  ReplacedAt p given replaces.Refuses es = es ≡ []
  ReplacedAt p given replaces.LoadsCell es = es ≡ []
  ReplacedAt p given replaces.LoadsCount es = es ≡ []
  ReplacedAt p given (replaces.Hides count) es = es ≡ []
  ReplacedAt p given (replaces.Stores at) es = HasCleared p given.index [] es
  ReplacedAt p given replaces.AddsCount es = HasCleared p given.index [] es
  ReplacedAt p given replaces.AddsChange es = HasPut p given.index given.value [] es

  -- what a replace with this answer has written in all: nothing where another owner had the index, or none
  abbrev pub HasReplaced : ℕ → Replacement T → Replaced → List (Event T) → Type 0
  HasReplaced p given (Ok done) es = HasPut p given.index given.value [] es
  HasReplaced p given (Err failure) es = es ≡ []

  -- A replace of the value at an index by another of `size` words for its owner, by the party that the pass has been,
  -- if it has been one. It ends with whether it replaced it or why not.
  abbrev pub replaces_value : ℕ → Replacement T → Calling T (Replacing T) (Unit {0}) Replaced
  replaces_value size given =
      record {
        start = Container (Replace given.index given.value given.owner);
        -- the party that the pass was last makes the call, if the pass has been a party
        by = λ was p. IfSome was (λ q. q ≡ p);
        -- what holds of the call between two steps, and which call of the model is then under way
        stands = λ capacity c.
            (c.capacity ≡ capacity) × (given.index < capacity) × ReplaceIn size c.stage;
        flight = λ c m.
            flights.Container
            (calls.Replace (record { call = c; given = given; room = m }));
        answer = λ e m. replaced e;
        -- no word that it loads ends it outside the history
        skips = λ c n. false;
        left = λ e. ⊥;
        -- what was written is known only where the pass has seen the call begin
        wrote = λ capacity p from c m es. from ≡ None → ReplacedAt p given c.stage es;
        wrote_all = λ capacity p from e m es. from ≡ None → HasReplaced p given e es;
      }

-- ---- looks

module _ {T : Type 0} where
  -- the model's call that tells the length, or whether it is 0
  abbrev pub count_start : CountOf → ContainerStart T
  count_start counts.Len = Len
  count_start counts.IsEmpty = IsEmpty

  -- A call that counts the filled indices. It ends with their number, or whether that is 0, and writes nothing between
  -- its begin and its end.
  abbrev pub counts_values : CountOf → Calling T Counting (Unit {0}) ℕ
  counts_values which =
      record {
        start = Container (count_start which);
        -- the party that the pass was last makes the call, if the pass has been a party
        by = λ was p. IfSome was (λ q. q ≡ p);
        -- what holds of the call between two steps, and which call of the model is then under way
        stands = λ capacity c. (c.capacity ≡ capacity) × CountIn capacity c.count;
        flight = λ c m.
            flights.Container
            (calls.Count which (record { call = c; given = tt; room = m }));
        answer = λ n m. counted which n;
        -- no word that it loads ends it outside the history
        skips = λ c n. false;
        left = λ e. ⊥;
        -- under way it has written nothing yet
        wrote = λ capacity p from c m es. es ≡ [];
        wrote_all = λ capacity p from n m es. es ≡ [];
      }

  -- A call that tells whether the container is locked. It writes nothing between its begin and its end.
  abbrev pub sees_lock : Calling T Looking (Unit {0}) Bool
  sees_lock =
      record {
        start = Container IsLocked;
        -- the party that the pass was last makes the call, if the pass has been a party
        by = λ was p. IfSome was (λ q. q ≡ p);
        -- what holds of the call between two steps, and which call of the model is then under way
        stands = λ capacity c. Unit {0};
        flight = λ c m.
            flights.Container
            (calls.IsLocked (record { call = c; given = tt; room = m }));
        answer = λ b m. Truth b;
        -- no word that it loads ends it outside the history
        skips = λ c n. false;
        left = λ e. ⊥;
        -- under way it has written nothing yet
        wrote = λ capacity p from c m es. es ≡ [];
        wrote_all = λ capacity p from b m es. es ≡ [];
      }
