-- The calls on the single value as calls of the model, and which pass has the producer's role.
use Rattle.std.specs.Prelude.{◌≡◌, ℕ, ◌+◌, ◌-◌, ◌^◌, ◌<◌, ◌==◌, Bool, true, false, Some, IfSome, List, [], ◌∷◌, ◌++◌, sum_by}
use Rattle.steps.specs.declared.atomic.Load.{Load as Loading}
use Rattle.steps.specs.declared.atomic.LoadStage.{LoadStage}
use Rattle.steps.specs.declared.atomic.LoadStage.TheVariants as loads
use Rattle.steps.specs.declared.atomic.Store.{Store as Storing}
use Rattle.steps.specs.declared.atomic.StoreStage.{StoreStage}
use Rattle.steps.specs.declared.atomic.StoreStage.TheVariants as stores
use Rattle.steps.specs.declared.atomic.version.Version.{Version as Looking}
use Rattle.steps.specs.declared.queues.roles.AcquireRole.{AcquireRole}
use Rattle.steps.specs.declared.queues.roles.LookRole.{LookRole}
use Rattle.steps.specs.declared.queues.roles.ReleaseRole.{ReleaseRole}
use Rattle.steps.specs.Atomic.{cell_word, before_version}
use Rattle.steps.specs.Copied.{value_in}
use Rattle.model.specs.declared.event.Answer.TheVariants as answers
use Rattle.model.specs.declared.event.Answer.TheVariants.{Truth}
use Rattle.model.specs.declared.event.Event.{Event}
use Rattle.model.specs.declared.event.Event.TheVariants.{Acted, Finished}
use Rattle.model.specs.declared.event.Start.TheVariants.{Atomic}
use Rattle.model.specs.declared.families.Flight.TheVariants as flights
use Rattle.model.specs.declared.families.atomic.AtomicStart.TheVariants as starts
use Rattle.model.specs.declared.families.atomic.AtomicStart.TheVariants.{AcquireProducer, ReleaseProducer, Store, Load}
use Rattle.model.specs.declared.families.atomic.calls.AtomicFlight.TheVariants as calls
use Rattle.model.specs.Coding.{Coding}
use Rattle.model.specs.Families.Atomic.Calls.{producer_word}
use Rattle.model.specs.Families.Atomic.Reading.{holder_of}
use Rattle.history.specs.Rooms.{room_of}
use Rattle.history.specs.Stages.{Calling}
use Rattle.history.specs.Rooms.{value_of_room}

-- ---- the producer's role

module _ {T : Type 0} where
  -- 1 for an event that ends an acquire of the producer's role with true, and 0 for each other
  abbrev pub takes_producer : Event T → ℕ
  takes_producer (Finished p (Atomic AcquireProducer) (Truth true)) = 1
  takes_producer e = 0

  -- 1 for an event that ends a release of the producer's role
  abbrev pub gives_producer : Event T → ℕ
  gives_producer (Finished p (Atomic ReleaseProducer) answer) = 1
  gives_producer e = 0

  -- these events acquired the role once more than they gave it back
  abbrev pub HasProducer : List (Event T) → Type 0
  HasProducer made = sum_by takes_producer made ≡ sum_by gives_producer made + 1

  -- whoever acts by a store holds the producer's role
  abbrev pub ByProducer : List (Event T) → Event T → Type 0
  ByProducer before (Acted p (Atomic (Store value)) answer) = holder_of before ≡ Some p
  ByProducer before e = Unit {0}

  -- An acquire of the producer's role by the party that the pass has been, if it has been one. It ends with whether the
  -- pass got the role, and writes nothing between its begin and its end.
  abbrev pub acquires_producer : Calling T AcquireRole (Unit {0}) Bool
  acquires_producer =
      record {
        start = Atomic AcquireProducer;
        -- the party that the pass was last makes the call, if the pass has been a party
        by = λ was p. IfSome was (λ q. q ≡ p);
        -- what holds of the call between two steps, and which call of the model is then under way
        stands = λ capacity c. c.word ≡ producer_word;
        flight = λ c m. flights.Atomic (calls.Acquire (record { call = c; given = tt; room = m }));
        answer = λ b m. Truth b;
        -- no word that it loads ends it outside the history
        skips = λ c n. false;
        left = λ e. ⊥;
        -- under way it has written nothing yet
        wrote = λ capacity p from c m es. es ≡ [];
        wrote_all = λ capacity p from b m es. es ≡ [];
      }

  -- A release of the producer's role. (The machine refuses a party that does not hold it.) It writes nothing between its begin and its end.
  abbrev pub releases_producer : Calling T ReleaseRole (Unit {0}) (Unit {0})
  releases_producer =
      record {
        start = Atomic ReleaseProducer;
        -- any party may make the call, whichever party the pass was last
        by = λ was p. Unit {0};
        -- what holds of the call between two steps, and which call of the model is then under way
        stands = λ capacity c. c.word ≡ producer_word;
        flight = λ c m. flights.Atomic (calls.Release (record { call = c; given = tt; room = m }));
        answer = λ e m. answers.Done;
        -- no word that it loads ends it outside the history
        skips = λ c n. false;
        left = λ e. ⊥;
        -- under way it has written nothing yet
        wrote = λ capacity p from c m es. es ≡ [];
        wrote_all = λ capacity p from e m es. es ≡ [];
      }

  -- A call that tells whether some party has the producer's role. It writes nothing between its begin and its end.
  abbrev pub looks_at_producer : Calling T LookRole (Unit {0}) Bool
  looks_at_producer =
      record {
        start = Atomic starts.HasProducer;
        -- the party that the pass was last makes the call, if the pass has been a party
        by = λ was p. IfSome was (λ q. q ≡ p);
        -- what holds of the call between two steps, and which call of the model is then under way
        stands = λ capacity c. c.word ≡ producer_word;
        flight = λ c m. flights.Atomic (calls.Look (record { call = c; given = tt; room = m }));
        answer = λ b m. Truth b;
        -- no word that it loads ends it outside the history
        skips = λ c n. false;
        left = λ e. ⊥;
        -- under way it has written nothing yet
        wrote = λ capacity p from c m es. es ≡ [];
        wrote_all = λ capacity p from b m es. es ≡ [];
      }

-- ---- stores

-- the store has found the last version, and ends without a trace
abbrev pub store_skips : StoreStage → ℕ → Bool
store_skips stores.LoadsVersion found = found == 2 ^ 64 - 1
store_skips stage found = false

-- where a store stores a word, it is within the cell of a version
abbrev pub StoreStands : ℕ → StoreStage → Type 0
StoreStands size (stores.StoresCell cell at) =
    ((version : ℕ) × (cell ≡ cell_word size version)) × (at < size)
StoreStands size stage = Unit {0}

module _ {T : Type 0} (code : Coding T) where
  -- A store of this value, by any party. It ends with whether it stored, and writes its act as it ends. A store that
  -- loads the last version answers false, and is none of the history.
  abbrev pub stores_value : T → Calling T (Storing T) (Unit {0}) Bool
  stores_value value =
      record {
        start = Atomic (Store value);
        -- any party may make the call, whichever party the pass was last
        by = λ was p. Unit {0};
        -- what holds of the call between two steps, and which call of the model is then under way
        stands = λ capacity c. StoreStands code.size c.stage;
        flight = λ c m. flights.Atomic (calls.Store (record { call = c; given = value; room = m }));
        answer = λ e m. Truth e;
        -- loading the last position or version ends it outside the history
        skips = λ c n. store_skips c.stage n;
        left = λ e. e ≡ false;
        -- under way it has written nothing yet
        wrote = λ capacity p from c m es. es ≡ [];
        wrote_all = λ capacity p from e m es.
            (e ≡ true) × (es ≡ Acted p (Atomic (Store value)) (Truth true) ∷ []);
      }

-- ---- loads, by way of a room that has these words

-- a load of a word is at the cell that was written last by the version that it has read, and within that cell
abbrev pub LoadStands : ℕ → LoadStage → Type 0
LoadStands size (loads.LoadsCell version cell at) =
    (cell ≡ cell_word size (before_version version)) × (at < size)
LoadStands size stage = Unit {0}

module _ {T R : Type 0} (code : Coding T) (words_in : R → List ℕ) where
  -- A load by the party that the pass has been, if it has been one. The words of the value are in its room as it ends,
  -- and it writes its act then.
  abbrev pub loads_value : Calling T (Loading T R) R (Unit {0})
  loads_value =
      record {
        start = Atomic Load;
        -- the party that the pass was last makes the call, if the pass has been a party
        by = λ was p. IfSome was (λ q. q ≡ p);
        -- what holds of the call between two steps, and which call of the model is then under way
        stands = λ capacity c. LoadStands code.size c.stage;
        flight = λ c m. flights.Atomic (calls.Load
            (record {
              call = record { stage = c.stage; of = record {} };
              given = tt;
              room = room_of code.size (words_in m);
            }));
        answer = λ e m. answers.Loaded (value_of_room code words_in m);
        -- no word that it loads ends it outside the history
        skips = λ c n. false;
        left = λ e. ⊥;
        -- under way it has written nothing yet
        wrote = λ capacity p from c m es. es ≡ [];
        wrote_all = λ capacity p from e m es.
            es ≡ Acted p (Atomic Load) (answers.Loaded (value_of_room code words_in m)) ∷ [];
      }

-- ---- the version

module _ {T : Type 0} where
  -- A call that tells the version. It writes nothing between its begin and its end.
  abbrev pub looks_at_version : Calling T Looking (Unit {0}) ℕ
  looks_at_version =
      record {
        start = Atomic starts.Version;
        -- the party that the pass was last makes the call, if the pass has been a party
        by = λ was p. IfSome was (λ q. q ≡ p);
        -- what holds of the call between two steps, and which call of the model is then under way
        stands = λ capacity c. Unit {0};
        flight = λ c m. flights.Atomic (calls.Version (record { call = c; given = tt; room = m }));
        answer = λ n m. answers.Number n;
        -- no word that it loads ends it outside the history
        skips = λ c n. false;
        left = λ e. ⊥;
        -- under way it has written nothing yet
        wrote = λ capacity p from c m es. es ≡ [];
        wrote_all = λ capacity p from n m es. es ≡ [];
      }

-- ---- the values that were stored

-- the last value of the list, or `first` where the list is empty
abbrev pub last_or : {A : Type 0} → A → List A → A
last_or first [] = first
last_or first (x ∷ xs) = last_or x xs

-- the list ends with this
pub record IsLast {A : Type 0} (x : A) (xs : List A) : Type 0 where
  pub others : List A
  pub is : xs ≡ others ++ x ∷ []
