-- The calls on a single value are calls of the model, each step of which keeps the rule of its table: those
-- on the producer's role, a store, a load, and a look at the version.
use Rattle.history.proofs.Names.{inl, ◌≡◌, ℕ, ◌+◌, ◌^◌, ◌*◌, ◌<◌, Bool, true, false}
use Rattle.history.proofs.Names.{Option, Some, None, List, [], ◌∷◌, slice_set, slice_index, refl, sym, ap}
use Rattle.history.proofs.Names.{arith, written, before_version, first_store}
use Rattle.steps.specs.declared.ask.Ask.{Ask}
use Rattle.steps.specs.declared.ask.After.TheVariants.{GoOn}
use Rattle.history.proofs.Names.{store_asks, store_want, store_takes, store_after, first_load}
use Rattle.history.proofs.Names.{load_asks, load_want, load_takes, load_after, load_keeps, load_kept}
use Rattle.history.proofs.Names.{Coding, IsCoding, after_of, producer_word, kept_at, answered}
use Rattle.model.specs.declared.event.Answer.TheVariants.{Truth}
use Rattle.model.specs.declared.event.Event.TheVariants.{Acted}
use Rattle.model.specs.declared.families.Flight.{Flight}
use Rattle.history.proofs.Names.{IsFreshStore}
use Rattle.steps.specs.declared.ask.Op.TheVariants as ops
use Rattle.steps.specs.declared.ask.After.TheVariants.{Done}
use Rattle.steps.specs.declared.ask.Want.TheVariants as wants
use Rattle.steps.specs.declared.atomic.Load.{Load as Loading}
use Rattle.steps.specs.declared.atomic.LoadStage.{LoadStage}
use Rattle.steps.specs.declared.atomic.LoadStage.TheVariants as loads
use Rattle.steps.specs.declared.atomic.Store.{Store as Storing}
use Rattle.steps.specs.declared.atomic.StoreStage.{StoreStage}
use Rattle.steps.specs.declared.atomic.StoreStage.TheVariants as stores
use Rattle.steps.specs.declared.copied.Buffer as buffers
use Rattle.steps.specs.declared.atomic.version.Version.{Version as Looking}
use Rattle.steps.specs.Atomic.{cell_word, version_want, version_after}
use Rattle.steps.specs.Queues.Ring.{word_at}
use Rattle.steps.specs.Queues.Roles.{acquire_want, acquire_after, release_want, release_after, look_want, look_after}
use Rattle.steps.specs.declared.queues.roles.AcquireRole.{AcquireRole}
use Rattle.steps.specs.declared.queues.roles.LookRole.{LookRole}
use Rattle.steps.specs.declared.queues.roles.ReleaseRole.{ReleaseRole}
use Rattle.model.specs.declared.event.Answer.TheVariants as answers
use Rattle.model.specs.declared.event.Start.TheVariants.{Atomic}
use Rattle.model.specs.declared.families.Flight.TheVariants as flights
use Rattle.model.specs.declared.families.atomic.AtomicStart.TheVariants.{ReleaseProducer, Store}
use Rattle.model.specs.declared.families.atomic.AtomicStart.TheVariants.{Load}
use Rattle.model.specs.declared.families.atomic.calls.AtomicFlight.TheVariants as calls
use Rattle.model.specs.declared.turn.Kind.TheVariants as kinds
use Rattle.model.specs.Families.Atomic.Calls.{fresh, look_version}
use Rattle.history.specs.declared.view.View.{View}
use Rattle.history.specs.Rooms.{room_of}
use Rattle.history.specs.Stages.{Calling, At}
use Rattle.history_value.specs.Value.{HasProducer, acquires_producer, releases_producer, looks_at_producer, looks_at_version}
use Rattle.history_value.specs.Value.{store_skips, StoreStands}
use Rattle.history_value.specs.Value.{stores_value, LoadStands, loads_value}
use Rattle.history.specs.Rooms.{value_of_room}
use Rattle.history.proofs.Beginning.{at_begin}
use Rattle.history.proofs.Drives.{goes, keeps, keeps_to_end}
use Rattle.history.proofs.Roles.{holds_it}
use Rattle.history.proofs.Rooms.{room_set, room_read}
use Rattle.history_value.proofs.Values.{value_effects, plain_starts, producer_starts}
use Rattle.history.proofs.CallsIn.{Driven, IsCallBy, KeepsEnds, KeepsOver}
use Rattle.history_value.proofs.Values.{value_machines}

module _ {T : Type 0} (code : Coding T) where
  abbrev size_of : ℕ → ℕ
  size_of capacity = 2 + code.size * 2

  -- a word of a cell is one of the table's words
  cell_low : (version cell at : ℕ) → cell ≡ cell_word code.size version → at < code.size → word_at cell at < 2 + code.size * 2
  cell_low = grind arith

  -- ---- the producer's role

  -- an acquire of the producer's role, as the driver makes it
  abbrev pub acquire_driven : Driven T AcquireRole (Unit {0}) Bool
  acquire_driven = record { want = acquire_want; after = acquire_after; kept = λ c m n. m; call = acquires_producer }

  -- an acquire of the producer's role is a call of the model
  acquire_is_call : IsCallBy code (value_effects code) size_of acquire_driven
  acquire_is_call = grind arith

  -- each step of an acquire of the producer's role keeps the rule of the table
  pub acquire_keeps : KeepsEnds code kinds.Atomic size_of acquire_driven
  acquire_keeps = keeps_to_end (value_machines code) acquire_driven acquire_is_call (λ c n. refl)

  -- an acquire of the producer's role begins on a pass with no call under way
  pub acquire_first : (x : View T) (m : Unit {0}) → x.going ≡ None → x.other ≡ [] → 0 < x.share.part
      → At code kinds.Atomic acquires_producer x x (record { word = producer_word }) m
  acquire_first = grind (arith, inl, fresh, plain_starts, acquires_producer)

  -- a release of the producer's role, as the driver makes it
  abbrev pub release_driven : Driven T ReleaseRole (Unit {0}) (Unit {0})
  release_driven = record { want = release_want; after = release_after; kept = λ c m n. m; call = releases_producer }

  -- a release of the producer's role is a call of the model
  release_is_call : IsCallBy code (value_effects code) size_of release_driven
  release_is_call = grind arith

  -- each step of a release of the producer's role keeps the rule of the table
  pub release_keeps : KeepsEnds code kinds.Atomic size_of release_driven
  release_keeps = keeps_to_end (value_machines code) release_driven release_is_call (λ c n. refl)

  -- a release of the role begins on a pass that has the producer's role and no call under way
  pub release_first : (x : View T) (m : Unit {0}) → x.going ≡ None → x.other ≡ [] → 0 < x.share.part
      → HasProducer x.made → At code kinds.Atomic releases_producer x x (record { word = producer_word }) m
  release_first x m idle alone any has =
      at_begin idle alone any refl refl
      (producer_starts ReleaseProducer refl (λ kept. refl) (λ o p. tt) (λ holder p is. holds_it holder p is) has) (λ p. refl)

  -- ---- the looks, of which each is one load

  -- a look at the producer's role, as the driver makes it
  abbrev pub look_driven : Driven T LookRole (Unit {0}) Bool
  look_driven = record { want = look_want; after = look_after; kept = λ c m n. m; call = looks_at_producer }

  -- a look at the producer's role is a call of the model
  look_is_call : IsCallBy code (value_effects code) size_of look_driven
  look_is_call = grind arith

  -- each step of a look at the producer's role keeps the rule of the table
  pub look_keeps : KeepsEnds code kinds.Atomic size_of look_driven
  look_keeps = keeps_to_end (value_machines code) look_driven look_is_call (λ c n. refl)

  -- a look at the role begins on a pass with no call under way
  pub look_first : (x : View T) (m : Unit {0}) → x.going ≡ None → x.other ≡ [] → 0 < x.share.part
      → At code kinds.Atomic looks_at_producer x x (record { word = producer_word }) m
  look_first = grind (arith, inl, fresh, plain_starts, looks_at_producer)

  -- a look at the version, as the driver makes it
  abbrev pub version_driven : Driven T Looking (Unit {0}) ℕ
  version_driven = record { want = version_want; after = version_after; kept = λ c m n. m; call = looks_at_version }

  -- a look at the version is a call of the model
  version_is_call : IsCallBy code (value_effects code) size_of version_driven
  version_is_call = grind arith

  -- each step of a look at the version keeps the rule of the table
  pub version_keeps : KeepsEnds code kinds.Atomic size_of version_driven
  version_keeps = keeps_to_end (value_machines code) version_driven version_is_call (λ c n. refl)

  -- a look at the version begins on a pass with no call under way
  pub version_first : (x : View T) (m : Unit {0}) → x.going ≡ None → x.other ≡ [] → 0 < x.share.part
      → At code kinds.Atomic looks_at_version x x look_version m
  version_first = grind (arith, inl, fresh, plain_starts, looks_at_version)

-- ---- stores

module _ {T : Type 0} (code : Coding T) (law : IsCoding code) (value : T) where
  -- a store of the value, as a call of the model
  abbrev storing : Calling T (Storing T) (Unit {0}) Bool
  storing = stores_value code value

  -- the model's store goes on as the driver's does
  store_same_after : (c : Storing T) (m : Unit {0}) (n : ℕ) → after_of code (storing.flight c m) n ≡ goes storing (store_after code.size c n) m
  store_same_after = grind arith

  -- a step with which a store goes on writes nothing
  store_quiet : (p : ℕ) (c d : Storing T) (m : Unit {0}) (n : ℕ) → store_after code.size c n ≡ GoOn d → value_effects code p (storing.flight c m) n ≡ []
  store_quiet p c d m n leads = rw leads refl

  -- the step with which a store ends with true writes its act
  store_acts : (p : ℕ) (c : Storing T) (m : Unit {0}) (n : ℕ) → store_after code.size c n ≡ Done true
      → value_effects code p (storing.flight c m) n ≡ Acted p (Atomic (Store value)) (Truth true) ∷ []
  store_acts p c m n leads = rw leads refl

  -- a store that its word does not end outside the history ends with true
  store_true : (c : Storing T) (n : ℕ) (b : Bool) (stage : StoreStage) → store_skips stage n ≡ false
      → store_takes code.size c stage n ≡ Done b → b ≡ true
  store_true = grind arith

  -- the store is at a word of a version's cell, and no word ends it outside the history any more
  abbrev StandsNext : Storing T → Type 0
  StandsNext d = StoreStands code.size d.stage × ((k : ℕ) → store_skips d.stage k ≡ false)

  store_stays : (c d : Storing T) (n : ℕ) (stage : StoreStage) → StoreStands code.size stage → store_takes code.size c stage n ≡ GoOn d → StandsNext d
  store_stays = grind arith

  -- at each of its stages a store asks for a word of the value
  store_finds_word : (stage : StoreStage) → StoreStands code.size stage
      → (a : Ask) × (a.word < 2 + code.size * 2) × (store_asks code.words_of stage value ≡ wants.Ask a)
  store_finds_word stores.LoadsVersion store_stands = (record { word = 0; op = ops.Load }, omega arith, refl)
  store_finds_word (stores.StoresCell cell at) store_stands = (
    record { word = word_at cell at; op = ops.Store (slice_index (code.words_of value) at) },
    cell_low code store_stands.0.0 cell at store_stands.0.1 store_stands.1,
    refl,
  )
  store_finds_word stores.AddsVersion h = (record { word = 0; op = ops.Add 1 }, omega arith, refl)

  -- what a store hears of an operation is what the word was before it
  store_hears : (c : Storing T) (a : Ask) (n : ℕ) (stage : StoreStage)
      → store_asks code.words_of stage value ≡ wants.Ask a
      → store_takes code.size c stage (answered a.op n) ≡ store_takes code.size c stage n
  store_hears = grind arith

  -- a store that no word ends outside the history does not find the last version
  store_finds : (n : ℕ) (stage : StoreStage) → n < 2 ^ 64 → store_skips stage n ≡ false → IsFreshStore n stage
  store_finds = grind arith

  -- a store that loads the last version ends with false, and leaves the word as it is
  store_leaves : (c : Storing T) (a : Ask) (n : ℕ) (stage : StoreStage) → store_skips stage n ≡ true
      → store_asks code.words_of stage value ≡ wants.Ask a
      → (written a.op n ≡ n) × (e : Bool) × (e ≡ false) × (store_takes code.size c stage n ≡ Done e)
  store_leaves = grind arith

  -- a store, as the driver makes it
  abbrev pub store_driven : Driven T (Storing T) (Unit {0}) Bool
  store_driven = record { want = λ c. store_want code.words_of c value; after = λ c n. store_after code.size c n; kept = λ c m n. m; call = storing }

  -- a store is a call of the model
  store_is_call : IsCallBy code (value_effects code) (size_of code) store_driven
  store_is_call = grind (arith, store_same_after, store_hears, store_stays, store_finds_word, store_finds, store_leaves, store_quiet, store_true, store_acts)

  -- each step of a store keeps the rule of the table
  pub store_keeps : KeepsOver code kinds.Atomic (size_of code) store_driven
  store_keeps = keeps (value_machines code) store_driven store_is_call

  -- a store begins on a pass that has the producer's role and no call under way
  pub store_first : (x : View T) (m : Unit {0}) → x.going ≡ None → x.other ≡ [] → 0 < x.share.part
      → HasProducer x.made → At code kinds.Atomic storing x x first_store m
  store_first x m idle alone any has =
      at_begin idle alone any tt refl
      (producer_starts (Store value) refl (λ kept. refl) (λ o p. tt) (λ holder p is. holds_it holder p is) has) (λ p. refl)

-- ---- loads

-- R is the room of a value's words: `words_in` are its words, and `with_word` puts one of them
module _ {T R : Type 0} (code : Coding T) (law : IsCoding code) (words_in : R → List ℕ) (with_word : R → ℕ → ℕ → R)
    (put_in : (x : R) (at word : ℕ) → words_in (with_word x at word) ≡ slice_set (words_in x) at word) where
  -- a load, as a call of the model
  abbrev loading : Calling T (Loading T R) R (Unit {0})
  loading = loads_value code words_in

  -- the room after a step: with the word that the step has loaded
  abbrev keeps_word : Loading T R → R → ℕ → R
  keeps_word = load_kept with_word

  -- the model's load at this stage, with this room
  abbrev flight_at : LoadStage → buffers.Buffer 128 → Flight T
  flight_at stage room =
      flights.Atomic
      (calls.Load (record { call = record { stage = stage; of = record {} }; given = tt; room = room }))

  -- a word that is put to its place in the room is put there in the model's room too
  put_there : (m : R) (at n : ℕ) → at < code.size → kept_at (room_of code.size (words_in m)) at n ≡ room_of code.size (words_in (with_word m at n))
  put_there m at n below = grind (arith, room_set, room_of)

  -- the model's load goes on as that of the driver does, at each of its stages
  load_same_after : (c : Loading T R) (m : R) (n : ℕ) (stage : LoadStage) → LoadStands code.size stage
      → after_of code (flight_at stage (room_of code.size (words_in m))) n
      ≡ goes loading (load_takes code.size c stage n) (load_keeps with_word m stage n)
  load_same_after = grind (arith, put_there, room_read)

  -- a step with which a load goes on writes nothing
  load_quiet : (p : ℕ) (c d : Loading T R) (m : R) (n : ℕ) → load_after code.size c n ≡ GoOn d
      → LoadStands code.size c.stage → value_effects code p (loading.flight c m) n ≡ []
  load_quiet = grind arith

  -- the step with which a load ends writes that it acted, with the value that it has read
  load_acts : (p : ℕ) (c : Loading T R) (m : R) (n : ℕ) (stage : LoadStage) → load_takes code.size c stage n ≡ Done tt
      → value_effects code p (flight_at stage (room_of code.size (words_in m))) n
      ≡ Acted p (Atomic Load) (answers.Loaded (value_of_room code words_in (load_keeps with_word m stage n))) ∷ []
  load_acts = grind (arith, room_read)

  -- a load that goes on loads words of the cell that was written last
  load_stays : (c d : Loading T R) (n : ℕ) (stage : LoadStage) → LoadStands code.size stage
      → load_takes code.size c stage n ≡ GoOn d → LoadStands code.size d.stage
  load_stays = grind arith

  -- at each of its stages a load asks for a word of the table
  load_finds_word : (stage : LoadStage) → LoadStands code.size stage → (a : Ask) × (a.word < 2 + code.size * 2) × (load_asks stage ≡ wants.Ask a)
  load_finds_word loads.LoadsVersion load_stands = (record { word = 0; op = ops.Load }, omega arith, refl)
  load_finds_word (loads.LoadsCell version cell at) load_stands =
      (record { word = word_at cell at; op = ops.Load }, cell_low code (before_version version) cell at load_stands.0 load_stands.1, refl)
  load_finds_word (loads.ChecksVersion version) load_stands = (record { word = 0; op = ops.Exchange version version }, omega arith, refl)

  -- what a load hears of an operation is what the word was before it, and its room keeps that
  load_hears : (c : Loading T R) (m : R) (a : Ask) (n : ℕ) (stage : LoadStage) → load_asks stage ≡ wants.Ask a
      → (load_takes code.size c stage (answered a.op n) ≡ load_takes code.size c stage n)
      × (load_keeps with_word m stage (answered a.op n) ≡ load_keeps with_word m stage n)
  load_hears = grind arith

  -- a load, as the driver makes it
  abbrev pub load_driven : Driven T (Loading T R) R (Unit {0})
  load_driven = record { want = λ (c : Loading T R). load_want c; after = λ c n. load_after code.size c n; kept = keeps_word; call = loading }

  -- a load is a call of the model
  load_is_call : IsCallBy code (value_effects code) (size_of code) load_driven
  load_is_call = grind (arith, load_same_after, load_hears, load_stays, load_finds_word, load_quiet, load_acts)

  -- each step of a load keeps the rule of the table
  pub load_keeps_rule : KeepsEnds code kinds.Atomic (size_of code) load_driven
  load_keeps_rule = keeps_to_end (value_machines code) load_driven load_is_call (λ c n. refl)

  -- a load begins in a room of zeros in which a value fits, on a pass with no call under way
  pub load_first : (x : View T) (m : R) → room_of code.size (words_in m) ≡ fresh → x.going ≡ None → x.other ≡ []
      → 0 < x.share.part → At code kinds.Atomic loading x x first_load m
  load_first x m zeros idle alone any =
      at_begin idle alone any tt named
      (plain_starts Load refl (λ kept. named) (λ o p h. h) (λ holder p. refl)) (λ p. refl)
    where
      named : ◌≡◌ {A = Option (Flight T)} (Some (flight_at loads.LoadsVersion fresh)) (Some (loading.flight first_load m))
      named = ap (λ r. Some (flight_at loads.LoadsVersion r)) (sym zeros)
