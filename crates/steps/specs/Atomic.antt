-- The calls of the single value, one step after another. V is the type of the values, size the number of
-- their words, R the room for them. `.._asks` says what a call asks for at each stage, and `.._takes` where
-- the answer leads: to a next stage (`GoOn`) or to its end (`Done`). `.._kept` says what its room keeps, and
-- `.._left` is a number that each step lowers.
use Rattle.std.specs.Prelude.{ℕ, ◌+◌, ◌-◌, ◌*◌, ◌%◌, ◌^◌, ◌==◌, Bool, true, false, not, List, if◌then◌else◌, nat_lt, slice_index}
use Rattle.steps.specs.Queues.Ring.{load, store, word_at}
use Rattle.steps.specs.declared.ask.Op.TheVariants.{Add, Exchange}
use Rattle.steps.specs.declared.ask.Want.{Want}
use Rattle.steps.specs.declared.ask.Want.TheVariants as wants
use Rattle.steps.specs.declared.ask.After.{After}
use Rattle.steps.specs.declared.ask.After.TheVariants.{GoOn, Done}
use Rattle.steps.specs.declared.atomic.Store.{Store}
use Rattle.steps.specs.declared.atomic.StoreStage.{StoreStage}
use Rattle.steps.specs.declared.atomic.StoreStage.TheVariants as stores
use Rattle.steps.specs.declared.atomic.Load.{Load}
use Rattle.steps.specs.declared.atomic.LoadStage.{LoadStage}
use Rattle.steps.specs.declared.atomic.LoadStage.TheVariants as loads
use Rattle.steps.specs.declared.atomic.version.Version.{Version}

-- there are two cells: the first word of the number's cell
abbrev pub cell_word : (size number : ℕ) → ℕ
cell_word size number = 2 + size * (number % 2)

-- the number of the cell in which a version's value stands; versions wrap
abbrev pub before_version : ℕ → ℕ
before_version version = (version + 2 ^ 64 - 1) % 2 ^ 64

-- ---- store

module _ {V : Type 0} where
  -- the store, moved to this stage
  abbrev pub at_store : Store V → StoreStage → Store V
  at_store call stage = record call { stage = stage }

  -- a store before its first step
  abbrev pub first_store : Store V
  first_store = record { stage = stores.LoadsVersion; of = record {} }

  -- what the store asks for, step by step: load the version; store its cell, word by word; add 1 to the version
  abbrev pub store_asks : (V → List ℕ) → StoreStage → V → Want (Unit {0})
  store_asks words_of stores.LoadsVersion value = load 0
  store_asks words_of (stores.StoresCell cell at) value =
      store (word_at cell at) (slice_index (words_of value) at)
  store_asks words_of stores.AddsVersion value =
      wants.Ask (record { word = 0; op = Add 1 })

  -- what the store asks for next, at the stage where it stands
  abbrev pub store_want : (V → List ℕ) → Store V → V → Want (Unit {0})
  store_want words_of call value = store_asks words_of call.stage value

  -- Where the store goes on to from the old value of its word: it ends with false at the last version, and with true
  -- once it has stored the words and added to the version.
  abbrev pub store_takes : ℕ → Store V → StoreStage → ℕ → After (Store V) Bool
  store_takes size call stores.LoadsVersion old =
      if old == 2 ^ 64 - 1
      then Done false
      else GoOn (at_store call (stores.StoresCell (cell_word size old) 0))
  store_takes size call (stores.StoresCell cell at) old =
      if nat_lt (at + 1) size
      then GoOn (at_store call (stores.StoresCell cell (at + 1)))
      else GoOn (at_store call stores.AddsVersion)
  store_takes size call stores.AddsVersion old = Done true

  -- how the store goes on from the stage at which it is, by the old value of its word
  abbrev pub store_after : ℕ → Store V → ℕ → After (Store V) Bool
  store_after size call old = store_takes size call call.stage old

-- a number that each step of the store lowers
abbrev pub store_left : ℕ → StoreStage → ℕ
store_left size stores.LoadsVersion = size + 2
store_left size (stores.StoresCell cell at) = size - at + 1
store_left size stores.AddsVersion = 0

-- ---- load

-- What the load asks for, step by step: load the version; load the cell of the version before it, word by word;
-- exchange the version for itself.
abbrev pub load_asks : LoadStage → Want (Unit {0})
load_asks loads.LoadsVersion = load 0
load_asks (loads.LoadsCell version cell at) = load (word_at cell at)
load_asks (loads.ChecksVersion version) =
    wants.Ask (record { word = 0; op = Exchange version version })

-- the stage at which a load begins to load the cell of a version
abbrev pub load_begins : ℕ → ℕ → LoadStage
load_begins size version =
    loads.LoadsCell version (cell_word size (before_version version)) 0

module _ {R : Type 0} where
  -- each word of the cell goes to its place in the room
  abbrev pub load_keeps : (R → ℕ → ℕ → R) → R → LoadStage → ℕ → R
  load_keeps with_word room loads.LoadsVersion old = room
  load_keeps with_word room (loads.LoadsCell version cell at) old =
      with_word room at old
  load_keeps with_word room (loads.ChecksVersion version) old = room

module _ {V R : Type 0} where
  -- the load, moved to this stage
  abbrev pub at_load : Load V R → LoadStage → Load V R
  at_load call stage = record call { stage = stage }

  -- a load before its first step
  abbrev pub first_load : Load V R
  first_load = record { stage = loads.LoadsVersion; of = record {} }

  -- what the load asks for next, at the stage where it stands
  abbrev pub load_want : Load V R → Want (Unit {0})
  load_want call = load_asks call.stage

  -- Where the load goes on to from the old value of its word:
  -- where the version has moved, the cell is loaded again, at the version found.
  abbrev pub load_takes : ℕ → Load V R → LoadStage → ℕ → After (Load V R) (Unit {0})
  load_takes size call loads.LoadsVersion old =
      GoOn (at_load call (load_begins size old))
  load_takes size call (loads.LoadsCell version cell at) old =
      if nat_lt (at + 1) size
      then GoOn (at_load call (loads.LoadsCell version cell (at + 1)))
      else GoOn (at_load call (loads.ChecksVersion version))
  load_takes size call (loads.ChecksVersion version) old =
      if old == version then Done tt else GoOn (at_load call (load_begins size old))

  -- how the load goes on from the stage at which it is, by the old value of its word
  abbrev pub load_after : ℕ → Load V R → ℕ → After (Load V R) (Unit {0})
  load_after size call old = load_takes size call call.stage old

  -- the room of the load after a step that was handed this old value
  abbrev pub load_kept : (R → ℕ → ℕ → R) → Load V R → R → ℕ → R
  load_kept with_word call room old = load_keeps with_word room call.stage old

-- whether the load begins its loop again once it is handed this old value: the version has moved
abbrev pub goes_back : LoadStage → ℕ → Bool
goes_back loads.LoadsVersion old = false
goes_back (loads.LoadsCell version cell at) old = false
goes_back (loads.ChecksVersion version) old = not (old == version)

-- ---- version

-- the call loads the version
abbrev pub version_want : Version → Want (Unit {0})
version_want call = load 0

-- the call ends with its one step, with the version
abbrev pub version_after : Version → ℕ → After Version ℕ
version_after call old = Done old
