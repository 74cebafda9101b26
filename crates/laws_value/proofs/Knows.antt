-- What a call of the single value knows at each of its stages: of the words (`KnowsStore`, `KnowsLoad`), and
-- of how often words have changed (`KnowsBacks`).
use Rattle.std.proofs.Common.{◌≡◌, ℕ, ◌+◌, ◌-◌, ◌*◌, ◌^◌, ◌<◌, ◌≤◌, Option, Some, List, length, get_or, arith}
use Rattle.laws_value.proofs.Names.{StoreStage, LoadStage, cell_word, before_version, AtomicStart, AtomicFlight, Coding}
use Rattle.steps.specs.declared.atomic.StoreStage.TheVariants as storing
use Rattle.steps.specs.declared.atomic.LoadStage.TheVariants as loading
use Rattle.steps.specs.declared.copied.Buffer as buffers
use Rattle.model.specs.declared.families.atomic.AtomicStart.TheVariants as starts
use Rattle.model.specs.declared.families.atomic.calls.AtomicFlight.TheVariants.{Acquire, Release, Store, Load, Look, Version}
use Rattle.laws_value.proofs.Core.{Core, GoesUp, IsFilled}

-- ---- the calls by their stages

-- a store of this value at a stage
abbrev pub store_at : {T : Type 0} → T → StoreStage → AtomicFlight T
store_at value stage =
    Store (record { call = record { stage = stage; of = record {} }; given = value; room = tt })

-- a load at a stage, with this room for its copy
abbrev pub load_at : {T : Type 0} → buffers.Buffer 128 → LoadStage → AtomicFlight T
load_at room stage =
    Load (record { call = record { stage = stage; of = record {} }; given = tt; room = room })

-- ---- how many steps each has taken at most, where a value has `size` words

-- how many steps a store has taken at most at its stage; it never turns back
abbrev pub store_number : ℕ → StoreStage → ℕ
store_number size storing.LoadsVersion = 0
store_number size (storing.StoresCell cell at) = 1 + at
store_number size storing.AddsVersion = 1 + size

-- how many steps a load has taken at most at its stage, where it has turned back `backs` times
abbrev pub load_number : ℕ → LoadStage → ℕ → ℕ
load_number size loading.LoadsVersion backs = 0
load_number size (loading.LoadsCell version cell at) backs = 1 + at + backs * (1 + size)
load_number size (loading.ChecksVersion version) backs = 1 + size + backs * (1 + size)

-- how many steps a call has taken at most at its stage, where it has turned back `backs` times
abbrev pub number_of : {T : Type 0} → ℕ → AtomicFlight T → ℕ → ℕ
number_of size (Acquire run) backs = 0
number_of size (Release run) backs = 0
number_of size (Store run) backs = store_number size run.call.stage
number_of size (Load run) backs = load_number size run.call.stage backs
number_of size (Look run) backs = 0
number_of size (Version run) backs = 0

-- ---- what they know of the words

-- what a store of these words knows: its cell is the version's, the words before `at` are in it, and the
-- version is not the last
abbrev pub KnowsStore : ℕ → Core → List ℕ → StoreStage → Type 0
KnowsStore size k words storing.LoadsVersion = Unit {0}
KnowsStore size k words (storing.StoresCell cell at) =
    (cell ≡ cell_word size k.version) × (at < size) × IsFilled size k words at × (k.version < 2 ^ 64 - 1)
KnowsStore size k words storing.AddsVersion = IsFilled size k words size × (k.version < 2 ^ 64 - 1)

-- the first `count` words of the value that stands are in the room
abbrev pub IsCopied : Core → buffers.Buffer 128 → ℕ → Type 0
IsCopied k room count = (i : ℕ) → i < count → get_or room.words i 0 ≡ get_or k.now i 0

-- what a load knows: while the version is the one that was loaded, the words that it has read are those of
-- the value that stands
abbrev pub KnowsLoad : ℕ → Core → buffers.Buffer 128 → LoadStage → Type 0
KnowsLoad size k room loading.LoadsVersion = length room.words ≡ 128
KnowsLoad size k room (loading.LoadsCell version cell at) =
    (length room.words ≡ 128) × (cell ≡ cell_word size (before_version version)) × (at < size)
    × (version ≤ k.version) × (version ≡ k.version → IsCopied k room at)
KnowsLoad size k room (loading.ChecksVersion version) =
    (length room.words ≡ 128) × (version ≤ k.version) × (version ≡ k.version → IsCopied k room size)

-- each turn back of a load is paid for by a change since it began, and so is each move of the version since
-- the load has read it, by which it will turn back next
abbrev pub KnowsBacks : Core → ℕ → ℕ → ℕ → LoadStage → Type 0
KnowsBacks k since changes backs loading.LoadsVersion = backs + since ≤ changes
KnowsBacks k since changes backs (loading.LoadsCell version cell at) =
    (version ≤ k.version) × (backs + since + k.version ≤ changes + version)
KnowsBacks k since changes backs (loading.ChecksVersion version) =
    (version ≤ k.version) × (backs + since + k.version ≤ changes + version)

-- where a call under way stands, by its name: a store and the give-back of the role are by the party that
-- holds the role
abbrev pub At : {T : Type 0} → Coding T → Option ℕ → Core → ℕ → AtomicStart T → AtomicFlight T → Type 0
At code holder k p starts.AcquireProducer (Acquire run) = run.call.word ≡ 1
At code holder k p starts.ReleaseProducer (Release run) = (run.call.word ≡ 1) × (holder ≡ Some p)
At code holder k p (starts.Store value) (Store run) =
    (holder ≡ Some p) × (run.given ≡ value) × KnowsStore code.size k (code.words_of value) run.call.stage
At code holder k p starts.Load (Load run) = KnowsLoad code.size k run.room run.call.stage
At code holder k p starts.HasProducer (Look run) = run.call.word ≡ 1
At code holder k p starts.Version (Version run) = Unit {0}
At code holder k p start flight = ⊥

-- what a call knows of the counts: a call without a loop has not turned back
abbrev pub KnowsFlight : {T : Type 0} → Core → ℕ → ℕ → ℕ → AtomicFlight T → Type 0
KnowsFlight k since changes backs (Acquire run) = backs ≡ 0
KnowsFlight k since changes backs (Release run) = backs ≡ 0
KnowsFlight k since changes backs (Store run) = backs ≡ 0
KnowsFlight k since changes backs (Load run) = KnowsBacks k since changes backs run.call.stage
KnowsFlight k since changes backs (Look run) = backs ≡ 0
KnowsFlight k since changes backs (Version run) = backs ≡ 0

-- ---- what a step of another party leaves

-- the version does not go down, and goes up by changes of words
module _ {k k' : Core} {changes changes' : ℕ} (goes_up : GoesUp k k' changes changes') where
  -- each turn back is still paid for
  pub flight_keeps : {T : Type 0} (since backs : ℕ) (flight : AtomicFlight T)
      → KnowsFlight k since changes backs flight → KnowsFlight k' since changes' backs flight
  flight_keeps = grind arith

-- what a load knows holds where the version and the value that stands are the same
pub load_stays : (size : ℕ) (k k' : Core) (room : buffers.Buffer 128) (stage : LoadStage) → k'.version ≡ k.version
    → k'.now ≡ k.now → KnowsLoad size k room stage → KnowsLoad size k' room stage
load_stays = grind arith

-- once the version has moved, nothing is said of the words that a load has read
pub load_passed : (size : ℕ) (k k' : Core) (room : buffers.Buffer 128) (stage : LoadStage) → k.version < k'.version
    → KnowsLoad size k room stage → KnowsLoad size k' room stage
load_passed = grind arith

module _ {T : Type 0} (code : Coding T) (ho ho' : Option ℕ) (k k' : Core) (q : ℕ) where
  -- where the words go from `k` to `k'`, the calls of party `q` know what they knew: it holds the role if it
  -- held it, and its stores and loads know their words
  pub record Keeps : Type 0 where
    pub holder : ho ≡ Some q → ho' ≡ Some q
    pub store : ho ≡ Some q → (words : List ℕ) (stage : StoreStage) → KnowsStore code.size k words stage → KnowsStore code.size k' words stage
    pub load : (room : buffers.Buffer 128) (stage : LoadStage) → KnowsLoad code.size k room stage → KnowsLoad code.size k' room stage

  -- a call of party `q` stands where it stood
  pub kept : Keeps → (start : AtomicStart T) (flight : AtomicFlight T) → At code ho k q start flight → At code ho' k' q start flight
  kept = grind arith
