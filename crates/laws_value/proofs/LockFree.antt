-- The single value is lock-free: a measure of its calls, by the version, falls with each step of a call and
-- is at most a bound. `FallsIn` says that the call ends, or has as many steps less as it takes and gives no
-- other call more, unless it pays for that.
use Rattle.std.proofs.Common.{◌≡◌, ℕ, ◌+◌, ◌-◌, ◌*◌, ◌%◌, ◌<◌, ◌≤◌, ◌==◌, false, cond, Option, Some}
use Rattle.std.proofs.Common.{List, get_or, set, get_or-set_other, refl, arith}
use Rattle.std.proofs.lemmas.Bool.Decides.{nat_tests}
use Rattle.steps.specs.Queues.Ring.{word_at}
use Rattle.steps.specs.declared.atomic.LoadStage.{LoadStage}
use Rattle.steps.specs.declared.atomic.LoadStage.TheVariants as loads
use Rattle.steps.specs.declared.atomic.StoreStage.{StoreStage}
use Rattle.steps.specs.declared.atomic.StoreStage.TheVariants as stores
use Rattle.model.specs.declared.event.Start.{Start}
use Rattle.model.specs.declared.event.Start.TheVariants as starts
use Rattle.model.specs.declared.families.Flight.{Flight}
use Rattle.model.specs.declared.families.Flight.TheVariants as flights
use Rattle.model.specs.declared.families.Registry.{Registry}
use Rattle.model.specs.declared.families.Registry.TheVariants as registries
use Rattle.model.specs.declared.families.atomic.calls.AtomicFlight.{AtomicFlight}
use Rattle.model.specs.declared.families.atomic.calls.AtomicFlight.TheVariants as calls
use Rattle.model.specs.declared.turn.Kind.TheVariants as kinds
use Rattle.model.specs.Coding.{Coding, IsCoding}
use Rattle.model.specs.Families.{first_of, want_of, after_of, goes_of, step_of, is_question, kept_after_begin, kept_after_death}
use Rattle.model.specs.LockFree.{KeepsEnding, stretch}
use Rattle.model.proofs.LockFree.Falls.{same_is, load_leaves, LeavesAll, StepFalls}
use Rattle.model.proofs.LockFree.Measure.{WordMeasure}
use Rattle.model.proofs.LockFree.Own.{Outline, TableLaws, by_table, OwnAfter, keeps_ending}

-- ---- the measure

-- the words of a cell, at least one
abbrev some : ℕ → ℕ
some size = size - 1 + 1

-- the steps left to a load, which loads the cell again if the version has moved; `now` is the version
abbrev load_left : ℕ → ℕ → LoadStage → ℕ
load_left size now loads.LoadsVersion = some size + 1
load_left size now (loads.LoadsCell version cell at) =
    cond (now == version) (size - (at + 1) + 1) (size - (at + 1) + some size + 2)
load_left size now (loads.ChecksVersion version) = cond (now == version) 0 (some size + 1)

-- the steps left to a store, which has no loop
abbrev store_left : ℕ → StoreStage → ℕ
store_left size stores.LoadsVersion = some size + 1
store_left size (stores.StoresCell cell at) = size - (at + 1) + 1
store_left size stores.AddsVersion = 0

-- where a store may stand: at a word of one of the two cells
abbrev StoreStands : ℕ → StoreStage → Type 0
StoreStands size (stores.StoresCell cell at) = (2 ≤ cell) × (cell ≤ 2 + size) × (at < size)
StoreStands size stage = Unit {0}

-- a cell is one of two
version_cell : (size n : ℕ) → size * (n % 2) ≤ size
version_cell = grind arith

module _ {T : Type 0} where
  -- the steps that a call has left at its stage, if the version stays
  abbrev call_left : ℕ → ℕ → AtomicFlight T → ℕ
  call_left size now (calls.Acquire run) = 0
  call_left size now (calls.Release run) = 0
  call_left size now (calls.Store run) = store_left size run.call.stage
  call_left size now (calls.Load run) = load_left size now run.call.stage
  call_left size now (calls.Look run) = 0
  call_left size now (calls.Version run) = 0

  -- the steps left to a call; calls of other families have none
  abbrev left_at : ℕ → ℕ → Flight T → ℕ
  left_at size now (flights.Atomic flight) = call_left size now flight
  left_at size now flight = 0

  -- the measure, by the version alone: no other word makes a call take more steps, and the version is moved
  -- by the last step of a store
  abbrev measure : ℕ → WordMeasure T
  measure size = record { left = λ words flight. left_at size (get_or words 0 0) flight; pays = λ flight. 0; alone = 2 * size + 1; changes = 0 }

  -- ---- where a call stands

  -- the call stands where the measure needs it
  abbrev CallStands : ℕ → AtomicFlight T → Type 0
  CallStands size (calls.Store run) = StoreStands size run.call.stage
  CallStands size flight = Unit {0}

  -- the call is one of the value, and stands where the measure needs it
  abbrev At : Coding T → ℕ → Start T → Flight T → Type 0
  At code c (starts.Atomic start) (flights.Atomic flight) = CallStands code.size flight
  At code c start flight = ⊥

  -- the registry is a value's
  abbrev Kept : Registry T → Type 0
  Kept (registries.Atomic producer) = Unit {0}
  Kept kept = ⊥

  -- what the proof that the value is lock-free needs: where calls stand, and the measure
  abbrev outline : Outline T
  outline =
      record {
        kind = kinds.Atomic;
        Such = λ start. Unit {0};
        Kept = Kept;
        At = At;
        Known = λ p kept flight. Unit {0};
        measure = λ code c. measure code.size;
      }

  -- ---- the measure falls with each step

  -- the step of a call of the value, from the words `words`
  module _ (code : Coding T) (few : code.size ≤ 128) (words : List ℕ) where
    -- the measure falls with the step of the call
    abbrev CallStepFalls : AtomicFlight T → Type 0
    CallStepFalls flight = StepFalls (measure code.size) code words (flights.Atomic flight)

    -- the version before the step
    abbrev now : ℕ
    now = get_or words 0 0

    -- a store to a word of a cell gives no call more steps
    cell_leaves : (cell at new : ℕ) → 2 ≤ cell → cell ≤ 2 + code.size → at < code.size
        → LeavesAll (measure code.size) words (set words (word_at cell at) new)
    cell_leaves cell at new low high below other =
        let same : get_or (set words (word_at cell at) new) 0 0 ≡ now =
        get_or-set_other words (word_at cell at) 0 new 0 (λ e. absurd (omega arith)) in
        rw same (omega arith)

    -- the measure falls with each step of a call of the value
    call_falls : (flight : AtomicFlight T) → CallStands code.size flight → CallStepFalls flight
    call_falls = grind (arith, cell_leaves, load_leaves, same_is, nat_tests)

  -- the measure falls with each step of a call that the machine has under way
  falls : (code : Coding T) → code.size ≤ 128 → (c : ℕ) (words : List ℕ) (start : Start T) (flight : Flight T) → At code c start flight
      → StepFalls (measure code.size) code words flight
  falls code few c words (starts.Atomic start) (flights.Atomic flight) stands = call_falls code few words flight stands
  falls code few c words start flight stands = absurd stands

  -- ---- a call that goes on stands where the measure needs it

  -- a call that goes on is one of the value, and stands where the measure needs it
  goes : (code : Coding T) (c : ℕ) → IsCoding code → (start : Start T) (flight : Flight T) (old : ℕ) → At code c start flight
      → OwnAfter outline code c start (after_of code flight old)
  goes = grind (arith, version_cell, nat_tests)

  -- a call that begins on a value stands where the measure needs it, and the registry stays a value's
  begins : (code : Coding T) (c : ℕ) (start : Start T) (kept : Registry T) (flight : Flight T) → Kept kept
      → first_of kinds.Atomic c start kept ≡ Some flight
      → At code c start flight × ((p : ℕ) → Kept (kept_after_begin code c start p kept))
  begins = grind arith

  -- a step of a call of the value leaves the registry a value's
  stays : (code : Coding T) (c : ℕ) (words : List ℕ) (beside : Option (ℕ × ℕ)) (p : ℕ) (start : Start T) (flight : Flight T) (old : ℕ) (kept : Registry T)
      → At code c start flight → Kept kept → Kept (step_of code words beside p start flight old kept).kept
  stays = grind arith

  -- what becomes of a call by a step is decided by its stage alone
  told : (code : Coding T) (c : ℕ) (words : List ℕ) (beside : Option (ℕ × ℕ)) (p : ℕ) (start : Start T) (flight : Flight T) (old : ℕ) (kept : Registry T)
      → At code c start flight → Kept kept
      → ((step_of code words beside p start flight old kept).after ≡ after_of code flight old)
      × (goes_of code p flight old kept ≡ after_of code flight old)
  told = grind arith

  -- no call of the value asks a question
  asks : (code : Coding T) (c : ℕ) (start : Start T) (flight : Flight T) → At code c start flight → is_question (want_of code flight) ≡ false
  asks = grind arith

  -- the death of an owner leaves the registry a value's
  dies : (kept : Registry T) (owner : ℕ) → Kept kept → Kept (kept_after_death kept owner)
  dies = grind arith

  -- no call has more steps left than twice the words of a value and one
  most : (size : ℕ) → 1 ≤ size → (words : List ℕ) (flight : Flight T) → (measure size).left words flight ≤ 2 * size + 1
  most = grind arith

  -- all that the frame of lock-freedom asks of the measure holds of the calls of a value
  laws : {code : Coding T} {c : ℕ} → IsCoding code → TableLaws outline code c
  laws {code} {c} coded =
      record {
        opens = tt;
        known = λ p kept flight. tt;
        begins = λ start kept flight any h e. begins code c start kept flight h e;
        stays = stays code c;
        goes = goes code c coded;
        told = told code c;
        dies = dies;
        decides = λ words start flight said at due. (let none = asks code c start flight at in absurd (cc));
        most = λ words start flight at. (most code.size coded.some words flight, omega arith);
        falls = λ words start flight at wide. falls code coded.few c words start flight at;
      }

  -- the single value is lock-free: every run of its machine keeps ending calls, within this bound
  pub value_keeps_ending : KeepsEnding T kinds.Atomic (λ n capacity size. stretch n 0 (2 * size + 1))
  value_keeps_ending =
      keeps_ending outline (λ code c coded admitted. by_table outline code c (laws coded)) (λ start. tt)
      (λ n capacity size. stretch n 0 (2 * size + 1)) (λ code c n. refl)
