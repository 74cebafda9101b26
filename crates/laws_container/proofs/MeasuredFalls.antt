-- The measure of `MeasuredCalls` falls with each step of an add, and of a remove or a replace that does not
-- lock (for finds, recoveries and looks see `MeasuredLooks`). `FallsIn` says that the call ends, or has as
-- many steps less as it takes and gives no other call more, unless it pays for that.
use Rattle.std.proofs.Common.{◌≡◌, ℕ, ◌+◌, ◌-◌, ◌*◌, ◌<◌, ◌≤◌, ◌==◌, inl, inr, nat_lt, Bool, true, false, cond}
use Rattle.std.proofs.Common.{Option, List, get_or, set, refl, sym, subst, arith}
use Rattle.std.proofs.lemmas.Bool.Decides.{nat_tests}
use Rattle.steps.specs.Container.Add.{inner_acquire, add_acquired}
use Rattle.steps.specs.Container.Layout.{count_word, is_even}
use Rattle.steps.specs.Indices.Robust.Acquire.{acquire_sees}
use Rattle.steps.specs.Indices.Robust.Parts.{cell_word, empty, locked, greatest}
use Rattle.steps.specs.Routine.{went_on}
use Rattle.steps.specs.declared.ask.After.{After}
use Rattle.steps.specs.declared.container.add.AddStage.{AddStage}
use Rattle.steps.specs.declared.container.add.AddStage.TheVariants as adds
use Rattle.steps.specs.declared.container.remove.RemoveStage.{RemoveStage}
use Rattle.steps.specs.declared.container.remove.RemoveStage.TheVariants as removes
use Rattle.steps.specs.declared.container.replace.ReplaceStage.{ReplaceStage}
use Rattle.steps.specs.declared.container.replace.ReplaceStage.TheVariants as replaces
use Rattle.steps.specs.declared.container.state.ContainerState.{ContainerState}
use Rattle.steps.specs.declared.indices.enums.ReleaseMode.TheVariants.{Default}
use Rattle.steps.specs.declared.indices.robust.acquire.AcquireStage.{AcquireStage}
use Rattle.steps.specs.declared.indices.robust.acquire.AcquireStage.TheVariants as acquires
use Rattle.steps.specs.declared.indices.robust.parts.Raise.TheVariants as raises
use Rattle.steps.specs.declared.indices.robust.release.ReleaseStage.{ReleaseStage}
use Rattle.steps.specs.declared.indices.robust.release.ReleaseStage.TheVariants as releases
use Rattle.model.specs.declared.event.Answer.{Answer}
use Rattle.model.specs.declared.families.Flight.{Flight}
use Rattle.model.specs.declared.families.Flight.TheVariants as flights
use Rattle.model.specs.declared.families.container.calls.ContainerFlight.{ContainerFlight}
use Rattle.model.specs.declared.families.container.calls.ContainerFlight.TheVariants as calls
use Rattle.model.specs.Coding.{Coding}
use Rattle.model.specs.Families.{ask_of}
use Rattle.model.specs.Families.Container.Calls.{want, after, added}
use Rattle.model.specs.Families.Queues.Calls.{as_it_is}
use Rattle.model.specs.Step.{as_call}
use Rattle.model.specs.Turns.{old_of, words_after, step_count}
use Rattle.model.proofs.LockFree.Falls.{same_is, load_leaves, FallsIn}
use Rattle.model.proofs.LockFree.Measure.{WordMeasure}
use Rattle.laws_robust.proofs.Measured.{acquire_left}
use Rattle.laws_container.proofs.MeasuredCalls.{measure, cell_leaves, hide_leaves, apart_leaves}
use Rattle.laws_container.proofs.MeasuredCalls.{AcquireStands, AddStands, RemoveStands, ReplaceStands}
use Rattle.laws_container.proofs.CallProgress.{add_at, remove_at, replace_at}
use Rattle.lemmas.proofs.Cases.{by_bool, on_bool}

-- where a further index follows, the indices behind it take `each` steps less
pub behind_next : (c each index : ℕ) → index + 1 < c → (c - (index + 1)) * each ≡ (c - (index + 1 + 1)) * each + each
behind_next c each index less =
    let one : c - (index + 1) ≡ c - (index + 1 + 1) + 1 = omega arith in
    rw one (omega arith)

-- no index is behind the last one
behind_last : (c each index : ℕ) → c ≤ index + 1 → (c - (index + 1)) * each ≡ 0
behind_last c each index last =
    let none : c - (index + 1) ≡ 0 = omega arith in
    rw none (omega arith)

-- an exchange of a number for itself leaves the words
pub check_leaves : (words : List ℕ) (word count : ℕ)
    → set words word (cond (get_or words word 0 == count) count (get_or words word 0)) ≡ words
check_leaves words word count =
    on_bool (λ t. set words word (cond t count (get_or words word 0)) ≡ words) (get_or words word 0 == count)
    (λ t.
    let same : count ≡ get_or words word 0 = grind (arith, nat_tests) in
    subst (λ n. set words word n ≡ words) (sym same) (load_leaves words word))
    (λ t. load_leaves words word)

-- a container of this coding and capacity, with the words `words` before the step
module _ {T : Type 0} (code : Coding T) (c : ℕ) (words : List ℕ) where
  abbrev pub M : WordMeasure T
  M = measure code.size c

  -- how a call of the container goes on, as any call
  abbrev pub any_call : After (ContainerFlight T) (Answer T) → After (Flight T) (Answer T)
  any_call after = as_call flights.Container (λ answer. answer) after

  -- the measure falls with the step that a call takes from its stage, if its party has this state
  abbrev pub StepFallsWith : Option (ContainerState T) → ContainerFlight T → Type 0
  StepFallsWith state flight =
      FallsIn M words (words_after words (ask_of (want code flight))) (step_count (ask_of (want code flight))) (flights.Container flight)
      (any_call (after code state flight (old_of words (ask_of (want code flight)))))

  -- the counter before the step
  abbrev now : ℕ
  now = get_or words 0 0

  -- the party of the call has this state, if it has one
  module _ (state : Option (ContainerState T)) where
    -- the measure falls with the step of the call
    abbrev StepFalls : ContainerFlight T → Type 0
    StepFalls flight = StepFallsWith state flight

    -- ---- an add

    -- the measure falls when an add has seen the counter, if its stage had steps enough left
    acquire_sees_falls : {new : List ℕ} (value : T) (owner : ℕ) (stage : AcquireStage) → new ≡ words
        → c - 1 + 3 ≤ acquire_left c now stage
        → FallsIn M words new 1 (flights.Container (add_at c value owner (adds.Acquires stage)))
        (any_call (as_call calls.Add added (went_on as_it_is (record { value = value; owner = owner }) tt
        (add_acquired (record { capacity = c; stage = adds.Acquires stage; of = record {} }) (acquire_sees (inner_acquire c stage) now)))))
    acquire_sees_falls {new} value owner stage same enough = go (now == locked) refl (now == greatest) refl (nat_lt 0 c) refl
      where
        -- the cases are whether the counter is locked, whether the counter is at its end and whether there is a place
        go : (t : Bool) → (now == locked) ≡ t → (u : Bool) → (now == greatest) ≡ u → (v : Bool) → nat_lt 0 c ≡ v
            → FallsIn M words new 1 (flights.Container (add_at c value owner (adds.Acquires stage)))
            (any_call (as_call calls.Add added (went_on as_it_is (record { value = value; owner = owner }) tt
            (add_acquired (record { capacity = c; stage = adds.Acquires stage; of = record {} }) (acquire_sees (inner_acquire c stage) now)))))
        go true lock_test u end_test v index_test = rw lock_test tt
        go false lock_test true end_test v index_test = rw (lock_test, end_test) tt
        go false lock_test false end_test true index_test = let self = same_is now in
            rw (lock_test, end_test, index_test) (inl (same, rw self (omega arith), omega arith))
        go false lock_test false end_test false index_test = let self = same_is now in
            rw (lock_test, end_test, index_test) (inl (same, rw self (omega arith), omega arith))

    -- the measure falls with each step of an add that acquires its index
    acquire_falls : (value : T) (owner : ℕ) (stage : AcquireStage) → AcquireStands c stage
        → StepFalls (add_at c value owner (adds.Acquires stage))
    acquire_falls value owner acquires.LoadsCounter stands =
        acquire_sees_falls value owner acquires.LoadsCounter (load_leaves words 0) (omega arith)
    acquire_falls value owner (acquires.FillsCell counter index) stands =
        go (get_or words (cell_word index) 0 == empty) refl (nat_lt (index + 1) c) refl (now == counter) refl
      where
        call : ContainerFlight T
        call = add_at c value owner (adds.Acquires (acquires.FillsCell counter index))

        -- the cases are whether the cell is empty, whether a further index follows and whether the counter is still what was read
        go : (t : Bool) → (get_or words (cell_word index) 0 == empty) ≡ t → (u : Bool) → nat_lt (index + 1) c ≡ u
            → (v : Bool) → (now == counter) ≡ v → StepFalls call
        go true cell_test u next_test true counter_test =
            rw cell_test (inr (rw counter_test (omega arith), inl (cell_leaves code.size c words index owner (omega arith), omega arith)))
        go true cell_test u next_test false counter_test =
            rw cell_test (inr (rw counter_test (omega arith), inl (cell_leaves code.size c words index owner (omega arith), omega arith)))
        go false cell_test true next_test true counter_test =
            let less : index + 2 ≤ c = grind (arith, nat_tests) in
            rw (cell_test, next_test) (inl (load_leaves words (cell_word index), rw counter_test (omega arith), omega arith))
        go false cell_test true next_test false counter_test =
            let less : index + 2 ≤ c = grind (arith, nat_tests) in
            rw (cell_test, next_test) (inl (load_leaves words (cell_word index), rw counter_test (omega arith), omega arith))
        go false cell_test false next_test true counter_test =
            rw (cell_test, next_test) (inl (load_leaves words (cell_word index), rw counter_test (omega arith), omega arith))
        go false cell_test false next_test false counter_test =
            rw (cell_test, next_test) (inl (load_leaves words (cell_word index), rw counter_test (omega arith), omega arith))
    acquire_falls value owner (acquires.ChecksCounter counter) stands =
        by_bool (now == counter)
        (λ t. rw t tt)
        (λ t.
        rw t (acquire_sees_falls value owner (acquires.ChecksCounter counter) (load_leaves words 0) (rw t (omega arith))))
    acquire_falls value owner (acquires.Raises index raises.LoadsCounter) stands = go (now == locked) refl (now == greatest) refl
      where
        -- the cases are whether the counter is locked and whether the counter is at its end
        go : (t : Bool) → (now == locked) ≡ t → (u : Bool) → (now == greatest) ≡ u
            → StepFalls (add_at c value owner (adds.Acquires (acquires.Raises index raises.LoadsCounter)))
        go true lock_test u end_test = rw lock_test tt
        go false lock_test true end_test = rw (lock_test, end_test) (inl (load_leaves words 0, omega arith, omega arith))
        go false lock_test false end_test = let self = same_is now in rw (lock_test, end_test) (inl (load_leaves words 0, rw self (omega arith), omega arith))
    acquire_falls value owner (acquires.Raises index (raises.ExchangesCounter counter)) stands =
        go (now == counter) refl (now == locked) refl (now == greatest) refl
      where
        -- the cases are whether the counter is still what was read, whether the counter is locked and whether the counter is at its end
        go : (s : Bool) → (now == counter) ≡ s → (t : Bool) → (now == locked) ≡ t → (u : Bool) → (now == greatest) ≡ u
            → StepFalls (add_at c value owner (adds.Acquires (acquires.Raises index (raises.ExchangesCounter counter))))
        go true counter_test t lock_test u end_test = rw counter_test (inr (rw counter_test (omega arith), inr (omega arith)))
        go false counter_test true lock_test u end_test = rw (counter_test, lock_test) tt
        go false counter_test false lock_test true end_test =
            rw (counter_test, lock_test, end_test) (inl (load_leaves words 0, rw counter_test (omega arith), omega arith))
        go false counter_test false lock_test false end_test = let self = same_is now in
            rw (counter_test, lock_test, end_test) (inl (load_leaves words 0, rw (self, counter_test) (omega arith), omega arith))

    -- the measure falls with each step of an add
    pub add_falls : (value : T) (owner : ℕ) (stage : AddStage) → AddStands c stage → StepFalls (add_at c value owner stage)
    add_falls value owner (adds.Acquires stage) stands = acquire_falls value owner stage stands
    add_falls value owner (adds.LoadsCount index) stands =
        by_bool (is_even (get_or words (count_word c index) 0))
        (λ t. rw t (inl (load_leaves words (count_word c index), omega arith, omega arith)))
        (λ t. rw t (inl (load_leaves words (count_word c index), omega arith, omega arith)))
    add_falls value owner (adds.Hides index count) stands =
        inr (omega arith, inl (hide_leaves code.size c words index count stands, omega arith))
    add_falls value owner (adds.Stores index at) stands =
        by_bool (nat_lt (at + 1) code.size)
        (λ t.
        let less : at + 1 < code.size = grind (arith, nat_tests) in
        rw t (inr (omega arith, inl (apart_leaves code.size c words _ _ (omega arith) (λ i few e. absurd (omega arith)), omega arith))))
        (λ t.
        rw t (inr (omega arith, inl (apart_leaves code.size c words _ _ (omega arith) (λ i few e. absurd (omega arith)), omega arith))))
    add_falls value owner (adds.AddsCount index) stands = inr (omega arith, inr (omega arith))
    add_falls value owner (adds.AddsChange index) stands = tt

    -- ---- a remove

    -- the measure falls with each step of a remove in its release
    release_falls : (index owner count : ℕ) (stage : ReleaseStage) → index ≤ c → RemoveStands (removes.Releases count stage)
        → StepFalls (remove_at c index owner Default (removes.Releases count stage))
    release_falls index owner count releases.EmptiesCell within stands =
        by_bool (get_or words (cell_word index) 0 == owner)
        (λ t. rw t (inr (omega arith, inl (cell_leaves code.size c words index empty within, omega arith))))
        (λ t. rw t tt)
    release_falls index owner count (releases.Raises raises.LoadsCounter) within stands =
        go (now == locked) refl (now == greatest) refl (is_even count) refl
      where
        -- the cases are whether the counter is locked, whether the counter is at its end and whether the count is even (nothing stands there)
        go : (t : Bool) → (now == locked) ≡ t → (u : Bool) → (now == greatest) ≡ u → (v : Bool) → is_even count ≡ v
            → StepFalls (remove_at c index owner Default (removes.Releases count (releases.Raises raises.LoadsCounter)))
        go true lock_test u end_test true even_test = rw (lock_test, even_test) (inl (load_leaves words 0, omega arith, omega arith))
        go true lock_test u end_test false even_test = rw (lock_test, even_test) (inl (load_leaves words 0, omega arith, omega arith))
        go false lock_test true end_test true even_test = rw (lock_test, end_test, even_test) (inl (load_leaves words 0, omega arith, omega arith))
        go false lock_test true end_test false even_test = rw (lock_test, end_test, even_test) (inl (load_leaves words 0, omega arith, omega arith))
        go false lock_test false end_test v even_test = let self = same_is now in
            rw (lock_test, end_test) (inl (load_leaves words 0, rw self (omega arith), omega arith))
    release_falls index owner count (releases.Raises (raises.ExchangesCounter counter)) within stands =
        go (now == counter) refl (now == locked) refl (now == greatest) refl (is_even count) refl
      where
        -- the cases are whether the counter is still what was read, whether the counter is locked, whether the counter
        -- is at its end and whether the count is even (nothing stands there)
        go : (s : Bool) → (now == counter) ≡ s → (t : Bool) → (now == locked) ≡ t → (u : Bool) → (now == greatest) ≡ u → (v : Bool) → is_even count ≡ v
            → StepFalls (remove_at c index owner Default
            (removes.Releases count (releases.Raises (raises.ExchangesCounter counter))))
        go true counter_test t lock_test u end_test true even_test = rw (counter_test, even_test) (inr (rw counter_test (omega arith), inr (omega arith)))
        go true counter_test t lock_test u end_test false even_test = rw (counter_test, even_test) (inr (rw counter_test (omega arith), inr (omega arith)))
        go false counter_test true lock_test u end_test true even_test =
            rw (counter_test, lock_test, even_test) (inl (load_leaves words 0, rw counter_test (omega arith), omega arith))
        go false counter_test true lock_test u end_test false even_test =
            rw (counter_test, lock_test, even_test) (inl (load_leaves words 0, rw counter_test (omega arith), omega arith))
        go false counter_test false lock_test true end_test true even_test =
            rw (counter_test, lock_test, end_test, even_test) (inl (load_leaves words 0, rw counter_test (omega arith), omega arith))
        go false counter_test false lock_test true end_test false even_test =
            rw (counter_test, lock_test, end_test, even_test) (inl (load_leaves words 0, rw counter_test (omega arith), omega arith))
        go false counter_test false lock_test false end_test v even_test = let self = same_is now in
            rw (counter_test, lock_test, end_test) (inl (load_leaves words 0, rw (self, counter_test) (omega arith), omega arith))
    release_falls index owner count (releases.Locks lock) within stands = absurd stands

    -- the measure falls with each step of a remove that does not lock
    pub remove_falls : (index owner : ℕ) (stage : RemoveStage) → index ≤ c → RemoveStands stage → StepFalls (remove_at c index owner Default stage)
    remove_falls index owner removes.Refuses within stands = tt
    remove_falls index owner removes.LoadsCount within stands = inl (load_leaves words (count_word c index), omega arith, omega arith)
    remove_falls index owner (removes.Releases count stage) within stands = release_falls index owner count stage within stands
    remove_falls index owner (removes.Hides count end) within stands =
        inr (omega arith, inl (hide_leaves code.size c words index count stands, omega arith))
    remove_falls index owner (removes.AddsChange end) within stands = tt

    -- ---- a replace

    -- the measure falls with each step of a replace
    pub replace_falls : (index : ℕ) (value : T) (owner : ℕ) (stage : ReplaceStage) → ReplaceStands stage → StepFalls (replace_at c index value owner stage)
    replace_falls index value owner replaces.Refuses stands = tt
    replace_falls index value owner replaces.LoadsCell stands =
        by_bool (get_or words (cell_word index) 0 == owner)
        (λ t. rw t (inl (load_leaves words (cell_word index), omega arith, omega arith)))
        (λ t. rw t tt)
    replace_falls index value owner replaces.LoadsCount stands =
        by_bool (is_even (get_or words (count_word c index) 0))
        (λ t. rw t (inl (load_leaves words (count_word c index), omega arith, omega arith)))
        (λ t. rw t (inl (load_leaves words (count_word c index), omega arith, omega arith)))
    replace_falls index value owner (replaces.Hides count) stands =
        inr (omega arith, inl (hide_leaves code.size c words index count stands, omega arith))
    replace_falls index value owner (replaces.Stores at) stands =
        by_bool (nat_lt (at + 1) code.size)
        (λ t.
        let less : at + 1 < code.size = grind (arith, nat_tests) in
        rw t (inr (omega arith, inl (apart_leaves code.size c words _ _ (omega arith) (λ i few e. absurd (omega arith)), omega arith))))
        (λ t.
        rw t (inr (omega arith, inl (apart_leaves code.size c words _ _ (omega arith) (λ i few e. absurd (omega arith)), omega arith))))
    replace_falls index value owner replaces.AddsCount stands = inr (omega arith, inr (omega arith))
    replace_falls index value owner replaces.AddsChange stands = tt
