-- The measure of `MeasuredCalls` falls with each step of the calls that read one element after another:
-- finds, recoveries that do not lock, looks, and calls on the length. `FallsIn` says that the call ends, or
-- has as many steps less as it takes and gives no other call more, unless it pays for that.
use Rattle.std.proofs.Common.{◌≡◌, ℕ, ◌+◌, ◌-◌, ◌<◌, ◌≤◌, ◌==◌, inl, inr, nat_lt, Bool, true, false}
use Rattle.std.proofs.Common.{Some, None, List, get_or, slice_index_or, refl, arith}
use Rattle.std.proofs.lemmas.Bool.Decides.{nat_tests}
use Rattle.steps.specs.Container.Find.{find_comes_to}
use Rattle.steps.specs.Container.Layout.{count_word, is_even}
use Rattle.steps.specs.Container.Look.{look_comes_to}
use Rattle.steps.specs.Container.Recover.{recover_comes_to}
use Rattle.steps.specs.Indices.Robust.Parts.{cell_word, empty, locked, greatest}
use Rattle.steps.specs.Routine.{went_on}
use Rattle.steps.specs.declared.container.find.FindStage.{FindStage}
use Rattle.steps.specs.declared.container.find.FindStage.TheVariants as finds
use Rattle.steps.specs.declared.container.look.LookStage.{LookStage}
use Rattle.steps.specs.declared.container.look.LookStage.TheVariants as looks
use Rattle.steps.specs.declared.container.recover.RecoverStage.{RecoverStage}
use Rattle.steps.specs.declared.container.recover.RecoverStage.TheVariants as recovers
use Rattle.steps.specs.declared.container.state.ContainerState.{ContainerState}
use Rattle.steps.specs.declared.copied.Buffer as buffers
use Rattle.steps.specs.declared.indices.enums.ReleaseMode.TheVariants.{Default}
use Rattle.steps.specs.declared.indices.robust.parts.Count.{Count}
use Rattle.steps.specs.declared.indices.robust.parts.Count.TheVariants as counts
use Rattle.steps.specs.declared.indices.robust.parts.Raise.TheVariants as raises
use Rattle.model.specs.declared.event.Answer.TheVariants as answers
use Rattle.model.specs.declared.families.Flight.TheVariants as flights
use Rattle.model.specs.declared.families.container.calls.ContainerFlight.{ContainerFlight}
use Rattle.model.specs.declared.families.container.calls.ContainerFlight.TheVariants as calls
use Rattle.model.specs.declared.families.container.calls.CountOf.{CountOf}
use Rattle.model.specs.declared.families.container.calls.LookOf.{LookOf}
use Rattle.model.specs.Coding.{Coding}
use Rattle.model.specs.Families.Container.Calls.{look_came}
use Rattle.model.specs.Families.Queues.Calls.{as_it_is}
use Rattle.model.specs.Step.{as_call}
use Rattle.model.proofs.LockFree.Falls.{same_is, load_leaves, FallsIn}
use Rattle.laws_container.proofs.MeasuredCalls.{behind, cell_leaves, hide_leaves, RecoverStands, LookStands}
use Rattle.laws_container.proofs.MeasuredCalls.{recover_left, find_left, look_left, recover_pays}
use Rattle.laws_container.proofs.MeasuredFalls.{behind_next, check_leaves, M, any_call, StepFallsWith}
use Rattle.laws_container.proofs.CallProgress.{find_at, recover_at, look_at, count_at}
use Rattle.lemmas.proofs.Cases.{by_bool}

-- a container of this coding and capacity, with the words `words` before the step
module _ {T : Type 0} (code : Coding T) (c : ℕ) (words : List ℕ) where
  -- the measure falls with the step that the call takes from its stage
  abbrev StepFalls : ContainerFlight T → Type 0
  StepFalls flight = StepFallsWith code c words None flight

  -- the counter before the step
  abbrev now : ℕ
  now = get_or words 0 0

  -- the number of the element at an index before the step
  abbrev stands_at : ℕ → ℕ
  stands_at index = get_or words (count_word c index) 0

  -- ---- a find

  -- the measure falls as a find comes past `index`, to the next index or to its end
  pub find_comes : {new : List ℕ} (steps index found owner : ℕ) (was room : buffers.Buffer 128) (stage : FindStage) → new ≡ words
      → behind code.size c (code.size - 1 + 4) index + steps ≤ find_left code.size c stage
      → FallsIn (M code c words) words new steps (flights.Container (find_at c owner was stage))
      (any_call code c words (as_call calls.Find answers.Number (went_on as_it_is owner room
      (find_comes_to (record { capacity = c; stage = stage; of = record {} }) (index + 1) found))))
  find_comes steps index found owner was room stage same enough =
      by_bool (nat_lt (index + 1) c)
      (λ u.
      let less : index + 1 < c = grind (arith, nat_tests) in
      let fewer_behind = behind_next c (code.size - 1 + 4) index less in
      rw u (inl (same, omega arith, omega arith)))
      (λ u. rw u tt)

  -- the measure falls with each step of a find
  pub find_falls : (owner : ℕ) (room : buffers.Buffer 128) (stage : FindStage) → StepFalls (find_at c owner room stage)
  find_falls owner room (finds.LoadsCell index found) =
      by_bool (get_or words (cell_word index) 0 == owner)
      (λ t. rw t (inl (load_leaves words (cell_word index), omega arith, omega arith)))
      (λ t.
      rw t (find_comes 1 index found owner room room (finds.LoadsCell index found) (load_leaves words (cell_word index)) (omega arith)))
  find_falls owner room (finds.LoadsCount index found) =
      by_bool (is_even (stands_at index))
      (λ t.
      rw t (find_comes 1 index found owner room room (finds.LoadsCount index found) (load_leaves words (count_word c index)) (omega arith)))
      (λ t. rw t (inl (load_leaves words (count_word c index), omega arith, omega arith)))
  find_falls owner room (finds.LoadsWord index found count at) =
      by_bool (nat_lt (at + 1) code.size)
      (λ t.
      let less : at + 1 < code.size = grind (arith, nat_tests) in
      rw t (inl (load_leaves words _, omega arith, omega arith)))
      (λ t. rw t (inl (load_leaves words _, omega arith, omega arith)))
  find_falls owner room (finds.ChecksCount index found count) =
      by_bool (stands_at index == count)
      (λ t.
      let same = check_leaves words (count_word c index) count in
      rw t (inl (rw t at same, omega arith, omega arith)))
      (λ t.
      rw t (find_comes 1 index found owner room room (finds.ChecksCount index found count) (load_leaves words (count_word c index))
      (omega arith)))
  find_falls owner room (finds.Asks index found) = tt

  -- ---- a recovery

  -- a recovery that does not lock, at a stage
  abbrev recovering : ℕ → buffers.Buffer 128 → RecoverStage → ContainerFlight T
  recovering owner room stage = recover_at c owner Default room stage

  -- the measure falls as a recovery that does not lock comes past `index`, to the next index
  -- or to its last steps
  pub recover_comes : {new : List ℕ} (steps index owner : ℕ) (was room : buffers.Buffer 128) (stage : RecoverStage) → new ≡ words
      → behind code.size c (code.size - 1 + 8) index + 1 + steps ≤ recover_left code.size c words stage → c - (index + 1) ≤ recover_pays c stage
      → FallsIn (M code c words) words new steps (flights.Container (recovering owner was stage))
      (any_call code c words (as_call calls.Recover answers.State
      (went_on as_it_is (record { owner = owner; mode = Default }) room
      (recover_comes_to (record { capacity = c; stage = stage; of = record {} }) (index + 1)))))
  recover_comes steps index owner was room stage same enough pays =
      by_bool (nat_lt (index + 1) c)
      (λ u.
      let less : index + 1 < c = grind (arith, nat_tests) in
      let fewer_behind = behind_next c (code.size - 1 + 8) index less in
      rw u (inl (same, omega arith, omega arith)))
      (λ u. rw u (inl (same, omega arith, omega arith)))

  -- the measure falls with each step of a recovery that does not lock
  pub recover_falls : (owner : ℕ) (room : buffers.Buffer 128) (stage : RecoverStage) → RecoverStands c stage → StepFalls (recovering owner room stage)
  recover_falls owner room recovers.LoadsCounter stands = go (now == locked) refl (nat_lt 0 c) refl
    where
      -- the cases are whether the counter is locked and whether there is a place
      go : (t : Bool) → (now == locked) ≡ t → (u : Bool) → nat_lt 0 c ≡ u → StepFalls (recovering owner room recovers.LoadsCounter)
      go true lock_test u index_test = rw lock_test (inl (load_leaves words 0, omega arith, omega arith))
      go false lock_test true index_test = rw (lock_test, index_test) (inl (load_leaves words 0, omega arith, omega arith))
      go false lock_test false index_test = rw (lock_test, index_test) (inl (load_leaves words 0, omega arith, omega arith))
  recover_falls owner room (recovers.LoadsCell index) stands =
      by_bool (get_or words (cell_word index) 0 == owner)
      (λ t. rw t (inl (load_leaves words (cell_word index), omega arith, omega arith)))
      (λ t.
      rw t (recover_comes 1 index owner room room (recovers.LoadsCell index) (load_leaves words (cell_word index))
      (omega arith) (omega arith)))
  recover_falls owner room (recovers.LoadsCount index) stands = go (is_even (stands_at index)) refl (nat_lt index c) refl
    where
      -- the cases are whether the count that stands there is even and whether the index is within the capacity
      go : (t : Bool) → is_even (stands_at index) ≡ t → (u : Bool) → nat_lt index c ≡ u → StepFalls (recovering owner room (recovers.LoadsCount index))
      go true even_test u index_test = rw even_test (inl (load_leaves words (count_word c index), omega arith, omega arith))
      go false even_test true index_test =
          let self = same_is (stands_at index) in
          rw even_test (inl (load_leaves words (count_word c index), rw (index_test, self) (omega arith), omega arith))
      go false even_test false index_test = rw even_test (inl (load_leaves words (count_word c index), rw index_test (omega arith), omega arith))
  recover_falls owner room (recovers.LoadsWord index count at) stands =
      by_bool (nat_lt (at + 1) code.size)
      (λ t.
      let less : at + 1 < code.size = grind (arith, nat_tests) in
      rw t (inl (load_leaves words _, omega arith, omega arith)))
      (λ t. rw t (inl (load_leaves words _, omega arith, omega arith)))
  recover_falls owner room (recovers.ChecksCount index count) stands =
      go (stands_at index == count) refl (is_even (stands_at index)) refl
    where
      stage : RecoverStage
      stage = recovers.ChecksCount index count

      inside : nat_lt index c ≡ true
      inside = grind (arith, nat_tests)

      -- the cases are whether the count is still what was read and whether the count that stands there is even
      go : (t : Bool) → (stands_at index == count) ≡ t → (u : Bool) → is_even (stands_at index) ≡ u → StepFalls (recovering owner room stage)
      go true number_test u even_test =
          let same = check_leaves words (count_word c index) count in
          rw number_test (inl (rw number_test at same, omega arith, omega arith))
      go false number_test true even_test = rw (number_test, even_test) (inl (load_leaves words (count_word c index), omega arith, omega arith))
      go false number_test false even_test =
          let self = same_is (stands_at index) in
          rw (number_test, even_test) (inl (load_leaves words (count_word c index), rw (inside, number_test, even_test, self) (omega arith), omega arith))
  recover_falls owner room (recovers.Asks index count) stands =
      recover_comes 0 index owner room room (recovers.Asks index count) refl (omega arith) (omega arith)
  recover_falls owner room (recovers.EmptiesCell index count) stands =
      go (get_or words (cell_word index) 0 == owner) refl (is_even count) refl
    where
      -- the cases are whether the cell has the owner and whether the count is even (nothing stands there)
      go : (t : Bool) → (get_or words (cell_word index) 0 == owner) ≡ t → (u : Bool) → is_even count ≡ u
          → StepFalls (recovering owner room (recovers.EmptiesCell index count))
      go true owner_test true even_test =
          rw (owner_test, even_test) (inr (omega arith, inl (cell_leaves code.size c words index empty (omega arith), omega arith)))
      go true owner_test false even_test =
          rw (owner_test, even_test) (inr (omega arith, inl (cell_leaves code.size c words index empty (omega arith), omega arith)))
      go false owner_test u even_test =
          rw owner_test (recover_comes 1 index owner room room (recovers.EmptiesCell index count) (load_leaves words (cell_word index))
          (omega arith) (omega arith))
  recover_falls owner room (recovers.Hides index count) stands =
      inr (omega arith, inl (hide_leaves code.size c words index count stands, omega arith))
  recover_falls owner room (recovers.Raises index raises.LoadsCounter) stands = go (now == locked) refl (now == greatest) refl
    where
      stage : RecoverStage
      stage = recovers.Raises index raises.LoadsCounter

      -- the cases are whether the counter is locked and whether the counter is at its end
      go : (t : Bool) → (now == locked) ≡ t → (u : Bool) → (now == greatest) ≡ u → StepFalls (recovering owner room stage)
      go true lock_test u end_test = rw lock_test (inl (load_leaves words 0, omega arith, omega arith))
      go false lock_test true end_test =
          rw (lock_test, end_test) (recover_comes 1 index owner room room stage (load_leaves words 0) (omega arith) (omega arith))
      go false lock_test false end_test = let self = same_is now in rw (lock_test, end_test) (inl (load_leaves words 0, rw self (omega arith), omega arith))
  recover_falls owner room (recovers.Raises index (raises.ExchangesCounter counter)) stands =
      go (now == counter) refl (now == locked) refl (now == greatest) refl (nat_lt (index + 1) c) refl
    where
      stage : RecoverStage
      stage = recovers.Raises index (raises.ExchangesCounter counter)

      -- the cases are whether the counter is still what was read, whether the counter is locked, whether the counter is
      -- at its end and whether a further index follows
      go : (s : Bool) → (now == counter) ≡ s → (t : Bool) → (now == locked) ≡ t → (u : Bool) → (now == greatest) ≡ u
          → (v : Bool) → nat_lt (index + 1) c ≡ v → StepFalls (recovering owner room stage)
      go true counter_test t lock_test u end_test true next_test =
          let less : index + 1 < c = grind (arith, nat_tests) in
          let fewer_behind = behind_next c (code.size - 1 + 8) index less in
          rw (counter_test, next_test) (inr (rw counter_test (omega arith), inr (omega arith)))
      go true counter_test t lock_test u end_test false next_test = rw (counter_test, next_test) (inr (rw counter_test (omega arith), inr (omega arith)))
      go false counter_test true lock_test u end_test v next_test =
          rw (counter_test, lock_test) (inl (load_leaves words 0, rw counter_test (omega arith), omega arith))
      go false counter_test false lock_test true end_test v next_test =
          rw (counter_test, lock_test, end_test)
          (recover_comes 1 index owner room room stage (load_leaves words 0) (rw counter_test (omega arith)) (omega arith))
      go false counter_test false lock_test false end_test v next_test = let self = same_is now in
          rw (counter_test, lock_test, end_test) (inl (load_leaves words 0, rw (self, counter_test) (omega arith), omega arith))
  recover_falls owner room (recovers.Locks index lock) stands = absurd stands
  recover_falls owner room recovers.LoadsCounterAgain stands = go (now == locked)
    where
      -- the measure falls alike whether the counter is locked or not
      go : (t : Bool) → StepFalls (recovering owner room recovers.LoadsCounterAgain)
      go t = inl (load_leaves words 0, omega arith, omega arith)
  recover_falls owner room (recovers.AddsChange end) stands = tt

  -- ---- a look

  -- the look of this kind, whose party has the state `state`
  module _ (which : LookOf) (state : ContainerState T) where
    -- the measure falls with the step that the look takes from its stage, where its party has this state
    abbrev LookFalls : LookStage → Type 0
    LookFalls stage = StepFallsWith code c words (Some state) (look_at which c stage)

    -- the measure falls as a look comes past `index`, to the next index or to its end
    look_comes : {new : List ℕ} (steps index : ℕ) (shown : ContainerState T) (stage : LookStage) → new ≡ words
        → behind code.size c (code.size - 1 + 3) index + steps ≤ look_left code.size c words stage + 1
        → FallsIn (M code c words) words new steps (flights.Container (look_at which c stage))
        (any_call code c words (look_came which shown (look_comes_to (record { capacity = c; stage = stage; of = record {} }) (index + 1))))
    look_comes steps index shown stage same enough =
        by_bool (nat_lt (index + 1) c)
        (λ u.
        let less : index + 1 < c = grind (arith, nat_tests) in
        let fewer_behind = behind_next c (code.size - 1 + 3) index less in
        rw u (inl (same, omega arith, omega arith)))
        (λ u. rw u tt)

    -- the measure falls with each step of a look whose party has a state
    pub look_falls : (stage : LookStage) → LookStands c stage → LookFalls stage
    look_falls looks.LoadsChange stands = go (get_or words (1 + c) 0 == state.seen.change) refl (nat_lt 0 c) refl
      where
        -- the cases are whether the change counter is what the last look saw and whether there is a place
        go : (t : Bool) → (get_or words (1 + c) 0 == state.seen.change) ≡ t → (u : Bool) → nat_lt 0 c ≡ u → LookFalls looks.LoadsChange
        go true change_test u index_test = rw change_test tt
        go false change_test true index_test = rw (change_test, index_test) (inl (load_leaves words (1 + c), omega arith, omega arith))
        go false change_test false index_test = rw (change_test, index_test) tt
    look_falls (looks.LoadsCount index) stands =
        go (stands_at index == slice_index_or state.seen.counts index 0) refl (is_even (stands_at index)) refl
      where
        stage : LookStage
        stage = looks.LoadsCount index

        inside : nat_lt index c ≡ true
        inside = grind (arith, nat_tests)

        -- the cases are whether the count is what the last look saw and whether the count that stands there is even
        go : (t : Bool) → (stands_at index == slice_index_or state.seen.counts index 0) ≡ t → (u : Bool) → is_even (stands_at index) ≡ u → LookFalls stage
        go true seen_test u even_test = rw seen_test (look_comes 1 index _ stage (load_leaves words (count_word c index)) (omega arith))
        go false seen_test true even_test = rw (seen_test, even_test) (look_comes 1 index _ stage (load_leaves words (count_word c index)) (omega arith))
        go false seen_test false even_test =
            let self = same_is (stands_at index) in
            rw (seen_test, even_test) (inl (load_leaves words (count_word c index), rw (inside, self) (omega arith), omega arith))
    look_falls (looks.LoadsWord index count at) stands =
        by_bool (nat_lt (at + 1) code.size)
        (λ t.
        let less : at + 1 < code.size = grind (arith, nat_tests) in
        rw t (inl (load_leaves words _, omega arith, omega arith)))
        (λ t. rw t (inl (load_leaves words _, omega arith, omega arith)))
    look_falls (looks.ChecksCount index count) at = go (stands_at index == count) refl (is_even (stands_at index)) refl
      where
        stage : LookStage
        stage = looks.ChecksCount index count

        inside : nat_lt index c ≡ true
        inside = grind (arith, nat_tests)

        -- the cases are whether the count is still what was read and whether the count that stands there is even
        go : (t : Bool) → (stands_at index == count) ≡ t → (u : Bool) → is_even (stands_at index) ≡ u → LookFalls stage
        go true number_test u even_test =
            let same = check_leaves words (count_word c index) count in
            rw number_test (look_comes 1 index _ stage (rw number_test at same) (omega arith))
        go false number_test true even_test = rw (number_test, even_test) (look_comes 1 index _ stage (load_leaves words (count_word c index)) (omega arith))
        go false number_test false even_test =
            let self = same_is (stands_at index) in
            rw (number_test, even_test) (inl (load_leaves words (count_word c index), rw (inside, number_test, even_test, self) (omega arith), omega arith))

  -- ---- a call on the length

  -- the measure falls with each step of a call on the length
  pub count_falls : (which : CountOf) (count : Count) → StepFalls (count_at which c count)
  count_falls which counts.LoadsCounter = go (now == locked) refl (nat_lt 0 c) refl (now == greatest) refl
    where
      -- the cases are whether the counter is locked, whether there is a place and whether the counter is at its end
      go : (t : Bool) → (now == locked) ≡ t → (u : Bool) → nat_lt 0 c ≡ u → (v : Bool) → (now == greatest) ≡ v
          → StepFalls (count_at which c counts.LoadsCounter)
      go true lock_test u index_test v end_test = rw lock_test tt
      go false lock_test true index_test v end_test = let self = same_is now in
          rw (lock_test, index_test) (inl (load_leaves words 0, rw self (omega arith), omega arith))
      go false lock_test false index_test true end_test = rw (lock_test, index_test, end_test) tt
      go false lock_test false index_test false end_test = let self = same_is now in
          rw (lock_test, index_test, end_test) (inl (load_leaves words 0, rw self (omega arith), omega arith))
  count_falls which (counts.LoadsCell counter index filled) =
      go (nat_lt (index + 1) c) refl (counter == greatest) refl (now == counter) refl
    where
      -- the cases are whether a further index follows, whether the counter that was read is at its end and whether the counter is still what was read
      go : (u : Bool) → nat_lt (index + 1) c ≡ u → (v : Bool) → (counter == greatest) ≡ v → (t : Bool) → (now == counter) ≡ t
          → StepFalls (count_at which c (counts.LoadsCell counter index filled))
      go true next_test v end_test true counter_test =
          let less : index + 2 ≤ c = grind (arith, nat_tests) in
          rw next_test (inl (load_leaves words (cell_word index), rw counter_test (omega arith), omega arith))
      go true next_test v end_test false counter_test =
          let less : index + 2 ≤ c = grind (arith, nat_tests) in
          rw next_test (inl (load_leaves words (cell_word index), rw counter_test (omega arith), omega arith))
      go false next_test true end_test t counter_test = rw (next_test, end_test) tt
      go false next_test false end_test true counter_test =
          rw (next_test, end_test) (inl (load_leaves words (cell_word index), rw counter_test (omega arith), omega arith))
      go false next_test false end_test false counter_test =
          rw (next_test, end_test) (inl (load_leaves words (cell_word index), rw counter_test (omega arith), omega arith))
  count_falls which (counts.ExchangesCounter counter filled) =
      by_bool (now == counter)
      (λ t. rw t tt)
      (λ t. rw t (inl (load_leaves words 0, rw t (omega arith), omega arith)))
