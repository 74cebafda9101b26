-- A measure of the calls of a robust index set that do not lock. It falls with each step and each decision of them.
use Rattle.std.proofs.Common.{◌≡◌, ℕ, ◌+◌, ◌-◌, ◌*◌, ◌≤◌, ◌==◌, inl, inr, nat_lt, Bool, true, false, cond}
use Rattle.std.proofs.Common.{List, get_or, set, get_or-set_other, refl, sym, subst, arith}
use Rattle.std.proofs.lemmas.Bool.Decides.{nat_tests}
use Rattle.steps.specs.Indices.Robust.Acquire.{acquire_sees, Acquired}
use Rattle.steps.specs.Indices.Robust.Parts.{cell_word, empty, locked, greatest}
use Rattle.steps.specs.Indices.Robust.Recover.{recover_comes_to}
use Rattle.steps.specs.Routine.{went_on}
use Rattle.steps.specs.declared.ask.After.{After}
use Rattle.steps.specs.declared.indices.enums.ReleaseMode.TheVariants.{Default}
use Rattle.steps.specs.declared.indices.robust.acquire.Acquire as acquiring
use Rattle.steps.specs.declared.indices.robust.acquire.AcquireStage.{AcquireStage}
use Rattle.steps.specs.declared.indices.robust.acquire.AcquireStage.TheVariants as acquires
use Rattle.steps.specs.declared.indices.robust.find.FindStage.{FindStage}
use Rattle.steps.specs.declared.indices.robust.find.FindStage.TheVariants as finds
use Rattle.steps.specs.declared.indices.robust.parts.Count.{Count}
use Rattle.steps.specs.declared.indices.robust.parts.Count.TheVariants as counts
use Rattle.steps.specs.declared.indices.robust.parts.Raise.{Raise}
use Rattle.steps.specs.declared.indices.robust.parts.Raise.TheVariants as raises
use Rattle.steps.specs.declared.indices.robust.recover.RecoverStage.{RecoverStage}
use Rattle.steps.specs.declared.indices.robust.recover.RecoverStage.TheVariants as recovers
use Rattle.steps.specs.declared.indices.robust.release.ReleaseStage.{ReleaseStage}
use Rattle.steps.specs.declared.indices.robust.release.ReleaseStage.TheVariants as releases
use Rattle.model.specs.declared.event.Answer.{Answer}
use Rattle.model.specs.declared.event.Answer.TheVariants as answers
use Rattle.model.specs.declared.event.Start.{Start}
use Rattle.model.specs.declared.event.Start.TheVariants as starts
use Rattle.model.specs.declared.families.Flight.{Flight}
use Rattle.model.specs.declared.families.Flight.TheVariants as flights
use Rattle.model.specs.declared.families.Registry.{Registry}
use Rattle.model.specs.declared.families.Registry.TheVariants as registries
use Rattle.model.specs.declared.families.indices.robust.calls.RobustFlight.{RobustFlight}
use Rattle.model.specs.declared.families.indices.robust.calls.RobustFlight.TheVariants as calls
use Rattle.model.specs.declared.turn.Kind.TheVariants as kinds
use Rattle.model.specs.Coding.{Coding}
use Rattle.model.specs.Families.{want_of, after_of, is_question}
use Rattle.model.specs.Families.Indices.Robust.Calls.{acquire_answer}
use Rattle.model.specs.Families.Queues.Calls.{as_it_is}
use Rattle.model.specs.LockFree.{IsDefault}
use Rattle.model.specs.Step.{as_call}
use Rattle.model.specs.Turns.{number_of}
use Rattle.model.proofs.LockFree.Falls.{same_is, load_leaves, LeavesAll, FallsIn, StepFalls}
use Rattle.model.proofs.LockFree.Measure.{WordMeasure}
use Rattle.model.proofs.LockFree.Own.{Outline}
use Rattle.lemmas.proofs.Cases.{by_bool}

-- ---- how many steps a call takes at most before its last one, while the counter stays at `now`

abbrev pub raise_left : ℕ → Raise → ℕ
raise_left now raises.LoadsCounter = 1
raise_left now (raises.ExchangesCounter counter) = cond (now == counter) 0 1

module _ (c : ℕ) where
  -- the steps that an acquire has left at most before its last
  abbrev pub acquire_left : ℕ → AcquireStage → ℕ
  acquire_left now acquires.LoadsCounter = c - 1 + 3
  acquire_left now (acquires.FillsCell counter index) = cond (now == counter) (c - (index + 1) + 2) (c - (index + 1) + (c - 1) + 4)
  acquire_left now (acquires.ChecksCounter counter) = cond (now == counter) 0 (c - 1 + 3)
  acquire_left now (acquires.Raises index raise) = raise_left now raise

  abbrev pub find_left : FindStage → ℕ
  find_left (finds.LoadsCell index found) = c - (index + 1) + 1
  find_left (finds.Asks index found) = c - (index + 1)

  -- the steps that a recovery that does not lock has left at most before its last
  abbrev pub recover_left : ℕ → RecoverStage → ℕ
  recover_left now recovers.LoadsCounter = 4 * (c - 1) + 5
  recover_left now (recovers.LoadsCell index) = 4 * (c - (index + 1)) + 4
  recover_left now (recovers.Asks index owner) = 4 * (c - (index + 1)) + 3
  recover_left now (recovers.EmptiesCell index owner) = 4 * (c - (index + 1)) + 3
  recover_left now (recovers.Raises index raise) = 4 * (c - (index + 1)) + 1 + raise_left now raise
  recover_left now (recovers.Locks index lock) = 0
  recover_left now recovers.LoadsCounterAgain = 0

  abbrev pub count_left : ℕ → Count → ℕ
  count_left now counts.LoadsCounter = c - 1 + 2
  count_left now (counts.LoadsCell counter index filled) = cond (now == counter) (c - (index + 1) + 1) (c - (index + 1) + (c - 1) + 4)
  count_left now (counts.ExchangesCounter counter filled) = cond (now == counter) 0 (c - 1 + 3)

  -- ---- how many changes it makes at most before its last step that can add to the steps of others

  -- a recovery raises the counter once for each index
  abbrev pub recover_pays : RecoverStage → ℕ
  recover_pays recovers.LoadsCounter = c - 1 + 1
  recover_pays (recovers.LoadsCell index) = c - (index + 1) + 1
  recover_pays (recovers.Asks index owner) = c - (index + 1) + 1
  recover_pays (recovers.EmptiesCell index owner) = c - (index + 1) + 1
  recover_pays (recovers.Raises index raise) = c - (index + 1) + 1
  recover_pays (recovers.Locks index lock) = 0
  recover_pays recovers.LoadsCounterAgain = 0

  abbrev pub release_left : ℕ → ReleaseStage → ℕ
  release_left now releases.EmptiesCell = 2
  release_left now (releases.Raises raise) = raise_left now raise
  release_left now (releases.Locks lock) = 0

  -- the steps that any call that does not lock has left at most before its last
  abbrev pub call_left : ℕ → RobustFlight → ℕ
  call_left now (calls.Acquire run) = acquire_left now run.call.stage
  call_left now (calls.Release run) = release_left now run.call.stage
  call_left now (calls.Find run) = find_left run.call.stage
  call_left now (calls.Recover run) = recover_left now run.call.stage
  call_left now (calls.BorrowedIndices run) = count_left now run.call.count
  call_left now (calls.IsLocked run) = 0

  abbrev pub call_pays : RobustFlight → ℕ
  call_pays (calls.Recover run) = recover_pays run.call.stage
  call_pays flight = 0

-- ---- where a call stands that does not lock

abbrev pub ReleaseStands : ReleaseStage → Type 0
ReleaseStands (releases.Locks lock) = ⊥
ReleaseStands stage = Unit {0}

abbrev pub RecoverStands : RecoverStage → Type 0
RecoverStands (recovers.Locks index lock) = ⊥
RecoverStands stage = Unit {0}

-- any call of the set that does not lock, of this capacity
abbrev pub CallStands : ℕ → RobustFlight → Type 0
CallStands c (calls.Acquire run) = run.call.capacity ≡ c
CallStands c (calls.Release run) = (run.call.capacity ≡ c) × (run.given.mode ≡ Default) × ReleaseStands run.call.stage
CallStands c (calls.Find run) = run.call.capacity ≡ c
CallStands c (calls.Recover run) = (run.call.capacity ≡ c) × (run.given ≡ Default) × RecoverStands run.call.stage
CallStands c (calls.BorrowedIndices run) = run.call.capacity ≡ c
CallStands c (calls.IsLocked run) = Unit {0}

-- the call is a find or a recovery, which alone ask questions
abbrev pub is_looking : RobustFlight → Bool
is_looking (calls.Find run) = true
is_looking (calls.Recover run) = true
is_looking flight = false

-- the calls by their stages
abbrev pub acquire_at : ℕ → ℕ → AcquireStage → RobustFlight
acquire_at c owner stage = calls.Acquire (record { call = record { capacity = c; stage = stage }; given = owner; room = tt })

abbrev pub release_at : ℕ → ℕ → ℕ → ReleaseStage → RobustFlight
release_at c index owner stage =
    calls.Release
    (record { call = record { capacity = c; stage = stage }; given = record { index = index; owner = owner; mode = Default }; room = tt })

abbrev pub find_at : ℕ → ℕ → FindStage → RobustFlight
find_at c owner stage = calls.Find (record { call = record { capacity = c; stage = stage }; given = owner; room = tt })

abbrev pub recover_at : ℕ → RecoverStage → RobustFlight
recover_at c stage = calls.Recover (record { call = record { capacity = c; stage = stage }; given = Default; room = tt })

abbrev pub borrowed_at : ℕ → Count → RobustFlight
borrowed_at c count = calls.BorrowedIndices (record { call = record { capacity = c; count = count }; given = tt; room = tt })

module _ {T : Type 0} where
  abbrev pub left_at : ℕ → ℕ → Flight T → ℕ
  left_at c now (flights.Robust flight) = call_left c now flight
  left_at c now flight = 0

  abbrev pub pays : ℕ → Flight T → ℕ
  pays c (flights.Robust flight) = call_pays c flight
  pays c flight = 0

  abbrev pub measure : ℕ → WordMeasure T
  measure c = record { left = λ words flight. left_at c (get_or words 0 0) flight; pays = pays c; alone = 4 * c + 1; changes = c }

  -- the begin and the call are of a robust index set, and `Stands` holds of the call
  abbrev pub AreOfSet : (RobustFlight → Type 0) → Start T → Flight T → Type 0
  AreOfSet Stands (starts.Robust start) (flights.Robust flight) = Stands flight
  AreOfSet Stands start flight = ⊥

  -- the call is one of a robust index set, at a stage where the measure needs it
  abbrev pub At : Coding T → ℕ → Start T → Flight T → Type 0
  At code c start flight = AreOfSet (CallStands c) start flight

  abbrev pub Kept : Registry T → Type 0
  Kept (registries.Owners dead) = Unit {0}
  Kept kept = ⊥

  -- the calls that do not lock, with their measure, as the proof of lock-freedom asks for them
  abbrev pub outline : Outline T
  outline =
      record {
        kind = kinds.Robust;
        Such = IsDefault;
        Kept = Kept;
        At = At;
        Known = λ p kept flight. Unit {0};
        measure = λ code c. measure c;
      }

-- ---- the measure falls with each step

module _ {T : Type 0} (code : Coding T) (c : ℕ) (words : List ℕ) where
  abbrev pub M : WordMeasure T
  M = measure c

  -- the measure falls with the next step of this call
  abbrev pub NextStepFalls : RobustFlight → Type 0
  NextStepFalls flight = StepFalls M code words (flights.Robust flight)

  abbrev pub now : ℕ
  now = get_or words 0 0

  -- a change of a cell raises no call's measure
  cell_leaves : (index new : ℕ) → LeavesAll M words (set words (cell_word index) new)
  cell_leaves index new other =
      let same : get_or (set words (cell_word index) new) 0 0 ≡ now = get_or-set_other words (cell_word index) 0 new 0 (λ e. absurd (omega arith)) in
      rw same (omega arith)

  -- ---- an acquire

  abbrev pub as_acquire : After acquiring.Acquire Acquired → ℕ → After (Flight T) (Answer T)
  as_acquire after owner =
      as_call flights.Robust (λ answer. answer)
      (as_call calls.Acquire acquire_answer (went_on as_it_is owner tt after))

  -- the measure falls with the step in which an acquire sees the counter, at a stage with steps enough left
  acquire_sees_falls : {new : List ℕ} (owner : ℕ) (stage : AcquireStage) → new ≡ words
      → c - 1 + 3 ≤ acquire_left c now stage
      → FallsIn M words new 1 (flights.Robust (acquire_at c owner stage))
      (as_acquire (acquire_sees (record { capacity = c; stage = stage }) now) owner)
  acquire_sees_falls {new = new} owner stage same enough = go (now == locked) refl (now == greatest) refl (nat_lt 0 c) refl
    where
      -- the cases are whether the counter is locked, whether it is at its end, and whether there is a place
      go : (t : Bool) → (now == locked) ≡ t → (u : Bool) → (now == greatest) ≡ u → (v : Bool) → nat_lt 0 c ≡ v
          → FallsIn M words new 1 (flights.Robust (acquire_at c owner stage))
          (as_acquire (acquire_sees (record { capacity = c; stage = stage }) now) owner)
      go true is_locked u end_test v cells_test = rw is_locked tt
      go false not_locked true at_end v cells_test = rw (not_locked, at_end) tt
      go false not_locked false below_end true has_cells =
          let self = same_is now in rw (not_locked, below_end, has_cells) (inl (same, rw self (omega arith), omega arith))
      go false not_locked false below_end false no_cells =
          let self = same_is now in rw (not_locked, below_end, no_cells) (inl (same, rw self (omega arith), omega arith))

  -- the measure falls with each step of an acquire
  acquire_falls : (owner : ℕ) (stage : AcquireStage) → NextStepFalls (acquire_at c owner stage)
  acquire_falls owner acquires.LoadsCounter =
      acquire_sees_falls owner acquires.LoadsCounter (load_leaves words 0) (omega arith)
  acquire_falls owner (acquires.FillsCell counter index) =
      go (get_or words (cell_word index) 0 == empty) refl (nat_lt (index + 1) c) refl (now == counter) refl
    where
      stage : AcquireStage
      stage = acquires.FillsCell counter index

      -- the cases are whether the cell is empty, whether a further index follows, and whether the counter is
      -- still what was read
      go : (t : Bool) → (get_or words (cell_word index) 0 == empty) ≡ t → (u : Bool) → nat_lt (index + 1) c ≡ u
          → (v : Bool) → (now == counter) ≡ v → NextStepFalls (acquire_at c owner stage)
      go true cell_empty u next_test true unmoved = rw cell_empty (inr (rw unmoved (omega arith), inl (cell_leaves index owner, omega arith)))
      go true cell_empty u next_test false moved = rw cell_empty (inr (rw moved (omega arith), inl (cell_leaves index owner, omega arith)))
      go false cell_filled true has_next true unmoved =
          let less : index + 2 ≤ c = grind (arith, nat_tests) in
          rw (cell_filled, has_next) (inl (load_leaves words (cell_word index), rw unmoved (omega arith), omega arith))
      go false cell_filled true has_next false moved =
          let less : index + 2 ≤ c = grind (arith, nat_tests) in
          rw (cell_filled, has_next) (inl (load_leaves words (cell_word index), rw moved (omega arith), omega arith))
      go false cell_filled false is_last true unmoved =
          rw (cell_filled, is_last) (inl (load_leaves words (cell_word index), rw unmoved (omega arith), omega arith))
      go false cell_filled false is_last false moved =
          rw (cell_filled, is_last) (inl (load_leaves words (cell_word index), rw moved (omega arith), omega arith))
  acquire_falls owner (acquires.ChecksCounter counter) =
      by_bool (now == counter) (λ unmoved. rw unmoved tt)
      (λ moved. rw moved (acquire_sees_falls owner (acquires.ChecksCounter counter) (load_leaves words 0) (rw moved (omega arith))))
  acquire_falls owner (acquires.Raises index raises.LoadsCounter) = go (now == locked) refl (now == greatest) refl
    where
      -- the cases are whether the counter is locked and whether the counter is at its end
      go : (t : Bool) → (now == locked) ≡ t → (u : Bool) → (now == greatest) ≡ u
          → NextStepFalls (acquire_at c owner (acquires.Raises index raises.LoadsCounter))
      go true is_locked u end_test = rw is_locked tt
      go false not_locked true at_end = rw (not_locked, at_end) tt
      go false not_locked false below_end = let self = same_is now in rw (not_locked, below_end) (inl (load_leaves words 0, rw self (omega arith), omega arith))
  acquire_falls owner (acquires.Raises index (raises.ExchangesCounter counter)) =
      go (now == counter) refl (now == locked) refl (now == greatest) refl
    where
      -- the cases are whether the counter is still what was read, whether it is locked, and
      -- whether it is at its end
      go : (s : Bool) → (now == counter) ≡ s → (t : Bool) → (now == locked) ≡ t → (u : Bool) → (now == greatest) ≡ u
          → NextStepFalls (acquire_at c owner (acquires.Raises index (raises.ExchangesCounter counter)))
      go true unmoved t locked_test u end_test = rw unmoved tt
      go false moved true is_locked u end_test = rw (moved, is_locked) tt
      go false moved false not_locked true at_end = rw (moved, not_locked, at_end) tt
      go false moved false not_locked false below_end =
          let self = same_is now in rw (moved, not_locked, below_end) (inl (load_leaves words 0, rw (self, moved) (omega arith), omega arith))

  -- ---- a release

  -- the measure falls with each step of a release that does not lock
  release_falls : (index owner : ℕ) (stage : ReleaseStage) → ReleaseStands stage → NextStepFalls (release_at c index owner stage)
  release_falls index owner releases.EmptiesCell stands =
      by_bool (get_or words (cell_word index) 0 == owner) (λ is_owners. rw is_owners (inr (omega arith, inl (cell_leaves index empty, omega arith))))
      (λ not_owners. rw not_owners tt)
  release_falls index owner (releases.Raises raises.LoadsCounter) stands = go (now == locked) refl (now == greatest) refl
    where
      -- the cases are whether the counter is locked and whether the counter is at its end
      go : (t : Bool) → (now == locked) ≡ t → (u : Bool) → (now == greatest) ≡ u
          → NextStepFalls (release_at c index owner (releases.Raises raises.LoadsCounter))
      go true is_locked u end_test = rw is_locked tt
      go false not_locked true at_end = rw (not_locked, at_end) tt
      go false not_locked false below_end = let self = same_is now in rw (not_locked, below_end) (inl (load_leaves words 0, rw self (omega arith), omega arith))
  release_falls index owner (releases.Raises (raises.ExchangesCounter counter)) stands =
      go (now == counter) refl (now == locked) refl (now == greatest) refl
    where
      -- the cases are whether the counter is still what was read, whether it is locked, and
      -- whether it is at its end
      go : (s : Bool) → (now == counter) ≡ s → (t : Bool) → (now == locked) ≡ t → (u : Bool) → (now == greatest) ≡ u
          → NextStepFalls (release_at c index owner (releases.Raises (raises.ExchangesCounter counter)))
      go true unmoved t locked_test u end_test = rw unmoved tt
      go false moved true is_locked u end_test = rw (moved, is_locked) tt
      go false moved false not_locked true at_end = rw (moved, not_locked, at_end) tt
      go false moved false not_locked false below_end =
          let self = same_is now in rw (moved, not_locked, below_end) (inl (load_leaves words 0, rw (self, moved) (omega arith), omega arith))
  release_falls index owner (releases.Locks lock) stands = absurd stands

  -- ---- a find

  -- the measure falls with each step of a find
  find_falls : (owner : ℕ) (stage : FindStage) → NextStepFalls (find_at c owner stage)
  find_falls owner (finds.LoadsCell index found) = go (get_or words (cell_word index) 0 == owner) refl (nat_lt (index + 1) c) refl
    where
      -- the cases are whether the cell has the owner and whether a further index follows
      go : (t : Bool) → (get_or words (cell_word index) 0 == owner) ≡ t → (u : Bool) → nat_lt (index + 1) c ≡ u
          → NextStepFalls (find_at c owner (finds.LoadsCell index found))
      go true is_owners u next_test = rw is_owners (inl (load_leaves words (cell_word index), omega arith, omega arith))
      go false not_owners true has_next =
          let less : index + 2 ≤ c = grind (arith, nat_tests) in
          rw (not_owners, has_next) (inl (load_leaves words (cell_word index), omega arith, omega arith))
      go false not_owners false is_last = rw (not_owners, is_last) tt
  find_falls owner (finds.Asks index found) = tt

  -- ---- a number of borrowed indices

  -- the measure falls with each step of a count
  borrowed_falls : (count : Count) → NextStepFalls (borrowed_at c count)
  borrowed_falls counts.LoadsCounter = go (now == locked) refl (nat_lt 0 c) refl (now == greatest) refl
    where
      -- the cases are whether the counter is locked, whether there is a place, and whether the
      -- counter is at its end
      go : (t : Bool) → (now == locked) ≡ t → (u : Bool) → nat_lt 0 c ≡ u → (v : Bool) → (now == greatest) ≡ v
          → NextStepFalls (borrowed_at c counts.LoadsCounter)
      go true is_locked u cells_test v end_test = rw is_locked tt
      go false not_locked true has_cells v end_test =
          let self = same_is now in rw (not_locked, has_cells) (inl (load_leaves words 0, rw self (omega arith), omega arith))
      go false not_locked false no_cells true at_end = rw (not_locked, no_cells, at_end) tt
      go false not_locked false no_cells false below_end =
          let self = same_is now in rw (not_locked, no_cells, below_end) (inl (load_leaves words 0, rw self (omega arith), omega arith))
  borrowed_falls (counts.LoadsCell counter index filled) = go (nat_lt (index + 1) c) refl (counter == greatest) refl (now == counter) refl
    where
      -- the cases are whether a further index follows, whether the counter that was read was at its end, and
      -- whether it still stands
      go : (u : Bool) → nat_lt (index + 1) c ≡ u → (v : Bool) → (counter == greatest) ≡ v → (t : Bool) → (now == counter) ≡ t
          → NextStepFalls (borrowed_at c (counts.LoadsCell counter index filled))
      go true has_next v end_test true unmoved =
          let less : index + 2 ≤ c = grind (arith, nat_tests) in
          rw has_next (inl (load_leaves words (cell_word index), rw unmoved (omega arith), omega arith))
      go true has_next v end_test false moved =
          let less : index + 2 ≤ c = grind (arith, nat_tests) in
          rw has_next (inl (load_leaves words (cell_word index), rw moved (omega arith), omega arith))
      go false is_last true at_end t moved_test = rw (is_last, at_end) tt
      go false is_last false below_end true unmoved = rw (is_last, below_end) (inl (load_leaves words (cell_word index), rw unmoved (omega arith), omega arith))
      go false is_last false below_end false moved = rw (is_last, below_end) (inl (load_leaves words (cell_word index), rw moved (omega arith), omega arith))
  borrowed_falls (counts.ExchangesCounter counter filled) =
      by_bool (now == counter) (λ unmoved. rw unmoved tt)
      (λ moved. rw moved (inl (load_leaves words 0, rw moved (omega arith), omega arith)))

  -- ---- a recovery

  -- a step after which a recovery comes to the next index, or to its last step, falls
  comes_fall : {new : List ℕ} (steps index : ℕ) (stage : RecoverStage) → new ≡ words → steps ≤ 1
      → 4 * (c - (index + 1)) + steps ≤ recover_left c now stage → c - (index + 1) ≤ recover_pays c stage
      → FallsIn M words new steps (flights.Robust (recover_at c stage))
      (as_call flights.Robust (λ answer. answer)
      (as_call calls.Recover answers.State
      (went_on as_it_is Default tt (recover_comes_to (record { capacity = c; stage = stage }) (index + 1)))))
  comes_fall steps index stage same one enough pays =
      by_bool (nat_lt (index + 1) c)
      (λ has_next.
      let less : index + 2 ≤ c = grind (arith, nat_tests) in
      rw has_next (inl (same, omega arith, omega arith)))
      (λ is_last. rw is_last (inl (same, omega arith, omega arith)))

  -- the measure falls with each step of a recovery that does not lock
  recover_falls : (stage : RecoverStage) → RecoverStands stage → NextStepFalls (recover_at c stage)
  recover_falls recovers.LoadsCounter stands = go (now == locked) refl (nat_lt 0 c) refl
    where
      -- the cases are whether the counter is locked and whether there is a place
      go : (t : Bool) → (now == locked) ≡ t → (u : Bool) → nat_lt 0 c ≡ u → NextStepFalls (recover_at c recovers.LoadsCounter)
      go true is_locked u cells_test = rw is_locked tt
      go false not_locked true has_cells = rw (not_locked, has_cells) (inl (load_leaves words 0, omega arith, omega arith))
      go false not_locked false no_cells = rw (not_locked, no_cells) (inl (load_leaves words 0, omega arith, omega arith))
  recover_falls (recovers.LoadsCell index) stands =
      by_bool (get_or words (cell_word index) 0 == empty)
      (λ cell_empty. rw cell_empty (comes_fall 1 index (recovers.LoadsCell index) (load_leaves words (cell_word index))
      (omega arith) (omega arith) (omega arith)))
      (λ cell_filled. rw cell_filled (inl (load_leaves words (cell_word index), omega arith, omega arith)))
  recover_falls (recovers.Asks index owner) stands =
      comes_fall 0 index (recovers.Asks index owner) refl (omega arith) (omega arith) (omega arith)
  recover_falls (recovers.EmptiesCell index owner) stands =
      by_bool (get_or words (cell_word index) 0 == owner) (λ is_owners. rw is_owners (inr (omega arith, inl (cell_leaves index empty, omega arith))))
      (λ not_owners. rw not_owners (comes_fall 1 index (recovers.EmptiesCell index owner) (load_leaves words (cell_word index))
      (omega arith) (omega arith) (omega arith)))
  recover_falls (recovers.Raises index raises.LoadsCounter) stands = go (now == locked) refl (now == greatest) refl
    where
      stage : RecoverStage
      stage = recovers.Raises index raises.LoadsCounter

      -- the cases are whether the counter is locked and whether the counter is at its end
      go : (t : Bool) → (now == locked) ≡ t → (u : Bool) → (now == greatest) ≡ u → NextStepFalls (recover_at c stage)
      go true is_locked u end_test = rw is_locked tt
      go false not_locked true at_end = rw (not_locked, at_end) (comes_fall 1 index stage (load_leaves words 0) (omega arith) (omega arith) (omega arith))
      go false not_locked false below_end = let self = same_is now in rw (not_locked, below_end) (inl (load_leaves words 0, rw self (omega arith), omega arith))
  recover_falls (recovers.Raises index (raises.ExchangesCounter counter)) stands =
      go (now == counter) refl (now == locked) refl (now == greatest) refl (nat_lt (index + 1) c) refl
    where
      stage : RecoverStage
      stage = recovers.Raises index (raises.ExchangesCounter counter)

      -- the cases are whether the counter is still what was read, whether it is locked, whether it is at its
      -- end, and whether an index follows
      go : (s : Bool) → (now == counter) ≡ s → (t : Bool) → (now == locked) ≡ t → (u : Bool) → (now == greatest) ≡ u
          → (v : Bool) → nat_lt (index + 1) c ≡ v → NextStepFalls (recover_at c stage)
      go true unmoved t locked_test u end_test true has_next =
          let less : index + 2 ≤ c = grind (arith, nat_tests) in
          rw (unmoved, has_next) (inr (rw unmoved (omega arith), inr (omega arith)))
      go true unmoved t locked_test u end_test false is_last = rw (unmoved, is_last) (inr (rw unmoved (omega arith), inr (omega arith)))
      go false moved true is_locked u end_test v next_test = rw (moved, is_locked) tt
      go false moved false not_locked true at_end v next_test =
          rw (moved, not_locked, at_end) (comes_fall 1 index stage (load_leaves words 0) (omega arith) (rw moved (omega arith)) (omega arith))
      go false moved false not_locked false below_end v next_test =
          let self = same_is now in rw (moved, not_locked, below_end) (inl (load_leaves words 0, rw (self, moved) (omega arith), omega arith))
  recover_falls (recovers.Locks index lock) stands = absurd stands
  recover_falls recovers.LoadsCounterAgain stands = tt

  -- the measure falls with each step of any call that does not lock
  pub call_falls : (flight : RobustFlight) → CallStands c flight → NextStepFalls flight
  call_falls (calls.Acquire run) at =
      rw at (acquire_falls run.given run.call.stage)
  call_falls (calls.Release run) at =
      rw (at.1, at.0) (release_falls run.given.index run.given.owner run.call.stage at.2)
  call_falls (calls.Find run) at = rw at (find_falls run.given run.call.stage)
  call_falls (calls.Recover run) at =
      rw (at.1, at.0) (recover_falls run.call.stage at.2)
  call_falls (calls.BorrowedIndices run) at =
      rw at (borrowed_falls run.call.count)
  call_falls (calls.IsLocked run) at = tt

  -- ---- a decision

  -- the measure of a find falls with a decision
  find_decides : (owner : ℕ) (stage : FindStage) (said : Bool) → is_question (want_of code (flights.Robust (find_at c owner stage))) ≡ true
      → FallsIn M words words 0 (flights.Robust (find_at c owner stage))
      (after_of code (flights.Robust (find_at c owner stage)) (number_of said))
  find_decides owner (finds.LoadsCell index found) said due = absurd (cc)
  find_decides owner (finds.Asks index found) true due =
      by_bool (nat_lt (index + 1) c)
      (λ has_next.
      let less : index + 2 ≤ c = grind (arith, nat_tests) in
      rw has_next (inl (refl, omega arith, omega arith)))
      (λ is_last. rw is_last tt)
  find_decides owner (finds.Asks index found) false due = tt

  -- the measure of a recovery that does not lock falls with a decision
  recover_decides : (stage : RecoverStage) (said : Bool) → RecoverStands stage
      → is_question (want_of code (flights.Robust (recover_at c stage))) ≡ true
      → FallsIn M words words 0 (flights.Robust (recover_at c stage))
      (after_of code (flights.Robust (recover_at c stage)) (number_of said))
  recover_decides recovers.LoadsCounter said stands due = absurd (cc)
  recover_decides (recovers.LoadsCell index) said stands due = absurd (cc)
  recover_decides (recovers.Asks index owner) true stands due = inl (refl, omega arith, omega arith)
  recover_decides (recovers.Asks index owner) false stands due =
      comes_fall 0 index (recovers.Asks index owner) refl (omega arith) (omega arith) (omega arith)
  recover_decides (recovers.EmptiesCell index owner) said stands due = absurd (cc)
  recover_decides (recovers.Raises index raises.LoadsCounter) said stands due = absurd (cc)
  recover_decides (recovers.Raises index (raises.ExchangesCounter counter)) said stands due = absurd (cc)
  recover_decides (recovers.Locks index lock) said stands due = absurd stands
  recover_decides recovers.LoadsCounterAgain said stands due = absurd (cc)

  abbrev pub Decided : RobustFlight → Type 0
  Decided flight =
      (said : Bool) → is_question (want_of code (flights.Robust flight)) ≡ true
      → FallsIn M words words 0 (flights.Robust flight) (after_of code (flights.Robust flight) (number_of said))

  never_asks : (flight : RobustFlight) → CallStands c flight → is_question (want_of code (flights.Robust flight)) ≡ true
      → (◌≡◌ {A = Bool} (is_looking flight) true)
  never_asks = grind arith

  -- the measure of any call that does not lock falls with a decision
  pub call_decides : (flight : RobustFlight) → CallStands c flight → Decided flight
  call_decides (calls.Acquire run) at said due = let looks = never_asks (calls.Acquire run) at due in absurd (cc)
  call_decides (calls.Release run) at said due = let looks = never_asks (calls.Release run) at due in absurd (cc)
  call_decides (calls.Find run) at said due =
      subst (λ n. Decided (find_at n run.given run.call.stage)) (sym at) (λ s d. find_decides run.given run.call.stage s d) said due
  call_decides (calls.Recover run) at said due =
      subst (λ m. Decided (calls.Recover (record { call = run.call; given = m; room = tt }))) (sym at.1)
      (rw at.0 (λ s d. recover_decides run.call.stage s at.2 d)) said due
  call_decides (calls.BorrowedIndices run) at said due = let looks = never_asks (calls.BorrowedIndices run) at due in absurd (cc)
  call_decides (calls.IsLocked run) at said due = let looks = never_asks (calls.IsLocked run) at due in absurd (cc)
