-- Each step of a container's call raises the number of changes by just what its end counts for: by 1 in the
-- step that ends an add, remove, replace or recovery that has changed the container, and else by 0.
use Rattle.laws_machine.proofs.Names.{◌≡◌, ◌≢◌, ℕ, ◌+◌, ◌==◌, nat_lt, if◌then◌else◌, Bool, true, false, Option, Some}
use Rattle.laws_machine.proofs.Names.{List, refl, sym, ap, subst, ◌∙◌, arith, get_or, Ok, Err, After, GoOn, Done}
use Rattle.laws_machine.proofs.Names.{AddStage, LookStage, RemoveStage, ReplaceStage, Replacement, ContainerState}
use Rattle.laws_machine.proofs.Names.{ReleaseMode, ReleaseState, Lock}
use Rattle.laws_machine.proofs.Names.{Raise, GiveBack, Release, add_asks, Added, add_acquired}
use Rattle.laws_machine.proofs.Names.{find_asks, change_word, count_word, element_word, is_even}
use Rattle.laws_machine.proofs.Names.{look_asks, recover_keeps, Removed, remove_asks, remove_released, inner_release}
use Rattle.laws_machine.proofs.Names.{Replaced, replace_asks, Acquired, cell_word, empty, locked}
use Rattle.laws_machine.proofs.Names.{one_more, raise_want, lock_want, Released, release_takes}
use Rattle.laws_machine.proofs.Names.{went_on, State, ContainerStart, ContainerFlight, Coding}
use Rattle.laws_machine.proofs.Names.{ask_of, is_question, place_of, added, removed, replaced, Act, SetAct, as_it_is}
use Rattle.laws_machine.proofs.Names.{kept_at, as_call, answer_in, words_after, exchanges, change_at, adds_one}
use Rattle.laws_machine.proofs.Names.{stores_to, both_ways, raise_asks_none, lock_asks_none}
use Rattle.steps.specs.declared.container.add.Add as add_calls
use Rattle.steps.specs.declared.container.add.AddStage.TheVariants as adds
use Rattle.steps.specs.declared.container.add.Owned.{Owned}
use Rattle.steps.specs.declared.container.find.FindStage.{FindStage}
use Rattle.steps.specs.declared.container.recover.DeadOwner.{DeadOwner}
use Rattle.steps.specs.declared.container.recover.Recover as recover_calls
use Rattle.steps.specs.declared.container.recover.RecoverStage.{RecoverStage}
use Rattle.steps.specs.declared.container.recover.RecoverStage.TheVariants as recovers
use Rattle.steps.specs.declared.container.enums.ContainerRemoveError.TheVariants.{ContainerHandleNotOwnedByContainer}
use Rattle.steps.specs.declared.container.remove.Remove as remove_calls
use Rattle.steps.specs.declared.container.remove.RemoveStage.TheVariants as removes
use Rattle.steps.specs.declared.container.replace.Replace as replace_calls
use Rattle.steps.specs.declared.container.replace.ReplaceStage.TheVariants as replaces
use Rattle.steps.specs.declared.copied.Buffer as buffers
use Rattle.steps.specs.declared.indices.robust.acquire.Acquire.{Acquire}
use Rattle.steps.specs.Container.Recover.{recover_asks, recover_takes, recover_comes_to, recover_raised}
use Rattle.steps.specs.Container.Recover.{recover_locked}
use Rattle.model.specs.declared.families.container.ContainerStart.TheVariants as starts
use Rattle.model.specs.declared.families.container.calls.ContainerFlight.TheVariants as calls
use Rattle.model.specs.Families.Container.Calls.{want, after}
use Rattle.laws_container.proofs.CallProgress.{add_at, remove_at, replace_at, recover_at, AddAt, RemoveAt, RecoverAt, At}
use Rattle.laws_container.proofs.CallProgress.{place_is}
use Rattle.laws_container.proofs.Moves.{add_asks_none, remove_asks_none, replace_asks_none}
use Rattle.laws_machine.proofs.CountSteps.{IsCalm, acquire_calm, calm_apart, calm_load, count_calm, lock_calm, raise_calm}
use Rattle.laws_machine.proofs.CountSteps.{release_calm, silent, ends_count}

-- ---- steps
module _ {T : Type 0} (code : Coding T) (c : ℕ) (ws : List ℕ) (state : Option (ContainerState T)) (p : ℕ) where
  -- the step of this call raises the number of changes by what the call's end then counts for; `old` is the
  -- value of the word that it asks for
  abbrev pub StepCounts : ContainerStart T → ContainerFlight T → ℕ → Type 0
  StepCounts start flight old =
      change_at c (words_after ws (ask_of (want code flight))) ≡ change_at c ws + ends_count p start (answer_in (after code state flight old))

  -- adding 1 to the word of changes raises the number of changes by 1
  abbrev IsRaised : Type 0
  IsRaised = change_at c (words_after ws (Some (adds_one (change_word c)))) ≡ change_at c ws + 1

  -- where adding 1 raises the number of changes (`IsRaised`), each step of this call counts as `StepCounts` says
  abbrev pub CountsSo : ContainerStart T → ContainerFlight T → Type 0
  CountsSo start flight = IsRaised → (old : ℕ) → StepCounts start flight old

  -- the step's end, if it ends the call, counts for no change
  abbrev EndsNone : ContainerStart T → ContainerFlight T → ℕ → Type 0
  EndsNone start flight old = ends_count p start (answer_in (after code state flight old)) ≡ 0

  -- a step that leaves the number of changes, and whose end counts for none
  calmly : (start : ContainerStart T) (flight : ContainerFlight T) (old : ℕ)
      → IsCalm c ws (ask_of (want code flight)) → EndsNone start flight old → StepCounts start flight old
  calmly start flight old calm none = omega arith

  -- ---- an add

  module _ (value : T) (owner : ℕ) where
    -- how many changes the end of an add counts, where `a` is how the add has gone on or ended;
    -- 0 if it has not ended
    abbrev adds_to : After (add_calls.Add T) Added → ℕ
    adds_to a =
        ends_count {T = T} p (starts.Add value owner)
        (answer_in (as_call calls.Add added (went_on as_it_is (record { value = value; owner = owner }) tt a)))

    abbrev add_call : AddStage → add_calls.Add T
    add_call stage = record { capacity = c; stage = stage; of = record {} }

    -- after a step of its acquire an add has no change to count
    acquired_ends : (stage : AddStage) (r : After Acquire Acquired) → adds_to (add_acquired (add_call stage) r) ≡ 0
    acquired_ends = grind arith

    -- an add that goes on, to whichever of two stages, counts for no change
    add_either : (b : Bool) (x y : AddStage) → adds_to (if b then GoOn (add_call x) else GoOn (add_call y)) ≡ 0
    add_either true x y = refl
    add_either false x y = refl

    -- at each stage but the one that adds 1 to the number of changes, the add's end counts for none
    add_ends : (stage : AddStage) (old : ℕ) → ((index : ℕ) → stage ≢ adds.AddsChange index)
        → EndsNone (starts.Add value owner) (add_at c value owner stage) old
    add_ends = grind (arith, acquired_ends, add_either)

    module _ (all : List SetAct) (done : List (Act T)) where
      -- at each stage but that one, no operation of an add changes the number of changes
      add_calm : (stage : AddStage) → AddAt c code.size all done owner stage
          → ((index : ℕ) → stage ≢ adds.AddsChange index)
          → IsCalm c ws (ask_of (want code (add_at c value owner stage)))
      add_calm (adds.Acquires stage) at other = acquire_calm c ws all owner stage at.0
      add_calm (adds.LoadsCount index) at other = calm_load c ws (count_word c index)
      add_calm (adds.Hides index count) at other =
          calm_apart c ws (exchanges (count_word c index) count (one_more count)) (λ e. absurd (omega arith))
      add_calm (adds.Stores index k) at other =
          calm_apart c ws (stores_to (element_word c code.size index k) (get_or (code.words_of value) k 0)) (λ e. absurd (omega arith))
      add_calm (adds.AddsCount index) at other = calm_apart c ws (adds_one (count_word c index)) (λ e. absurd (omega arith))
      add_calm (adds.AddsChange index) at other = absurd (other index refl)

      -- each step of an add raises the number of changes by what its end counts for
      add_counts : (raised : IsRaised) (stage : AddStage)
          → AddAt c code.size all done owner stage → (old : ℕ)
          → StepCounts (starts.Add value owner) (add_at c value owner stage) old
      add_counts = grind (arith, calmly, add_at, add_calm, add_ends)

  -- ---- a remove

  module _ (index owner : ℕ) (mode : ReleaseMode) where
    -- the place of the index among the indices of the set
    abbrev place : ℕ
    place = place_of c index

    abbrev give : GiveBack
    give = record { index = place; owner = owner; mode = mode }

    -- how many changes the end of a remove counts, where `a` is how the remove has gone on or ended; 0 if it
    -- has not ended
    abbrev removes_to : After remove_calls.Remove Removed → ℕ
    removes_to a =
        ends_count {T = T} p (starts.Remove index owner mode)
        (answer_in {C = ContainerFlight T} (as_call calls.Remove removed (went_on as_it_is give tt a)))

    abbrev remove_call : RemoveStage → remove_calls.Remove
    remove_call stage = record { capacity = c; stage = stage }

    -- whether its release goes on or ends, the remove has no change to count yet
    released_ends : (stage : RemoveStage) (count : ℕ) (r : After Release Released) → removes_to (remove_released (remove_call stage) count r) ≡ 0
    released_ends stage count (GoOn release) = refl
    released_ends stage count (Done (Ok lock)) = go (is_even count)
      where
        -- the cases are whether the count is even
        go : (b : Bool) → removes_to (if b then GoOn (remove_call (removes.AddsChange lock)) else GoOn
            (remove_call (removes.Hides count lock)))
            ≡ 0
        go true = refl
        go false = refl
    released_ends stage count (Done (Err failure)) = refl

    -- each step of a remove raises the number of changes by what its end counts for
    remove_counts : (all : List SetAct) (done : List (Act T))
        (raised : IsRaised)
        (stage : RemoveStage)
        → RemoveAt c code.size all done index owner mode stage → (old : ℕ)
        → StepCounts (starts.Remove index owner mode) (remove_at c place owner mode stage) old
    remove_counts all done raised removes.Refuses at old =
        calmly (starts.Remove index owner mode) (remove_at c place owner mode removes.Refuses) old refl refl
    remove_counts all done raised removes.LoadsCount at old =
        calmly (starts.Remove index owner mode)
        (remove_at c place owner mode removes.LoadsCount) old (calm_load c ws (count_word c place)) refl
    remove_counts all done raised (removes.Releases count stage) at old =
        let same = place_is c index at.0 in
        let below = at.0 in
        calmly (starts.Remove index owner mode)
        (remove_at c place owner mode (removes.Releases count stage)) old
        (release_calm c ws give stage (omega arith))
        (released_ends (removes.Releases count stage) count (release_takes (inner_release c stage) stage give old))
    remove_counts all done raised (removes.Hides count lock) at old =
        calmly (starts.Remove index owner mode)
        (remove_at c place owner mode (removes.Hides count lock)) old
        (calm_apart c ws (exchanges (count_word c place) count (one_more count)) (λ e. absurd (omega arith))) refl
    remove_counts all done raised (removes.AddsChange lock) at old = raised

  -- ---- a replace

  module _ (index : ℕ) (value : T) (owner : ℕ) where
    -- the place of the index among the indices of the set
    abbrev put_at : ℕ
    put_at = place_of c index

    abbrev new_value : Replacement T
    new_value = record { index = put_at; owner = owner; value = value }

    -- how many changes the end of a replace counts, where `a` is how the replace has gone on or ended; 0 if
    -- it has not ended
    abbrev replaces_to : After (replace_calls.Replace T) Replaced → ℕ
    replaces_to a =
        ends_count {T = T} p (starts.Replace index value owner)
        (answer_in (as_call calls.Replace replaced (went_on as_it_is new_value tt a)))

    abbrev replace_call : ReplaceStage → replace_calls.Replace T
    replace_call stage = record { capacity = c; stage = stage; of = record {} }

    abbrev replaces_at : ReplaceStage → ContainerFlight T
    replaces_at stage = replace_at c put_at value owner stage

    -- the step of the replace at this stage raises the number of changes by what its end counts for
    abbrev Replaces : ReplaceStage → ℕ → Type 0
    Replaces stage old = StepCounts (starts.Replace index value owner) (replaces_at stage) old

    -- a replace that goes on, to whichever of two stages, counts for no change
    replace_either : (b : Bool) (x y : ReplaceStage) → replaces_to (if b then GoOn (replace_call x) else GoOn (replace_call y)) ≡ 0
    replace_either true x y = refl
    replace_either false x y = refl

    -- a replace that goes on or is refused counts for no change
    replace_refused : (b : Bool)
        → replaces_to (if b then GoOn (replace_call replaces.LoadsCount) else Done (Err ContainerHandleNotOwnedByContainer)) ≡ 0
    replace_refused true = refl
    replace_refused false = refl

    -- each step of a replace raises the number of changes by what its end counts for
    replace_counts : (raised : IsRaised)
        (stage : ReplaceStage) (old : ℕ)
        → Replaces stage old
    replace_counts raised replaces.Refuses old =
        calmly (starts.Replace index value owner) (replaces_at replaces.Refuses) old refl refl
    replace_counts raised replaces.LoadsCell old =
        calmly (starts.Replace index value owner) (replaces_at replaces.LoadsCell) old
        (calm_load c ws (cell_word put_at)) (replace_refused (old == owner))
    replace_counts raised replaces.LoadsCount old =
        calmly (starts.Replace index value owner) (replaces_at replaces.LoadsCount) old
        (calm_load c ws (count_word c put_at))
        (replace_either (is_even old) (replaces.Stores 0) (replaces.Hides old))
    replace_counts raised (replaces.Hides count) old =
        calmly (starts.Replace index value owner) (replaces_at (replaces.Hides count)) old
        (calm_apart c ws (exchanges (count_word c put_at) count (one_more count)) (λ e. absurd (omega arith))) refl
    replace_counts raised (replaces.Stores k) old =
        calmly (starts.Replace index value owner) (replaces_at (replaces.Stores k)) old
        (calm_apart c ws (stores_to (element_word c code.size put_at k) (get_or (code.words_of value) k 0)) (λ e. absurd (omega arith)))
        (replace_either (nat_lt (k + 1) code.size) (replaces.Stores (k + 1)) replaces.AddsCount)
    replace_counts raised replaces.AddsCount old =
        calmly (starts.Replace index value owner) (replaces_at replaces.AddsCount) old
        (calm_apart c ws (adds_one (count_word c put_at)) (λ e. absurd (omega arith))) refl
    replace_counts raised replaces.AddsChange old = raised

  -- ---- a recovery

  module _ (owner : ℕ) (mode : ReleaseMode) (room : buffers.Buffer 128) where
    abbrev dead_owner : DeadOwner
    dead_owner = record { owner = owner; mode = mode }

    abbrev recover_call : RecoverStage → recover_calls.Recover T (buffers.Buffer 128)
    recover_call stage = record { capacity = c; stage = stage; of = record {} }

    abbrev recovers_at : RecoverStage → ContainerFlight T
    recovers_at stage = recover_at c owner mode room stage

    -- where `a` is how a recovery goes on or ends, it has no change to count, whatever its room has
    abbrev Quiet : After (recover_calls.Recover T (buffers.Buffer 128)) ReleaseState → Type 0
    Quiet a =
        (kept : buffers.Buffer 128)
        → ends_count {T = T} p (starts.Recover owner mode)
        (answer_in (as_call calls.Recover State (went_on as_it_is dead_owner kept a)))
        ≡ 0

    -- a recovery that goes on to either of two quiet stages is quiet
    either_quiet : (b : Bool) (x y : After (recover_calls.Recover T (buffers.Buffer 128)) ReleaseState) → Quiet x → Quiet y → Quiet (if b then x else y)
    either_quiet true x y first_quiet second_quiet = first_quiet
    either_quiet false x y first_quiet second_quiet = second_quiet

    -- after a step of its raise a recovery has no change to count
    raised_quiet : (stage : RecoverStage) (i : ℕ) (m : ReleaseMode) (r : After Raise ReleaseState) → Quiet (recover_raised (recover_call stage) i m r)
    raised_quiet = grind arith

    -- after a step of its lock a recovery has no change to count
    locked_quiet : (stage : RecoverStage) (i : ℕ) (r : After Lock ReleaseState) → Quiet (recover_locked (recover_call stage) i r)
    locked_quiet stage i (GoOn lock) kept = refl
    locked_quiet stage i (Done lock) kept = refl

    -- at each stage but the one that adds 1 to the number of changes, a recovery has no change to count
    recover_quiet : (stage : RecoverStage) (old : ℕ)
        → ((lock : ReleaseState) → stage ≢ recovers.AddsChange lock)
        → Quiet (recover_takes code.size (recover_call stage) stage dead_owner old)
    recover_quiet = grind (arith, either_quiet, locked, raised_quiet, locked_quiet)

    -- each step of a recovery raises the number of changes by what its end counts for
    recover_counts : (all : List SetAct) (done : List (Act T))
        (raised : IsRaised)
        (stage : RecoverStage)
        → RecoverAt c code.size all done owner mode stage → (old : ℕ)
        → StepCounts (starts.Recover owner mode) (recovers_at stage) old
    recover_counts all done raised stage at old = go stage at
      where
        -- a step whose operation leaves the number of changes counts as `StepCounts` asks, at any stage but
        -- the one that adds the recovery's change
        calm_so : (stage : RecoverStage) → IsCalm c ws (ask_of (recover_asks code.size c stage owner))
            → ((lock : ReleaseState) → stage ≢ recovers.AddsChange lock)
            → StepCounts (starts.Recover owner mode) (recovers_at stage) old
        calm_so = grind (arith, calmly, recover_quiet, recover_keeps, kept_at)

        -- the cases are the stages of a recovery
        go : (stage : RecoverStage) → RecoverAt c code.size all done owner mode stage
            → StepCounts (starts.Recover owner mode) (recovers_at stage) old
        go recovers.LoadsCounter at = calm_so recovers.LoadsCounter (calm_load c ws 0) (λ lock e. absurd (cc))
        go (recovers.LoadsCell i) at = calm_so (recovers.LoadsCell i) (calm_load c ws (cell_word i)) (λ lock e. absurd (cc))
        go (recovers.LoadsCount i) at = calm_so (recovers.LoadsCount i) (calm_load c ws (count_word c i)) (λ lock e. absurd (cc))
        go (recovers.LoadsWord i count k) at =
            calm_so (recovers.LoadsWord i count k) (calm_load c ws (element_word c code.size i k)) (λ lock e. absurd (cc))
        go (recovers.ChecksCount i count) at =
            calm_so (recovers.ChecksCount i count)
            (calm_apart c ws (exchanges (count_word c i) count count) (λ e. absurd (omega arith)))
            (λ lock e. absurd (cc))
        go (recovers.Asks i count) at = calm_so (recovers.Asks i count) refl (λ lock e. absurd (cc))
        go (recovers.EmptiesCell i count) at =
            let below = at.0.within in
            calm_so (recovers.EmptiesCell i count)
            (calm_apart c ws (exchanges (cell_word i) owner empty) (λ e. absurd (omega arith)))
            (λ lock e. absurd (cc))
        go (recovers.Hides i count) at =
            calm_so (recovers.Hides i count)
            (calm_apart c ws (exchanges (count_word c i) count (one_more count)) (λ e. absurd (omega arith)))
            (λ lock e. absurd (cc))
        go (recovers.Raises i raise) at = calm_so (recovers.Raises i raise) (raise_calm c ws raise) (λ lock e. absurd (cc))
        go (recovers.Locks i lock) at = calm_so (recovers.Locks i lock) (lock_calm c ws lock) (λ lock e. absurd (cc))
        go recovers.LoadsCounterAgain at = calm_so recovers.LoadsCounterAgain (calm_load c ws 0) (λ lock e. absurd (cc))
        go (recovers.AddsChange lock) at = raised

  -- ---- finds and looks change nothing

  -- no step of a find changes the word of changes
  find_calm : (stage : FindStage) → IsCalm c ws (ask_of (find_asks code.size c stage))
  find_calm = grind (arith, calm_load, calm_apart, exchanges)

  -- no step of a look changes the word of changes
  look_calm : (stage : LookStage) → IsCalm c ws (ask_of (look_asks code.size c stage))
  look_calm = grind (arith, calm_load, calm_apart, exchanges)

  -- ---- any call

  module _ (all : List SetAct) (done : List (Act T)) where
    -- each step of any call raises the number of changes by what the call's end counts for, where the call
    -- stands at its stage
    pub step_counts : (start : ContainerStart T) (flight : ContainerFlight T) → At c code.size all done start flight
        → CountsSo start flight
    step_counts (starts.Add value owner) (calls.Add run) at =
        subst (CountsSo (starts.Add value owner))
        (sym (ap (λ n. add_at n run.given.value run.given.owner run.call.stage) at.0 ∙ ap (λ (o : Owned T). add_at c o.value o.owner run.call.stage) at.1))
        (λ raised old. add_counts value owner all done raised run.call.stage at.3 old)
    step_counts (starts.Remove index owner mode) (calls.Remove run) at =
        subst (CountsSo (starts.Remove index owner mode))
        (sym (ap (λ n. remove_at n run.given.index run.given.owner run.given.mode run.call.stage) at.0
        ∙ ap (λ (o : GiveBack). remove_at c o.index o.owner o.mode run.call.stage) at.1))
        (λ raised old. remove_counts index owner mode all done raised run.call.stage at.3 old)
    step_counts (starts.Replace index value owner) (calls.Replace run) at =
        subst (CountsSo (starts.Replace index value owner))
        (sym (ap (λ n. replace_at n run.given.index run.given.value run.given.owner run.call.stage) at.0
        ∙ ap (λ (o : Replacement T). replace_at c o.index o.value o.owner run.call.stage) at.1))
        (λ raised old. replace_counts index value owner raised run.call.stage old)
    step_counts (starts.Recover owner mode) (calls.Recover run) at =
        subst (CountsSo (starts.Recover owner mode))
        (sym (ap (λ n. recover_at n run.given.owner run.given.mode run.room run.call.stage) at.0
        ∙ ap (λ (o : DeadOwner). recover_at c o.owner o.mode run.room run.call.stage) at.1))
        (λ raised old. recover_counts owner mode run.room all done raised run.call.stage at.3 old)
    step_counts (starts.Find owner) (calls.Find run) at = λ raised old.
        calmly (starts.Find owner) (calls.Find run) old (rw at.0 (find_calm run.call.stage)) (silent p (starts.Find owner) (λ answer. refl) _)
    step_counts starts.GetState (calls.Look which call) at = λ raised old.
        calmly starts.GetState (calls.Look which call) old (rw at.0 (look_calm call.stage)) (silent p starts.GetState (λ answer. refl) _)
    step_counts starts.UpdateState (calls.Look which call) at = λ raised old.
        calmly starts.UpdateState (calls.Look which call) old (rw at.0 (look_calm call.stage)) (silent p starts.UpdateState (λ answer. refl) _)
    step_counts starts.Len (calls.Count which run) at =
        λ raised old. calmly starts.Len (calls.Count which run) old (count_calm c ws run.call.count) (silent p starts.Len (λ answer. refl) _)
    step_counts starts.IsEmpty (calls.Count which run) at =
        λ raised old. calmly starts.IsEmpty (calls.Count which run) old (count_calm c ws run.call.count) (silent p starts.IsEmpty (λ answer. refl) _)
    step_counts starts.IsLocked (calls.IsLocked run) at =
        λ raised old. calmly starts.IsLocked (calls.IsLocked run) old (calm_load c ws 0) refl
    step_counts start flight at = absurd at

-- ---- a decision

module _ {T : Type 0} (code : Coding T) (state : Option (ContainerState T)) (p answer : ℕ) where
  -- a decision ends no call that has changed the container
  pub decision_counts : (start : ContainerStart T) (flight : ContainerFlight T) (c z : ℕ) (all : List SetAct) (done : List (Act T))
      → At c z all done start flight → is_question (want code flight) ≡ true
      → ends_count p start (answer_in (after code state flight answer)) ≡ 0
  decision_counts (starts.Add value owner) (calls.Add run) c z all done at due =
      both_ways (is_question (add_asks code.words_of code.size run.call.capacity run.call.stage run.given))
      (add_asks_none code run.call.capacity run.call.stage run.given) due
  decision_counts (starts.Remove index owner mode) (calls.Remove run) c z all done at due =
      both_ways (is_question (remove_asks run.call.capacity run.call.stage run.given))
      (remove_asks_none run.call.capacity run.call.stage run.given) due
  decision_counts (starts.Replace index value owner) (calls.Replace run) c z all done at due =
      both_ways (is_question (replace_asks code.words_of code.size run.call.capacity run.call.stage run.given))
      (replace_asks_none code run.call.capacity run.call.stage run.given) due
  decision_counts (starts.Recover owner mode) (calls.Recover run) c z all done at due = go run.call.stage due
    where
      -- the cases are the stages of a recovery
      go : (stage : RecoverStage)
          → is_question (recover_asks code.size run.call.capacity stage run.given.owner) ≡ true
          → ends_count p (starts.Recover owner mode)
          (answer_in (after code state (calls.Recover (record run { call = record run.call { stage = stage } })) answer))
          ≡ 0
      go recovers.LoadsCounter due = absurd (cc)
      go (recovers.LoadsCell index) due = absurd (cc)
      go (recovers.LoadsCount index) due = absurd (cc)
      go (recovers.LoadsWord index count at) due = absurd (cc)
      go (recovers.ChecksCount index count) due = absurd (cc)
      go (recovers.Asks index count) due = by (answer == 0)
        where
          -- the cases are whether the answer is no
          by : (b : Bool) → ends_count {T = T} p (starts.Recover owner mode)
              (answer_in (as_call calls.Recover State
              (went_on as_it_is run.given run.room
              (if b then recover_comes_to (record run.call { stage = recovers.Asks index count })
              (index + 1) else GoOn (record run.call { stage = recovers.EmptiesCell index count })))))
              ≡ 0
          by true = refl
          by false = refl
      go (recovers.EmptiesCell index count) due = absurd (cc)
      go (recovers.Hides index count) due = absurd (cc)
      go (recovers.Raises index raise) due = both_ways (is_question (raise_want raise)) (raise_asks_none raise) due
      go (recovers.Locks index lock) due = both_ways (is_question (lock_want lock)) (lock_asks_none lock) due
      go recovers.LoadsCounterAgain due = absurd (cc)
      go (recovers.AddsChange lock) due = absurd (cc)
  decision_counts (starts.Find owner) (calls.Find run) c z all done at due = silent p (starts.Find owner) (λ answer. refl) _
  decision_counts starts.GetState (calls.Look which call) c z all done at due = silent p starts.GetState (λ answer. refl) _
  decision_counts starts.UpdateState (calls.Look which call) c z all done at due = silent p starts.UpdateState (λ answer. refl) _
  decision_counts starts.Len (calls.Count which run) c z all done at due = silent p starts.Len (λ answer. refl) _
  decision_counts starts.IsEmpty (calls.Count which run) c z all done at due = silent p starts.IsEmpty (λ answer. refl) _
  decision_counts starts.IsLocked (calls.IsLocked run) c z all done at due = absurd (cc)
  decision_counts start flight c z all done at due = absurd at
