-- What a step of a look (`get_state` or `update_state`) leaves known of the number of changes, and what its
-- end has met.
use Rattle.laws_machine.proofs.Names.{◌≡◌, ◌≢◌, ℕ, ◌+◌, ◌<◌, ◌==◌, nat_lt, Bool, true, false, Some, List, if◌then◌else◌}
use Rattle.laws_machine.proofs.Names.{slice_index_or, refl, arith, nat_tests, After, GoOn, Done, Look, LookStage}
use Rattle.laws_machine.proofs.Names.{ContainerState, is_even, at_look, look_comes_to, look_finds, look_takes}
use Rattle.laws_machine.proofs.Names.{look_keeps, LookOf, settled_if}
use Rattle.steps.specs.declared.container.look.LookStage.TheVariants as stages
use Rattle.steps.specs.Container.State.{Showing, with_count, with_word, with_value}
use Rattle.model.specs.declared.families.container.calls.LookOf.TheVariants as kinds
use Rattle.laws_machine.specs.Changes.{Seen, up_to_date}
use Rattle.laws_machine.proofs.SeenKnows.{Within, HasLoaded, IsToLoad, LookSees}
use Rattle.lemmas.proofs.Cases.{on_bool}

module _ {T : Type 0} where
  -- What is to be shown of a step with which the look comes to this and leaves this state. A look that goes
  -- on knows what its stage says. One that ends has brought the state up to date, or, as an update that
  -- answers false, has met no change since; an update that answers true has met one.
  abbrev pub Out : Seen → ContainerState T → LookOf → After (Look T) Bool → Type 0
  Out s state which (GoOn call) = LookSees which call.stage s (Some state)
  Out s state kinds.GetState (Done changed) =
      Within (up_to_date s) (settled_if {T = T} (Done changed) state).seen.change
  Out s state kinds.UpdateState (Done true) =
      (s.least < s.changes) × Within (up_to_date s) state.shown.change
  Out s state kinds.UpdateState (Done false) =
      (s.changes ≡ s.most) × Within s state.seen.change

module _ {T : Type 0} (value_of : List ℕ → T) (size : ℕ) (s : Seen) (call : Look T) where
  -- a look that has loaded the number of changes, and ends with true, has met it
  done_out : (state : ContainerState T) (which : LookOf) → HasLoaded which s (Some state) → Out s state which (Done true)
  done_out = grind arith

  -- a look that has loaded the number of changes goes on to the next index, or ends, as `Out` asks
  comes_out : (state : ContainerState T) (which : LookOf) (index : ℕ) → HasLoaded which s (Some state) → Out s state which (look_comes_to call index)
  comes_out state which index has_loaded = go (nat_lt index call.capacity)
    where
      -- the cases are whether the container has this index
      go : (b : Bool) → Out s state which (if b then at_look call (stages.LoadsCount index) else Done true)
      go true = has_loaded
      go false = done_out state which has_loaded

  -- a look that has loaded the count of an index goes on as `Out` asks
  finds_out : (state : ContainerState T) (which : LookOf) (index count : ℕ) → HasLoaded which s (Some state) → Out s state which (look_finds call index count)
  finds_out state which index count has_loaded = go (is_even count)
    where
      -- the cases are whether the count is even
      go : (b : Bool) → Out s state which (if b then look_comes_to call (index + 1) else at_look call (stages.LoadsWord index count 0))
      go true = comes_out state which (index + 1) has_loaded
      go false = has_loaded

  -- the state with other loaded values
  abbrev then_shows : ContainerState T → Showing T → ContainerState T
  then_shows state shown = record state { shown = shown }

  -- while they have the same number of changes, the look has still loaded it
  still_loaded : (state : ContainerState T) (which : LookOf) (shown : Showing T) → shown.change ≡ state.shown.change
      → HasLoaded which s (Some state) → HasLoaded which s (Some (then_shows state shown))
  still_loaded = grind arith

  -- the step loads the number of changes, which is `old`
  module _ (state : ContainerState T) (old : ℕ) (old_is : old ≡ s.changes) where
    -- the state once the word of changes is loaded
    abbrev loaded : ContainerState T
    loaded = record state { shown = record state.shown { change = old } }

    -- where it is the number that the state has seen, the look ends with false
    same_out : (which : LookOf) → IsToLoad which s (Some state) → old ≡ state.seen.change → Out s loaded which (Done false)
    same_out = grind arith

    -- where it is another, the look has loaded it
    other_loaded : (which : LookOf) → IsToLoad which s (Some state) → old ≢ state.seen.change → HasLoaded which s (Some loaded)
    other_loaded = grind arith

    -- the load of the number of changes goes on or ends as `Out` asks
    change_out : (which : LookOf) → IsToLoad which s (Some state) → Out s loaded which (if old == state.seen.change then Done false else look_comes_to call 0)
    change_out which to_load =
        on_bool (λ b. Out s loaded which (if b then Done false else look_comes_to call 0)) (old == state.seen.change)
        (λ t. let same : old ≡ state.seen.change = grind (arith, nat_tests) in same_out which to_load same)
        (λ t. let other : old ≢ state.seen.change = grind (arith, nat_tests) in comes_out loaded which 0 (other_loaded which to_load other))

  -- what is to be shown of the step at this stage that loads `old`
  abbrev Steps : LookStage → ContainerState T → LookOf → ℕ → Type 0
  Steps stage state which old = Out s (then_shows state (look_keeps value_of size stage state.shown old)) which (look_takes size call stage state.seen old)

  -- each step of a look goes on or ends as `Out` asks, where its first load finds the number of changes
  pub step_out : (stage : LookStage) (state : ContainerState T) (which : LookOf) (old : ℕ)
      → LookSees which stage s (Some state) → (stage ≡ stages.LoadsChange → old ≡ s.changes)
      → Steps stage state which old
  step_out stages.LoadsChange state which old look_sees loads = change_out state old (loads refl) which look_sees
  step_out (stages.LoadsCount index) state which old look_sees loads = go (old == slice_index_or state.seen.counts index 0)
    where
      -- the cases are whether the count is what the last look saw
      go : (b : Bool) → Out s (then_shows state (with_count state.shown index old)) which
          (if b then look_comes_to call (index + 1) else look_finds call index old)
      go true =
          comes_out (then_shows state (with_count state.shown index old)) which (index + 1)
          (still_loaded state which (with_count state.shown index old) refl look_sees)
      go false =
          finds_out (then_shows state (with_count state.shown index old)) which index old
          (still_loaded state which (with_count state.shown index old) refl look_sees)
  step_out (stages.LoadsWord index count at) state which old look_sees loads = go (nat_lt (at + 1) size)
    where
      -- the cases are whether a further word of the value follows
      go : (b : Bool) → Out s (then_shows state (with_word state.shown at old)) which
          (if b then at_look call (stages.LoadsWord index count (at + 1)) else at_look call
          (stages.ChecksCount index count))
      go true = still_loaded state which (with_word state.shown at old) refl look_sees
      go false = still_loaded state which (with_word state.shown at old) refl look_sees
  step_out (stages.ChecksCount index count) state which old look_sees loads = go (old == count)
    where
      -- the cases are whether the count is still what was read
      go : (b : Bool)
          → Out s (then_shows state (if b then with_value value_of size state.shown index count else with_count state.shown index old))
          which (if b then look_comes_to call (index + 1) else look_finds call index old)
      go true =
          comes_out (then_shows state (with_value value_of size state.shown index count)) which (index + 1)
          (still_loaded state which (with_value value_of size state.shown index count) refl look_sees)
      go false =
          finds_out (then_shows state (with_count state.shown index old)) which index old
          (still_loaded state which (with_count state.shown index old) refl look_sees)
