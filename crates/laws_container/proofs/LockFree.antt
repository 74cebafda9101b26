-- A container in which no call may lock is lock-free: the measure of `MeasuredCalls` falls with each step of
-- a call, and is at most a bound when a call begins. `FallsIn` says that the call ends, or has as many steps
-- less as it takes and gives no other call more, unless it pays for that.
use Rattle.std.proofs.Common.{◌≡◌, ◌≢◌, ℕ, inl, ◌≤◌, nat_lt, ⊎_elim, Bool, true, false, cond}
use Rattle.std.proofs.Common.{Option, Some, None, is_some, List, [], refl, sym, subst, ap, ◌∙◌, arith}
use Rattle.std.proofs.lemmas.Bool.{cases_eq}
use Rattle.std.proofs.lemmas.Bool.Decides.{nat_tests}
use Rattle.steps.specs.declared.ask.After.{After}
use Rattle.steps.specs.declared.ask.After.TheVariants.{GoOn, Done}
use Rattle.steps.specs.declared.container.find.FindStage.{FindStage}
use Rattle.steps.specs.declared.container.find.FindStage.TheVariants as finds
use Rattle.steps.specs.declared.container.look.Look.{Look}
use Rattle.steps.specs.declared.container.recover.RecoverStage.{RecoverStage}
use Rattle.steps.specs.declared.container.recover.RecoverStage.TheVariants as recovers
use Rattle.steps.specs.declared.container.remove.RemoveStage.TheVariants as removes
use Rattle.steps.specs.declared.container.replace.ReplaceStage.TheVariants as replaces
use Rattle.steps.specs.declared.container.state.ContainerState.{ContainerState}
use Rattle.steps.specs.declared.indices.enums.ReleaseMode.TheVariants.{LockIfLastIndex, Default}
use Rattle.steps.specs.declared.copied.Buffer as buffers
use Rattle.steps.specs.declared.indices.robust.parts.Lock as locks
use Rattle.steps.specs.declared.indices.robust.parts.Raise as raises
use Rattle.steps.specs.Indices.Robust.Parts.{raise_want, lock_want}
use Rattle.model.specs.declared.event.Answer.{Answer}
use Rattle.model.specs.declared.event.Start.{Start}
use Rattle.model.specs.declared.event.Start.TheVariants as starts
use Rattle.model.specs.declared.families.Flight.{Flight}
use Rattle.model.specs.declared.families.Flight.TheVariants as flights
use Rattle.model.specs.declared.families.Registry.{Registry}
use Rattle.model.specs.declared.families.Registry.TheVariants as registries
use Rattle.model.specs.declared.families.container.ContainerStart.{ContainerStart}
use Rattle.model.specs.declared.families.container.ContainerStart.TheVariants as container_starts
use Rattle.model.specs.declared.families.container.calls.ContainerFlight.{ContainerFlight}
use Rattle.model.specs.declared.families.container.calls.ContainerFlight.TheVariants as calls
use Rattle.model.specs.declared.turn.Kind.TheVariants as kinds
use Rattle.model.specs.Coding.{Coding, IsCoding}
use Rattle.model.specs.Families.{first_of, want_of, goes_of, step_of, is_question, kept_after_begin, kept_after_death}
use Rattle.model.specs.Families.Container.Calls.{first, want, after, states_after, writes_state, place_of}
use Rattle.model.specs.Families.Container.Opening.{states_at_begin}
use Rattle.model.specs.Families.Container.States.{state_of, with_state, set_state, fresh}
use Rattle.model.specs.Families.Indices.Robust.Dead.{dead_with}
use Rattle.model.specs.LockFree.{KeepsEndingOf, IsDefault, default_container_bound}
use Rattle.model.specs.Turns.{number_of}
use Rattle.model.specs.World.{capacity_error}
use Rattle.model.specs.World.{World}
use Rattle.model.proofs.LockFree.Falls.{FallsIn, StepFallsBy}
use Rattle.model.proofs.LockFree.Own.{OwnLaws, OwnAfter, KnownAfter, Lasts, keeps_ending_by}
use Rattle.model.proofs.LockFree.Weighed.{KeepsEndingBy}
use Rattle.model.proofs.Rows.{IsPossible, possible_on}
use Rattle.model.specs.Refusals.{call_refusal}
use Rattle.model.specs.declared.turn.Refusal.{Refusal}
use Rattle.model.specs.declared.turn.Turn.{Turn}
use Rattle.model.proofs.Parties.{found_put_same, found_put_other}
use Rattle.laws_robust.proofs.Opening.{admitted_is}
use Rattle.laws_container.proofs.MeasuredCalls.{RemoveStands, ReplaceStands, CallStands, measure, At, Kept, Known}
use Rattle.laws_container.proofs.MeasuredCalls.{outline, AreOfContainer}
use Rattle.laws_container.proofs.MeasuredFalls.{M, any_call, StepFallsWith, add_falls, remove_falls, replace_falls}
use Rattle.laws_container.proofs.MeasuredLooks.{find_falls, find_comes, recover_falls, recover_comes, look_falls, count_falls}
use Rattle.laws_container.proofs.Looks.{written_same, written_other}
use Rattle.laws_container.proofs.MeasuredMost.{most}
use Rattle.laws_container.proofs.CallProgress.{add_at, remove_at, replace_at, find_at, recover_at, look_at, count_at}
use Rattle.lemmas.proofs.Cases.{on_bool}

-- ---- where a call goes on, it stands there

-- the calls of a container of this coding and capacity
module _ {T : Type 0} (code : Coding T) (c : ℕ) where
  -- a call that goes on is at a stage where the measure needs it
  abbrev StandsAfter : After (ContainerFlight T) (Answer T) → Type 0
  StandsAfter (GoOn flight) = CallStands c flight
  StandsAfter (Done answer) = Unit {0}

  place_within : (index : ℕ) → place_of c index ≤ c
  place_within = grind (arith, nat_tests)

  -- a call that does not lock begins at a stage where the measure needs it
  first_stands : (start : ContainerStart T) → IsDefault (starts.Container start) → CallStands c (first c start)
  first_stands (container_starts.Add value owner) such = (refl, tt)
  first_stands (container_starts.Remove index owner LockIfLastIndex) such = absurd such
  first_stands (container_starts.Remove index owner Default) such = (refl, refl, place_within index, go (nat_lt (place_of c index) c))
    where
      -- the cases are whether the handle's index is below the capacity
      go : (t : Bool) → RemoveStands (cond t removes.LoadsCount removes.Refuses)
      go true = tt
      go false = tt
  first_stands (container_starts.Replace index value owner) such = (refl, go (nat_lt (place_of c index) c))
    where
      -- the cases are whether the handle's index is within the capacity
      go : (t : Bool) → ReplaceStands (cond t replaces.LoadsCell replaces.Refuses)
      go true = tt
      go false = tt
  first_stands (container_starts.Find owner) such = refl
  first_stands (container_starts.Recover owner LockIfLastIndex) such = absurd such
  first_stands (container_starts.Recover owner Default) such = (refl, refl, tt)
  first_stands container_starts.GetState such = (refl, tt)
  first_stands container_starts.UpdateState such = (refl, tt)
  first_stands container_starts.Len such = refl
  first_stands container_starts.IsEmpty such = refl
  first_stands container_starts.IsLocked such = tt

  -- a call at a stage where the measure needs it goes on to another one
  call_goes : (state : Option (ContainerState T)) (flight : ContainerFlight T) (old : ℕ) → CallStands c flight → StandsAfter (after code state flight old)
  call_goes = grind (arith, nat_tests)

  -- ---- a party that looks has a state

  abbrev has_state : ℕ → List (ℕ × ContainerState T) → Type 0
  has_state p states = is_some (state_of p states) ≡ true

  -- a party that has a state still has one after a state of any party is put into the list
  put_has : (p q : ℕ) (state : ContainerState T) (states : List (ℕ × ContainerState T)) → has_state q states → has_state q (with_state p state states)
  put_has p q state states has = ⊎_elim here there (cases_eq q p)
    where
      -- the party is the one whose state is put there
      here : q ≡ p → has_state q (with_state p state states)
      here same_party = subst (λ n. has_state n (with_state p state states)) (sym same_party) (ap is_some (found_put_same p state states))

      -- the party is another one
      there : q ≢ p → has_state q (with_state p state states)
      there ne = ap is_some (found_put_other q p state states ne) ∙ has

  -- a party that has a state still has one after the state of any party is changed
  set_has : (p q : ℕ) (state was : ContainerState T) (states : List (ℕ × ContainerState T)) → state_of p states ≡ Some was → has_state q states
      → has_state q (set_state p state states)
  set_has p q state was states found has = ⊎_elim here there (cases_eq q p)
    where
      -- the party is the one whose state is changed
      here : q ≡ p → has_state q (set_state p state states)
      here same_party = subst (λ n. has_state n (set_state p state states)) (sym same_party) (ap is_some (written_same p state was states found))

      -- the party is another one
      there : q ≢ p → has_state q (set_state p state states)
      there ne = ap is_some (written_other q p state states ne) ∙ has

  -- a party that has a state has one after a step of any look
  looks_has : (p q : ℕ) (call : Look T) (old : ℕ) (states : List (ℕ × ContainerState T)) (o : Option (ContainerState T)) → state_of p states ≡ o
      → has_state q states → has_state q (writes_state code p call old o states)
  looks_has p q call old states None found has = has
  looks_has p q call old states (Some state) found has = set_has p q _ state states found has

  -- a party that has a state has one after a step of any call
  steps_has : (p q : ℕ) (flight : ContainerFlight T) (old : ℕ) (states : List (ℕ × ContainerState T)) → has_state q states
      → has_state q (states_after code p flight old states)
  steps_has p q (calls.Look which call) old states has = looks_has p q call old states (state_of p states) refl has
  steps_has p q flight old states has = has

  -- a party that has a state has one after any call has begun
  begins_has : (p q : ℕ) (start : ContainerStart T) (states : List (ℕ × ContainerState T)) → has_state q states
      → has_state q (states_at_begin code c start p states)
  begins_has p q container_starts.GetState states has = put_has p q (fresh code c) states has
  begins_has p q container_starts.UpdateState states has = go (is_some (state_of p states))
    where
      -- the cases are whether the party has a state already
      go : (t : Bool) → has_state q (cond t states (with_state p (fresh code c) states))
      go true = has
      go false = put_has p q (fresh code c) states has
  begins_has p q start states has = has

  -- a party whose look begins has a state
  look_has : (p : ℕ) (states : List (ℕ × ContainerState T)) → has_state p (states_at_begin code c container_starts.UpdateState p states)
  look_has p states =
      on_bool (λ t. has_state p (cond t states (with_state p (fresh code c) states))) (is_some (state_of p states))
      (λ t. t)
      (λ t. ap is_some (found_put_same p (fresh code c) states))

  -- what a container keeps beside its words: its dead and the parties' states
  abbrev in_states : List ℕ → List (ℕ × ContainerState T) → Registry T
  in_states dead states = registries.Container dead states

  -- a turn takes no party's state away if it leaves one to each party that had one
  lasts_by : (dead later : List ℕ) (states then : List (ℕ × ContainerState T)) → ((q : ℕ) → has_state q states → has_state q then)
      → Lasts outline (in_states dead states) (in_states later then)
  lasts_by dead later states then more q (flights.Container (calls.Look which call)) known = more q known
  lasts_by dead later states then more q flight known = tt

  -- a call that has just begun is known to have a state to look at, if it is a look
  first_known : (p : ℕ) (dead : List ℕ) (states : List (ℕ × ContainerState T)) (start : ContainerStart T)
      → Known p (in_states dead (states_at_begin code c start p states)) (flights.Container (first c start))
  first_known p dead states container_starts.GetState = ap is_some (found_put_same p (fresh code c) states)
  first_known p dead states container_starts.UpdateState = look_has p states
  first_known p dead states start = tt

  -- a call that goes on is known to have a state to look at, if it is a look, as it was before
  call_known : (p : ℕ) (dead : List ℕ) (states : List (ℕ × ContainerState T)) (o : Option (ContainerState T)) (flight : ContainerFlight T) (old : ℕ)
      → Known p (in_states dead states) (flights.Container flight)
      → KnownAfter outline p (in_states dead states) (any_call code c [] (after code o flight old))
  call_known = grind arith

  -- ---- the measure falls with each step of a call

  -- the measure falls with each step of a call that does not lock
  call_falls : (words : List ℕ) (p : ℕ) (dead : List ℕ) (states : List (ℕ × ContainerState T)) (flight : ContainerFlight T) → CallStands c flight
      → Known p (in_states dead states) (flights.Container flight) → StepFallsWith code c words (state_of p states) flight
  call_falls words p dead states (calls.Add run) stands known =
      subst (λ n. StepFallsWith code c words (state_of p states) (add_at n run.given.value run.given.owner run.call.stage)) (sym stands.0)
      (add_falls code c words (state_of p states) run.given.value run.given.owner run.call.stage stands.1)
  call_falls words p dead states (calls.Remove run) stands known =
      subst (λ m. StepFallsWith code c words (state_of p states) (remove_at run.call.capacity run.given.index run.given.owner m run.call.stage)) (sym stands.1)
      (subst (λ n. StepFallsWith code c words (state_of p states) (remove_at n run.given.index run.given.owner Default run.call.stage)) (sym stands.0)
      (remove_falls code c words (state_of p states) run.given.index run.given.owner run.call.stage stands.2 stands.3))
  call_falls words p dead states (calls.Replace run) stands known =
      subst (λ n. StepFallsWith code c words (state_of p states) (replace_at n run.given.index run.given.value run.given.owner run.call.stage)) (sym stands.0)
      (replace_falls code c words (state_of p states) run.given.index run.given.value run.given.owner run.call.stage stands.1)
  call_falls words p dead states (calls.Find run) stands known =
      subst (λ n. StepFallsWith code c words (state_of p states) (find_at n run.given run.room run.call.stage)) (sym stands)
      (find_falls code c words run.given run.room run.call.stage)
  call_falls words p dead states (calls.Recover run) stands known =
      subst (λ m. StepFallsWith code c words (state_of p states) (recover_at run.call.capacity run.given.owner m run.room run.call.stage)) (sym stands.1)
      (subst (λ n. StepFallsWith code c words (state_of p states) (recover_at n run.given.owner Default run.room run.call.stage)) (sym stands.0)
      (recover_falls code c words run.given.owner run.room run.call.stage stands.2))
  call_falls words p dead states (calls.Look which call) stands known = go (state_of p states) known
    where
      -- the party has a state, since the look is known to run on one
      go : (o : Option (ContainerState T)) → is_some o ≡ true → StepFallsWith code c words o (calls.Look which call)
      go None none = absurd (cc)
      go (Some state) some =
          subst (λ n. StepFallsWith code c words (Some state) (look_at which n call.stage)) (sym stands.0)
          (look_falls code c words which state call.stage stands.1)
  call_falls words p dead states (calls.Count which run) stands known =
      subst (λ n. StepFallsWith code c words (state_of p states) (count_at which n run.call.count)) (sym stands) (count_falls code c words which run.call.count)
  call_falls words p dead states (calls.IsLocked run) stands known = tt

  -- the measure falls with each step of a call of the container at its stage
  falls : (words : List ℕ) (p : ℕ) (kept : Registry T) (start : Start T) (flight : Flight T) → At code c start flight → Kept kept → Known p kept flight
      → StepFallsBy (measure code.size c) code words p kept flight
  falls words p (registries.Container dead states) (starts.Container start) (flights.Container flight) stands held known =
      call_falls words p dead states flight stands known
  falls words p kept (starts.Container start) (flights.Container flight) stands held known = absurd held
  falls words p kept start flight stands held known = absurd stands

  -- ---- a decision

  -- whatever a call that asks is told, the measure falls
  abbrev pub DecisionFalls : List ℕ → Option (ContainerState T) → ContainerFlight T → Type 0
  DecisionFalls words state flight =
      (said : Bool) → is_question (want code flight) ≡ true
      → FallsIn (M code c words) words words 0 (flights.Container flight) (any_call code c words (after code state flight (number_of said)))

  -- the measure falls with a decision that a find is told
  find_decides : (words : List ℕ) (owner : ℕ) (room : buffers.Buffer 128) (stage : FindStage) → DecisionFalls words None (find_at c owner room stage)
  find_decides words owner room (finds.LoadsCell index found) said due = absurd (cc)
  find_decides words owner room (finds.LoadsCount index found) said due = absurd (cc)
  find_decides words owner room (finds.LoadsWord index found count at) said due = absurd (cc)
  find_decides words owner room (finds.ChecksCount index found count) said due = absurd (cc)
  find_decides words owner room (finds.Asks index found) true due =
      find_comes code c words 0 index found owner room room (finds.Asks index found) refl (omega arith)
  find_decides words owner room (finds.Asks index found) false due = tt

  -- the measure falls with a decision that a recovery which does not lock is told
  recover_decides : (words : List ℕ) (owner : ℕ) (room : buffers.Buffer 128) (stage : RecoverStage)
      → DecisionFalls words None (recover_at c owner Default room stage)
  recover_decides words owner room (recovers.Asks index count) true due = inl (refl, omega arith, omega arith)
  recover_decides words owner room (recovers.Asks index count) false due =
      recover_comes code c words 0 index owner room room (recovers.Asks index count) refl (omega arith) (omega arith)
  recover_decides words owner room recovers.LoadsCounter said due = absurd (cc)
  recover_decides words owner room (recovers.LoadsCell index) said due = absurd (cc)
  recover_decides words owner room (recovers.LoadsCount index) said due = absurd (cc)
  recover_decides words owner room (recovers.LoadsWord index count at) said due = absurd (cc)
  recover_decides words owner room (recovers.ChecksCount index count) said due = absurd (cc)
  recover_decides words owner room (recovers.EmptiesCell index count) said due = absurd (cc)
  recover_decides words owner room (recovers.Hides index count) said due = absurd (cc)
  recover_decides words owner room (recovers.Raises index raise) said due = let none = no_raise raise in absurd (cc)
    where
      -- a raise of the counter asks no question
      no_raise : (raise : raises.Raise) → is_question (raise_want raise) ≡ false
      no_raise = grind arith
  recover_decides words owner room (recovers.Locks index lock) said due = let none = no_lock lock in absurd (cc)
    where
      -- a lock asks no question
      no_lock : (lock : locks.Lock) → is_question (lock_want lock) ≡ false
      no_lock = grind arith
  recover_decides words owner room recovers.LoadsCounterAgain said due = absurd (cc)
  recover_decides words owner room (recovers.AddsChange end) said due = absurd (cc)

  -- whether the call is a find or a recovery, the two that ask questions
  abbrev pub may_ask : ContainerFlight T → Bool
  may_ask (calls.Find run) = true
  may_ask (calls.Recover run) = true
  may_ask flight = false

  -- a call that waits for a decision is a find or a recovery
  never_asks : (flight : ContainerFlight T) → is_question (want code flight) ≡ true → may_ask flight ≡ true
  never_asks = grind arith

  -- the measure falls with a decision that any call which does not lock is told
  call_decides : (words : List ℕ) (state : Option (ContainerState T)) (flight : ContainerFlight T) → CallStands c flight → DecisionFalls words state flight
  call_decides words state (calls.Find run) stands said due =
      subst (λ n. DecisionFalls words state (find_at n run.given run.room run.call.stage)) (sym stands)
      (λ s d. find_decides words run.given run.room run.call.stage s d) said due
  call_decides words state (calls.Recover run) stands said due =
      subst (λ m. DecisionFalls words state (recover_at run.call.capacity run.given.owner m run.room run.call.stage)) (sym stands.1)
      (subst (λ n. DecisionFalls words state (recover_at n run.given.owner Default run.room run.call.stage)) (sym stands.0)
      (λ s d. recover_decides words run.given.owner run.room run.call.stage s d)) said due
  call_decides words state (calls.Add run) stands said due = let asks = never_asks (calls.Add run) due in absurd (cc)
  call_decides words state (calls.Remove run) stands said due = let asks = never_asks (calls.Remove run) due in absurd (cc)
  call_decides words state (calls.Replace run) stands said due = let asks = never_asks (calls.Replace run) due in absurd (cc)
  call_decides words state (calls.Look which call) stands said due = let asks = never_asks (calls.Look which call) due in absurd (cc)
  call_decides words state (calls.Count which run) stands said due = let asks = never_asks (calls.Count which run) due in absurd (cc)
  call_decides words state (calls.IsLocked run) stands said due = let asks = never_asks (calls.IsLocked run) due in absurd (cc)

  -- ---- what it owes

  -- the measure falls with a decision that a call of the container is told
  decides : (words : List ℕ) (p : ℕ) (kept : Registry T) (start : Start T) (flight : Flight T) (said : Bool) → At code c start flight → Kept kept
      → is_question (want_of code flight) ≡ true
      → FallsIn (measure code.size c) words words 0 flight (goes_of code p flight (number_of said) kept)
  decides words p (registries.Container dead states) (starts.Container start) (flights.Container flight) said stands held due =
      call_decides words (state_of p states) flight stands said due
  decides words p kept (starts.Container start) (flights.Container flight) said stands held due = absurd held
  decides words p kept start flight said stands held due = absurd stands

  -- the calls of the container stand as `Stands` says
  module _ (Stands : ContainerFlight T → Type 0) where
    -- what becomes of a call by a step is decided by its stage and by what is kept beside the words
    told : (words : List ℕ) (beside : Option (ℕ × ℕ)) (p : ℕ) (start : Start T) (flight : Flight T) (old : ℕ) (kept : Registry T)
        → AreOfContainer Stands start flight → Kept kept → (step_of code words beside p start flight old kept).after ≡ goes_of code p flight old kept
    told = grind arith

    -- a step of a call of the container leaves a registry of a container, and leaves each party
    -- that had a state one
    stays : (words : List ℕ) (beside : Option (ℕ × ℕ)) (p : ℕ) (start : Start T) (flight : Flight T) (old : ℕ) (kept : Registry T)
        → AreOfContainer Stands start flight → Kept kept
        → Kept (step_of code words beside p start flight old kept).kept × Lasts outline kept (step_of code words beside p start flight old kept).kept
    stays words beside p (starts.Container start) (flights.Container flight) old (registries.Container dead states) stands held =
        (tt, lasts_by dead dead states (states_after code p flight old states) (λ q has. steps_has p q flight old states has))
    stays words beside p (starts.Container start) (flights.Container flight) old kept stands held = absurd held
    stays words beside p start flight old kept stands held = absurd stands

  -- how a call of the container goes on, in the form that the frame of lock-freedom asks
  own_after : (start : ContainerStart T) (after : After (ContainerFlight T) (Answer T)) → StandsAfter after
      → OwnAfter outline code c (starts.Container start) (any_call code c [] after)
  own_after start (GoOn flight) stands_after = stands_after
  own_after start (Done answer) stands_after = tt

  -- a call that goes on is at a stage where the measure needs it, and its party has a state if it looks
  goes : (p : ℕ) (start : Start T) (flight : Flight T) (old : ℕ) (kept : Registry T) → At code c start flight → Kept kept → Known p kept flight
      → OwnAfter outline code c start (goes_of code p flight old kept) × KnownAfter outline p kept (goes_of code p flight old kept)
  goes p (starts.Container start) (flights.Container flight) old (registries.Container dead states) stands held known = (
    own_after start (after code (state_of p states) flight old) (call_goes (state_of p states) flight old stands),
    call_known p dead states (state_of p states) flight old known,
  )
  goes p (starts.Container start) (flights.Container flight) old kept at held known = absurd held
  goes p start flight old kept at held known = absurd at

  -- a call that begins on a container is at a stage where the measure needs it, and the
  -- registry stays a container's
  begins : (start : Start T) (kept : Registry T) (flight : Flight T) → IsDefault start → Kept kept
      → first_of kinds.Container c start kept ≡ Some flight
      → At code c start flight × ((p : ℕ) → Kept (kept_after_begin code c start p kept))
  begins = grind (arith, first_stands)

  -- a call that begins on a container is one of the container's calls at its first stage
  is_first : (start : Start T) (kept : Registry T) (flight : Flight T) → first_of kinds.Container c start kept ≡ Some flight
      → (begun : ContainerStart T) × (start ≡ starts.Container begun) × (flight ≡ flights.Container (first c begun))
  is_first (starts.Container start) kept flight begins_so = (start, refl, grind arith)
  is_first start kept flight begins_so = absurd (grind arith)

  -- the party of a call that has just begun has a state if the call looks, and no party loses its own
  knows : (start : Start T) (kept : Registry T) (flight : Flight T) (p : ℕ) → Kept kept
      → first_of kinds.Container c start kept ≡ Some flight
      → Known p (kept_after_begin code c start p kept) flight × Lasts outline kept (kept_after_begin code c start p kept)
  knows start (registries.Container dead states) flight p held begins_so =
      let first = is_first start (in_states dead states) flight begins_so in
      let begun = first.0 in
      subst (λ f. Known p (kept_after_begin code c start p (in_states dead states)) f
      × Lasts outline (in_states dead states) (kept_after_begin code c start p (in_states dead states))) (sym first.2)
      (subst (λ a. Known p (kept_after_begin code c a p (in_states dead states)) (flights.Container (first_call begun))
      × Lasts outline (in_states dead states) (kept_after_begin code c a p (in_states dead states))) (sym first.1)
      (first_known p dead states begun, lasts_by dead dead states (states_at_begin code c begun p states) (λ q has. begins_has p q begun states has)))
    where
      first_call : ContainerStart T → ContainerFlight T
      first_call begun = first c begun
  knows start kept flight p held begins_so = absurd held

  -- the death of an owner leaves the registry a container's, and each party its state
  dies : (kept : Registry T) (owner : ℕ) → Kept kept → Kept (kept_after_death kept owner) × Lasts outline kept (kept_after_death kept owner)
  dies (registries.Container dead states) owner held = (tt, lasts_by dead (dead_with owner dead) states states (λ q has. has))
  dies kept owner held = absurd held

  -- all that the frame of lock-freedom asks of the measure holds of the calls that do not lock, for each
  -- coding and admitted capacity
  laws : IsCoding code → capacity_error kinds.Container c ≡ None → OwnLaws outline code c
  laws coded admitted =
      record {
        opens = tt;
        begins = begins;
        knows = knows;
        stays = stays (CallStands c);
        goes = goes;
        told = told (CallStands c);
        dies = dies;
        decides = decides;
        most = λ words start flight at. (let may = admitted_is c admitted in most c code.size may.0 coded.some words flight);
        falls = λ words p kept start flight at held known wide. falls words p kept start flight at held known;
      }

-- a container in which no call may lock is lock-free, in every run of rows that admit only possible turns
pub container_keeps_ending_by : {T : Type 0} (refuses : World T → Turn T → Option Refusal)
    → ((w : World T) (turn : Turn T) → refuses w turn ≡ None → IsPossible w turn)
    → KeepsEndingBy refuses kinds.Container IsDefault default_container_bound
container_keeps_ending_by {T} refuses possible =
    keeps_ending_by (outline {T = T}) (λ code c coded admitted. laws code c coded admitted) refuses possible default_container_bound (λ code c n. refl)

-- a container in which no call may lock is lock-free, in the runs of its machine
pub container_keeps_ending : {T : Type 0} → KeepsEndingOf T kinds.Container IsDefault default_container_bound
container_keeps_ending {T} = container_keeps_ending_by {T = T} call_refusal possible_on
