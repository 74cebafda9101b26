-- Containers as tables that are machines: how many words they have, what their calls write
-- (`container_effects`), where each step leads, and how a call begins.
use Rattle.history.proofs.Names.{◌≡◌, ℕ, ◌+◌, ◌-◌, ◌≤◌, true, false, Option, Some, None, IfSome, List, [], ◌++◌, length}
use Rattle.history.proofs.Names.{sum_by, refl, sym, ap, subst, arith, total_words}
use Rattle.steps.specs.declared.ask.Want.{Want}
use Rattle.steps.specs.declared.container.state.ContainerState.{ContainerState}
use Rattle.model.specs.declared.event.Event.{Event}
use Rattle.model.specs.declared.event.Start.{Start}
use Rattle.model.specs.declared.event.Start.TheVariants.{Container}
use Rattle.model.specs.declared.families.Flight.{Flight}
use Rattle.model.specs.declared.families.Registry.{Registry}
use Rattle.model.specs.declared.families.container.ContainerStart.{ContainerStart}
use Rattle.history.proofs.Names.{Coding, first_of}
use Rattle.model.specs.declared.turn.Turn.{Turn}
use Rattle.history.proofs.Names.{step_of, beside_of, goes_of, going_rows, first, is_look_of, state_in}
use Rattle.history.proofs.Names.{names_owner, questions, has_died, SetAct, set_acts_of, first_row, step_in}
use Rattle.history.proofs.Names.{after_turn, World, Trace, stands_there, open_refusal}
use Rattle.laws_robust.specs.Gone.{Word}
use Rattle.lemmas_owners.proofs.Alive.{AllLive}
use Rattle.model.specs.declared.families.Flight.TheVariants as flights
use Rattle.model.specs.declared.families.Registry.TheVariants as registries
use Rattle.model.specs.declared.families.container.calls.ContainerFlight.{ContainerFlight}
use Rattle.model.specs.declared.families.container.calls.ContainerFlight.TheVariants as calls
use Rattle.model.specs.declared.turn.Kind.TheVariants as kinds
use Rattle.model.specs.Families.Container.Reading.{Act, acts_of}
use Rattle.model.specs.Families.Container.Steps.{effects}
use Rattle.model.proofs.Frame as frame
use Rattle.laws_container.specs.Open.{IsOpenContainer}
use Rattle.laws_container.proofs.Bounds.{bounds}
use Rattle.laws_container.proofs.Invariant.{ContainerNow, FlightAt, family_by}
use Rattle.laws_container.proofs.Knows as knows
use Rattle.laws_container.proofs.Living.{has_not_died, step_is_free}
use Rattle.laws_container.proofs.OpenRuns.{reached_open_sound, reached_open_lives, reached_open_wide}
use Rattle.laws_container.proofs.OpenRuns.{reached_open_kept, reached_open_tells}
use Rattle.laws_container.proofs.Terms.{Terms}
use Rattle.history.specs.declared.view.View.{View}
use Rattle.history.specs.History.{IsRun, call_in}
use Rattle.history.specs.Known.{owned}
use Rattle.history.specs.Stages.{Calling, Starts, rows_as}
use Rattle.history.proofs.Calls.{stands, at_found}
use Rattle.history.proofs.CallsIn.{Driven, AsksFor, ActsAlone, IsCallBy, KeepsEnds, steps_alone}
use Rattle.history.proofs.Drives.{keeps_all_there}
use Rattle.history.proofs.Known.{AreOf, by_other}
use Rattle.history.proofs.Starting.{starts_by_last}
use Rattle.history.proofs.Paid.{Pays, progress_within, pays_run}
use Rattle.history.proofs.Turns.{StepsOn, KeptLaws, Machines, all_someone}

module _ {T : Type 0} where
  -- what a step of a container's call writes, by what the machine keeps
  abbrev kept_effects : Coding T → Registry T → ℕ → Flight T → ℕ → List (Event T)
  kept_effects code kept p (flights.Container flight) old = effects code p (state_in kept p) flight old ++ questions p flight old
  kept_effects code kept p flight old = []

  -- what a step of a container's call writes, by what its machine keeps
  abbrev pub container_effects : World T → ℕ → Flight T → ℕ → List (Event T)
  container_effects w = kept_effects w.coding w.kept

  -- what a step writes of a call that is no look of a state, whatever the machine keeps
  abbrev pub plain_effects : Coding T → ℕ → Flight T → ℕ → List (Event T)
  plain_effects code p (flights.Container flight) old = effects code p None flight old ++ questions p flight old
  plain_effects code p flight old = []

  -- the effects of a step are events of its party
  pub effects_of_party : (code : Coding T) (kept : Registry T) (p : ℕ) (flight : Flight T) (n : ℕ) → AreOf p (kept_effects code kept p flight n)
  effects_of_party = grind arith

  -- ---- a call that is no look of a state

  -- the call is one of a container, and no look of a state
  abbrev pub IsPlain : Flight T → Type 0
  IsPlain (flights.Container (calls.Look which call)) = ⊥
  IsPlain (flights.Container flight) = Unit {0}
  IsPlain flight = ⊥

-- how many words a container has: those of its set, the number of changes, and for each index a
-- number and its element
abbrev pub container_words : {T : Type 0} → Coding T → ℕ → ℕ
container_words code capacity = total_words capacity code.size

-- each time that a call turned back is paid for by a change of a word by another party
turns_paid : {T : Type 0} (z : Coding T) (c : ℕ) (v : knows.View T) (flight : ContainerFlight T) → knows.Knows z c flight v → v.backs ≤ v.changes - v.since
turns_paid = grind arith

module _ {T : Type 0} (code : Coding T) (capacity : ℕ) where
  -- the machine is one of a run of a container of this capacity
  abbrev pub IsOn : Trace T → Type 0
  IsOn t = IsRun code kinds.Container capacity t

  -- the terms of the container's laws between threads: an owner is gone by a recovery
  abbrev by_word : Terms
  by_word = record { by = Word; kept = false }

  -- an open run of a container keeps the invariant of its laws
  container_sound : {t : Trace T} → IsOn t → frame.Sound (family_by by_word t.world.coding t.world.capacity) t
  container_sound {t} is_on = reached_open_sound t is_on.of_kind is_on.reached

  -- in an open run nobody has died
  all_live : (t : Trace T) → IsOn t → AllLive t.events
  all_live t is_on = reached_open_lives t is_on.of_kind is_on.reached

  -- the promise of the model of each open run of a container
  pub is_open_container : (t : Trace T) (r : IsOn t) → IsOpenContainer t r.reached
  is_open_container t r = reached_open_kept t r.of_kind r.reached

  -- a container has as many words as `container_words` says
  pub container_size : (t : Trace T) → IsOn t → length t.world.words ≡ container_words code capacity
  container_size = grind (arith, reached_open_wide)

  -- in an open run nobody has died
  pub kept_there : (t : Trace T) → IsOn t → (dead : List ℕ) × (states : List (ℕ × ContainerState T))
      × (t.world.kept ≡ registries.Container dead states) × ((owner : ℕ) → has_died owner dead ≡ false)
  kept_there t is_on =
      let is_sound = container_sound is_on in (
        is_sound.state.dead,
        is_sound.state.states,
        is_sound.fit.kept,
        λ owner. has_not_died by_word t.world.coding t.world.capacity t is_sound
            (all_live t is_on) owner,
      )

  -- ---- what a step writes and where it leads

  -- nothing that is tested of a pending call refuses its step
  no_rows : (t : Trace T) → IsOn t
      → (c z : ℕ) (all : List SetAct) (done : List (Act T)) (start : Start T) (flight : Flight T)
      → FlightAt c z all done start flight
      → first_row (going_rows t.world.coding t.world.kept (Some flight) None) ≡ None
  no_rows t is_on c z all done (Container start) (flights.Container flight) flight_at =
      step_is_free by_word t.world.coding t.world.capacity t (container_sound is_on) (all_live t is_on) flight
  no_rows t is_on c z all done start flight flight_at = absurd flight_at

  -- what the model's step of a call writes is what `kept_effects` says
  writes_there : (y : Coding T) (words : List ℕ) (beside : Option (ℕ × ℕ)) (c z p old : ℕ) (all : List SetAct) (done : List (Act T)) (kept : Registry T)
      (s : ContainerNow T) (start : Start T) (flight : Flight T) → kept ≡ registries.Container s.dead s.states → FlightAt c z all done start flight
      → (step_of y words beside p start flight old kept).wrote ≡ kept_effects y kept p flight old
  writes_there = grind arith

  -- where the model's step of a call leads is where `goes_of` says
  goes_there : (y : Coding T) (words : List ℕ) (beside : Option (ℕ × ℕ)) (c z p old : ℕ) (all : List SetAct) (done : List (Act T)) (kept : Registry T)
      (s : ContainerNow T) (start : Start T) (flight : Flight T) → kept ≡ registries.Container s.dead s.states → FlightAt c z all done start flight
      → (step_of y words beside p start flight old kept).after ≡ goes_of y p flight old kept
  goes_there = grind arith

  -- each step of a call under way writes events of its own party, and leads where the container's laws say
  steps_on : (t : Trace T) → IsOn t → (p : ℕ) (start : Start T) (flight : Flight T) → call_in t.world p ≡ Some (start, flight)
      → StepsOn code kinds.Container capacity (container_words code capacity) container_effects t p flight
  steps_on t is_on p start flight call_is =
      let world_now = t.world in
      let is_sound = container_sound is_on in
      let here = stands world_now p start flight call_is in
      let there = stands_there (family_by by_word world_now.coding world_now.capacity) t is_sound p here.x here.since flight here.found here.doing in
      let all : List SetAct = set_acts_of p is_sound.state.events in
      let done : List (Act T) = acts_of p is_sound.state.events in
      let mine : FlightAt world_now.capacity world_now.coding.size all done here.x.start flight = there.at in
      -- what the laws of the container say of its calls on this machine
      let beside = beside_of world_now.words world_now.kept world_now.latest p in
      let writes_here = writes_there world_now.coding world_now.words beside world_now.capacity world_now.coding.size p in
      let goes_here = goes_there world_now.coding world_now.words beside world_now.capacity world_now.coding.size p in
      record {
        -- nothing refuses the step, and its effects are those of the party's own call
        may = no_rows t is_on world_now.capacity world_now.coding.size all done here.x.start flight mine;
        writes = λ x n found. at_found here (λ z. (step_in world_now p z flight n).wrote ≡ container_effects world_now p flight n)
            (writes_here n all done world_now.kept is_sound.state here.x.start flight is_sound.fit.kept mine) x found;
        -- each of them is of this party, and of no other
        someone = λ n. all_someone p (container_effects world_now p flight n) (effects_of_party world_now.coding world_now.kept p flight n);
        beside = λ n q ne. by_other p q (container_effects world_now p flight n) ne (effects_of_party world_now.coding world_now.kept p flight n);
        -- the step leads where `goes_of` says, by what the machine keeps
        goes = λ x n found. at_found here (λ z. (step_in world_now p z flight n).after ≡ goes_of world_now.coding p flight n world_now.kept)
            (goes_here n all done world_now.kept is_sound.state here.x.start flight is_sound.fit.kept mine) x found;
      }

  -- a turn that is no look of a party's state leaves that state
  states_stay : (t : Trace T) (r : IsOn t) (turn : Turn T) → open_refusal t.world turn ≡ None → (q : ℕ) → is_look_of t.world q turn ≡ false
      → state_in (after_turn t turn).world.kept q ≡ state_in t.world.kept q
  states_stay t r turn free q none = (reached_open_tells t r.of_kind r.reached turn free).states.moves q none

  -- containers keep the laws of a kind: how many words they have, what steps write, where they lead, and
  -- which states stay
  pub containers_owe : KeptLaws code kinds.Container capacity (container_words code capacity) container_effects
  containers_owe =
      record { size = container_size; steps_on = steps_on; states = λ t turn run next free q none. states_stay t run turn free q none }

  -- the bounds of a container's calls, as the laws of all kinds need them
  word_bounds : (z : Coding T) (c : ℕ) → frame.Bounds (family_by by_word z c)
  word_bounds z c = record { most = (bounds z c).most; paid = paid }
    where
      -- a call that turned back was overtaken by changes of words by others, as often as it turned back
      paid : (s : ContainerNow T) (p : ℕ) (events : List (Event T)) (since changes backs : ℕ) (flight : Flight T)
          → (family_by by_word z c).Knows s p events since changes backs flight → backs ≤ changes - since
      paid s p events since changes backs (flights.Container flight) knows = turns_paid z c _ flight knows
      paid s p events since changes backs flight knows = absurd knows

  -- each call takes at most the steps that the model promises of a container
  pub container_pays : Pays code kinds.Container capacity
  container_pays t r =
      (let is_sound = container_sound r in
      let F = family_by by_word t.world.coding t.world.capacity in
      pays_run r refl is_sound
      (progress_within r refl is_sound (word_bounds t.world.coding t.world.capacity)))

-- ---- which party may begin a call

-- what is tested of a begin, where nobody has died
module _ {T : Type 0} (capacity p : ℕ) (dead : List ℕ) (states : List (ℕ × ContainerState T)) (lives : (owner : ℕ) → has_died owner dead ≡ false) where
  -- nothing that is tested of the begin of this call by party p refuses it
  abbrev FreeTo : ContainerStart T → Type 0
  FreeTo start = first_row (rows_as kinds.Container capacity (registries.Container dead states) p (Container start)) ≡ None

  -- a call that names an owner may begin, since that owner has not died
  may_begin : (start : ContainerStart T) → names_owner start ≡ true → FreeTo start
  may_begin = grind arith

-- the model has a call that names an owner, at its first stage
pub container_first : {T C M E : Type 0} (base : View T) (call : Calling T C M E) {start : ContainerStart T} (c : C) (m : M) → call.start ≡ Container start
    → names_owner start ≡ true → flights.Container (first base.capacity start) ≡ call.flight c m
    → (kept : Registry T) → first_of kinds.Container base.capacity call.start kept ≡ Some (call.flight c m)
container_first base call c m is_named named flies kept = rw is_named (rw named (ap Some flies))

-- A call `start` that names an owner, and is at its first stage on a pass with the view base, begins for a party
-- of the pass: the machine finds that party without a call under way, and nobody has died.
module _ {T C M E : Type 0} {code : Coding T} {base : View T} {call : Calling T C M E} (start : ContainerStart T) {c : C} {m : M}
    (is_named : call.start ≡ Container start) (by_last : (o : Option ℕ) (p : ℕ) → IfSome o (λ q. q ≡ p) → call.by o p)
    (named : names_owner start ≡ true) (flies : flights.Container (first base.capacity start) ≡ call.flight c m) where
  pub container_starts : (t : Trace T) (owner : ℕ → ℕ) (j : ℕ) → IsOn code base.capacity t → owner j ≡ j → IfSome base.party (λ p. owner p ≡ j)
      → ((f : Event T → ℕ) → sum_by f base.made ≡ sum_by (owned owner j f) t.events)
      → Starts code kinds.Container call base c m t owner j
  container_starts t owner j run self party sums =
      starts_by_last by_last self party (container_first base call c m is_named named flies t.world.kept)
      (λ p. rw is_named (subst (λ k. first_row (rows_as kinds.Container base.capacity k p (Container start)) ≡ None) (sym kept.2)
      (may_begin base.capacity p kept.0 kept.1 kept.3 start named)))
    where
      -- in an open run the machine keeps nobody as dead
      kept : (dead : List ℕ) × (states : List (ℕ × ContainerState T)) × (t.world.kept ≡ registries.Container dead states)
          × ((owner : ℕ) → has_died owner dead ≡ false)
      kept = kept_there code base.capacity t run

-- the machines of containers
abbrev pub container_machines : {T : Type 0} → Coding T → Machines T
container_machines code =
    record { code = code; kind = kinds.Container; effects = container_effects; size_of = container_words code; laws = containers_owe code }

-- ---- the steps of a call that is no look of a state

module _ {T C M E : Type 0} (code : Coding T) (call : Calling T C M E) (plain : (c : C) (m : M) → IsPlain (call.flight c m)) where
  -- a call that is no look of a state goes on by its stage, and writes for its own party alone
  pub plain_acts : ActsAlone code kinds.Container container_effects (plain_effects code) call
  plain_acts = grind arith

-- Each step of a call on a container keeps the rule of histories, and the call ends in the history, if it is one of the
-- call values of a container (`IsCallBy`), no look of a state, and skips nothing.
pub container_keeps : {T C M E : Type 0} (code : Coding T) (driven : Driven T C M E) → ((c : C) (m : M) → IsPlain (driven.call.flight c m))
    → IsCallBy code (plain_effects code) (container_words code) driven → ((c : C) (n : ℕ) → driven.call.skips c n ≡ false)
    → KeepsEnds code kinds.Container (container_words code) driven
container_keeps code driven plain is_call =
    keeps_all_there (container_machines code) driven
    (steps_alone (plain_acts code driven.call plain) is_call)

-- a call that asks for one of fewer words asks for one of more
pub fewer : (some more : ℕ) (want : Want (Unit {0})) → some ≤ more → AsksFor some want → AsksFor more want
fewer some more want low asks_for = (let below = asks_for.1 in (asks_for.0, omega arith, asks_for.2))
