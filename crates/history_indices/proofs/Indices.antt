-- Unique index sets as tables that are machines: what their calls write (`index_effects`), where each step
-- leads, and how a call begins.
use Rattle.history.proofs.Names.{◌≡◌, ℕ, ◌<◌, ◌==◌, nat_le, true, false, Option, Some, None, is_none, IfSome, List}
use Rattle.history.proofs.Names.{[], length, refl, sym, ap, subst, ◌∙◌, arith, sum_by, slice_index_or, nat_tests}
use Rattle.history.proofs.Names.{Coding, first_of}
use Rattle.steps.specs.declared.indices.enums.ReleaseMode.{ReleaseMode}
use Rattle.model.specs.declared.event.Event.{Event}
use Rattle.model.specs.declared.event.Start.{Start}
use Rattle.model.specs.declared.families.Flight.{Flight}
use Rattle.model.specs.declared.families.Registry.{Registry}
use Rattle.history.proofs.Names.{begin_rows, step_of, beside_of, after_of, going_rows, IsIndexSet, IsKeptBy}
use Rattle.history.proofs.Names.{promise_of, first_row, Trace, stands_there}
use Rattle.model.specs.declared.event.Start.TheVariants.{Indices}
use Rattle.model.specs.declared.families.Flight.TheVariants as flights
use Rattle.model.specs.declared.families.Registry.TheVariants as registries
use Rattle.model.specs.declared.families.indices.IndexStart.{IndexStart}
use Rattle.model.specs.declared.families.indices.IndexStart.TheVariants.{Release}
use Rattle.model.specs.declared.turn.Kind.TheVariants as kinds
use Rattle.model.specs.Families.Indices.Opening.{call_rows, kept_rows}
use Rattle.model.specs.Families.Indices.Promises.{KeepsHolders}
use Rattle.model.specs.Families.Indices.Steps.{wrote}
use Rattle.model.proofs.Frame as frame
use Rattle.laws_indices.proofs.Core as core
use Rattle.laws_indices.proofs.Invariant.{IndexSet, FlightAt, family}
use Rattle.laws_indices.proofs.Sound.{kept_on, reached_on_sound}
use Rattle.history.specs.declared.view.View.{View}
use Rattle.history.specs.Held.{Holds}
use Rattle.history.specs.History.{IsRun, call_in}
use Rattle.history.specs.Known.{owned}
use Rattle.history.specs.Stages.{Starts, Calling}
use Rattle.history.proofs.Calls.{stands, IsStateless}
use Rattle.history.proofs.Held.{held_by}
use Rattle.history.proofs.Known.{AreOf}
use Rattle.history.proofs.Starting.{starts_by_last}
use Rattle.history.proofs.Paid.{Pays, progress_kept, pays_run}
use Rattle.history.proofs.KindLaws.{CallGoesOn, KindLaws, LoneMachines, goes_on_so}

module _ {T : Type 0} where
  -- what a step of a call on a unique index set writes
  abbrev pub index_effects : ℕ → Flight T → ℕ → List (Event T)
  index_effects p (flights.Indices flight) old = wrote p flight old
  index_effects p flight old = []

  -- the promise of the model of each run of a unique index set
  pub is_index_set : (t : Trace T) → t.world.kind ≡ kinds.Indices → Rattle.model.specs.Turns.IsReachedOn t → IsIndexSet t
  is_index_set t kind_is reached_on = (subst (λ P. IsKeptBy P t) (ap (promise_of {T = T}) kind_is) (kept_on t kind_is reached_on)).promised

module _ {T : Type 0} (code : Coding T) (capacity : ℕ) where
  -- the machine is one of a run of a unique index set of this capacity
  abbrev IsIndexRun : Trace T → Type 0
  IsIndexRun t = IsRun code kinds.Indices capacity t

  -- a run of a unique index set keeps the invariant of its laws
  sound : {t : Trace T} → IsIndexRun t → frame.Sound (family t.world.coding t.world.capacity) t
  sound {t} indices = reached_on_sound t indices.of_kind indices.reached

  -- a reached set has the words that a set of its capacity has
  size : (t : Trace T) → IsIndexRun t → length t.world.words ≡ core.size capacity
  size t indices =
      let is_sound = sound indices in
      ap length is_sound.fit.words ∙ (is_sound.holds.good.wide ∙ ap core.size indices.sized)

  -- nothing that is tested of a pending call refuses its step
  no_rows : (z : Coding T) (c : ℕ) (kept : Registry T) (holders : List (Option ℕ)) (p : ℕ) (start : Start T) (flight : Flight T)
      → FlightAt c holders p start flight → first_row (going_rows z kept (Some flight) None) ≡ None
  no_rows = grind arith

  -- what the model's step of a call writes is what `index_effects` says
  writes_there : (z : Coding T) (words : List ℕ) (beside : Option (ℕ × ℕ)) (c p old : ℕ) (kept : Registry T)
      (s : IndexSet) (start : Start T) (flight : Flight T)
      → kept ≡ registries.Indices s.holders → FlightAt c s.holders p start flight
      → (step_of z words beside p start flight old kept).wrote ≡ index_effects p flight old
  writes_there = grind arith

  -- where the model's step of a call leads does not depend on what the machine keeps
  goes_there : (z : Coding T) (words : List ℕ) (beside : Option (ℕ × ℕ)) (c p old : ℕ) (kept : Registry T)
      (s : IndexSet) (start : Start T) (flight : Flight T)
      → kept ≡ registries.Indices s.holders → FlightAt c s.holders p start flight
      → (step_of z words beside p start flight old kept).after ≡ after_of z flight old
  goes_there = grind arith

  -- the effects of a call under way are events of its party
  own_there : (c p old : ℕ) (holders : List (Option ℕ)) (start : Start T) (flight : Flight T)
      → FlightAt c holders p start flight → AreOf p (index_effects p flight old)
  own_there = grind arith

  -- each step of a call under way writes events of its own party, and leads where the set's laws say
  goes_on : (t : Trace T) → IsIndexRun t → (p : ℕ) (start : Start T) (flight : Flight T)
      → call_in t.world p ≡ Some (start, flight)
      → CallGoesOn code kinds.Indices capacity (core.size capacity) index_effects t p flight
  goes_on t indices p start flight call_is =
      let world_now = t.world in
      let is_sound = sound indices in
      let here = stands world_now p start flight call_is in
      let there = stands_there (family world_now.coding world_now.capacity) t is_sound p here.x here.since flight here.found here.doing in
      let mine : FlightAt world_now.capacity is_sound.state.holders p here.x.start flight = there.at in
      -- what the laws of the set say of its calls on this machine
      let beside = beside_of world_now.words world_now.kept world_now.latest p in
      let writes_here = writes_there world_now.coding world_now.words beside world_now.capacity p in
      let goes_here = goes_there world_now.coding world_now.words beside world_now.capacity p in
      goes_on_so here
      (no_rows world_now.coding world_now.capacity world_now.kept is_sound.state.holders p here.x.start flight mine)
      (λ n. own_there world_now.capacity p n is_sound.state.holders here.x.start flight mine)
      (λ n. writes_here n world_now.kept is_sound.state here.x.start flight is_sound.fit.kept mine)
      (λ n. goes_here n world_now.kept is_sound.state here.x.start flight is_sound.fit.kept mine)

  -- unique index sets keep the laws of a kind: what their steps write, and where they lead
  pub indices_owe : KindLaws code kinds.Indices capacity (core.size capacity) index_effects
  indices_owe = record {
    size = size;
    goes_on = goes_on;
    alone = λ going late h. h;
    stateless = λ t r. (let is_sound = sound r in subst IsStateless (sym is_sound.fit.kept) tt);
  }

  -- each call takes at most the steps that the model promises of a unique index set
  pub index_pays : Pays code kinds.Indices capacity
  index_pays t r =
      (let is_sound = sound r in
      let F = family t.world.coding t.world.capacity in
      pays_run r refl is_sound
      (progress_kept r refl is_sound (kept_on t r.of_kind r.reached)))

-- ---- which party may begin a call

module _ {T : Type 0} (code : Coding T) (base : View T) where
  -- the machine is one of a run of a unique index set of the pass's capacity
  abbrev IsPassRun : Trace T → Type 0
  IsPassRun t = IsRun code kinds.Indices base.capacity t

  -- a machine of a unique index set keeps who holds each index
  kept_there : (t : Trace T) → IsPassRun t → (holders : List (Option ℕ)) × (t.world.kept ≡ registries.Indices holders)
  kept_there t is_on = let is_sound = sound code base.capacity is_on in (is_sound.state.holders, is_sound.fit.kept)

module _ {T : Type 0} {code : Coding T} {base : View T} where
  -- a call that names no index always may, as the party that the pass was last
  module _ {C M E : Type 0} {call : Calling T C M E} (start : IndexStart) {c : C} {m : M}
      (named : call.start ≡ Indices start) (by_last : (o : Option ℕ) (p : ℕ) → IfSome o (λ q. q ≡ p) → call.by o p)
      (first_is : (kept : Registry T) → first_of kinds.Indices base.capacity (Indices start) kept ≡ Some (call.flight c m))
      (free : (holders : List (Option ℕ)) (p : ℕ) → first_row (call_rows base.capacity holders p start) ≡ None) where
    -- a call that is no release begins for a party of the pass, which the machine finds
    -- without a call under way
    pub plain_starts : (t : Trace T) (owner : ℕ → ℕ) (j : ℕ) → IsPassRun code base t → owner j ≡ j
        → IfSome base.party (λ p. owner p ≡ j)
        → ((f : Event T → ℕ) → sum_by f base.made ≡ sum_by (owned owner j f) t.events)
        → Starts code kinds.Indices call base c m t owner j
    plain_starts t owner j run self party sums =
        starts_by_last by_last self party first_here may
      where
        -- the machine keeps who holds each index
        kept : (holders : List (Option ℕ)) × (t.world.kept ≡ registries.Indices holders)
        kept = kept_there code base t run

        -- the model has this call
        is_some : is_none (first_of kinds.Indices base.capacity (Indices start) t.world.kept) ≡ false
        is_some = ap is_none (first_is t.world.kept)

        -- the machine does not refuse the begin of this call by any party
        may : (p : ℕ) → first_row (begin_rows kinds.Indices base.capacity t.world.kept p call.start) ≡ None
        may p = rw (named, is_some) (subst (λ k. first_row (kept_rows base.capacity start k p) ≡ None) (sym kept.1) (free kept.0 p))

        -- the machine has this call, at its first stage
        first_here : first_of kinds.Indices base.capacity call.start t.world.kept ≡ Some (call.flight c m)
        first_here = rw named (first_is t.world.kept)

  -- a release may, as that of the pass's parties which holds the index
  module _ {C M E : Type 0} {call : Calling T C M E} {index : ℕ} (mode : ReleaseMode) {c : C} {m : M}
      (named : call.start ≡ Indices (Release index mode)) (by_any : (o : Option ℕ) (p : ℕ) → call.by o p)
      (first_is : (kept : Registry T)
      → first_of kinds.Indices base.capacity (Indices (Release index mode)) kept ≡ Some (call.flight c m))
      (below : index < base.capacity) (held : Holds index base.made) where
    -- a release of an index that the pass holds begins as that of the party which holds it
    pub release_starts : (t : Trace T) (owner : ℕ → ℕ) (j : ℕ) → IsPassRun code base t → owner j ≡ j
        → IfSome base.party (λ p. owner p ≡ j)
        → ((f : Event T → ℕ) → sum_by f base.made ≡ sum_by (owned owner j f) t.events)
        → Starts code kinds.Indices call base c m t owner j
    release_starts t owner j run self party sums =
        -- by what the pass made, one of its parties holds the index
        let set = is_index_set t run.of_kind run.reached in
        let kept = kept_there code base t run in
        let by = held_by owner j t.world.capacity index t.events base.made set.holds sums held in
        -- the machine keeps that party as the holder, so it does not refuse the release
        let keeps : KeepsHolders (registries.Indices kept.0) t.events = subst (λ k. KeepsHolders k t.events) kept.1 set.holders in
        let mine : slice_index_or kept.0 index None ≡ Some by.0 = keeps index ∙ by.2 in
        let past : nat_le base.capacity index ≡ false = grind (arith, nat_tests) in
        let tests_same : (by.0 == by.0) ≡ true = grind (arith, nat_tests) in
        let is_some : is_none (first_of kinds.Indices base.capacity (Indices (Release index mode)) t.world.kept) ≡ false =
        ap is_none (first_is t.world.kept) in
        let free : first_row (call_rows base.capacity kept.0 by.0 (Release index mode)) ≡ None = rw (past, mine, tests_same) refl in
        record {
          party = by.0;
          mine = by.1;
          by = by_any base.party by.0;
          first = rw named (first_is t.world.kept);
          may = rw (named, is_some) (subst (λ k. first_row (kept_rows base.capacity (Release index mode) k by.0) ≡ None) (sym kept.1) free);
        }

-- the machines of unique index sets
abbrev pub index_machines : {T : Type 0} → Coding T → LoneMachines T
index_machines code = record { code = code; kind = kinds.Indices; effects = index_effects; size_of = core.size; laws = indices_owe code }
