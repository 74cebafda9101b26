-- Robust index sets as tables that are machines: what their calls write (`robust_effects`), where each step
-- leads, and how a call begins.
use Rattle.std.proofs.Common.{arith}
use Rattle.history.proofs.Names.{◌≡◌, ℕ, ◌+◌, false, Option, Some, None, is_none, IfSome, List, [], length, sum_by, refl}
use Rattle.history.proofs.Names.{sym, ap, subst, ◌∙◌, Coding, first_of}
use Rattle.model.specs.declared.event.Event.{Event}
use Rattle.model.specs.declared.event.Start.{Start}
use Rattle.model.specs.declared.families.Flight.{Flight}
use Rattle.model.specs.declared.families.Registry.{Registry}
use Rattle.history.proofs.Names.{begin_rows, step_of, beside_of, after_of, going_rows, has_died, SetAct, set_acts_of}
use Rattle.history.proofs.Names.{first_row, Trace, stands_there}
use Rattle.laws_robust.specs.Gone.{Word}
use Rattle.laws_robust.specs.Open.{IsOpenSet}
use Rattle.lemmas_owners.proofs.Alive.{AllLive}
use Rattle.model.specs.declared.event.Start.TheVariants.{Robust}
use Rattle.model.specs.declared.families.Flight.TheVariants as flights
use Rattle.model.specs.declared.families.Registry.TheVariants as registries
use Rattle.model.specs.declared.families.indices.robust.RobustStart.{RobustStart}
use Rattle.model.specs.declared.turn.Kind.TheVariants as kinds
use Rattle.model.specs.Families.Indices.Robust.Opening.{call_rows, kept_rows}
use Rattle.model.specs.Families.Indices.Robust.Steps.{effects}
use Rattle.model.proofs.Frame as frame
use Rattle.laws_robust.proofs.Invariant.{RobustSet, FlightAt, family_by}
use Rattle.laws_robust.proofs.Living.{has_not_died, step_is_free}
use Rattle.laws_robust.proofs.OpenRuns.{reached_open_sound, reached_open_lives, reached_open_kept}
use Rattle.laws_robust.proofs.Kept.{held_paid, steps_most}
use Rattle.laws_robust.proofs.Wide.{reached_open_wide}
use Rattle.history.specs.declared.view.View.{View}
use Rattle.history.specs.History.{IsRun, call_in}
use Rattle.history.specs.Known.{owned}
use Rattle.history.specs.Stages.{Starts, Calling}
use Rattle.history.proofs.Calls.{stands, IsStateless}
use Rattle.history.proofs.Known.{AreOf}
use Rattle.history.proofs.Starting.{starts_by_last}
use Rattle.history.proofs.Paid.{Pays, progress_within, pays_run}
use Rattle.history.proofs.KindLaws.{CallGoesOn, KindLaws, LoneMachines, goes_on_so}

module _ {T : Type 0} where
  -- what a step of a call on a robust index set writes
  abbrev pub robust_effects : ℕ → Flight T → ℕ → List (Event T)
  robust_effects p (flights.Robust flight) old = effects p flight old
  robust_effects p flight old = []

  -- the effects of a step are events of its party
  effects_own : (p : ℕ) (flight : Flight T) (n : ℕ) → AreOf p (robust_effects p flight n)
  effects_own = grind arith

-- how many words a set has: a counter, and a cell for each index
abbrev pub cells_and_counter : ℕ → ℕ
cells_and_counter capacity = capacity + 1

module _ {T : Type 0} (code : Coding T) (capacity : ℕ) where
  -- the machine is one of a run of a robust index set of this capacity
  abbrev pub IsRobust : Trace T → Type 0
  IsRobust t = IsRun code kinds.Robust capacity t

  -- an open run of a robust set keeps the invariant of its laws
  robust_sound : {t : Trace T} → IsRobust t → frame.Sound (family_by Word t.world.coding t.world.capacity) t
  robust_sound {t} robust = reached_open_sound t robust.of_kind robust.reached

  -- in an open run nobody has died
  all_live : (t : Trace T) → IsRobust t → AllLive t.events
  all_live t robust = reached_open_lives t robust.of_kind robust.reached

  -- the promise of the model of each open run of a robust index set
  pub is_open_set : (t : Trace T) → IsRobust t → IsOpenSet t
  is_open_set t robust = reached_open_kept t robust.of_kind robust.reached

  -- a robust set has a counter and a cell for each index
  pub robust_size : (t : Trace T) → IsRobust t → length t.world.words ≡ cells_and_counter capacity
  robust_size t robust = reached_open_wide t robust.of_kind robust.reached ∙ ap (λ n. n + 1) robust.sized

  -- nothing that is tested of a pending call refuses its step
  no_rows : (t : Trace T) → IsRobust t → (c : ℕ) (all : List SetAct) (start : Start T) (flight : Flight T) → FlightAt c all start flight
      → first_row (going_rows t.world.coding t.world.kept (Some flight) None) ≡ None
  no_rows t robust c all (Robust start) (flights.Robust flight) flight_at = step_is_free t.world.coding t.world.capacity t (robust_sound robust)
      (all_live t robust) flight
  no_rows t robust c all start flight flight_at = absurd flight_at

  -- what the model's step of a call writes is what `robust_effects` says
  writes_there : (z : Coding T) (words : List ℕ) (beside : Option (ℕ × ℕ)) (c p old : ℕ) (all : List SetAct) (kept : Registry T) (s : RobustSet T)
      (start : Start T) (flight : Flight T) → kept ≡ registries.Owners s.dead → FlightAt c all start flight
      → (step_of z words beside p start flight old kept).wrote ≡ robust_effects p flight old
  writes_there = grind arith

  -- where the model's step of a call leads does not depend on what the machine keeps
  goes_there : (z : Coding T) (words : List ℕ) (beside : Option (ℕ × ℕ)) (c p old : ℕ) (all : List SetAct) (kept : Registry T) (s : RobustSet T)
      (start : Start T) (flight : Flight T) → kept ≡ registries.Owners s.dead → FlightAt c all start flight
      → (step_of z words beside p start flight old kept).after ≡ after_of z flight old
  goes_there = grind arith

  -- each step of a call under way writes events of its own party, and leads where the set's laws say
  goes_on : (t : Trace T) → IsRobust t → (p : ℕ) (start : Start T) (flight : Flight T) → call_in t.world p ≡ Some (start, flight)
      → CallGoesOn code kinds.Robust capacity (cells_and_counter capacity) robust_effects t p flight
  goes_on t robust p start flight call_is =
      let world_now = t.world in
      let is_sound = robust_sound robust in
      let here = stands world_now p start flight call_is in
      let there = stands_there (family_by Word world_now.coding world_now.capacity) t is_sound p here.x here.since flight here.found here.doing in
      let done : List SetAct = set_acts_of p is_sound.state.events in
      let mine : FlightAt world_now.capacity done here.x.start flight = there.at in
      -- what the laws of the set say of its calls on this machine
      let beside = beside_of world_now.words world_now.kept world_now.latest p in
      let writes_here = writes_there world_now.coding world_now.words beside world_now.capacity p in
      let goes_here = goes_there world_now.coding world_now.words beside world_now.capacity p in
      goes_on_so here
      (no_rows t robust world_now.capacity done here.x.start flight mine) (λ n. effects_own p flight n)
      (λ n. writes_here n done world_now.kept is_sound.state here.x.start flight is_sound.fit.kept mine)
      (λ n. goes_here n done world_now.kept is_sound.state here.x.start flight is_sound.fit.kept mine)

  -- robust index sets keep the laws of a kind: what their steps write, and where they lead
  pub robusts_owe : KindLaws code kinds.Robust capacity (cells_and_counter capacity) robust_effects
  robusts_owe = record {
    size = robust_size;
    goes_on = goes_on;
    alone = λ going late h. h;
    stateless = λ t r. (let is_sound = robust_sound r in subst IsStateless (sym is_sound.fit.kept) tt);
  }

  -- the bounds of a set's calls, as the laws of all kinds need them
  robust_bounds : (z : Coding T) (c : ℕ) → frame.Bounds (family_by Word z c)
  robust_bounds = grind (arith, steps_most, held_paid)

  -- each call takes at most the steps that the model promises of a robust index set
  pub robust_pays : Pays code kinds.Robust capacity
  robust_pays t r =
      (let is_sound = robust_sound r in
      let F = family_by Word t.world.coding t.world.capacity in
      pays_run r refl is_sound
      (progress_within r refl is_sound (robust_bounds t.world.coding t.world.capacity)))

-- ---- which party may begin a call

module _ {T : Type 0} (code : Coding T) (base : View T) where
  -- the machine is one of a run of a robust index set of the pass's capacity
  abbrev IsPassRun : Trace T → Type 0
  IsPassRun t = IsRun code kinds.Robust base.capacity t

  -- in an open run the machine keeps nobody as dead
  kept_there : (t : Trace T) → IsPassRun t → (dead : List ℕ) × (t.world.kept ≡ registries.Owners dead) × ((owner : ℕ) → has_died owner dead ≡ false)
  kept_there t is_on =
      let is_sound = robust_sound code base.capacity is_on in (
        is_sound.state.dead,
        is_sound.fit.kept,
        λ owner. has_not_died t.world.coding t.world.capacity t is_sound
            (all_live code base.capacity t is_on) owner,
      )

module _ {T : Type 0} {code : Coding T} {base : View T} where
  -- each call that the set has may, as the party that the pass was last
  module _ {C M E : Type 0} {call : Calling T C M E} (start : RobustStart) {c : C} {m : M} (named : call.start ≡ Robust start)
      (by_last : (o : Option ℕ) (p : ℕ) → IfSome o (λ q. q ≡ p) → call.by o p)
      (first_is : (kept : Registry T) → first_of kinds.Robust base.capacity (Robust start) kept ≡ Some (call.flight c m))
      (free : (dead : List ℕ) → ((owner : ℕ) → has_died owner dead ≡ false) → first_row (call_rows base.capacity dead start) ≡ None) where
    -- a call begins for a party of the pass, which the machine finds without a call under way
    pub robust_starts : (t : Trace T) (owner : ℕ → ℕ) (j : ℕ) → IsPassRun code base t → owner j ≡ j → IfSome base.party (λ p. owner p ≡ j)
        → ((f : Event T → ℕ) → sum_by f base.made ≡ sum_by (owned owner j f) t.events)
        → Starts code kinds.Robust call base c m t owner j
    robust_starts t owner j run self party sums =
        starts_by_last by_last self party first_here may
      where
        -- in an open run the machine keeps nobody as dead
        kept : (dead : List ℕ) × (t.world.kept ≡ registries.Owners dead) × ((owner : ℕ) → has_died owner dead ≡ false)
        kept = kept_there code base t run

        -- the model has this call
        is_some : is_none (first_of kinds.Robust base.capacity (Robust start) t.world.kept) ≡ false
        is_some = ap is_none (first_is t.world.kept)

        -- the machine does not refuse the begin of this call by any party
        may : (p : ℕ) → first_row (begin_rows kinds.Robust base.capacity t.world.kept p call.start) ≡ None
        may p = rw (named, is_some) (subst (λ k. first_row (kept_rows base.capacity start k p) ≡ None) (sym kept.1) (free kept.0 kept.2))

        -- the machine has this call, at its first stage
        first_here : first_of kinds.Robust base.capacity call.start t.world.kept ≡ Some (call.flight c m)
        first_here = rw named (first_is t.world.kept)

-- the machines of robust index sets
abbrev pub robust_machines : {T : Type 0} → Coding T → LoneMachines T
robust_machines code = record { code = code; kind = kinds.Robust; effects = robust_effects; size_of = cells_and_counter; laws = robusts_owe code }
