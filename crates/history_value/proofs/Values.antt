-- The single value as a table that is a machine: what its calls write (`value_effects`), where each step
-- leads, and how a call begins.
use Rattle.history.proofs.Names.{◌≡◌, ℕ, ◌+◌, ◌*◌, false, Option, Some, None, IfSome, List, [], length}
use Rattle.history.proofs.Names.{sum_by, refl, sym, ap, subst, ◌∙◌, arith}
use Rattle.model.specs.declared.event.Event.{Event}
use Rattle.model.specs.declared.event.Start.{Start}
use Rattle.history.proofs.Names.{Coding, first_of, step_of}
use Rattle.model.specs.declared.families.Flight.{Flight}
use Rattle.model.specs.declared.families.Registry.{Registry}
use Rattle.model.specs.declared.families.atomic.AtomicStart.{AtomicStart}
use Rattle.model.specs.declared.families.atomic.calls.AtomicFlight.{AtomicFlight}
use Rattle.history.proofs.Names.{beside_of, after_of, going_rows, IsValue, acted, IsKeptBy, promise_of}
use Rattle.history.proofs.Names.{Each, first_row, answer_in, Trace, stands_there}
use Rattle.model.specs.declared.event.Start.TheVariants.{Atomic}
use Rattle.model.specs.declared.families.Flight.TheVariants as flights
use Rattle.model.specs.declared.families.Registry.TheVariants as registries
use Rattle.model.specs.declared.families.atomic.AtomicStart.TheVariants as starts
use Rattle.model.specs.declared.families.atomic.AtomicStart.TheVariants.{AcquireProducer, ReleaseProducer, Store}
use Rattle.model.specs.declared.families.atomic.AtomicStart.TheVariants.{Load}
use Rattle.model.specs.declared.families.atomic.calls.AtomicFlight.TheVariants as calls
use Rattle.model.specs.declared.turn.Kind.TheVariants as kinds
use Rattle.model.specs.Families.Atomic.Calls.{after}
use Rattle.model.specs.Families.Atomic.Opening.{lacks_role, kept_rows}
use Rattle.model.specs.Families.Atomic.Reading.{holder_after, holder_of}
use Rattle.model.specs.Families.Atomic.Roles.{GrantsRight, KeepsHolder}
use Rattle.model.proofs.Frame as frame
use Rattle.laws_value.proofs.Invariant.{Value, family}
use Rattle.laws_value.proofs.Sound.{kept_on, sound_on}
use Rattle.history.specs.declared.view.View.{View}
use Rattle.history.specs.History.{IsRun, call_in}
use Rattle.history.specs.Known.{owned}
use Rattle.history.specs.Stages.{Starts, Calling}
use Rattle.history_value.specs.Value.{takes_producer, gives_producer, HasProducer}
use Rattle.history.proofs.Calls.{stands, IsStateless}
use Rattle.history.proofs.Known.{AreOf}
use Rattle.history.proofs.Ledger.{Moves, held_by_one}
use Rattle.history.proofs.Paid.{Pays, progress_kept, pays_run}
use Rattle.history.proofs.KindLaws.{CallGoesOn, KindLaws, LoneMachines, goes_on_so}

module _ {T : Type 0} where
  -- the start of a call under way, by its flight
  abbrev start_of : AtomicFlight T → AtomicStart T
  start_of (calls.Acquire run) = AcquireProducer
  start_of (calls.Release run) = ReleaseProducer
  start_of (calls.Store run) = Store run.given
  start_of (calls.Load run) = Load
  start_of (calls.Look run) = starts.HasProducer
  start_of (calls.Version run) = starts.Version

  -- what a step of a call on the single value writes
  abbrev pub value_effects : Coding T → ℕ → Flight T → ℕ → List (Event T)
  value_effects code p (flights.Atomic flight) found = acted p (start_of flight) (answer_in (after code flight found))
  value_effects code p flight found = []

  -- the effects of a step are events of its party
  effects_own : (code : Coding T) (p : ℕ) (flight : Flight T) (n : ℕ) → AreOf p (value_effects code p flight n)
  effects_own = grind arith

  -- where a step leads a call of the value, and what it writes, whatever the call
  record StepFacts (z : Coding T) (words : List ℕ) (waits : Option (ℕ × ℕ)) (p n : ℕ) (start : Start T) (flight : Flight T) (kept : Registry T) : Type 0 where
    -- nothing refuses the step; its effects are `value_effects`, and it leads where the call's flight says
    pub may : first_row (going_rows z kept (Some flight) None) ≡ None
    pub writes : (step_of z words waits p start flight n kept).wrote ≡ value_effects z p flight n
    pub goes : (step_of z words waits p start flight n kept).after ≡ after_of z flight n

  -- these facts hold of each call that the value's laws have under way
  facts : (z : Coding T) (words : List ℕ) (waits : Option (ℕ × ℕ)) (c p n : ℕ) (s : Value) (start : Start T)
      (flight : Flight T) (kept : Registry T)
      → kept ≡ registries.Atomic s.holder → (family z c).At s p start flight
      → StepFacts z words waits p n start flight kept
  facts = grind arith

-- ---- the laws of single values

module _ {T : Type 0} (code : Coding T) (capacity : ℕ) where
  -- the machine is one of a run of a single value
  abbrev IsValueRun : Trace T → Type 0
  IsValueRun t = IsRun code kinds.Atomic capacity t

  -- a run of a single value keeps the invariant of its laws
  pub value_sound : {t : Trace T} → IsValueRun t → frame.Sound (family t.world.coding t.world.capacity) t
  value_sound {t} is_on = sound_on t is_on.of_kind is_on.reached.coded is_on.fresh

  -- a reached value has a version, a role and two cells
  size : (t : Trace T) → IsValueRun t → length t.world.words ≡ 2 + code.size * 2
  size t is_on =
      let is_sound = value_sound is_on in
      let cells : length is_sound.state.core.cells ≡ code.size * 2 = is_sound.holds.good.cells ∙ ap (λ (z : Coding T). z.size * 2) is_on.coded in
      ap length is_sound.fit.words ∙ omega arith

  -- a step of a call under way may be taken, writes events of its own party alone, and goes on as the call does
  goes_on : (t : Trace T) → IsValueRun t → (p : ℕ) (start : Start T) (flight : Flight T)
      → call_in t.world p ≡ Some (start, flight)
      → CallGoesOn code kinds.Atomic capacity (2 + code.size * 2) (value_effects code) t p flight
  goes_on t is_on p start flight call_is =
      let is_sound = value_sound is_on in
      let here = stands t.world p start flight call_is in
      let there = stands_there (family t.world.coding t.world.capacity) t is_sound p here.x here.since flight here.found here.doing in
      let waits = beside_of t.world.words t.world.kept t.world.latest p in
      let facts_here = facts t.world.coding t.world.words waits t.world.capacity p in
      let fact = λ (n : ℕ). facts_here n is_sound.state here.x.start flight t.world.kept is_sound.fit.kept there.at in
      goes_on_so here (fact 0).may (λ n. effects_own code p flight n)
      (λ n. (fact n).writes ∙ ap (λ (z : Coding T). value_effects z p flight n) is_on.coded) (λ n. (fact n).goes)

  -- single values keep the laws of a kind: what their steps write, and where they lead
  pub value_owes : KindLaws code kinds.Atomic capacity (2 + code.size * 2) (value_effects code)
  value_owes = record {
    size = size;
    goes_on = goes_on;
    alone = λ going late h. h;
    stateless = λ t r. (let is_sound = value_sound r in subst IsStateless (sym is_sound.fit.kept) tt);
  }

  -- a run of a single value is a reached one, as the value's laws have it
  pub value_goes_on : (t : Trace T) → IsValueRun t → IsValue t
  value_goes_on t is_on = (subst (λ P. IsKeptBy P t) (ap (promise_of {T = T}) is_on.of_kind) (kept_on t is_on.of_kind is_on.reached.coded is_on.fresh)).promised

  -- each call takes at most the steps that the model promises of a single value
  pub value_pays : Pays code kinds.Atomic capacity
  value_pays t r =
      (let is_sound = value_sound r in
      let F = family t.world.coding t.world.capacity in
      pays_run r refl is_sound
      (progress_kept r refl is_sound (kept_on t r.of_kind r.reached.coded r.fresh)))

-- ---- a pass that holds the role has a party that holds it

module _ {T : Type 0} (owner : ℕ → ℕ) (j : ℕ) where
  -- the event moves the producer's role as it is counted: acquired where nobody holds it,
  -- given back by its holder
  abbrev MovesIt : List (Event T) → Event T → Type 0
  MovesIt = Moves takes_producer gives_producer holder_after owner j

  -- an event that grants the role rightly moves the role as it is counted
  moves : (before : List (Event T)) (e : Event T) → GrantsRight before e → MovesIt before e
  moves = grind arith

  -- each event of a history in which the role is granted rightly moves it as it is counted
  all_move : (all : List (Event T)) → Each GrantsRight all → Each MovesIt all
  all_move all each before after e is = moves before e (each before after e is)

  -- a pass that made an acquire more than it gave back has the party that holds the role
  pub producer_by : (all made : List (Event T)) → Each GrantsRight all
      → ((f : Event T → ℕ) → sum_by f made ≡ sum_by (owned owner j f) all) → HasProducer made
      → (p : ℕ) × (owner p ≡ j) × (holder_of all ≡ Some p)
  producer_by all made each sums has = held_by_one takes_producer gives_producer holder_after owner j made (all_move all each) sums has

-- ---- which party may begin a call

-- by every measure, what the pass has made is what its parties wrote
abbrev MadeByParties : {T : Type 0} → View T → Trace T → (ℕ → ℕ) → ℕ → Type 0
MadeByParties {T} base t owner j = (f : Event T → ℕ) → sum_by f base.made ≡ sum_by (owned owner j f) t.events

module _ {T : Type 0} (code : Coding T) (base : View T) where
  -- the machine is one of a run of a single value, of the pass's capacity
  abbrev IsPassRun : Trace T → Type 0
  IsPassRun t = IsRun code kinds.Atomic base.capacity t

  -- a machine of a single value keeps who holds the producer's role
  kept_there : (t : Trace T) → IsPassRun t → (holder : Option ℕ) × (t.world.kept ≡ registries.Atomic holder)
  kept_there t is_pass_run = let is_sound = value_sound code base.capacity is_pass_run in (is_sound.state.holder, is_sound.fit.kept)

-- a call of the driver at its first stage, on a pass with the view base, is a call `start` of the model on a single value
module _ {T C M E : Type 0} {code : Coding T} {base : View T} {call : Calling T C M E} (start : AtomicStart T)
    {c : C} {m : M} (is_named : call.start ≡ Atomic start)
    (first_is : (kept : Registry T) → first_of kinds.Atomic base.capacity (Atomic start) kept ≡ Some (call.flight c m)) where
  -- the call may begin as that of party p, whom the machine finds without a call under way
  as_party : {t : Trace T} {owner : ℕ → ℕ} {j : ℕ} (p : ℕ) → IsPassRun code base t → owner p ≡ j → call.by base.party p
      → {holder : Option ℕ} → t.world.kept ≡ registries.Atomic holder → lacks_role holder p start ≡ false
      → Starts code kinds.Atomic call base c m t owner j
  as_party {t} p run mine by kept_is lacks =
      let free : first_row (kept_rows start t.world.kept p) ≡ None = subst (λ k. first_row (kept_rows start k p) ≡ None) (sym kept_is) (rw lacks refl) in
      record {
        party = p;
        mine = mine;
        by = by;
        first = rw is_named (first_is t.world.kept);
        may = rw is_named free;
      }

  -- a call that needs no role begins as that of the party that the pass was last, or of the pass's own number
  pub plain_starts : ((o : Option ℕ) (p : ℕ) → IfSome o (λ q. q ≡ p) → call.by o p) → ((holder : Option ℕ) (p : ℕ) → lacks_role holder p start ≡ false)
      → (t : Trace T) (owner : ℕ → ℕ) (j : ℕ) → IsPassRun code base t → owner j ≡ j → IfSome base.party (λ p. owner p ≡ j)
      → MadeByParties base t owner j → Starts code kinds.Atomic call base c m t owner j
  plain_starts by_last free t owner j run self party sums = go base.party refl party
    where
      -- the machine keeps who holds the producer's role
      kept : (holder : Option ℕ) × (t.world.kept ≡ registries.Atomic holder)
      kept = kept_there code base t run

      -- whether the pass was a party last or not, the call begins, as that party or as the one of the pass's own number
      go : (o : Option ℕ) → base.party ≡ o → IfSome o (λ p. owner p ≡ j) → Starts code kinds.Atomic call base c m t owner j
      go None party_is if_some =
          as_party j run self
          (by_last base.party j (subst (λ (z : Option ℕ). IfSome z (λ q. q ≡ j)) (sym party_is) tt)) kept.1
          (free kept.0 j)
      go (Some p) party_is if_some =
          as_party p run if_some
          (by_last base.party p (subst (λ (z : Option ℕ). IfSome z (λ q. q ≡ p)) (sym party_is) refl)) kept.1
          (free kept.0 p)

  -- a call that needs the producer's role begins as that of the pass's party which holds the role
  pub producer_starts : ((o : Option ℕ) (p : ℕ) → call.by o p)
      → ((holder : Option ℕ) (p : ℕ) → holder ≡ Some p → lacks_role holder p start ≡ false) → HasProducer base.made
      → (t : Trace T) (owner : ℕ → ℕ) (j : ℕ) → IsPassRun code base t → owner j ≡ j → IfSome base.party (λ p. owner p ≡ j)
      → MadeByParties base t owner j → Starts code kinds.Atomic call base c m t owner j
  producer_starts by_any free has t owner j run self party sums =
      let value = value_goes_on code base.capacity t run in
      let kept = kept_there code base t run in
      let by_this_party = producer_by owner j t.events base.made value.roles sums has in
      let keeps : KeepsHolder (registries.Atomic kept.0) t.events = subst (λ k. KeepsHolder k t.events) kept.1 value.holder in
      as_party by_this_party.0 run by_this_party.1 (by_any base.party by_this_party.0) kept.1
      (free kept.0 by_this_party.0 (keeps ∙ by_this_party.2))

-- the machines of single values
abbrev pub value_machines : {T : Type 0} → Coding T → LoneMachines T
value_machines code =
    record { code = code; kind = kinds.Atomic; effects = value_effects code; size_of = λ capacity. 2 + code.size * 2; laws = value_owes code }
