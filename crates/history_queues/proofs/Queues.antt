-- The kinds of queues as tables that are machines: how many words they have, what their calls write
-- (`ring_effects`), that each step leads where the queue's laws say, and how a call begins.
use Rattle.history.proofs.Names.{◌≡◌, ℕ, ◌+◌, ◌*◌, false, Option, Some, None, IfSome, List, [], length, sum_by, fold}
use Rattle.history.proofs.Names.{refl, sym, ap, subst, ◌∙◌, arith}
use Rattle.model.specs.declared.event.Event.{Event}
use Rattle.model.specs.declared.event.Start.{Start}
use Rattle.model.specs.declared.event.Start.TheVariants.{Queues}
use Rattle.model.specs.declared.families.Flight.{Flight}
use Rattle.model.specs.declared.families.Registry.{Registry}
use Rattle.model.specs.declared.families.queues.QueueKind.{QueueKind}
use Rattle.model.specs.declared.families.queues.QueueStart.{QueueStart}
use Rattle.model.specs.declared.families.queues.QueueStart.TheVariants.{PushIndex, Pop}
use Rattle.model.specs.declared.families.queues.Roles.{Roles}
use Rattle.model.specs.declared.families.queues.calls.QueueFlight.{QueueFlight}
use Rattle.model.specs.declared.families.queues.calls.QueueFlight.TheVariants.{Values}
use Rattle.history.proofs.Names.{Coding, first_of, step_of, beside_of, after_of, going_rows, read_in}
use Rattle.history.proofs.Names.{cells_of, words_of_cell, IsKeptBy, push_effect, pop_effect}
use Rattle.history.proofs.Names.{first_row, answer_in, Trace, stands_there}
use Rattle.laws_queues.proofs.Queues.Invariant.{machine_kind}
use Rattle.laws_queues.proofs.Queues.Sound.{promised_by}
use Rattle.laws_queues.proofs.Queues.Knows.{free}
use Rattle.laws_queues.proofs.Queues.Values.{Val, encoded}
use Rattle.laws_queues.proofs.Ring.Kinds.{Ring, of_indices, of_values, kind_of}
use Rattle.model.specs.declared.event.Item.TheVariants.{Index, Value}
use Rattle.model.specs.declared.families.Flight.TheVariants as flights
use Rattle.model.specs.declared.families.Registry.TheVariants as registries
use Rattle.model.specs.declared.families.queues.QueueKind.TheVariants as queues
use Rattle.model.specs.declared.families.queues.QueueKind.TheVariants.{IndexQueue}
use Rattle.model.specs.declared.families.queues.QueueStart.TheVariants.{Push}
use Rattle.model.specs.declared.families.queues.calls.RingCall.TheVariants as rings
use Rattle.model.specs.declared.families.queues.calls.QueueFlight.TheVariants.{Indices}
use Rattle.model.specs.declared.turn.Kind.TheVariants as kinds
use Rattle.model.specs.Families.Queues.Calls.{after}
use Rattle.model.specs.Families.Queues.Opening.{lacks_role, kept_rows}
use Rattle.model.specs.Families.Queues.Promises.{IsQueue, promise}
use Rattle.model.specs.Families.Queues.Roles.{KeepsHolders}
use Rattle.steps.specs.declared.queues.roles.Role.{Role}
use Rattle.model.specs.Families.Queues.Steps.{effects_of}
use Rattle.model.proofs.Frame as frame
use Rattle.laws_queues.proofs.Queues.Invariant.{Queue, family}
use Rattle.laws_queues.proofs.Queues.Sound.{kept_on, sound_on}
use Rattle.history.specs.declared.view.View.{View}
use Rattle.history.specs.Known.{owned}
use Rattle.history.specs.Roles.{holder, role_after, HasRole}
use Rattle.history.specs.Stages.{Starts, Calling, rows_as}
use Rattle.history.proofs.Roles.{role_by}
use Rattle.history.specs.History.{IsRun, IsLate, call_in}
use Rattle.history.proofs.Known.{AreOf}
use Rattle.history.proofs.Calls.{stands, IsStateless}
use Rattle.history_queues.proofs.QueueRuns.{queue_run}
use Rattle.model.specs.Promises.Families.{promise_of}
use Rattle.history.proofs.Paid.{Pays, progress_kept, pays_run}
use Rattle.history.proofs.KindLaws.{CallGoesOn, KindLaws, LoneMachines, goes_on_so}

-- who holds the role by the machine's record holds it by the events
held_there : {T : Type 0} (role : Role) (roles : Roles) (events : List (Event T))
    → KeepsHolders (registries.Queues roles) events → holder role roles ≡ fold (role_after role) None events
held_there = grind arith

module _ {T : Type 0} (code : Coding T) where
  -- what a step of a call on a bounded queue writes
  abbrev pub ring_effects : ℕ → QueueFlight T → ℕ → List (Event T)
  ring_effects p (Indices (rings.Push run)) old =
      effects_of p (PushIndex run.given) (push_effect (Index run.given) run.call.stage)
      (answer_in (after code (Indices (rings.Push run)) old))
  ring_effects p (Indices (rings.Pop run)) old =
      effects_of p Pop (pop_effect (Index run.room.0) run.call.stage) (answer_in (after code (Indices (rings.Pop run)) old))
  ring_effects p (Values (rings.Push run)) old =
      effects_of p (Push run.given) (push_effect (Value run.given) run.call.stage)
      (answer_in (after code (Values (rings.Push run)) old))
  ring_effects p (Values (rings.Pop run)) old =
      effects_of p Pop (pop_effect (Value (read_in code run.room)) run.call.stage)
      (answer_in (after code (Values (rings.Pop run)) old))
  ring_effects p flight old = []

  -- what a step of a call on a bounded queue writes, as the effects of any call
  abbrev pub queue_effects : ℕ → Flight T → ℕ → List (Event T)
  queue_effects p (flights.Queues flight) old = ring_effects p flight old
  queue_effects p flight old = []

  -- ---- the effects of a step are events of its party

  -- the effects of a step are events of its party
  effects_own : (p : ℕ) (flight : Flight T) (n : ℕ) → AreOf p (queue_effects p flight n)
  effects_own = grind arith

-- ---- queues of any kind

module _ {T : Type 0} (code : Coding T) (capacity : ℕ) (kd : QueueKind) where
  -- the machine is one of a run of a queue of this kind and capacity
  abbrev pub IsOf : Trace T → Type 0
  IsOf t = IsRun code (machine_kind kd) capacity t

  -- a run of a queue keeps the invariant of its laws
  pub sound_of : (t : Trace T) → IsOf t → frame.Sound (family t.world.coding kd t.world.capacity) t
  sound_of = grind (arith, queue_run, sound_on)

  -- the cells of a queue have as many words as its items of this coding, each in its cell
  cell_sizes : (q : QueueKind) (z : Coding T) → (encoded z q).size * cells_of q capacity ≡ words_of_cell z.size q * cells_of q capacity
  cell_sizes IndexQueue z = refl
  cell_sizes queues.Overflow z = refl
  cell_sizes queues.Queue z = refl

  -- a reached queue has four words and those of its cells
  pub sized_so : (t : Trace T) → IsOf t → length t.world.words ≡ 4 + words_of_cell code.size kd * cells_of kd capacity
  sized_so = grind (arith, sound_of, words_of_cell, cells_of, cell_sizes)

-- ---- the laws of bounded queues, of indices or of values

module _ {T : Type 0} (code : Coding T) (capacity : ℕ) (r : Ring) where
  -- the machine is one of a run of a bounded queue of this capacity
  abbrev IsBoundedRun : Trace T → Type 0
  IsBoundedRun t = IsRun code (machine_kind (kind_of r)) capacity t

  -- how many words the table of a bounded queue has
  abbrev pub ring_words : ℕ
  ring_words = 4 + words_of_cell code.size (kind_of r) * capacity

  -- a bounded queue has as many cells as its capacity
  as_many : (q : Ring) → cells_of (kind_of q) capacity ≡ capacity
  as_many of_indices = refl
  as_many of_values = refl

  -- a bounded queue has as many words as its kind says
  size : (t : Trace T) → IsBoundedRun t → length t.world.words ≡ ring_words
  size t run = sized_so code capacity (kind_of r) t run ∙ ap (λ n. 4 + words_of_cell code.size (kind_of r) * n) (as_many r)

  -- where a step leads a call of the queue, and what it writes, whatever the call
  record StepFacts (z : Coding T) (words : List ℕ) (waits : Option (ℕ × ℕ)) (p n : ℕ) (start : Start T) (flight : Flight T) (kept : Registry T) : Type 0 where
    -- nothing refuses the step; its effects are `queue_effects`, and it leads where the call's flight says
    pub may : first_row (going_rows z kept (Some flight) None) ≡ None
    pub writes : (step_of z words waits p start flight n kept).wrote ≡ queue_effects z p flight n
    pub goes : (step_of z words waits p start flight n kept).after ≡ after_of z flight n

  -- these facts hold of each call that the queue's laws have under way
  facts : (z : Coding T) (words : List ℕ) (waits : Option (ℕ × ℕ)) (c p n : ℕ) (q : Queue (Val T (kind_of r)))
      (start : Start T) (flight : Flight T) (kept : Registry T)
      → kept ≡ registries.Queues q.roles → (family z (kind_of r) c).At q p start flight
      → StepFacts z words waits p n start flight kept
  facts = grind arith

  -- each step of a call under way leads where the queue's table says
  goes_on : (t : Trace T) → IsBoundedRun t → (p : ℕ) (start : Start T) (flight : Flight T)
      → call_in t.world p ≡ Some (start, flight)
      → CallGoesOn code (machine_kind (kind_of r)) capacity ring_words (queue_effects code) t p flight
  goes_on t run p start flight call_is =
      let is_sound = sound_of code capacity (kind_of r) t run in
      let here = stands t.world p start flight call_is in
      let there = stands_there (family t.world.coding (kind_of r) t.world.capacity) t is_sound p here.x here.since flight here.found here.doing in
      let waits = beside_of t.world.words t.world.kept t.world.latest p in
      let facts_here = facts t.world.coding t.world.words waits t.world.capacity p in
      let fact = λ (n : ℕ). facts_here n is_sound.state here.x.start flight t.world.kept is_sound.fit.kept there.at in
      goes_on_so here (fact 0).may (λ n. effects_own code p flight n)
      (λ n. (fact n).writes ∙ ap (λ (z : Coding T). queue_effects z p flight n) run.coded) (λ n. (fact n).goes)

  -- bounded queues keep the laws of a kind: what their steps write, and where they lead
  pub ring_owes : KindLaws code (machine_kind (kind_of r)) capacity ring_words (queue_effects code)
  ring_owes = record {
    size = size;
    goes_on = goes_on;
    alone = alone r;
    stateless = λ t run. (let is_sound = sound_of code capacity (kind_of r) t run in subst IsStateless (sym is_sound.fit.kept) tt);
  }
    where
      -- nothing is late for a call on a bounded queue
      alone : (q : Ring) (going : Option (Start T × Flight T)) (late : List (Event T)) → IsLate (machine_kind (kind_of q)) going late → late ≡ []
      alone of_indices going late is_late = is_late
      alone of_values going late is_late = is_late

module _ {T : Type 0} (code : Coding T) (capacity : ℕ) where
  -- index queues keep the laws of a kind
  pub index_owes : KindLaws code kinds.IndexQueue capacity (4 + capacity) (queue_effects code)
  index_owes = let one : 4 + 1 * capacity ≡ 4 + capacity = omega arith in
      subst (λ n. KindLaws code kinds.IndexQueue capacity n (queue_effects code)) one (ring_owes code capacity of_indices)

  -- queues of values keep the laws of a kind
  pub values_owe : KindLaws code kinds.Queue capacity (4 + code.size * capacity) (queue_effects code)
  values_owe = ring_owes code capacity of_values

-- ---- which party may begin a call on a queue of any kind

module _ {T : Type 0} (code : Coding T) (kd : QueueKind) (base : View T) where
  -- the machine is one of a run of a queue of the pass's capacity
  abbrev IsPassRun : Trace T → Type 0
  IsPassRun t = IsRun code (machine_kind kd) base.capacity t

  -- a run of a queue is a reached one, as the queue's laws have it
  pub queue_goes_on : (t : Trace T) → IsPassRun t → IsQueue kd t
  queue_goes_on t is_on = (let run_here = queue_run code base.capacity kd t is_on in
      (subst (λ P. IsKeptBy P t) (promised_by kd t is_on.of_kind)
      (kept_on kd t is_on.of_kind run_here.reached.coded run_here.reached.admitted run_here.fresh)).promised)

  promise_is : (q : QueueKind) → promise_of {T = T} (machine_kind q) ≡ promise q
  promise_is IndexQueue = refl
  promise_is queues.Overflow = refl
  promise_is queues.Queue = refl

  -- each call takes at most the steps that the model promises of a queue
  pub queue_pays : Pays code (machine_kind kd) base.capacity
  queue_pays t r =
      (let run_here = queue_run code base.capacity kd t r in
      let is_sound = sound_of code base.capacity kd t r in
      let F = family t.world.coding kd t.world.capacity in
      pays_run r (promise_is kd) is_sound
      (progress_kept r (promise_is kd) is_sound
      (kept_on kd t r.of_kind run_here.reached.coded run_here.reached.admitted run_here.fresh)))

  -- a machine of a queue keeps who holds its roles
  kept_there : (t : Trace T) → IsPassRun t → (roles : Roles) × (t.world.kept ≡ registries.Queues roles)
  kept_there t is_on = let is_sound = sound_of code base.capacity kd t is_on in (is_sound.state.roles, is_sound.fit.kept)

  -- what the pass has made, by every measure, is what its parties wrote
  abbrev MadeByParties : Trace T → (ℕ → ℕ) → ℕ → Type 0
  MadeByParties t owner j = (f : Event T → ℕ) → sum_by f base.made ≡ sum_by (owned owner j f) t.events

-- a call of the driver at its first stage, on a pass with the view base, is a call `start` of the model on a queue
module _ {T C M E : Type 0} {code : Coding T} {base : View T} {call : Calling T C M E} {c : C} {m : M} (kd : QueueKind) (start : QueueStart T)
    (named : call.start ≡ Queues start)
    (first_is : (kept : Registry T) → first_of (machine_kind kd) base.capacity (Queues start) kept ≡ Some (call.flight c m)) where
  -- a party that lacks no role for the call may begin it, on a machine that keeps these roles
  as_party : {t : Trace T} {owner : ℕ → ℕ} {j : ℕ} (p : ℕ) → IsPassRun code kd base t → owner p ≡ j → call.by base.party p
      → {roles : Roles} → t.world.kept ≡ registries.Queues roles → lacks_role roles p start ≡ false
      → Starts code (machine_kind kd) call base c m t owner j
  as_party {t} p run mine by kept_is lacks =
      record {
        party = p;
        mine = mine;
        by = by;
        first = rw named (first_is t.world.kept);
        may = rw named (rows kd (first_is t.world.kept));
      }
    where
      -- what the machine keeps refuses no begin of the call
      kept_free : first_row (kept_rows start t.world.kept p) ≡ None
      kept_free = subst (λ k. first_row (kept_rows start k p) ≡ None) (sym kept_is) (rw lacks refl)

      -- nothing that is tested of the begin refuses it, on any kind of queue
      rows : (k : QueueKind) → first_of (machine_kind k) base.capacity (Queues start) t.world.kept ≡ Some (call.flight c m)
          → first_row (rows_as (machine_kind k) base.capacity t.world.kept p (Queues start)) ≡ None
      rows IndexQueue first_is = rw first_is kept_free
      rows queues.Overflow first_is = rw first_is kept_free
      rows queues.Queue first_is = rw first_is kept_free

  -- a call that needs no role begins as that of the party that the pass was last, or of
  -- the pass's own number
  pub plain_begins : ((o : Option ℕ) (p : ℕ) → IfSome o (λ q. q ≡ p) → call.by o p) → ((roles : Roles) (p : ℕ) → lacks_role roles p start ≡ false)
      → (t : Trace T) (owner : ℕ → ℕ) (j : ℕ) → IsPassRun code kd base t → owner j ≡ j → IfSome base.party (λ p. owner p ≡ j)
      → MadeByParties code kd base t owner j → Starts code (machine_kind kd) call base c m t owner j
  plain_begins by_last free t owner j run self party sums = go base.party refl party
    where
      -- the machine keeps who holds the roles
      kept : (roles : Roles) × (t.world.kept ≡ registries.Queues roles)
      kept = kept_there code kd base t run

      -- whether the pass was a party last or not, the call begins, as that party or as the one
      -- of the pass's own number
      go : (o : Option ℕ) → base.party ≡ o → IfSome o (λ p. owner p ≡ j) → Starts code (machine_kind kd) call base c m t owner j
      go None party_is if_some =
          as_party j run self (by_last base.party j (subst (λ (z : Option ℕ). IfSome z (λ q. q ≡ j)) (sym party_is) tt)) kept.1 (free kept.0 j)
      go (Some p) party_is if_some =
          as_party p run if_some (by_last base.party p (subst (λ (z : Option ℕ). IfSome z (λ q. q ≡ p)) (sym party_is) refl)) kept.1 (free kept.0 p)

  -- a call that needs a role begins as that of the pass's party which holds the role
  pub role_begins : (role : Role) → ((o : Option ℕ) (p : ℕ) → call.by o p)
      → ((roles : Roles) (p : ℕ) → holder role roles ≡ Some p → lacks_role roles p start ≡ false)
      → HasRole role base.made
      → (t : Trace T) (owner : ℕ → ℕ) (j : ℕ) → IsPassRun code kd base t → owner j ≡ j → IfSome base.party (λ p. owner p ≡ j)
      → MadeByParties code kd base t owner j → Starts code (machine_kind kd) call base c m t owner j
  role_begins role by_any free has t owner j run self party sums =
      let queue = queue_goes_on code kd base t run in
      let kept = kept_there code kd base t run in
      let by_this_party = role_by owner j role t.events base.made queue.roles sums has in
      let keeps : KeepsHolders (registries.Queues kept.0) t.events = subst (λ k. KeepsHolders k t.events) kept.1 queue.holders in
      as_party by_this_party.0 run by_this_party.1 (by_any base.party by_this_party.0) kept.1
      (free kept.0 by_this_party.0 (held_there role kept.0 t.events keeps ∙ by_this_party.2))

-- the same holds with the call and its first stage as explicit arguments
module _ {T : Type 0} (code : Coding T) (kd : QueueKind) (base : View T) {C M E : Type 0} (call : Calling T C M E) (start : QueueStart T) (c : C) (m : M)
    (named : call.start ≡ Queues start)
    (first_is : (kept : Registry T) → first_of (machine_kind kd) base.capacity (Queues start) kept ≡ Some (call.flight c m)) where
  pub plain_starts : ((o : Option ℕ) (p : ℕ) → IfSome o (λ q. q ≡ p) → call.by o p) → ((roles : Roles) (p : ℕ) → lacks_role roles p start ≡ false)
      → (t : Trace T) (owner : ℕ → ℕ) (j : ℕ) → IsPassRun code kd base t → owner j ≡ j → IfSome base.party (λ p. owner p ≡ j)
      → MadeByParties code kd base t owner j → Starts code (machine_kind kd) call base c m t owner j
  plain_starts = plain_begins kd start named first_is

  pub role_starts : (role : Role) → ((o : Option ℕ) (p : ℕ) → call.by o p)
      → ((roles : Roles) (p : ℕ) → holder role roles ≡ Some p → lacks_role roles p start ≡ false)
      → HasRole role base.made
      → (t : Trace T) (owner : ℕ → ℕ) (j : ℕ) → IsPassRun code kd base t → owner j ≡ j → IfSome base.party (λ p. owner p ≡ j)
      → MadeByParties code kd base t owner j → Starts code (machine_kind kd) call base c m t owner j
  role_starts = role_begins kd start named first_is

-- the machines of index queues
abbrev pub index_queue_machines : {T : Type 0} → Coding T → LoneMachines T
index_queue_machines code =
    record { code = code; kind = kinds.IndexQueue; effects = queue_effects code; size_of = λ capacity. 4 + capacity; laws = index_owes code }

-- the machines of queues of values
abbrev pub queue_machines : {T : Type 0} → Coding T → LoneMachines T
queue_machines code =
    record { code = code; kind = kinds.Queue; effects = queue_effects code; size_of = λ capacity. 4 + code.size * capacity; laws = values_owe code }
