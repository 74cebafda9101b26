-- The overflowing queue as a table that is a machine: what its calls write (a pop also the act of a push that
-- waits for room), and where each step leads.
use Rattle.history.proofs.Names.{◌≡◌, ◌≢◌, ℕ, ◌+◌, Option, Some, None, List}
use Rattle.history.proofs.Names.{[], ◌∷◌, length, slice_index, sum_by, sym, ap, subst, ◌∙◌}
use Rattle.history.proofs.Names.{arith}
use Rattle.model.specs.declared.event.Answer.{Answer}
use Rattle.model.specs.declared.event.Answer.TheVariants.{PoppedNone}
use Rattle.model.specs.declared.event.Event.{Event}
use Rattle.model.specs.declared.event.Event.TheVariants.{Acted}
use Rattle.model.specs.declared.event.Item.{Item}
use Rattle.model.specs.declared.event.Start.{Start}
use Rattle.model.specs.declared.event.Start.TheVariants.{Queues}
use Rattle.model.specs.declared.families.Flight.{Flight}
use Rattle.model.specs.declared.families.Registry.{Registry}
use Rattle.model.specs.declared.families.queues.QueueStart.{QueueStart}
use Rattle.model.specs.declared.families.queues.QueueStart.TheVariants.{PushIndex, Pop}
use Rattle.model.specs.declared.families.queues.Roles.{Roles}
use Rattle.model.specs.declared.families.queues.calls.QueueFlight.{QueueFlight}
use Rattle.model.specs.declared.families.queues.calls.QueueFlight.TheVariants.{Role as OnRole, Values, Length}
use Rattle.model.specs.declared.families.queues.effects.Effect.{Effect}
use Rattle.model.specs.declared.families.queues.effects.Effect.TheVariants.{HandsOut, MakesRoom}
use Rattle.history.proofs.Names.{Coding, step_of, beside_of, after_of, going_rows, read_word, holds, effect_of}
use Rattle.model.specs.declared.party.Party.{Party}
use Rattle.history.proofs.Names.{overflow_push_effect, overflow_pop_effect, takes_effect}
use Rattle.history.proofs.Names.{party_of, producer_of, whose, first_row, answer_in, World, Trace, stands_there}
use Rattle.steps.specs.declared.queues.overflow.PushStage as pushes
use Rattle.steps.specs.declared.queues.overflow.PopStage.{PopStage}
use Rattle.model.specs.declared.families.Flight.TheVariants as flights
use Rattle.model.specs.declared.families.Registry.TheVariants as registries
use Rattle.model.specs.declared.families.queues.QueueKind.TheVariants as queues
use Rattle.model.specs.declared.families.queues.calls.OverflowCall.TheVariants as overflows
use Rattle.model.specs.declared.families.queues.calls.QueueFlight.TheVariants.{Indices, Overflow}
use Rattle.model.specs.declared.turn.Kind.TheVariants as kinds
use Rattle.model.specs.Families.Queues.Calls.{after}
use Rattle.model.specs.Families.Queues.Steps.{effects_of}
use Rattle.model.proofs.Frame as frame
use Rattle.laws_queues.proofs.Queues.Core.{Core}
use Rattle.laws_queues.proofs.Queues.Invariant.{family}
use Rattle.laws_queues.proofs.Overflow.Waiting.{pending_is, IsPending, Pushing}
use Rattle.history.specs.History.{IsLate, call_at, call_of, call_in}
use Rattle.history.specs.Known.{events_by, of_none}
use Rattle.history.proofs.Known.{AreOf, by_other, none_late}
use Rattle.history.proofs.Calls.{stands, at_found, IsStateless, goes_alike}
use Rattle.history_queues.proofs.Queues.{IsOf, sound_of, sized_so}
use Rattle.history.proofs.Turns.{StepsOn, MachineLaws, SteadyMachines}

-- ---- what the events of an effect are

module _ {T : Type 0} where
  -- the effect writes events of its own party alone
  abbrev pub IsOwn : Effect T → Type 0
  IsOwn (MakesRoom item q pushed) = ⊥
  IsOwn effect = Unit {0}

  -- an effect of a party's own writes events of that party alone
  pub own_of_effect : (p : ℕ) (start : QueueStart T) (effect : Effect T) (o : Option (Answer T)) → IsOwn effect → AreOf p (effects_of p start effect o)
  own_of_effect = grind arith

  -- a pop that makes room writes for another party the act of its push, and nothing else
  pub room_by_other : (p q r : ℕ) (item : Item T) (pushed : ℕ) (o : Option (Answer T)) → r ≢ p
      → events_by r (effects_of p Pop (MakesRoom item q pushed) o) ≡ events_by r (Acted q (Queues (PushIndex pushed)) PoppedNone ∷ [])
  room_by_other = grind arith

  -- a pop that makes room writes of its own party what any pop that takes out writes
  pub room_by_own : (p q : ℕ) (item : Item T) (pushed : ℕ) (o : Option (Answer T)) → p ≢ q
      → events_by p (effects_of p Pop (MakesRoom item q pushed) o) ≡ effects_of p Pop (HandsOut item) o
  room_by_own = grind arith

  -- ---- what a step of a call writes

  -- what a step of a call writes: a pop that makes room also writes the act of a push that waits
  abbrev pub over_flight_effects : World T → ℕ → QueueFlight T → ℕ → List (Event T)
  over_flight_effects w p (Overflow (overflows.Push run)) n =
      effects_of p (PushIndex run.given)
      (effect_of w.coding w.words (beside_of w.words w.kept w.latest p) (Overflow (overflows.Push run)) n)
      (answer_in (after w.coding (Overflow (overflows.Push run)) n))
  over_flight_effects w p (Overflow (overflows.Pop run)) n =
      effects_of p Pop (effect_of w.coding w.words (beside_of w.words w.kept w.latest p) (Overflow (overflows.Pop run)) n)
      (answer_in (after w.coding (Overflow (overflows.Pop run)) n))
  over_flight_effects w p flight n = []

  -- what a step of a call on an overflowing queue writes, as the effects of any call
  abbrev pub over_effects : World T → ℕ → Flight T → ℕ → List (Event T)
  over_effects w p (flights.Queues flight) n = over_flight_effects w p flight n
  over_effects w p flight n = []

  -- each event that a step writes is of some party
  someone : (w : World T) (p : ℕ) (flight : Flight T) (n : ℕ) → sum_by (λ e. of_none (whose e)) (over_effects w p flight n) ≡ 0
  someone = grind arith

  -- the effects of a push are its own party's
  pub push_effect_own : (words : List ℕ) (capacity : ℕ) (item : Item T) (stage : pushes.PushStage) (n : ℕ)
      → IsOwn (overflow_push_effect words capacity item stage n)
  push_effect_own = grind arith

  -- what a push writes is its own party's
  pub push_own : (w : World T) (p : ℕ) (run : Pushing) (n : ℕ) → AreOf p (over_flight_effects w p (Overflow (overflows.Push run)) n)
  push_own = grind arith

-- ---- what the queue's steps write and where they lead

module _ {T : Type 0} (code : Coding T) (capacity : ℕ) where
  -- the machine is one of a run of an overflowing queue of this capacity
  abbrev IsOverflowRun : Trace T → Type 0
  IsOverflowRun t = IsOf code capacity queues.Overflow t

  -- an overflowing queue has four words and those of one cell more than its capacity
  size : (t : Trace T) → IsOverflowRun t → length t.world.words ≡ 4 + (capacity + 1)
  size t run = sized_so code capacity queues.Overflow t run ∙ omega arith

  -- where a step leads a call of the queue, and what it writes
  pub record Facts (w : World T) (p n : ℕ) (start : Start T) (flight : Flight T) (kept : Registry T) : Type 0 where
    -- nothing refuses the step; its effects are these, and it leads where the call's flight says
    pub may : first_row (going_rows w.coding kept (Some flight) None) ≡ None
    pub writes : (step_of w.coding w.words (beside_of w.words w.kept w.latest p) p start flight n kept).wrote ≡ over_effects w p flight n
    pub goes : (step_of w.coding w.words (beside_of w.words w.kept w.latest p) p start flight n kept).after ≡ after_of w.coding flight n

  -- p is the party, n what its step is handed, ro the roles, k the core of the queue
  module _ (w : World T) (en : Coding T) (c p n : ℕ) (ro : Roles) (k : Core ℕ) where
    -- these facts hold of each call that the queue's laws have under way
    pub facts : (start : Start T) (flight : Flight T) (kept : Registry T) → kept ≡ registries.Queues ro
        → (family en queues.Overflow c).At (record { roles = ro; core = k }) p start flight
        → Facts w p n start flight kept
    facts = grind arith

  -- ---- for whom a pop writes

  -- party q holds the producer's role, and its push of index v is under way
  pub record Waits (t : Trace T) (q v : ℕ) : Type 0 where
    pub run : Pushing
    -- the party holds the producer's role, and its push of v is under way
    pub producer : producer_of t.events ≡ Some q
    pub there : call_in t.world q ≡ Some (Queues (PushIndex v), flights.Queues (Overflow (overflows.Push run)))

  -- t is a trace, of which s says that it is sound
  module _ (t : Trace T) (en : Coding T) (c : ℕ) (s : frame.Sound (family en queues.Overflow c) t) where
    -- the call under way with this push began as a push of its index
    start_is : (ro : Roles) (k : Core ℕ) (q v : ℕ) (start : Start T) (run : Pushing)
        → (family en queues.Overflow c).At (record { roles = ro; core = k }) q start
        (flights.Queues (Overflow (overflows.Push run)))
        → run.given ≡ v → start ≡ Queues (PushIndex v)
    start_is = grind arith

    -- the push that waits for room is under way, by the holder of the producer's role
    waiting_push : {position q v : ℕ} {x : Party T} {run : Pushing} {since : ℕ}
        → IsPending position t.world.latest q v x run since → s.state.roles.producer ≡ Some q → Waits t q v
    waiting_push {q = q} {v = v} {x = x} {run = run} {since = since} is_pending holder =
        let flight : Flight T = flights.Queues (Overflow (overflows.Push run)) in
        let there = stands_there (family en queues.Overflow c) t s q x since flight is_pending.found is_pending.doing in
        let named = start_is s.state.roles s.state.core q v x.start run there.at is_pending.value in
        record {
          run = run;
          producer = s.holds.producers ∙ holder;
          there = ap call_of is_pending.found ∙ (ap (λ d. call_at x.start d) is_pending.doing ∙ ap (λ (st : Start T). Some (st, flight)) named);
        }

    -- a party that `beside_of` names has a push that waits for room
    pub beside_waits : (kept : Registry T) (p q v : ℕ) → beside_of t.world.words kept t.world.latest p ≡ Some (q, v)
        → kept ≡ registries.Queues s.state.roles → Waits t q v
    beside_waits = grind (arith, beside_of, slice_index, read_word, pending_is, waiting_push)

  module _ (t : Trace T) where
    -- the act of a push that waits may come late for it, and is no other party's
    late_act : (q v r : ℕ) → Waits t q v → IsLate kinds.Overflow (call_in t.world r) (events_by r (Acted q (Queues (PushIndex v)) PoppedNone ∷ []))
    late_act = grind arith

    -- the events of a step's own party are none of another party's
    own_late : (p r : ℕ) (es : List (Event T)) → r ≢ p → AreOf p es → IsLate kinds.Overflow (call_in t.world r) (events_by r es)
    own_late = grind (arith, by_other, none_late)

    -- p is the party that pops, r another one
    module _ (p r n : ℕ) (ne : r ≢ p) (o : Option (Answer T)) where
      -- what a pop that takes out writes of another party may come late, as the act of that
      -- party's push (`IsLate`)
      takes_late : (item : Item T) (waits : Option (ℕ × ℕ)) → ((q v : ℕ) → waits ≡ Some (q, v) → Waits t q v)
          → IsLate kinds.Overflow (call_in t.world r) (events_by r (effects_of p Pop (takes_effect item waits) o))
      takes_late = grind (arith, own_late, own_of_effect, room_by_other, late_act)

      -- what any pop writes of another party may come late, as the act of that party's push (`IsLate`)
      pop_late : (capacity : ℕ) (waits : Option (ℕ × ℕ)) → ((q v : ℕ) → waits ≡ Some (q, v) → Waits t q v)
          → (stage : PopStage)
          → IsLate kinds.Overflow (call_in t.world r)
          (events_by r (effects_of p Pop (overflow_pop_effect t.world.words waits capacity stage n) o))
      pop_late = grind (arith, own_late, own_of_effect, takes_late)

    -- what a step of any call writes of another party may come late for that party's push
    beside_late : (is_over : IsOverflowRun t) (p n r : ℕ) → r ≢ p → (flight : Flight T)
        → IsLate kinds.Overflow (call_in t.world r) (events_by r (over_effects t.world p flight n))
    beside_late is_over p n r ne (flights.Queues (Overflow (overflows.Push run))) = own_late p r _ ne (push_own t.world p run n)
    beside_late is_over p n r ne (flights.Queues (Overflow (overflows.Pop run))) =
        let is_sound = sound_of code capacity queues.Overflow t is_over in
        let kept = is_sound.fit.kept in
        pop_late p r n ne _ run.call.capacity (beside_of t.world.words t.world.kept t.world.latest p)
        (λ q v e. beside_waits t t.world.coding t.world.capacity is_sound t.world.kept p q v e kept) run.call.stage
    beside_late is_over p n r ne (flights.Queues (OnRole call)) = none_late kinds.Overflow (call_in t.world r)
    beside_late is_over p n r ne (flights.Queues (Indices call)) = none_late kinds.Overflow (call_in t.world r)
    beside_late is_over p n r ne (flights.Queues (Values call)) = none_late kinds.Overflow (call_in t.world r)
    beside_late is_over p n r ne (flights.Queues (Length which run)) = none_late kinds.Overflow (call_in t.world r)
    beside_late is_over p n r ne flight = none_late kinds.Overflow (call_in t.world r)

  -- what the machine keeps does not change how a call goes on
  stateless : (t : Trace T) → IsOverflowRun t → IsStateless t.world.kept
  stateless t run =
      (let is_sound = sound_of code capacity queues.Overflow t run in subst IsStateless (sym is_sound.fit.kept) tt)

  -- each step of a call under way writes, and leads, as the laws of its kind ask
  steps_on : (t : Trace T) → IsOverflowRun t → (p : ℕ) (start : Start T) (flight : Flight T)
      → call_in t.world p ≡ Some (start, flight)
      → StepsOn code kinds.Overflow capacity (4 + (capacity + 1)) over_effects t p flight
  steps_on t run p start flight call_is =
      let is_sound = sound_of code capacity queues.Overflow t run in
      let here = stands t.world p start flight call_is in
      let there = stands_there (family t.world.coding queues.Overflow t.world.capacity) t is_sound p here.x here.since flight here.found here.doing in
      let kept = is_sound.fit.kept in
      let facts_here = facts t.world t.world.coding t.world.capacity p in
      let fact = λ (x : Party T) (n : ℕ) (found : party_of p t.world.latest ≡ Some x).
      at_found here (λ z. Facts t.world p n z.start flight t.world.kept)
      (facts_here n is_sound.state.roles is_sound.state.core here.x.start flight t.world.kept kept there.at) x found
      in
      record {
        may = (fact here.x 0 here.found).may;
        writes = λ x n found. (fact x n found).writes;
        someone = λ n. someone t.world p flight n;
        beside = λ n q ne. beside_late t run p n q ne flight;
        goes = λ x n found. (fact x n found).goes ∙ sym (goes_alike t.world.coding p flight n t.world.kept (stateless t run));
      }

  -- overflowing queues keep the laws of a kind where another party may write for a call
  pub overflow_owes : MachineLaws code kinds.Overflow capacity (4 + (capacity + 1)) over_effects
  overflow_owes = record { size = size; steps_on = steps_on; stateless = stateless }

-- the machines of overflowing queues
abbrev pub overflow_machines : {T : Type 0} → Coding T → SteadyMachines T
overflow_machines code =
    record { code = code; kind = kinds.Overflow; effects = over_effects; size_of = λ capacity. 4 + (capacity + 1); laws = overflow_owes code }
