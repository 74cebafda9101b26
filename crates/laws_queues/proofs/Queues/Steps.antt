-- Each step of a queue's call, and each begin of one, keeps the invariant.
use Rattle.laws_queues.proofs.Names.{◌≡◌, ℕ, ◌-◌, ◌^◌, ◌<◌, ◌≤◌, false, Option, Some, None, option_map, [], ◌∷◌}
use Rattle.laws_queues.proofs.Names.{◌++◌, map, get_or, refl, sym, ap, subst, ◌∙◌, append-nil, OneWord, Len}
use Rattle.laws_queues.proofs.Names.{Running, Begun, Start, Queues, Flight, QueueStart, PushIndex, Push, Pop, Peek}
use Rattle.laws_queues.proofs.Names.{IsEmpty, IsFull, LengthOf, QueueFlight, Role, Indices, Values, Length, Party}
use Rattle.laws_queues.proofs.Names.{QueueKind, IndexQueue, Coding, IsCoding, one_word, first_of, want_of}
use Rattle.laws_queues.proofs.Names.{is_question, kept_after_begin, first, lacks_role, call_of, pending_at}
use Rattle.laws_queues.proofs.Names.{party_of, doing_of, flight_of, Open, span_of, first_row, party_at_begin, Next}
use Rattle.laws_queues.proofs.Names.{Trace, row_passed, MayBegin, StandsThere, ComesFrom}
use Rattle.std.proofs.Common.{arith}
use Rattle.steps.specs.declared.copied.Buffer as cells
use Rattle.model.specs.declared.families.Flight.TheVariants as flights
use Rattle.model.specs.declared.families.Registry.TheVariants as registries
use Rattle.model.specs.declared.families.queues.QueueStart.TheVariants as starts
use Rattle.model.specs.declared.families.queues.calls.RingCall.{RingCall}
use Rattle.model.specs.declared.families.queues.calls.RingCall.TheVariants as rings
use Rattle.model.specs.declared.families.queues.calls.OverflowCall.{OverflowCall}
use Rattle.model.specs.declared.families.queues.calls.OverflowCall.TheVariants as overflows
use Rattle.model.specs.declared.families.queues.calls.LengthOf.TheVariants as measures
use Rattle.model.specs.declared.families.queues.calls.QueueFlight.TheVariants.{Overflow}
use Rattle.model.specs.declared.families.queues.QueueKind.TheVariants as kinds
use Rattle.model.specs.declared.turn.Refusal.TheVariants.{NoRole}
use Rattle.model.specs.Families.{begin_of}
use Rattle.model.proofs.Frame as frame
use Rattle.laws_queues.proofs.Overflow.Knows.{overflow_push_at, overflow_pop_at}
use Rattle.laws_queues.proofs.Overflow.Pops.{overflow_pop_step}
use Rattle.laws_queues.proofs.Overflow.Pushes.{overflow_push_step}
use Rattle.laws_queues.proofs.Queues.Begins.{IsFirst, first_is}
use Rattle.model.specs.Fresh.{IsFreshTurn}
use Rattle.laws_queues.proofs.Queues.Fresh.{fresh_there}
use Rattle.laws_queues.proofs.Queues.Invariant.{Queue, machine_kind, Scene, Inv, Shows, family, holds_more, owes, queue_part}
use Rattle.model.specs.Fresh.{IsFreshAt}
use Rattle.laws_queues.proofs.Queues.Knows.{layout, in_one, in_cell, has_written}
use Rattle.laws_queues.proofs.Queues.Knows.{KnowsLen, KnowsFlight, number_of, LengthAt, IndexAt, ValueAt, At}
use Rattle.laws_queues.proofs.Queues.Lengths.{len_step, is_empty_step, is_full_step}
use Rattle.laws_queues.proofs.Queues.Pending.{pending_put, hangs_same}
use Rattle.laws_queues.proofs.Queues.Roles.{role_step}
use Rattle.laws_queues.proofs.Queues.Stages.{IsCalm, TakesStep, StepOf, MovesOf, of_step}
use Rattle.laws_queues.proofs.Queues.Values.{Val, item}
use Rattle.laws_queues.proofs.Ring.Kinds as ring
use Rattle.laws_queues.proofs.Ring.Calls.{RingStep}
use Rattle.laws_queues.proofs.Ring.Kinds.{Ring, of_indices, of_values, kind_of, Room, words_in, enc}
use Rattle.model.specs.Fresh.{IsFresh}
use Rattle.laws_queues.proofs.Ring.Knows.{ring_number, PushAt, PopAt, PeekAt}
use Rattle.laws_queues.proofs.Ring.Peeks.{peek_step}
use Rattle.laws_queues.proofs.Ring.Pops.{pop_step}
use Rattle.laws_queues.proofs.Ring.Pushes.{push_step}

-- ---- one step of a call

-- the invariant holds before the step
module _ {T : Type 0} {en : Coding T} {kd : QueueKind} {scene : Scene T kd} (inv : Inv en kd scene) where
  -- a step of `len`, `is_empty` or `is_full` keeps the invariant (`Shows`)
  length_step : (start : QueueStart T) (which : LengthOf) (run : Running Len (Unit {0}) (Unit {0}))
      → LengthAt scene.capacity start which run.call.capacity
      → scene.steps ≤ number_of en (Length which run) scene.backs
      → KnowsLen scene.capacity scene.core scene.party scene.events scene.since scene.changes scene.backs run.call.stage
      → IsCalm en kd scene scene.core.read → StepOf en kd scene start (Length which run)
  length_step starts.Len measures.Len run at few_steps knows_len before =
      rw at (len_step inv before run.call.stage few_steps knows_len)
  length_step IsEmpty measures.IsEmpty run at few_steps knows_len before =
      rw at (is_empty_step inv before run.call.stage few_steps knows_len)
  length_step IsFull measures.IsFull run at few_steps knows_len before =
      rw at (is_full_step inv before run.call.stage few_steps knows_len)
  length_step start which call at few_steps knows_len before = absurd at

-- a push of a bounded queue that is to load the write position does not find the last
abbrev IsFreshRing : {V R : Type 0} → ℕ → RingCall V R → Type 0
IsFreshRing write (rings.Push run) = IsFresh write run.call.stage
IsFreshRing write other = Unit {0}

-- a call of a bounded queue that is fresh as one of any kind is fresh as one of a bounded queue
fresh_ring : {T : Type 0} (en : Coding T) (write : ℕ) (r : Ring) (call : RingCall (Val T (kind_of r)) (Room r))
    → IsFreshAt {T = T} write (ring.flight r call) → IsFreshRing write call
fresh_ring en write of_indices (rings.Push run) is_fresh = is_fresh
fresh_ring en write of_indices (rings.Pop run) is_fresh = tt
fresh_ring en write of_indices (rings.Peek run) is_fresh = tt
fresh_ring en write of_values (rings.Push run) is_fresh = is_fresh
fresh_ring en write of_values (rings.Pop run) is_fresh = tt
fresh_ring en write of_values (rings.Peek run) is_fresh = tt

-- Calls of a bounded queue of either kind: the index queue or the queue of values.
module _ {T : Type 0} {en : Coding T} (law : IsCoding en) (r : Ring) {scene : Scene T (kind_of r)} (takes : TakesStep en (kind_of r) scene) where
  -- a step of a bounded queue's push keeps the invariant (`Shows`)
  push_call : (v : Val T (kind_of r)) (call : RingCall (Val T (kind_of r)) (Room r))
      → PushAt (enc en r) (words_in r) scene.capacity scene.roles scene.core scene.party v call
      → scene.steps ≤ ring_number (enc en r) (words_in r) call → IsFreshRing scene.core.write call → RingStep r takes (ring.push r v) call
  push_call v (rings.Push run) at few_steps fresh =
      rw (at.1, at.2) (push_step r law takes v at.0 run.call.stage fresh at.3 few_steps)
  push_call v (rings.Pop run) at few_steps fresh = absurd at
  push_call v (rings.Peek run) at few_steps fresh = absurd at

  -- a step of a bounded queue's pop keeps the invariant (`Shows`)
  pop_call : (call : RingCall (Val T (kind_of r)) (Room r))
      → PopAt (enc en r) (words_in r) scene.capacity scene.roles scene.core scene.party call
      → scene.steps ≤ ring_number (enc en r) (words_in r) call → RingStep r takes Pop call
  pop_call (rings.Push run) at few_steps = absurd at
  pop_call (rings.Pop run) at few_steps =
      rw at.1 (pop_step r law takes run.room at.0 run.call.stage at.2 few_steps)
  pop_call (rings.Peek run) at few_steps = absurd at

  -- a step of a bounded queue's peek keeps the invariant (`Shows`)
  peek_call : (call : RingCall (Val T (kind_of r)) (Room r))
      → PeekAt (enc en r) (words_in r) scene.capacity scene.roles scene.core scene.party call
      → scene.steps ≤ ring_number (enc en r) (words_in r) call → RingStep r takes Peek call
  peek_call (rings.Push run) at few_steps = absurd at
  peek_call (rings.Pop run) at few_steps = absurd at
  peek_call (rings.Peek run) at few_steps =
      rw at.1 (peek_step r law takes run.room at.0 run.call.stage at.2 few_steps)

module _ {T : Type 0} {en : Coding T} (law : IsCoding en) where
  -- a step of a push, pop or peek of the index queue keeps the invariant (`Shows`)
  index_step : {scene : Scene T IndexQueue} → TakesStep en IndexQueue scene → (start : QueueStart T) (call : RingCall ℕ OneWord)
      → IndexAt IndexQueue scene.capacity scene.roles scene.core scene.party start call
      → IsFreshRing scene.core.write call → scene.steps ≤ ring_number one_word in_one call → StepOf en IndexQueue scene start (Indices call)
  index_step takes (PushIndex v) (rings.Push run) at fresh few_steps =
      push_call law of_indices takes v (rings.Push run) at few_steps fresh
  index_step takes Pop (rings.Pop run) at fresh few_steps =
      pop_call law of_indices takes (rings.Pop run) at few_steps
  index_step takes Peek (rings.Peek run) at fresh few_steps =
      peek_call law of_indices takes (rings.Peek run) at few_steps
  index_step takes start call at fresh few_steps = absurd at

  -- a step of a push, pop or peek of the queue of values keeps the invariant (`Shows`)
  value_step : {scene : Scene T kinds.Queue} → TakesStep en kinds.Queue scene → (start : QueueStart T) (call : RingCall T (cells.Buffer 128))
      → ValueAt en kinds.Queue scene.capacity scene.roles scene.core scene.party start call
      → IsFreshRing scene.core.write call → scene.steps ≤ ring_number en in_cell call → StepOf en kinds.Queue scene start (Values call)
  value_step takes (Push v) (rings.Push run) at fresh few_steps =
      push_call law of_values takes v (rings.Push run) at few_steps fresh
  value_step takes Pop (rings.Pop run) at fresh few_steps =
      pop_call law of_values takes (rings.Pop run) at few_steps
  value_step takes Peek (rings.Peek run) at fresh few_steps =
      peek_call law of_values takes (rings.Peek run) at few_steps
  value_step takes start call at fresh few_steps = absurd at

-- the party has this call under way, and its span has this begin and what the call has written
abbrev IsCall : {T : Type 0} → {kd : QueueKind} → Scene T kd → QueueStart T → QueueFlight T → Type 0
IsCall scene start flight =
    (flight_of (doing_of (party_of scene.party scene.latest)) ≡ Some (flights.Queues flight))
    × (span_of scene.party scene.events ≡ Open (Queues start) (has_written scene.capacity scene.core scene.party flight))

-- the party's call under way stands at its stage within its bound of steps, knows what the stage says, and finds no last position
pub record Ready {T : Type 0} (en : Coding T) (kd : QueueKind) (scene : Scene T kd) (start : QueueStart T) (flight : QueueFlight T) : Type 0 where
  pub at : At en kd scene.capacity scene.roles scene.core scene.party start flight
  pub steps : scene.steps ≤ number_of en flight scene.backs
  pub knows : KnowsFlight scene.capacity scene.core scene.party scene.events scene.since scene.changes scene.backs flight
  pub fresh : IsFreshAt {T = T} scene.core.write flight
  pub is : IsCall scene start flight

module _ {T : Type 0} {en : Coding T} {scene : Scene T kinds.Overflow} (inv : Inv en kinds.Overflow scene) where
  -- if this is the party's call under way, its next step keeps the invariant
  abbrev MovesFrom : QueueStart T → OverflowCall → Type 0
  MovesFrom start call = IsCall scene start (Overflow call) → MovesOf en kinds.Overflow scene start (Overflow call)

  -- a step of a push or a pop of the overflowing queue keeps the invariant
  overflow_step : (start : QueueStart T) (call : OverflowCall) → Ready en kinds.Overflow scene start (Overflow call)
      → MovesOf en kinds.Overflow scene start (Overflow call)
  overflow_step (PushIndex v) (overflows.Push run) ready =
      let at = ready.at in
      subst (λ n. MovesFrom (PushIndex v) (overflow_push_at n run.given run.room run.call.stage)) (sym at.1)
      (rw at.2 (λ is. overflow_push_step inv v run.room at.0 ready.knows run.call.stage ready.fresh at.3 ready.steps is.0 is.1))
      ready.is
  overflow_step Pop (overflows.Pop run) ready =
      let at = ready.at in
      subst (λ n. MovesFrom Pop (overflow_pop_at n run.room run.call.stage)) (sym at.1)
      (λ is. overflow_pop_step inv run.room at.0 run.call.stage at.2 ready.steps ready.knows is.0 is.1) ready.is
  overflow_step start call ready = absurd ready.at

-- the call under way, which has not turned back and is no pending push, is about to take a step
takes_step : {T : Type 0} {en : Coding T} {kd : QueueKind} {scene : Scene T kd} {start : QueueStart T} {flight : QueueFlight T}
    → Inv en kd scene → Ready en kd scene start flight → scene.backs ≡ 0
    → pending_at scene.core.read (Some (flights.Queues flight)) ≡ None → TakesStep en kd scene
takes_step {scene} inv ready no_backs calm =
    record { inv = inv; no_backs = no_backs; before = ap (pending_at scene.core.read) ready.is.0 ∙ calm }

module _ {T : Type 0} {en : Coding T} (law : IsCoding en) where
  -- the next step of any call of a queue keeps the invariant
  pub step_moves : (kd : QueueKind) (scene : Scene T kd) → Inv en kd scene
      → (start : QueueStart T) (flight : QueueFlight T) → Ready en kd scene start flight → MovesOf en kd scene start flight
  step_moves kd scene inv start (Role call) ready =
      of_step inv start (Role call) ready.is.1 (role_step (takes_step inv ready ready.knows refl) ready.steps start call ready.at)
  step_moves IndexQueue scene inv start (Indices call) ready =
      of_step inv start (Indices call) ready.is.1
      (index_step law (takes_step inv ready ready.knows refl) start call ready.at
      (fresh_ring en scene.core.write of_indices call ready.fresh) ready.steps)
  step_moves kinds.Overflow scene inv start (Indices call) ready = absurd ready.at
  step_moves kinds.Queue scene inv start (Indices call) ready = absurd ready.at
  step_moves IndexQueue scene inv start (Values call) ready = absurd ready.at
  step_moves kinds.Overflow scene inv start (Values call) ready = absurd ready.at
  step_moves kinds.Queue scene inv start (Values call) ready =
      of_step inv start (Values call) ready.is.1
      (value_step law (takes_step inv ready ready.knows refl) start call ready.at (fresh_ring en scene.core.write of_values call ready.fresh) ready.steps)
  step_moves IndexQueue scene inv start (Overflow call) ready = absurd ready.at
  step_moves kinds.Overflow scene inv start (Overflow call) ready =
      overflow_step inv start call ready
  step_moves kinds.Queue scene inv start (Overflow call) ready = absurd ready.at
  step_moves kd scene inv start (Length which call) ready =
      of_step inv start (Length which call) ready.is.1
      (length_step inv start which call ready.at ready.steps ready.knows (ap (pending_at scene.core.read) ready.is.0))

-- ---- a turn of the machine

-- a begin leads to the first stage of its call
call_is : {T : Type 0} (kd : QueueKind) (c : ℕ) (start : QueueStart T) → call_of (machine_kind kd) c start ≡ first kd c start
call_is = grind arith

-- where the call wrapped as one of a machine is this call, the call itself is
some_mapped : {T : Type 0} → (o : Option (QueueFlight T)) (flight : QueueFlight T)
    → option_map flights.Queues o ≡ Some (flights.Queues flight) → o ≡ Some flight
some_mapped = grind arith

module _ {T : Type 0} (en : Coding T) (kd : QueueKind) (c : ℕ) (t : Trace T) (s : frame.Sound (family en kd c) t) where
  -- word 0 is the write position
  pub write_is : get_or t.world.words 0 0 ≡ s.state.core.write
  write_is = ap (λ ws. get_or ws 0 0) s.fit.words

  -- while fewer than 2 ^ 64 - 2 turns were taken, no push finds the last position
  pub few_turns : t.world.turns < 2 ^ 64 - 2 → (p : ℕ) → IsFreshTurn t (Next p)
  few_turns = grind arith

-- the machine is sound before a turn of the party `p`
module _ {T : Type 0} {en : Coding T} (law : IsCoding en) (kd : QueueKind) (c : ℕ) {t : Trace T} (s : frame.Sound (family en kd c) t) (p : ℕ) where
  -- the scene of the party's step: the queue, the party's call, and the machine around it
  abbrev pub scene_of : Party T → ℕ → Scene T kd
  scene_of x since =
      record {
        capacity = c;
        roles = s.state.roles;
        core = s.state.core;
        party = p;
        steps = x.steps;
        backs = x.backs;
        since = since;
        changes = t.world.changes;
        latest = t.world.latest;
        events = t.events;
        turns = t.world.turns;
      }

  -- the invariant holds before the step
  pub inv_of : (x : Party T) (since : ℕ) → Inv en kd (scene_of x since)
  inv_of x since = record { queue = s.holds; frame = s.inv }

  module _ (x : Party T) (since : ℕ) where
    -- the step of the party's call leaves a machine with the invariant, where the call stands in the machine
    pub comes : IsFreshTurn t (Next p) → {start : Start T} {flight : Flight T}
        → StandsThere (family en kd c) t s p x since start flight
        → ComesFrom (family en kd c) t s p x since en (layout s.state.roles s.state.core)
        (registries.Queues s.state.roles) start flight
    comes fresh {start = (Queues start)} {flight = (flights.Queues flight)} here =
        let moves =
        step_moves law kd (scene_of x since) (inv_of x since) start flight (record {
          at = here.at;
          steps = here.steps;
          knows = here.knows;
          fresh = rw (← write_is en kd c t s) (fresh_there t.world.coding t.world.words flight (fresh (flights.Queues flight) here.found));
          is = (here.found, here.span);
        }) in
        record {
          state = record { roles = _; core = moves.0 };
          fit = record { kept = refl; words = moves.1 };
          holds = holds_more en (scene_of x since) moves.0 s.holds moves.2;
          owes = moves.3;
        }
    comes fresh here = absurd here.at

  -- ---- a call begins

  -- a begin whose call is at its first stage leaves a machine with the invariant
  begins : {start : QueueStart T} {flight : QueueFlight T}
      → IsFirst en kd c s.state.roles s.state.core p (t.events ++ Begun p (Queues start) ∷ []) t.world.changes start flight
      → flight_of (doing_of (party_of p t.world.latest)) ≡ None
      → frame.Comes (family en kd c) t p (registries.Queues s.state.roles) (layout s.state.roles s.state.core)
      (party_at_begin (Queues start) (flights.Queues flight) t.world.changes)
      (Begun p (Queues start) ∷ []) t.world.changes
  begins {start} {flight} first free =
      let party_after : Party T = party_at_begin (Queues start) (flights.Queues flight) t.world.changes in
      let scene = scene_of party_after t.world.changes in
      let core_now = s.state.core in
      let pr = s.state.roles.producer in
      let before : pending_at core_now.read (flight_of (doing_of (party_of p t.world.latest))) ≡ None = ap (pending_at core_now.read) free in
      let low = s.holds.reached in
      let shows : Shows en kd scene s.state.roles core_now (span_of p t.events) party_after (Begun p (Queues start) ∷ []) t.world.changes =
      record {
        -- the events that the step writes: each may follow in its span, and each tells the truth
        right = (tt, tt);
        lengths = (tt, tt);
        grants = (tt, tt);
        -- the queue afterwards, and the list that its calls answer as
        good = s.holds.good;
        hangs =
            hangs_same T kd c core_now core_now refl (pending_put core_now.read pr p party_after t.world.latest first.calm before) s.holds.hangs;
        book = append-nil (map (item kd) core_now.waiting);
        out = omega arith;
        producers = refl;
        consumers = refl;
        goes = refl;
        answers = refl;
        up = record { write = omega arith; read = omega arith; paid = omega arith };
        reached = omega arith;
        within = s.holds.within;
        own = (refl, tt);
        stands = (frame.shut (family en kd c) s.state p (party_of p t.world.latest) (span_of p t.events) free (s.inv.calls p), tt);
        -- the party's call afterwards, and the calls of other parties
        here = record { span = ap (λ es. Open (Queues start) es) (sym first.wrote); steps = omega arith; at = first.at };
        knows = first.knows;
        others = λ q ne st f h. (h, refl);
      }
      in
      record {
        state = s.state;
        fit = record { kept = refl; words = refl };
        holds = holds_more en scene _ s.holds (queue_part shows);
        owes = owes shows refl (inv_of party_after t.world.changes);
      }

  -- a begin that the turns admit, and that no row refuses, leaves a machine with the invariant
  pub begin_comes : {start : Start T} (flight : Flight T) → MayBegin t.world p start
      → first_of (machine_kind kd) c start (registries.Queues s.state.roles) ≡ Some flight
      → first_row ((begin_of (machine_kind kd) c start).rows (registries.Queues s.state.roles) p) ≡ None
      → frame.Comes (family en kd c) t p (kept_after_begin en c start p (registries.Queues s.state.roles))
      (layout s.state.roles s.state.core) (party_at_begin start flight t.world.changes) (Begun p start ∷ []) t.world.changes
  begin_comes {start = (Queues start)} (flights.Queues flight) may starts_at rows =
      let role = (row_passed (lacks_role s.state.roles p start) NoRole None rows).0 in
      let called : first kd c start ≡ Some flight = sym (call_is kd c start) ∙ some_mapped (call_of (machine_kind kd) c start) flight starts_at in
      begins (first_is law called role) may.free
  begin_comes flight may starts_at rows = grind arith

-- no call of a queue asks a question
pub no_question : {T : Type 0} → (en : Coding T) (kd : QueueKind) (c : ℕ) (s : Queue (Val T kd)) (p : ℕ) (start : Start T) (flight : Flight T)
    → (family en kd c).At s p start flight → is_question (want_of en flight) ≡ false
no_question = grind arith
