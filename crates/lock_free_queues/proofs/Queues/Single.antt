-- A push and a pop of either kind, step by step, by a party that is alone.
use Rattle.lock_free_queues.proofs.Names.{◌≡◌, ℕ, ◌+◌, ◌*◌, ◌-◌, ◌^◌, ◌<◌, ◌≤◌, ◌==◌, nat_lt, true, false, Option}
use Rattle.lock_free_queues.proofs.Names.{Some, None, List, [], ◌∷◌, ◌++◌, length, replicate, refl, ap, arith}
use Rattle.lock_free_queues.proofs.Names.{nat_tests, length-replicate, pop_asks, distance, GoOn, Role, Producer}
use Rattle.lock_free_queues.proofs.Names.{Consumer, Truth, Event, Published, HandedOut, Acted, Finished, Item, Index}
use Rattle.lock_free_queues.proofs.Names.{Value, Queues, Flight, Pop, QueueKind, Coding}
use Rattle.lock_free_queues.proofs.Names.{IsCoding, first_of, want_of, after_of, opening_of, fresh_cell, lacks_role}
use Rattle.lock_free_queues.proofs.Names.{words_of_cell, capacity_error, machine_kind, IsFreshCall, Val, encoded}
use Rattle.lock_free_queues.proofs.Names.{item, Ring, of_indices, of_values, kind_of, Room, words_in, with_word}
use Rattle.lock_free_queues.proofs.Names.{flight, read_in, takes_role, gives_role, role_word, acquire_start}
use Rattle.lock_free_queues.proofs.Names.{release_start, holder, holds_it, queue_effects}
use Rattle.steps.specs.Queues.Ring.{first_push, first_pop, at_push, at_pop, push_asks, cell_word}
use Rattle.steps.specs.declared.ask.After.TheVariants.{Done}
use Rattle.steps.specs.declared.queues.ring.PopStage.{PopStage}
use Rattle.steps.specs.declared.queues.ring.PopStage.TheVariants as pops
use Rattle.steps.specs.declared.queues.ring.PushStage.{PushStage}
use Rattle.steps.specs.declared.queues.ring.PushStage.TheVariants as pushes
use Rattle.model.specs.declared.event.Answer.TheVariants as answers
use Rattle.model.specs.declared.families.Flight.TheVariants as flights
use Rattle.model.specs.declared.families.Registry.{Registry}
use Rattle.model.specs.declared.families.queues.Roles.{Roles}
use Rattle.model.specs.declared.families.queues.calls.RingCall.TheVariants as rings
use Rattle.model.specs.Fresh.{IsFresh}
use Rattle.lock_free_queues.specs.Queues.Contracts.{push_of, popped_item}

-- a room in which nothing was put
abbrev pub fresh : (r : Ring) → Room r
fresh of_indices = record { 0 = 0 }
fresh of_values = fresh_cell

module _ {T : Type 0} where
  -- The push of a value into a queue of this capacity, at this stage, as a flight of the model.
  abbrev pub pushing : (r : Ring) → Val T (kind_of r) → ℕ → PushStage → Flight T
  pushing r v capacity stage =
      flights.Queues
      (flight r (rings.Push (record { call = at_push (first_push capacity) stage; given = v; room = tt })))

  -- The pop from a queue of this capacity, at this stage and with this room, as a flight of the model.
  abbrev pub popping : (r : Ring) → ℕ → PopStage → Room r → Flight T
  popping r capacity stage room =
      flights.Queues
      (flight {T = T} r (rings.Pop (record { call = at_pop (first_pop capacity) stage; given = tt; room = room })))

module _ {T : Type 0} (code : Coding T) (capacity : ℕ) where
  -- how many words a cell has
  abbrev pub wide : Ring → ℕ
  wide r = words_of_cell code.size (kind_of r)

  -- ---- the push

  -- The machine begins a push at its load of the write position, for indices and for values.
  pub push_named : (r : Ring) (v : Val T (kind_of r)) (kept : Registry T)
      → first_of (machine_kind (kind_of r)) capacity (Queues (push_of (item (kind_of r) v))) kept
      ≡ Some (pushing r v capacity pushes.LoadsWrite)
  push_named of_indices v kept = refl
  push_named of_values v kept = refl

  -- A push by the holder of the producer's role is not refused for want of the role.
  pub push_lacks : (r : Ring) (v : Val T (kind_of r)) (roles : Roles) (p : ℕ) → roles.producer ≡ Some p
      → lacks_role roles p (push_of {T = T} (item (kind_of r) v)) ≡ false
  push_lacks r v roles p producer_is = grind (arith, holds_it)

  -- A push asks for what the call of `steps` asks for at its stage.
  pub push_wants : (r : Ring) (v : Val T (kind_of r)) (stage : PushStage)
      → want_of code (pushing r v capacity stage) ≡ push_asks (encoded code (kind_of r)).words_of stage v
  push_wants of_indices v stage = refl
  push_wants of_values v stage = refl

  -- a stage of a push that does not find the last position is a call that does not find it
  pub push_fresh : (r : Ring) (v : Val T (kind_of r)) (n : ℕ) (stage : PushStage) → IsFresh n stage → IsFreshCall n (pushing r v capacity stage)
  push_fresh of_indices v n stage fresh = fresh
  push_fresh of_values v n stage fresh = fresh

  -- A step that finds this number leads from one flight to the next, and writes no event.
  pub record GoesOn (before after : Flight T) (found : ℕ) : Type 0 where
    pub comes : after_of code before found ≡ GoOn after
    pub quiet : queue_effects code 0 before found ≡ []

  -- A push that finds a write position before the last one goes on to the load of the read position.
  pub push_loads_write : (r : Ring) (v : Val T (kind_of r)) (n : ℕ) → (n == 2 ^ 64 - 1) ≡ false
      → GoesOn (pushing r v capacity pushes.LoadsWrite) (pushing r v capacity (pushes.LoadsRead n)) n
  push_loads_write of_indices v n t = record { comes = rw t refl; quiet = refl }
  push_loads_write of_values v n t = record { comes = rw t refl; quiet = refl }

  -- A push that finds the queue not full goes on to the store of the first word into its cell.
  pub push_loads_read : (r : Ring) (v : Val T (kind_of r)) (n : ℕ) → (capacity == 0) ≡ false → (distance n n == capacity) ≡ false
      → GoesOn (pushing r v capacity (pushes.LoadsRead n))
      (pushing r v capacity (pushes.StoresCell n (cell_word capacity (wide r) n) 0)) n
  push_loads_read of_indices v n s t = record { comes = rw (s, t) refl; quiet = rw (s, t) refl }
  push_loads_read of_values v n s t = record { comes = rw (s, t) refl; quiet = rw (s, t) refl }

  -- A push at a word before the last one of the cell goes on to the next word.
  pub push_stores_cell : (r : Ring) (v : Val T (kind_of r)) (n cell at found : ℕ) → nat_lt (at + 1) (wide r) ≡ true
      → GoesOn (pushing r v capacity (pushes.StoresCell n cell at)) (pushing r v capacity (pushes.StoresCell n cell (at + 1))) found
  push_stores_cell of_indices v n cell at found t = record { comes = rw t refl; quiet = refl }
  push_stores_cell of_values v n cell at found t = record { comes = rw t refl; quiet = refl }

  -- A push at the last word of the cell goes on to the store of the write position.
  pub push_stores_last : (r : Ring) (v : Val T (kind_of r)) (n cell at found : ℕ) → nat_lt (at + 1) (wide r) ≡ false
      → GoesOn (pushing r v capacity (pushes.StoresCell n cell at)) (pushing r v capacity (pushes.StoresWrite n)) found
  push_stores_last of_indices v n cell at found t = record { comes = rw t refl; quiet = refl }
  push_stores_last of_values v n cell at found t = record { comes = rw t refl; quiet = refl }

  -- The store of the write position ends a push, which answers true.
  pub push_ends : (r : Ring) (v : Val T (kind_of r)) (n found : ℕ)
      → after_of code (pushing r v capacity (pushes.StoresWrite n)) found ≡ Done (Truth true)
  push_ends of_indices v n found = refl
  push_ends of_values v n found = refl

  -- what it writes last, and with its end
  abbrev pub wrote_by_push : Item T → List (Event T)
  wrote_by_push x = Published 0 x ∷ Acted 0 (Queues (push_of x)) (Truth true) ∷ []

  -- The events of the push from what its last step writes on, with its end.
  abbrev pub events_of_push : Item T → List (Event T)
  events_of_push x = wrote_by_push x ++ Finished 0 (Queues (push_of x)) (Truth true) ∷ []

  -- The store of the write position publishes the item.
  pub push_tells : (r : Ring) (v : Val T (kind_of r)) (n found : ℕ)
      → queue_effects code 0 (pushing r v capacity (pushes.StoresWrite n)) found ≡ wrote_by_push (item (kind_of r) v)
  push_tells of_indices v n found = refl
  push_tells of_values v n found = refl

  -- ---- the pop

  -- The machine begins a pop at its load of the read position, with a fresh room.
  pub pop_named : (r : Ring) (kept : Registry T)
      → first_of (machine_kind (kind_of r)) capacity (Queues Pop) kept ≡ Some (popping r capacity pops.LoadsRead (fresh r))
  pop_named of_indices kept = refl
  pop_named of_values kept = refl

  -- A pop asks for what the call of `steps` asks for at its stage.
  pub pop_wants : (r : Ring) (stage : PopStage) (room : Room r) → want_of code (popping r capacity stage room) ≡ pop_asks stage
  pop_wants of_indices stage room = refl
  pop_wants of_values stage room = refl

  -- A pop at any stage is a call that does not find the last position.
  pub pop_fresh : (r : Ring) (n : ℕ) (stage : PopStage) (room : Room r) → IsFreshCall {T = T} n (popping r capacity stage room)
  pop_fresh of_indices n stage room = tt
  pop_fresh of_values n stage room = tt

  -- The load of the read position leads a pop to the load of the write position.
  pub pop_loads_read : (r : Ring) (n : ℕ) (room : Room r)
      → GoesOn (popping r capacity pops.LoadsRead room) (popping r capacity (pops.LoadsWrite n) room) n
  pop_loads_read of_indices n room = record { comes = refl; quiet = refl }
  pop_loads_read of_values n room = record { comes = refl; quiet = refl }

  -- A pop that finds another write position than its read position goes on to the load of the first
  -- word of the cell.
  pub pop_loads_write : (r : Ring) (n found : ℕ) (room : Room r) → (capacity == 0) ≡ false → (found == n) ≡ false
      → GoesOn (popping r capacity (pops.LoadsWrite n) room)
      (popping r capacity (pops.LoadsCell n (cell_word capacity (wide r) n) 0) room) found
  pop_loads_write of_indices n found room s t = record { comes = rw (s, t) refl; quiet = rw (s, t) refl }
  pop_loads_write of_values n found room s t = record { comes = rw (s, t) refl; quiet = rw (s, t) refl }

  -- A pop at a word before the last one of the cell keeps that word in its room and goes on to the next.
  pub pop_loads_cell : (r : Ring) (n cell at found : ℕ) (room : Room r) → nat_lt (at + 1) (wide r) ≡ true
      → GoesOn (popping r capacity (pops.LoadsCell n cell at) room)
      (popping r capacity (pops.LoadsCell n cell (at + 1)) (with_word r room at found)) found
  pop_loads_cell of_indices n cell at found room t = record { comes = rw t refl; quiet = refl }
  pop_loads_cell of_values n cell at found room t = record { comes = rw t refl; quiet = refl }

  -- A pop at the last word of the cell keeps that word in its room and goes on to the store
  -- of the read position.
  pub pop_loads_last : (r : Ring) (n cell at found : ℕ) (room : Room r) → nat_lt (at + 1) (wide r) ≡ false
      → GoesOn (popping r capacity (pops.LoadsCell n cell at) room)
      (popping r capacity (pops.StoresRead n) (with_word r room at found)) found
  pop_loads_last of_indices n cell at found room t = record { comes = rw t refl; quiet = refl }
  pop_loads_last of_values n cell at found room t = record { comes = rw t refl; quiet = refl }

  -- what it read is this value
  pub pop_ends : (r : Ring) (v : Val T (kind_of r)) (n found : ℕ) (room : Room r) → read_in code r room ≡ v
      → after_of code (popping r capacity (pops.StoresRead n) room) found ≡ Done (popped_item (Some (item (kind_of r) v)))
  pop_ends of_indices v n found room is = ap (λ x. Done (answers.PoppedIndex x)) is
  pop_ends of_values v n found room is = ap (λ x. Done (answers.Popped x)) is

  -- What the pop of an item by party 0 writes: the item is handed out, and the pop acts.
  abbrev pub wrote_by_pop : Item T → List (Event T)
  wrote_by_pop x = HandedOut 0 x ∷ Acted 0 (Queues Pop) (popped_item (Some x)) ∷ []

  -- The events of the pop from what it writes on, with its end.
  abbrev pub events_of_pop : Item T → List (Event T)
  events_of_pop x = wrote_by_pop x ++ Finished 0 (Queues Pop) (popped_item (Some x)) ∷ []

  -- The last step of a pop whose room has this value writes the events of its pop.
  pub pop_tells : (r : Ring) (v : Val T (kind_of r)) (n found : ℕ) (room : Room r) → read_in code r room ≡ v
      → queue_effects code 0 (popping r capacity (pops.StoresRead n) room) found ≡ wrote_by_pop (item (kind_of r) v)
  pop_tells of_indices v n found room is = ap (λ x. HandedOut 0 (Index x) ∷ Acted 0 (Queues Pop) (answers.PoppedIndex x) ∷ []) is
  pop_tells of_values v n found room is = ap (λ x. HandedOut 0 (Value x) ∷ Acted 0 (Queues Pop) (answers.Popped x) ∷ []) is

  -- ---- the opening

  -- A queue opens with both positions at 0, both roles free, and cells of zeros.
  pub opens_with : (r : Ring) → (opening_of (machine_kind (kind_of r))).words code.size capacity ≡ 0 ∷ 0 ∷ 1 ∷ 1 ∷ replicate (wide r * capacity) 0
  opens_with of_indices = refl
  opens_with of_values = refl

  -- A capacity below 2^32 is not refused.
  pub admits : (r : Ring) → capacity < 2 ^ 32 → capacity_error (machine_kind (kind_of r)) capacity ≡ None
  admits r capacity_below = grind (arith, false, nat_tests)

  -- The machine begins an acquire of a role at the word of that role.
  pub acquire_named : (kd : QueueKind) (role : Role) (kept : Registry T)
      → ◌≡◌ {A = Option (Flight T)} (first_of (machine_kind kd) capacity (Queues (acquire_start role)) kept)
      (Some ((takes_role role).flight (record { word = role_word role }) tt))
  acquire_named kd role kept = grind arith

  -- The machine begins a release of a role at the word of that role.
  pub release_named : (kd : QueueKind) (role : Role) (kept : Registry T)
      → ◌≡◌ {A = Option (Flight T)} (first_of (machine_kind kd) capacity (Queues (release_start role)) kept)
      (Some ((gives_role role).flight (record { word = role_word role }) tt))
  release_named kd role kept = grind arith

  -- An acquire of a role needs no role.
  pub acquire_lacks : (role : Role) (roles : Roles) (p : ℕ) → lacks_role {T = T} roles p (acquire_start role) ≡ false
  acquire_lacks Producer roles p = refl
  acquire_lacks Consumer roles p = refl

  -- A release of a role by its holder is not refused for want of the role.
  pub release_lacks : (role : Role) (roles : Roles) (p : ℕ) → holder role roles ≡ Some p → lacks_role {T = T} roles p (release_start role) ≡ false
  release_lacks role roles p holder_is = grind (arith, holds_it)

-- ---- ---- what holds of the words of queues of either kind

-- A cell has as many words as a value.
pub wide_is : {T : Type 0} (code : Coding T) (r : Ring) → (encoded code (kind_of r)).size ≡ words_of_cell code.size (kind_of r)
wide_is code of_indices = refl
wide_is code of_values = refl

-- A fresh room has as many words as a cell.
pub fresh_long : {T : Type 0} (code : Coding T) (r : Ring) → IsCoding code → words_of_cell code.size (kind_of r) ≤ length (words_in r (fresh r))
fresh_long code r coding = grind (arith, length-replicate)
