-- A push and a pop of a queue of values are calls of the model, each step of which keeps
-- the rule of the table.
use Rattle.history.proofs.Names.{◌≡◌, ℕ, ◌+◌, ◌^◌, ◌*◌, ◌<◌, Bool}
use Rattle.history.proofs.Names.{true, false, Option, Some, None, List, [], slice_set, slice_index, refl}
use Rattle.history.proofs.Names.{sym, ap, arith, written}
use Rattle.steps.specs.declared.ask.Ask.{Ask}
use Rattle.steps.specs.declared.ask.After.TheVariants.{GoOn}
use Rattle.history.proofs.Names.{after_position}
use Rattle.history.proofs.Names.{Coding, IsCoding, after_of, fresh_cell, kept_at}
use Rattle.model.specs.declared.families.Flight.{Flight}
use Rattle.model.specs.declared.families.queues.QueueStart.TheVariants.{Pop}
use Rattle.model.specs.declared.families.queues.calls.QueueFlight.TheVariants.{Values}
use Rattle.history.proofs.Names.{push_effect, answered, IsFresh}
use Rattle.steps.specs.declared.queues.roles.Role.TheVariants.{Producer, Consumer}
use Rattle.steps.specs.declared.ask.Op.TheVariants.{Load, Store}
use Rattle.steps.specs.declared.ask.After.TheVariants.{Done}
use Rattle.steps.specs.declared.ask.Want.TheVariants as wants
use Rattle.steps.specs.declared.copied.Buffer as buffers
use Rattle.steps.specs.declared.queues.ring.Pop.{Pop as Popping}
use Rattle.steps.specs.declared.queues.ring.PopStage.{PopStage}
use Rattle.steps.specs.declared.queues.ring.PopStage.TheVariants as pops
use Rattle.steps.specs.declared.queues.ring.Push.{Push as Pushing}
use Rattle.steps.specs.declared.queues.ring.PushStage.{PushStage}
use Rattle.steps.specs.declared.queues.ring.PushStage.TheVariants as pushes
use Rattle.steps.specs.Queues.Ring.{first_push, first_pop, word_at, push_asks, push_want}
use Rattle.steps.specs.Queues.Ring.{push_takes, push_after, pop_asks, pop_want}
use Rattle.steps.specs.Queues.Ring.{pop_takes, pop_after, pop_kept, pop_keeps}
use Rattle.model.specs.declared.event.Item.TheVariants.{Value}
use Rattle.model.specs.declared.families.Flight.TheVariants as flights
use Rattle.model.specs.declared.families.queues.QueueKind.TheVariants as queues
use Rattle.model.specs.declared.families.queues.QueueStart.TheVariants.{Push}
use Rattle.model.specs.declared.families.queues.calls.RingCall.TheVariants as rings
use Rattle.model.specs.declared.turn.Kind.TheVariants as kinds
use Rattle.model.specs.Families.Queues.Steps.{effects_of}
use Rattle.history.specs.declared.view.View.{View}
use Rattle.history_queues.specs.Queues.{push_skips}
use Rattle.history.specs.Roles.{HasRole}
use Rattle.history.specs.Rooms.{room_of}
use Rattle.history.specs.Stages.{Calling, At}
use Rattle.history_queues.specs.ValueQueue.{PushPlace, PopPlace, value_pop_wrote, pushes_value, pops_value}
use Rattle.history.specs.Rooms.{value_there}
use Rattle.history.proofs.Beginning.{at_begin}
use Rattle.history.proofs.Drives.{goes, keeps, keeps_to_end}
use Rattle.history.proofs.Roles.{holds_it}
use Rattle.history_queues.proofs.QueueCalls.{cell_low}
use Rattle.history_queues.proofs.Queues.{queue_effects, role_begins, queue_machines}
use Rattle.history.proofs.Rooms.{room_set, room_read}
use Rattle.history.proofs.CallsIn.{Driven, IsCallBy, KeepsEnds, KeepsOver}

-- ---- pushes

module _ {T : Type 0} (code : Coding T) (law : IsCoding code) (v : T) where
  -- a push of this value, as a call of the model
  abbrev pushing : Calling T (Pushing T) (Unit {0}) Bool
  pushing = pushes_value code v

  -- the model's push goes on as the driver's does
  push_same_after : (c : Pushing T) (m : Unit {0}) (n : ℕ) → after_of code (pushing.flight c m) n ≡ goes pushing (push_after code.size c n) m
  push_same_after = grind arith

  -- the effects of a step with which a push goes on
  effects_on : (p : ℕ) (c d : Pushing T) (m : Unit {0}) (n : ℕ) → push_after code.size c n ≡ GoOn d
      → queue_effects code p (pushing.flight c m) n ≡ effects_of p (Push v) (push_effect (Value v) c.stage) None
  effects_on p c d m n leads = rw leads refl

  -- a step with which a push goes on writes nothing
  quiet : (p n : ℕ) (c d : Pushing T) (stage : PushStage) → push_takes code.size c stage n ≡ GoOn d
      → effects_of {T = T} p (Push v) (push_effect (Value v) stage) None ≡ []
  quiet = grind arith

  -- a push, or a pop, that goes on stands at its next place
  module _ (capacity : ℕ) where
    -- the push is at a word of the cell of the write position, and no word ends it outside
    -- the history any more
    abbrev PushesNext : Pushing T → Type 0
    PushesNext d = (d.capacity ≡ capacity) × PushPlace code.size capacity d.stage × ((k : ℕ) → push_skips d.stage k ≡ false)

    -- a push that goes on is at a word of the cell of the write position
    push_stays : (c d : Pushing T) (n : ℕ) (stage : PushStage) → c.capacity ≡ capacity
        → PushPlace code.size capacity stage → push_takes code.size c stage n ≡ GoOn d → PushesNext d
    push_stays = grind arith

  -- at each of its stages a push asks for a word of the queue
  push_finds_word : (capacity : ℕ) (stage : PushStage) → PushPlace code.size capacity stage
      → (a : Ask) × (a.word < 4 + code.size * capacity) × (push_asks code.words_of stage v ≡ wants.Ask a)
  push_finds_word capacity pushes.LoadsWrite push_place = (record { word = 0; op = Load }, omega arith, refl)
  push_finds_word capacity (pushes.LoadsRead write) push_place = (record { word = 1; op = Load }, omega arith, refl)
  push_finds_word capacity (pushes.StoresCell write cell at) push_place =
      (record { word = word_at cell at; op = Store (slice_index (code.words_of v) at) }, cell_low code.size capacity write cell at push_place, refl)
  push_finds_word capacity (pushes.StoresWrite write) push_place = (record { word = 0; op = Store (after_position write) }, omega arith, refl)

  -- what a push hears of an operation is what the word was before it
  push_hears : (c : Pushing T) (a : Ask) (n : ℕ) (stage : PushStage)
      → push_asks code.words_of stage v ≡ wants.Ask a
      → push_takes code.size c stage (answered a.op n) ≡ push_takes code.size c stage n
  push_hears = grind arith

  -- a push that no word ends outside the history does not find the last position
  push_finds : (n : ℕ) (stage : PushStage) → n < 2 ^ 64 → push_skips stage n ≡ false → IsFresh n stage
  push_finds = grind arith

  -- a push that loads the last position ends with false, and leaves the word as it is
  push_leaves : (c : Pushing T) (a : Ask) (n : ℕ) (stage : PushStage) → push_skips stage n ≡ true
      → push_asks code.words_of stage v ≡ wants.Ask a
      → (written a.op n ≡ n) × (e : Bool) × (e ≡ false) × (push_takes code.size c stage n ≡ Done e)
  push_leaves = grind arith

  -- a push, as the driver makes it
  abbrev pub push_driven : Driven T (Pushing T) (Unit {0}) Bool
  push_driven = record { want = λ c. push_want code.words_of c v; after = λ c n. push_after code.size c n; kept = λ c m n. m; call = pushing }

  -- a push is a call of the model
  push_is_call : IsCallBy code (queue_effects code) (λ capacity. 4 + code.size * capacity) push_driven
  push_is_call = grind (arith, push_same_after, push_hears, push_stays, push_finds_word, push_finds, push_leaves, queue_effects, effects_on, quiet)

  -- each step of a push keeps the rule of the table
  pub value_push_keeps : KeepsOver code kinds.Queue (λ capacity. 4 + code.size * capacity) push_driven
  value_push_keeps = keeps (queue_machines code) push_driven push_is_call

  -- a push begins on a pass that has the producer's role and no call under way
  pub value_push_first : (x : View T) (m : Unit {0}) → x.going ≡ None → x.other ≡ [] → 0 < x.share.part
      → x.capacity < 2 ^ 32 → HasRole Producer x.made → At code kinds.Queue pushing x x (first_push x.capacity) m
  value_push_first x m idle alone any small has =
      at_begin idle alone any (small, refl, tt) refl
      (role_begins queues.Queue (Push v) refl (λ kept. refl) Producer (λ o p. tt) (λ roles p is. holds_it roles.producer p is) has) (λ p. refl)

-- ---- pops

-- R is the room of a value's words: `words_in` are its words, and `with_word` puts one of them
module _ {T R : Type 0} (code : Coding T) (law : IsCoding code) (words_in : R → List ℕ) (with_word : R → ℕ → ℕ → R)
    (put_in : (x : R) (at word : ℕ) → words_in (with_word x at word) ≡ slice_set (words_in x) at word) where
  -- a pop, as a call of the model
  abbrev popping : Calling T (Popping T R) R Bool
  popping = pops_value code words_in

  -- the room after a step: with the word that the step has loaded
  abbrev keeps_word : Popping T R → R → ℕ → R
  keeps_word = pop_kept with_word

  -- the model's pop at this stage, with this room
  abbrev flight_at : ℕ → PopStage → buffers.Buffer 128 → Flight T
  flight_at capacity stage room =
      flights.Queues
      (Values
      (rings.Pop (record { call = record { capacity = capacity; stage = stage; of = record {} }; given = tt; room = room })))

  -- the room, as the model has it
  abbrev room_in : R → buffers.Buffer 128
  room_in m = room_of code.size (words_in m)

  -- a word that is put to its place in the room is put there in the model's room too
  put_there : (m : R) (at n : ℕ) → at < code.size → kept_at (room_in m) at n ≡ room_in (with_word m at n)
  put_there m at n below = grind (arith, room_set, room_of)

  -- the model's pop goes on as that of the driver does, at each of its stages
  pop_same_after : (capacity : ℕ) (c : Popping T R) (m : R) (n : ℕ) (stage : PopStage)
      → PopPlace code.size capacity stage
      → after_of code (flight_at c.capacity stage (room_in m)) n
      ≡ goes popping (pop_takes code.size c stage n) (pop_keeps with_word m stage n)
  pop_same_after = grind (arith, put_there, room_read)

  -- a step with which a pop goes on writes nothing
  pop_quiet : (p n : ℕ) (c d : Popping T R) (m : R) (stage : PopStage) → pop_takes code.size c stage n ≡ GoOn d
      → queue_effects code p (flight_at c.capacity stage (room_in m)) n ≡ []
  pop_quiet = grind arith

  -- the step with which a pop ends writes what it answers
  pop_loud : (p n : ℕ) (c : Popping T R) (m : R) (b : Bool) (stage : PopStage)
      → pop_takes code.size c stage n ≡ Done b
      → queue_effects code p (flight_at c.capacity stage (room_in m)) n
      ≡ value_pop_wrote p (value_there code words_in (pop_keeps with_word m stage n)) b
  pop_loud = grind (arith, room_read, value_there)

  module _ (capacity : ℕ) where
    -- the pop is at a word of the cell of the read position
    abbrev PopsNext : Popping T R → Type 0
    PopsNext d = (d.capacity ≡ capacity) × PopPlace code.size capacity d.stage

    -- a pop that goes on is at a word of the cell of the read position
    pop_stays : (c d : Popping T R) (n : ℕ) (stage : PopStage) → c.capacity ≡ capacity
        → PopPlace code.size capacity stage → pop_takes code.size c stage n ≡ GoOn d → PopsNext d
    pop_stays = grind arith

  -- at each of its stages a pop asks for a word of the queue
  pop_finds_word : (capacity : ℕ) (stage : PopStage) → PopPlace code.size capacity stage
      → (a : Ask) × (a.word < 4 + code.size * capacity) × (pop_asks stage ≡ wants.Ask a)
  pop_finds_word capacity pops.LoadsRead pop_place = (record { word = 1; op = Load }, omega arith, refl)
  pop_finds_word capacity (pops.LoadsWrite read) pop_place = (record { word = 0; op = Load }, omega arith, refl)
  pop_finds_word capacity (pops.LoadsCell read cell at) pop_place =
      (record { word = word_at cell at; op = Load }, cell_low code.size capacity read cell at pop_place, refl)
  pop_finds_word capacity (pops.StoresRead read) pop_place = (record { word = 1; op = Store (after_position read) }, omega arith, refl)

  -- what a pop hears of an operation is what the word was before it, and its room keeps that
  pop_hears : (c : Popping T R) (m : R) (a : Ask) (n : ℕ) (stage : PopStage) → pop_asks stage ≡ wants.Ask a
      → (pop_takes code.size c stage (answered a.op n) ≡ pop_takes code.size c stage n)
      × (pop_keeps with_word m stage (answered a.op n) ≡ pop_keeps with_word m stage n)
  pop_hears = grind arith

  -- a pop, as the driver makes it
  abbrev pub pop_driven : Driven T (Popping T R) R Bool
  pop_driven = record { want = λ (c : Popping T R). pop_want c; after = λ c n. pop_after code.size c n; kept = keeps_word; call = popping }

  -- a pop of a queue of values is a call of the model
  pop_is_call : IsCallBy code (queue_effects code) (λ capacity. 4 + code.size * capacity) pop_driven
  pop_is_call = grind (arith, pop_same_after, pop_hears, pop_stays, pop_finds_word, pop_quiet, pop_loud, room_read, value_there, queue_effects)

  -- each step of a pop keeps the rule of the table
  pub value_pop_keeps : KeepsEnds code kinds.Queue (λ capacity. 4 + code.size * capacity) pop_driven
  value_pop_keeps = keeps_to_end (queue_machines code) pop_driven pop_is_call (λ c n. refl)

  -- a pop begins in a room of zeros in which a value fits, on a pass that has the consumer's role
  -- and no call under way
  pub value_pop_first : (x : View T) (m : R) → room_in m ≡ fresh_cell → x.going ≡ None → x.other ≡ []
      → 0 < x.share.part → x.capacity < 2 ^ 32 → HasRole Consumer x.made
      → At code kinds.Queue popping x x (first_pop x.capacity) m
  value_pop_first x m zeros idle alone any small has =
      at_begin idle alone any (small, refl, tt) named
      (role_begins queues.Queue Pop refl (λ kept. named) Consumer (λ o p. tt) (λ roles p is. holds_it roles.consumer p is) has) (λ p. refl)
    where
      named : ◌≡◌ {A = Option (Flight T)} (Some (flight_at x.capacity pops.LoadsRead fresh_cell)) (Some (popping.flight (first_pop x.capacity) m))
      named = ap (λ r. Some (flight_at x.capacity pops.LoadsRead r)) (sym zeros)
