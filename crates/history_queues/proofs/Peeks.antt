-- A peek into an index queue, and into a queue of values, is a call of the model, each step of which keeps
-- the rule of its table.
use Rattle.history.proofs.Names.{◌≡◌, ℕ, ◌+◌, ◌^◌, ◌*◌, ◌<◌, Bool}
use Rattle.history.proofs.Names.{Option, Some, None, List, [], slice_set, refl}
use Rattle.history.proofs.Names.{sym, ap, arith, nat_tests}
use Rattle.steps.specs.declared.ask.Ask.{Ask}
use Rattle.steps.specs.declared.ask.After.TheVariants.{GoOn}
use Rattle.steps.specs.declared.copied.OneWord.{OneWord}
use Rattle.history.proofs.Names.{Coding, IsCoding, after_of, fresh_cell, kept_at, answered}
use Rattle.model.specs.declared.families.Flight.{Flight}
use Rattle.model.specs.declared.families.queues.calls.QueueFlight.TheVariants.{Values}
use Rattle.steps.specs.declared.queues.roles.Role.TheVariants.{Consumer}
use Rattle.steps.specs.declared.ask.Op.TheVariants.{Load}
use Rattle.steps.specs.declared.ask.Want.TheVariants as wants
use Rattle.steps.specs.declared.copied.Buffer as buffers
use Rattle.steps.specs.declared.queues.peek.Peek.{Peek as Peeking}
use Rattle.steps.specs.declared.queues.peek.PeekStage.{PeekStage}
use Rattle.steps.specs.declared.queues.peek.PeekStage.TheVariants as peeks
use Rattle.steps.specs.Copied.{kept_in_one}
use Rattle.steps.specs.Queues.Peek.{first_peek, peek_asks, peek_want, peek_takes, peek_after, peek_kept, peek_keeps}
use Rattle.steps.specs.Queues.Ring.{word_at}
use Rattle.model.specs.declared.families.Flight.TheVariants as flights
use Rattle.model.specs.declared.families.queues.QueueKind.TheVariants as queues
use Rattle.model.specs.declared.families.queues.QueueStart.TheVariants.{Peek}
use Rattle.model.specs.declared.families.queues.calls.RingCall.TheVariants as rings
use Rattle.model.specs.declared.turn.Kind.TheVariants as kinds
use Rattle.history.specs.declared.view.View.{View}
use Rattle.history_queues.specs.Queues as indices
use Rattle.history_queues.specs.Queues.{peeks_index}
use Rattle.history.specs.Roles.{HasRole}
use Rattle.history.specs.Rooms.{room_of}
use Rattle.history.specs.Stages.{Calling, At}
use Rattle.history_queues.specs.ValueQueue.{PeekPlace, peeks_value}
use Rattle.history.proofs.Beginning.{at_begin}
use Rattle.history.proofs.Drives.{goes, keeps_to_end}
use Rattle.history.proofs.Roles.{holds_it}
use Rattle.history_queues.proofs.QueueCalls.{cell_low, index_low}
use Rattle.history_queues.proofs.Queues.{queue_effects, role_begins, index_queue_machines, queue_machines}
use Rattle.history.proofs.Rooms.{room_set, room_read}
use Rattle.history.proofs.CallsIn.{Driven, IsCallBy, KeepsEnds}

-- ---- of an index queue

module _ {T : Type 0} (code : Coding T) where
  -- a peek, as a call of the model
  abbrev index_looking : Calling T indices.Peeking OneWord Bool
  index_looking = peeks_index

  -- the room after a step: with the word that the step has loaded
  abbrev keeps_it : indices.Peeking → OneWord → ℕ → OneWord
  keeps_it = peek_kept kept_in_one

  -- the model's peek goes on as the driver's does
  index_same_after : (c : indices.Peeking) (m : OneWord) (n : ℕ)
      → after_of code (index_looking.flight c m) n ≡ goes index_looking (peek_after 1 c n) (keeps_it c m n)
  index_same_after = grind arith

  -- a peek that goes on is at a cell of the queue
  index_stays : (capacity : ℕ) (c d : indices.Peeking) (n : ℕ) (stage : PeekStage) → c.capacity ≡ capacity
      → indices.PeekStage capacity stage → peek_takes 1 c stage n ≡ GoOn d
      → (d.capacity ≡ capacity) × indices.PeekStage capacity d.stage
  index_stays = grind (arith, nat_tests)

  -- a peek asks for a word of the queue at each stage
  index_finds_word : (capacity : ℕ) (stage : PeekStage) → capacity < 2 ^ 32 → indices.PeekStage capacity stage
      → (a : Ask) × (a.word < 4 + capacity) × (peek_asks stage ≡ wants.Ask a)
  index_finds_word capacity peeks.LoadsRead fits peek_stage = (record { word = 1; op = Load }, omega arith, refl)
  index_finds_word capacity (peeks.LoadsWrite read) fits peek_stage = (record { word = 0; op = Load }, omega arith, refl)
  index_finds_word capacity (peeks.LoadsCell cell at) fits peek_stage =
      (record { word = word_at cell at; op = Load }, index_low capacity peek_stage.0 cell at (peek_stage.1, peek_stage.2, peek_stage.3), refl)

  -- what a peek hears of an operation is what the word was before it, and its room keeps that
  index_hears : (c : indices.Peeking) (m : OneWord) (a : Ask) (n : ℕ) (stage : PeekStage) → peek_asks stage ≡ wants.Ask a
      → (peek_takes 1 c stage (answered a.op n) ≡ peek_takes 1 c stage n)
      × (peek_keeps kept_in_one m stage (answered a.op n) ≡ peek_keeps kept_in_one m stage n)
  index_hears = grind arith

  -- a peek, as the driver makes it
  abbrev pub peek_driven : Driven T indices.Peeking OneWord Bool
  peek_driven = record { want = λ (c : indices.Peeking). peek_want c; after = λ c n. peek_after 1 c n; kept = keeps_it; call = index_looking }

  -- a peek into an index queue is a call of the model
  peek_is_call : IsCallBy code (queue_effects code) (λ capacity. 4 + capacity) peek_driven
  peek_is_call = grind (arith, index_same_after, index_hears, index_stays, index_finds_word)

  -- each step of a peek keeps the rule of the table
  pub peek_keep_all : KeepsEnds code kinds.IndexQueue (λ capacity. 4 + capacity) peek_driven
  peek_keep_all = keeps_to_end (index_queue_machines code) peek_driven peek_is_call (λ c n. refl)

  -- a peek begins on a pass that has the consumer's role and no call under way
  pub peek_first : (x : View T) → x.going ≡ None → x.other ≡ [] → 0 < x.share.part → x.capacity < 2 ^ 32
      → HasRole Consumer x.made → At code kinds.IndexQueue peeks_index x x (first_peek x.capacity) (record { 0 = 0 })
  peek_first x idle alone any small has =
      at_begin idle alone any (small, refl, tt) refl
      (role_begins queues.IndexQueue Peek refl (λ kept. refl) Consumer (λ o p. tt) (λ roles p is. holds_it roles.consumer p is) has) (λ p. refl)

-- ---- of a queue of values

-- R is the room of a value's words: `words_in` are its words, and `with_word` puts one of them
module _ {T R : Type 0} (code : Coding T) (law : IsCoding code) (words_in : R → List ℕ) (with_word : R → ℕ → ℕ → R)
    (put_in : (x : R) (at word : ℕ) → words_in (with_word x at word) ≡ slice_set (words_in x) at word) where
  -- a peek, as a call of the model
  abbrev looking : Calling T (Peeking T R) R Bool
  looking = peeks_value code words_in

  -- the room after a step: with the word that the step has loaded
  abbrev keeps_word : Peeking T R → R → ℕ → R
  keeps_word = peek_kept with_word

  -- the model's peek at this stage, with this room
  abbrev flight_at : ℕ → PeekStage → buffers.Buffer 128 → Flight T
  flight_at capacity stage room =
      flights.Queues
      (Values
      (rings.Peek (record { call = record { capacity = capacity; stage = stage; of = record {} }; given = tt; room = room })))

  -- the room, as the model has it
  abbrev room_in : R → buffers.Buffer 128
  room_in m = room_of code.size (words_in m)

  -- a word that is put to its place in the room is put there in the model's room too
  put_there : (m : R) (at n : ℕ) → at < code.size → kept_at (room_in m) at n ≡ room_in (with_word m at n)
  put_there m at n below = grind (arith, room_set, room_of)

  -- the model's peek of a value goes on as the driver's does
  peek_same_after : (capacity : ℕ) (c : Peeking T R) (m : R) (n : ℕ) (stage : PeekStage)
      → PeekPlace code.size capacity stage
      → after_of code (flight_at c.capacity stage (room_in m)) n
      ≡ goes looking (peek_takes code.size c stage n) (peek_keeps with_word m stage n)
  peek_same_after = grind (arith, put_there, room_read)

  module _ (capacity : ℕ) where
    -- the peek is at a word of a position's cell, on a queue of this capacity
    abbrev PeeksNext : Peeking T R → Type 0
    PeeksNext d = (d.capacity ≡ capacity) × PeekPlace code.size capacity d.stage

    -- a peek of a value that goes on is at a word of a cell of the queue
    peek_stays : (c d : Peeking T R) (n : ℕ) (stage : PeekStage) → c.capacity ≡ capacity
        → PeekPlace code.size capacity stage → peek_takes code.size c stage n ≡ GoOn d → PeeksNext d
    peek_stays = grind (arith, nat_tests, law)

  -- a peek asks for a word of the queue at each stage
  peek_finds_word : (capacity : ℕ) (stage : PeekStage) → PeekPlace code.size capacity stage
      → (a : Ask) × (a.word < 4 + code.size * capacity) × (peek_asks stage ≡ wants.Ask a)
  peek_finds_word capacity peeks.LoadsRead peek_place = (record { word = 1; op = Load }, omega arith, refl)
  peek_finds_word capacity (peeks.LoadsWrite read) peek_place = (record { word = 0; op = Load }, omega arith, refl)
  peek_finds_word capacity (peeks.LoadsCell cell at) peek_place =
      (record { word = word_at cell at; op = Load }, cell_low code.size capacity peek_place.0 cell at peek_place.1, refl)

  -- what a peek of a value hears of an operation is what the word was before it, and its room keeps that
  peek_hears : (c : Peeking T R) (m : R) (a : Ask) (n : ℕ) (stage : PeekStage) → peek_asks stage ≡ wants.Ask a
      → (peek_takes code.size c stage (answered a.op n) ≡ peek_takes code.size c stage n)
      × (peek_keeps with_word m stage (answered a.op n) ≡ peek_keeps with_word m stage n)
  peek_hears = grind arith

  -- a peek, as the driver makes it
  abbrev pub value_peek_driven : Driven T (Peeking T R) R Bool
  value_peek_driven = record { want = λ (c : Peeking T R). peek_want c; after = λ c n. peek_after code.size c n; kept = keeps_word; call = looking }

  -- a peek into a queue of values is a call of the model
  value_peek_is_call : IsCallBy code (queue_effects code) (λ capacity. 4 + code.size * capacity) value_peek_driven
  value_peek_is_call = grind (arith, peek_same_after, peek_hears, peek_stays, peek_finds_word)

  -- each step of a peek keeps the rule of the table
  pub value_peek_keeps : KeepsEnds code kinds.Queue (λ capacity. 4 + code.size * capacity) value_peek_driven
  value_peek_keeps = keeps_to_end (queue_machines code) value_peek_driven value_peek_is_call (λ c n. refl)

  -- a peek of a value begins in a room of zeros, on a pass that has the consumer's role and no call under way
  pub value_peek_first : (x : View T) (m : R) → room_in m ≡ fresh_cell → x.going ≡ None → x.other ≡ []
      → 0 < x.share.part → x.capacity < 2 ^ 32 → HasRole Consumer x.made
      → At code kinds.Queue looking x x (first_peek x.capacity) m
  value_peek_first x m zeros idle alone any small has =
      at_begin idle alone any (small, refl, tt) named
      (role_begins queues.Queue Peek refl (λ kept. named) Consumer (λ o p. tt) (λ roles p is. holds_it roles.consumer p is) has) (λ p. refl)
    where
      named : ◌≡◌ {A = Option (Flight T)} (Some (flight_at x.capacity peeks.LoadsRead fresh_cell)) (Some (looking.flight (first_peek x.capacity) m))
      named = ap (λ r. Some (flight_at x.capacity peeks.LoadsRead r)) (sym zeros)
