-- A push and a pop of an index queue are calls of the model, each step of which keeps the rule of the table.
use Rattle.history.proofs.Names.{not, ◌≡◌, ℕ, ◌+◌, ◌^◌, ◌*◌, ◌<◌, Bool}
use Rattle.history.proofs.Names.{true, false, Option, Some, None, [], refl}
use Rattle.history.proofs.Names.{arith, written, after_position}
use Rattle.steps.specs.declared.ask.Ask.{Ask}
use Rattle.steps.specs.declared.ask.After.{After}
use Rattle.steps.specs.declared.ask.After.TheVariants.{GoOn}
use Rattle.steps.specs.declared.copied.OneWord.{OneWord}
use Rattle.model.specs.declared.event.Answer.{Answer}
use Rattle.model.specs.declared.families.Flight.{Flight}
use Rattle.model.specs.declared.families.queues.QueueStart.TheVariants.{PushIndex, Pop}
use Rattle.history.proofs.Names.{Coding, after_of, words_of_index, popped, push_effect, pop_effect, answered}
use Rattle.history.proofs.Names.{IsFresh, holds}
use Rattle.steps.specs.declared.queues.roles.Role.TheVariants.{Producer, Consumer}
use Rattle.steps.specs.declared.ask.Op.TheVariants.{Load, Store}
use Rattle.steps.specs.declared.ask.After.TheVariants.{Done}
use Rattle.steps.specs.declared.ask.Want.TheVariants as wants
use Rattle.steps.specs.declared.queues.ring.Push.{Push}
use Rattle.steps.specs.declared.queues.ring.PushStage as pushes
use Rattle.steps.specs.declared.queues.ring.PopStage as pops
use Rattle.steps.specs.Copied.{kept_in_one}
use Rattle.steps.specs.Queues.Ring.{first_push, first_pop, cell_word, word_at, push_asks, push_want}
use Rattle.steps.specs.Queues.Ring.{push_takes, push_after, pop_asks, pop_want}
use Rattle.steps.specs.Queues.Ring.{pop_takes, pop_after, pop_kept, pop_keeps, pop_answer}
use Rattle.model.specs.declared.event.Item.TheVariants.{Index}
use Rattle.model.specs.Families.Queues.Steps.{effects_of}
use Rattle.history.specs.Stages.{Calling, At}
use Rattle.model.specs.declared.turn.Kind.TheVariants as kinds
use Rattle.history.specs.declared.view.View.{View}
use Rattle.history.specs.Roles.{HasRole}
use Rattle.model.specs.declared.families.queues.QueueKind.TheVariants.{IndexQueue}
use Rattle.history_queues.specs.Queues.{push_skips, PushStage, pushes_index, Taking, PopStage, pop_wrote}
use Rattle.history_queues.specs.Queues.{pops_index}
use Rattle.history_queues.specs.ValueQueue.{IsWordOf}
use Rattle.history.proofs.Beginning.{at_begin}
use Rattle.history.proofs.Roles.{holds_it}
use Rattle.history.proofs.Drives.{goes, keeps, keeps_to_end}
use Rattle.history_queues.proofs.Queues.{queue_effects, role_begins}
use Rattle.history.proofs.CallsIn.{Driven, IsCallBy, KeepsEnds, KeepsOver}
use Rattle.history_queues.proofs.Queues.{index_queue_machines}

-- a word of a cell is one of the queue's words
pub cell_low : (size capacity position cell at : ℕ) → IsWordOf size capacity position cell at → word_at cell at < 4 + size * capacity
cell_low = grind arith

-- the word of a cell of an index queue is one of the queue's words
pub index_low : (capacity position cell at : ℕ) → (0 < capacity) × (cell ≡ cell_word capacity 1 position) × (at ≡ 0) → word_at cell at < 4 + capacity
index_low capacity position cell at place =
    let none = place.2 in
    let low = cell_low 1 capacity position cell at (place.0, place.1, omega arith) in
    omega arith

module _ {T : Type 0} (code : Coding T) (v : ℕ) where
  -- a push of this index, as a call of the model
  abbrev call : Calling T (Push ℕ) (Unit {0}) Bool
  call = pushes_index v

  abbrev in_all : After (Push ℕ) Bool → Unit {0} → After (Flight T) (Answer T)
  in_all r m = goes call r m

  -- the model's push goes on as the driver's does
  same_after : (c : Push ℕ) (m : Unit {0}) (n : ℕ) → after_of code (call.flight c m) n ≡ in_all (push_after 1 c n) m
  same_after = grind arith

  -- the effects of a step with which a push goes on
  effects_on : (p : ℕ) (c d : Push ℕ) (m : Unit {0}) (n : ℕ) → push_after 1 c n ≡ GoOn d
      → queue_effects code p (call.flight c m) n ≡ effects_of p (PushIndex v) (push_effect (Index v) c.stage) None
  effects_on p c d m n leads = rw leads refl

  -- a step with which a push goes on writes nothing
  quiet : (p n : ℕ) (c d : Push ℕ) (stage : pushes.PushStage) → push_takes 1 c stage n ≡ GoOn d
      → effects_of {T = T} p (PushIndex v) (push_effect (Index v) stage) None ≡ []
  quiet = grind arith

  -- a push that goes on stands at its next stage, with the same capacity
  stays : (capacity : ℕ) (c d : Push ℕ) (n : ℕ) (stage : pushes.PushStage) → c.capacity ≡ capacity
      → PushStage capacity stage → push_takes 1 c stage n ≡ GoOn d
      → (d.capacity ≡ capacity) × PushStage capacity d.stage × ((k : ℕ) → push_skips d.stage k ≡ false)
  stays = grind arith

  -- at each stage a push asks for a word of the queue
  asks : (capacity : ℕ) (stage : pushes.PushStage) → capacity < 2 ^ 32 → PushStage capacity stage
      → (a : Ask) × (a.word < 4 + capacity) × (push_asks words_of_index stage v ≡ wants.Ask a)
  asks capacity pushes.TheVariants.LoadsWrite fits push_stage = (record { word = 0; op = Load }, omega arith, refl)
  asks capacity (pushes.TheVariants.LoadsRead write) fits push_stage = (record { word = 1; op = Load }, omega arith, refl)
  asks capacity (pushes.TheVariants.StoresCell write cell at) fits push_stage =
      (record { word = word_at cell at; op = Store _ }, index_low capacity write cell at push_stage, refl)
  asks capacity (pushes.TheVariants.StoresWrite write) fits push_stage = (record { word = 0; op = Store (after_position write) }, omega arith, refl)

  -- what a push hears of an operation is what the word was before it
  hears : (c : Push ℕ) (a : Ask) (n : ℕ) (stage : pushes.PushStage) → push_asks words_of_index stage v ≡ wants.Ask a
      → push_takes 1 c stage (answered a.op n) ≡ push_takes 1 c stage n
  hears = grind arith

  -- a push that no word ends outside the history does not find the last position
  finds : (n : ℕ) (stage : pushes.PushStage) → n < 2 ^ 64 → push_skips stage n ≡ false → IsFresh n stage
  finds = grind arith

  -- a push that loads the last position ends with false, and leaves the word as it is
  leaves : (c : Push ℕ) (a : Ask) (n : ℕ) (stage : pushes.PushStage) → push_skips stage n ≡ true
      → push_asks words_of_index stage v ≡ wants.Ask a
      → (written a.op n ≡ n) × (e : Bool) × (e ≡ false) × (push_takes 1 c stage n ≡ Done e)
  leaves = grind arith

  -- a push, as the driver makes it
  abbrev pub push_driven : Driven T (Push ℕ) (Unit {0}) Bool
  push_driven = record { want = λ c. push_want words_of_index c v; after = λ c n. push_after 1 c n; kept = λ c m n. m; call = call }

  -- a push is a call of the model
  pub push_is_call : IsCallBy code (queue_effects code) (λ capacity. 4 + capacity) push_driven
  push_is_call = grind (arith, same_after, hears, stays, asks, finds, leaves, queue_effects, effects_on, quiet)

  -- each step of a push keeps the rule of the table
  pub push_keeps : KeepsOver code kinds.IndexQueue (λ capacity. 4 + capacity) push_driven
  push_keeps = keeps (index_queue_machines code) push_driven push_is_call

-- ---- pops

module _ {T : Type 0} (code : Coding T) where
  -- a pop, as a call of the model
  abbrev taking : Calling T Taking OneWord Bool
  taking = pops_index

  -- the room after a step: with the word that the step has loaded
  abbrev keeps_it : Taking → OneWord → ℕ → OneWord
  keeps_it = pop_kept kept_in_one

  -- the model's pop goes on as the driver's does
  pop_same_after : (c : Taking) (m : OneWord) (n : ℕ) → after_of code (taking.flight c m) n ≡ goes taking (pop_after 1 c n) (keeps_it c m n)
  pop_same_after = grind arith

  -- the effects of a step with which a pop goes on
  pop_effects_on : (p : ℕ) (c d : Taking) (m : OneWord) (n : ℕ) → pop_after 1 c n ≡ GoOn d
      → queue_effects code p (taking.flight c m) n ≡ effects_of p Pop (pop_effect (Index m.0) c.stage) None
  pop_effects_on p c d m n leads = rw leads refl

  -- the effects of the step with which a pop ends, with its answer
  pop_effects_end : (p : ℕ) (c : Taking) (b : Bool) (m : OneWord) (n : ℕ) → pop_after 1 c n ≡ Done b
      → queue_effects code p (taking.flight c m) n
      ≡ effects_of p Pop (pop_effect (Index m.0) c.stage) (Some (popped (pop_answer (keeps_it c m n).0 b)))
  pop_effects_end p c b m n leads = rw leads refl

  -- a step with which a pop goes on writes nothing
  pop_quiet : (p n x : ℕ) (c d : Taking) (stage : pops.PopStage) → pop_takes 1 c stage n ≡ GoOn d
      → effects_of {T = T} p Pop (pop_effect (Index x) stage) None ≡ []
  pop_quiet = grind arith

  -- the step with which a pop ends writes what its answer tells
  pop_loud : (p n : ℕ) (c : Taking) (m : OneWord) (b : Bool) (stage : pops.PopStage) → pop_takes 1 c stage n ≡ Done b
      → effects_of {T = T} p Pop (pop_effect (Index m.0) stage) (Some (popped (pop_answer (pop_keeps kept_in_one m stage n).0 b)))
      ≡ pop_wrote p (pop_keeps kept_in_one m stage n).0 b
  pop_loud = grind arith

  -- a pop that goes on is at the cell of the read position
  pop_stays : (capacity : ℕ) (c d : Taking) (n : ℕ) (stage : pops.PopStage) → c.capacity ≡ capacity
      → PopStage capacity stage → pop_takes 1 c stage n ≡ GoOn d → (d.capacity ≡ capacity) × PopStage capacity d.stage
  pop_stays = grind arith

  -- at each stage a pop asks for a word of the queue
  pop_finds_word : (capacity : ℕ) (stage : pops.PopStage) → capacity < 2 ^ 32 → PopStage capacity stage
      → (a : Ask) × (a.word < 4 + capacity) × (pop_asks stage ≡ wants.Ask a)
  pop_finds_word capacity pops.TheVariants.LoadsRead fits pop_stage = (record { word = 1; op = Load }, omega arith, refl)
  pop_finds_word capacity (pops.TheVariants.LoadsWrite read) fits pop_stage = (record { word = 0; op = Load }, omega arith, refl)
  pop_finds_word capacity (pops.TheVariants.LoadsCell read cell at) fits pop_stage =
      (record { word = word_at cell at; op = Load }, index_low capacity read cell at pop_stage, refl)
  pop_finds_word capacity (pops.TheVariants.StoresRead read) fits pop_stage = (record { word = 1; op = Store (after_position read) }, omega arith, refl)

  -- what a pop hears of an operation is what the word was before it, and its room keeps that
  pop_hears : (c : Taking) (m : OneWord) (a : Ask) (n : ℕ) (stage : pops.PopStage) → pop_asks stage ≡ wants.Ask a
      → (pop_takes 1 c stage (answered a.op n) ≡ pop_takes 1 c stage n)
      × (pop_keeps kept_in_one m stage (answered a.op n) ≡ pop_keeps kept_in_one m stage n)
  pop_hears = grind arith

  -- a pop, as the driver makes it
  abbrev pub pop_driven : Driven T Taking OneWord Bool
  pop_driven = record { want = λ (c : Taking). pop_want c; after = λ c n. pop_after 1 c n; kept = keeps_it; call = taking }

  -- a pop is a call of the model
  pub pop_is_call : IsCallBy code (queue_effects code) (λ capacity. 4 + capacity) pop_driven
  pop_is_call = grind (arith, pop_same_after, pop_hears, pop_stays, pop_finds_word, queue_effects, pop_effects_on, pop_quiet, pop_effects_end, pop_loud)

  -- each step of a pop keeps the rule of the table
  pub pop_keep_all : KeepsEnds code kinds.IndexQueue (λ capacity. 4 + capacity) pop_driven
  pop_keep_all = keeps_to_end (index_queue_machines code) pop_driven pop_is_call (λ c n. refl)

  -- a push begins on a pass that has the producer's role and no call under way
  pub push_first : (v : ℕ) (x : View T) (m : Unit {0}) → x.going ≡ None → x.other ≡ [] → 0 < x.share.part
      → x.capacity < 2 ^ 32 → HasRole Producer x.made
      → At code kinds.IndexQueue (pushes_index v) x x (first_push x.capacity) m
  push_first v x m idle alone any small has =
      at_begin idle alone any (small, refl, tt) refl
      (role_begins IndexQueue (PushIndex v) refl (λ kept. refl) Producer (λ o p. tt) (λ roles p is. holds_it roles.producer p is) has) (λ p. refl)

  -- a pop begins on a pass that has the consumer's role and no call under way
  pub pop_first : (x : View T) → x.going ≡ None → x.other ≡ [] → 0 < x.share.part → x.capacity < 2 ^ 32
      → HasRole Consumer x.made → At code kinds.IndexQueue pops_index x x (first_pop x.capacity) (record { 0 = 0 })
  pop_first x idle alone any small has =
      at_begin idle alone any (small, refl, tt) refl
      (role_begins IndexQueue Pop refl (λ kept. refl) Consumer (λ o p. tt) (λ roles p is. holds_it roles.consumer p is) has) (λ p. refl)
