-- What a pass knows is a run of a page's machine.
use Rattle.std.specs.Prelude.{◌≡◌, ℕ, Option, List, ◌++◌, fold, map}
use Rattle.model.specs.declared.event.Event.{Event}
use Rattle.model.specs.declared.turn.Kind.{Kind}
use Rattle.model.specs.declared.turn.Kind.TheVariants.{Atomic, IndexQueue, Overflow, Queue}
use Rattle.model.specs.Coding.{Coding, one_word}
use Rattle.model.specs.World as model
use Rattle.history.specs.declared.view.View.{View}
use Rattle.history.specs.History.{Continues, Knows}
use Rattle.pages.specs.IndexQueue as index
use Rattle.pages.specs.IndexQueueBridge as index_bridge
use Rattle.pages.specs.Machine as machine
use Rattle.pages.specs.Machine.{Called, IsLinearizable, Object, Structure, Turn, World, opening, turned}
use Rattle.pages.specs.OverflowingQueue as overflowing
use Rattle.pages.specs.OverflowingQueueBridge as overflowing_bridge
use Rattle.pages.specs.Queue as values
use Rattle.pages.specs.QueueBridge as values_bridge
use Rattle.pages.specs.RolesBridge.{Naming, all_told, turns_taken}
use Rattle.pages.specs.Value as single
use Rattle.pages.specs.ValueBridge as single_bridge

-- A call as it stands in an order: where it was invoked in the history, who made it, and its answer. Its response is left out,
-- since the call may still be pending.
pub record Ordered (Call Answer : Type 0) : Type 0 where
  pub place : ℕ
  pub party : ℕ
  pub call : Call
  pub answer : Answer

module _ {Call Answer : Type 0} where
  abbrev pub ordered : Called Call Answer × Answer → Ordered Call Answer
  ordered x = record { place = x.0.place; party = x.0.party; call = x.0.call; answer = x.1 }

  -- linearizable by the page's definition, with the calls in this order
  pub record IsLinearizedBy {State : Type 0} (object : Object Call Answer State) (order : List (Ordered Call Answer))
      (history : List (machine.Event Call Answer)) : Type 0 where
    pub by : IsLinearizable object history
    pub is : map ordered by.sequence ≡ order

-- a page, and the tables of threads that run it
pub record Paged (T Call Stage Answer : Type 0) : Type 0 where
  pub structure : Structure Call Stage Answer
  pub by : Naming T Call Answer
  pub code : Coding T
  pub kind : Kind
  pub capacity : ℕ

module _ {T Call Stage Answer : Type 0} (page : Paged T Call Stage Answer) where
  -- the turns of the page among those that the pass knows of
  abbrev pub turns_of : View T → List (Turn Call)
  turns_of v = turns_taken page.by (model.opening page.code page.kind page.capacity 0) v.turns

  -- the page's machine after these turns
  abbrev pub world_of : List (Turn Call) → World Call Stage Answer
  world_of turns = fold (turned page.structure) (opening page.structure) turns

  -- what the pass has seen, invocations and responses alone, is the history of the page's machine over these turns
  abbrev pub RunsThePage : View T → Type 0
  RunsThePage v = all_told page.by v.seen ≡ (world_of (turns_of v)).history

  -- the page's run that it knew goes on to the one that it knows
  pub record RunsOn (old new : View T) : Type 0 where
    pub more : List (Turn Call)
    pub is : turns_of new ≡ turns_of old ++ more
    pub runs : RunsThePage new

  -- what each pass knows is a run of the page's machine, and what it knows later continues that
  pub record PassesRun : Type 0 where
    pub known : (v : View T) → Knows page.code page.kind page.capacity v → RunsThePage v
    pub later : (old new : View T) → Continues page.code page.kind page.capacity old new → RunsOn old new

  -- what a pass has seen is linearizable, by the page's definition
  abbrev pub PassesAreLinearizable : {State : Type 0} → Object Call Answer State → Type 0
  PassesAreLinearizable object =
      (v : View T) → Knows page.code page.kind page.capacity v → IsLinearizable object (all_told page.by v.seen)

  -- One function of events orders the calls that a pass has seen. What it sees later only adds calls at the end of this order.
  pub record PassesAreStronglyLinearizable {State : Type 0} (object : Object Call Answer State) : Type 0 where
    pub order : List (Event T) → List (Ordered Call Answer)
    pub each : (v : View T) → Knows page.code page.kind page.capacity v
        → IsLinearizedBy object (order v.seen) (all_told page.by v.seen)
    pub grows : (seen more : List (Event T)) → (added : List (Ordered Call Answer)) × (order (seen ++ more) ≡ order seen ++ added)

-- ---- the structures that have pages

-- the page of the index queue, with how its calls are read in the model
abbrev pub index_page : ℕ → Paged ℕ index.Call index.Stage index.Answer
index_page capacity =
    record {
      structure = index.index_queue capacity;
      by = index_bridge.by_role;
      code = one_word;
      kind = IndexQueue;
      capacity = capacity;
    }

-- the page of the overflowing queue, with how its calls are read in the model
abbrev pub overflowing_page : ℕ → Paged ℕ overflowing.Call overflowing.Stage (Option ℕ)
overflowing_page capacity =
    record {
      structure = overflowing.overflowing_queue capacity;
      by = overflowing_bridge.by_role;
      code = one_word;
      kind = Overflow;
      capacity = capacity;
    }

-- the page of the single value of one word, with how its calls are read in the model
abbrev pub value_page : Paged ℕ single.Call single.Stage single.Answer
value_page =
    record {
      structure = single.value;
      by = single_bridge.by_role;
      code = one_word;
      kind = Atomic;
      capacity = 1;
    }

module _ {T : Type 0} (how : values.Written T) where
  -- the page of the queue of values, with how its calls are read in the model
  abbrev pub queue_page : ℕ → Paged T (values.Call T) (values.Stage T) (values.Answer T)
  queue_page capacity =
      record {
        structure = values.queue how capacity;
        by = values_bridge.by_role how;
        code = values_bridge.code_of how;
        kind = Queue;
        capacity = capacity;
      }
