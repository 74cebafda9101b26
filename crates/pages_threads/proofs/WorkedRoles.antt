-- Roles that change hands, as the pages of the overflowing queue, the value and the queue of values see them; and roles that
-- two parties hold at once, of which no page knows a run.
use Rattle.std.proofs.Common.{◌≡◌, ℕ, List, [], ◌∷◌, ◌++◌, Some, None, refl, true, arith, replicate}
use Rattle.std.specs.Prelude.{slice_index}
use Rattle.model.specs.declared.event.Start.{Start}
use Rattle.model.specs.declared.event.Start.TheVariants.{Atomic, Queues}
use Rattle.model.specs.declared.families.atomic.AtomicStart.TheVariants as values
use Rattle.model.specs.declared.families.queues.QueueStart.TheVariants as queues
use Rattle.model.specs.declared.turn.Kind.{Kind}
use Rattle.model.specs.declared.turn.Kind.TheVariants as kinds
use Rattle.model.specs.declared.turn.Turn.{Turn}
use Rattle.model.specs.declared.turn.Turn.TheVariants.{Begin, Next}
use Rattle.model.specs.Coding.{Coding, one_word}
use Rattle.history.specs.declared.view.View.{View}
use Rattle.history.specs.History.{Knows, run_of}
use Rattle.history.specs.Views.{first_view}
use Rattle.pages.specs.Machine as machine
use Rattle.pages.specs.OverflowingQueue as overflowing
use Rattle.pages.specs.Queue as page
use Rattle.pages.specs.QueueBridge.{code_of}
use Rattle.pages.specs.Value as single
use Rattle.pages_threads.specs.Known.{RunsThePage, overflowing_page, queue_page, turns_of, value_page, world_of}

module _ {T : Type 0} where
  -- party p begins the call, and takes `steps` of its steps
  abbrev call : ℕ → Start T → ℕ → List (Turn T)
  call p start steps = Begin p start ∷ replicate steps (Next p)

  -- a pass that has seen just these turns
  abbrev knowing : Coding T → Kind → ℕ → List (Turn T) → View T
  knowing code kind capacity turns =
      record (first_view capacity) { seen = (run_of code kind capacity turns).events; turns = turns }

-- ---- the overflowing queue

-- Party 3 pushes 5 and gives the role back. The push of party 7, which has it then, finds the queue full, and a pop of party 4
-- makes the room.
abbrev overflows : View ℕ
overflows =
    knowing one_word kinds.Overflow 1
    (call 3 (Queues queues.AcquireProducer) 1 ++ call 3 (Queues (queues.PushIndex 5)) 4 ++ call 3 (Queues queues.ReleaseProducer) 1
    ++ call 7 (Queues queues.AcquireProducer) 1 ++ call 4 (Queues queues.AcquireConsumer) 1 ++ call 7 (Queues (queues.PushIndex 6)) 4
    ++ call 4 (Queues queues.Pop) 4 ++ Next 7 ∷ call 3 (Queues queues.Len) 1)

-- as the page sees it, party 0 pushes twice, and party 1 pops
overflow_turns : turns_of (overflowing_page 1) overflows
    ≡ machine.Begin 0 (overflowing.Push 5) ∷ machine.Next 0 ∷ machine.Next 0 ∷ machine.Next 0 ∷ machine.Next 0
    ∷ machine.Begin 0 (overflowing.Push 6) ∷ machine.Next 0 ∷ machine.Next 0 ∷ machine.Next 0 ∷ machine.Next 0
    ∷ machine.Begin 1 overflowing.Pop ∷ machine.Next 1 ∷ machine.Next 1 ∷ machine.Next 1 ∷ machine.Next 1 ∷ machine.Next 0 ∷ []
overflow_turns = refl

-- The page sees two pushes of party 0 that hand nothing back, and a pop of party 1 that gets 5.
overflow_history : (world_of (overflowing_page 1) (turns_of (overflowing_page 1) overflows)).history
    ≡ machine.Invoked 0 (overflowing.Push 5) ∷ machine.Responded 0 None ∷ machine.Invoked 0 (overflowing.Push 6)
    ∷ machine.Invoked 1 overflowing.Pop ∷ machine.Responded 1 (Some 5) ∷ machine.Responded 0 None ∷ []
overflow_history = refl

overflow_runs : RunsThePage (overflowing_page 1) overflows
overflow_runs = refl

-- two parties push at once, or pop at once
abbrev both_push : View ℕ
both_push = knowing one_word kinds.Overflow 1 (call 3 (Queues (queues.PushIndex 5)) 1 ++ call 7 (Queues (queues.PushIndex 6)) 0)

no_two_push : RunsThePage (overflowing_page 1) both_push → ⊥
no_two_push runs_the_page = absurd (cc)

abbrev both_pop : View ℕ
both_pop = knowing one_word kinds.Overflow 1 (call 3 (Queues queues.Pop) 1 ++ call 7 (Queues queues.Pop) 0)

no_two_pop : RunsThePage (overflowing_page 1) both_pop → ⊥
no_two_pop runs_the_page = absurd (cc)

not_known : Knows one_word kinds.Overflow 1 both_push → ⊥
not_known knows = cc (knows.allowed.0)

-- ---- the value

-- Party 3 stores 5, looks at the version, and gives the role back. Party 7, which has it then, stops in the middle of its store.
-- Party 3 looks at the role, and loads. The looks are no calls of the page.
abbrev stores : View ℕ
stores =
    knowing one_word kinds.Atomic 1
    (call 3 (Atomic values.AcquireProducer) 1 ++ call 3 (Atomic (values.Store 5)) 3 ++ call 3 (Atomic values.Version) 1
    ++ call 3 (Atomic values.ReleaseProducer) 1 ++ call 7 (Atomic values.AcquireProducer) 1 ++ call 7 (Atomic (values.Store 6)) 2
    ++ call 3 (Atomic values.HasProducer) 1 ++ call 3 (Atomic values.Load) 3)

-- as the page sees it, party 0 stores twice, and party 4 loads
value_turns : turns_of value_page stores
    ≡ machine.Begin 0 (single.StoreValue 5) ∷ machine.Next 0 ∷ machine.Next 0 ∷ machine.Next 0
    ∷ machine.Begin 0 (single.StoreValue 6) ∷ machine.Next 0 ∷ machine.Next 0
    ∷ machine.Begin 4 single.LoadValue ∷ machine.Next 4 ∷ machine.Next 4 ∷ machine.Next 4 ∷ []
value_turns = refl

-- The page sees a store of 5 that has ended, one of 6 that has not, and a load that answers 5.
value_history : (world_of value_page (turns_of value_page stores)).history
    ≡ machine.Invoked 0 (single.StoreValue 5) ∷ machine.Responded 0 (single.Stored true) ∷ machine.Invoked 0 (single.StoreValue 6)
    ∷ machine.Invoked 4 single.LoadValue ∷ machine.Responded 4 (single.Loaded 5) ∷ []
value_history = refl

value_runs : RunsThePage value_page stores
value_runs = refl

-- two parties store at once; two may load at once
abbrev both_store : View ℕ
both_store = knowing one_word kinds.Atomic 1 (call 3 (Atomic (values.Store 5)) 1 ++ call 7 (Atomic (values.Store 6)) 0)

no_two_store : RunsThePage value_page both_store → ⊥
no_two_store runs_the_page = absurd (cc)

both_load : RunsThePage value_page (knowing one_word kinds.Atomic 1 (call 3 (Atomic values.Load) 1 ++ call 7 (Atomic values.Load) 0))
both_load = refl

-- ---- the queue of values, of two words

-- a pair of numbers is written as two words
abbrev pairs : page.Written (ℕ × ℕ)
pairs =
    record {
      size = 2;
      words_of = λ value. value.0 ∷ value.1 ∷ [];
      value_of = λ words. (slice_index words 0, slice_index words 1);
      fits = (omega arith, omega arith);
      sized = λ value. refl;
      given_back = λ value. refl;
    }

-- Party 3 pushes and gives the role back. Party 7, which has it then, stops between the words of its value. Party 4 pops, and
-- gives its role to party 3, which finds none.
abbrev pushes : View (ℕ × ℕ)
pushes =
    knowing (code_of pairs) kinds.Queue 2
    (call 3 (Queues queues.AcquireProducer) 1 ++ call 3 (Queues (queues.Push (5, 6))) 5 ++ call 3 (Queues queues.ReleaseProducer) 1
    ++ call 7 (Queues queues.AcquireProducer) 1 ++ call 7 (Queues (queues.Push (7, 8))) 3
    ++ call 4 (Queues queues.AcquireConsumer) 1 ++ call 4 (Queues queues.Pop) 5 ++ call 4 (Queues queues.ReleaseConsumer) 1
    ++ call 3 (Queues queues.AcquireConsumer) 1 ++ call 3 (Queues queues.Pop) 2)

-- as the page sees it, party 0 pushes twice, and party 1 pops twice
values_turns : turns_of (queue_page pairs 2) pushes
    ≡ machine.Begin 0 (page.Push (5, 6)) ∷ machine.Next 0 ∷ machine.Next 0 ∷ machine.Next 0 ∷ machine.Next 0 ∷ machine.Next 0
    ∷ machine.Begin 0 (page.Push (7, 8)) ∷ machine.Next 0 ∷ machine.Next 0 ∷ machine.Next 0
    ∷ machine.Begin 1 page.Pop ∷ machine.Next 1 ∷ machine.Next 1 ∷ machine.Next 1 ∷ machine.Next 1 ∷ machine.Next 1
    ∷ machine.Begin 1 page.Pop ∷ machine.Next 1 ∷ machine.Next 1 ∷ []
values_turns = refl

-- The first pop gets the first value, and the second none: the second push has not answered.
values_history : (world_of (queue_page pairs 2) (turns_of (queue_page pairs 2) pushes)).history
    ≡ machine.Invoked 0 (page.Push (5, 6)) ∷ machine.Responded 0 (page.Pushed true) ∷ machine.Invoked 0 (page.Push (7, 8))
    ∷ machine.Invoked 1 page.Pop ∷ machine.Responded 1 (page.Popped (Some (5, 6)))
    ∷ machine.Invoked 1 page.Pop ∷ machine.Responded 1 (page.Popped None) ∷ []
values_history = refl

values_run : RunsThePage (queue_page pairs 2) pushes
values_run = refl

abbrev both_push_values : View (ℕ × ℕ)
both_push_values =
    knowing (code_of pairs) kinds.Queue 2 (call 3 (Queues (queues.Push (5, 6))) 1 ++ call 7 (Queues (queues.Push (7, 8))) 0)

no_two_push_values : RunsThePage (queue_page pairs 2) both_push_values → ⊥
no_two_push_values runs_the_page = absurd (cc)

abbrev both_pop_values : View (ℕ × ℕ)
both_pop_values = knowing (code_of pairs) kinds.Queue 2 (call 3 (Queues queues.Pop) 1 ++ call 7 (Queues queues.Pop) 0)

no_two_pop_values : RunsThePage (queue_page pairs 2) both_pop_values → ⊥
no_two_pop_values runs_the_page = absurd (cc)
