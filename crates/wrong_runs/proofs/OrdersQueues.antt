-- Wrong bodies of queues and of the single value: for each a turn or a run that it makes, and what refuses that.
use Rattle.std.proofs.Common.{ℕ, ◌+◌, ◌*◌, ◌^◌, true, false, List, [], ◌∷◌, ◌++◌, refl, arith}
use Rattle.model.specs.declared.event.Answer.TheVariants.{Truth, Loaded, PoppedNone, PoppedIndex}
use Rattle.model.specs.declared.event.Event.{Event}
use Rattle.model.specs.declared.event.Event.TheVariants.{Begun, Published, HandedOut, Acted, Finished}
use Rattle.model.specs.declared.event.Item.TheVariants.{Index}
use Rattle.model.specs.declared.event.Start.{Start}
use Rattle.model.specs.declared.event.Start.TheVariants.{Queues, Atomic}
use Rattle.model.specs.declared.families.atomic.AtomicStart.TheVariants.{Store, Load}
use Rattle.model.specs.declared.families.queues.QueueKind.TheVariants as queues
use Rattle.model.specs.declared.families.queues.QueueStart.TheVariants.{Len}
use Rattle.model.specs.declared.party.Doing.TheVariants.{Over}
use Rattle.model.specs.declared.turn.Kind.TheVariants as kinds
use Rattle.model.specs.declared.turn.Turn.TheVariants.{Next}
use Rattle.model.specs.Coding.{one_word}
use Rattle.model.specs.Promises.{IsTurn}
use Rattle.model.specs.World.{Trace}
use Rattle.model.proofs.Runs.{roles, begins, ran, two_words}
use Rattle.headline.specs.Headline.{QueueRuns, ValueRuns, MakesProgress, Takes}
use Rattle.wrong_runs.proofs.Queues.{queue, push, pop}

-- ---- one turn

-- An index queue in which a push has taken `steps` steps.
abbrev pushing : ℕ → Trace ℕ
pushing steps = ran one_word kinds.IndexQueue 2 2 (roles ++ begins 0 (push 7) steps)

-- a turn runs the whole push
whole_call_in_one_turn : Takes (pushing 0) (Next 0) (pushing 4) → ⊥
whole_call_in_one_turn takes = cc (takes.one_word)

-- An index queue in which a count has taken `steps` steps.
abbrev counting : ℕ → Trace ℕ
counting steps = ran one_word kinds.IndexQueue 2 2 (begins 1 (Queues Len) steps)

-- A turn that runs a whole count is refused.
whole_look_in_one_turn : IsTurn (counting 0) (Next 1) (counting 3) → ⊥
whole_look_in_one_turn turn = cc (turn.counts.steps)

-- where 1 is to be added to the write position, it becomes 2
abbrev with_words : List ℕ → Trace ℕ → Trace ℕ
with_words words t = record t { world = record t.world { words = words } }

-- A turn that adds 2 to the write position, where its operation adds 1, is refused.
operation_adds_twice : Takes (pushing 3) (Next 0) (with_words (2 ∷ 0 ∷ 0 ∷ 0 ∷ 7 ∷ 0 ∷ []) (pushing 4)) → ⊥
operation_adds_twice takes = cc (takes.one_word)

-- ---- the bounded queue

-- a push raises the write position before it writes the cell: what waits there by the words is not what it has published
publishes_before_writing : QueueRuns queues.IndexQueue (queue (1 ∷ 0 ∷ 0 ∷ 0 ∷ 0 ∷ 0 ∷ []) (Begun 0 (push 7) ∷ Published 0 (Index 7) ∷ [])) → ⊥
publishes_before_writing queue_runs = cc (queue_runs.conserved)

-- A push of 7 has run whole.
abbrev pushed : List (Event ℕ)
pushed = Begun 0 (push 7) ∷ Published 0 (Index 7) ∷ Acted 0 (push 7) (Truth true) ∷ Finished 0 (push 7) (Truth true) ∷ []

-- A push that answers false on an empty queue is refused.
every_push_is_false : QueueRuns queues.IndexQueue (queue (0 ∷ 0 ∷ 0 ∷ 0 ∷ 0 ∷ 0 ∷ []) (Begun 0 (push 7) ∷ Acted 0 (push 7) (Truth false) ∷ [])) → ⊥
every_push_is_false queue_runs = cc (queue_runs.list.answers)

-- A pop that answers None while a value waits is refused.
every_pop_is_none : QueueRuns queues.IndexQueue (queue (1 ∷ 0 ∷ 0 ∷ 0 ∷ 7 ∷ 0 ∷ []) (pushed ++ Begun 1 pop ∷ Acted 1 pop PoppedNone ∷ [])) → ⊥
every_pop_is_none queue_runs = cc (queue_runs.list.answers)

-- a push waits until there is room: a fifth step, and nobody has changed a word
abbrev waiting : Trace ℕ
waiting =
    record {
      world =
          record (queue (2 ∷ 0 ∷ 0 ∷ 0 ∷ 7 ∷ 7 ∷ []) []).world {
            latest = (0, record { start = push 7; steps = 5; backs = 0; doing = Over 0 }) ∷ [];
          };
      events = Begun 0 (push 7) ∷ [];
    }

-- A push that takes a fifth step is refused.
push_waits : MakesProgress waiting → ⊥
push_waits progress = absurd (omega (arith, progress.bounded 0 (push 7) _ refl refl))

-- A push that has found no room begins again, and nobody has changed a word.
abbrev turning : Trace ℕ
turning =
    record {
      world =
          record (queue (2 ∷ 0 ∷ 0 ∷ 0 ∷ 7 ∷ 7 ∷ []) []).world {
            latest = (0, record { start = push 7; steps = 5; backs = 1; doing = Over 0 }) ∷ [];
          };
      events = Begun 0 (push 7) ∷ [];
    }

-- A push that turns back, though nobody has changed a word, is refused.
push_turns_back : MakesProgress turning → ⊥
push_turns_back progress = absurd (omega (arith, progress.paid 0 _ refl))

-- ---- the overflowing queue, of capacity 1

-- an overflowing queue of capacity 1 with these words and events
abbrev overflow : List ℕ → List (Event ℕ) → Trace ℕ
overflow words events =
    record {
      world = record (queue words []).world { kind = kinds.Overflow; capacity = 1 };
      events = events;
    }

-- 1 waits
abbrev one_pushed : List (Event ℕ)
one_pushed = Begun 0 (push 1) ∷ Published 0 (Index 1) ∷ Acted 0 (push 1) PoppedNone ∷ Finished 0 (push 1) PoppedNone ∷ []

-- A push of 2 takes 1 out, and writes that it acts only as it ends. The pop between answers 2, where the list still has 1
-- in front.
abbrev late : List (Event ℕ)
late =
    one_pushed
    ++ Begun 0 (push 2)
    ∷ Published 0 (Index 2)
    ∷ HandedOut 0 (Index 1)
    ∷ Begun 1 pop
    ∷ HandedOut 1 (Index 2)
    ∷ Acted 1 pop (PoppedIndex 2)
    ∷ Finished 1 pop (PoppedIndex 2)
    ∷ Acted 0 (push 2) (PoppedIndex 1)
    ∷ Finished 0 (push 2) (PoppedIndex 1)
    ∷ []

-- The run in which the push acts only as it ends is refused: the pop does not answer the front of the list.
overflow_acts_at_finish : QueueRuns queues.Overflow (overflow (2 ∷ 2 ∷ 0 ∷ 0 ∷ 1 ∷ 2 ∷ []) late) → ⊥
overflow_acts_at_finish queue_runs = cc (queue_runs.list.answers)

-- A pop has read 1, a push of 2 takes 1 out, and the pop answers it all the same.
abbrev stale : List (Event ℕ)
stale =
    one_pushed
    ++ Begun 1 pop
    ∷ Begun 0 (push 2)
    ∷ Published 0 (Index 2)
    ∷ HandedOut 0 (Index 1)
    ∷ Acted 0 (push 2) (PoppedIndex 1)
    ∷ Finished 0 (push 2) (PoppedIndex 1)
    ∷ HandedOut 1 (Index 1)
    ∷ Acted 1 pop (PoppedIndex 1)
    ∷ Finished 1 pop (PoppedIndex 1)
    ∷ []

-- The run in which the pop answers what the push has taken out is refused: the list no longer has it.
overflow_pop_keeps_stale_value : QueueRuns queues.Overflow (overflow (2 ∷ 2 ∷ 0 ∷ 0 ∷ 1 ∷ 2 ∷ []) stale) → ⊥
overflow_pop_keeps_stale_value queue_runs = cc (queue_runs.list.answers)

-- The same run is refused since 1 is handed out twice.
hands_out_twice : QueueRuns queues.Overflow (overflow (2 ∷ 2 ∷ 0 ∷ 0 ∷ 1 ∷ 2 ∷ []) stale) → ⊥
hands_out_twice queue_runs = cc (queue_runs.conserved)

-- ---- the single value, of two words

-- a single value of two words with these events
abbrev values : List (Event ℕ) → Trace ℕ
values events =
    record {
      world =
          record (ran two_words kinds.Atomic 1 2 []).world {
            words = 3 ∷ 0 ∷ 1 ∷ 2 ∷ 3 ∷ 4 ∷ [];
          };
      events = events;
    }

abbrev store : ℕ → Start ℕ
store value = Atomic (Store value)

abbrev load : Start ℕ
load = Atomic Load

abbrev first : ℕ
first = 2 ^ 64 + 2

abbrev second : ℕ
second = 3 * 2 ^ 64 + 4

-- a load copies the first word, two stores run whole, and it copies the second word and does not look at the version again
abbrev torn : List (Event ℕ)
torn =
    Begun 1 load
    ∷ Begun 0 (store first)
    ∷ Acted 0 (store first) (Truth true)
    ∷ Finished 0 (store first) (Truth true)
    ∷ Begun 0 (store second)
    ∷ Acted 0 (store second) (Truth true)
    ∷ Finished 0 (store second) (Truth true)
    ∷ Acted 1 load (Loaded 4)
    ∷ Finished 1 load (Loaded 4)
    ∷ []

-- A load that answers the words of two values is refused.
value_load_skips_validation : ValueRuns (values torn) → ⊥
value_load_skips_validation value_runs = cc (value_runs.value.answers)
