-- The calls of an overflowing queue that push and pop, as calls of the model. The calls on its roles and its
-- lengths are those of any queue (`Queues`).
use Rattle.std.specs.Prelude.{◌≡◌, ◌⊎◌, ℕ, ◌-◌, ◌^◌, ◌<◌, ◌==◌, Bool, false, Some, None, List, [], ◌∷◌}
use Rattle.std.specs.List.{AllByRecursion}
use Rattle.steps.specs.declared.copied.OneWord.{OneWord}
use Rattle.steps.specs.declared.queues.overflow.Pop.{Pop as Popping}
use Rattle.steps.specs.declared.queues.overflow.PopStage.{PopStage}
use Rattle.steps.specs.declared.queues.overflow.PopStage.TheVariants as pops
use Rattle.steps.specs.declared.queues.overflow.Push.{Push as Pushing}
use Rattle.steps.specs.declared.queues.overflow.PushEnd.{PushEnd}
use Rattle.steps.specs.declared.queues.overflow.PushEnd.TheVariants.{Added, Own, Oldest}
use Rattle.steps.specs.declared.queues.overflow.PushStage.{PushStage}
use Rattle.steps.specs.declared.queues.overflow.PushStage.TheVariants as pushes
use Rattle.steps.specs.Queues.Overflow.{push_answer, pop_answer}
use Rattle.model.specs.declared.event.Answer.TheVariants.{PoppedNone, PoppedIndex}
use Rattle.model.specs.declared.event.Event.{Event}
use Rattle.model.specs.declared.event.Event.TheVariants.{Published, HandedOut, Acted}
use Rattle.model.specs.declared.event.Item.TheVariants.{Index}
use Rattle.model.specs.declared.event.Start.TheVariants.{Queues}
use Rattle.model.specs.declared.families.Flight.TheVariants as flights
use Rattle.model.specs.declared.families.queues.QueueStart.TheVariants.{PushIndex, Pop}
use Rattle.model.specs.declared.families.queues.calls.OverflowCall.TheVariants as overflows
use Rattle.model.specs.declared.families.queues.calls.QueueFlight.TheVariants.{Overflow}
use Rattle.model.specs.Families.Queues.Calls.{popped}
use Rattle.model.specs.Families.Queues.Reading.{producer_of, consumer_of}
use Rattle.model.specs.Reading.{Span, longer, own_after}
use Rattle.history_queues.specs.Queues.{pop_wrote}
use Rattle.history.specs.Stages.{Calling}

-- the push has found the last write position, and ends without a trace
abbrev pub over_push_skips : PushStage → ℕ → Bool
over_push_skips pushes.LoadsWrite n = n == 2 ^ 64 - 1
over_push_skips stage n = false

-- the push has a word to ask for at this stage; without capacity it has none, and the
-- driver makes no such push
abbrev pub HasPushWord : PushStage → Type 0
HasPushWord pushes.HandsBack = ⊥
HasPushWord stage = Unit {0}

-- a push that ended in this way is a call of the history; one that hands back its own index is none
abbrev pub HasActed : PushEnd → Type 0
HasActed Own = ⊥
HasActed end = Unit {0}

-- the pop has a word to ask for at this stage
abbrev pub HasPopWord : PopStage → Type 0
HasPopWord pops.FindsNone = ⊥
HasPopWord stage = Unit {0}

module _ {T : Type 0} where
  -- the event is within a call: none begins or ends with it
  abbrev pub IsWithin : Event T → Type 0
  IsWithin e = (span : Span T) → own_after span e ≡ longer span e

  -- what a push of this value has written once it has ended, where this was the oldest
  abbrev pub over_push_wrote : (p v oldest : ℕ) → PushEnd → List (Event T)
  over_push_wrote p v oldest Added =
      Published p (Index v) ∷ Acted p (Queues (PushIndex v)) PoppedNone ∷ []
  over_push_wrote p v oldest Own = []
  over_push_wrote p v oldest Oldest =
      Published p (Index v)
      ∷ HandedOut p (Index oldest)
      ∷ Acted p (Queues (PushIndex v)) (PoppedIndex oldest)
      ∷ []

  -- A push of this index, by any party. It ends with whether it was added alone, took the oldest index out, or was
  -- handed back, and an index taken out is then in its room. A push that was handed back is none of the history.
  abbrev pub pushes_over : ℕ → Calling T Pushing OneWord PushEnd
  pushes_over v =
      record {
        start = Queues (PushIndex v);
        -- any party may make the call, whichever party the pass was last
        by = λ was p. Unit {0};
        -- what holds of the call between two steps, and which call of the model is then under way
        stands = λ capacity c. (capacity < 2 ^ 32) × (c.capacity ≡ capacity) × HasPushWord c.stage;
        flight = λ c m. flights.Queues (Overflow (overflows.Push
            (record { call = c; given = v; room = m })));
        answer = λ e m. popped (push_answer v m.0 e);
        -- loading the last position or version ends it outside the history
        skips = λ c n. over_push_skips c.stage n;
        left = λ e. e ≡ Own;
        -- the pass has seen its begin, and under way it has written only events within the call
        wrote = λ capacity p from c m es. (from ≡ None) × AllByRecursion IsWithin es;
        wrote_all = λ capacity p from e m es. HasActed e × (es ≡ over_push_wrote p v m.0 e);
      }

  -- A pop of an index, by any party. It ends with whether it took an index out, which is then in its room, and writes
  -- its events as it ends.
  abbrev pub pops_over : Calling T Popping OneWord Bool
  pops_over =
      record {
        start = Queues Pop;
        -- any party may make the call, whichever party the pass was last
        by = λ was p. Unit {0};
        -- what holds of the call between two steps, and which call of the model is then under way
        stands = λ capacity c. (capacity < 2 ^ 32) × (c.capacity ≡ capacity) × HasPopWord c.stage;
        flight = λ c m. flights.Queues (Overflow (overflows.Pop
            (record { call = c; given = tt; room = m })));
        answer = λ e m. popped (pop_answer m.0 e);
        -- no word that it loads ends it outside the history
        skips = λ c n. false;
        left = λ e. ⊥;
        -- under way it has written nothing yet
        wrote = λ capacity p from c m es. es ≡ [];
        wrote_all = λ capacity p from e m es. es ≡ pop_wrote p m.0 e;
      }

  -- who publishes, or acts by a push, holds the producer's role,
  -- and who acts by a pop the consumer's; who takes out a value holds either
  abbrev pub ByOverHolder : List (Event T) → Event T → Type 0
  ByOverHolder before (Published p item) = producer_of before ≡ Some p
  ByOverHolder before (HandedOut p item) =
      (producer_of before ≡ Some p) ⊎ (consumer_of before ≡ Some p)
  ByOverHolder before (Acted p (Queues (PushIndex value)) answer) = producer_of before ≡ Some p
  ByOverHolder before (Acted p (Queues Pop) answer) = consumer_of before ≡ Some p
  ByOverHolder before e = Unit {0}
