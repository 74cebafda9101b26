-- What a seat knows while it counts the values that wait.
use Rattle.std.specs.Prelude.{◌≡◌, ℕ, ◌+◌}
use Rattle.steps.specs.declared.ask.After.{After}
use Rattle.steps.specs.declared.queues.lengths.Len.{Len}
use Rattle.model.specs.declared.families.queues.QueueKind.{QueueKind}
use Rattle.model.specs.declared.families.queues.calls.LengthOf.{LengthOf}
use Rattle.model.specs.Coding.{Coding}
use Rattle.threaded.specs.declared.driver.seated.Seated.{Seated}
use Rattle.threaded.specs.Driver.{Next}
use Rattle.threaded.specs.Seats.{IsAt}
use Rattle.history.specs.declared.view.View.{View}
use Rattle.history.specs.Stages.{At, Ends}
use Rattle.history_queues.specs.Queues.{counts_waiting}
use Rattle.lock_free_queues.specs.declared.spsc.ring.rule.Origin.{Origin}
use Rattle.lock_free_queues.specs.Queues.Bounded.{machine_kind}
use Rattle.lock_free_queues.specs.Queues.Kinds.{words_in_cells}

-- the seat is at the table of a queue of this kind, whose values have `words` words
abbrev pub IsBoard : {T Q : Type 0} → ℕ → QueueKind → Seated (View T) Origin Q → Type 0
IsBoard {T} words kind s =
    IsAt (λ (key : Origin). 4 + words_in_cells words kind key.capacity + 1) (λ (key : Origin). key.capacity)
    (λ (v : View T). v.capacity) s

module _ {T : Type 0} (code : Coding T) (kind : QueueKind) (which : LengthOf) where
  -- the call on the length is about to begin or under way
  abbrev pub CountAt : View T → View T → Len → Unit {0} → Type 0
  CountAt base = At code (machine_kind kind) (counts_waiting which base.capacity) base

  -- the call on the length has ended with this number
  abbrev pub CountEnds : View T → ℕ → Unit {0} → View T → Type 0
  CountEnds base = Ends code (machine_kind kind) (counts_waiting which base.capacity) base

  -- the call on the length has gone on, or ended
  abbrev pub CountNext : View T → After Len ℕ → View T → Type 0
  CountNext base after = Next (λ (v : View T). v.capacity) CountAt CountEnds base after tt
