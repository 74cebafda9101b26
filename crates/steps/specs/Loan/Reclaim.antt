-- The reclaim of a loan channel, one step after another. `reclaim_asks` says what the call asks for at each
-- stage, and `reclaim_takes` where the answer leads: to a next stage (`GoOn`) or to its end (`Done`).
-- `reclaim_goes_back` says whether it begins a loop again.
use Rattle.std.specs.Prelude.{ℕ, ◌+◌, ◌%◌, ◌^◌, Bool, true, false, Option, Some, None, List}
use Rattle.steps.specs.Loan.Back.{back_asks, back_takes}
use Rattle.steps.specs.Loan.Layout.{submission_word, completion_word}
use Rattle.steps.specs.Loan.Parts.{shifted}
use Rattle.steps.specs.Loan.Places.{next_sent}
use Rattle.steps.specs.Loan.TakeBack.{inner_pop}
use Rattle.steps.specs.Queues.Overflow as overflow
use Rattle.steps.specs.Queues.Ring.{pop_asks, pop_takes}
use Rattle.steps.specs.declared.ask.Want.{Want}
use Rattle.steps.specs.declared.ask.After.{After}
use Rattle.steps.specs.declared.ask.After.TheVariants.{GoOn, Done}
use Rattle.steps.specs.declared.copied.OneWord.{OneWord}
use Rattle.steps.specs.declared.indices.enums.ReleaseState.{ReleaseState}
use Rattle.steps.specs.declared.indices.unique.DefaultMode.{DefaultMode}
use Rattle.steps.specs.declared.indices.unique.Release.{Release}
use Rattle.steps.specs.declared.indices.unique.ReleaseStage.TheVariants.{ClearsFlag}
use Rattle.steps.specs.declared.loan.places.Place.{Place}
use Rattle.steps.specs.declared.loan.reclaim.Reclaim.{Reclaim}
use Rattle.steps.specs.declared.loan.reclaim.ReclaimStage.{ReclaimStage}
use Rattle.steps.specs.declared.loan.reclaim.ReclaimStage.TheVariants.{Drains, Empties, Releases}
use Rattle.steps.specs.declared.queues.overflow.Pop as overflow_pops
use Rattle.steps.specs.declared.queues.overflow.PopStage.{PopStage}
use Rattle.steps.specs.declared.queues.overflow.PopStage.TheVariants as overflow_stages
use Rattle.steps.specs.declared.queues.ring.Pop.{Pop}
use Rattle.steps.specs.declared.queues.ring.PopStage.TheVariants as ring_stages

-- a reclaim before its first step
abbrev pub first_reclaim : (slots queue : ℕ) → Reclaim
first_reclaim slots queue =
    record { slots = slots; queue = queue; stage = Drains (overflow.first_pop queue).stage }

-- the reclaim goes on at this stage
abbrev pub at_reclaim : Reclaim → ReclaimStage → After Reclaim ℕ
at_reclaim call stage = GoOn (record call { stage = stage })

-- the pop of the submission queue, at this stage
abbrev pub inner_overflow_pop : ℕ → PopStage → overflow_pops.Pop
inner_overflow_pop queue stage = record { capacity = queue; stage = stage }

-- What the reclaim asks for: first the pops of the submission queue,
-- then those of the completion queue, then the releases.
abbrev pub reclaim_asks : (slots queue : ℕ) → ReclaimStage → Want (Unit {0})
reclaim_asks slots queue (Drains stage) =
    shifted (submission_word slots) (overflow.pop_asks queue stage)
reclaim_asks slots queue (Empties stage) =
    shifted (completion_word slots queue) (pop_asks stage)
reclaim_asks slots queue (Releases number index stage) = back_asks slots index stage

-- what the reclaim asks for next, at the stage where it stands
abbrev pub reclaim_want : Reclaim → Want (Unit {0})
reclaim_want call = reclaim_asks call.slots call.queue call.stage

-- The reclaim after a step of its pop of the submission queue:
-- each pop that answers an index is followed by another one.
abbrev pub reclaim_drained : Reclaim → After overflow_pops.Pop Bool → After Reclaim ℕ
reclaim_drained call (GoOn pop) = at_reclaim call (Drains pop.stage)
reclaim_drained call (Done true) = at_reclaim call (Drains overflow_stages.LoadsRead)
reclaim_drained call (Done false) = at_reclaim call (Empties ring_stages.LoadsRead)

-- the next index that is sent is released, or where there is none it is done
abbrev pub reclaim_releases : Reclaim → ℕ → Option ℕ → After Reclaim ℕ
reclaim_releases call number None = Done number
reclaim_releases call number (Some index) = at_reclaim call (Releases number index ClearsFlag)

-- the reclaim releases the next index that is sent, from this one on, or is done with this number
abbrev pub reclaim_comes_to : Reclaim → List Place → (number from : ℕ) → After Reclaim ℕ
reclaim_comes_to call places number from =
    reclaim_releases call number (next_sent places call.slots from)

-- The reclaim after a step of its pop of the completion queue:
-- once that queue is empty, the indices still sent are released.
abbrev pub reclaim_emptied : Reclaim → List Place → After (Pop ℕ OneWord) Bool → After Reclaim ℕ
reclaim_emptied call places (GoOn pop) = at_reclaim call (Empties pop.stage)
reclaim_emptied call places (Done true) =
    at_reclaim call (Empties ring_stages.LoadsRead)
reclaim_emptied call places (Done false) = reclaim_comes_to call places 0 0

-- The reclaim after a step of its release of an index:
-- once that has ended, one index more is back, and the next one follows.
abbrev pub reclaim_released : Reclaim → List Place → (number index : ℕ) → After (Release DefaultMode) ReleaseState
    → After Reclaim ℕ
reclaim_released call places number index (GoOn release) =
    at_reclaim call (Releases number index release.stage)
reclaim_released call places number index (Done state) =
    reclaim_comes_to call places ((number + 1) % 2 ^ 64) ((index + 1) % 2 ^ 32)

-- Where the reclaim goes on to from the old value of its word: it drains the submission queue, empties the completion
-- queue, and releases each index that its table has as sent.
abbrev pub reclaim_takes : Reclaim → ReclaimStage → List Place → ℕ → After Reclaim ℕ
reclaim_takes call (Drains stage) places old =
    reclaim_drained call
    (overflow.pop_takes (inner_overflow_pop call.queue stage) stage old)
reclaim_takes call (Empties stage) places old =
    reclaim_emptied call places (pop_takes 1 (inner_pop call.slots stage) stage old)
reclaim_takes call (Releases number index stage) places old =
    reclaim_released call places number index (back_takes call.slots stage old)

-- how the reclaim goes on from the stage at which it is, by the old value of its word
abbrev pub reclaim_after : Reclaim → List Place → ℕ → After Reclaim ℕ
reclaim_after call places old = reclaim_takes call call.stage places old

-- Whether the reclaim begins its loop again once it is handed this old value: the read position of the submission queue
-- has moved since the reclaim loaded it.
abbrev pub reclaim_goes_back : ReclaimStage → ℕ → Bool
reclaim_goes_back (Drains stage) old = overflow.goes_back stage old
reclaim_goes_back (Empties stage) old = false
reclaim_goes_back (Releases number index stage) old = false
