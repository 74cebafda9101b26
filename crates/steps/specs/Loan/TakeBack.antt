-- The take-back of a loan channel, one step after another. `take_back_asks` says what the call asks for at
-- each stage, and `take_back_takes` where the answer leads: to a next stage (`GoOn`) or to its end (`Done`).
use Rattle.std.specs.Prelude.{ℕ, Bool, true, false, Option, Some, None}
use Rattle.steps.specs.Copied.{kept_in_one}
use Rattle.steps.specs.Loan.Back.{index_in, back_asks, back_takes}
use Rattle.steps.specs.Loan.Layout.{completion_word}
use Rattle.steps.specs.Loan.Parts.{shifted}
use Rattle.steps.specs.Queues.Ring.{pop_asks, pop_takes, pop_keeps}
use Rattle.steps.specs.declared.ask.Want.{Want}
use Rattle.steps.specs.declared.ask.After.{After}
use Rattle.steps.specs.declared.ask.After.TheVariants.{GoOn, Done}
use Rattle.steps.specs.declared.copied.OneWord.{OneWord}
use Rattle.steps.specs.declared.indices.enums.ReleaseState.{ReleaseState}
use Rattle.steps.specs.declared.indices.unique.DefaultMode.{DefaultMode}
use Rattle.steps.specs.declared.indices.unique.Release.{Release}
use Rattle.steps.specs.declared.indices.unique.ReleaseStage.TheVariants.{ClearsFlag}
use Rattle.steps.specs.declared.loan.take_back.TakeBack.{TakeBack}
use Rattle.steps.specs.declared.loan.take_back.TakeBackStage.{TakeBackStage}
use Rattle.steps.specs.declared.loan.take_back.TakeBackStage.TheVariants.{Pops, Releases}
use Rattle.steps.specs.declared.queues.ring.Pop.{Pop}
use Rattle.steps.specs.declared.queues.ring.PopStage.{PopStage}
use Rattle.steps.specs.declared.queues.ring.PopStage.TheVariants.{LoadsRead}

-- a take-back before its first step: nothing is read yet
abbrev pub first_take_back : (slots queue : ℕ) → TakeBack
first_take_back slots queue =
    record { slots = slots; queue = queue; stage = Pops LoadsRead (record { 0 = 0 }) }

-- the take-back, moved to this stage
abbrev pub at_take_back : TakeBack → TakeBackStage → TakeBack
at_take_back call stage = record call { stage = stage }

-- the pop of the completion queue, at this stage
abbrev pub inner_pop : ℕ → PopStage → Pop ℕ OneWord
inner_pop slots stage = record { capacity = slots; stage = stage; of = record {} }

-- what the take-back asks for: first its pop of an index, then the release of that index
abbrev pub take_back_asks : (slots queue : ℕ) → TakeBackStage → Want (Unit {0})
take_back_asks slots queue (Pops stage found) =
    shifted (completion_word slots queue) (pop_asks stage)
take_back_asks slots queue (Releases index stage) = back_asks slots index stage

-- what the take-back asks for next, at the stage where it stands
abbrev pub take_back_want : TakeBack → Want (Unit {0})
take_back_want call = take_back_asks call.slots call.queue call.stage

-- the take-back after a step of its pop: it ends with none where the queue is empty, and else releases the index popped
abbrev pub take_back_popped : TakeBack → OneWord → After (Pop ℕ OneWord) Bool
    → After TakeBack (Option ℕ)
take_back_popped call found (GoOn pop) = GoOn (at_take_back call (Pops pop.stage found))
take_back_popped call found (Done false) = Done None
take_back_popped call found (Done true) =
    GoOn (at_take_back call (Releases (index_in found.0) ClearsFlag))

-- the take-back after a step of its release: it ends with the index once that is released
abbrev pub take_back_released : TakeBack → ℕ → After (Release DefaultMode) ReleaseState
    → After TakeBack (Option ℕ)
take_back_released call index (GoOn release) =
    GoOn (at_take_back call (Releases index release.stage))
take_back_released call index (Done state) = Done (Some index)

-- where the take-back goes on to from the old value of its word: it pops an index, which it then releases
abbrev pub take_back_takes : TakeBack → TakeBackStage → ℕ → After TakeBack (Option ℕ)
take_back_takes call (Pops stage found) old =
    take_back_popped call (pop_keeps kept_in_one found stage old)
    (pop_takes 1 (inner_pop call.slots stage) stage old)
take_back_takes call (Releases index stage) old =
    take_back_released call index (back_takes call.slots stage old)

-- how the take-back goes on from the stage at which it is, by the old value of its word
abbrev pub take_back_after : TakeBack → ℕ → After TakeBack (Option ℕ)
take_back_after call old = take_back_takes call call.stage old
