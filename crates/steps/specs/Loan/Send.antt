-- The send of a loan channel, one step after another. `send_asks` says what the call asks for at each stage,
-- and `send_takes` where the answer leads: to a next stage (`GoOn`) or to its end (`Done`).
use Rattle.std.specs.Prelude.{ℕ, Option, Some, None}
use Rattle.steps.specs.Loan.Back.{index_in, back_asks, back_takes}
use Rattle.steps.specs.Loan.Layout.{submission_word}
use Rattle.steps.specs.Loan.Parts.{shifted}
use Rattle.steps.specs.Queues.Overflow.{first_push, push_asks, push_takes}
use Rattle.steps.specs.declared.ask.Want.{Want}
use Rattle.steps.specs.declared.ask.After.{After}
use Rattle.steps.specs.declared.ask.After.TheVariants.{GoOn, Done}
use Rattle.steps.specs.declared.indices.enums.ReleaseState.{ReleaseState}
use Rattle.steps.specs.declared.indices.unique.DefaultMode.{DefaultMode}
use Rattle.steps.specs.declared.indices.unique.Release.{Release}
use Rattle.steps.specs.declared.indices.unique.ReleaseStage.TheVariants.{ClearsFlag}
use Rattle.steps.specs.declared.loan.send.Send.{Send}
use Rattle.steps.specs.declared.loan.send.SendStage.{SendStage}
use Rattle.steps.specs.declared.loan.send.SendStage.TheVariants.{Pushes, Releases}
use Rattle.steps.specs.declared.queues.overflow.Push.{Push}
use Rattle.steps.specs.declared.queues.overflow.PushStage.{PushStage}
use Rattle.steps.specs.declared.queues.overflow.PushEnd.{PushEnd}
use Rattle.steps.specs.declared.queues.overflow.PushEnd.TheVariants.{Added, Own, Oldest}

-- a send before its first step
abbrev pub first_send : (slots queue : ℕ) → Send
first_send slots queue =
    record { slots = slots; queue = queue; stage = Pushes (first_push queue).stage }

-- the send, moved to this stage
abbrev pub at_send : Send → SendStage → Send
at_send call stage = record call { stage = stage }

-- the push of the submission queue, at this stage
abbrev pub inner_push : ℕ → PushStage → Push
inner_push queue stage = record { capacity = queue; stage = stage }

-- what the send asks for: first its push of the index, then the release of one that came back
abbrev pub send_asks : (slots queue : ℕ) → SendStage → ℕ → Want (Unit {0})
send_asks slots queue (Pushes stage) given =
    shifted (submission_word slots) (push_asks queue stage given)
send_asks slots queue (Releases index stage) given = back_asks slots index stage

-- what the send asks for next, at the stage where it stands
abbrev pub send_want : Send → ℕ → Want (Unit {0})
send_want call given = send_asks call.slots call.queue call.stage given

-- the send goes on to release the index that its push took out
abbrev pub releases : Send → ℕ → After Send (Option ℕ)
releases call index = GoOn (at_send call (Releases index ClearsFlag))

-- the send after a step of its push: where the queue was full, the oldest index is the last word that the push has read
abbrev pub send_pushed : Send → (given old : ℕ) → After Push PushEnd → After Send (Option ℕ)
send_pushed call given old (GoOn push) = GoOn (at_send call (Pushes push.stage))
send_pushed call given old (Done Added) = Done None
send_pushed call given old (Done Own) = releases call given
send_pushed call given old (Done Oldest) = releases call (index_in old)

-- the send after a step of its release: it ends with the index once that is released
abbrev pub send_released : Send → ℕ → After (Release DefaultMode) ReleaseState → After Send (Option ℕ)
send_released call index (GoOn release) = GoOn (at_send call (Releases index release.stage))
send_released call index (Done state) = Done (Some index)

-- Where the send goes on to from the old value of its word:
-- it pushes the index, and releases one that the push took out.
abbrev pub send_takes : Send → SendStage → (given old : ℕ) → After Send (Option ℕ)
send_takes call (Pushes stage) given old =
    send_pushed call given old (push_takes (inner_push call.queue stage) stage old)
send_takes call (Releases index stage) given old =
    send_released call index (back_takes call.slots stage old)

-- how the send goes on from the stage at which it is, by the old value of its word
abbrev pub send_after : Send → (given old : ℕ) → After Send (Option ℕ)
send_after call given old = send_takes call call.stage given old
