-- `Receiver::receive_all` (src/ends/waits.rt): the invariant of its loop holds at the start and after each iteration, and its return
-- meets the clauses `queue` and `came`.
use Rattle.std.proofs.Common.{refl, ◌∙◌}
use Rattle.uses_streams.proofs.Streams.{gain_none, gain_more, gain_same}
use Rattle.uses_streams.proofs.ends.Receiver.receive_all.Goals as goal

pub loop-init : goal.loop-init
loop-init g c = record { queue = refl; came = gain_none _ _ }

-- each iteration keeps the invariant of the loop
pub loop-preserved : goal.loop-preserved
loop-preserved g c =
    let l = c.loop in
    let came = c.in-Some-receive_waiting in
    record {
      queue = c.receive_waiting.ensures.queue ∙ l.invariant.queue;
      came = gain_more _ _ _ _ _ _ l.invariant.came came.value _ came.ensures.value c.in_ok-reserve.ensures.items
          c.push_reserved.ensures.items;
    }

pub returns-in-None-receive_waiting-clause-queue : goal.returns-in-None-receive_waiting-clause-queue
returns-in-None-receive_waiting-clause-queue g c = c.receive_waiting.ensures.queue ∙ c.loop.invariant.queue

pub returns-in-None-receive_waiting-clause-came : goal.returns-in-None-receive_waiting-clause-came
returns-in-None-receive_waiting-clause-came g c =
    gain_same _ _ _ _ _ _ c.loop.invariant.came c.in-None-receive_waiting.ensures.none c.in_ok-reserve.ensures.items

pub returns-in_err-reserve-clause-came : goal.returns-in_err-reserve-clause-came
returns-in_err-reserve-clause-came g c = gain_same _ _ _ _ _ _ c.loop.invariant.came refl c.in_err-reserve.ensures.items
