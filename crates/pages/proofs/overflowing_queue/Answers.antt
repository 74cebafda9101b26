-- The law `overflowing_queue` (src/lib.rt): the overflowing queue of a capacity above 0, with one producer and one consumer: the theorem
-- of its page; without capacity no call takes a step: a push hands its own value back, and a pop returns None.
use Rattle.pages.proofs.Overflowing.{linearizable}
use Rattle.pages.proofs.overflowing_queue.Goals as goal

pub returns : goal.returns
returns c = linearizable
