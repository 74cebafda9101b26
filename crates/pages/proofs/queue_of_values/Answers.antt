-- The law `queue_of_values` (src/lib.rt): the queue of values of any type that is written in 1 to 128 words, with one producer and one
-- consumer: the theorem of its page.
use Rattle.pages.proofs.ValuesQueue.{linearizable}
use Rattle.pages.proofs.queue_of_values.Goals as goal

pub returns : goal.returns
returns g c = linearizable
