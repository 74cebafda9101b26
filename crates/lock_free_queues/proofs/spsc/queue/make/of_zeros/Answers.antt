-- `of_zeros` (src/spsc/queue/make.rt): its return is the value that words of zeros make.
use Rattle.lock_free_queues.proofs.Names.{◌∙◌}
use Rattle.lock_free_queues.proofs.Queues.Filled.{zeros_in}
use Rattle.lock_free_queues.proofs.spsc.queue.make.of_zeros.Goals as goal

pub returns : goal.returns
returns g c = c.value.ensures ∙ zeros_in g.T.Words.value_of g.T.Words.WORDS 128 g.met.T.Words.few
