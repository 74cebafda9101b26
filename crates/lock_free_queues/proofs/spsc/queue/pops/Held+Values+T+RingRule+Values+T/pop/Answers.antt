-- `Held::pop` (src/spsc/queue/pops.rt): its call of `pop_by` meets the requirement `room`.
use Rattle.lock_free_queues.proofs.Names.{rules, refl, arith}
use Rattle.lock_free_queues.proofs.spsc.queue.pops.Held+Values+T+RingRule+Values+T.pop.Goals as goal

pub pop_by-requires-clause-room : goal.pop_by-requires-clause-room
pop_by-requires-clause-room g c = (2, search rules, omega arith, refl)

pub pop_by-requires-then-WORDS-le16-clause-room : goal.pop_by-requires-then-WORDS-le16-clause-room
pop_by-requires-then-WORDS-le16-clause-room g c = (16, search rules, omega arith, refl)
