-- `Held::peek` (src/spsc/queue/peeks.rt): its call of `peek_by` meets the requirement `room`.
use Rattle.lock_free_queues.proofs.Names.{rules, refl, arith}
use Rattle.lock_free_queues.proofs.spsc.queue.peeks.Held+Values+T+RingRule+Values+T.peek.Goals as goal

pub peek_by-requires-clause-room : goal.peek_by-requires-clause-room
peek_by-requires-clause-room g c = (2, search rules, omega arith, refl)

pub peek_by-requires-then-WORDS-le16-clause-room : goal.peek_by-requires-then-WORDS-le16-clause-room
peek_by-requires-then-WORDS-le16-clause-room g c = (16, search rules, omega arith, refl)
