-- `read_cells` (src/spsc/ring/reads.rt): in its loop the words of the cells below the next one were
-- read, and nothing else has changed.
use Rattle.lock_free_queues.proofs.Names.{◌≡◌, ◌≤◌, length, coding_by}
use Rattle.lock_free_queues.specs.Queues.Bounded.{machine_kind}
use Rattle.lock_free_queues.specs.Queues.Rings.{token_queue, token_view}
use Rattle.lock_free_queues.specs.Queues.Reads.{HasRead}
use Rattle.lock_free_queues.proofs.Queues.Reads.{ReadTo}
use Rattle.lock_free_queues.proofs.spsc.ring.reads.Held+E+T+RingRule+E+T.read_cells.Given as given

abbrev pub invariant-loop-at : given.invariant-loop-at
invariant-loop-at g l =
    record {
      queue : token_queue l.self ≡ token_queue l.fn.self;
      read : HasRead (token_view l.fn.self) (token_view l.self);
      cells : ReadTo (coding_by g.T.Words) (machine_kind g.E.Kind.KIND)
          l.fn.self.capacity (token_view l.fn.self) (token_view l.self) l.at l.words.items;
      long : length l.words.items ≡ length l.fn.words.items;
      past : 4 ≤ l.at;
      within : l.at ≤ length l.fn.words.items;
    }
