-- `last_words` (src/spsc/ring/reads.rt): in its loop the write position was read as the pass stands
-- now. An iteration that finds another position finds a higher one.
use Rattle.lock_free_queues.proofs.Names.{◌≡◌, ◌<◌, ◌-◌, ◌^◌, length, coding_by}
use Rattle.lock_free_queues.specs.Queues.Bounded.{machine_kind}
use Rattle.lock_free_queues.specs.Queues.Rings.{token_queue, token_view}
use Rattle.lock_free_queues.specs.Queues.Reads.{WasRead, HasRead}
use Rattle.lock_free_queues.proofs.spsc.ring.reads.Held+E+T+RingRule+E+T.last_words.Given as given

abbrev pub invariant-loop-write : given.invariant-loop-write
invariant-loop-write g l =
    record {
      queue : token_queue l.self ≡ token_queue l.fn.self;
      read : HasRead (token_view l.fn.self) (token_view l.self);
      found : WasRead (coding_by g.T.Words) (machine_kind g.E.Kind.KIND)
          l.fn.self.capacity (token_view l.self) (token_view l.self) 0 l.write;
      few : l.write < 2 ^ 64;
      long : length l.words.items ≡ l.fn.count;
    }

-- An iteration that finds another write position finds a higher one, and positions are below 2^64.
abbrev pub decreases-loop-write : given.decreases-loop-write
decreases-loop-write g l = 2 ^ 64 - l.write
