-- `read` (src/spsc/ring/reads.rt): what its load of a word tells the pass.
use Rattle.lock_free_queues.proofs.Names.{coding_by, LooksAt}
use Rattle.lock_free_queues.specs.Queues.Bounded.{machine_kind}
use Rattle.lock_free_queues.proofs.spsc.ring.reads.Held+E+T+RingRule+E+T.read.Given as given

-- what the look tells
abbrev pub ghosts-look : given.ghosts-look
ghosts-look g a =
    record {
      told = λ u n w. LooksAt (coding_by g.T.Words) (machine_kind g.E.Kind.KIND) u.capacity a.word u n w;
    }
