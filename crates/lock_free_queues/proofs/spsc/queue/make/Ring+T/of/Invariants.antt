-- `Ring::of` (src/spsc/queue/make.rt): in its loop the words below the next one are those of the
-- queue's machine at this position.
use Rattle.lock_free_queues.proofs.Names.{◌≡◌, ◌≤◌, ◌*◌, ◌∷◌, ◌++◌, [], min, replicate}
use Rattle.lock_free_queues.specs.Queues.Opened.{position_at}
use Rattle.lock_free_queues.proofs.Queues.Filled.{filled}
use Rattle.lock_free_queues.proofs.spsc.queue.make.Ring+T.of.Given as given

abbrev pub invariant-loop-at : given.invariant-loop-at
invariant-loop-at g l =
    record {
      position : l.position ≡ l.fn.position;
      capacity : l.capacity ≡ l.fn.capacity;
      size : l.size ≡ g.T.Words.WORDS;
      value : l.value ≡ g.T.Words.value_of (replicate g.T.Words.WORDS 0);
      within : l.at ≤ l.used;
      used : l.used ≡ g.T.Words.WORDS * min l.fn.position l.fn.capacity;
      words : l.words.items ≡ position_at l.fn.capacity l.fn.position ∷ position_at l.fn.capacity l.fn.position ∷ 1 ∷ 1
          ∷ (filled (g.T.Words.words_of l.value) g.T.Words.WORDS l.fn.capacity l.at ++ 0 ∷ []);
    }
