-- `UnrestrictedAtomic::of` (src/spmc/unrestricted_atomic/make.rt): in its loop the first words of both
-- cells are filled in with the value's words.
use Rattle.std.proofs.Common.{◌≡◌, ◌+◌}
use Rattle.lock_free_value.proofs.Names.{coding_by}
use Rattle.lock_free_value.proofs.Opens.{filling}
use Rattle.lock_free_value.proofs.spmc.unrestricted_atomic.UnrestrictedAtomic.of.Given as given

abbrev pub invariant-loop-at : given.invariant-loop-at
invariant-loop-at g l =
    record {
      version : l.version ≡ l.fn.version;
      value : l.value ≡ l.fn.value;
      end : l.at-end ≡ g.T.Words.WORDS;
      second_cell : l.second_cell ≡ 2 + g.T.Words.WORDS;
      words : l.words.items ≡ filling (coding_by g.T.Words) l.fn.value l.fn.version l.at;
    }
