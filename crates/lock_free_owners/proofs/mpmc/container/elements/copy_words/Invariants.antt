-- `copy_words` (src/mpmc/container/elements.rt): in its loop the look stands at a word of an element,
-- with each iteration at a later one.
use Rattle.lock_free_owners.proofs.Names.{◌-◌, coding_by, seen}
use Rattle.lock_free_owners.specs.Container.LookTurns.{LookOnAt, at_word}
use Rattle.lock_free_owners.specs.Container.Turns.{StaysAtBoard}
use Rattle.lock_free_owners.proofs.mpmc.container.elements.copy_words.Given as given

abbrev pub invariant-words : given.invariant-words
invariant-words g l =
    record {
      stays : StaysAtBoard g.T.Words.WORDS l.fn.seat l.seat;
      at : LookOnAt (coding_by g.T.Words) g.B.Beginning.which g.B.Beginning.from
          g.B.Beginning.shown l.fn.given (seen l.seat) (at_word l.fn.capacity l.fn.index l.fn.count l.at) l.room;
    }

-- Each iteration leaves fewer words: the measure is the number of words from the present one on.
abbrev pub decreases-words : given.decreases-words
decreases-words g l = g.T.Words.WORDS - l.at
