-- The law `unique_index_set` (src/lib.rt): the unique index set, of any parties of which each releases what it holds: the theorem of its
-- page; an index has a holder from the response of an acquire to the invocation of its release, and never two; none is acquired once the
-- set is locked, and none has a holder as it is.
use Rattle.pages.proofs.UniqueRuns.{holds_alone}
use Rattle.pages.proofs.unique_index_set.Goals as goal

pub returns : goal.returns
returns c = holds_alone
