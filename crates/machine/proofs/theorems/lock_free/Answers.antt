-- The law `lock_free` (src/theorems.rt; clauses `one_ends`, `keep_ending` and `as_run`): index queues,
-- overflowing queues, queues, the single value, bit sets, counting bit sets and unique index sets are
-- lock-free, each with the bound that the table `lock_free_bound` says. Wherever turns have led, and whatever
-- turns some parties take from there while the others have stopped anywhere, in more steps than the bound one of
-- their calls ends, and calls go on ending as often as the steps have that bound.
use Rattle.machine.proofs.LockFree as laws
use Rattle.machine.proofs.theorems.lock_free.Goals as goal

pub returns-clause-one_ends : goal.returns-clause-one_ends
returns-clause-one_ends g c kind = laws.one_ends _ kind

pub returns-clause-keep_ending : goal.returns-clause-keep_ending
returns-clause-keep_ending g c kind = laws.keep_ending _ kind

pub returns-clause-as_run : goal.returns-clause-as_run
returns-clause-as_run g c kind = laws.as_run _ kind
