-- The law `lock_free_channel` (src/theorems.rt; clauses `one_ends` and `keep_ending`): loan channels are
-- lock-free, as their machines run, with the bound `channel_bound`. Wherever turns have led, and
-- whatever turns follow, in more steps than the bound a call ends, and calls go on ending as often as
-- the steps have that bound.
use Rattle.machine.proofs.LockFree as laws
use Rattle.machine.proofs.theorems.lock_free_channel.Goals as goal

pub returns-clause-one_ends : goal.returns-clause-one_ends
returns-clause-one_ends g c = laws.channel_one_ends _

pub returns-clause-keep_ending : goal.returns-clause-keep_ending
returns-clause-keep_ending g c = laws.channel_keeps_ending _
