-- The law `promises` (src/lib.rt; clauses `run` and `turn`): all that the family of a machine's kind promises of every run, and of each
-- further turn that is not refused; what it promises stands in `model`.
use Rattle.std.proofs.Common.{refl}
use Rattle.model.proofs.Orders.{reached_kept}
use Rattle.machine.proofs.Laws.{laws_of}
use Rattle.headline.proofs.promises.Goals as goal

pub returns-clause-run : goal.returns-clause-run
returns-clause-run g c t r = reached_kept laws_of t r

pub returns-clause-turn : goal.returns-clause-turn
returns-clause-turn g c t turn r e = (laws_of t.world.kind).turn t turn refl e r
