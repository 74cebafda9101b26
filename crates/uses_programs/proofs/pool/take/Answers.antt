-- `take` (src/pool.rt): the invariant of its loop holds at the start and after each iteration.
use Rattle.uses_programs.proofs.Names.{rules, arith, common_steps, holds_none, holds_more}
use Rattle.uses_programs.proofs.pool.take.Goals as goal

pub loop-init : goal.loop-init
loop-init g c = holds_none c.requires.none c.new-indices.ensures.items

pub loop-preserved : goal.loop-preserved
loop-preserved g c =
    holds_more c.push.new.self.items c.in-Ok.index c.loop.invariant c.acquire_raw_index.ensures.same c.in-Ok.ensures.acquired.acquired
    (first_of (search rules, grind (arith, common_steps)))
