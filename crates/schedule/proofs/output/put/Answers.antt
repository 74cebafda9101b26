-- `put` (src/output.rt): each iteration keeps the invariant of its loop.
use Rattle.std.proofs.Common.{refl}
use Rattle.std.proofs.lemmas.List.{take_rest}
use Rattle.schedule.proofs.Writing.{wrote_more, wrote_none}
use Rattle.schedule.proofs.output.put.Goals as goal
use Rattle.schedule.proofs.output.put.Goals.{in-Ok, in-Err+else-ne}

-- each iteration keeps the invariant of the loop
pub loop-preserved : goal.loop-preserved
loop-preserved g c =
    let i = c.loop.invariant in
    elim c.match-write.branch [
      | in-Ok w ↦ wrote_more _ _ _ _ i.0 _ _ w.in-Ok.count i.1 i.2 w.in-Ok.ensures.bytes (rw w.rest-is (take_rest c.loop.rest.now w.in-Ok.count))
      | in-Err+else-ne w ↦ wrote_none _ _ _ _ i.0 _ _ i.1 i.2 w.in-Err.ensures.bytes (rw w.rest-is refl)
    ]
