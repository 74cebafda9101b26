-- The invariant of the loop of `Running::nexts`: the turns of the party that were taken so far were allowed,
-- and they lead from the machine at entry to the machine now.
use Rattle.std.proofs.Common.{◌≡◌, replicate}
use Rattle.model.specs.Coding.{coding_by}
use Rattle.model.specs.declared.turn.Turn.TheVariants.{Next}
use Rattle.model.specs.Turns.{after_turns, AreAllowed}
use Rattle.model.specs.World.{trace_in}
use Rattle.machine_parts.proofs.running.Running.nexts.Given as given

abbrev pub invariant-loop-taken : given.invariant-loop-taken
invariant-loop-taken g l =
    record {
      allowed : AreAllowed (trace_in (coding_by g.T.Words) l.fn.self)
          (replicate l.taken (Next l.party));
      taken : trace_in (coding_by g.T.Words) l.self
          ≡ after_turns (trace_in (coding_by g.T.Words) l.fn.self)
          (replicate l.taken (Next l.party));
    }
