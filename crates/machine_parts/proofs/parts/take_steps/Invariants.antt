-- The invariant of the loop of `take_steps`: `taken` steps of the party's call lead from the parts at entry
-- to the parts now, and the counts are at most the turns.
use Rattle.std.proofs.Common.{◌+◌, ◌≤◌}
use Rattle.model.specs.Coding.{coding_by}
use Rattle.model.specs.Small.{HasSmallCounts}
use Rattle.machine_parts.specs.Parts.{around, Steps}
use Rattle.machine_parts.proofs.parts.take_steps.Given as given

abbrev pub invariant-loop-taken : given.invariant-loop-taken
invariant-loop-taken g l =
    record {
      steps : Steps (coding_by g.T.Words) l.number l.taken
          (around l.fn.party l.fn.words.items l.fn.kept l.fn.changes l.fn.events.items)
          (around l.party l.words.items l.kept l.changes l.events.items);
      small : HasSmallCounts (l.turns + l.taken) l.changes l.party;
      changes : l.changes ≤ l.turns + l.taken;
    }
