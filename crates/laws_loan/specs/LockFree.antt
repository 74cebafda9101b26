-- Lock-freedom of a loan channel: the bound, and that calls keep ending in its runs.
use Rattle.std.specs.Prelude.{◌≡◌, ◌+◌, ◌*◌, List}
use Rattle.model.specs.declared.turn.Kind.{Kind}
use Rattle.model.specs.declared.turn.Turn.{Turn}
use Rattle.model.specs.LockFree.{Bound, AreWithinEnds, ends, steps_in}
use Rattle.model.specs.Turns.{after_turns, AreAllowed, IsReached}
use Rattle.model.specs.World.{Trace}

-- `KeepsEnding` of machines as they run, with all their parties: by the calls that end, the steps taken are
-- within this bound
abbrev pub KeepsEndingRuns : Type 0 → Kind → Bound → Type 0
KeepsEndingRuns T kind bound =
    (t : Trace T) → t.world.kind ≡ kind → IsReached t → (turns : List (Turn T)) → AreAllowed t turns
    → AreWithinEnds (bound t.world.parties t.world.capacity t.world.coding.size) (steps_in t turns) (ends t.events)
    (ends (after_turns t turns).events)

-- The bound is the same for any number of parties, since the sender and one receiver at a time take steps:
-- what a reclaim takes at most before its last step, and four steps of a receiver.
abbrev pub channel_bound : Bound
channel_bound n slots size = 13 * slots + 11
