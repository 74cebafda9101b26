-- How many steps threads have taken at an index queue, by how many of their calls have ended, and by how many have
-- begun; how many operations a pass of a unique index set has asked for.
use Rattle.std.specs.Prelude.{◌≤◌, ◌+◌, ◌*◌, ℕ, List, length}
use Rattle.model.specs.declared.turn.Kind.TheVariants.{IndexQueue}
use Rattle.model.specs.Loads.{begun}
use Rattle.model.specs.LockFree.{ends, steps_in}
use Rattle.model.specs.World.{opening}
use Rattle.lock_free.specs.Coding.{one_word}
use Rattle.lock_free.specs.HistoryView.View.{View}
use Rattle.headline_threads.specs.Ends.{AreOf}

-- If n parties have acted, an index queue takes at most 5 * n steps before a first call ends, and after each call that ends at
-- most 5 * n + 1 more.
abbrev pub StepsAreWithinEnds : ℕ → View ℕ → Type 0
StepsAreWithinEnds capacity v =
    (parties : List ℕ) → AreOf parties v.seen
    → steps_in (opening one_word IndexQueue capacity 0) v.turns ≤ 5 * length parties + ends v.seen * (5 * length parties + 1)

-- if n parties have acted, an index queue takes at most 5 * n + 1 steps for each call that has begun
abbrev pub StepsAreWithinLoad : ℕ → View ℕ → Type 0
StepsAreWithinLoad capacity v =
    (parties : List ℕ) → AreOf parties v.seen
    → steps_in (opening one_word IndexQueue capacity 0) v.turns ≤ begun v.seen * (5 * length parties + 1)

-- If n parties have begun all calls, the pass has asked for at most n · n · (capacity + 4) + 1
-- operations for each call that has begun, and `aside` more.
abbrev pub AsksAreWithinLoad : (capacity aside : ℕ) → View ℕ → Type 0
AsksAreWithinLoad capacity aside v =
    (parties : List ℕ) → AreOf parties v.seen
    → v.asked ≤ aside + begun v.seen * (length parties * length parties * (capacity + 4) + 1)
