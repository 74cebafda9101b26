-- Lock-freedom of a table at each of its states (`IsMachine`, which each step of a thread keeps), inside calls too: so also of
-- threads of which none ever returns.
use Rattle.std.specs.Prelude.{◌≤◌, ℕ, ◌+◌, ◌*◌, List, length, sum_by}
use Rattle.atomic_table.specs.Table.{State}
use Rattle.model.specs.declared.event.Start.{Start}
use Rattle.model.specs.declared.turn.Kind.{Kind}
use Rattle.model.specs.Coding.{Coding}
use Rattle.model.specs.LockFree.{AreWithinEnds, Bound, ends}
use Rattle.history.specs.declared.view.View.{View}
use Rattle.history.specs.History.{IsMachine, steps_of_run}
use Rattle.headline_threads.specs.Ends.{ActOnly, BeginSuch}

-- If k calls have ended at a table, its threads have taken at most k + 1 times the bound for the parties that have acted, and k
-- steps. A step is counted as it is taken, so also in a call that never returns.
abbrev pub TablesKeepEnding : Type 0 → Kind → Bound → Type 0
TablesKeepEnding T kind bound =
    (code : Coding T) (capacity : ℕ) (s : State (Unit {0}) (View T)) (m : IsMachine code kind capacity s)
    → (parties : List ℕ) → ActOnly parties m.one.turns
    → AreWithinEnds (bound (length parties) capacity code.size) (steps_of_run code kind capacity m.one.turns) 0 (ends m.trace.events)

-- All operations on words that the seats of a table have asked for, but those of splits, joins and looks, are within that.
abbrev pub TablesAsk : Type 0 → Kind → Bound → Type 0
TablesAsk T kind bound =
    (code : Coding T) (capacity : ℕ) (s : State (Unit {0}) (View T)) (m : IsMachine code kind capacity s)
    → (parties : List ℕ) → ActOnly parties m.one.turns
    → sum_by (λ (v : View T). v.asked) s.views
    ≤ sum_by (λ (v : View T). v.aside) s.views
    + (bound (length parties) capacity code.size + ends m.trace.events * (bound (length parties) capacity code.size + 1))

-- as `TablesKeepEnding`, of tables at which only calls have begun for which `Such` holds
abbrev pub TablesKeepEndingOf : (T : Type 0) → Kind → (Start T → Type 0) → Bound → Type 0
TablesKeepEndingOf T kind Such bound =
    (code : Coding T) (capacity : ℕ) (s : State (Unit {0}) (View T)) (m : IsMachine code kind capacity s)
    → (parties : List ℕ) → ActOnly parties m.one.turns → BeginSuch Such m.trace.events
    → AreWithinEnds (bound (length parties) capacity code.size) (steps_of_run code kind capacity m.one.turns) 0 (ends m.trace.events)

-- as `TablesAsk`, of tables at which only calls have begun for which `Such` holds
abbrev pub TablesAskOf : (T : Type 0) → Kind → (Start T → Type 0) → Bound → Type 0
TablesAskOf T kind Such bound =
    (code : Coding T) (capacity : ℕ) (s : State (Unit {0}) (View T)) (m : IsMachine code kind capacity s)
    → (parties : List ℕ) → ActOnly parties m.one.turns → BeginSuch Such m.trace.events
    → sum_by (λ (v : View T). v.asked) s.views
    ≤ sum_by (λ (v : View T). v.aside) s.views
    + (bound (length parties) capacity code.size + ends m.trace.events * (bound (length parties) capacity code.size + 1))
