-- Lock-freedom between threads, said of what passes have seen: calls end, and finite loads end.
use Rattle.std.specs.Prelude.{◌≡◌, ◌⊎◌, ◌<◌, ◌≤◌, ℕ, ◌+◌, ◌-◌, Option, Some, None, IfSome, List, ◌++◌, length}
use Rattle.std.specs.List.{AllByRecursion}
use Rattle.model.specs.declared.event.Event.{Event}
use Rattle.model.specs.declared.event.Event.TheVariants.{Begun}
use Rattle.model.specs.declared.event.Start.{Start}
use Rattle.model.specs.declared.turn.Kind.{Kind}
use Rattle.model.specs.declared.turn.Turn.{Turn}
use Rattle.model.specs.Coding.{Coding}
use Rattle.model.specs.Fair.{turns_of, StepsInEach, RestsInOne}
use Rattle.model.specs.Loads.{begun, load}
use Rattle.model.specs.LockFree.{AreWithinEnds, Bound, IsAmong, IsOneIn, ends, steps_in}
use Rattle.model.specs.Reading.{whose}
use Rattle.model.specs.World.{opening}
use Rattle.history.specs.declared.view.View.{View}
use Rattle.history.specs.History.{Knows, Continues, call_in, run_of}

-- the call that the event begins, if any
abbrev pub begun_as : {T : Type 0} → Event T → Option (Start T)
begun_as (Begun p start) = Some start
begun_as e = None

-- only these parties act: each of the turns is of one of them
abbrev pub ActOnly : {T : Type 0} → List ℕ → List (Turn T) → Type 0
ActOnly parties turns = AllByRecursion (IsAmong parties) turns

-- each of these events is of one of these parties
abbrev pub AreOf : {T : Type 0} → List ℕ → List (Event T) → Type 0
AreOf parties events = AllByRecursion (λ e. IfSome (whose e) (IsOneIn parties)) events

-- each call that begins in these events is one for which `Such` holds
abbrev pub BeginSuch : {T : Type 0} → (Start T → Type 0) → List (Event T) → Type 0
BeginSuch Such events = AllByRecursion (λ e. IfSome (begun_as e) Such) events

-- how many steps the table has taken between what a pass knew and what it knows
abbrev pub steps_between : {T : Type 0} (code : Coding T) (kind : Kind) (capacity : ℕ) (old new : View T)
    → Continues code kind capacity old new → ℕ
steps_between code kind capacity old new later =
    steps_in (run_of code kind capacity old.turns) later.first.rest

-- For what a pass knew and what it knows later: in more steps of the table than the bound says for those parties that have
-- acted in between, a call has ended.
abbrev pub PassesEnd : Type 0 → Kind → Bound → Type 0
PassesEnd T kind bound =
    (code : Coding T) (capacity : ℕ) (old new : View T) → Knows code kind capacity old
    → (later : Continues code kind capacity old new) → (parties : List ℕ) → ActOnly parties later.first.rest
    → bound (length parties) capacity code.size < steps_between code kind capacity old new later
    → ends old.seen < ends new.seen

-- For what a pass knew and what it knows later: if k calls have ended between the two, the table has taken at most
-- k + 1 times the bound for the parties that acted in between, and k steps.
abbrev pub PassesKeepEnding : Type 0 → Kind → Bound → Type 0
PassesKeepEnding T kind bound =
    (code : Coding T) (capacity : ℕ) (old new : View T) → Knows code kind capacity old
    → (later : Continues code kind capacity old new) → (parties : List ℕ) → ActOnly parties later.first.rest
    → AreWithinEnds (bound (length parties) capacity code.size) (steps_between code kind capacity old new later)
    (ends old.seen) (ends new.seen)

-- For all that a pass knows, from the opening of the table on: if k calls have ended, the table has taken at most k
-- + 1 times the bound for the parties that have acted, and k steps.
abbrev pub KnownKeepsEnding : Type 0 → Kind → Bound → Type 0
KnownKeepsEnding T kind bound =
    (code : Coding T) (capacity : ℕ) (v : View T) → Knows code kind capacity v
    → (parties : List ℕ) → ActOnly parties v.turns
    → AreWithinEnds (bound (length parties) capacity code.size) (steps_in (opening code kind capacity 0) v.turns)
    0 (ends v.seen)

-- ---- who acts

-- Who has acted in between is seen: if each call that was under way in the run that a pass knew, and each event that it has
-- seen since, is of one of these parties, then no other has acted in between.
abbrev pub ActorsAreSeen : Type 0 → Type 0
ActorsAreSeen T =
    (code : Coding T) (kind : Kind) (capacity : ℕ) (old new : View T) → Knows code kind capacity old
    → (later : Continues code kind capacity old new) → (parties : List ℕ)
    → ((p : ℕ) → (call_in (run_of code kind capacity old.turns).world p ≡ None) ⊎ IsOneIn parties p)
    → (since : List (Event T)) → new.seen ≡ old.seen ++ since → AreOf parties since
    → ActOnly parties later.first.rest

-- who has acted since the table was opened is seen
abbrev pub AllActorsAreSeen : Type 0 → Type 0
AllActorsAreSeen T =
    (code : Coding T) (kind : Kind) (capacity : ℕ) (v : View T) → Knows code kind capacity v
    → (parties : List ℕ) → AreOf parties v.seen → ActOnly parties v.turns

-- Where a pass has seen as many calls end as begin, none is under way.
abbrev pub NoneIsUnderWay : Type 0 → Type 0
NoneIsUnderWay T =
    (code : Coding T) (kind : Kind) (capacity : ℕ) (v : View T) → Knows code kind capacity v
    → begun v.seen ≤ ends v.seen
    → (p : ℕ) → call_in (run_of code kind capacity v.turns).world p ≡ None

-- ---- of passes that have seen only calls begin for which `Such` holds

-- as `PassesEnd`, of passes that have seen only calls begin for which `Such` holds, and by a bound for these
abbrev pub PassesEndOf : (T : Type 0) → Kind → (Start T → Type 0) → Bound → Type 0
PassesEndOf T kind Such bound =
    (code : Coding T) (capacity : ℕ) (old new : View T) → Knows code kind capacity old
    → (later : Continues code kind capacity old new) → (parties : List ℕ) → ActOnly parties later.first.rest → BeginSuch Such new.seen
    → bound (length parties) capacity code.size < steps_between code kind capacity old new later
    → ends old.seen < ends new.seen

-- as `PassesKeepEnding`, of passes that have seen only calls begin for which `Such` holds
abbrev pub PassesKeepEndingOf : (T : Type 0) → Kind → (Start T → Type 0) → Bound → Type 0
PassesKeepEndingOf T kind Such bound =
    (code : Coding T) (capacity : ℕ) (old new : View T) → Knows code kind capacity old
    → (later : Continues code kind capacity old new) → (parties : List ℕ) → ActOnly parties later.first.rest → BeginSuch Such new.seen
    → AreWithinEnds (bound (length parties) capacity code.size) (steps_between code kind capacity old new later)
    (ends old.seen) (ends new.seen)

-- as `KnownKeepsEnding`, of passes that have seen only calls begin for which `Such` holds
abbrev pub KnownKeepsEndingOf : (T : Type 0) → Kind → (Start T → Type 0) → Bound → Type 0
KnownKeepsEndingOf T kind Such bound =
    (code : Coding T) (capacity : ℕ) (v : View T) → Knows code kind capacity v
    → (parties : List ℕ) → ActOnly parties v.turns → BeginSuch Such v.seen
    → AreWithinEnds (bound (length parties) capacity code.size) (steps_in (opening code kind capacity 0) v.turns)
    0 (ends v.seen)

-- ---- loads

-- All steps that the table has taken between what a pass knew and what it knows are at most the load of the calls that
-- had begun and not ended, and of those that have begun since.
abbrev pub PassesEndLoad : Type 0 → Kind → Bound → Type 0
PassesEndLoad T kind bound =
    (code : Coding T) (capacity : ℕ) (old new : View T) → Knows code kind capacity old
    → (later : Continues code kind capacity old new) → (parties : List ℕ) → ActOnly parties later.first.rest
    → steps_between code kind capacity old new later
    ≤ load (bound (length parties) capacity code.size) (begun new.seen - ends old.seen)

-- All steps that a pass knows of, from the opening of the table on, are at most the load of the calls that have begun.
abbrev pub KnownEndsLoad : Type 0 → Kind → Bound → Type 0
KnownEndsLoad T kind bound =
    (code : Coding T) (capacity : ℕ) (v : View T) → Knows code kind capacity v
    → (parties : List ℕ) → ActOnly parties v.turns
    → steps_in (opening code kind capacity 0) v.turns ≤ load (bound (length parties) capacity code.size) (begun v.seen)

-- All operations on words that a pass has asked for, but for those of splits, joins and looks, are at most the load
-- of the calls that it has seen begin.
abbrev pub KnownAsksLoad : Type 0 → Kind → Bound → Type 0
KnownAsksLoad T kind bound =
    (code : Coding T) (capacity : ℕ) (v : View T) → Knows code kind capacity v
    → (parties : List ℕ) → ActOnly parties v.turns
    → v.asked ≤ v.aside + load (bound (length parties) capacity code.size) (begun v.seen)

-- as `PassesEndLoad`, of passes that have seen only calls begin for which `Such` holds
abbrev pub PassesEndLoadOf : (T : Type 0) → Kind → (Start T → Type 0) → Bound → Type 0
PassesEndLoadOf T kind Such bound =
    (code : Coding T) (capacity : ℕ) (old new : View T) → Knows code kind capacity old
    → (later : Continues code kind capacity old new) → (parties : List ℕ) → ActOnly parties later.first.rest → BeginSuch Such new.seen
    → steps_between code kind capacity old new later
    ≤ load (bound (length parties) capacity code.size) (begun new.seen - ends old.seen)

-- as `KnownEndsLoad`, of passes that have seen only calls begin for which `Such` holds
abbrev pub KnownEndsLoadOf : (T : Type 0) → Kind → (Start T → Type 0) → Bound → Type 0
KnownEndsLoadOf T kind Such bound =
    (code : Coding T) (capacity : ℕ) (v : View T) → Knows code kind capacity v
    → (parties : List ℕ) → ActOnly parties v.turns → BeginSuch Such v.seen
    → steps_in (opening code kind capacity 0) v.turns ≤ load (bound (length parties) capacity code.size) (begun v.seen)

-- as `KnownAsksLoad`, of passes that have seen only calls begin for which `Such` holds
abbrev pub KnownAsksLoadOf : (T : Type 0) → Kind → (Start T → Type 0) → Bound → Type 0
KnownAsksLoadOf T kind Such bound =
    (code : Coding T) (capacity : ℕ) (v : View T) → Knows code kind capacity v
    → (parties : List ℕ) → ActOnly parties v.turns → BeginSuch Such v.seen
    → v.asked ≤ v.aside + load (bound (length parties) capacity code.size) (begun v.seen)

-- Cut what the table has done in between into more rounds than that load. A party that takes a step in each round,
-- unless it has no call under way as the round begins, has none as one of them begins.
abbrev pub PassesRest : Type 0 → Kind → Bound → Type 0
PassesRest T kind bound =
    (code : Coding T) (capacity : ℕ) (old new : View T) → Knows code kind capacity old
    → (later : Continues code kind capacity old new) → (parties : List ℕ) → ActOnly parties later.first.rest
    → (rounds : List (List (Turn T))) → later.first.rest ≡ turns_of rounds
    → (p : ℕ) → StepsInEach p (run_of code kind capacity old.turns) rounds
    → load (bound (length parties) capacity code.size) (begun new.seen - ends old.seen) < length rounds
    → RestsInOne p (run_of code kind capacity old.turns) rounds

-- as `PassesRest`, of passes that have seen only calls begin for which `Such` holds
abbrev pub PassesRestOf : (T : Type 0) → Kind → (Start T → Type 0) → Bound → Type 0
PassesRestOf T kind Such bound =
    (code : Coding T) (capacity : ℕ) (old new : View T) → Knows code kind capacity old
    → (later : Continues code kind capacity old new) → (parties : List ℕ) → ActOnly parties later.first.rest → BeginSuch Such new.seen
    → (rounds : List (List (Turn T))) → later.first.rest ≡ turns_of rounds
    → (p : ℕ) → StepsInEach p (run_of code kind capacity old.turns) rounds
    → load (bound (length parties) capacity code.size) (begun new.seen - ends old.seen) < length rounds
    → RestsInOne p (run_of code kind capacity old.turns) rounds
