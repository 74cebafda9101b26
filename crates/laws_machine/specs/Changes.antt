-- How often a container has changed, and what a look has seen of it.
use Rattle.std.specs.Prelude.{◌≡◌, ℕ, ◌+◌, ◌<◌, ◌==◌, true, false, List, fold, slice_index, if◌then◌else◌}
use Rattle.steps.specs.Container.Layout.{change_word}
use Rattle.model.specs.declared.event.Answer.TheVariants.{Index, State, Number, Truth, Done}
use Rattle.model.specs.declared.event.Event.{Event}
use Rattle.model.specs.declared.event.Event.TheVariants.{Begun, Finished}
use Rattle.model.specs.declared.event.Start.TheVariants.{Container}
use Rattle.model.specs.declared.families.container.ContainerStart.TheVariants.{Add, Remove, Replace, Recover, GetState, UpdateState}
use Rattle.model.specs.World.{Trace}

-- The numbers of changes of a container that a party's looks can have met, by the events so far.
pub record Seen : Type 0 where
  pub changes : ℕ  -- the number so far
  pub begun : ℕ  -- the number when the party's latest look began
  pub least : ℕ  -- the number when the look began that last brought the party's state up to date
  pub most : ℕ  -- the number when that look ended

-- what a party's looks have met once its look has brought its state up to date
abbrev pub up_to_date : Seen → Seen
up_to_date s = record s { least = s.begun; most = s.changes }

module _ {T : Type 0} where
  -- an add, a remove or a replace that succeeded, and each recovery, changes the container once, as it ends
  abbrev pub change_in : Event T → ℕ
  change_in (Finished p (Container (Add value owner)) (Index index)) = 1
  change_in (Finished p (Container (Remove index owner mode)) (State state)) = 1
  change_in (Finished p (Container (Replace index value owner)) Done) = 1
  change_in (Finished p (Container (Recover owner mode)) (State state)) = 1
  change_in e = 0

  -- how many changes these events made
  abbrev pub changes_of : List (Event T) → ℕ
  changes_of events = fold (λ n e. n + change_in e) 0 events

  -- the container's number of changes is that of the changes in the events
  abbrev pub CountsChanges : Trace T → Type 0
  CountsChanges t = slice_index t.world.words (change_word t.world.capacity) ≡ changes_of t.events

  -- ---- what a look has met

  -- What the party's looks have met, after an event. `begun` is the number of changes as its last look began; a look
  -- that brings its state up to date sets `least` to that number, and `most` to the number of changes as it ends.
  abbrev pub seen_after : ℕ → Seen → Event T → Seen
  seen_after p s (Begun q (Container GetState)) =
      if q == p then record s { begun = s.changes } else s
  seen_after p s (Begun q (Container UpdateState)) =
      if q == p then record s { begun = s.changes } else s
  seen_after p s (Finished q (Container GetState) (Number number)) =
      if q == p then up_to_date s else s
  seen_after p s (Finished q (Container UpdateState) (Truth true)) =
      if q == p then up_to_date s else s
  seen_after p s e = record s { changes = s.changes + change_in e }

  -- the numbers of changes that the party's looks can have met in these events
  abbrev pub seen_by : ℕ → List (Event T) → Seen
  seen_by p events =
      fold (seen_after p) (record { changes = 0; begun = 0; least = 0; most = 0 }) events

  -- The answer of an update tells the truth about changes. Here the look is the party's last that brought
  -- its state up to date. An update that answers true has met a change that ended after that look began.
  -- Where one answers false, no change has ended since that look did.
  abbrev pub MeetsChanges : List (Event T) → Event T → Type 0
  MeetsChanges before (Finished p (Container UpdateState) (Truth true)) =
      (seen_by p before).least < changes_of before
  MeetsChanges before (Finished p (Container UpdateState) (Truth false)) =
      changes_of before ≡ (seen_by p before).most
  MeetsChanges before e = Unit {0}
