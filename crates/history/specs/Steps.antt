-- How many operations on words the calls of a pass take, by what its view counts.
use Rattle.std.specs.Prelude.{◌≡◌, ◌≤◌, ℕ, ◌+◌, ◌*◌, Some}
use Rattle.model.specs.declared.party.Progress.{Progress}
use Rattle.model.specs.declared.turn.Kind.{Kind}
use Rattle.model.specs.Coding.{Coding}
use Rattle.model.specs.World.{progress_in}
use Rattle.history.specs.declared.view.View.{View}
use Rattle.history.specs.History.{run_of}

module _ {T : Type 0} where
  -- between the two views the pass has asked for at most `most` operations
  abbrev pub TakesAtMost : ℕ → (old new : View T) → Type 0
  TakesAtMost most old new = new.asked ≤ old.asked + most

  -- a join asks for at most `most` operations beside those that both passes had asked for
  abbrev pub JoinsWithin : ℕ → (mine other new : View T) → Type 0
  JoinsWithin most mine other new = new.asked ≤ mine.asked + other.asked + most

  -- The call asked for at most `alone` operations, and `retry` more for each change of a word that other
  -- parties made while it was under way.
  abbrev pub TakesAlone : (alone retry : ℕ) → (old new : View T) → Type 0
  TakesAlone alone retry old new = new.asked ≤ old.asked + (alone + new.others * retry)

  -- What `TakesAlone` says of the run that the pass knows: its party's latest call there is this one, and the changes
  -- are those that the run counts.
  pub record TakesInRun (code : Coding T) (kind : Kind) (capacity alone retry p : ℕ) (old new : View T) : Type 0 where
    -- how far the party's latest call has come
    pub progress : Progress
    pub latest : progress_in (run_of code kind capacity new.turns).world p ≡ Some progress
    pub counts : new.others ≡ progress.others
    pub steps : new.asked ≤ old.asked + (alone + progress.others * retry)
