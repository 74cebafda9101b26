-- What is known between two turns of a find on a robust unique index set, whatever the view with which it began.
use Rattle.std.specs.Prelude.{◌≡◌, ◌⊎◌, ℕ, ◌+◌, ◌<◌, ◌≤◌, Some, List, length, All}
use Rattle.steps.specs.Indices.Robust.Find.{find_left}
use Rattle.steps.specs.declared.ask.After.{After}
use Rattle.steps.specs.declared.ask.After.TheVariants.{GoOn, Done}
use Rattle.steps.specs.declared.enums.CallbackProgression.{CallbackProgression}
use Rattle.steps.specs.declared.indices.robust.find.Find.{Find}
use Rattle.steps.specs.declared.indices.robust.find.FindStage.{FindStage}
use Rattle.steps.specs.declared.indices.robust.find.FindStage.TheVariants as finds
use Rattle.model.specs.declared.event.Event.{Event}
use Rattle.model.specs.declared.turn.Kind.TheVariants as kinds
use Rattle.model.specs.Coding.{one_word}
use Rattle.model.specs.Families.Indices.Robust.Reading.{filled_of}
use Rattle.threaded.specs.Callable.{Ascends}
use Rattle.history.specs.declared.view.View.{View}
use Rattle.history_owners.specs.Finds.{WereOwned}
use Rattle.history.specs.Steps.{TakesAtMost}
use Rattle.history.specs.Views.{Looks}
use Rattle.lock_free_owners.specs.Robust.Callable.{WentOn, HasFound}

-- what a turn of a find asks: that it stands at an index below the capacity, and at a question also
-- that the closure may be called with that index
abbrev pub FindAsks : {F : Type 0} → (F → ℕ → Type 0) → ℕ → FindStage → F → Type 0
FindAsks pre capacity (finds.LoadsCell index found) f = index < capacity
FindAsks pre capacity (finds.Asks index found) f = (index < capacity) × pre f index

-- the find is of a set of this capacity, and may take its next turn
pub record MayTurn {F : Type 0} (pre : F → ℕ → Type 0) (capacity : ℕ) (call : Find) (f : F) : Type 0 where
  pub standing : call.capacity ≡ capacity
  pub asks : FindAsks pre capacity call.stage f

-- the find has ended, or has fewer than `left` steps left
abbrev pub GoesDown : (capacity left : ℕ) → After Find ℕ → Type 0
GoesDown capacity left (GoOn next) = find_left capacity next.stage < left
GoesDown capacity left (Done found) = Unit {0}

-- how many cells a find has loaded at this stage
abbrev pub cells_loaded : FindStage → ℕ
cells_loaded (finds.LoadsCell index found) = index
cells_loaded (finds.Asks index found) = index + 1

module _ {F : Type 0} (step : F → ℕ → CallbackProgression → F → Type 0) (capacity owner : ℕ) (base : View ℕ) (f : F) where
  -- At indices below `low` the find has called the closure `n` times, from f on, and it became p. Of
  -- the indices below `low` it was called with each that had the owner at each moment so far, and with
  -- none that never had him.
  pub record Came (low n : ℕ) (es : List (Event ℕ)) (p : F) : Type 0 where
    pub indices : List ℕ
    pub calls : WentOn step f indices p
    pub ascend : Ascends capacity indices
    pub below : All (λ x. x < low) indices
    pub count : length indices ≡ n
    pub few : n ≤ low
    pub owned : WereOwned owner low indices base.seen es

  -- the pass has looked at the set since `base`
  abbrev pub Looked : View ℕ → Type 0
  Looked v = Looks one_word kinds.Robust capacity base v

  -- What is known at each stage of a find. Before its first load the view is still `base`; at a
  -- question the index has the owner in what was seen.
  abbrev pub SoFar : FindStage → View ℕ → F → Type 0
  SoFar (finds.LoadsCell index found) v p = (index < capacity) × ((v ≡ base) ⊎ Looked v) × Came index found v.seen p
  SoFar (finds.Asks index found) v p =
      (index < capacity) × Looked v × (filled_of index v.seen ≡ Some owner) × ((n : ℕ) × (n + 1 ≡ found) × Came index n v.seen p)

  -- a find that began in the view `base` with the closure f stands at this stage in the view `v`, with
  -- the closure p
  pub record Searching (v : View ℕ) (c : Find) (p : F) : Type 0 where
    pub known : v.capacity ≡ capacity
    pub some : 0 < v.share.part
    pub standing : c.capacity ≡ capacity
    pub steps : TakesAtMost (cells_loaded c.stage) base v
    pub so_far : SoFar c.stage v p

  -- the find has ended with the answer `n`: the pass has only looked, `HasFound` holds, and it took at most
  -- as many steps as the capacity
  pub record HasEnded (n : ℕ) (w : View ℕ) (q : F) : Type 0 where
    pub looked : Looked w
    pub found : HasFound step capacity owner f n q base.seen w.seen
    pub steps : TakesAtMost capacity base w

  -- the find stands at the next stage, or has ended
  abbrev pub Onward : After Find ℕ → View ℕ → F → Type 0
  Onward (GoOn d) w q = Searching w d q
  Onward (Done n) w q = HasEnded n w q

-- wherever a find stood at this call, in `v` with the closure p, it has gone on or ended in `w` with
-- the closure q
module _ {F : Type 0} (step : F → ℕ → CallbackProgression → F → Type 0) (capacity owner : ℕ) where
  abbrev pub KeepsSearching : View ℕ → Find → F → After Find ℕ → View ℕ → F → Type 0
  KeepsSearching v call p after w q =
      (base : View ℕ) (f : F) → Searching step capacity owner base f v call p → Onward step capacity owner base f after w q
