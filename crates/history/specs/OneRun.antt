-- What the passes of one table know of its run.
use Rattle.std.specs.Prelude.{◌≡◌, ◌⊎◌, ℕ}
use mathlib.Core.Option.{some}
use lib.ListN.{get_elem?}
use Rattle.atomic_table.specs.Table.{State}
use Rattle.history.specs.declared.view.View.{View}
use Rattle.history.specs.History.{AreFirst}

module _ {T : Type 0} where
  -- the turns that one of the two passes knows are the first of those that the other knows
  abbrev pub KnowOneRun : View T → View T → Type 0
  KnowOneRun v w = AreFirst v.turns w.turns ⊎ AreFirst w.turns v.turns

  -- any two seats of the table know one run: the turns that the one knows are first turns
  -- of those of the other
  abbrev pub SeatsKnowOneRun : State (Unit {0}) (View T) → Type 0
  SeatsKnowOneRun s =
      (i j : ℕ) (v w : View T) → get_elem? s.views i ≡ some v → get_elem? s.views j ≡ some w
      → KnowOneRun v w
