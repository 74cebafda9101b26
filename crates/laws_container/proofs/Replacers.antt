-- Who began the latest replace of an index for an owner.
use Rattle.laws_container.proofs.Names.{ℕ, ◌==◌, ◌&&◌, if◌then◌else◌, Option, Some, None, List, fold, Event, Begun}
use Rattle.laws_container.proofs.Names.{Container}
use Rattle.model.specs.declared.families.container.ContainerStart.TheVariants.{Replace}

module _ {T : Type 0} where
  -- whose replace of index `i` for owner `o` is the latest, after one event more
  abbrev pub replacer_after : ℕ → ℕ → Option ℕ → Event T → Option ℕ
  replacer_after i o party (Begun p (Container (Replace index value owner))) =
      if (index == i) && (owner == o) then Some p else party
  replacer_after i o party e = party

  -- the party whose replace of index `i` for owner `o` was begun last
  abbrev pub replacer_of : ℕ → ℕ → List (Event T) → Option ℕ
  replacer_of i o events = fold (replacer_after i o) None events
