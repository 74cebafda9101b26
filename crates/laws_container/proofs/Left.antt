-- Whether what stands at an index was left by an earlier owner: it was if the index has been freed since a
-- value was placed there, or if none ever was.
use Rattle.laws_container.proofs.Names.{ℕ, ◌==◌, if◌then◌else◌, Bool, true, false, List, fold, Event, FreedOf, Placed}

module _ {T : Type 0} where
  -- whether something is left at the index after one event more
  abbrev pub left_after : ℕ → Bool → Event T → Bool
  left_after i left (FreedOf p index owner) = if index == i then true else left
  left_after i left (Placed p index value) = if index == i then false else left
  left_after i left e = left

  -- whether something is left at index `i` after these events
  abbrev pub left_of : ℕ → List (Event T) → Bool
  left_of i events = fold (left_after i) true events
