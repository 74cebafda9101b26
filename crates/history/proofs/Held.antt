-- A pass that holds an index, by what it made, has a party that holds the index, by the events (`held_by`).
use Rattle.history.proofs.Names.{◌≡◌, ◌≤◌, ℕ, ◌+◌, Some, List}
use Rattle.history.proofs.Names.{arith, sum_by, Event, HoldsRight, Each}
use Rattle.model.specs.Families.Indices.Reading.{holder_after, holder_of}
use Rattle.history.specs.declared.view.View.{View}
use Rattle.history.specs.Held.{claims, frees, Holds}
use Rattle.history.specs.History.{IsOfParties}
use Rattle.history.specs.Known.{owned}
use Rattle.history.proofs.Ledger.{Moves, held_by_one, at_most}

-- j is the seat, c the capacity, i the index
module _ {T : Type 0} (owner : ℕ → ℕ) (j c i : ℕ) where
  -- the event moves the index as it is counted: claimed where nobody holds it, freed by its holder
  abbrev MovesIt : List (Event T) → Event T → Type 0
  MovesIt = Moves (claims i) (frees i) (holder_after i) owner j

  -- an event that claims and frees rightly moves the index as it is counted
  moves : (before : List (Event T)) (e : Event T) → HoldsRight c before e → MovesIt before e
  moves = grind arith

  -- each event of a history that claims and frees rightly moves the index as it is counted
  all_move : (all : List (Event T)) → Each (HoldsRight c) all → Each MovesIt all
  all_move all each before after e is = moves before e (each before after e is)

  -- a pass that claimed the index once more than it freed it has the party that holds it
  pub held_by : (all made : List (Event T)) → Each (HoldsRight c) all
      → ((f : Event T → ℕ) → sum_by f made ≡ sum_by (owned owner j f) all) → Holds i made
      → (p : ℕ) × (owner p ≡ j) × (holder_of i all ≡ Some p)
  held_by all made each sums holds = held_by_one (claims i) (frees i) (holder_after i) owner j made (all_move all each) sums holds

-- a pass has freed the index as often as it claimed it, or holds it once
pub holds_once : {T : Type 0} (c i : ℕ) (v : View T) → Each (HoldsRight c) v.seen → IsOfParties v
    → (sum_by (frees i) v.made ≤ sum_by (claims i) v.made) × (sum_by (claims i) v.made ≤ sum_by (frees i) v.made + 1)
holds_once c i v each of_parties =
    at_most (claims i) (frees i) (holder_after i) of_parties.owner of_parties.seat v.seen v.made
    (all_move of_parties.owner of_parties.seat c i v.seen each) of_parties.sums
