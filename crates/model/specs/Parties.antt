-- The latest call of each party, by number.
use Rattle.std.specs.Prelude.{ℕ, ◌-◌, Bool, true, false, Option, Some, None, List}
use Rattle.std.specs.BTreeMap.{insert_entry, is_at}
use Rattle.std.specs.Map.{lookup}
use Rattle.std.specs.Ordering.{nat_cmp}
use Rattle.model.specs.declared.families.Flight.{Flight}
use Rattle.model.specs.declared.party.Doing.{Doing}
use Rattle.model.specs.declared.party.Doing.TheVariants.{Going, Over}
use Rattle.model.specs.declared.party.Party.{Party}
use Rattle.model.specs.declared.party.Progress.{Progress}

module _ {T : Type 0} where
  -- the latest call of the party of this number
  abbrev pub party_of : ℕ → List (ℕ × Party T) → Option (Party T)
  party_of p latest = lookup (is_at (nat_cmp p)) latest

  -- a party's latest call in the place of its earlier one
  abbrev pub put : ℕ → Party T → List (ℕ × Party T) → List (ℕ × Party T)
  put p x latest = insert_entry nat_cmp latest p x

  -- where a party's latest call stands
  abbrev pub doing_of : Option (Party T) → Option (Doing T)
  doing_of None = None
  doing_of (Some x) = Some x.doing

  -- the party's call under way, if it has one
  abbrev pub flight_of : Option (Doing T) → Option (Flight T)
  flight_of None = None
  flight_of (Some (Going flight since)) = Some flight
  flight_of (Some (Over others)) = None

  -- the changes of words by others while the call was under way
  abbrev pub others_of : ℕ → Doing T → ℕ
  others_of changes (Going flight since) = changes - since
  others_of changes (Over others) = others

  -- whether the latest call has ended
  abbrev pub is_over : Doing T → Bool
  is_over (Going flight since) = false
  is_over (Over others) = true

  -- How far the latest call has come: its steps, its turns back, how many changes of words (of `changes`
  -- in all) other parties made during it, and whether it has ended.
  abbrev pub progress_after : ℕ → Option (Party T) → Option Progress
  progress_after changes None = None
  progress_after changes (Some x) =
      Some record {
        steps = x.steps;
        backs = x.backs;
        others = others_of changes x.doing;
        finished = is_over x.doing;
      }
