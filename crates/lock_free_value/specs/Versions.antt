-- Versions of a value, by a history: how many stores came before.
use Rattle.std.specs.Prelude.{◌≡◌, ◌+◌, ℕ, List, ◌∷◌, ◌++◌, true, length}
use Rattle.laws_value.specs.Stored.{stored}
use Rattle.model.specs.declared.event.Answer.TheVariants.{Truth, Loaded}
use Rattle.model.specs.declared.event.Event.{Event}
use Rattle.model.specs.declared.event.Event.TheVariants.{Acted}
use Rattle.model.specs.declared.event.Start.TheVariants.{Atomic}
use Rattle.model.specs.declared.families.atomic.AtomicStart.TheVariants.{Store, Load}
use Rattle.model.specs.Coding.{Coding}
use Rattle.model.specs.Families.Atomic.Promises.{AnswersRight}
use Rattle.model.specs.Families.Atomic.Roles.{GrantsRight}
use Rattle.model.specs.Reading.{Each}
use Rattle.history_value.specs.Value.{ByProducer}

module _ {T : Type 0} where
  -- the party stored this value at this version: the first store makes version 2
  pub record IsStored (p version : ℕ) (x : T) (events : List (Event T)) : Type 0 where
    pub before : List (Event T)
    pub after : List (Event T)
    pub is : events ≡ before ++ Acted p (Atomic (Store x)) (Truth true) ∷ after
    -- its version is two more than the stores before
    pub rank : version ≡ length (stored before) + 2

  -- the party loaded this value at this version
  pub record IsLoaded (p version : ℕ) (x : T) (events : List (Event T)) : Type 0 where
    pub before : List (Event T)
    pub after : List (Event T)
    pub is : events ≡ before ++ Acted p (Atomic Load) (Loaded x) ∷ after
    -- its version is one more than the stores before
    pub rank : version ≡ length (stored before) + 1

  -- A history of a value is sound. A load answers the value that stands, an acquire whether nobody held
  -- the role, a look whether somebody holds it, or the version; and only the role's holder stores.
  pub record IsSound (code : Coding T) (events : List (Event T)) : Type 0 where
    pub answers : Each (AnswersRight code) events
    pub roles : Each GrantsRight events
    pub producers : Each ByProducer events
