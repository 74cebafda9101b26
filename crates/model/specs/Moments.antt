-- What held at a moment of a call.
use Rattle.std.specs.Prelude.{◌≡◌, ◌≢◌, ℕ, List, [], ◌∷◌, ◌++◌}
use Rattle.model.specs.declared.event.Event.{Event}
use Rattle.model.specs.declared.event.Event.TheVariants.{Begun}
use Rattle.model.specs.declared.event.Start.{Start}

module _ {T : Type 0} where
  -- the party begins no call in these events
  abbrev pub BeginsNone : ℕ → List (Event T) → Type 0
  BeginsNone p [] = Unit {0}
  BeginsNone p (Begun q start ∷ es) = (q ≢ p) × BeginsNone p es
  BeginsNone p (e ∷ es) = BeginsNone p es

  -- P holds of what stood before the party's latest call began, and of what came since it began
  pub record SinceBegin (p : ℕ) (P : List (Event T) → List (Event T) → Type 0)
      (events : List (Event T)) : Type 0 where
    pub before : List (Event T)
    pub start : Start T
    pub since : List (Event T)
    pub is : events ≡ before ++ Begun p start ∷ since
    -- the party has begun no call since
    pub within : BeginsNone p since
    pub holds : P before since

  -- P held at a moment of the party's latest call: of a
  -- beginning of the events that reaches into it
  pub record HeldSometime (p : ℕ) (P : List (Event T) → Type 0) (events : List (Event T)) : Type 0 where
    pub part : List (Event T)
    pub rest : List (Event T)
    pub is : events ≡ part ++ rest
    -- the party has begun no call after that moment
    pub within : BeginsNone p rest
    pub held : P part
