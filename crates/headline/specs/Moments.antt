-- When something holds in a run, and when a call acts.
use Rattle.std.specs.Prelude.{◌≡◌, ◌⊎◌, ℕ, ◌==◌, true, Option, Some, None, List, [], ◌∷◌, ◌++◌, if◌then◌else◌}
use Rattle.std.specs.List.{flat_map}
use Rattle.model.specs.declared.event.Answer.{Answer}
use Rattle.model.specs.declared.event.Event.{Event}
use Rattle.model.specs.declared.event.Event.TheVariants.{Begun, Acted, Finished}
use Rattle.model.specs.declared.event.Start.{Start}
use Rattle.model.specs.Linearizable.{Specification, IsLinearizable}
use Rattle.model.specs.Moments.{BeginsNone}
use Rattle.model.specs.Objects.{IsLegal}
use Rattle.model.specs.Reading.{moments, Span, Never, Open, Ended}

module _ {T : Type 0} where
  -- P holds at each moment of a run, which is each beginning (prefix) of its events.
  abbrev pub Always : (List (Event T) → Type 0) → List (Event T) → Type 0
  Always P events = (past future : List (Event T)) → events ≡ past ++ future → P past

  -- The event comes in the run `events` right after the events `before`.
  abbrev pub Follows : Event T → List (Event T) → List (Event T) → Type 0
  Follows e before events = (after : List (Event T)) × (events ≡ before ++ e ∷ after)

  -- the call that a party has begun last
  abbrev pub call_in : Span T → Option (Start T)
  call_in Never = None
  call_in (Open start wrote) = Some start
  call_in (Ended start answer wrote) = Some start

  -- ---- a call acts at one moment

  -- the act of this party that the event is, if it is one
  abbrev pub act_of : ℕ → Event T → List (Start T × Answer T)
  act_of p (Acted q start answer) = if q == p then (start, answer) ∷ [] else []
  act_of p e = []

  -- The party's latest call in these events is `start`, and since its begin the party has acted exactly once:
  -- as this call, with this answer.
  pub record ActedOnce (p : ℕ) (start : Start T) (answer : Answer T) (events : List (Event T))
      : Type 0 where
    pub before : List (Event T)
    pub since : List (Event T)
    pub is : events ≡ before ++ Begun p start ∷ since
    -- the party has begun no call since
    pub within : BeginsNone p since
    -- it acted once since, as this call with this answer
    pub once : flat_map (act_of p) since ≡ (start, answer) ∷ []

  -- Between the begin of a call and its party's next begin, the party acts at most once, and as this call,
  -- whether the call finishes or not.
  abbrev pub AtMostOnce : List (Event T) → Type 0
  AtMostOnce events =
      (p : ℕ) (start : Start T) (before since after : List (Event T))
      → events ≡ before ++ Begun p start ∷ (since ++ after)
      → BeginsNone p since
      → (flat_map (act_of p) since ≡ [])
      ⊎ ((answer : Answer T) × (flat_map (act_of p) since ≡ (start, answer) ∷ []))

  -- The calls are those of one object: each that has finished acted at one moment inside it, and no call acts more than
  -- once. In the order of these moments the object gives these answers, and the history is linearizable.
  pub record ActAs {State : Type 0} (spec : Specification T State) (events : List (Event T)) : Type 0 where
    -- each finished call acted once, between its begin and its end
    pub inside : (p : ℕ) (start : Start T) (answer : Answer T) (before : List (Event T))
        → spec.is_call start ≡ true
        → Follows (Finished p start answer) before events
        → ActedOnce p start answer before
    -- no call acts more than once
    pub once : AtMostOnce events
    -- in the order of the moments the object gives these answers
    pub answers : IsLegal spec.object (moments events)
    pub linearizable : IsLinearizable spec events
