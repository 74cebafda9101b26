-- How the events of a run are read: which calls acted, whose an event is, and what a party's latest
-- call has written (its span).
use Rattle.std.specs.Prelude.{◌≡◌, ℕ, ◌==◌, Bool, false, Option, Some, None, List, [], ◌∷◌, ◌++◌, fold, if◌then◌else◌}
use Rattle.std.specs.List.{flat_map}
use Rattle.model.specs.declared.event.Start.{Start}
use Rattle.model.specs.declared.event.Answer.{Answer}
use Rattle.model.specs.declared.event.Event.{Event}
use Rattle.model.specs.declared.event.Event.TheVariants.{Begun, Published, HandedOut, Set, Cleared, Counted, TakenOut}
use Rattle.model.specs.declared.event.Event.TheVariants.{Claimed, Freed, Locked, Filled, Granted, FreedOf, Asked, Told}
use Rattle.model.specs.declared.event.Event.TheVariants.{Placed, Hidden, Copied, Shown, Returned, TakenBack, Died}
use Rattle.model.specs.declared.event.Event.TheVariants.{Acted, Finished}

module _ {T : Type 0} where
  -- P holds of each event of the run, together with the events before it.
  abbrev pub Each : (List (Event T) → Event T → Type 0) → List (Event T) → Type 0
  Each P events =
      (before after : List (Event T)) (e : Event T) → events ≡ before ++ e ∷ after → P before e

  -- ---- moments: a call and its answer

  -- the call that takes effect with the event, and its answer
  abbrev pub acts : Event T → List (Start T × Answer T)
  acts (Acted p start answer) = (start, answer) ∷ []
  acts e = []

  -- The calls that acted, with their answers, in the order in which they acted. Of a linearizable
  -- structure these are the linearization points.
  abbrev pub moments : List (Event T) → List (Start T × Answer T)
  moments events = flat_map acts events

  -- ---- spans

  -- whose event it is: a party's, or of none where an owner dies
  abbrev pub whose : Event T → Option ℕ
  whose (Begun p start) = Some p
  whose (Published p item) = Some p
  whose (HandedOut p item) = Some p
  whose (Set p bit) = Some p
  whose (Cleared p bit) = Some p
  whose (Counted p place) = Some p
  whose (TakenOut p place number) = Some p
  whose (Claimed p index) = Some p
  whose (Freed p index) = Some p
  whose (Locked p) = Some p
  whose (Filled p index o) = Some p
  whose (Granted p index o) = Some p
  whose (FreedOf p index o) = Some p
  whose (Asked p index o) = Some p
  whose (Told p index o) = Some p
  whose (Placed p index value) = Some p
  whose (Hidden p index) = Some p
  whose (Copied p index value) = Some p
  whose (Shown p index) = Some p
  whose (Returned p index) = Some p
  whose (TakenBack p index) = Some p
  whose (Died o) = None
  whose (Acted p start answer) = Some p
  whose (Finished p start answer) = Some p

-- whether this is the party
abbrev pub is_party : ℕ → Option ℕ → Bool
is_party p None = false
is_party p (Some q) = q == p

-- a party's latest call: none yet, one under way, or one that is done, with what it has written since its Begun
pub data Span (T : Type 0) : Type 0 where
  Never : Span T
  Open : (start : Start T) (wrote : List (Event T)) → Span T
  Ended : (start : Start T) (answer : Answer T) (wrote : List (Event T)) → Span T

module _ {T : Type 0} where
  -- the span with one event more in what its call wrote
  abbrev pub longer : Span T → Event T → Span T
  longer Never e = Never
  longer (Open start wrote) e = Open start (wrote ++ e ∷ [])
  longer (Ended start answer wrote) e = Ended start answer (wrote ++ e ∷ [])

  -- the span once its call has ended with this answer
  abbrev pub ended : Span T → Answer T → Span T
  ended Never answer = Never
  ended (Open start wrote) answer = Ended start answer wrote
  ended (Ended start first wrote) answer = Ended start first wrote

  -- what an event of its party makes of a span
  abbrev pub own_after : Span T → Event T → Span T
  own_after span (Begun p start) = Open start []
  own_after span (Finished p start answer) = ended span answer
  own_after span e = longer span e

  -- the span of a party's latest call after an event
  abbrev pub span_after : ℕ → Span T → Event T → Span T
  span_after p span e = if is_party p (whose e) then own_after span e else span

  -- the span of the party's latest call
  abbrev pub span_of : ℕ → List (Event T) → Span T
  span_of p events = fold (span_after p) Never events
