-- What a call writes between its begin and its end.
use Rattle.std.specs.Prelude.{◌≡◌, ℕ, IfSome, List, []}
use Rattle.model.specs.declared.event.Event.{Event}
use Rattle.model.specs.declared.event.Event.TheVariants.{Begun, Acted, Finished}
use Rattle.model.specs.Promise.{Promise}
use Rattle.model.specs.Reading.{moments, whose, Span, span_of}
use Rattle.model.specs.Shape.{IsOpenFor, IsShut}

module _ {T : Type 0} where
  -- Where an event may stand in its party's span, which is the party's latest call with what it has
  -- written so far. A call begins only where none is under way, acts at most once, writes what its family
  -- allows, and finishes after what its answer says.
  abbrev pub Stands : Promise T → ℕ → Event T → Span T → Type 0
  Stands promise capacity (Begun p start) span = IsShut span
  Stands promise capacity (Acted p start answer) span =
      IsOpenFor start (λ wrote. moments wrote ≡ []) span
  Stands promise capacity (Finished p start answer) span =
      IsOpenFor start (promise.wrote capacity start answer) span
  Stands promise capacity e span = promise.may_stand e span

  -- the event stands where its party's span may have it
  abbrev pub StandsRight : Promise T → ℕ → List (Event T) → Event T → Type 0
  StandsRight promise capacity before e =
      IfSome (whose e) (λ p. Stands promise capacity e (span_of p before))
