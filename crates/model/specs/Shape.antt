-- The shape of a span: open for a call, or shut.
use Rattle.std.specs.Prelude.{◌≡◌, List}
use Rattle.model.specs.declared.event.Start.{Start}
use Rattle.model.specs.declared.event.Event.{Event}
use Rattle.model.specs.Reading.{Span, Never, Open, Ended}

module _ {T : Type 0} where
  -- The party has a call under way of which `Such` holds, and P holds of what that call has written.
  abbrev pub IsOpen : (Start T → Type 0) → (List (Event T) → Type 0) → Span T → Type 0
  IsOpen Such P Never = ⊥
  IsOpen Such P (Open call wrote) = Such call × P wrote
  IsOpen Such P (Ended call answer wrote) = ⊥

  -- The party's call under way is `start`, and P holds of what that call has written.
  abbrev pub IsOpenFor : Start T → (List (Event T) → Type 0) → Span T → Type 0
  IsOpenFor start P span = IsOpen (λ call. call ≡ start) P span

  -- no call is under way
  abbrev pub IsShut : Span T → Type 0
  IsShut Never = Unit {0}
  IsShut (Open start wrote) = ⊥
  IsShut (Ended start answer wrote) = Unit {0}
