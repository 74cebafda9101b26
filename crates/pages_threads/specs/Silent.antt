-- A stretch of a page's history in which a party does nothing.
use Rattle.std.specs.Prelude.{◌≢◌, ℕ, List}
use Rattle.std.specs.List.{AllByRecursion}
use Rattle.pages.specs.Machine.{Event, Invoked, Responded}

module _ {Call Answer : Type 0} where
  -- whose invocation or response it is
  abbrev pub party_of : Event Call Answer → ℕ
  party_of (Invoked party call) = party
  party_of (Responded party answer) = party

  -- the party invokes nothing there, and gets no response
  abbrev pub IsSilent : ℕ → List (Event Call Answer) → Type 0
  IsSilent party events = AllByRecursion (λ e. party_of e ≢ party) events
