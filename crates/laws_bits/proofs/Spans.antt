-- A call of a bit set as one of any family, and what a party's latest call has written.
use Rattle.laws_bits.proofs.Names.{List, [], After, Answer, Event, Flight, BitsFlight, Span, Never, Open, Ended}
use Rattle.laws_bits.proofs.Names.{as_call}
use Rattle.model.specs.declared.families.Flight.TheVariants as flights

module _ {T : Type 0} where
  -- what becomes of a call of a bit set, as what becomes of any call
  abbrev pub any_call : After BitsFlight (Answer T) → After (Flight T) (Answer T)
  any_call after = as_call flights.Bits (λ answer. answer) after

  -- what the call of this span has written, whether it is open or has ended
  abbrev pub wrote_in : Span T → List (Event T)
  wrote_in Never = []
  wrote_in (Open start wrote) = wrote
  wrote_in (Ended start answer wrote) = wrote
