-- What a party's call knows stays known after a turn that changes no word and is no turn of that party.
use Rattle.laws_loan.proofs.Names.{◌≡◌, ℕ, true, false, List, Event, Book, LoanStart, LoanFlight, has_died, Passing}
use Rattle.laws_loan.proofs.Names.{spot_of}
use native.Mathlib.Omega.{arith}
use Rattle.laws_loan.proofs.Channel.{Channel}
use Rattle.laws_loan.proofs.Knows.{At}

-- a turn changes of the channel `s` only the book and the events, to `book'` and `events'`
module _ {T : Type 0} (slots queue : ℕ) (s : Channel T) (book' : Book) (events' : List (Event T)) where
  abbrev after : Channel T
  after = record s { book = book'; events = events' }

  module _ (p : ℕ) where
    -- an index in passing in the party's call is still in passing, no other index is, and
    -- nobody comes to life
    pub record Spares : Type 0 where
      -- the same indices are in passing in the party's call
      pub passes : (index : ℕ) → spot_of index s.events ≡ Passing p → spot_of index events' ≡ Passing p
      pub no_more : (index : ℕ) → spot_of index events' ≡ Passing p → spot_of index s.events ≡ Passing p
      -- the table of places and the receiver stay
      pub places : book'.places ≡ s.book.places
      pub receiver : book'.receiver ≡ s.book.receiver
      -- who is dead stays dead
      pub alive : has_died p book'.dead ≡ false → has_died p s.book.dead ≡ false
      pub dead : has_died s.book.receiver s.book.dead ≡ true → has_died s.book.receiver book'.dead ≡ true

    module _ (spares : Spares) where
      -- the call stands where it stood
      pub at_stays : (wrote : List (Event T)) (start : LoanStart) (flight : LoanFlight)
          → At slots queue s p wrote start flight → At slots queue after p wrote start flight
      at_stays = grind arith
