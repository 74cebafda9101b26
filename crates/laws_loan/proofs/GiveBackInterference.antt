-- What the calls of the other parties know stays known where the receiver takes a step of a give-back,
-- which changes the completion queue alone.
use Rattle.laws_loan.proofs.Names.{◌≡◌, ◌≢◌, ℕ, false, List, Event, LoanStart, LoanFlight}
use Rattle.laws_loan.proofs.Names.{one_word, has_died, Passing, spot_of, Core, KnowsPop}
use native.Mathlib.Omega.{arith}
use Rattle.steps.specs.declared.queues.ring.PopStage.{PopStage}
use Rattle.laws_loan.proofs.Channel.{Channel}
use Rattle.laws_loan.proofs.Knows.{At}

-- a step of the receiver `p` leaves the completion queue `completion'` and the events `events'`
module _ {T : Type 0} (slots queue : ℕ) (s : Channel T) (completion' : Core ℕ) (events' : List (Event T)) (p : ℕ) where
  -- the channel after a step of the give-back
  abbrev pub given_then : Channel T
  given_then = record s { completion = completion'; events = events' }

  -- the receiver is alive, so no reclaim is under way; a pop of the sender knows what it knew; and an index
  -- in another party's call is still in passing
  pub record Gives : Type 0 where
    pub receiver : p ≡ s.book.receiver
    pub alive : has_died p s.book.dead ≡ false
    pub pop : (room : List ℕ) (stage : PopStage) → KnowsPop one_word slots s.completion room stage → KnowsPop one_word slots completion' room stage
    pub passes : (q index : ℕ) → q ≢ p → spot_of index s.events ≡ Passing q → spot_of index events' ≡ Passing q

  module _ (gives : Gives) (q : ℕ) (ne : q ≢ p) where
    -- a call of another party stands where it stood
    pub at_given : (wrote : List (Event T)) (start : LoanStart) (flight : LoanFlight)
        → At slots queue s q wrote start flight → At slots queue given_then q wrote start flight
    at_given = grind arith
