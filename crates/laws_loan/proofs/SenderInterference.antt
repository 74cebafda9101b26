-- What a receiver's call knows stays known where the sender takes a step.
use Rattle.laws_loan.proofs.Names.{◌≡◌, ◌≢◌, ℕ, true, false, List, OneWord, Event, LoanStart, LoanFlight, one_word}
use Rattle.laws_loan.proofs.Names.{has_died, Passing, spot_of, KnowsOverflowPop, GoesUp, KnowsPush}
use native.Mathlib.Omega.{arith}
use Rattle.steps.specs.declared.queues.overflow.PopStage.{PopStage}
use Rattle.steps.specs.declared.queues.ring.PushStage.{PushStage}
use Rattle.laws_loan.proofs.Channel.{Channel}
use Rattle.laws_loan.proofs.Knows.{Passes, At, FlightKnows}

module _ {T : Type 0} (slots queue : ℕ) (s s' : Channel T) where
  -- a receiver that is still alive is still the receiver, and its calls know of the queues and of its index
  -- what they knew
  pub record Stays (q : ℕ) : Type 0 where
    -- a receiver that is still alive was so before, and is still the receiver
    pub alive : has_died q s'.book.dead ≡ false → has_died q s.book.dead ≡ false
    pub receiver : has_died q s'.book.dead ≡ false → q ≡ s.book.receiver → q ≡ s'.book.receiver
    -- its calls know what they knew
    pub pop : has_died q s'.book.dead ≡ false → q ≡ s.book.receiver → (room : OneWord) (stage : PopStage)
        → KnowsOverflowPop queue s.submission room stage → KnowsOverflowPop queue s'.submission room stage
    pub passes : has_died q s'.book.dead ≡ false → q ≡ s.book.receiver → (index : ℕ) → Passes slots queue s q index → Passes slots queue s' q index
    pub push : (index : ℕ) (stage : PushStage) → KnowsPush one_word slots s.completion index stage → KnowsPush one_word slots s'.completion index stage

  -- this holds where the receiver and the dead are unchanged in the book, and an index in passing in the
  -- receiver's call is still in passing
  stays_beside : (q : ℕ) → s'.book.dead ≡ s.book.dead → s'.book.receiver ≡ s.book.receiver
      → ((room : OneWord) (stage : PopStage) → KnowsOverflowPop queue s.submission room stage → KnowsOverflowPop queue s'.submission room stage)
      → ((i : ℕ) (stage : PushStage) → KnowsPush one_word slots s.completion i stage → KnowsPush one_word slots s'.completion i stage)
      → ((i : ℕ) → spot_of i s.events ≡ Passing q → spot_of i s'.events ≡ Passing q) → Stays q
  stays_beside = grind arith

  -- while a reclaim is under way the receiver is dead, so of its calls only those on the completion queue
  -- have something to know
  dead_stays : has_died s.book.receiver s.book.dead ≡ true → s'.book.dead ≡ s.book.dead
      → ((index : ℕ) (stage : PushStage) → KnowsPush one_word slots s.completion index stage
      → KnowsPush one_word slots s'.completion index stage)
      → (q : ℕ) → Stays q
  dead_stays = grind arith

  -- a call of a party that is not the sender stands where it stood
  pub theirs_stay : (q : ℕ) → q ≢ 0 → Stays q → (wrote : List (Event T)) (start : LoanStart) (flight : LoanFlight)
      → At slots queue s q wrote start flight → At slots queue s' q wrote start flight
  theirs_stay = grind arith

  -- the calls of all parties but `p` stand where they stood
  abbrev pub Others : ℕ → Type 0
  Others p = (q : ℕ) → q ≢ p → (wrote : List (Event T)) (start : LoanStart) (flight : LoanFlight)
      → At slots queue s q wrote start flight → At slots queue s' q wrote start flight

  -- the calls of all parties but the sender stand where they stood, if the receiver and the dead are
  -- unchanged in the book, and what is in passing in those calls still is
  pub others_beside : s'.book.dead ≡ s.book.dead → s'.book.receiver ≡ s.book.receiver
      → ((room : OneWord) (stage : PopStage) → KnowsOverflowPop queue s.submission room stage → KnowsOverflowPop queue s'.submission room stage)
      → ((i : ℕ) (stage : PushStage) → KnowsPush one_word slots s.completion i stage → KnowsPush one_word slots s'.completion i stage)
      → ((q : ℕ) → q ≢ 0 → (i : ℕ) → spot_of i s.events ≡ Passing q → spot_of i s'.events ≡ Passing q) → Others 0
  others_beside dead receiver pops pushes passes q ne = theirs_stay q ne (stays_beside q dead receiver pops pushes (passes q ne))

  -- the calls of all parties but the sender stand where they stood, if the receiver is dead
  pub others_dead : has_died s.book.receiver s.book.dead ≡ true → s'.book.dead ≡ s.book.dead
      → ((index : ℕ) (stage : PushStage) → KnowsPush one_word slots s.completion index stage → KnowsPush one_word slots s'.completion index stage)
      → Others 0
  others_dead died dead pushes q ne = theirs_stay q ne (dead_stays died dead pushes q)

  -- the turns back of a receive are still paid, since each move of a position is a change
  module _ (changes changes' : ℕ) (up : GoesUp s.submission s'.submission changes changes') where
    -- what a call knows it knows after the sender's step
    pub knows_keeps : (since backs : ℕ) (flight : LoanFlight) → FlightKnows slots queue s since changes backs flight
        → FlightKnows slots queue s' since changes' backs flight
    knows_keeps = grind arith
