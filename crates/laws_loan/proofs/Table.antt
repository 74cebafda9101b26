-- Each event of a loan channel that moves an index, one after another: once it is written, each index is
-- still where the claims, the queues and the book have it (`Placed`).
use Rattle.laws_loan.proofs.Names.{length-set, ◌≡◌, ◌≢◌, ℕ, ◌<◌, ◌⊎◌, inr, ⊎_elim, false, Option, Some, None, List}
use Rattle.laws_loan.proofs.Names.{[], ◌∷◌, ◌++◌, get_or, set, refl, ap, subst, ◌∙◌, Place, place_at, Event, Begun}
use Rattle.laws_loan.proofs.Names.{Published, HandedOut, Claimed, Freed, Returned, TakenBack, Finished, Index, Book}
use Rattle.laws_loan.proofs.Names.{LoanStart, taken_from, holder_in, IsIn, Spot, Free, Passing, With, Waiting}
use Rattle.laws_loan.proofs.Names.{Returning, Move, move_of, spot_of, receiver_of, book_after}
use Rattle.std.proofs.Common.{arith, get_or-set_same, get_or-set_other}
use Rattle.steps.specs.declared.loan.places.Place.TheVariants as places
use Rattle.model.specs.declared.event.Answer.TheVariants as answers
use Rattle.model.specs.declared.event.Start.TheVariants.{Loan}
use Rattle.model.specs.declared.families.loan.LoanStart.TheVariants as calls
use Rattle.laws_loan.proofs.Lists.{first_there}
use Rattle.laws_loan.proofs.Placed.{IsBy, Placed, placed_more}
use Rattle.laws_loan.proofs.Spots.{is_waiting, is_returning, waits_there, returns_there}

-- ---- which places the sender's table may have for an index

-- the index is neither free nor with the sender
pub record IsAway (spot : Spot) : Type 0 where
  pub taken : spot ≢ Free
  pub elsewhere : spot ≢ With 0
  pub not_passing : spot ≢ Passing 0

-- an index that is away is sent by the table
pub sent_there : (place : Place) (spot : Spot) → IsIn place spot → IsAway spot → place ≡ places.Sent
sent_there = grind arith

-- an index that the sender has is loaned by the table
loaned_there : (place : Place) → IsIn place (With 0) → place ≡ places.Loaned
loaned_there = grind arith

-- an index that waits in the submission queue is away from the sender
pub waiting_away : IsAway Waiting
waiting_away = grind arith

-- an index that waits in the completion queue is away from the sender
pub returning_away : IsAway Returning
returning_away = grind arith

-- an index with another party is away from the sender
with_away : (p : ℕ) → p ≢ 0 → IsAway (With p)
with_away = grind arith

-- an index in passing in another party's call is away from the sender
passing_away : (p : ℕ) → p ≢ 0 → IsAway (Passing p)
passing_away = grind arith

-- an index that a call of one party has in passing is that party's alone
by_passing : (q p : ℕ) → IsBy p (Passing q) → p ≡ q
by_passing = grind arith

-- an index with a party is of this party
by_with : (q p : ℕ) → IsBy p (With q) → p ≡ q
by_with = grind arith

-- an index that is neither with a party nor in passing in its call is not of the party
by_none : (p : ℕ) (spot : Spot) → spot ≢ With p → spot ≢ Passing p → IsBy p spot → ⊥
by_none p spot first_spot_is_not second_spot_is_not by = ⊎_elim first_spot_is_not second_spot_is_not by

-- each index is in its place before the event, and the event moves one index; so each is in its place after it
module _ {T : Type 0} {slots : ℕ} {claims : List (Option ℕ)} {sent back : List ℕ} {book : Book}
    {events : List (Event T)} (placed : Placed slots claims sent back book events) where
  -- the claim, the place and the holder of an index are those of its spot
  stood : (i : ℕ) (spot : Spot) → spot_of i events ≡ spot → IsIn (place_at book.places i) spot
  stood i spot from = subst (IsIn (place_at book.places i)) from (placed.keeps.places i)

  -- the holder of an index by the book is that of its spot
  held : (i : ℕ) (spot : Spot) → spot_of i events ≡ spot → get_or book.holders i None ≡ holder_in spot
  held i spot from = placed.keeps.holders i ∙ ap holder_in from

  module _ (i : ℕ) (below : i < slots) where
    abbrev move : Spot → Spot → Move
    move from to = record { index = i; from = from; to = to }

    -- ---- the sender's moves of an index

    -- a loan claims the index
    pub claims_it : spot_of i events ≡ Free
        → Placed slots (set claims i (Some 0)) sent back (book_after {T = T} book (Claimed 0 i)) (events ++ Claimed 0 i ∷ [])
    claims_it from =
        placed_more placed (Claimed 0 i) (move Free (Passing 0)) refl
        (grind (arith, get_or-set_same, get_or-set_other, length-set, by_passing, held))

    -- a loan that has claimed the index ends
    pub loan_ends : spot_of i events ≡ Passing 0 → place_at book.places i ≡ places.Loaned
        → Placed slots claims sent back (record book { holders = set book.holders i (Some 0) }) (events ++ Finished 0 (Loan calls.Loan) (answers.Index i) ∷ [])
    loan_ends from loaned =
        placed_more placed (Finished 0 (Loan calls.Loan) (answers.Index i)) (move (Passing 0) (With 0)) refl
        (grind (arith, get_or-set_same, get_or-set_other, length-set, by_with))

    -- a send or a give-up of the index begins
    pub sender_begins : (start : LoanStart)
        → move_of {T = T} (Begun 0 (Loan start)) ≡ Some (move (With 0) (Passing 0)) → spot_of i events ≡ With 0
        → Placed slots claims sent back (taken_from book (Some i)) (events ++ Begun 0 (Loan start) ∷ [])
    sender_begins start move_is from =
        placed_more placed (Begun 0 (Loan start)) (move (With 0) (Passing 0)) move_is
        (grind (arith, get_or-set_same, get_or-set_other, length-set, by_passing, loaned_there, stood))

    -- a send publishes the index
    pub publishes_it : spot_of i events ≡ Passing 0
        → Placed slots claims (sent ++ i ∷ []) back (book_after {T = T} book (Published 0 (Index i))) (events ++ Published 0 (Index i) ∷ [])
    publishes_it from =
        placed_more placed (Published 0 (Index i)) (move (Passing 0) Waiting) refl
        (grind (arith, get_or-set_same, get_or-set_other, length-set, by_none, held))

    -- a call frees the index, which waits in neither queue
    pub frees_it : (spot : Spot) → spot_of i events ≡ spot → is_waiting spot ≡ false → is_returning spot ≡ false
        → Placed slots (set claims i None) sent back (book_after {T = T} book (Freed 0 i)) (events ++ Freed 0 i ∷ [])
    frees_it spot from neither nor =
        placed_more placed (Freed 0 i) (move (Passing 0) Free) refl
        (grind (arith, get_or-set_same, get_or-set_other, length-set, by_none))

    -- ---- the moves of an index out of a queue

    -- the oldest index of the submission queue is handed out
    pub hands_it_out : (p : ℕ) (rest : List ℕ) → sent ≡ i ∷ rest → (p ≡ 0) ⊎ (p ≡ receiver_of events)
        → Placed slots claims rest back (book_after {T = T} book (HandedOut p (Index i))) (events ++ HandedOut p (Index i) ∷ [])
    hands_it_out p rest front whose =
        let from : spot_of i events ≡ Waiting = waits_there (spot_of i events) (first_there is_waiting sent rest events i front placed.waits) in
        placed_more placed (HandedOut p (Index i)) (move Waiting (Passing p)) refl
        (grind (arith, by_passing, sent_there, stood, waiting_away, held))

    -- the first index of the completion queue is taken back
    pub takes_it_back : (rest : List ℕ) → back ≡ i ∷ rest
        → Placed slots claims sent rest (book_after {T = T} book (TakenBack 0 i)) (events ++ TakenBack 0 i ∷ [])
    takes_it_back rest front =
        let from : spot_of i events ≡ Returning = returns_there (spot_of i events) (first_there is_returning back rest events i front placed.returns) in
        placed_more placed (TakenBack 0 i) (move Returning (Passing 0)) refl
        (grind (arith, by_passing, sent_there, stood, returning_away, held))

    -- ---- the receiver's moves of an index

    module _ (p : ℕ) (other : p ≢ 0) (receives : p ≡ receiver_of events) where
      -- the party is the sender or the receiver
      theirs : (q : ℕ) → q ≡ p → (q ≡ 0) ⊎ (q ≡ receiver_of events)
      theirs q same_party = inr (same_party ∙ receives)

      -- a receive ends with the index
      pub receive_ends : spot_of i events ≡ Passing p
          → Placed slots claims sent back (record book { holders = set book.holders i (Some p) })
          (events ++ Finished p (Loan calls.Receive) (answers.PoppedIndex i) ∷ [])
      receive_ends from =
          placed_more placed (Finished p (Loan calls.Receive) (answers.PoppedIndex i)) (move (Passing p) (With p)) refl
          (grind (arith, get_or-set_same, get_or-set_other, length-set, by_with, theirs, sent_there, stood, passing_away))

      -- a give-back of the index begins
      pub receiver_begins : spot_of i events ≡ With p
          → Placed slots claims sent back (taken_from book (Some i)) (events ++ Begun p (Loan (calls.GiveBack i)) ∷ [])
      receiver_begins from =
          placed_more placed (Begun p (Loan (calls.GiveBack i))) (move (With p) (Passing p)) refl
          (grind (arith, get_or-set_same, get_or-set_other, length-set, by_passing, theirs, sent_there, stood, with_away))

      -- a give-back puts the index into the completion queue
      pub returns_it : spot_of i events ≡ Passing p
          → Placed slots claims sent (back ++ i ∷ []) (book_after {T = T} book (Returned p i)) (events ++ Returned p i ∷ [])
      returns_it from =
          placed_more placed (Returned p i) (move (Passing p) Returning) refl
          (grind (arith, by_none, sent_there, stood, passing_away, held))
