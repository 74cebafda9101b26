-- What each call of a sender keeps, and what each of its answers means.
use Rattle.std.specs.Prelude.{◌≡◌, ℕ, ◌<◌, map, slice_set, count_by}
use Rattle.model.specs.declared.event.Item.TheVariants.{Index}
use Rattle.history.specs.Passes.{Goes}
use Rattle.lock_free_queues.specs.Queues.Contracts.{PopDone, PopEmpty}
use Rattle.lock_free_queues.specs.Queues.Overflowing.{PushAdded, PushHandedBack}
use Rattle.lock_free_sets.specs.Unique.Contracts.{HasAcquired}
use Rattle.lock_free_loans.specs.declared.spsc.loan.LoanSender.{LoanSender}
use Rattle.lock_free_loans.specs.declared.spsc.loan.places.Place.TheVariants.{Free, Loaned, Sent}
use Rattle.lock_free_loans.specs.Loan.Places.{is_sent, place_at, returned, reclaimed}
use Rattle.lock_free_loans.specs.Loan.Sender.{places_of, pass_view, share_of, submission_view, completion_view}
use Rattle.lock_free_loans.specs.Loan.Sender.{submission_of, KeepsQueues, IsAsideOnce, IsSame, IsLoaned}
use Rattle.lock_free_loans.specs.Loan.Contracts.{InTurn, HasFreed, HasEmptied, all_sent, sent_back}

-- ---- what a call keeps

-- What a loan keeps, and also a give-up of a loaned index. Both are calls on the set, and the queues
-- stay as they were.
pub record LoanKeeps (old new : LoanSender) : Type 0 where
  -- its pass on the set goes on
  pub goes : Goes (pass_view old) (pass_view new)
  -- what it knows of its queues stays
  pub queues : KeepsQueues old new
  -- its set and its queues are the same
  pub same : IsSame old new
  -- at most one operation at each was no step of a call
  pub aside : IsAsideOnce old new
  pub share : share_of new ≡ share_of old

-- what `settle` keeps, by which a value that came back may free an index; it need not be a call on the set
pub record SettleKeeps (old new : LoanSender) : Type 0 where
  -- what it knows of its queues stays
  pub queues : KeepsQueues old new
  -- its set and its queues are the same
  pub same : IsSame old new
  -- at most one operation at each was no step of a call
  pub aside : IsAsideOnce old new
  pub share : share_of new ≡ share_of old

-- What a send keeps: it is a call on the submission queue,
-- if that has a capacity at all, and none on the completion queue.
pub record SendKeeps (old new : LoanSender) : Type 0 where
  -- its view of the submission queue goes on
  pub goes : 0 < (submission_of old).capacity → Goes (submission_view old) (submission_view new)
  -- what it knows of the completion queue stays
  pub completion : completion_view new ≡ completion_view old
  -- its set and its queues are the same
  pub same : IsSame old new
  -- at most one operation at each was no step of a call
  pub aside : IsAsideOnce old new
  pub share : share_of new ≡ share_of old

-- what a take-back keeps: it is a call on the completion queue, and leaves the submission queue as it was
pub record TakeBackKeeps (old new : LoanSender) : Type 0 where
  -- its view of the completion queue goes on
  pub goes : Goes (completion_view old) (completion_view new)
  -- what it knows of the submission queue stays
  pub submission : submission_view new ≡ submission_view old
  -- its set and its queues are the same
  pub same : IsSame old new
  -- at most one operation at each was no step of a call
  pub aside : IsAsideOnce old new
  pub share : share_of new ≡ share_of old

-- What a reclaim keeps: its pass on the completion queue goes on,
-- and it is no call of the sender on the submission queue.
pub record ReclaimKeeps (old new : LoanSender) : Type 0 where
  -- its view of the completion queue goes on
  pub goes : Goes (completion_view old) (completion_view new)
  -- what it knows of the submission queue stays
  pub submission : submission_view new ≡ submission_view old
  -- its set and its queues are the same
  pub same : IsSame old new
  pub share : share_of new ≡ share_of old

-- ---- loan

-- a loan that answered this index, which was free
pub record LoanDone (index : ℕ) (old new : LoanSender) : Type 0 where
  pub loaned : (place_at (places_of old) index ≡ Free) × (places_of new ≡ slice_set (places_of old) index Loaned)
  pub is : IsLoaned index new
  pub acquired : HasAcquired index (pass_view old) (pass_view new)

-- ---- send

-- the index was sent, and nothing was handed back
pub record SendDone (index : ℕ) (old new : LoanSender) : Type 0 where
  pub sent : places_of new ≡ slice_set (places_of old) index Sent
  pub kept : pass_view new ≡ pass_view old
  pub added : PushAdded index (submission_view old) (submission_view new)

-- The push of a send handed a value back. If this value is an index that was sent, the index is free.
pub record SendHandedBack (index value : ℕ) (old new : LoanSender) : Type 0 where
  pub back : places_of new ≡ returned value (slice_set (places_of old) index Sent)
  pub freed : InTurn HasFreed (sent_back value (slice_set (places_of old) index Sent)) (pass_view old) (pass_view new)
  pub handed_back : PushHandedBack (submission_of old).capacity index value (submission_view old) (submission_view new)

-- ---- take back

-- A take-back took the oldest value that was given back. If this value is an index that was sent, the
-- index is free.
pub record TakeBackDone (value : ℕ) (old new : LoanSender) : Type 0 where
  pub back : places_of new ≡ returned value (places_of old)
  pub popped : PopDone (Index value) (completion_view old) (completion_view new)
  pub freed : InTurn HasFreed (sent_back value (places_of old)) (pass_view old) (pass_view new)

-- a take-back found nothing that was given back
pub record TakeBackNone (old new : LoanSender) : Type 0 where
  pub none : places_of new ≡ places_of old
  pub kept : pass_view new ≡ pass_view old
  pub empty : PopEmpty (completion_view old) (completion_view new)

-- ---- reclaim

-- a reclaim: the `count` indices that were sent are free, and what was given back is out of the
-- completion queue
pub record ReclaimDone (count : ℕ) (old new : LoanSender) : Type 0 where
  -- no index is sent any more
  pub places : places_of new ≡ map reclaimed (places_of old)
  -- the answer is how many were
  pub number : count ≡ count_by is_sent (places_of old)
  -- each of them was freed in turn
  pub freed : InTurn HasFreed (all_sent (places_of old)) (pass_view old) (pass_view new)
  -- the completion queue was emptied
  pub emptied : HasEmptied (completion_view old) (completion_view new)
