-- What the clauses of a sender's calls speak of: its table, its pass, and its guards of both queues.
use Rattle.std.specs.Prelude.{◌≡◌, ◌≤◌, ℕ, ◌+◌, List}
use Rattle.lock_free_sets.specs.UniqueIndexSet.{SetId, view, set_of, IsPassOf}
use Rattle.history.specs.declared.view.View.{View}
use Rattle.threaded.specs.declared.share.Share.{Share}
use Rattle.lock_free_queues.specs.Queues.Rings.{QueueId, producer_view, producer_queue, consumer_view, consumer_queue}
use Rattle.lock_free_sets.specs.declared.mpmc.unique_index_set.UniqueIndexSet.{UniqueIndexSet}
use Rattle.lock_free_loans.specs.declared.spsc.loan.places.Place.{Place}
use Rattle.lock_free_loans.specs.declared.spsc.loan.places.Place.TheVariants.{Loaned}
use Rattle.lock_free_loans.specs.declared.spsc.loan.LoanSender.{LoanSender}
use Rattle.lock_free_loans.specs.Loan.Places.{place_at}

-- the table that the sender keeps: where each index is
abbrev pub places_of : LoanSender → List Place
places_of s = s.places.items

-- the sender has loaned the index and not sent it
abbrev pub IsLoaned : ℕ → LoanSender → Type 0
IsLoaned i s = place_at (places_of s) i ≡ Loaned

-- what the sender's pass knows of the set
abbrev pub pass_view : LoanSender → View ℕ
pass_view s = view s.pass

-- the sender's share of its set
abbrev pub share_of : LoanSender → Share
share_of s = (pass_view s).share

-- the set that the sender loans from
abbrev pub set_of_sender : LoanSender → SetId
set_of_sender s = set_of s.pass

-- the sender loans from this set
abbrev pub IsSenderOf : UniqueIndexSet → LoanSender → Type 0
IsSenderOf set s = IsPassOf set s.pass

-- what the sender knows of the submission queue
abbrev pub submission_view : LoanSender → View ℕ
submission_view s = producer_view s.submission

-- what the sender knows of the completion queue
abbrev pub completion_view : LoanSender → View ℕ
completion_view s = consumer_view s.completion

-- the queue that it sends through
abbrev pub submission_of : LoanSender → QueueId
submission_of s = producer_queue s.submission

-- the queue from which it takes back
abbrev pub completion_of : LoanSender → QueueId
completion_of s = consumer_queue s.completion

-- what the sender knows of its queues stays
abbrev pub KeepsQueues : LoanSender → LoanSender → Type 0
KeepsQueues s t =
    (submission_view t ≡ submission_view s) × (completion_view t ≡ completion_view s)

-- at the sender's set and at each of its queues at most one operation was no step of a call
pub record IsAsideOnce (s t : LoanSender) : Type 0 where
  pub pass : (pass_view t).aside ≤ (pass_view s).aside + 1
  pub submission : (submission_view t).aside ≤ (submission_view s).aside + 1
  pub completion : (completion_view t).aside ≤ (completion_view s).aside + 1

-- the sender loans from the same set, sends through the same queue, and takes back from the same one
abbrev pub IsSame : LoanSender → LoanSender → Type 0
IsSame s t =
    (set_of_sender t ≡ set_of_sender s) × (submission_of t ≡ submission_of s)
    × (completion_of t ≡ completion_of s)
