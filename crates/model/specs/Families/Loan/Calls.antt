-- The calls of a loan channel: how each begins, and how one under way goes on.
use Rattle.std.specs.Prelude.{ℕ, Bool, false, Option, List, [], ◌∷◌}
use Rattle.steps.specs.declared.ask.Want.{Want}
use Rattle.steps.specs.declared.ask.After.{After}
use Rattle.steps.specs.declared.loan.places.Place.{Place}
use Rattle.steps.specs.declared.loan.reclaim.Reclaim as reclaims
use Rattle.steps.specs.Indices.Unique.{first_acquire, acquire_want, acquire_after, acquire_goes_back, first_release, release_want, release_after}
use Rattle.steps.specs.Loan.Layout.{submission_word, completion_word}
use Rattle.steps.specs.Loan.Parts.{shifted, part_after}
use Rattle.steps.specs.Loan.Reclaim.{first_reclaim, reclaim_want, reclaim_after, reclaim_goes_back}
use Rattle.steps.specs.Loan.Send.{first_send, send_want, send_after}
use Rattle.steps.specs.Loan.TakeBack.{first_take_back, take_back_want, take_back_after}
use Rattle.steps.specs.Queues.Overflow as overflow
use Rattle.steps.specs.Queues.Ring.{first_push, push_want, push_after}
use Rattle.steps.specs.Routine.{went_on}
use Rattle.model.specs.declared.event.Answer.{Answer}
use Rattle.model.specs.declared.event.Answer.TheVariants as answers
use Rattle.model.specs.declared.families.Flight.{Flight}
use Rattle.model.specs.declared.families.Flight.TheVariants as flights
use Rattle.model.specs.declared.families.Registry.{Registry}
use Rattle.model.specs.declared.families.Registry.TheVariants as registries
use Rattle.model.specs.declared.families.loan.Book.{Book}
use Rattle.model.specs.declared.families.loan.LoanStart.{LoanStart}
use Rattle.model.specs.declared.families.loan.LoanStart.TheVariants as starts
use Rattle.model.specs.declared.families.loan.calls.LoanFlight.{LoanFlight}
use Rattle.model.specs.declared.families.loan.calls.LoanFlight.TheVariants.{Loan, Send, GiveUp, TakeBack, Receive, GiveBack, Reclaim}
use Rattle.model.specs.declared.turn.Refusal.{Refusal}
use Rattle.model.specs.declared.turn.Refusal.TheVariants.{OwnerIsDead}
use Rattle.model.specs.Families.Indices.Calls.{acquire_answer}
use Rattle.model.specs.Families.Indices.Robust.Dead.{has_died}
use Rattle.model.specs.Families.Queues.Calls.{as_it_is, fresh, popped, words_of_index}
use Rattle.model.specs.Step.{Going, as_call}

-- ---- the calls that begin, on a channel of so many slots, with a queue of this capacity

-- a loan as it begins
abbrev pub loan_of : ℕ → LoanFlight
loan_of slots = Loan (record { call = first_acquire slots; given = tt; room = tt })

-- a send of an index as it begins
abbrev pub send_of : (slots queue index : ℕ) → LoanFlight
send_of slots queue index =
    Send (record { call = first_send slots queue; given = index; room = tt })

-- a call that gives a loaned index up as it begins
abbrev pub give_up_of : (slots index : ℕ) → LoanFlight
give_up_of slots index = GiveUp (record { call = first_release slots; given = index; room = tt })

-- a take-back as it begins
abbrev pub take_back_of : (slots queue : ℕ) → LoanFlight
take_back_of slots queue =
    TakeBack (record { call = first_take_back slots queue; given = tt; room = tt })

-- a receive by this receiver as it begins: a pop of the submission queue
abbrev pub receive_of : (slots queue p : ℕ) → LoanFlight
receive_of slots queue p =
    Receive p
    (record {
      call = record { base = submission_word slots; call = overflow.first_pop queue };
      given = tt;
      room = fresh;
    })

-- a give-back by this receiver as it begins: a push of the completion queue
abbrev pub give_back_of : (slots queue p index : ℕ) → LoanFlight
give_back_of slots queue p index =
    GiveBack p
    (record {
      call = record { base = completion_word slots queue; call = first_push slots };
      given = index;
      room = tt;
    })

-- a reclaim as it begins
abbrev pub reclaim_of : (slots queue : ℕ) → LoanFlight
reclaim_of slots queue = Reclaim (first_reclaim slots queue)

-- a call of a loan channel as it begins, by what the machine keeps of the channel
abbrev pub first : ℕ → Book → LoanStart → LoanFlight
first slots book starts.Loan = loan_of slots
first slots book (starts.Send index) = send_of slots book.queue index
first slots book (starts.GiveUp index) = give_up_of slots index
first slots book starts.TakeBack = take_back_of slots book.queue
first slots book starts.Receive = receive_of slots book.queue book.receiver
first slots book (starts.GiveBack index) =
    give_back_of slots book.queue book.receiver index
first slots book starts.Reclaim = reclaim_of slots book.queue

-- ---- the calls under way

-- what a call under way wants next
abbrev pub want : LoanFlight → Want (Unit {0})
want (Loan run) = acquire_want run.call
want (Send run) = send_want run.call run.given
want (GiveUp run) = release_want false run.call run.given
want (TakeBack run) = take_back_want run.call
want (Receive p run) = shifted run.call.base (overflow.pop_want run.call.call)
want (GiveBack p run) = shifted run.call.base (push_want words_of_index run.call.call run.given)
want (Reclaim call) = reclaim_want call

-- whether the call begins a turn of its loop again once it is handed this old value
abbrev pub goes_back : LoanFlight → ℕ → Bool
goes_back (Loan run) old = acquire_goes_back run.call.capacity run.call.stage old
goes_back (Send run) old = false
goes_back (GiveUp run) old = false
goes_back (TakeBack run) old = false
goes_back (Receive p run) old = overflow.goes_back run.call.call.stage old
goes_back (GiveBack p run) old = false
goes_back (Reclaim call) old = reclaim_goes_back call.stage old

-- a reclaim under way as a call of the model
abbrev pub reclaim_flight : reclaims.Reclaim → LoanFlight
reclaim_flight call = Reclaim call

module _ {T : Type 0} where
  -- a reclaim goes on by the sender's table
  abbrev pub reclaim_goes : List Place → reclaims.Reclaim → ℕ → After LoanFlight (Answer T)
  reclaim_goes places call old =
      as_call Reclaim answers.Number (reclaim_after call places old)

  -- how a call goes on from the old value of its word, where this is the sender's table
  abbrev pub after : List Place → LoanFlight → ℕ → After LoanFlight (Answer T)
  after places (Loan run) old =
      as_call Loan acquire_answer
      (went_on as_it_is run.given run.room (acquire_after run.call old))
  after places (Send run) old =
      as_call Send popped (went_on as_it_is run.given run.room (send_after run.call run.given old))
  after places (GiveUp run) old =
      as_call GiveUp (λ _. answers.Done)
      (went_on as_it_is run.given run.room (release_after false run.call old))
  after places (TakeBack run) old =
      as_call TakeBack popped
      (went_on as_it_is run.given run.room (take_back_after run.call old))
  after places (Receive p run) old =
      as_call (λ r. Receive p r) popped
      (went_on (λ end given room. overflow.pop_answer room.0 end) run.given
      (overflow.pop_kept run.call.call run.room old)
      (part_after run.call.base (overflow.pop_after run.call.call old)))
  after places (GiveBack p run) old =
      as_call (λ r. GiveBack p r) answers.Truth
      (went_on as_it_is run.given run.room
      (part_after run.call.base (push_after 1 run.call.call old)))
  after places (Reclaim call) old = reclaim_goes places call old

-- ---- refusals

-- whose call it is
abbrev pub party_of : LoanFlight → ℕ
party_of (Loan run) = 0
party_of (Send run) = 0
party_of (GiveUp run) = 0
party_of (TakeBack run) = 0
party_of (Receive p run) = p
party_of (GiveBack p run) = p
party_of (Reclaim call) = 0

-- what is tested of a call that is to go on: that its party lives
abbrev pub book_rows : LoanFlight → Book → List (Bool × Refusal)
book_rows flight book = (has_died (party_of flight) book.dead, OwnerIsDead) ∷ []

module _ {T : Type 0} where
  -- what is tested before a call goes on, by what the machine keeps of the channel
  abbrev pub going_rows : LoanFlight → Registry T → Option Bool → List (Bool × Refusal)
  going_rows flight (registries.Loan book) said = book_rows flight book
  going_rows flight kept said = []

  -- the family's call under way, as one of a machine: where no table is kept
  abbrev pub going : LoanFlight → Going (Flight T) T
  going flight =
      record {
        want = want flight;
        after = λ old. as_call flights.Loan (λ answer. answer) (after [] flight old);
        rows = going_rows flight;
        most = 3;
      }

  -- how a call of a machine goes on, by the sender's table where one is kept
  abbrev pub goes : LoanFlight → ℕ → Registry T → After (Flight T) (Answer T)
  goes flight old (registries.Loan book) =
      as_call flights.Loan (λ answer. answer) (after book.places flight old)
  goes flight old kept = (going flight).after old
