-- The words of a loan channel at its opening, who may begin which call, and what its begin keeps.
use Rattle.std.specs.Prelude.{ℕ, ◌+◌, ◌-◌, ◌^◌, ◌==◌, Bool, true, false, not, Option, Some, None, option_map, List, []}
use Rattle.std.specs.Prelude.{◌∷◌, ◌++◌, replicate, if◌then◌else◌, nat_le, slice_index_or, slice_set}
use Rattle.steps.specs.declared.loan.places.Place.TheVariants.{Free}
use Rattle.model.specs.declared.families.Flight.{Flight}
use Rattle.model.specs.declared.families.Flight.TheVariants as flights
use Rattle.model.specs.declared.families.Registry.{Registry}
use Rattle.model.specs.declared.families.Registry.TheVariants as registries
use Rattle.model.specs.declared.families.loan.Book.{Book}
use Rattle.model.specs.declared.families.loan.LoanStart.{LoanStart}
use Rattle.model.specs.declared.families.loan.LoanStart.TheVariants.{Send, GiveUp, Receive, GiveBack, Reclaim}
use Rattle.model.specs.declared.families.loan.calls.LoanFlight.{LoanFlight}
use Rattle.model.specs.declared.turn.Kind.{Kind}
use Rattle.model.specs.declared.turn.Kind.TheVariants as kinds
use Rattle.model.specs.declared.turn.Refusal.{Refusal}
use Rattle.model.specs.declared.turn.Refusal.TheVariants.{WrongCall, NoRole, NotHeld, BadIndex, OwnerIsDead, OwnerLives}
use Rattle.model.specs.Families.Indices.Opening as index_opening
use Rattle.model.specs.Families.Indices.Robust.Dead.{has_died}
use Rattle.model.specs.Families.Loan.Calls.{first}
use Rattle.model.specs.Families.Queues.Opening.{holds}
use Rattle.model.specs.Opening.{Opening}
use Rattle.model.specs.Step.{Beginning}

-- ---- the opening: of so many slots, with a submission queue of this capacity

-- The words of a queue with this many cells of one word: two positions, two roles, which nobody takes,
-- and the cells.
abbrev pub queue_words : ℕ → List ℕ
queue_words cells = 0 ∷ 0 ∷ 1 ∷ 1 ∷ replicate cells 0

-- the indices, the submission queue, and a completion queue with as many cells as slots
abbrev pub opening_words : (slots queue : ℕ) → List ℕ
opening_words slots queue =
    index_opening.opening_words slots ++ (queue_words (queue + 1) ++ queue_words slots)

-- each index is free, party 1 is the receiver, and nobody has died
abbrev pub opening_book : (slots queue : ℕ) → Book
opening_book slots queue =
    record {
      queue = queue;
      places = replicate slots Free;
      holders = replicate slots None;
      receiver = 1;
      dead = [];
    }

-- what the machine keeps of a channel that opens
abbrev pub opening_kept : {T : Type 0} → ℕ → ℕ → Registry T
opening_kept slots queue = registries.Loan (opening_book slots queue)

-- how a loan channel opens by one number, which is that of its slots and the capacity of its submission queue
abbrev pub opening : Opening
opening =
    record {
      least = 1;
      greatest = 2 ^ 24 - 2;
      words = λ size capacity. opening_words capacity capacity;
      kept = λ capacity. opening_kept capacity capacity;
    }

-- ---- a call begins

-- whether a machine of a kind is a loan channel
abbrev pub is_loan : Kind → Bool
is_loan kinds.Loan = true
is_loan kind = false

-- Whether the party is not the sender, which is party 0.
abbrev pub is_not_sender : ℕ → Bool
is_not_sender p = not (p == 0)

-- whether the party is not the receiver
abbrev pub is_not_receiver : Book → ℕ → Bool
is_not_receiver book p = not (p == book.receiver)

-- whether the party may not begin this call: receive and give back are the receiver's, all others the sender's
abbrev pub lacks_role : Book → ℕ → LoanStart → Bool
lacks_role book p Receive = is_not_receiver book p
lacks_role book p (GiveBack index) = is_not_receiver book p
lacks_role book p start = is_not_sender p

-- the index that the call asks its party to have
abbrev pub asks_for : LoanStart → Option ℕ
asks_for (Send index) = Some index
asks_for (GiveUp index) = Some index
asks_for (GiveBack index) = Some index
asks_for start = None

-- whether the call names an index that the channel has not
abbrev pub is_past : ℕ → Option ℕ → Bool
is_past slots None = false
is_past slots (Some index) = nat_le slots index

-- whether the call names an index that the party has not
abbrev pub lacks_index : Book → ℕ → Option ℕ → Bool
lacks_index book p None = false
lacks_index book p (Some index) = not (holds (slice_index_or book.holders index None) p)

-- a reclaim while the receiver lives
abbrev pub reclaims_early : Book → LoanStart → Bool
reclaims_early book Reclaim = not (has_died book.receiver book.dead)
reclaims_early book start = false

-- what is tested of a party that is to begin a call: the index, the role, that the party has the index and lives, and
-- that the receiver is dead
abbrev pub call_rows : ℕ → Book → ℕ → LoanStart → List (Bool × Refusal)
call_rows slots book p start =
    (is_past slots (asks_for start), BadIndex)
    ∷ (lacks_role book p start, NoRole)
    ∷ (lacks_index book p (asks_for start), NotHeld)
    ∷ (has_died p book.dead, OwnerIsDead)
    ∷ (reclaims_early book start, OwnerLives)
    ∷ []

-- what is tested before a party begins the call, by what the machine keeps of the channel
abbrev pub kept_rows : {T : Type 0} → ℕ → LoanStart → Registry T → ℕ → List (Bool × Refusal)
kept_rows slots start (registries.Loan book) p = call_rows slots book p start
kept_rows slots start kept p = (true, WrongCall) ∷ []

-- the call that begins on a machine of this kind that keeps this
abbrev pub call_in : Kind → ℕ → LoanStart → Book → Option LoanFlight
call_in kind slots start book = if is_loan kind then Some (first slots book start) else None

-- the call as it begins, by what the machine keeps of the channel
abbrev pub call_kept : {T : Type 0} → ℕ → LoanStart → Registry T → Option LoanFlight
call_kept slots start (registries.Loan book) = Some (first slots book start)
call_kept slots start kept = None

-- The call that begins on a machine of this kind. Only a loan channel has calls of this family.
abbrev pub call_of : {T : Type 0} → Kind → ℕ → LoanStart → Registry T → Option LoanFlight
call_of kind slots start kept = if is_loan kind then call_kept slots start kept else None

module _ {T : Type 0} where
  -- how a call of a loan channel begins, and what is tested before
  abbrev pub begin : Kind → ℕ → LoanStart → Beginning (Flight T) (Registry T)
  begin kind slots start =
      record {
        call = λ kept. option_map flights.Loan (call_of kind slots start kept);
        rows = kept_rows slots start;
      }

-- ---- what is kept once it has begun

-- nobody has the index any more: it is in passing
abbrev pub taken_from : Book → Option ℕ → Book
taken_from book None = book
taken_from book (Some index) = record book { holders = slice_set book.holders index None }

-- what the machine keeps of the channel once the call has begun: an index that it names is in passing
abbrev pub keeps : {T : Type 0} → LoanStart → Registry T → Registry T
keeps start (registries.Loan book) =
    registries.Loan (taken_from book (asks_for start))
keeps start kept = kept
