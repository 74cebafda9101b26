-- A turn leaves the capacity of a loan channel's submission queue, so it is the one that the
-- channel was made with.
use Rattle.std.proofs.Common.{arith}
use Rattle.laws_machine.proofs.Names.{◌≡◌, ℕ, Bool, Option, Some, None, List, [], ◌∷◌, fold, refl, ◌∙◌}
use Rattle.laws_machine.proofs.Names.{Ask, Answer, Event, Start, Flight, Registry, Doing}
use Rattle.laws_machine.proofs.Names.{Party, Turn, Coding, first_of, step_of}
use Rattle.laws_machine.proofs.Names.{kept_after_begin, kept_after_death}
use Rattle.laws_machine.proofs.Names.{number_of, after_begin, after_answer, after_next, after_decision}
use Rattle.laws_machine.proofs.Names.{world_after, IsReached, refusal_of}
use Rattle.laws_machine.proofs.Names.{World, Trace}
use Rattle.model.specs.declared.families.Registry.TheVariants as registries
use Rattle.model.specs.declared.families.loan.Book.{Book}
use Rattle.model.specs.declared.families.loan.LoanStart.{LoanStart}
use Rattle.model.specs.declared.turn.Kind.TheVariants as kinds
use Rattle.model.specs.Families.Loan.Calls.{after}
use Rattle.model.specs.Families.Loan.Opening.{taken_from, asks_for}
use Rattle.model.specs.Families.Loan.Steps.{book_after, ended_book, wrote}
use Rattle.model.specs.World.{opened}
use Rattle.model.proofs.Reached.{run_keeps}
use Rattle.laws_machine.specs.Others.{queue_in, KeepsQueue}

-- the book of a channel once an index is taken has the same queue
taken : (book : Book) (o : Option ℕ) → (taken_from book o).queue ≡ book.queue
taken book None = refl
taken book (Some index) = refl

module _ {T : Type 0} where
  -- no event changes the capacity of the queue
  noted : (book : Book) (e : Event T) → (book_after book e).queue ≡ book.queue
  noted = grind arith

  -- no event changes the capacity of the queues in the book
  all_noted : (es : List (Event T)) (book : Book) → (fold book_after book es).queue ≡ book.queue
  all_noted [] book = refl
  all_noted (e ∷ es) book = all_noted es (book_after book e) ∙ noted book e

  -- the end of a call leaves the capacity of the queue
  settled : (p : ℕ) (start : LoanStart) (outcome : Option (Answer T)) (book : Book) → (ended_book p start outcome book).queue ≡ book.queue
  settled = grind arith

  -- a step leaves the capacity of the queue
  stepped : (code : Coding T) (words : List ℕ) (beside : Option (ℕ × ℕ)) (p : ℕ) (start : Start T)
      (flight : Flight T) (old : ℕ) (kept : Registry T)
      → queue_in (step_of code words beside p start flight old kept).kept ≡ queue_in kept
  stepped = grind (arith, settled, after, fold, wrote, all_noted)

  -- the answer to a step keeps the capacity of the queues
  answered : (w : World T) (p : ℕ) (x : Party T) (ask : Option Ask) (answer : ℕ) (doing : Doing T) → KeepsQueue w (after_answer w p x ask answer doing)
  answered = grind (arith, stepped)

  -- a step of a party leaves the capacity of the queue
  went : (w : World T) (p : ℕ) (o : Option (Party T)) → KeepsQueue w (after_next w p o)
  went = grind (arith, answered)

  -- a decision leaves the capacity of the queue
  decided : (w : World T) (p : ℕ) (said : Bool) (o : Option (Party T)) → KeepsQueue w (after_decision w p said o)
  decided w p said None = refl
  decided w p said (Some x) = answered w p x None (number_of said) x.doing

  -- the begin of a call keeps the capacity of the queues
  begins : (code : Coding T) (capacity : ℕ) (start : Start T) (p : ℕ) (kept : Registry T)
      → queue_in (kept_after_begin code capacity start p kept) ≡ queue_in kept
  begins = grind (arith, taken, asks_for)

  -- a begin leaves the capacity of the queue
  begun : (w : World T) (p : ℕ) (start : Start T) (o : Option (Flight T)) → KeepsQueue w (after_begin w p start o)
  begun = grind (arith, begins)

  -- the death of an owner keeps the capacity of the queues
  dies : (kept : Registry T) (owner : ℕ) → queue_in (kept_after_death kept owner) ≡ queue_in kept
  dies (registries.Loan book) owner = refl
  dies kept owner = refl

  -- any turn leaves the capacity of the queue
  pub keeps_queue : (w : World T) (turn : Turn T) → KeepsQueue w (world_after w turn)
  keeps_queue = grind (arith, begun, first_of, went, decided, dies)

  -- ---- the capacity is the one that the channel was made with

  -- in every reached machine the queue has the capacity with which the machine was opened
  pub queue_is : (t : Trace T) → t.world.kind ≡ kinds.Loan → (r : IsReached t) → queue_in t.world.kept ≡ Some r.queue
  queue_is t is reached_t =
      rw reached_t.is (run_keeps refusal_of (λ u. queue_in u.world.kept ≡ Some reached_t.queue) (λ u turn e h. keeps_queue u.world turn ∙ h)
      reached_t.turns (opened t.world.coding t.world.kind t.world.capacity reached_t.queue t.world.parties)
      (rw is refl))
