-- What a call of a loan channel writes between its begin and its end.
use Rattle.std.specs.Prelude.{◌≡◌, ◌<◌, ℕ, true, List, [], ◌∷◌, length}
use Rattle.std.specs.List.{AllByRecursion}
use Rattle.model.specs.declared.event.Answer.{Answer}
use Rattle.model.specs.declared.event.Answer.TheVariants.{Done, Truth, Number, PoppedNone, PoppedIndex, NoIndex}
use Rattle.model.specs.declared.event.Answer.TheVariants as answers
use Rattle.model.specs.declared.event.Event.{Event}
use Rattle.model.specs.declared.event.Event.TheVariants.{Published, HandedOut, Claimed, Freed, Returned, TakenBack}
use Rattle.model.specs.declared.event.Item.{Item}
use Rattle.model.specs.declared.event.Item.TheVariants.{Index}
use Rattle.model.specs.declared.event.Start.{Start}
use Rattle.model.specs.declared.event.Start.TheVariants.{Loan}
use Rattle.model.specs.declared.families.loan.LoanStart.{LoanStart}
use Rattle.model.specs.declared.families.loan.LoanStart.TheVariants as calls
use Rattle.model.specs.Families.Loan.Reading.{claimed, freed, given_back, taken_back}
use Rattle.model.specs.Families.Queues.Reading.{published, handed_out}
use Rattle.model.specs.Reading.{moments, Span, Open}

module _ {T : Type 0} where
  -- the indices that a call has claimed, published, handed out, given back, taken back and freed, each in order
  pub record HasMoved (claims : List ℕ) (publishes hands_out : List (Item T))
      (gives takes frees : List ℕ) (wrote : List (Event T)) : Type 0 where
    pub claimed : claimed wrote ≡ claims
    pub published : published wrote ≡ publishes
    pub handed_out : handed_out wrote ≡ hands_out
    pub given_back : given_back wrote ≡ gives
    pub taken_back : taken_back wrote ≡ takes
    pub freed : freed wrote ≡ frees

  -- the call has moved no index
  abbrev pub HasMovedNone : List (Event T) → Type 0
  HasMovedNone wrote = HasMoved [] [] [] [] [] [] wrote

  -- ---- what a finished call has done, by its answer; any other answer is none of that call

  -- A loan claims the index that it answers. A send publishes its index, and hands out and frees the one that
  -- it answers. A give-up frees its index. A take-back takes back and frees the one that it answers. A
  -- receive hands out the one that it answers, and a give-back, which is never refused, gives its index back.
  abbrev pub HasDone : LoanStart → Answer T → List (Event T) → Type 0
  HasDone calls.Loan (answers.Index index) wrote = HasMoved (index ∷ []) [] [] [] [] [] wrote
  HasDone calls.Loan (NoIndex failure) wrote = HasMovedNone wrote
  HasDone (calls.Send index) PoppedNone wrote =
      HasMoved [] (Index index ∷ []) [] [] [] [] wrote
  HasDone (calls.Send index) (PoppedIndex oldest) wrote =
      HasMoved [] (Index index ∷ []) (Index oldest ∷ []) [] [] (oldest ∷ []) wrote
  HasDone (calls.GiveUp index) Done wrote = HasMoved [] [] [] [] [] (index ∷ []) wrote
  HasDone calls.TakeBack (PoppedIndex index) wrote =
      HasMoved [] [] [] [] (index ∷ []) (index ∷ []) wrote
  HasDone calls.TakeBack PoppedNone wrote = HasMovedNone wrote
  HasDone calls.Receive (PoppedIndex index) wrote =
      HasMoved [] [] (Index index ∷ []) [] [] [] wrote
  HasDone calls.Receive PoppedNone wrote = HasMovedNone wrote
  HasDone (calls.GiveBack index) (Truth true) wrote =
      HasMoved [] [] [] (index ∷ []) [] [] wrote
  HasDone calls.Reclaim (Number number) wrote =
      (length (freed wrote) ≡ number) × (claimed wrote ≡ []) × (published wrote ≡ [])
      × (given_back wrote ≡ [])
  HasDone start answer wrote = ⊥

  -- the moments of a finished call: sends and receives have one
  abbrev pub moments_of : LoanStart → Answer T → List (Start T × Answer T)
  moments_of (calls.Send index) answer = (Loan (calls.Send index), answer) ∷ []
  moments_of calls.Receive answer = (Loan calls.Receive, answer) ∷ []
  moments_of start answer = []

  -- what a call of the channel with this answer has written: its acts, and the moves of indices
  pub record Wrote (start : LoanStart) (answer : Answer T) (wrote : List (Event T)) : Type 0 where
    pub moments : moments wrote ≡ moments_of start answer
    pub done : HasDone start answer wrote

  -- ---- where an event may stand

  -- A send publishes its index, once, may hand out one index after that, and then frees that one. A take-back frees
  -- what it has taken back. A reclaim hands out, then takes back, and then frees ascending.
  abbrev pub may_stand : Event T → Span T → Type 0
  may_stand (Claimed p index) (Open (Loan calls.Loan) wrote) = HasMovedNone wrote
  may_stand (Published p item) (Open (Loan (calls.Send index)) wrote) =
      (item ≡ Index index) × HasMovedNone wrote
  may_stand (HandedOut p item) (Open (Loan (calls.Send index)) wrote) =
      HasMoved [] (Index index ∷ []) [] [] [] [] wrote
  may_stand (Freed p back) (Open (Loan (calls.Send index)) wrote) =
      HasMoved [] (Index index ∷ []) (Index back ∷ []) [] [] [] wrote
  may_stand (Freed p back) (Open (Loan (calls.GiveUp index)) wrote) =
      (back ≡ index) × HasMovedNone wrote
  may_stand (TakenBack p index) (Open (Loan calls.TakeBack) wrote) = HasMovedNone wrote
  may_stand (Freed p index) (Open (Loan calls.TakeBack) wrote) =
      HasMoved [] [] [] [] (index ∷ []) [] wrote
  may_stand (HandedOut p item) (Open (Loan calls.Receive) wrote) = HasMovedNone wrote
  may_stand (Returned p back) (Open (Loan (calls.GiveBack index)) wrote) =
      (back ≡ index) × HasMovedNone wrote
  may_stand (HandedOut p item) (Open (Loan calls.Reclaim) wrote) =
      (taken_back wrote ≡ []) × (freed wrote ≡ [])
  may_stand (TakenBack p index) (Open (Loan calls.Reclaim) wrote) = freed wrote ≡ []
  may_stand (Freed p index) (Open (Loan calls.Reclaim) wrote) =
      AllByRecursion (λ i. i < index) (freed wrote)
  may_stand e span = ⊥
