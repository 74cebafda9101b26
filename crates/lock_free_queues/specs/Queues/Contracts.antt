-- What the calls on a queue add to its history, and what they answer, of queues of any items.
use Rattle.std.specs.Prelude.{◌≡◌, ◌⊎◌, ℕ, ◌-◌, ◌^◌, Bool, true, false, Option, Some, None, is_none, not, List, [], ◌∷◌, ◌++◌, length, slice_get}
use Rattle.steps.specs.declared.queues.roles.Role.{Role}
use Rattle.model.specs.declared.event.Answer.{Answer}
use Rattle.model.specs.declared.event.Answer.TheVariants.{Truth, Done, PoppedNone, PoppedIndex, Popped}
use Rattle.model.specs.declared.event.Event.{Event}
use Rattle.model.specs.declared.event.Event.TheVariants.{Published, HandedOut, Acted, Finished}
use Rattle.model.specs.declared.event.Item.{Item}
use Rattle.model.specs.declared.event.Item.TheVariants.{Index, Value}
use Rattle.model.specs.declared.event.Start.TheVariants.{Queues}
use Rattle.model.specs.declared.families.queues.QueueStart.{QueueStart}
use Rattle.model.specs.declared.families.queues.QueueStart.TheVariants.{PushIndex, Push, Pop, Peek}
use Rattle.model.specs.declared.families.queues.calls.LengthOf.{LengthOf}
use Rattle.model.specs.Families.Queues.Calls.{length_answer}
use Rattle.model.specs.Families.Queues.Reading.{published, handed_out, waiting}
use Rattle.model.specs.Moments.{HeldSometime}
use Rattle.threaded.specs.Shares.{IsAll}
use Rattle.history.specs.declared.view.View.{View}
use Rattle.history.specs.History.{Called, IsBeginning}
pub use Rattle.history.specs.Passes.{HasSplit, HasJoined}
use Rattle.history_queues.specs.Queues.{length_start}
use Rattle.history.specs.Roles.{acquire_start, release_start, look_start, holder_by}

module _ {T : Type 0} where
  -- ---- pushes

  -- the push of an item
  abbrev pub push_of : Item T → QueueStart T
  push_of (Index index) = PushIndex index
  push_of (Value value) = Push value

  -- what a push writes
  abbrev pub push_events : ℕ → Item T → Bool → List (Event T)
  push_events p item true = Published p item ∷ Acted p (Queues (push_of item)) (Truth true) ∷ []
  push_events p item false = Acted p (Queues (push_of item)) (Truth false) ∷ []

  -- the push is a call of the history, which published the item where it took it
  pub record HasPushed (item : Item T) (taken : Bool) (old new : View T) : Type 0 where
    pub by : ℕ
    pub mine : new.party ≡ Some by
    pub called : Called by (Queues (push_of item)) (Truth taken) (push_events by item taken) old new

  -- the push is no call of the history, but a look at a queue whose last position is reached
  pub record WasAtEnd (old new : View T) : Type 0 where
    pub since : IsBeginning old.seen new.seen
    -- the pass has made nothing
    pub made : new.made ≡ old.made
    -- as many values were published as there are positions
    pub end : length (published new.seen) ≡ 2 ^ 64 - 1
    -- nothing was published since
    pub list : published new.seen ≡ published old.seen

  -- The item was published after all that the pass had seen, at the position right after the last one
  -- that it had seen published.
  pub record HasPublished (item : Item T) (old new : View T) : Type 0 where
    -- the party that pushed it
    pub by : ℕ
    pub before : List (Event T)
    pub after : List (Event T)
    pub is : new.seen ≡ before ++ Published by item ∷ after
    -- all that had been seen came before
    pub since : IsBeginning old.seen before
    -- nothing was published between
    pub next : published before ≡ published old.seen
    -- nothing was published after
    pub list : published new.seen ≡ published old.seen ++ item ∷ []

  -- the queue was full as the push acted: as many values waited as its capacity is
  pub record WasFull (capacity : ℕ) (item : Item T) (old new : View T) : Type 0 where
    -- the party that pushed it
    pub by : ℕ
    pub before : List (Event T)
    pub after : List (Event T)
    pub is : new.seen ≡ before ++ Acted by (Queues (push_of item)) (Truth false) ∷ after
    -- all that had been seen came before
    pub since : IsBeginning old.seen before
    -- nothing was published between
    pub next : published before ≡ published old.seen
    pub full : length (waiting before) ≡ capacity
    -- nothing was published after
    pub list : published new.seen ≡ published old.seen

  -- a push that took its item
  abbrev pub PushDone : Item T → (old new : View T) → Type 0
  PushDone item old new = HasPushed item true old new × HasPublished item old new

  -- a push that was refused: the queue was full, or its last position is reached
  abbrev pub PushRefused : ℕ → Item T → (old new : View T) → Type 0
  PushRefused capacity item old new = HasPushed item false old new × WasFull capacity item old new ⊎ WasAtEnd old new

  -- ---- pops

  -- the answer of a pop, and of a peek
  abbrev pub popped_item : Option (Item T) → Answer T
  popped_item None = PoppedNone
  popped_item (Some (Index index)) = PoppedIndex index
  popped_item (Some (Value value)) = Popped value

  -- what a pop writes
  abbrev pub pop_events : ℕ → Option (Item T) → List (Event T)
  pop_events p (Some item) = HandedOut p item ∷ Acted p (Queues Pop) (popped_item (Some item)) ∷ []
  pop_events p None = Acted p (Queues Pop) (popped_item None) ∷ []

  -- the pop is a call of the history, which took out the item that it answers
  pub record HasPopped (answer : Option (Item T)) (old new : View T) : Type 0 where
    pub by : ℕ
    pub mine : new.party ≡ Some by
    pub called : Called by (Queues Pop) (popped_item answer) (pop_events by answer) old new

  -- The item was taken out after all that the pass had seen, at the position right after the last one
  -- that it had seen taken.
  pub record HasTakenOut (item : Item T) (old new : View T) : Type 0 where
    -- the party that popped it
    pub by : ℕ
    pub before : List (Event T)
    pub after : List (Event T)
    pub is : new.seen ≡ before ++ HandedOut by item ∷ after
    -- all that had been seen came before
    pub since : IsBeginning old.seen before
    -- nothing was taken out between
    pub next : handed_out before ≡ handed_out old.seen
    -- nothing was taken out after
    pub list : handed_out new.seen ≡ handed_out old.seen ++ item ∷ []

  -- the queue was empty as the pop acted
  pub record WasEmpty (old new : View T) : Type 0 where
    -- the party of the pop
    pub by : ℕ
    pub before : List (Event T)
    pub after : List (Event T)
    pub is : new.seen ≡ before ++ Acted by (Queues Pop) (popped_item None) ∷ after
    -- all that had been seen came before
    pub since : IsBeginning old.seen before
    -- nothing was taken out between
    pub next : handed_out before ≡ handed_out old.seen
    pub empty : waiting before ≡ []
    -- nothing was taken out after
    pub list : handed_out new.seen ≡ handed_out old.seen

  -- a pop that took an item out
  abbrev pub PopDone : Item T → (old new : View T) → Type 0
  PopDone item old new = HasPopped (Some item) old new × HasTakenOut item old new

  -- a pop that found nothing
  abbrev pub PopEmpty : (old new : View T) → Type 0
  PopEmpty old new = HasPopped None old new × WasEmpty old new

  -- the item was taken out after all that the pass had seen, and it was the oldest that waited
  pub record HasTakenFirst (item : Item T) (old new : View T) : Type 0 where
    -- the party that popped it
    pub by : ℕ
    pub before : List (Event T)
    pub after : List (Event T)
    pub is : new.seen ≡ before ++ HandedOut by item ∷ after
    -- all that had been seen came before
    pub since : IsBeginning old.seen before
    -- what waited behind it
    pub rest : List (Item T)
    pub oldest : waiting before ≡ item ∷ rest

  -- the queue was empty as the pop acted, which is all that a pop of an overflowing queue tells
  pub record FoundNone (old new : View T) : Type 0 where
    -- the party of the pop
    pub by : ℕ
    pub before : List (Event T)
    pub after : List (Event T)
    pub is : new.seen ≡ before ++ Acted by (Queues Pop) PoppedNone ∷ after
    -- all that had been seen came before
    pub since : IsBeginning old.seen before
    pub empty : waiting before ≡ []

  -- a pop that took the oldest item out
  abbrev pub PopOldest : Item T → (old new : View T) → Type 0
  PopOldest item old new = HasPopped (Some item) old new × HasTakenFirst item old new

  -- a pop of an overflowing queue that found nothing
  abbrev pub PopFoundNone : (old new : View T) → Type 0
  PopFoundNone old new = HasPopped None old new × FoundNone old new

  -- ---- peeks

  -- The peek is a call of the history that writes nothing. It answers the oldest value that waits as it
  -- ends, if one waits, and from `old` to its end no value was taken out.
  pub record HasPeeked (answer : Option (Item T)) (old new : View T) : Type 0 where
    pub by : ℕ
    pub mine : new.party ≡ Some by
    pub called : Called by (Queues Peek) (popped_item answer) [] old new
    -- the oldest that waits as it ends
    pub oldest : answer ≡ slice_get (waiting new.seen) 0
    -- from `old` on nothing was taken out
    pub list : handed_out new.seen ≡ handed_out old.seen

  -- ---- lengths

  -- the answer is that of the number of values that waited at one moment of the call
  pub record HasMeasured (which : LengthOf) (capacity : ℕ) (answer : Answer T) (old new : View T)
      : Type 0 where
    pub by : ℕ
    pub mine : new.party ≡ Some by
    pub called : Called by (Queues (length_start which)) answer [] old new
    -- what was seen up to the end of the call
    pub before : List (Event T)
    pub is : new.seen ≡ before ++ Finished by (Queues (length_start which)) answer ∷ []
    pub stood : HeldSometime by (λ part. answer ≡ length_answer which capacity (length (waiting part))) before

  -- ---- roles

  -- the acquire of a role has answered whether it took the role, and written nothing beside
  pub record HasAcquired (role : Role) (taken : Bool) (old new : View T) : Type 0 where
    pub by : ℕ
    pub mine : new.party ≡ Some by
    pub called : Called by (Queues (acquire_start role)) (Truth taken) [] old new

  -- the release of a role has ended, and written nothing beside
  pub record HasReleased (role : Role) (old new : View T) : Type 0 where
    pub by : ℕ
    pub mine : new.party ≡ Some by
    pub called : Called by (Queues (release_start role)) Done [] old new

  -- the call writes nothing, and answers whether somebody holds the role as it ends
  pub record HasSeenRole (role : Role) (taken : Bool) (old new : View T) : Type 0 where
    pub by : ℕ
    pub mine : new.party ≡ Some by
    pub called : Called by (Queues (look_start role)) (Truth taken) [] old new
    -- whether somebody holds the role as the call ends
    pub holder : taken ≡ not (is_none (holder_by role new.seen))

  -- ---- passes

  -- What a `look` of a pass tells: the pass has made nothing, and with the whole share there was
  -- nothing more to see.
  pub record HasLooked (old new : View T) : Type 0 where
    pub made : new.made ≡ old.made
    pub whole : IsAll old.share → new.seen ≡ old.seen
