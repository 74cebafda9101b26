-- What holds of the machine of a loan channel, after any turns.
use Rattle.std.specs.Prelude.{◌≡◌, ◌≢◌, ◌⊎◌, ◌↔◌, ℕ, ◌+◌, ◌<◌, true, false, Option, Some, None, IfSome, Contains}
use Rattle.std.specs.Prelude.{AllPairs, List, [], ◌++◌, map, take, drop, slice_index, slice_index_or}
use Rattle.steps.specs.declared.ask.Ask.{Ask}
use Rattle.steps.specs.declared.ask.Op.TheVariants.{Load}
use Rattle.steps.specs.declared.indices.enums.UniqueIndexSetAcquireFailure.TheVariants as failures
use Rattle.steps.specs.declared.loan.places.Place.{Place}
use Rattle.steps.specs.declared.loan.places.Place.TheVariants as places
use Rattle.steps.specs.Indices.Head.{flag_word, has_flag}
use Rattle.steps.specs.Loan.Layout.{submission_word, completion_word}
use Rattle.steps.specs.Loan.Places.{place_at}
use Rattle.model.specs.declared.event.Answer.{Answer}
use Rattle.model.specs.declared.event.Answer.TheVariants.{PoppedNone, PoppedIndex, NoIndex}
use Rattle.model.specs.declared.event.Event.{Event}
use Rattle.model.specs.declared.event.Event.TheVariants.{Begun, Freed, Died, Acted, Finished}
use Rattle.model.specs.declared.event.Item.{Item}
use Rattle.model.specs.declared.event.Item.TheVariants.{Index}
use Rattle.model.specs.declared.event.Start.{Start}
use Rattle.model.specs.declared.event.Start.TheVariants.{Loan}
use Rattle.model.specs.declared.families.Registry.{Registry}
use Rattle.model.specs.declared.families.Registry.TheVariants as registries
use Rattle.model.specs.declared.families.loan.Book.{Book}
use Rattle.model.specs.declared.families.loan.LoanStart.TheVariants as calls
use Rattle.model.specs.declared.families.queues.QueueKind.TheVariants.{IndexQueue, Overflow}
use Rattle.model.specs.Coding.{Coding}
use Rattle.model.specs.Families.Indices.Robust.Dead.{has_died}
use Rattle.model.specs.Families.Loan.Bounds.{most_steps}
use Rattle.model.specs.Families.Loan.Reading.{Spot, Free, Passing, With, Waiting, Returning, Move, move_of, spot_of}
use Rattle.model.specs.Families.Loan.Reading.{place_of, receiver_of, has_died_by, given_back, taken_back, queue_moments}
use Rattle.model.specs.Families.Loan.Spans.{Wrote, may_stand}
use Rattle.model.specs.Families.Queues.Book.{waiting_in}
use Rattle.model.specs.Families.Queues.Objects.{overflowing_list}
use Rattle.model.specs.Families.Queues.Reading.{published, handed_out, waiting}
use Rattle.model.specs.Objects.{IsLegal, standing}
use Rattle.model.specs.Promise.{Promise}
use Rattle.model.specs.Reading.{Each, whose, span_of, Span}
use Rattle.model.specs.Shape.{IsOpen}
use Rattle.model.specs.Turns.{words_after}
use Rattle.model.specs.World.{Trace}

-- ---- what is kept

-- the party that has the index, in no call
abbrev pub holder_in : Spot → Option ℕ
holder_in (With p) = Some p
holder_in spot = None

-- Where an index may be by the events (its spot), if the sender's table says this of it. An index that
-- the table calls Loaned is with the sender, party 0, or in passing in a call of the sender. One that it
-- calls Sent may be anywhere but free or with the sender.
abbrev pub IsIn : Place → Spot → Type 0
IsIn places.Free spot = spot ≡ Free
IsIn places.Loaned spot = (spot ≡ With 0) ⊎ (spot ≡ Passing 0)
IsIn places.Sent spot = (spot ≢ Free) × (spot ≢ With 0)

-- ---- words

-- the word of the submission queue's read position
abbrev pub read_word : ℕ → ℕ
read_word slots = submission_word slots + 1

-- the operation that a turn asks for adds 1 to this word
abbrev pub AddsOne : ℕ → List ℕ → Option Ask → Type 0
AddsOne word words ask = slice_index (words_after words ask) word ≡ slice_index words word + 1

module _ {T : Type 0} where
  -- ---- moves

  -- the party is in a reclaim
  abbrev pub IsReclaiming : Span T → Type 0
  IsReclaiming span = IsOpen (λ call. call ≡ Loan calls.Reclaim) (λ wrote. Unit {0}) span

  -- the receiver, which has died, has the index, or it is in passing in the call in which the receiver has stopped
  abbrev pub IsLeft : List (Event T) → Spot → Type 0
  IsLeft before spot =
      (has_died_by (receiver_of before) before ≡ true)
      × ((spot ≡ With (receiver_of before)) ⊎ (spot ≡ Passing (receiver_of before)))

  -- an index that is freed was in passing in the call that frees it, or a reclaim frees what a receiver has left
  abbrev pub MayFree : (p index : ℕ) → List (Event T) → Type 0
  MayFree p index before =
      (spot_of index before ≡ Passing p)
      ⊎ (IsReclaiming (span_of p before) × IsLeft before (spot_of index before))

  -- an index that moves is one of the channel's, and was at the spot that it moves from
  abbrev pub ComesFrom : ℕ → Option Move → List (Event T) → Type 0
  ComesFrom slots None before = Unit {0}
  ComesFrom slots (Some move) before =
      (move.index < slots) × (spot_of move.index before ≡ move.from)

  -- An event that moves an index finds it, one of the channel's, where the move begins. For an event
  -- `Freed` these places are those of `MayFree`.
  abbrev pub MovesRight : ℕ → List (Event T) → Event T → Type 0
  MovesRight slots before (Freed p index) = (index < slots) × MayFree p index before
  MovesRight slots before e = ComesFrom slots (move_of e) before

  -- ---- calls

  -- the receiver begins receives and give-backs, and the sender all other calls
  abbrev pub BeginsRight : List (Event T) → Event T → Type 0
  BeginsRight before (Begun p (Loan calls.Receive)) = p ≡ receiver_of before
  BeginsRight before (Begun p (Loan (calls.GiveBack index))) = p ≡ receiver_of before
  BeginsRight before (Begun p (Loan start)) = p ≡ 0
  BeginsRight before e = Unit {0}

  -- ---- the dead

  -- Who has died begins no call, moves no index, ends no call and does not die again:
  -- the one event of a call of its own that may come later is that its send acts, as
  -- a receive makes room. A reclaim begins only where the receiver has died.
  abbrev pub LivesRight : List (Event T) → Event T → Type 0
  LivesRight before (Begun p (Loan calls.Reclaim)) =
      (has_died_by p before ≡ false) × (has_died_by (receiver_of before) before ≡ true)
  LivesRight before (Died p) = has_died_by p before ≡ false
  LivesRight before (Acted p (Loan (calls.Send index)) PoppedNone) = Unit {0}
  LivesRight before e = IfSome (whose e) (λ p. has_died_by p before ≡ false)

  -- ---- answers

  -- A loan fails only where no index is free, and never because of a lock. A take-back that has nothing finds that
  -- nothing is to be taken back. After a finished reclaim each index is free or with the sender.
  abbrev pub AnswersRight : ℕ → List (Event T) → Event T → Type 0
  AnswersRight slots before (Finished p (Loan calls.Loan) (NoIndex failures.OutOfIndices)) =
      (index : ℕ) → index < slots → spot_of index before ≢ Free
  AnswersRight slots before (Finished p (Loan calls.Loan) (NoIndex failures.IsLocked)) = ⊥
  AnswersRight slots before (Finished p (Loan calls.TakeBack) PoppedNone) =
      given_back before ≡ taken_back before
  AnswersRight slots before (Finished p (Loan calls.Reclaim) answer) =
      (index : ℕ) → (spot_of index before ≡ Free) ⊎ (spot_of index before ≡ With 0)
  AnswersRight slots before e = Unit {0}

  -- ---- what is kept

  -- what the machine keeps of the channel agrees with the events
  pub record KeepsBook (book : Book) (events : List (Event T)) : Type 0 where
    -- each index is where the sender's table has it
    pub places : (index : ℕ) → IsIn (place_at book.places index) (spot_of index events)
    -- who may send, give up or give back an index has it by the events
    pub holders : (index : ℕ)
        → slice_index_or book.holders index None ≡ holder_in (spot_of index events)
    pub receiver : book.receiver ≡ receiver_of events
    pub dead : (p : ℕ) → has_died p book.dead ≡ has_died_by p events

  -- ---- the words

  -- What waits in the submission queue by its words.
  abbrev pub sent_in : Coding T → (slots queue : ℕ) → List ℕ → List (Item T)
  sent_in code slots queue words =
      waiting_in code Overflow queue (drop (submission_word slots) words)

  -- what waits in the completion queue by its words
  abbrev pub given_back_in : Coding T → (slots queue : ℕ) → List ℕ → List (Item T)
  given_back_in code slots queue words =
      waiting_in code IndexQueue slots (drop (completion_word slots queue) words)

  -- These items are exactly the indices that are at this spot by the events, each of them once.
  pub record AreThose (spot : Spot) (items : List (Item T)) (events : List (Event T)) : Type 0 where
    pub each : (index : ℕ) → Contains items (Index index) ↔ (spot_of index events ≡ spot)
    pub once : AllPairs (λ x y. x ≢ y) items

  -- What holds of a loan channel's machine after any turns, where it keeps this of the channel: the events are right
  -- one by one, and the tables, flags and queues agree with where the events say that each index is.
  pub record IsChannelOf (book : Book) (t : Trace T) : Type 0 where
    -- Each event is right: moves of indices, begins of calls, answers, and what calls of
    -- the dead may still do.
    pub moves : Each (MovesRight t.world.capacity) t.events
    pub begins : Each BeginsRight t.events
    pub answers : Each (AnswersRight t.world.capacity) t.events
    pub lives : Each LivesRight t.events
    -- the sender's table says of each index what the events say
    pub table : (index : ℕ) → place_at book.places index ≡ place_of index t.events
    -- an index is in passing in a call that is under way, or has stopped
    pub passing : (index p : ℕ) → spot_of index t.events ≡ Passing p
        → IsOpen (λ call. Unit {0}) (λ wrote. Unit {0}) (span_of p t.events)
    -- the sender has an index, or the receiver, and nobody else
    pub parties : (index p : ℕ)
        → (spot_of index t.events ≡ With p) ⊎ (spot_of index t.events ≡ Passing p)
        → (p ≡ 0) ⊎ (p ≡ receiver_of t.events)
    -- The claim flag of an index stands exactly if the index is not free.
    pub flags : (index : ℕ) → index < t.world.capacity
        → (has_flag (slice_index t.world.words (flag_word t.world.capacity index)) index ≡ true)
        ↔ (spot_of index t.events ≢ Free)
    -- what was published was handed out, or waits in the words of the submission queue
    pub sent : published t.events
        ≡ handed_out t.events ++ sent_in t.world.coding t.world.capacity book.queue t.world.words
    -- The submission queue's words hold exactly the indices that wait in it by the events, each once.
    pub waits : AreThose Waiting
        (sent_in t.world.coding t.world.capacity book.queue t.world.words) t.events
    -- Sends and receives act on one list that overflows. The list is what waits in the submission queue,
    -- without the newest index where one more waits than the capacity.
    pub list : standing (overflowing_list book.queue) (queue_moments t.events)
        ≡ take book.queue (waiting t.events)
    pub legal : IsLegal (overflowing_list book.queue) (queue_moments t.events)
    -- what was given back was taken back, or waits in the words of the completion queue
    pub returned : map Index (given_back t.events)
        ≡ map Index (taken_back t.events)
        ++ given_back_in t.world.coding t.world.capacity book.queue t.world.words
    -- The completion queue's words hold exactly the indices that wait in it by the events, each once.
    pub returns : AreThose Returning
        (given_back_in t.world.coding t.world.capacity book.queue t.world.words) t.events
    -- The tables that the machine keeps of the channel agree with the events.
    pub keeps : KeepsBook book t.events

  -- What holds of a loan channel's machine by what it keeps beside its words, which is the book of a
  -- channel: one that keeps anything else is none.
  abbrev pub IsChannelBy : Registry T → Trace T → Type 0
  IsChannelBy (registries.Loan book) t = IsChannelOf book t
  IsChannelBy kept t = ⊥

  -- what holds of a loan channel's machine after any turns
  abbrev pub IsChannel : Trace T → Type 0
  IsChannel t = IsChannelBy t.world.kept t

  -- ---- acts

  -- A send acts as it adds 1 to the write position, or, where that left one index too many, as the read position goes
  -- on: by its own step, with the index that leaves, or by the receiver's, with None.
  abbrev pub SendActs : Trace T → Option Ask → Type 0 → Answer T → Type 0
  SendActs old ask Own PoppedNone =
      (Own × AddsOne (submission_word old.world.capacity) old.world.words ask)
      ⊎ ((¬ Own) × AddsOne (read_word old.world.capacity) old.world.words ask)
  SendActs old ask Own (PoppedIndex index) =
      Own × AddsOne (read_word old.world.capacity) old.world.words ask
  SendActs old ask Own answer = ⊥

  -- A receive acts in its own turn: with an index as it adds 1 to the read position, with None only where nothing waits
  -- as it loads the write position.
  abbrev pub ReceiveActs : Trace T → Option Ask → Type 0 → Answer T → Type 0
  ReceiveActs old ask Own PoppedNone =
      Own × (ask ≡ Some (record { word = submission_word old.world.capacity; op = Load }))
      × (waiting old.events ≡ [])
  ReceiveActs old ask Own (PoppedIndex index) =
      Own × AddsOne (read_word old.world.capacity) old.world.words ask
  ReceiveActs old ask Own answer = ⊥

  -- a send acts as `SendActs` says, a receive as `ReceiveActs` says, and no other call acts
  abbrev pub ActsRight : Trace T → Option Ask → (ℕ → Type 0) → Event T → Type 0
  ActsRight old ask IsTurnOf (Acted p (Loan (calls.Send index)) answer) =
      SendActs old ask (IsTurnOf p) answer
  ActsRight old ask IsTurnOf (Acted p (Loan calls.Receive) answer) =
      ReceiveActs old ask (IsTurnOf p) answer
  ActsRight old ask IsTurnOf e = ⊥

  -- ---- the promise

  -- what a call that has finished with this answer has written; a call of another family has not begun
  abbrev pub wrote : ℕ → Start T → Answer T → List (Event T) → Type 0
  wrote slots (Loan start) answer events = Wrote start answer events
  wrote slots start answer events = ⊥

  -- how many steps a call takes at most; a call of another family does not begin
  abbrev pub most : (slots size : ℕ) → Start T → ℕ → ℕ
  most slots size (Loan start) backs = most_steps slots start backs
  most slots size start backs = 0

  -- what a loan channel promises of each run
  abbrev pub promise : Promise T
  promise =
      record {
        may_stand = may_stand;
        wrote = wrote;
        most_steps = most;
        acts_right = ActsRight;
        tells = λ old turn new. Unit {0};
        holds = IsChannel;
      }
