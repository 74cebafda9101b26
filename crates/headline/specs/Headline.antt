-- What every machine does, at every admitted capacity, after every list of turns, whoever stops where.
use Rattle.std.specs.Prelude.{◌≡◌, ◌≢◌, ◌⊎◌, ◌<◌, ◌≤◌, ℕ, ◌+◌, Bool, true, false, Some, None, is_some, List, [], ◌∷◌, ◌++◌, map, slice_index}
use Rattle.steps.specs.Bits.Words.{stands}
use Rattle.steps.specs.Container.Layout.{change_word}
use Rattle.steps.specs.declared.container.state.ContainerState.{ContainerState}
use Rattle.steps.specs.declared.indices.enums.ReleaseMode.{ReleaseMode}
use Rattle.steps.specs.declared.indices.enums.ReleaseMode.TheVariants.{LockIfLastIndex}
use Rattle.steps.specs.declared.indices.enums.ReleaseState.TheVariants.{Unlocked}
use Rattle.model.specs.declared.event.Answer.{Answer}
use Rattle.model.specs.declared.event.Answer.TheVariants.{Done, Index, PoppedIndex, State, Truth, Number, Reset}
use Rattle.model.specs.declared.event.Event.TheVariants.{Freed, FreedOf, Asked, Copied, Shown, Finished}
use Rattle.model.specs.declared.event.Event.{Event}
use Rattle.model.specs.declared.event.Item.TheVariants as items
use Rattle.model.specs.declared.event.Start.{Start}
use Rattle.model.specs.declared.event.Start.TheVariants.{Bits, Indices, Robust, Container, Loan}
use Rattle.model.specs.declared.families.bits.BitsStart.TheVariants as bits
use Rattle.model.specs.declared.families.container.ContainerStart.TheVariants as containers
use Rattle.model.specs.declared.families.indices.IndexStart.TheVariants as indices
use Rattle.model.specs.declared.families.indices.robust.RobustStart.TheVariants.{Acquire, Find, Recover}
use Rattle.model.specs.declared.families.loan.LoanStart.TheVariants as channels
use Rattle.model.specs.declared.families.queues.QueueKind.{QueueKind}
use Rattle.model.specs.declared.families.queues.QueueKind.TheVariants as queues
use Rattle.model.specs.declared.party.Progress.{Progress}
use Rattle.model.specs.declared.turn.Kind.{Kind}
use Rattle.model.specs.declared.turn.Kind.TheVariants as kinds
use Rattle.model.specs.declared.turn.Turn.{Turn}
use Rattle.model.specs.declared.turn.Turn.TheVariants.{Next, Decide}
use Rattle.model.specs.Families.Bits.Promises.{CameTo}
use Rattle.model.specs.Families.Bits.Reading.{sets, clears, counts, takes}
use Rattle.model.specs.Families.Container.Looks.{state_in, shows, is_looking}
use Rattle.model.specs.Families.Container.Promises as container
use Rattle.model.specs.Families.Container.Promises.{IsWellFormedRun}
use Rattle.model.specs.Families.Container.Questions.{question_at}
use Rattle.model.specs.Families.Container.Reading.{contents_of, Copies, Sees, acts_of, places}
use Rattle.model.specs.Families.Indices.Robust.Promises as robust
use Rattle.model.specs.Families.Indices.Robust.Promises.{IsWellFormed, IsUnlocked, FilledSinceFreed, StillToFree, HeldThroughout}
use Rattle.model.specs.Families.Indices.Robust.Promises.{IsIn, asked_of, owned_of}
use Rattle.model.specs.Families.Indices.Robust.Reading.{filled_of, Fills, Grants, Frees, Asks, Yes, set_acts_of, wrote_in, IsOneOf, IsLatest}
use Rattle.model.specs.Families.Indices.Spans.{set_acts, claimed}
use Rattle.model.specs.Families.Loan.Promises.{sent_in, given_back_in}
use Rattle.model.specs.Families.Loan.Reading.{given_back, taken_back, receiver_of, has_died_by, queue_moments}
use Rattle.model.specs.Families.Loan.Reading as channel
use Rattle.model.specs.Families.Queues.Book.{waiting_in}
use Rattle.model.specs.Families.Queues.Objects.{overflowing_list}
use Rattle.model.specs.Families.Queues.Reading.{published, handed_out}
use Rattle.model.specs.Linearized.{as_list, as_value}
use Rattle.model.specs.Moments.{HeldSometime}
use Rattle.model.specs.Objects.{IsLegal}
use Rattle.model.specs.Progress.{guarantee_of, IsWithin}
use Rattle.model.specs.Promises.Turns.{IsParty, ask_in}
use Rattle.model.specs.Reading.{span_of}
use Rattle.model.specs.Turns.{words_after, one_if}
use Rattle.model.specs.World.{Trace, flight_in, progress_in}
use Rattle.laws_machine.specs.Changes.{changes_of, seen_by}
use Rattle.laws_machine.specs.Others.{queue_in}
use Rattle.laws_machine.specs.Questions.{waits_at, index_if, loads_cell}
use Rattle.headline.specs.Bounds.{most_steps}
use Rattle.headline.specs.Ends.{RobustFinds, ContainerFinds, Looks}
use Rattle.headline.specs.Holders.{holders, claims, fills, grants, loans, NoTwoHold, NoneOnceLocked, IsRelease, GivesBack}
use Rattle.headline.specs.Moments.{Follows, call_in, ActedOnce, AtMostOnce, ActAs}

module _ {T : Type 0} where
  -- How to read the fields: `Follows e before t.events` says that the run has written the event `e` right after the
  -- events `before`. So a field that asks it of `Finished p start answer` is about the end of a call of party p, and
  -- `before` is the run up to that end. `span_of p before` is that call with what it has written so far.

  -- ---- the queues and the value

  -- Each finished push and pop acts at one moment inside it on one bounded list, or on one that overflows. The values
  -- handed out are the first of those published, in order, and the rest waits in the cells.
  pub record QueueRuns (kind : QueueKind) (t : Trace T) : Type 0 where
    pub list : ActAs (as_list kind t.world.capacity) t.events
    pub conserved : published t.events
        ≡ handed_out t.events ++ waiting_in t.world.coding kind t.world.capacity t.world.words

  -- Each finished store and load acts at one moment inside it on one value: a load answers the latest store, whole, or
  -- the value of zeros where none has been made.
  pub record ValueRuns (t : Trace T) : Type 0 where
    pub value : ActAs (as_value t.world.coding) t.events

  -- ---- bits and counts are conserved

  -- What every run of a bit set keeps. Each bit was set as often as it was cleared, and once more if it
  -- stands. A set that answers true has set its bit once, and a reset of the next bit that answers a bit has
  -- cleared that bit once.
  pub record BitsRun (t : Trace T) : Type 0 where
    pub conserved : (b : ℕ) → sets b t.events ≡ clears b t.events + one_if (stands t.world.words b)
    pub set : (p b : ℕ) (before : List (Event T))
        → Follows (Finished p (Bits (bits.Set b)) (Truth true)) before t.events
        → sets b (wrote_in (span_of p before)) ≡ 1
    pub reset : (p b : ℕ) (before : List (Event T))
        → Follows (Finished p (Bits bits.ResetNext) (Reset b)) before t.events
        → clears b (wrote_in (span_of p before)) ≡ 1
    -- Such a reset came to its bit by going through the places from where the reset position stood at a
    -- moment of the call. Each place that it passed was clear at a moment of the call.
    pub reset_came : (p b : ℕ) (before : List (Event T))
        → Follows (Finished p (Bits bits.ResetNext) (Reset b)) before t.events
        → CameTo p t.world.capacity b before

  -- What every run of a counting bit set keeps. The number of times that a place was counted is what was
  -- taken out of it plus what it counts now. A set has counted its place once.
  pub record CountsRun (t : Trace T) : Type 0 where
    pub conserved : (b : ℕ) → counts b t.events ≡ takes b t.events + slice_index t.world.words b
    pub counted : (p b number : ℕ) (before : List (Event T))
        → Follows (Finished p (Bits (bits.Set b)) (Number number)) before t.events
        → counts b (wrote_in (span_of p before)) ≡ 1

  -- ---- unique indices

  -- What every run of a unique index set keeps. No index has two holders, and none has one once the set is
  -- locked. An acquire that answers an index has claimed it in that call, and an index is freed only by its
  -- holder, in a release of it.
  pub record IndicesRun (t : Trace T) : Type 0 where
    -- No index has two holders.
    pub no_two_hold : NoTwoHold claims t.events
    -- No index has a holder once the set is locked.
    pub none_once_locked : NoneOnceLocked claims t.events
    -- An acquire that answers an index has claimed it and done nothing else to the set, which has that index.
    pub acquired : (p index : ℕ) (before : List (Event T))
        → Follows (Finished p (Indices indices.Acquire) (Index index)) before t.events
        → (set_acts (wrote_in (span_of p before)) ≡ claimed index) × (index < t.world.capacity)
    -- Who frees an index is its one holder, in a release of it.
    pub freed : (p index : ℕ) (before : List (Event T))
        → Follows (Freed p index) before t.events
        → (holders claims index before ≡ p ∷ []) × IsRelease index (call_in (span_of p before))

  -- ---- indices of owners

  -- What every run of a robust set keeps. An index is filled for an owner as soon as its cell has the
  -- owner, and granted (from then on held) once the same acquire has found the set unlocked. Where a
  -- field asks for it, the run is well-formed: each release that freed an index was begun while its owner
  -- might give that index back.
  pub record RobustRuns (t : Trace T) : Type 0 where
    -- No index is filled for two owners.
    pub no_two_fill : NoTwoHold fills t.events
    -- No index has two holders.
    pub no_two_hold : IsWellFormed t.events → NoTwoHold grants t.events
    -- No index has a holder once the set is locked.
    pub none_once_locked : IsWellFormed t.events → NoneOnceLocked grants t.events
    -- An acquire that answers an index has filled it for its owner and was granted it, and the set has that index.
    pub acquired : (p index owner : ℕ) (before : List (Event T))
        → Follows (Finished p (Robust (Acquire owner)) (Index index)) before t.events
        → (set_acts_of p before ≡ Fills index owner ∷ Grants index owner ∷ []) × (index < t.world.capacity)
    -- An index that is freed was filled for that owner. A release of it for the owner frees it, or a recovery
    -- that was told to free it.
    pub freed : (p index owner : ℕ) (before : List (Event T))
        → Follows (FreedOf p index owner) before t.events
        → (holders fills index before ≡ owner ∷ []) × GivesBack p index owner before
    -- A recovery that answers Unlocked has left an owner no index of its own that the recovery was told to free.
    pub recovered : (p index owner : ℕ) (mode : ReleaseMode) (before : List (Event T))
        → Follows (Finished p (Robust (Recover mode)) (State Unlocked)) before t.events
        → IsOneOf (Yes index owner) (set_acts_of p before)
        → filled_of index before ≢ Some owner
    -- A recovery that answers Unlocked has asked about each index that one owner filled during the whole
    -- call, or until the call itself freed it.
    pub asked_each : (p index owner : ℕ) (mode : ReleaseMode) (before : List (Event T))
        → Follows (Finished p (Robust (Recover mode)) (State Unlocked)) before t.events
        → HeldThroughout p (StillToFree p owner index) before
        → IsOneOf (Asks index owner) (set_acts_of p before)
    -- A recovery in the mode that locks answers Unlocked only if, for each index that it freed, some index stood
    -- filled at a moment of the call after that.
    pub locks : (p index owner : ℕ) (before : List (Event T))
        → Follows (Finished p (Robust (Recover LockIfLastIndex)) (State Unlocked)) before t.events
        → IsOneOf (Frees index owner) (set_acts_of p before)
        → FilledSinceFreed p owner index before
    -- The number that a find answers counts indices of the set up to a bound: each that its owner filled during the
    -- whole call, and none that the owner filled at no moment of it.
    pub found : (p owner number : ℕ) (before : List (Event T))
        → Follows (Finished p (Robust (Find owner)) (Number number)) before t.events
        → robust.IsFound p owner t.world.capacity number before

  -- ---- the container

  -- With this event the party visits an index of a container: it copies the value that stands at it, is shown
  -- that none does, or frees it.
  abbrev pub IsVisit : ℕ → Event T → Type 0
  IsVisit p (Copied q index value) = q ≡ p
  IsVisit p (Shown q index) = q ≡ p
  IsVisit p (FreedOf q index owner) = q ≡ p
  IsVisit p e = ⊥

  -- What every run of a container keeps. A run is well-formed if each remove that freed an index was begun
  -- while its owner might give that index back (`IsWellFormed`), and, for what is said of values, each
  -- replace while its owner might replace (`IsWellFormedRun`).
  pub record ContainerRuns (t : Trace T) : Type 0 where
    -- No index is filled for two owners.
    pub no_two_fill : NoTwoHold fills t.events
    -- No index has two holders.
    pub no_two_hold : IsWellFormed t.events → NoTwoHold grants t.events
    -- No index has a holder once the container is locked.
    pub none_once_locked : IsWellFormed t.events → NoneOnceLocked grants t.events
    -- An add that answers an index has filled it for its owner and was granted it, and the container has that index.
    pub acquired : (p index owner : ℕ) (value : T) (before : List (Event T))
        → Follows (Finished p (Container (containers.Add value owner)) (Index index)) before t.events
        → (set_acts_of p before ≡ Fills index owner ∷ Grants index owner ∷ []) × (index < t.world.capacity)
    -- An index that is freed was filled for that owner. A remove for the owner frees it, or a recovery of the owner
    -- that was told to free it or was shown it empty.
    pub freed : (p index owner : ℕ) (before : List (Event T))
        → Follows (FreedOf p index owner) before t.events
        → (holders fills index before ≡ owner ∷ []) × GivesBack p index owner before
    -- In a well-formed run, what a call copies from an index is the value that stands at it, whole.
    pub copied : IsWellFormedRun t → (p index : ℕ) (value : T) (before : List (Event T))
        → Follows (Copied p index value) before t.events
        → contents_of index before ≡ Some value
    -- In a well-formed run, an add that answers an index has placed its value at that index,
    -- and no other value.
    pub added : IsWellFormedRun t → (p index owner : ℕ) (value : T) (before : List (Event T))
        → Follows (Finished p (Container (containers.Add value owner)) (Index index)) before t.events
        → places (acts_of p before) ≡ (index, value) ∷ []
    -- In a well-formed run, a replace that answers Done has placed its value at its index,
    -- and no other value.
    pub replaced : IsWellFormedRun t → (p index owner : ℕ) (value : T) (before : List (Event T))
        → Follows (Finished p (Container (containers.Replace index value owner)) Done) before t.events
        → places (acts_of p before) ≡ (index, value) ∷ []
    -- A question of a find or a recovery is about the value that its call has copied last, and about the
    -- index of that value.
    pub asked : (p index : ℕ) (value : T) → question_at t p ≡ Some (index, value)
        → IsLatest (Copies index value) (acts_of p t.events)
    -- While a party has no look under way, it has copied each value that its state shows.
    pub shown : (p index : ℕ) (state : ContainerState T) (value : T)
        → is_looking (flight_in t.world p) ≡ false
        → state_in t.world.kept p ≡ Some state
        → shows state index ≡ Some value
        → IsOneOf (Copied p index value) t.events
    -- A recovery that answers Unlocked has left its owner no index that it was told to free or was shown empty.
    pub recovered : (p index owner : ℕ) (mode : ReleaseMode) (before : List (Event T))
        → Follows (Finished p (Container (containers.Recover owner mode)) (State Unlocked)) before t.events
        → IsOneOf (Yes index owner) (set_acts_of p before) ⊎ IsOneOf (Sees index) (acts_of p before)
        → filled_of index before ≢ Some owner
    -- A recovery that answers Unlocked has asked about each index that its owner filled during the whole
    -- call, or until the call itself freed it, or was shown it empty.
    pub asked_each : (p index owner : ℕ) (mode : ReleaseMode) (before : List (Event T))
        → Follows (Finished p (Container (containers.Recover owner mode)) (State Unlocked)) before t.events
        → HeldThroughout p (StillToFree p owner index) before
        → IsOneOf (Asks index owner) (set_acts_of p before) ⊎ IsOneOf (Sees index) (acts_of p before)
    -- A recovery in the mode that locks answers Unlocked only if, for each index that it freed, some index stood
    -- filled at a moment of the call after that.
    pub locks : (p index owner : ℕ) (before : List (Event T))
        → Follows (Finished p (Container (containers.Recover owner LockIfLastIndex)) (State Unlocked)) before t.events
        → IsOneOf (Frees index owner) (set_acts_of p before)
        → FilledSinceFreed p owner index before
    -- A recovery that comes to an index met the container unlocked at a moment of the call: one that began after the
    -- lock comes to none.
    pub visits : (p owner : ℕ) (mode : ReleaseMode) (e : Event T) (before : List (Event T))
        → IsVisit p e
        → Follows e before t.events
        → call_in (span_of p before) ≡ Some (Container (containers.Recover owner mode))
        → HeldSometime p IsUnlocked before
    -- The number that a find answers counts indices of the container up to a bound: each that its owner filled during
    -- the whole call, and none that the owner filled at no moment of it.
    pub found : (p owner number : ℕ) (before : List (Event T))
        → Follows (Finished p (Container (containers.Find owner)) (Number number)) before t.events
        → container.IsFound p owner t.world.capacity number before
    -- A call waits for a decision exactly where it asks about a value.
    pub waits : (p : ℕ) → waits_at t p ≡ is_some (question_at t p)
    -- The number of changes counts the adds, removes and replaces that succeeded, and the recoveries.
    pub changes : slice_index t.world.words (change_word t.world.capacity) ≡ changes_of t.events
    -- An update of a state that answers true has met a change since the look began that last brought that state up to date.
    pub met : (p : ℕ) (before : List (Event T))
        → Follows (Finished p (Container containers.UpdateState) (Truth true)) before t.events
        → (seen_by p before).least < changes_of before
    -- An update that answers false has met no change since the look ended that last brought
    -- the state up to date.
    pub met_none : (p : ℕ) (before : List (Event T))
        → Follows (Finished p (Container containers.UpdateState) (Truth false)) before t.events
        → changes_of before ≡ (seen_by p before).most

  -- ---- the loan channel, with a submission queue of this capacity

  -- Why a reclaim may free an index that the party has not: the receiver has died, and the index
  -- was with the receiver.
  pub record IsLeftOver (p index : ℕ) (before : List (Event T)) : Type 0 where
    pub reclaims : call_in (span_of p before) ≡ Some (Loan channels.Reclaim)
    pub dead : has_died_by (receiver_of before) before ≡ true
    pub held : holders loans index before ≡ receiver_of before ∷ []

  -- The calls that act on the list of a loan channel's submission queue: sends and receives.
  abbrev pub is_send_or_receive : Start T → Bool
  is_send_or_receive (Loan (channels.Send index)) = true
  is_send_or_receive (Loan channels.Receive) = true
  is_send_or_receive start = false

  -- What every run of a loan channel keeps. Its sends and receives act as the pushes and pops of one list that
  -- overflows, each at one moment inside the call.
  pub record ChannelRuns (queue : ℕ) (t : Trace T) : Type 0 where
    -- The submission queue has this capacity.
    pub length : queue_in t.world.kept ≡ Some queue
    -- No index is with two parties.
    pub no_two_hold : NoTwoHold loans t.events
    -- A loan that answers an index has claimed it, and the channel has that index.
    pub acquired : (p index : ℕ) (before : List (Event T))
        → Follows (Finished p (Loan channels.Loan) (Index index)) before t.events
        → (channel.claimed (wrote_in (span_of p before)) ≡ index ∷ []) × (index < t.world.capacity)
    -- A receive that answers an index has taken it out of the submission queue.
    pub received : (p index : ℕ) (before : List (Event T))
        → Follows (Finished p (Loan channels.Receive) (PoppedIndex index)) before t.events
        → (handed_out (wrote_in (span_of p before)) ≡ items.Index index ∷ []) × (index < t.world.capacity)
    -- An index is freed by the party that has it, or by a reclaim if a receiver had it that has died.
    pub freed : (p index : ℕ) (before : List (Event T))
        → Follows (Freed p index) before t.events
        → (holders loans index before ≡ p ∷ []) ⊎ IsLeftOver p index before
    -- Each finished send and receive acts at one moment inside it.
    pub inside : (p : ℕ) (start : Start T) (answer : Answer T) (before : List (Event T))
        → is_send_or_receive start ≡ true
        → Follows (Finished p start answer) before t.events
        → ActedOnce p start answer before
    -- No call acts more than once.
    pub once : AtMostOnce t.events
    -- In the order of these moments sends and receives act on one list that overflows. A reclaim pops from
    -- that list what it takes out of the queue.
    pub list : IsLegal (overflowing_list queue) (queue_moments t.events)
    -- What waits in the submission queue was sent there and not yet taken out.
    pub sent : published t.events
        ≡ handed_out t.events ++ sent_in t.world.coding t.world.capacity queue t.world.words
    -- What waits in the completion queue was given back there and not yet taken out.
    pub returned : map items.Index (given_back t.events)
        ≡ map items.Index (taken_back t.events)
        ++ given_back_in t.world.coding t.world.capacity queue t.world.words

  -- what every run of a machine of this kind keeps; a loan channel's submission queue has the capacity `queue`
  abbrev pub Runs : Kind → ℕ → Trace T → Type 0
  Runs kinds.IndexQueue queue t = QueueRuns queues.IndexQueue t
  Runs kinds.Overflow queue t = QueueRuns queues.Overflow t
  Runs kinds.Queue queue t = QueueRuns queues.Queue t
  Runs kinds.Atomic queue t = ValueRuns t
  Runs kinds.Bits queue t = BitsRun t
  Runs kinds.Counts queue t = CountsRun t
  Runs kinds.Indices queue t = IndicesRun t
  Runs kinds.Robust queue t = RobustRuns t
  Runs kinds.Container queue t = ContainerRuns t
  Runs kinds.Loan queue t = ChannelRuns queue t

  -- ---- any kind

  -- How much each party's latest call has done.
  pub record MakesProgress (t : Trace T) : Type 0 where
    -- Each turn back to the start of a loop is paid by a change that another party has made to a word since the call began.
    pub paid : (p : ℕ) (g : Progress) → progress_in t.world p ≡ Some g → g.backs ≤ g.others
    -- The steps of a call, which are its operations on words, are bounded by how often it has turned back to
    -- the start of a loop.
    pub bounded : (p : ℕ) (start : Start T) (g : Progress)
        → call_in (span_of p t.events) ≡ Some start
        → progress_in t.world p ≡ Some g
        → g.steps
        ≤ most_steps t.world.kind t.world.capacity t.world.coding.size start g.backs
    -- A call that is wait-free or obstruction-free keeps within the constants of that guarantee.
    pub guaranteed : (p : ℕ) (start : Start T) (g : Progress)
        → call_in (span_of p t.events) ≡ Some start
        → progress_in t.world p ≡ Some g
        → IsWithin (guarantee_of t.world.kind t.world.capacity t.world.coding.size start) g

  -- what holds of a machine after any turns; a loan channel was made with a submission queue of this capacity
  pub record Holds (queue : ℕ) (t : Trace T) : Type 0 where
    pub runs : Runs t.world.kind queue t
    pub progress : MakesProgress t

  -- ---- one turn

  -- What a turn that was taken does.
  pub record Takes (old : Trace T) (turn : Turn T) (new : Trace T) : Type 0 where
    -- It changes one word at most, as the operation says that the turn asks for.
    pub one_word : new.world.words ≡ words_after old.world.words (ask_in old.world turn)
    -- The calls of all other parties stay where they stood.
    pub others_stay : (q : ℕ) → ¬ IsParty turn q → flight_in new.world q ≡ flight_in old.world q
    -- Its events come after all earlier ones, which stay as they are.
    pub grows : (wrote : List (Event T)) × (new.events ≡ old.events ++ wrote)
    -- The capacity of a submission queue stays as it was.
    pub keeps_queue : queue_in new.world.kept ≡ queue_in old.world.kept
    -- A turn `Next` in which the call asks for no operation ends that call. So no call takes
    -- such turns for ever.
    pub ends : (p : ℕ) → turn ≡ Next p → ask_in old.world turn ≡ None → flight_in new.world p ≡ None
    -- If a turn of a robust set writes that a call asks about an owner's index, the call then asks about that index of that owner.
    pub asks : old.world.kind ≡ kinds.Robust → (p index owner : ℕ) (wrote : List (Event T))
        → new.events ≡ old.events ++ wrote
        → IsOneOf (Asked p index owner) wrote
        → owned_of new.world.coding (flight_in new.world p) ≡ Some (index, owner)
    -- A find of a robust set that loads a cell then asks about its index if the owner of the find fills it, and else about none.
    pub finds : old.world.kind ≡ kinds.Robust → (p index owner : ℕ) → turn ≡ Next p
        → IsIn p (Robust (Find owner)) old
        → ask_in old.world turn ≡ Some (loads_cell index)
        → asked_of new.world.coding (flight_in new.world p)
        ≡ index_if owner index (filled_of index old.events)
    -- In a robust set and in a container a call that was given a decision does not wait for
    -- another one right after it.
    pub answered : (old.world.kind ≡ kinds.Robust) ⊎ (old.world.kind ≡ kinds.Container)
        → (p : ℕ) (said : Bool) → turn ≡ Decide p said
        → waits_at new p ≡ false
    -- When a find ends in this turn, its number is that of its owner's indices, as `RobustFinds` and
    -- `ContainerFinds` state.
    pub found : old.world.kind ≡ kinds.Robust → RobustFinds old turn new
    pub found_there : old.world.kind ≡ kinds.Container → ContainerFinds old turn new
    -- When a look at a container ends in this turn, it has left its party a state, which shows what stood in
    -- the container during the look.
    pub looked : old.world.kind ≡ kinds.Container → Looks old new
