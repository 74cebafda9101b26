-- The objects as which calls answer that run whole: lists, sets of places, counts, a stack of free indices, and maps
-- from index to owner and value.
use Rattle.std.specs.Prelude.{ℕ, ◌==◌, Bool, true, false, not, Option, Some, None, is_some, Result, Ok, Err, List, [], ◌∷◌}
use Rattle.std.specs.Prelude.{if◌then◌else◌, length, map, slice_get, slice_index, slice_index_or}
use Rattle.std.specs.List.{count_by}
use Rattle.steps.specs.Objects.Counts as counts
use Rattle.steps.specs.Objects.Owners as owners
use Rattle.steps.specs.Objects.Owners.{Owners, Owned}
use Rattle.steps.specs.Objects.Places as places
use Rattle.steps.specs.Objects.Places.{Places}
use Rattle.steps.specs.Objects.Stacks as stacks
use Rattle.steps.specs.Objects.Stacks.{Stack}
use Rattle.steps.specs.declared.ask.Question.{Question}
use Rattle.steps.specs.declared.ask.Question.TheVariants as questions
use Rattle.steps.specs.declared.container.enums.ContainerAddFailure.{ContainerAddFailure}
use Rattle.steps.specs.declared.container.handle.ContainerHandle.{ContainerHandle}
use Rattle.steps.specs.declared.indices.enums.ReleaseMode.{ReleaseMode}
use Rattle.steps.specs.declared.indices.enums.ReleaseMode.TheVariants.{Default, LockIfLastIndex}
use Rattle.steps.specs.declared.indices.enums.ReleaseState.TheVariants.{Unlocked}
use Rattle.model.specs.declared.event.Answer.{Answer}
use Rattle.model.specs.declared.event.Answer.TheVariants.{Done, Truth, Number, Index, NoPlace, State}
use Rattle.model.specs.declared.event.Item.{Item}
use Rattle.model.specs.declared.event.Start.{Start}
use Rattle.model.specs.declared.event.Start.TheVariants.{Queues, Bits, Indices, Robust, Container}
use Rattle.model.specs.declared.families.bits.BitsStart.TheVariants as bits
use Rattle.model.specs.declared.families.container.ContainerStart.TheVariants as containers
use Rattle.model.specs.declared.families.indices.robust.RobustStart.TheVariants as robust
use Rattle.model.specs.declared.families.indices.IndexStart.TheVariants.{Acquire, Release, BorrowedIndices, IsLocked}
use Rattle.model.specs.declared.families.queues.QueueKind.{QueueKind}
use Rattle.model.specs.declared.families.queues.QueueStart.TheVariants.{PushIndex, Push, Pop, Peek, Len, IsEmpty, IsFull}
use Rattle.model.specs.Families.Bits.Calls.{reset_answer}
use Rattle.model.specs.Families.Container.Calls.{place_of, removed, replaced}
use Rattle.model.specs.Families.Indices.Calls.{acquire_answer}
use Rattle.model.specs.Families.Indices.Robust.Calls.{release_answer}
use Rattle.model.specs.Families.Queues.Objects.{answer_of_item, list_of}
use Rattle.model.specs.Linearizable.{Specification}
use Rattle.plain.specs.Contents as contents
use Rattle.plain.specs.Contents.{Contents}
use Rattle.plain.specs.States as states
use Rattle.plain.specs.States.{Snapshot}
use Rattle.plain.specs.Visited as visits
use Rattle.headline_whole.specs.Dialogues.{Dialogue, showing}

-- The handle to an index of a container for an owner. All indices past the capacity have one handle, whose
-- index nobody fills.
abbrev pub handle_to : (capacity index owner : ℕ) → ContainerHandle
handle_to capacity index owner =
    record { index = place_of capacity index; owner = owner; container = 0 }

-- a container, and what the state of each party shows, where it has one
pub record Viewed (T : Type 0) : Type 0 where
  pub contents : Contents T
  pub views : ℕ → Option (Snapshot T)

-- ---- what a find and a recovery are told

-- the indices that a find comes to: all of the list, or those up to the one at which it is told to stop
abbrev pub visited : List ℕ → List Bool → List ℕ
visited [] decisions = []
visited (index ∷ indices) (true ∷ decisions) = index ∷ visited indices decisions
visited (index ∷ indices) decisions = index ∷ []

-- the indices about which a recovery was told yes, with their owners
abbrev pub agreed : List Owned → List Bool → List Owned
agreed (o ∷ owned) (true ∷ decisions) = o ∷ agreed owned decisions
agreed (o ∷ owned) (false ∷ decisions) = agreed owned decisions
agreed owned decisions = []

-- the robust set after a recovery that was told these decisions
abbrev pub owners_freed : Owners → ReleaseMode → List Bool → Owners
owners_freed s mode decisions = owners.recovered mode s (agreed (owners.to_recover s) decisions)

module _ {T : Type 0} where
  -- ---- lists: the bounded one and the overflowing one, which also say how many values they have, and the bounded one its oldest

  -- the calls of a queue but those on its roles
  abbrev pub is_list_call : Start T → Bool
  is_list_call (Queues (PushIndex index)) = true
  is_list_call (Queues (Push value)) = true
  is_list_call (Queues Pop) = true
  is_list_call (Queues Peek) = true
  is_list_call (Queues Len) = true
  is_list_call (Queues IsEmpty) = true
  is_list_call (Queues IsFull) = true
  is_list_call start = false

  -- What a call of a queue answers if it runs whole on this list: a peek and the calls on the length as stated
  -- here, a push and a pop as `list_of` says.
  abbrev pub whole_list_answer : QueueKind → ℕ → List (Item T) → Start T → Answer T
  whole_list_answer kind capacity items (Queues Peek) = answer_of_item (slice_get items 0)
  whole_list_answer kind capacity items (Queues Len) = Number (length items)
  whole_list_answer kind capacity items (Queues IsEmpty) = Truth (length items == 0)
  whole_list_answer kind capacity items (Queues IsFull) = Truth (length items == capacity)
  whole_list_answer kind capacity items start = (list_of kind capacity).answer items start

  -- a queue as an object, for runs in which each call runs whole
  abbrev pub whole_list : QueueKind → ℕ → Specification T (List (Item T))
  whole_list kind capacity =
      record {
        is_call = is_list_call;
        object =
            record {
              opening = (list_of kind capacity).opening;
              after = (list_of kind capacity).after;
              answer = whole_list_answer kind capacity;
            };
      }

  -- ---- a set of places, and counts of places
  -- (a reset of all answers `Done`: what its closure hears is in no answer)

  -- the calls of a bit set, and of a counting bit set
  abbrev pub is_places_call : Start T → Bool
  is_places_call (Bits start) = true
  is_places_call start = false

  -- the set of places after a call of a bit set
  abbrev pub places_after : Places → Start T → Places
  places_after s (Bits (bits.Set place)) = places.with_place s place
  places_after s (Bits bits.ResetNext) = places.after_next s
  places_after s (Bits bits.ResetAll) = places.emptied s
  places_after s start = s

  -- what a call of a bit set answers
  abbrev pub places_answer : Places → Start T → Answer T
  places_answer s (Bits (bits.Set place)) = Truth (not (places.has s place))
  places_answer s (Bits bits.ResetNext) = reset_answer (places.next_place s)
  places_answer s (Bits (bits.IsSet place)) = Truth (places.has s place)
  places_answer s start = Done

  -- a bit set as an object, for runs in which each call runs whole
  abbrev pub whole_places : ℕ → Specification T Places
  whole_places capacity =
      record {
        is_call = is_places_call;
        object =
            record { opening = places.unset capacity; after = places_after; answer = places_answer };
      }

  -- the counts after a call of a counting bit set
  abbrev pub counts_after : ℕ → List ℕ → Start T → List ℕ
  counts_after capacity s (Bits (bits.Set place)) = counts.counted s place
  counts_after capacity s (Bits bits.ResetAll) = counts.uncounted capacity
  counts_after capacity s start = s

  -- what a call of a counting bit set answers: of a set the number before it
  abbrev pub counts_answer : List ℕ → Start T → Answer T
  counts_answer s (Bits (bits.Set place)) = Number (slice_index s place)
  counts_answer s (Bits (bits.Count place)) = Number (slice_index s place)
  counts_answer s start = Done

  -- a counting bit set as an object, for runs in which each call runs whole
  abbrev pub whole_counts : ℕ → Specification T (List ℕ)
  whole_counts capacity =
      record {
        is_call = is_places_call;
        object =
            record { opening = counts.uncounted capacity; after = counts_after capacity; answer = counts_answer };
      }

  -- ---- a stack of free indices: an acquire takes the top, and a release puts an index there

  -- the calls of a unique index set
  abbrev pub is_stack_call : Start T → Bool
  is_stack_call (Indices start) = true
  is_stack_call start = false

  -- the stack of free indices after a call of a unique index set
  abbrev pub stack_after : Stack → Start T → Stack
  stack_after s (Indices Acquire) = stacks.after_acquire s
  stack_after s (Indices (Release index Default)) = stacks.released s index
  stack_after s (Indices (Release index LockIfLastIndex)) = stacks.released_or_locked s index
  stack_after s start = s

  -- what a call of a unique index set answers
  abbrev pub stack_answer : Stack → Start T → Answer T
  stack_answer s (Indices Acquire) = acquire_answer (stacks.acquired s)
  stack_answer s (Indices (Release index Default)) = State Unlocked
  stack_answer s (Indices (Release index LockIfLastIndex)) = State (stacks.release_state s)
  stack_answer s (Indices BorrowedIndices) = Number (stacks.out s)
  stack_answer s (Indices IsLocked) = Truth s.locked
  stack_answer s start = Done

  -- a unique index set as an object, for runs in which each call runs whole
  abbrev pub whole_stack : ℕ → Specification T Stack
  whole_stack capacity =
      record {
        is_call = is_stack_call;
        object =
            record { opening = stacks.opened capacity; after = stack_after; answer = stack_answer };
      }

  -- ---- a map from index to owner: an acquire takes the lowest index that has none

  -- The map from index to owner after a call of a robust set, given what its caller decided at its questions.
  abbrev pub owners_after : Owners → Start T → List Bool → Owners
  owners_after s (Robust (robust.Acquire owner)) decisions = owners.after_acquire s owner
  owners_after s (Robust (robust.Release index owner mode)) decisions =
      owners.after_release s index owner mode
  owners_after s (Robust (robust.Recover mode)) decisions = owners_freed s mode decisions
  owners_after s (Robust robust.BorrowedIndices) decisions = owners.raised s
  owners_after s start decisions = s

  -- the questions that a call of a robust set puts while it is told these decisions
  abbrev pub owners_questions : Owners → Start T → List Bool → List (Question T)
  owners_questions s (Robust (robust.Find owner)) decisions =
      map (λ index. questions.Index index) (visited (owners.indices_of s owner) decisions)
  owners_questions s (Robust (robust.Recover mode)) decisions =
      map (λ (o : Owned). questions.Owned o.owner o.index) (owners.to_recover s)
  owners_questions s start decisions = []

  -- what a call of a robust set answers after these decisions
  abbrev pub owners_answer : Owners → Start T → List Bool → Answer T
  owners_answer s (Robust (robust.Acquire owner)) decisions = acquire_answer (owners.acquired s)
  owners_answer s (Robust (robust.Release index owner mode)) decisions =
      release_answer (owners.released s index owner mode)
  owners_answer s (Robust (robust.Find owner)) decisions =
      Number (length (visited (owners.indices_of s owner) decisions))
  owners_answer s (Robust (robust.Recover mode)) decisions =
      State (owners.state_of (owners_freed s mode decisions))
  owners_answer s (Robust robust.BorrowedIndices) decisions = Number (owners.borrowed s)
  owners_answer s (Robust robust.IsLocked) decisions = Truth (owners.is_locked s)
  owners_answer s start decisions = Done

  -- a robust set as an object, for runs in which each call runs whole
  abbrev pub whole_owners : ℕ → Dialogue T Owners
  whole_owners capacity =
      record {
        opening = owners.opened_at capacity 0;
        after = λ s call. owners_after s call.start call.decisions;
        reply = λ s call. record {
          questions = owners_questions s call.start call.decisions;
          answer = owners_answer s call.start call.decisions;
        };
      }

  -- ---- a map from index to owner and value

  -- The question of a find or a recovery about an index: it shows the value that stands at it.
  abbrev pub about : Contents T → ℕ → Question T
  about s index = showing (slice_index_or s.values index None) (questions.Value index tt)

  -- the container after a recovery that was told these decisions
  abbrev pub map_freed : Contents T → ℕ → ReleaseMode → List Bool → Contents T
  map_freed s owner mode decisions =
      visits.one_change (visits.all_freed mode s (agreed (visits.to_ask s owner) decisions))

  -- The contents of a container after a call, given what its caller decided at its questions.
  abbrev pub map_after : ℕ → Contents T → Start T → List Bool → Contents T
  map_after capacity s (Container (containers.Add value owner)) decisions =
      contents.after_add s owner value
  map_after capacity s (Container (containers.Remove index owner mode)) decisions =
      contents.after_remove s (handle_to capacity index owner) mode
  map_after capacity s (Container (containers.Replace index value owner)) decisions =
      contents.after_replace s (handle_to capacity index owner) value
  map_after capacity s (Container (containers.Recover owner mode)) decisions =
      map_freed s owner mode decisions
  map_after capacity s (Container containers.Len) decisions = contents.counted s
  map_after capacity s (Container containers.IsEmpty) decisions = contents.counted s
  map_after capacity s start decisions = s

  -- the questions that a call of a container puts while it is told these decisions
  abbrev pub map_questions : Contents T → Start T → List Bool → List (Question T)
  map_questions s (Container (containers.Find owner)) decisions =
      map (about s) (visited (owners.indices_of s.owners owner) decisions)
  map_questions s (Container (containers.Recover owner mode)) decisions =
      map (λ (o : Owned). about s o.index) (visits.to_ask s owner)
  map_questions s start decisions = []

  -- what an add of the container answers, by what it has ended with
  abbrev pub add_answer : Result ContainerHandle ContainerAddFailure → Answer T
  add_answer (Ok handle) = Index handle.index
  add_answer (Err failure) = NoPlace failure

  -- what a party's state shows, or nothing where it has none
  abbrev pub view_of : Contents T → Option (Snapshot T) → Snapshot T
  view_of s None = states.blank (contents.capacity s)
  view_of s (Some view) = view

  -- what a party's state shows after a call of the party: that of a new state, or what it showed brought up to date
  abbrev pub view_after : Contents T → Start T → Option (Snapshot T) → Option (Snapshot T)
  view_after s (Container containers.GetState) view =
      Some (states.updated s (states.blank (contents.capacity s)))
  view_after s (Container containers.UpdateState) view = Some (states.updated s (view_of s view))
  view_after s start view = view

  -- how many values a snapshot shows
  abbrev pub number_shown : Snapshot T → ℕ
  number_shown view = count_by is_some view.values

  -- the answer to a call of a party whose state shows `view`
  abbrev pub map_answer : ℕ → Contents T → Option (Snapshot T) → Start T → List Bool → Answer T
  map_answer capacity s view (Container (containers.Add value owner)) decisions =
      add_answer (contents.added s owner)
  map_answer capacity s view (Container (containers.Remove index owner mode)) decisions =
      removed (contents.removed s (handle_to capacity index owner) mode)
  map_answer capacity s view (Container (containers.Replace index value owner)) decisions =
      replaced (contents.replaced s (handle_to capacity index owner))
  map_answer capacity s view (Container (containers.Find owner)) decisions =
      Number (length (visited (owners.indices_of s.owners owner) decisions))
  map_answer capacity s view (Container (containers.Recover owner mode)) decisions =
      State (owners.state_of (map_freed s owner mode decisions).owners)
  map_answer capacity s view (Container containers.GetState) decisions =
      Number (number_shown (states.updated s (states.blank (contents.capacity s))))
  map_answer capacity s view (Container containers.UpdateState) decisions =
      Truth (not (s.changes == (view_of s view).changes))
  map_answer capacity s view (Container containers.Len) decisions = Number (contents.number s)
  map_answer capacity s view (Container containers.IsEmpty) decisions = Truth (contents.number s == 0)
  map_answer capacity s view (Container containers.IsLocked) decisions = Truth (contents.is_locked s)
  map_answer capacity s view start decisions = Done

  -- a container as an object, for runs in which each call runs whole; at its opening no party has a state
  abbrev pub whole_map : ℕ → Dialogue T (Viewed T)
  whole_map capacity =
      record {
        opening = record { contents = contents.opened capacity 0; views = λ p. None };
        after = λ s call. record {
          contents = map_after capacity s.contents call.start call.decisions;
          views = λ p.
              if p == call.party then view_after s.contents call.start (s.views p) else s.views p;
        };
        reply = λ s call. record {
          questions = map_questions s.contents call.start call.decisions;
          answer = map_answer capacity s.contents (s.views call.party) call.start call.decisions;
        };
      }
