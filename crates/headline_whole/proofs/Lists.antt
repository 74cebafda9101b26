-- Queues whose calls run whole: pushes and pops answer as they act, a call that counts tells how many values wait, and a peek
-- which is the oldest.
use Rattle.std.proofs.Common.{◌≡◌, ℕ, zero, suc, ◌==◌, Bool, true, false, None, List, [], ◌∷◌, ◌++◌, length, drop, nat_lt}
use Rattle.std.proofs.Common.{refl, sym, ap, subst, ◌∙◌, append_assoc, append-nil, arith, if◌then◌else◌}
use Rattle.std.proofs.Math.Seq.{drop-append_seam}
use Rattle.std.proofs.lemmas.List.Concat.{flat_map-append}
use Rattle.std.specs.List.{flat_map, slice_get}
use Rattle.model.specs.declared.event.Answer.{Answer}
use Rattle.model.specs.declared.event.Answer.TheVariants.{Truth, Number}
use Rattle.model.specs.declared.event.Event.{Event}
use Rattle.model.specs.declared.event.Event.TheVariants.{Begun, Published, HandedOut, Finished, Died}
use Rattle.model.specs.declared.event.Item.{Item}
use Rattle.model.specs.declared.event.Item.TheVariants as items
use Rattle.model.specs.declared.event.Start.{Start}
use Rattle.model.specs.declared.event.Start.TheVariants as starts
use Rattle.model.specs.declared.families.queues.QueueKind.{QueueKind}
use Rattle.model.specs.declared.families.queues.QueueKind.TheVariants.{IndexQueue, Overflow, Queue}
use Rattle.model.specs.declared.families.queues.QueueStart.{QueueStart}
use Rattle.model.specs.declared.families.queues.QueueStart.TheVariants as calls
use Rattle.model.specs.Families.Queues.Objects.{list_of, answer_of_item}
use Rattle.model.specs.Families.Queues.Promises as of_queue
use Rattle.model.specs.Families.Queues.Reading.{publishes, hands_out, published, handed_out, waiting}
use Rattle.model.specs.Families.Queues.Spans.{Wrote, moments_of, through_cells, published_by_push, published_by, handed_out_by, handed_out_in}
use Rattle.model.specs.Families.Queues.Spans.{push_of, HandsOut}
use Rattle.model.specs.Linearizable.{Specification}
use Rattle.model.specs.Linearized.{is_push_or_pop}
use Rattle.model.specs.Moments.{BeginsNone, HeldSometime}
use Rattle.model.specs.Objects.{Object}
use Rattle.model.specs.Promises.{IsKeptBy}
use Rattle.model.specs.Reading.{Span}
use Rattle.model.specs.Shape.{IsShut}
use Rattle.model.specs.World.{Trace}
use Rattle.model.proofs.Moments.{held_now}
use Rattle.headline_whole.specs.Objects.{is_list_call, whole_list}
use Rattle.headline_whole.specs.Whole.{RunsWhole, AnswersAs}
use Rattle.headline_whole.proofs.Courses.{NoneEnds}
use Rattle.headline_whole.proofs.Moments.{no_call, now, still_now, mourned, quiet_now, once_ended, acted, answers_then}
use Rattle.headline_whole.proofs.WithoutQuestions.{HasAnswered}
use Rattle.headline_whole.proofs.Sequential.{of_parties, whole_call, ReadsEffects, reads_same, reads_call, open_shut, rests}

not_zero : {A : Type 0} (less : ℕ) → suc less ≡ 0 → A
not_zero less is_zero = absurd (omega arith)

-- A list that is a part of the empty list is empty.
no_first : {A : Type 0} (xs ys : List A) → xs ++ ys ≡ [] → xs ≡ []
no_first [] ys both_empty = refl
no_first (x ∷ xs) ys both_empty = absurd (cc)

module _ {T : Type 0} where
  -- ---- pushes and pops

  -- the list and what the call publishes are what it hands out and the list that it leaves; without capacity that is empty
  abbrev Conserves : QueueKind → ℕ → QueueStart T → List (Item T) → Type 0
  Conserves kind capacity start list =
      (list ++ published_by kind capacity start ((list_of kind capacity).answer list (starts.Queues start))
      ≡ handed_out_in kind capacity start ((list_of kind capacity).answer list (starts.Queues start))
      ++ (list_of kind capacity).after list (starts.Queues start))
      × (capacity ≡ 0 → (list_of kind capacity).after list (starts.Queues start) ≡ [])

  -- In a queue with some capacity each value goes through the cells.
  through : (kind : QueueKind) (less : ℕ) (item : Item T) → through_cells kind (suc less) item ≡ item ∷ []
  through IndexQueue less item = refl
  through Overflow less item = refl
  through Queue less item = refl

  -- The front of the list is what an answer with it hands out, and the rest stays.
  front_leaves : (kind : QueueKind) (less : ℕ) (list : List (Item T))
      → list ≡ handed_out_by kind (suc less) (answer_of_item (slice_get list 0)) ++ drop 1 list
  front_leaves kind less [] = refl
  front_leaves kind less (items.Index index ∷ list) = ap (λ (xs : List (Item T)). xs ++ list) (sym (through kind less (items.Index index)))
  front_leaves kind less (items.Value value ∷ list) = ap (λ (xs : List (Item T)). xs ++ list) (sym (through kind less (items.Value value)))

  -- what is handed out is the front, and the rest is left, where the list is too long
  front_cut : (less : ℕ) (list : List (Item T)) (long : Bool)
      → list ≡ handed_out_by Overflow (suc less) (answer_of_item (if long then slice_get list 0 else None)) ++ (if long then drop 1 list else list)
  front_cut less list true = front_leaves Overflow less list
  front_cut less list false = refl

  -- A push of an index that is taken publishes its index at the end of the list, and one that is
  -- not taken publishes nothing.
  index_taken : (capacity : ℕ) (list : List (Item T)) (item : Item T) (room : Bool)
      → list ++ published_by_push IndexQueue capacity item (Truth room) ≡ (if room then list ++ item ∷ [] else list)
  index_taken capacity list item true = refl
  index_taken capacity list item false = append-nil list

  -- A push of a value that is taken publishes its value at the end of the list, and one that is
  -- not taken publishes nothing.
  value_taken : (capacity : ℕ) (list : List (Item T)) (item : Item T) (room : Bool)
      → list ++ published_by_push Queue capacity item (Truth room) ≡ (if room then list ++ item ∷ [] else list)
  value_taken capacity list item true = refl
  value_taken capacity list item false = append-nil list

  -- with a capacity, each push and pop conserves what it finds in the list
  some_conserve : (kind : QueueKind) (less : ℕ) (start : QueueStart T) (list : List (Item T)) → is_push_or_pop (starts.Queues start) ≡ true
      → Conserves kind (suc less) start list
  some_conserve IndexQueue less (calls.PushIndex index) list is =
      (index_taken (suc less) list (items.Index index) (nat_lt (length list) (suc less)), not_zero less)
  some_conserve IndexQueue less (calls.Push value) list is = (index_taken (suc less) list (items.Value value) (nat_lt (length list) (suc less)), not_zero less)
  some_conserve IndexQueue less calls.Pop list is = (append-nil list ∙ front_leaves IndexQueue less list, not_zero less)
  some_conserve Overflow less (calls.PushIndex index) list is =
      (front_cut less (list ++ items.Index index ∷ []) (nat_lt (suc less) (length (list ++ items.Index index ∷ []))), not_zero less)
  some_conserve Overflow less (calls.Push value) list is =
      (front_cut less (list ++ items.Value value ∷ []) (nat_lt (suc less) (length (list ++ items.Value value ∷ []))), not_zero less)
  some_conserve Overflow less calls.Pop list is = (append-nil list ∙ front_leaves Overflow less list, not_zero less)
  some_conserve Queue less (calls.PushIndex index) list is = (value_taken (suc less) list (items.Index index) (nat_lt (length list) (suc less)), not_zero less)
  some_conserve Queue less (calls.Push value) list is = (value_taken (suc less) list (items.Value value) (nat_lt (length list) (suc less)), not_zero less)
  some_conserve Queue less calls.Pop list is = (append-nil list ∙ front_leaves Queue less list, not_zero less)
  some_conserve kind less start list is = absurd (cc)

  -- without capacity, each push and pop conserves the empty list
  none_conserve : (kind : QueueKind) (start : QueueStart T) → is_push_or_pop (starts.Queues start) ≡ true → Conserves kind 0 start []
  none_conserve IndexQueue (calls.PushIndex index) pushes_or_pops = (refl, λ z. refl)
  none_conserve IndexQueue (calls.Push value) pushes_or_pops = (refl, λ z. refl)
  none_conserve IndexQueue calls.Pop pushes_or_pops = (refl, λ z. refl)
  none_conserve Overflow (calls.PushIndex index) pushes_or_pops = (refl, λ z. refl)
  none_conserve Overflow (calls.Push value) pushes_or_pops = (refl, λ z. refl)
  none_conserve Overflow calls.Pop pushes_or_pops = (refl, λ z. refl)
  none_conserve Queue (calls.PushIndex index) pushes_or_pops = (refl, λ z. refl)
  none_conserve Queue (calls.Push value) pushes_or_pops = (refl, λ z. refl)
  none_conserve Queue calls.Pop pushes_or_pops = (refl, λ z. refl)
  none_conserve kind start pushes_or_pops = absurd (cc)

  -- A push or pop conserves the values of the list, as `Conserves` says, with capacity or without.
  conserves : (kind : QueueKind) (capacity : ℕ) (start : QueueStart T) (list : List (Item T)) → is_push_or_pop (starts.Queues start) ≡ true
      → (capacity ≡ 0 → list ≡ []) → Conserves kind capacity start list
  conserves kind zero start list pushes_or_pops none = subst (Conserves kind 0 start) (sym (none refl)) (none_conserve kind start pushes_or_pops)
  conserves kind (suc less) start list pushes_or_pops none = some_conserve kind less start list pushes_or_pops

  -- what was published is what was handed out, and then the list: as events go on
  conserved : (events es : List (Event T)) (old new : List (Item T)) → published events ≡ handed_out events ++ old
      → old ++ published es ≡ handed_out es ++ new → published (events ++ es) ≡ handed_out (events ++ es) ++ new
  conserved events es old new so more =
      flat_map-append publishes events es
      ∙ (ap (λ (xs : List (Item T)). xs ++ published es) so
      ∙ (append_assoc (handed_out events) old (published es)
      ∙ (ap (λ (xs : List (Item T)). handed_out events ++ xs) more
      ∙ (sym (append_assoc (handed_out events) (handed_out es) new)
      ∙ ap (λ (xs : List (Item T)). xs ++ new) (sym (flat_map-append hands_out events es))))))

  -- ---- a moment of a call

  -- A party that begins no call in some events has no begin among them.
  begins_there : (p : ℕ) (start : Start T) (begun since : List (Event T)) → BeginsNone p (begun ++ Begun p start ∷ since) → ⊥
  begins_there p start [] since none = none.0 refl
  begins_there p start (Begun q call ∷ begun) since none = begins_there p start begun since none.1
  begins_there p start (e ∷ begun) since none = begins_there p start begun since none

  -- a reading that finds nothing in the call finds at that moment what it found as the call began
  as_begun : {A : Type 0} (read : Event T → List A) → ReadsEffects read → (p : ℕ) (start : Start T) (part rest begun since : List (Event T))
      → begun ++ Begun p start ∷ since ≡ part ++ rest → BeginsNone p rest → flat_map read since ≡ [] → flat_map read part ≡ flat_map read begun
  as_begun read effects p start [] rest begun since split within none =
      absurd (begins_there p start begun since (subst (BeginsNone p) (sym split) within))
  as_begun read effects p start (e ∷ part) rest [] since split within none =
      let head : Begun p start ≡ e = cc in
      let tail : since ≡ part ++ rest = cc in
      let quiet =
      no_first (flat_map read part) (flat_map read rest)
      (sym (flat_map-append read part rest) ∙ (ap (λ (es : List (Event T)). flat_map read es) (sym tail) ∙ none)) in
      (λ i. read (sym head i) ++ quiet i) ∙ (append-nil (read (Begun p start)) ∙ effects.begun p start)
  as_begun read effects p start (e ∷ part) rest (b ∷ begun) since split within none =
      let head : b ≡ e = cc in
      let tail : begun ++ Begun p start ∷ since ≡ part ++ rest = cc in
      (λ i. read (sym head i) ++ as_begun read effects p start part rest begun since tail within none i)

  -- ---- the queues

  publishes_effects : ReadsEffects (publishes {T = T})
  publishes_effects = record { begun = λ p start. refl; finished = λ p start answer. refl; died = λ owner. refl }

  hands_out_effects : ReadsEffects (hands_out {T = T})
  hands_out_effects = record { begun = λ p start. refl; finished = λ p start answer. refl; died = λ owner. refl }

  -- No publication and no handing out comes while its party has no call under way.
  open_only : (kind : QueueKind) (e : Event T) (span : Span T) → IsShut span → of_queue.may_stand kind e span → ⊥
  open_only kind (Published p item) span shut may = open_shut (λ call. call ≡ push_of item) (λ wrote. published wrote ≡ []) span shut may
  open_only kind (HandedOut p item) span shut may = open_shut (HandsOut kind) (λ wrote. handed_out wrote ≡ []) span shut may
  open_only kind e span shut may = may

  -- the list is empty at first, and calls that count and peeks leave it
  first_and_counts : (kind : QueueKind) (capacity : ℕ) (xs : List (Item T))
      → (◌≡◌ {A = List (Item T)} (list_of kind capacity).opening []) × ((list_of kind capacity).after xs (starts.Queues calls.Len) ≡ xs)
      × ((list_of kind capacity).after xs (starts.Queues calls.IsEmpty) ≡ xs) × ((list_of kind capacity).after xs (starts.Queues calls.IsFull) ≡ xs)
      × ((list_of kind capacity).after xs (starts.Queues calls.Peek) ≡ xs)
  first_and_counts IndexQueue capacity xs = (refl, refl, refl, refl, refl)
  first_and_counts Overflow capacity xs = (refl, refl, refl, refl, refl)
  first_and_counts Queue capacity xs = (refl, refl, refl, refl, refl)

module _ {T : Type 0} (kind : QueueKind) (t : Trace T) (kept : IsKeptBy (of_queue.promise kind) t) (runs : RunsWhole t.events) where
  -- The queue as an object, for calls that run whole.
  abbrev spec : Specification T (List (Item T))
  spec = whole_list kind t.world.capacity

  -- The list on which pushes and pops act.
  abbrev acting : Object T (List (Item T))
  acting = list_of kind t.world.capacity

  -- The list after the moments in these events.
  abbrev list : List (Event T) → List (Item T)
  list es = now spec acting es

  -- What a finished call of the queue has published, by its answer.
  abbrev put_by : QueueStart T → Answer T → List (Item T)
  put_by start answer = published_by kind t.world.capacity start answer

  -- What a finished call of the queue has handed out, by its answer.
  abbrev out_by : QueueStart T → Answer T → List (Item T)
  out_by start answer = handed_out_in kind t.world.capacity start answer

  -- where no call is under way, the values of the list wait
  record ListAfterWhole (es : List (Event T)) : Type 0 where
    pub answered : HasAnswered spec (list es) es
    pub waits : published es ≡ handed_out es ++ list es
    pub none : t.world.capacity ≡ 0 → list es ≡ []

  -- as an owner dies the values of the list wait still
  dies : (es : List (Event T)) (owner : ℕ) → ListAfterWhole es → ListAfterWhole (es ++ Died owner ∷ [])
  dies es owner rest =
      let same = still_now spec acting es (Died owner ∷ []) refl in
      record {
        answered = mourned spec acting es owner rest.answered;
        waits = conserved es (Died owner ∷ []) (list es) (list (es ++ Died owner ∷ [])) rest.waits (append-nil (list es) ∙ sym same);
        none = λ z. same ∙ rest.none z;
      }

  module _ (p : ℕ) {start : QueueStart T} {answer : Answer T} {begun : List (Event T)} (since : List (Event T)) (none : NoneEnds since)
      (wrote : Wrote kind t.world.capacity start answer (of_parties since)) (h : ListAfterWhole begun) where
    -- The events of the whole call.
    abbrev told : List (Event T)
    told = whole_call p (starts.Queues start) since answer

    -- if the call is one that the list answers, it answers as the object does
    abbrev SaysAsList : Type 0
    SaysAsList = is_list_call (starts.Queues start) ≡ true → answer ≡ spec.object.answer (list begun) (starts.Queues start)

    abbrev LeavesList : List (Item T) → Type 0
    LeavesList new = new ≡ (if is_list_call (starts.Queues start) then acting.after (list begun) (starts.Queues start) else list begun)

    -- after a whole call that says what the object says, and leaves this list, the values of the list wait
    leaves : SaysAsList → (new : List (Item T)) → list (begun ++ told) ≡ new → LeavesList new
        → list begun ++ put_by start answer ≡ out_by start answer ++ new → (t.world.capacity ≡ 0 → new ≡ []) → ListAfterWhole (begun ++ told)
    leaves said new list_is so moves empty_without_capacity =
        record {
          answered = once_ended spec acting p (starts.Queues start) answer begun since none said (list_is ∙ so) h.answered;
          waits =
              conserved begun told (list begun) (list (begun ++ told)) h.waits
              (ap (λ (xs : List (Item T)). list begun ++ xs)
              (reads_call publishes publishes_effects p (starts.Queues start) since answer ∙ wrote.published)
              ∙ (moves
              ∙ (λ i. sym (reads_call hands_out hands_out_effects p (starts.Queues start) since answer ∙ wrote.handed_out) i ++ sym list_is i)));
          none = λ z. list_is ∙ empty_without_capacity z;
        }

    -- after a whole push or pop, which answers as it acts, the values of the list wait
    acts_so : (after : List (Event T)) → t.events ≡ (begun ++ Begun p (starts.Queues start) ∷ since) ++ Finished p (starts.Queues start) answer ∷ after
        → is_push_or_pop (starts.Queues start) ≡ true → is_list_call (starts.Queues start) ≡ true → moments_of start answer ≡ (starts.Queues start, answer) ∷ []
        → spec.object.answer (list begun) (starts.Queues start) ≡ acting.answer (list begun) (starts.Queues start) → ListAfterWhole (begun ++ told)
    acts_so after split acts is_call one same =
        let done = acted spec acting p (starts.Queues start) answer begun since t.events after kept.promised.moments split (wrote.moments ∙ one) in
        let moves = conserves kind t.world.capacity start (list begun) acts h.none in
        let new = acting.after (list begun) (starts.Queues start) in
        leaves (λ is. done.0 ∙ sym same) new done.1 (sym (ap (λ (b : Bool). if b then new else list begun) is_call))
        (subst (λ (a : Answer T). list begun ++ put_by start a ≡ out_by start a ++ new) (sym done.0) moves.0) moves.1

    -- after a whole call that moves no value, and says what the object says, the values of the list wait
    moves_none : moments_of start answer ≡ [] → put_by start answer ≡ [] → out_by start answer ≡ []
        → SaysAsList → LeavesList (list begun) → ListAfterWhole (begun ++ told)
    moves_none acts_not puts_none takes_none said so =
        leaves said (list begun) (quiet_now spec acting p (starts.Queues start) answer begun since (wrote.moments ∙ acts_not)) so
        (ap (λ (xs : List (Item T)). list begun ++ xs) puts_none
        ∙ (append-nil (list begun) ∙ sym (ap (λ (xs : List (Item T)). xs ++ list begun) takes_none))) h.none

    -- A call that tells how many values wait is right for the list, since it was right at a moment of the call, and
    -- nothing else moved the list meanwhile.
    tells_so : (say : List (Item T) → Answer T) → ((xs : List (Item T)) → out_by start (say xs) ≡ []) → put_by start answer ≡ []
        → moments_of start answer ≡ []
        → HeldSometime p (λ part. answer ≡ say (waiting part)) (begun ++ Begun p (starts.Queues start) ∷ since)
        → say (list begun) ≡ spec.object.answer (list begun) (starts.Queues start) → LeavesList (list begun) → ListAfterWhole (begun ++ told)
    tells_so say takes_none puts_none acts_not held same so =
        let out = as_begun hands_out hands_out_effects p (starts.Queues start) held.part held.rest begun since held.is held.within
        (sym (reads_same hands_out hands_out_effects since)
        ∙ (wrote.handed_out ∙ (ap (out_by start) held.held ∙ takes_none (waiting held.part)))) in
        let put = as_begun publishes publishes_effects p (starts.Queues start) held.part held.rest begun since held.is held.within
        (sym (reads_same publishes publishes_effects since) ∙ (wrote.published ∙ puts_none)) in
        let right : answer ≡ say (list begun) =
        held.held
        ∙ ap say
        ((λ i. drop (length (out i)) (put i))
        ∙ (ap (λ (xs : List (Item T)). drop (length (handed_out begun)) xs) h.waits ∙ drop-append_seam (handed_out begun) (list begun))) in
        moves_none acts_not puts_none (ap (out_by start) right ∙ takes_none (list begun)) (λ is. right ∙ same) so

  -- after each whole call the values of the list wait
  ends : (p : ℕ) (start : Start T) (answer : Answer T) (begun since after : List (Event T))
      → t.events ≡ (begun ++ Begun p start ∷ since) ++ Finished p start answer ∷ after → NoneEnds since
      → of_queue.wrote kind t.world.capacity start answer (of_parties since) → ListAfterWhole begun → ListAfterWhole (begun ++ whole_call p start since answer)
  -- the calls on roles, which move no value
  ends p (starts.Queues calls.AcquireProducer) answer begun since after at none wrote rest =
      moves_none p since none wrote rest refl refl (ap (out_by calls.AcquireProducer) (kept.promised.roles _ after _ at)) no_call refl
  ends p (starts.Queues calls.ReleaseProducer) answer begun since after at none wrote rest =
      moves_none p since none wrote rest refl refl (ap (out_by calls.ReleaseProducer) (kept.promised.roles _ after _ at).0) no_call refl
  ends p (starts.Queues calls.AcquireConsumer) answer begun since after at none wrote rest =
      moves_none p since none wrote rest refl refl (ap (out_by calls.AcquireConsumer) (kept.promised.roles _ after _ at)) no_call refl
  ends p (starts.Queues calls.ReleaseConsumer) answer begun since after at none wrote rest =
      moves_none p since none wrote rest refl refl (ap (out_by calls.ReleaseConsumer) (kept.promised.roles _ after _ at).0) no_call refl
  ends p (starts.Queues calls.HasProducer) answer begun since after at none wrote rest =
      moves_none p since none wrote rest refl refl (ap (out_by calls.HasProducer) (kept.promised.roles _ after _ at)) no_call refl
  ends p (starts.Queues calls.HasConsumer) answer begun since after at none wrote rest =
      moves_none p since none wrote rest refl refl (ap (out_by calls.HasConsumer) (kept.promised.roles _ after _ at)) no_call refl
  -- the calls that act: pushes and pops
  ends p (starts.Queues (calls.PushIndex index)) answer begun since after at none wrote rest =
      acts_so p since none wrote rest after at refl refl refl refl
  ends p (starts.Queues (calls.Push value)) answer begun since after at none wrote rest =
      acts_so p since none wrote rest after at refl refl refl refl
  ends p (starts.Queues calls.Pop) answer begun since after at none wrote rest =
      acts_so p since none wrote rest after at refl refl refl refl
  -- the calls that tell of the values that wait: the lengths, and then the peek
  ends p (starts.Queues calls.Len) answer begun since after at none wrote rest =
      tells_so p since none wrote rest (λ xs. Number (length xs)) (λ xs. refl) refl refl (kept.promised.lengths _ after _ at) refl
      (sym (first_and_counts kind t.world.capacity (list begun)).1)
  ends p (starts.Queues calls.IsEmpty) answer begun since after at none wrote h =
      tells_so p since none wrote h (λ xs. Truth (length xs == 0)) (λ xs. refl) refl refl (kept.promised.lengths _ after _ at) refl
      (sym (first_and_counts kind t.world.capacity (list begun)).2)
  ends p (starts.Queues calls.IsFull) answer begun since after at none wrote h =
      tells_so p since none wrote h (λ xs. Truth (length xs == t.world.capacity)) (λ xs. refl) refl refl
      (kept.promised.lengths _ after _ at) refl (sym (first_and_counts kind t.world.capacity (list begun)).3)
  ends p (starts.Queues calls.Peek) answer begun since after at none wrote rest =
      tells_so p since none wrote rest (λ xs. answer_of_item (slice_get xs 0)) (λ xs. refl) refl refl
      (held_now p (λ part. answer ≡ answer_of_item (slice_get (waiting part) 0)) (begun ++ Begun p (starts.Queues calls.Peek) ∷ since)
      (kept.promised.lengths _ after _ at))
      refl (sym (first_and_counts kind t.world.capacity (list begun)).4)
  -- a call of another family, which a queue does not have
  ends p start answer begun since after at none wrote rest = absurd wrote

  -- a queue whose calls run whole answers as its list
  pub list_answers : AnswersAs (whole_list kind t.world.capacity) t.events
  list_answers =
      let opened = (first_and_counts kind t.world.capacity []).0 in
      let end = rests (of_queue.promise kind) t.world.capacity (open_only kind) t.events runs kept.spans ListAfterWhole dies ends
      (record { answered = record { legal = refl; stands = refl }; waits = sym opened; none = λ z. opened }) in
      answers_then spec acting t.events end.0 end.1 end.2 end.3 end.4.answered
